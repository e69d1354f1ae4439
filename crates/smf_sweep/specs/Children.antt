-- The list of children: a line for each, with the number of its session, when its first process was started, and the
-- boot.
use Rattle.std.specs.Prelude.{ℕ, List, [], nat_eq, nat_lt, if◌then◌else◌, Option, Some, None}
use Rattle.std.specs.Cmp.Lexicographic.{pointwise}
use Rattle.std.specs.List.{filter_map}
use Rattle.std.specs.Str.Lines.{lines}
use Rattle.smf_fmri.specs.Counts.{read_count}
use Rattle.smf_state.specs.Fields.{split_field}
use Rattle.smf_sweep.specs.declared.child.Child.{Child}

-- the numbers 0 and 1 are no child's
abbrev pub child_of : Option ℕ → Option ℕ → Option Child
child_of None start = None
child_of (Some number) None = None
child_of (Some number) (Some start) = if nat_lt number 2 then None else Some (record { number = number; start = start })

-- a child, if its line ends with this boot
abbrev pub with_boot : List ℕ → Option (List ℕ) → Option Child → Option Child
with_boot boot None child = None
with_boot boot (Some told) child = if pointwise nat_eq told boot then child else None

-- the child of a number, by what its line says after that: when it was started, and the boot
abbrev pub child_by_rest : List ℕ → Option ℕ → Option (List ℕ) → Option Child
child_by_rest boot number None = None
child_by_rest boot number (Some rest) =
    with_boot boot (split_field rest).1 (child_of number (read_count (split_field rest).0))

-- the child that a line names
abbrev pub read_child : List ℕ → List ℕ → Option Child
read_child boot line = child_by_rest boot (read_count (split_field line).0) (split_field line).1

-- the children that a text names; no list is there, and there are none
abbrev pub children_of : List ℕ → Option (List ℕ) → List Child
children_of boot None = []
children_of boot (Some text) = filter_map (read_child boot) (lines text)
