-- The instances that are not at rest, and what is kept of them.
use Rattle.std.specs.Prelude.{◌≡◌, ◌+◌, ◌≤◌, ℕ, not, List, [], ◌∷◌, map, filter, Bool, true, false, Option, Some, None}
use Rattle.std.specs.Ordering.{is_eq, nat_cmp}
use Rattle.smf_fmri.specs.ByKey.{By, Rises, WithRoom, by_number, lookup, list_with_item, without}
use Rattle.smf_restarter.specs.declared.known.KnownInstance.{KnownInstance}
use Rattle.smf_restarter.specs.declared.known.KnownRun.{KnownRun}
use Rattle.smf_restarter.specs.Knowledge.{Knowledge, at_first, by_instance, by_run}
use Rattle.smf_restarter.specs.Ticks.{rests}

-- instances and runs stand in the order of their keys
abbrev pub IsOrdered : Knowledge → Type 0
IsOrdered k = Rises by_instance k.instances × Rises by_run k.runs

-- the instances that are not at rest, by number
unfoldable pub restless : Knowledge → List ℕ
restless k = map (λ i. i.instance) (filter (λ i. not (rests k i)) k.instances)

abbrev pub has_none : List ℕ → Bool
has_none [] = true
has_none (n ∷ ns) = false

-- ---- what is kept of them

abbrev pub by_itself : By ℕ ℕ
by_itself = by_number (λ n. n)

-- runs alone, by which it is judged whether an instance rests
abbrev pub among : List KnownRun → Knowledge
among rs = record (at_first [] 0 0) { runs = rs }

abbrev pub restless_if : Bool → ℕ → Option ℕ
restless_if true n = None
restless_if false n = Some n

-- the number of an instance that is not at rest
unfoldable pub restless_number : List KnownRun → Option KnownInstance → Option ℕ
restless_number rs None = None
restless_number rs (Some i) = restless_if (rests (among rs) i) i.instance

-- a number is noted, or it is taken out
abbrev pub numbers_after_note : Option ℕ → ℕ → List ℕ → List ℕ
numbers_after_note None n ns = without by_itself n ns
numbers_after_note (Some m) n ns = list_with_item by_itself m ns

-- the numbers are those of the instances that are not at rest
abbrev pub IsWatched : List ℕ → List KnownInstance → List KnownRun → Type 0
IsWatched ns is rs = (n : ℕ) → lookup by_itself ns n ≡ restless_number rs (lookup by_instance is n)

-- but that one instance is to be judged again
abbrev pub IsWatchedBut : ℕ → List ℕ → List KnownInstance → List KnownRun → Type 0
IsWatchedBut m ns is rs = (n : ℕ) → is_eq (nat_cmp m n) ≡ false
    → lookup by_itself ns n ≡ restless_number rs (lookup by_instance is n)

-- the lists are watched, and have room for so many more instances and runs, and to note the instances that these touch
pub record IsRestarter (k : Knowledge) (ns : WithRoom ℕ) (is : WithRoom KnownInstance) (rs : WithRoom KnownRun)
    (instances runs : ℕ) : Type 0 where
  pub watched : IsWatched ns.items is.items rs.items
  pub instances_room : instances ≤ is.room
  pub runs_room : runs ≤ rs.room
  pub touched_room : instances + runs + runs ≤ ns.room
