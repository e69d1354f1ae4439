-- Which processes are left of children.
use Rattle.std.specs.Prelude.{List, Bool, false, ◌&&◌, ◌||◌, ◌==◌, nat_lt, if◌then◌else◌, filter}
use Rattle.std.specs.List.{list_any}
use Rattle.smf_sweep.specs.declared.child.Child.{Child}
use Rattle.smf_sweep.specs.declared.process.Process.{Process}

abbrev pub has_number : Child → Process → Bool
has_number child process = process.number == child.number

-- the number was not given again since
abbrev pub is_child : Child → Process → Bool
is_child child process = process.number == child.number && process.start == child.start

abbrev pub is_marked : Child → Process → Bool
is_marked child process = process.session == child.number && process.is_method

-- the session of this number is the child's: no number is given again as long as a session has it
abbrev pub is_held : List Process → Child → Bool
is_held processes child =
    if list_any (has_number child) processes then list_any (is_child child) processes
    else list_any (is_marked child) processes

abbrev pub is_member : List Process → Process → Child → Bool
is_member processes process child = process.session == child.number && is_held processes child

-- a process that has ended is not left; no group of a session has a number below 2
abbrev pub is_left : List Child → List Process → Process → Bool
is_left children processes process =
    if process.has_ended || nat_lt process.group 2 then false else list_any (is_member processes process) children

abbrev pub left_of : List Child → List Process → List Process
left_of children processes = filter (is_left children processes) processes
