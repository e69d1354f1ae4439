-- The names of an instance's snapshots.
use Rattle.std.specs.Prelude.{ℕ, List, [], ◌∷◌, ◌++◌, nat_eq, codes, Option, Some, None, if◌then◌else◌}
use Rattle.std.specs.Cmp.Lexicographic.{pointwise}
use Rattle.smf_snap.specs.declared.name.SnapshotName.{SnapshotName}
use Rattle.smf_snap.specs.declared.name.SnapshotName.TheVariants.{Previous, Running, Start}

abbrev pub name_text : SnapshotName → List ℕ
name_text Previous = codes "previous"
name_text Running = codes "running"
name_text Start = codes "start"

abbrev pub name_from : List ℕ → Option SnapshotName
name_from text =
    if pointwise nat_eq text (codes "previous") then Some Previous
    else if pointwise nat_eq text (codes "running") then Some Running
    else if pointwise nat_eq text (codes "start") then Some Start
    else None

abbrev pub present : {A : Type 0} → Option A → SnapshotName → List SnapshotName
present (Some n) name = name ∷ []
present None name = []

-- those that are there, in the order of their bytes
abbrev pub names : Option ℕ → Option ℕ → Option ℕ → List SnapshotName
names previous running start = (present previous Previous ++ present running Running) ++ present start Start
