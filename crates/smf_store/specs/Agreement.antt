-- The agreement among the tables of a store that opens.
use Rattle.std.specs.Prelude.{◌≡◌, ◌≤◌, ℕ, Some}
use Rattle.smf_model.specs.declared.held.Instance.{Instance}
use Rattle.smf_model.specs.declared.held.Snapshot.{Snapshot}
use Rattle.smf_model.specs.Contents.{Holdings}
use Rattle.smf_model.specs.Look.{instance, launch_of, snapshot}

-- an instance names a snapshot
pub data Names (i : Instance) (n : ℕ) : Type 0 where
  start : i.start ≡ Some n → Names i n
  previous : i.previous ≡ Some n → Names i n
  running : i.row.running ≡ Some n → Names i n
  begun : i.row.begun ≡ Some n → Names i n

-- each snapshot that an instance names is there, and is of this instance
pub record NameOwn (h : Holdings) : Type 0 where
  pub own : (k : ℕ) (i : Instance) → instance h k ≡ Some i → (n : ℕ) → Names i n
      → (s : Snapshot) × (snapshot h n ≡ Some s) × (s.instance ≡ i.number)

-- the launch of a row is not past the last of its restarter
pub record AreLaunched (h : Holdings) : Type 0 where
  pub launched : (k : ℕ) (i : Instance) → instance h k ≡ Some i → i.row.launch ≤ launch_of h i.row.owner

-- a row with the number 0 keeps no launch; an open does not judge this
abbrev pub AreUnlaunched : Holdings → Type 0
AreUnlaunched h = (n : ℕ) (i : Instance) → instance h n ≡ Some i → i.row.number ≡ 0 → i.row.launch ≡ 0
