-- A snapshot's bytes: the service's body, and then the instance's.
use Rattle.std.specs.Prelude.{ℕ, ◌+◌, ◌-◌, List, ◌++◌, length, Result, Ok, Err}
use Rattle.smf_value.specs.declared.fault.BodyFault.{BodyFault}
use Rattle.smf_value.specs.declared.fault.BodyFault.TheVariants.{Memory, BadBody}
use Rattle.smf_value.specs.Groups.{GroupRecord}
use Rattle.smf_value.specs.Body.{AreGroups, bytes_of_groups}
use Rattle.smf_value.specs.Decoder.{groups_of_body, decoded_first}
use Rattle.smf_snap.specs.declared.body.SnapshotBody.{SnapshotBody}

abbrev pub spelled_both : List GroupRecord → List GroupRecord → List ℕ
spelled_both service instance = bytes_of_groups service ++ bytes_of_groups instance

abbrev pub spelled_snapshot : SnapshotBody → List ℕ
spelled_snapshot s = spelled_both s.service s.instance

pub record IsSnapshot (s : SnapshotBody) : Type 0 where
  pub service : AreGroups s.service
  pub instance : AreGroups s.instance

-- a fault in the second body, by its place from the start of the first
abbrev pub with_instance : ℕ → List GroupRecord → Result (List GroupRecord) BodyFault → Result SnapshotBody BodyFault
with_instance at service (Ok gs) = Ok (record { service = service; instance = gs })
with_instance at service (Err Memory) = Err Memory
with_instance at service (Err (BadBody place)) = Err (BadBody (at + place))

abbrev pub both : ℕ → Result (List GroupRecord × List ℕ) BodyFault → Result SnapshotBody BodyFault
both len (Err e) = Err e
both len (Ok found) = with_instance (len - length found.1) found.0 (groups_of_body found.1)

unfoldable pub decoded_snapshot : List ℕ → Result SnapshotBody BodyFault
decoded_snapshot bytes = both (length bytes) (decoded_first bytes)
