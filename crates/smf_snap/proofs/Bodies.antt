-- A snapshot's two bodies.
use Rattle.std.proofs.Common.{◌≡◌, ℕ, ◌-◌, List, ◌++◌, length, drop, Result, Ok, Err, IfOk, refl, ap, ◌∙◌, subst}
use Rattle.smf_value.specs.declared.fault.BodyFault.{BodyFault}
use Rattle.smf_value.specs.declared.fault.BodyFault.TheVariants.{Memory, BadBody}
use Rattle.smf_value.specs.Groups.{GroupRecord}
use Rattle.smf_value.specs.Body.{bytes_of_groups}
use Rattle.smf_value.specs.Decoder.{Gives, groups_of_body, decoded_first}
use Rattle.smf_value.proofs.Fields.{IsBytes, IsBytes-drop}
use Rattle.smf_value.proofs.Wholes.{all_takes, first_takes, first_again, whole_again}
use Rattle.std.proofs.lemmas.List.{drop_at}
use Rattle.smf_snap.specs.declared.body.SnapshotBody.{SnapshotBody}
use Rattle.smf_snap.specs.Body.{IsSnapshot, spelled_snapshot, with_instance, both, decoded_snapshot}

rest_fits : (bytes front rest : List ℕ) → bytes ≡ front ++ rest → IsBytes bytes → IsBytes rest
rest_fits bytes front rest e fits =
    subst IsBytes (ap (λ (l : List ℕ). drop (length front) l) e ∙ drop_at front rest (length front) refl)
    (IsBytes-drop (length front) bytes fits)

abbrev given : SnapshotBody → Result SnapshotBody BodyFault
given s = Ok s

instance_ok : (at : ℕ) (service : List GroupRecord) (r : Result (List GroupRecord) BodyFault) (s : SnapshotBody)
    → with_instance at service r ≡ Ok s → (gs : List GroupRecord) × (r ≡ Ok gs)
    × (let x : SnapshotBody = record { service = service; instance = gs } in x ≡ s)
instance_ok at service (Ok gs) s e = (gs, refl, same _ _ e)
  where
    same : (x y : SnapshotBody) → given x ≡ given y → x ≡ y
    same x y e = cc
instance_ok at service (Err Memory) s e = absurd cc
instance_ok at service (Err (BadBody p)) s e = absurd cc

both_takes : (bytes : List ℕ) (r : Result (List GroupRecord × List ℕ) BodyFault) (s : SnapshotBody) → IsBytes bytes
    → decoded_first bytes ≡ r → both (length bytes) r ≡ Ok s → IsSnapshot s × (bytes ≡ spelled_snapshot s)
both_takes bytes (Err e) s fits h k = absurd cc
both_takes bytes (Ok found) s fits h k =
    let first = first_takes bytes found fits h in
    let i = instance_ok (length bytes - length found.1) found.0 (groups_of_body found.1) s k in
    let second = all_takes found.1 i.0 (rest_fits bytes (bytes_of_groups found.0) found.1 first.1 fits) i.1 in
    let P : SnapshotBody → Type 0 = λ x. IsSnapshot x × (bytes ≡ spelled_snapshot x) in
    subst P i.2 (
      record { service = first.0; instance = second.0 },
      first.1
          ∙ ap (λ (l : List ℕ). bytes_of_groups found.0 ++ l) second.1,
    )

pub snapshot_takes : (bytes : List ℕ) (s : SnapshotBody) → IsBytes bytes → decoded_snapshot bytes ≡ Ok s
    → IsSnapshot s × (bytes ≡ spelled_snapshot s)
unfolding decoded_snapshot
snapshot_takes bytes s fits e = both_takes bytes (decoded_first bytes) s fits refl e

pub snapshot_again : (s : SnapshotBody) → IsSnapshot s → decoded_snapshot (spelled_snapshot s) ≡ Ok s
unfolding decoded_snapshot
snapshot_again s is =
    rw (first_again s.service (bytes_of_groups s.instance) is.service, whole_again s.instance is.instance) refl

pub is_found : (bytes : List ℕ) (r : Result SnapshotBody BodyFault) → IsBytes bytes
    → Gives {X = SnapshotBody} (λ s. s) r (decoded_snapshot bytes)
    → IfOk r (λ s. IsSnapshot s × (bytes ≡ spelled_snapshot s))
is_found bytes (Ok s) fits given = snapshot_takes bytes s fits given
is_found bytes (Err e) fits given = tt
