-- A snapshot's first body or its second is wrong at the start of its first wrong field.
use Rattle.std.proofs.Common.{◌≡◌, inl, inr, ℕ, ◌+◌, ◌-◌, List, ◌++◌, length, Result, Ok, Err, refl, ap, ◌∙◌, subst, arith}
use Rattle.std.proofs.lemmas.List.{length-append}
use Rattle.smf_value.specs.declared.fault.BodyFault.{BodyFault}
use Rattle.smf_value.specs.declared.fault.BodyFault.TheVariants.{Memory, BadBody}
use Rattle.smf_value.specs.Body.{AreGroups, bytes_of_groups}
use Rattle.smf_value.specs.Groups.{GroupRecord}
use Rattle.smf_value.specs.Decoder.{body_at, groups_of_body, decoded_first, result_with_place}
use Rattle.smf_snap.specs.declared.body.SnapshotBody.{SnapshotBody}
use Rattle.smf_snap.specs.Body.{both, decoded_snapshot, with_instance}
use Rattle.smf_meaning.specs.WrongParts.{AreBytes, IsBodyFault, IsSnapshotFault, IsWrongSecond}
use Rattle.smf_meaning.proofs.WrongBodies.{body_code, body_spelled, body_wrong, bytes_fit, first_wrong}

first_only : (bytes : List ℕ) (fault : BodyFault) → IsBodyFault bytes fault → IsSnapshotFault bytes fault
first_only bytes Memory w = w
first_only bytes (BadBody place) w = inl w

placed_ok : {A : Type 0} (bytes : List ℕ) (r : Result A ℕ) (x : A) → result_with_place bytes r ≡ Ok x → r ≡ Ok x
placed_ok bytes (Ok y) x e = let same : y ≡ x = cc in ap (λ z. Ok z) same
placed_ok bytes (Err n) x e = absurd cc

fault_is : (x y : BodyFault) → ◌≡◌ {A = Result SnapshotBody BodyFault} (Err x) (Err y) → x ≡ y
fault_is x y e = cc

second_by : (r : Result (List GroupRecord) BodyFault) (bytes instance : List ℕ) (service : List GroupRecord)
    (fault : BodyFault) → AreGroups service
    → bytes ≡ bytes_of_groups service ++ instance → ((e : BodyFault) → r ≡ Err e → IsBodyFault instance e)
    → with_instance (length bytes - length instance) service r ≡ Err fault → IsSnapshotFault bytes fault
second_by (Ok gs) bytes instance service fault are split wrong e = absurd cc
second_by (Err Memory) bytes instance service fault are split wrong e = absurd (wrong Memory refl)
second_by (Err (BadBody inside)) bytes instance service fault are split wrong e =
    let lengths : length bytes ≡ length (bytes_of_groups service) + length instance =
    ap length split ∙ length-append (bytes_of_groups service) instance in
    let second : IsWrongSecond bytes (length bytes - length instance + inside) = record {
      service = service;
      formed = are;
      instance = instance;
      split = split;
      inside = inside;
      wrong = wrong (BadBody inside) refl;
      place_is = omega arith;
    } in
    subst (IsSnapshotFault bytes) (fault_is (BadBody (length bytes - length instance + inside)) fault e) (inr second)

found_by : (r : Result (List GroupRecord × List ℕ) BodyFault) (bytes : List ℕ) (fault : BodyFault) → AreBytes bytes
    → decoded_first bytes ≡ r
    → both (length bytes) r ≡ Err fault → IsSnapshotFault bytes fault
unfolding decoded_first
found_by (Err first) bytes fault are h e =
    let same : first ≡ fault = cc in
    first_only bytes fault (first_wrong bytes fault are (h ∙ ap Err same))
found_by (Ok found) bytes fault are h e =
    let t = body_code.takes bytes found (bytes_fit bytes are) (placed_ok bytes (body_at bytes) found h) in
    let split : bytes ≡ bytes_of_groups found.0 ++ found.1 =
    t.split ∙ ap (λ (l : List ℕ). l ++ found.1) (body_spelled found.0) in
    second_by (groups_of_body found.1) bytes found.1 found.0 fault t.inside split
    (λ x k. body_wrong found.1 x t.rest_fits k) e

pub snapshot_fault : (bytes : List ℕ) (fault : BodyFault) → AreBytes bytes → decoded_snapshot bytes ≡ Err fault
    → IsSnapshotFault bytes fault
unfolding decoded_snapshot
snapshot_fault bytes fault are e = found_by (decoded_first bytes) bytes fault are refl e
