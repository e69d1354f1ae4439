use Rattle.std.proofs.Common.{◌∙◌, Result, ap, subst, arith}
use Rattle.smf_value.specs.declared.fault.BodyFault.{BodyFault}
use Rattle.smf_value.specs.Decoder.{Gives}
use Rattle.smf_snap.specs.declared.body.SnapshotBody.{SnapshotBody}
use Rattle.smf_snap.specs.Body.{decoded_snapshot}
use Rattle.smf_snap.proofs.Bodies.{is_found, snapshot_again}
use Rattle.smf_snap.proofs.body.decode_snapshot.Goals as goal

pub returns-clause-found : goal.returns-clause-found
returns-clause-found c =
    is_found c.args.bytes.now c.decode_snapshot_exact.result
    (λ i. omega (arith, c.type_inv.bytes i)) c.decode_snapshot_exact.ensures

pub returns-clause-only : goal.returns-clause-only
returns-clause-only c = λ s is e. let P : Result SnapshotBody BodyFault → Type 0 =
    λ f. Gives {X = SnapshotBody} (λ x. x) c.decode_snapshot_exact.result f in
    subst P (ap decoded_snapshot e ∙ snapshot_again s is) c.decode_snapshot_exact.ensures
