use Rattle.std.proofs.Common.{◌≡◌, List, ℕ, Result, Ok, Err, IfOk, ap, subst, ◌∙◌, arith}
use Rattle.smf_value.specs.declared.fault.BodyFault.{BodyFault}
use Rattle.smf_value.specs.Groups.{GroupRecord}
use Rattle.smf_value.specs.Body.{AreGroups, bytes_of_groups}
use Rattle.smf_value.specs.Decoder.{Gives, groups_of_body}
use Rattle.smf_value.proofs.Fields.{IsBytes}
use Rattle.smf_value.proofs.Wholes.{all_takes, whole_again}
use Rattle.smf_value.proofs.decoder.decode.Goals as goal

found : (bytes : List ℕ) (r : Result (List GroupRecord) BodyFault) → IsBytes bytes
    → Gives {X = List GroupRecord} (λ x. x) r (groups_of_body bytes)
    → IfOk r (λ gs. AreGroups gs × (bytes ≡ bytes_of_groups gs))
found bytes (Ok gs) fits given = all_takes bytes gs fits given
found bytes (Err e) fits given = tt

pub returns-clause-found : goal.returns-clause-found
returns-clause-found c =
    found c.args.bytes.now c.decode_exact.result (λ i. omega (arith, c.type_inv.bytes i)) c.decode_exact.ensures.exact

pub returns-clause-only : goal.returns-clause-only
returns-clause-only c = λ gs is e. let P : Result (List GroupRecord) BodyFault → Type 0 =
    λ f. Gives {X = List GroupRecord} (λ x. x) c.decode_exact.result f in
    subst P (ap groups_of_body e ∙ whole_again gs is) c.decode_exact.ensures.exact
