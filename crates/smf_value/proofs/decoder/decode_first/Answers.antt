use Rattle.std.proofs.Common.{◌≡◌, ◌++◌, List, ℕ, Result, Ok, Err, IfOk, ap, subst, ◌∙◌, arith}
use Rattle.std.specs.Borrow.{Bor}
use Rattle.smf_value.specs.declared.fault.BodyFault.{BodyFault}
use Rattle.smf_value.specs.Groups.{GroupRecord}
use Rattle.smf_value.specs.Body.{AreGroups, bytes_of_groups}
use Rattle.smf_value.specs.Decoder.{Gives, decoded_first}
use Rattle.smf_value.proofs.Fields.{IsBytes}
use Rattle.smf_value.proofs.Wholes.{first_takes, first_again}
use Rattle.smf_value.proofs.decoder.decode_first.Goals as goal

abbrev Found : Type 0
Found = List GroupRecord × Bor (List ℕ)

abbrev seen : Found → List GroupRecord × List ℕ
seen x = (x.0, x.1.now)

found : (bytes : List ℕ) (r : Result Found BodyFault) → IsBytes bytes → Gives seen r (decoded_first bytes)
    → IfOk r (λ x. AreGroups x.0 × (bytes ≡ bytes_of_groups x.0 ++ x.1.now))
found bytes (Ok x) fits given = first_takes bytes (x.0, x.1.now) fits given
found bytes (Err e) fits given = tt

pub returns-clause-found : goal.returns-clause-found
returns-clause-found c =
    found c.args.bytes.now c.decode_first_exact.result
    (λ i. omega (arith, c.type_inv.bytes i)) c.decode_first_exact.ensures

pub returns-clause-only : goal.returns-clause-only
returns-clause-only c = λ gs rest is e. let P : Result (List GroupRecord × List ℕ) BodyFault → Type 0 =
    λ f. Gives seen c.decode_first_exact.result f in
    subst P (ap decoded_first e ∙ first_again gs rest is) c.decode_first_exact.ensures
