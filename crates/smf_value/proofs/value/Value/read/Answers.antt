use Rattle.std.proofs.Common.{List, ℕ, Result, Ok, Err, IfOk, subst, ◌∙◌, ap, sym}
use Rattle.smf_value.specs.declared.fault.ValueFault.{ValueFault}
use Rattle.smf_value.specs.declared.kind.Kind.{Kind}
use Rattle.smf_value.specs.declared.value.Value.{Value}
use Rattle.smf_value.specs.ValueTexts.{Gives, read_value}
use Rattle.smf_value.proofs.ValueReads.{IsReadAs, value_read, spelled_reads}
use Rattle.smf_value.proofs.value.Value.read.Goals as goal

found : (kind : Kind) (text : List ℕ) (r : Result Value ValueFault)
    → Gives {X = Value} (λ v. v) r (read_value kind text) → IfOk r (IsReadAs kind text)
found kind text (Ok v) given = value_read kind text v given
found kind text (Err e) given = tt

pub returns-clause-found : goal.returns-clause-found
returns-clause-found c = found c.args.kind c.args.text.now c.value_of.result c.value_of.ensures

pub returns-clause-only : goal.returns-clause-only
returns-clause-only c = λ v k h.
    let P : Result Value ValueFault → Type 0 = λ f. Gives {X = Value} (λ w. w) c.value_of.result f in
    subst P (ap (λ (kind : Kind). read_value kind c.args.text.now) (sym k) ∙ spelled_reads v c.args.text.now h)
    c.value_of.ensures
