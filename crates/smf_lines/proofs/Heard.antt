-- The effect of a look on the counts of a reader's reads.
use Rattle.std.proofs.Common.{◌≡◌, ℕ, ◌+◌, Bool, Result, Ok, ap, ◌∙◌, arith}
use Rattle.smf_lines.specs.declared.fault.ReadFault.{ReadFault}
use Rattle.smf_lines.specs.declared.lines.Part.{Part}
use Rattle.smf_lines.specs.Faults.{count_after, failed_in, interrupted_by, interrupted_in}

counted_more : (base k n now before after : ℕ) → after ≡ count_after before n → now ≡ k + n
    → before ≡ count_after base k → after ≡ count_after base now
counted_more base k n now before after e more at = omega (arith, e, more, at)

pub heard : (r : Result Part ReadFault) (part is : Part) (k now before after : ℕ) → part ≡ is → r ≡ Ok part
    → after ≡ count_after before (interrupted_in r) → now ≡ k + interrupted_by is
    → (base : ℕ) → before ≡ count_after base k → after ≡ count_after base now
heard r part is k now before after same ok e more base at =
    counted_more base k (interrupted_by is) now before after
    (e ∙ ap (λ x. count_after before (interrupted_in x)) ok
    ∙ ap (λ p. count_after before (interrupted_by p)) same) more at

pub no_failure : {T : Type 0} (r : Result T ReadFault) (v : T) (before after first : Bool) → r ≡ Ok v
    → after ≡ failed_in r before → before ≡ first → after ≡ first
no_failure r v before after first is e same = e ∙ ap (λ x. failed_in x before) is ∙ same
