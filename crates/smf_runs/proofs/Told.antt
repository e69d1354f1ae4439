-- The text about a database that is not opened.
use Rattle.std.proofs.Common.{◌≡◌, inl, ℕ, ℤ, List, Option, sym, subst}
use Rattle.std_io.specs.declared.io.error.Error.{Error}
use Rattle.smf_lines.specs.Told.{IsTold}
use Rattle.smf_runs.specs.FaultTexts.{IsOpenTold, version_text}
use Rattle.smf_store.specs.declared.refusal.OpenFault.{OpenFault}
use Rattle.smf_store.specs.declared.refusal.OpenFault.TheVariants.{Version}

pub told_version : (fails : Error → Type 0) (old new : Option (List ℕ)) (said : List ℕ) (n : ℤ)
    → said ≡ version_text n → IsTold fails old new said → IsOpenTold fails old new (Version n)
told_version fails old new said n is told = inl (subst (λ (text : List ℕ). IsTold fails old new text) is told)

pub told_of : (fails : Error → Type 0) (old new : Option (List ℕ)) (fault found : OpenFault) → found ≡ fault
    → IsOpenTold fails old new fault → IsOpenTold fails old new found
told_of fails old new fault found is told = subst (λ (f : OpenFault). IsOpenTold fails old new f) (sym is) told
