use Rattle.std.proofs.Common.{◌≡◌, List, ℕ, Option, Some, None, Result, Ok, Err, IfOk, refl, subst}
use Rattle.smf_value.specs.declared.name.Name.{Name}
use Rattle.smf_value.specs.declared.fault.NameFault.{NameFault}
use Rattle.smf_value.specs.Names.{Gives, IsNameText, name_wrong, read_by, read_name}
use Rattle.smf_value.proofs.Names.{name_is, name_reads}
use Rattle.smf_value.proofs.name.Name.parse.Goals as goal

found_by : (o : Option ℕ) (text name : List ℕ) → name_wrong text ≡ o → read_by text o ≡ Ok name
    → (name ≡ text) × IsNameText text
found_by None text name e h = (cc, name_is text e)
found_by (Some place) text name e h = cc

found : (r : Result Name NameFault) (text : List ℕ) → Gives (λ n. n) r (read_name text)
    → IfOk r (λ n. (n ≡ text) × IsNameText text)
unfolding read_name
found (Ok name) text h = found_by (name_wrong text) text name refl h
found (Err e) text h = tt

pub returns-clause-found : goal.returns-clause-found
returns-clause-found c = found c.parse_name_exact.result c.args.text.now c.parse_name_exact.ensures

reads : (r : Result Name NameFault) (text : List ℕ) → Gives (λ n. n) r (read_name text) → IsNameText text
    → Gives (λ n. n) r (Ok text)
unfolding read_name
reads r text h is = let P : Option ℕ → Type 0 = λ o. Gives (λ n. n) r (read_by text o) in subst P (name_reads text is) h

pub returns-clause-only : goal.returns-clause-only
returns-clause-only c = λ is. reads c.parse_name_exact.result c.args.text.now c.parse_name_exact.ensures is
