use Rattle.std.proofs.Common.{◌≡◌, ◌∙◌, ◌++◌, ◌∷◌, Some, sym, rules}
use Rattle.smf_fmri.specs.Patterns.{read_short, service_of}
use Rattle.smf_fmri.specs.Name.{short}
use Rattle.smf_fmri.proofs.Short.{short_is_name}
use Rattle.smf_store.proofs.additions.name_of_parts.Goals as goal

pub returns-clause-split : goal.returns-clause-split
returns-clause-split c =
    let read : read_short c.deref.result.now ≡ Some c.in-Some.name = search rules in
    let same = (short_is_name c.deref.result.now c.in-Some.name read).0 in
    let whole : c.deref.result.now ≡ c.args.front.now ++ 58 ∷ c.args.behind.now = search rules in
    let service : c.args.front.now ≡ short ++ service_of c.in-Some.name = search rules in
    record { service = service; joined = sym same ∙ whole }
