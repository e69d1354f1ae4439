use Rattle.std.proofs.Common.{◌≡◌, ℕ, List, Ok, subst}
use Rattle.std.specs.Prelude.{IfSome}
use Rattle.smf_fmri.specs.Name.{read_pattern}
use Rattle.smf_admin.proofs.Named.{full_name_is}
use Rattle.smf_admin.proofs.instances.full_name.Goals as goal

pub returns-in-Ok : goal.returns-in-Ok
returns-in-Ok c =
    let P : List ℕ → Type 0 = λ word. IfSome c.of.result (λ name. read_pattern word ≡ Ok name) in
    subst P c.as_str.ensures
    (full_name_is c.as_str.result.now c.in-Ok.name c.of.result c.in-Ok.ensures.found c.of.ensures)
