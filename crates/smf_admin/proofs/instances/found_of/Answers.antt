use Rattle.std.proofs.Common.{◌≡◌, Ok, subst}
use Rattle.std.specs.Option.{option_copied}
use Rattle.std.specs.Prelude.{IfOk}
use Rattle.smf_fmri.specs.Name.{read_pattern}
use Rattle.smf_admin.specs.declared.instances.Found.{Found}
use Rattle.smf_admin.proofs.Named.{found_is}
use Rattle.smf_admin.proofs.instances.found_of.Goals as goal

pub returns-in-Some : goal.returns-in-Some
returns-in-Some c =
    let reads : read_pattern c.args.word.now ≡ Ok c.in-Some.name = rw c.in-Some.is at c.in_ok-name.ensures in
    let P : Found → Type 0 = λ a. IfOk c.found_at.result (λ one. one ≡ a) in
    subst P (found_is c.args.view.now.items c.args.word.now c.in-Some.name
    (option_copied c.match_of.result) reads c.match_of.ensures) c.found_at.ensures
