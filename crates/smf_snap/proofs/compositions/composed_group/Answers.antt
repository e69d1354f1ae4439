use Rattle.std.proofs.Common.{◌∙◌}
use Rattle.smf_snap.proofs.ByName.{its_own, its_services, listed}
use Rattle.smf_snap.proofs.compositions.composed_group.Goals as goal

pub returns-clause-own : goal.returns-clause-own
returns-clause-own c = λ g e. c.find_composed.ensures
    ∙ its_own c.args.instance.now c.args.service.now c.args.name.now g e

pub returns-clause-services_own : goal.returns-clause-services_own
returns-clause-services_own c = λ e. c.find_composed.ensures
    ∙ its_services c.args.instance.now c.args.service.now c.args.name.now e

pub returns-clause-listed : goal.returns-clause-listed
returns-clause-listed c = c.find_composed.ensures
    ∙ listed c.args.instance.now c.args.service.now c.args.name.now c.as_slice-groups.ensures.rises
