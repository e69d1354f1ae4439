use Rattle.std.proofs.Common.{subst, sym}
use Rattle.smf_fmri.specs.ByKey.{Rises}
use Rattle.smf_export.specs.Choices.{by_chosen}
use Rattle.smf_export.proofs.Chosen.{all_chosen, rises_chosen}
use Rattle.smf_export.proofs.choice.chosen_services.Goals as goal

pub from_vec-requires : goal.from_vec-requires
from_vec-requires c =
    subst (Rises by_chosen)
    (sym (all_chosen c.args.services.now c.loop-service.service-index c.loop-service.chosen.items
    c.loop-service-test.false c.loop-service.invariant))
    (rises_chosen c.args.services.now c.requires)
