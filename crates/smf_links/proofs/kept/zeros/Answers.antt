use Rattle.smf_links.proofs.FlagChanges.{zeros_are}
use Rattle.smf_links.proofs.kept.zeros.Goals as goal

pub returns-clause-none : goal.returns-clause-none
returns-clause-none c =
    zeros_are c.in_ok-stamps.stamps.items c.args.count (c.in_ok-stamps.ensures.items_if_clones_equal (λ y e. e))
