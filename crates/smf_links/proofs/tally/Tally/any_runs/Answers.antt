use Rattle.std.proofs.Common.{◌∙◌, ap}
use Rattle.std.specs.List.{list_any}
use Rattle.smf_links.specs.Tallies.{runs}
use Rattle.smf_links.proofs.Counts.{any_is}
use Rattle.smf_links.proofs.tally.Tally.any_runs.Goals as goal

pub returns : goal.returns
returns c =
    any_is runs c.self.inside.entities.items c.self.inside.run c.self.invariant.running
    ∙ ap (list_any runs) c.self.view_is
