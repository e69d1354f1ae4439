use Rattle.std.proofs.Common.{◌∙◌, ap}
use Rattle.std.specs.List.{list_any}
use Rattle.smf_links.specs.Tallies.{is_parked_entity}
use Rattle.smf_links.proofs.Counts.{any_is}
use Rattle.smf_links.proofs.tally.Tally.any_parked.Goals as goal

pub returns : goal.returns
returns c =
    any_is is_parked_entity c.self.inside.entities.items c.self.inside.park c.self.invariant.parking
    ∙ ap (list_any is_parked_entity) c.self.view_is
