use Rattle.std.proofs.Common.{◌∙◌, ap}
use Rattle.std.specs.List.{position}
use Rattle.smf_fmri.specs.ByKey.{has_key}
use Rattle.smf_dep.specs.Departures.{shown}
use Rattle.smf_dep.specs.Members.{by_member}
use Rattle.smf_dep.proofs.Rolled.{place_of_number}
use Rattle.smf_dep.proofs.graph.Graph.place_of.Goals as goal

pub returns : goal.returns
returns c =
    let inside = c.self.inside in
    c.place_of_number.ensures
    ∙ place_of_number c.args.instance (shown inside.roll.gone inside.placed) inside.roll.numbers c.self.invariant.there
    ∙ ap (position (has_key by_member c.args.instance)) c.self.view_is
