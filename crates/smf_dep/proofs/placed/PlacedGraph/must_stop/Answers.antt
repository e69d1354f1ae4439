use Rattle.std.proofs.Common.{◌∙◌, ap}
use Rattle.smf_dep.specs.Places.{link_of, link_stops}
use Rattle.smf_dep.specs.Verdicts.{must_stop}
use Rattle.smf_dep.proofs.Looked.{link_stops_is}
use Rattle.smf_dep.proofs.placed.PlacedGraph.must_stop.Goals as goal

pub returns : goal.returns
returns c =
    let d = c.args.dependency.now in
    let members = c.self.inside.members.items in
    let link = c.in_ok-link.ensures ∙ ap (λ ms. link_of ms d) (c.by-names.ensures ∙ c.as_slice-2.ensures.value) in
    c.link_stops.ensures ∙ (λ i. link_stops (c.as_slice-3.ensures.value i) c.args.base (link i))
    ∙ link_stops_is members c.args.base d ∙ ap (λ ms. must_stop ms d c.args.base) c.self.view_is
