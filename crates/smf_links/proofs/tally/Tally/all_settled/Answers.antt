use Rattle.std.proofs.Common.{◌≡◌, ◌∙◌, ap, length, arith}
use Rattle.std.specs.List.{list_all}
use Rattle.smf_links.specs.Tallies.{is_settled_entity}
use Rattle.smf_links.proofs.Counts.{all_is}
use Rattle.smf_links.proofs.tally.Tally.all_settled.Goals as goal

pub returns : goal.returns
returns c =
    let len : c.len.result ≡ length c.self.inside.entities.items = omega arith in
    all_is is_settled_entity c.self.inside.entities.items c.self.inside.settle c.len.result c.self.invariant.settling
    len ∙ ap (list_all is_settled_entity) c.self.view_is
