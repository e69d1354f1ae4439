use Rattle.std.proofs.Common.{◌≡◌, ◌∙◌, ap, length, arith}
use Rattle.std.specs.List.{list_all}
use Rattle.smf_links.specs.Tallies.{off}
use Rattle.smf_links.proofs.Counts.{all_is}
use Rattle.smf_links.proofs.tally.Tally.all_off.Goals as goal

pub returns : goal.returns
returns c =
    let len : c.len.result ≡ length c.self.inside.entities.items = omega arith in
    all_is off c.self.inside.entities.items c.self.inside.off c.len.result c.self.invariant.offs len
    ∙ ap (list_all off) c.self.view_is
