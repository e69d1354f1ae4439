use Rattle.std.proofs.Common.{◌≡◌, ◌∙◌, ap, length, arith}
use Rattle.std.specs.List.{list_all}
use Rattle.smf_links.specs.Tallies.{runs}
use Rattle.smf_links.proofs.Counts.{all_is}
use Rattle.smf_links.proofs.tally.Tally.all_run.Goals as goal

pub returns : goal.returns
returns c =
    let len : c.len.result ≡ length c.self.inside.entities.items = omega arith in
    all_is runs c.self.inside.entities.items c.self.inside.run c.len.result c.self.invariant.running len
    ∙ ap (list_all runs) c.self.view_is
