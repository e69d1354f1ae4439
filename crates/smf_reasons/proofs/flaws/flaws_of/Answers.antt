use Rattle.std.proofs.Common.{◌++◌, ◌∙◌, ap}
use Rattle.smf_reasons.specs.Flaws.{of_item}
use Rattle.smf_reasons.proofs.Flawed.{are_flaws}
use Rattle.smf_reasons.proofs.Reasoned.{member_is}
use Rattle.smf_reasons.proofs.flaws.flaws_of.Goals as goal

pub returns : goal.returns
returns c =
    let ms = c.args.present.now in
    let same = member_is c.args.view.now.items ms c.args.place c.in-Some.member.now c.args.item.now c.requires.shown
    c.in-Some.ensures.lookup.3.0 c.in-Some.ensures.lookup.1 c.requires.place in
    are_flaws c.args.view.now c.args.item.now ms c.in-Some.member.now c.in_ok-cycle.cycle c.put_item.new.all
    c.put_configured.new.all c.put_cycle.new.all
    c.requires.shown same c.in_ok-cycle.ensures
    (c.in_ok-put_item.ensures ∙ ap (λ l. l ++ of_item c.args.item.now) c.new-all.ensures)
    c.in_ok-put_configured.ensures c.in_ok-put_cycle.ensures
