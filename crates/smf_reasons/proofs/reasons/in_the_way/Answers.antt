use Rattle.std.proofs.Common.{◌++◌, ◌∙◌, ap}
use Rattle.smf_reasons.specs.Reasons.{of_row}
use Rattle.smf_reasons.proofs.Reasoned.{in_way, member_is}
use Rattle.smf_reasons.proofs.reasons.in_the_way.Goals as goal

pub returns : goal.returns
returns c =
    let ms = c.as_slice-members.result.now in
    let shown = c.as_slice-members.ensures ∙ c.requires.sight.shown in
    let same = member_is c.args.view.now.items ms c.args.place c.in-Some.member.now c.args.item.now shown
    c.in-Some.ensures.lookup.3.0 c.in-Some.ensures.lookup.1 c.requires.place in
    in_way c.args.view.now c.args.item.now c.args.sight.now.engine ms c.in-Some.member.now c.in_ok-cycle.cycle
    c.put_row.new.all c.put_member.new.all c.put_cycle.new.all
    c.requires.sight.holds shown same c.in_ok-cycle.ensures
    (c.in_ok-put_row.ensures ∙ ap (λ l. l ++ of_row c.args.sight.now.engine c.args.item.now) c.new-all.ensures)
    c.in_ok-put_member.ensures c.in_ok-put_cycle.ensures
