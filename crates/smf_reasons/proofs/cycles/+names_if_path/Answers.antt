use Rattle.std.proofs.Common.{◌≡◌, get_or, rules, subst, true}
use Rattle.smf_dep.specs.Cycles.{cites}
use Rattle.smf_reasons.specs.Ways.{IfWay}
use Rattle.smf_reasons.proofs.Ways.{longer}
use Rattle.smf_reasons.proofs.cycles.+names_if_path.Goals as goal

pub returns : goal.returns
returns t c =
    let so : cites c.args.from.now c.in-Some.next.now ≡ true = search rules in
    longer c.args.members.now c.args.from.now c.in-Some.next.now c.args.to.now
    (get_or c.args.places.now 0 0) c.in-Some-2.names c.in_ok-names-2.names
    c.in-Some.ensures.lookup.3.0 c.in-Some.ensures.lookup.1 so
    (subst (IfWay c.args.members.now c.in-Some.next.now c.args.to.now) c.in-Some-2.is c.in_ok-names.ensures)
    c.in_ok-names-2.ensures
