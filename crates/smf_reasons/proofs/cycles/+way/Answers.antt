use Rattle.std.proofs.Common.{◌-◌, drop, length, subst, take}
use Rattle.smf_reasons.specs.Ways.{WayOrNone}
use Rattle.smf_reasons.proofs.Ways.{first_of, known_in, met_in, no_way, none_from_in, none_of, none_to_in, wider_in}
use Rattle.smf_reasons.proofs.cycles.+way.Goals as goal

pub returns-in_default : goal.returns-in_default
returns-in_default t c =
    known_in c.args.members.now c.args.from.now c.args.to.now c.straight.result
    (none_of c.args.members.now c.in_default.len_below) c.straight.ensures

pub returns-in-Some : goal.returns-in-Some
returns-in-Some t c =
    wider_in c.args.members.now (take (length c.args.members.now - 1) (drop 1 c.args.members.now)) c.first-item.result
    c.args.from.now c.args.to.now c.in-Some.names
    (first_of c.args.members.now c.first-item.result c.in-len1-up.len_at_least c.first-item.is)
    (subst (WayOrNone (take (length c.args.members.now - 1) (drop 1 c.args.members.now)) c.args.from.now
    c.args.to.now) c.in-Some.is c.in_ok-names.ensures)

pub returns-in_default-3 : goal.returns-in_default-3
returns-in_default-3 t c =
    none_to_in c.args.members.now (take (length c.args.members.now - 1) (drop 1 c.args.members.now))
    c.first-item.result c.args.from.now c.args.to.now
    (first_of c.args.members.now c.first-item.result c.in-len1-up.len_at_least c.first-item.is)
    (no_way (take (length c.args.members.now - 1) (drop 1 c.args.members.now)) c.args.from.now c.args.to.now
    c.in_ok-names.field-0 c.in_default-2.not-Some c.in_ok-names.ensures)
    (no_way (take (length c.args.members.now - 1) (drop 1 c.args.members.now)) c.args.from.now c.first-item.result
    c.in_ok-names-2.field-0 c.in_default-3.not-Some c.in_ok-names-2.ensures)

pub returns-in_default-4 : goal.returns-in_default-4
returns-in_default-4 t c =
    none_from_in c.args.members.now (take (length c.args.members.now - 1) (drop 1 c.args.members.now))
    c.first-item.result c.args.from.now c.args.to.now
    (first_of c.args.members.now c.first-item.result c.in-len1-up.len_at_least c.first-item.is)
    (no_way (take (length c.args.members.now - 1) (drop 1 c.args.members.now)) c.args.from.now c.args.to.now
    c.in_ok-names.field-0 c.in_default-2.not-Some c.in_ok-names.ensures)
    (no_way (take (length c.args.members.now - 1) (drop 1 c.args.members.now)) c.first-item.result c.args.to.now
    c.in_ok-after.field-0 c.in_default-4.not-Some c.in_ok-after.ensures)

pub returns : goal.returns
returns t c =
    met_in c.args.members.now (take (length c.args.members.now - 1) (drop 1 c.args.members.now)) c.first-item.result
    c.args.from.now c.args.to.now c.in-Some-2.names c.in-Some-3.after c.append.new.all c.in_ok-after-2.after
    (first_of c.args.members.now c.first-item.result c.in-len1-up.len_at_least c.first-item.is)
    (subst (WayOrNone (take (length c.args.members.now - 1) (drop 1 c.args.members.now)) c.args.from.now
    c.first-item.result) c.in-Some-2.is c.in_ok-names-2.ensures)
    (subst (WayOrNone (take (length c.args.members.now - 1) (drop 1 c.args.members.now)) c.first-item.result
    c.args.to.now) c.in-Some-3.is c.in_ok-after.ensures)
    c.in_ok-after-2.ensures c.in_ok-append.ensures
