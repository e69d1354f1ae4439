use Rattle.std.proofs.Common.{◌≡◌, [], Option, subst, arith}
use Rattle.std.specs.Prelude.{IfSome}
use Rattle.std.proofs.lemmas.Grind.{common_steps}
use Rattle.std.proofs.lemmas.List.{nil_from_length}
use Rattle.smf_dep.specs.declared.relink.PlacedMember.{PlacedMember}
use Rattle.smf_dep.specs.Departures.{IsDeparture}
use Rattle.smf_dep.proofs.ChangeSteps.{ready_placed}
use Rattle.smf_dep.proofs.Leaving.{put_absent, put_departed}
use Rattle.smf_dep.proofs.change.MemberChanges.take_departure.Goals as goal

pub returns-in_ok-push-in-None-clause-put : goal.returns-in_ok-push-in-None-clause-put
returns-in_ok-push-in-None-clause-put c =
    let none : c.args.self.now.arrivals.items ≡ [] =
    nil_from_length c.args.self.now.arrivals.items (grind (arith, common_steps)) in
    λ t. put_absent c.args.instance c.args.self.now.placed.items c.args.self.now.arrivals.items c.args.members.now
    c.requires.ready.named none (c.in_ok-departure_for.ensures.none c.in-None.is)

pub returns-in_ok-push-in-Some-2-clause-ready : goal.returns-in_ok-push-in-Some-2-clause-ready
returns-in_ok-push-in-Some-2-clause-ready c =
    let P : Option PlacedMember → Type 0 = λ o. IfSome o
    (λ p. IsDeparture c.args.instance p.member c.args.members.now p.place) in
    let departure = subst P c.in-Some.is c.in_ok-departure_for.ensures.some in
    let none : c.args.self.now.arrivals.items ≡ [] =
    nil_from_length c.args.self.now.arrivals.items (grind (arith, common_steps)) in
    λ t. ready_placed c.args.self.now.placed.items c.push-in-Some.new.self.items c.in-Some.placed
    c.args.self.now.arrivals.items c.args.members.now c.requires.ready none c.in_ok-push-in-Some.ensures.items
    departure.named

pub returns-in_ok-push-in-Some-2-clause-put : goal.returns-in_ok-push-in-Some-2-clause-put
returns-in_ok-push-in-Some-2-clause-put c =
    let P : Option PlacedMember → Type 0 = λ o. IfSome o
    (λ p. IsDeparture c.args.instance p.member c.args.members.now p.place) in
    let departure = subst P c.in-Some.is c.in_ok-departure_for.ensures.some in
    let none : c.args.self.now.arrivals.items ≡ [] =
    nil_from_length c.args.self.now.arrivals.items (grind (arith, common_steps)) in
    λ t. put_departed c.args.instance c.args.self.now.placed.items c.push-in-Some.new.self.items c.in-Some.placed
    c.args.self.now.arrivals.items c.args.members.now c.requires.rises c.requires.ready.named none
    c.in_ok-push-in-Some.ensures.items departure
