use Rattle.std.proofs.Common.{◌≡◌, List, [], Option, subst, arith}
use Rattle.std.specs.Prelude.{IfSome}
use Rattle.std.proofs.lemmas.Grind.{common_steps}
use Rattle.std.proofs.lemmas.List.{nil_from_length}
use Rattle.smf_fmri.specs.ByKey.{IsAbove}
use Rattle.smf_dep.specs.declared.member.GraphMember.{GraphMember}
use Rattle.smf_dep.specs.declared.relink.PlacedMember.{PlacedMember}
use Rattle.smf_dep.specs.Members.{by_member, member_of}
use Rattle.smf_dep.specs.Updates.{IsNamedAt}
use Rattle.smf_dep.proofs.ChangeSteps.{put_arrived, put_placed, ready_arrived, ready_placed}
use Rattle.smf_dep.proofs.change.MemberChanges.take_item.Goals as goal

pub returns-in-Some-clause-ready : goal.returns-in-Some-clause-ready
returns-in-Some-clause-ready c =
    let P : Option PlacedMember → Type 0 = λ o. IfSome o
    (λ p. (p.member ≡ member_of c.args.item.now) × IsNamedAt p.member c.args.members.now p.place) in
    let both = subst P c.in-Some.is c.in_ok-placed.ensures in
    let none : c.args.self.now.arrivals.items ≡ [] =
    nil_from_length c.args.self.now.arrivals.items (grind (arith, common_steps)) in
    λ t. ready_placed c.args.self.now.placed.items c.push.new.self.items c.in-Some.placed
    c.args.self.now.arrivals.items c.args.members.now c.requires.ready none c.in_ok-push.ensures.items both.1

pub returns-in-Some-clause-put : goal.returns-in-Some-clause-put
returns-in-Some-clause-put c =
    let P : Option PlacedMember → Type 0 = λ o. IfSome o
    (λ p. (p.member ≡ member_of c.args.item.now) × IsNamedAt p.member c.args.members.now p.place) in
    let both = subst P c.in-Some.is c.in_ok-placed.ensures in
    let none : c.args.self.now.arrivals.items ≡ [] =
    nil_from_length c.args.self.now.arrivals.items (grind (arith, common_steps)) in
    λ t. put_placed c.args.item.now c.args.self.now.placed.items c.push.new.self.items c.in-Some.placed
    c.args.self.now.arrivals.items c.args.members.now c.requires.rises c.requires.ready.named none
    c.in_ok-push.ensures.items both.0 both.1

pub returns-in_ok-push-in-Some-2-clause-ready : goal.returns-in_ok-push-in-Some-2-clause-ready
returns-in_ok-push-in-Some-2-clause-ready c =
    let P : Option GraphMember → Type 0 = λ o. IfSome o (λ m. (m ≡ member_of c.args.item.now)
    × IsAbove by_member m.instance c.args.members.now × IsAbove by_member m.instance c.as_slice.result.now) in
    let all = subst P c.in-Some-2.is c.in_ok-arrival_of.ensures in
    let Q : List GraphMember → Type 0 = IsAbove by_member c.in-Some-2.member.instance in
    λ t. ready_arrived c.in-Some-2.member c.args.self.now.placed.items c.args.self.now.arrivals.items
    c.push-in-Some-2.new.self.items c.args.members.now c.requires.ready c.in_ok-push-in-Some-2.ensures.items all.1
    (subst Q c.as_slice.ensures.value all.2)

pub returns-in_ok-push-in-Some-2-clause-put : goal.returns-in_ok-push-in-Some-2-clause-put
returns-in_ok-push-in-Some-2-clause-put c =
    let P : Option GraphMember → Type 0 = λ o. IfSome o (λ m. (m ≡ member_of c.args.item.now)
    × IsAbove by_member m.instance c.args.members.now × IsAbove by_member m.instance c.as_slice.result.now) in
    let all = subst P c.in-Some-2.is c.in_ok-arrival_of.ensures in
    let Q : List GraphMember → Type 0 = IsAbove by_member c.in-Some-2.member.instance in
    λ t. put_arrived c.args.item.now c.in-Some-2.member c.args.self.now.placed.items
    c.args.self.now.arrivals.items c.push-in-Some-2.new.self.items c.args.members.now c.requires.ready.named
    c.in_ok-push-in-Some-2.ensures.items all.0 all.1 (subst Q c.as_slice.ensures.value all.2)
