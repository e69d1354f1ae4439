use Rattle.std.proofs.Common.{◌≡◌, ◌++◌, ◌∙◌, ◌+◌, List, ap, drop, rules, sym}
use Rattle.smf_dep.specs.declared.member.GraphMember.{GraphMember}
use Rattle.smf_dep.specs.Departures.{has_number, shown}
use Rattle.smf_dep.proofs.Rolled.{whole_shown, one_shown, not_shown}
use Rattle.smf_dep.proofs.roll.shown_members.Goals as goal
use Rattle.smf_dep.proofs.roll.shown_members.Goals.{then-not-has_number+in_ok-clone+in_ok-push, else-not-has_number}

pub loop-member-preserved : goal.loop-member-preserved
loop-member-preserved c =
    let gone = c.args.gone.now in
    let ms = c.args.members.now in
    let i = c.loop-member.member-index in
    let m = c.member-item.result in
    let whole : List GraphMember = shown gone ms in
    let answer : has_number gone m.instance ≡ c.has_number.result =
    sym (ap (λ (x : GraphMember). has_number gone x.instance) c.member.ensures) ∙ sym c.has_number.ensures in
    elim c.if-not-has_number.branch [
      | then-not-has_number+in_ok-clone+in_ok-push w ↦
          one_shown gone ms i m c.loop-member.all.items c.if-not-has_number.all.items whole c.loop-member-test.true
          c.member-item.is (answer ∙ w.if-not-has_number.true) (search rules) c.loop-member.invariant
      | else-not-has_number w ↦
          ap (λ l. l ++ shown gone (drop (i + 1) ms)) (search rules)
          ∙ not_shown gone ms i m c.loop-member.all.items whole c.loop-member-test.true c.member-item.is
          (answer ∙ w.if-not-has_number.false) c.loop-member.invariant
    ]

pub returns : goal.returns
returns c =
    whole_shown c.args.gone.now c.args.members.now c.loop-member.member-index c.loop-member.all.items
    (shown c.args.gone.now c.args.members.now) c.loop-member-test.false c.loop-member.invariant
