use Rattle.std.proofs.Common.{◌≡◌, List, ap, subst, sym, arith}
use Rattle.std.specs.Vec.Iter.{into_iter_items}
use Rattle.smf_fmri.specs.ByKey.{Rises, put_all}
use Rattle.smf_fmri.proofs.KeyOrder.{rises_put}
use Rattle.smf_dep.specs.declared.member.GraphMember.{GraphMember}
use Rattle.smf_dep.specs.Members.{by_member}
use Rattle.smf_dep.specs.Updates.{AllFit}
use Rattle.smf_dep.proofs.Updates.{more_fits, next_fits, stays_none, stays_size, stays_then, with_more}
use Rattle.smf_dep.proofs.update.take_members.Goals as goal

pub loop-member-init : goal.loop-member-init
loop-member-init c =
    let P : List GraphMember → Type 0 = λ l. AllFit l c.args.members.now.items in
    let given : into_iter_items c.into_iter-member-iterator.result ≡ c.args.successors.items =
    c.into_iter-member-iterator.ensures.into_iter_gives.0 in
    record {
      rest = ap (λ l. put_all by_member l c.args.members.now.items) given;
      fit = subst P (sym given) c.requires.fit;
      rises = c.requires.rises;
      linked = c.requires.linked;
      room = c.requires.room;
      stays = stays_none c.args.members.now.items c.args.touched.now.items;
    }

pub take_member-requires-clause-fits : goal.take_member-requires-clause-fits
take_member-requires-clause-fits c =
    (next_fits _ c.in-Some.member _ c.loop-member.members.items c.in-Some.ensures.steps.0 c.loop-member.invariant.fit).0

pub loop-member-preserved : goal.loop-member-preserved
loop-member-preserved c =
    let P : List GraphMember → Type 0 = Rises by_member in
    record {
      rest =
          with_more _ c.in-Some.member _ c.loop-member.members.items c.take_member.new.members.items _
          c.in-Some.ensures.steps.0 c.take_member.ensures.put c.loop-member.invariant.rest;
      fit =
          more_fits _ c.in-Some.member _ c.loop-member.members.items c.take_member.new.members.items
          c.in-Some.ensures.steps.0 c.take_member.ensures.put c.loop-member.invariant.rises
          c.loop-member.invariant.fit;
      rises =
          subst P (sym c.take_member.ensures.put)
          (rises_put by_member c.in-Some.member c.loop-member.members.items c.loop-member.invariant.rises);
      linked = c.take_member.ensures.linked;
      room =
          let size = stays_size c.loop-member.members.items c.take_member.new.members.items
          c.loop-member.touched.items c.take_member.new.touched.items c.take_member.ensures.stays in
          let before = c.loop-member.invariant.room in
          let more = c.take_member.ensures.room in
          omega arith;
      stays =
          stays_then c.args.members.now.items c.loop-member.members.items c.take_member.new.members.items
          c.args.touched.now.items c.loop-member.touched.items
          c.take_member.new.touched.items c.loop-member.invariant.stays c.take_member.ensures.stays;
    }
