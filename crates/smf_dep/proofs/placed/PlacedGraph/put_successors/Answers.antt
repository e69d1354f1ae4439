use Rattle.std.proofs.Common.{List, subst, sym}
use Rattle.smf_fmri.specs.ByKey.{Rises}
use Rattle.smf_dep.specs.declared.member.GraphMember.{GraphMember}
use Rattle.smf_dep.specs.Members.{by_member}
use Rattle.smf_dep.specs.Updates.{OthersStay}
use Rattle.smf_dep.proofs.Alike.{edges_kept}
use Rattle.smf_dep.proofs.KeptIndex.{kept_alike}
use Rattle.smf_fmri.proofs.KeyOrder.{rises_put_all}
use Rattle.smf_dep.proofs.Updates.{by_touched}
use Rattle.smf_dep.proofs.placed.PlacedGraph.put_successors.Goals as goal

pub invariant_of-self : goal.invariant_of-self
invariant_of-self c =
    let was = c.self.inside in
    let now = c.take_members.new.members.items in
    let P : List GraphMember → Type 0 = Rises by_member in (
      record {
        linked = c.take_members.ensures.linked;
        edged =
            edges_kept now was.members.items was.kept c.take_members.new.kept was.cycles.edges.items
            c.self.invariant.0.linked c.take_members.ensures.linked
            c.take_members.ensures.stays.wired c.self.invariant.0.edged;
        turning = c.self.invariant.0.turning;
        rises = subst P (sym c.take_members.ensures.with)
            (rises_put_all by_member c.args.successors.items was.members.items c.self.invariant.0.rises);
      },
      kept_alike was.index was.members.items now (sym c.take_members.ensures.stays.wired) c.self.invariant.1,
    )

pub returns-clause-others : goal.returns-clause-others
returns-clause-others c =
    let was = c.self.inside.members.items in
    let now = c.take_members.new.members.items in
    let P : List GraphMember → Type 0 = λ l. OthersStay l now c.from_vec.result in
    let R : List GraphMember → Type 0 = Rises by_member in
    subst P c.self.view_is
    (by_touched was now c.as_slice.result.now c.take_members.new.touched.items
    c.as_slice-2.result.now c.put_touched.new.numbers.items c.from_vec.result
    c.self.invariant.0.rises
    (subst R (sym c.take_members.ensures.with) (rises_put_all by_member c.args.successors.items was c.self.invariant.0.rises))
    c.take_members.ensures.stays.remains
    c.as_slice.ensures.value c.as_slice-2.ensures.value c.from_vec.ensures c.put_touched.ensures.touched)
