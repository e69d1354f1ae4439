use Rattle.std.proofs.Common.{rules, ◌≡◌, ℕ, ◌++◌, ◌+◌, ◌≤◌, List, ap, length, map, subst, sym, ◌∙◌, arith, length-append}
use Rattle.std.proofs.lemmas.List.{length-map}
use Rattle.smf_links.specs.Blockage.{IsOut}
use Rattle.smf_dep.specs.declared.member.GraphMember.{GraphMember}
use Rattle.smf_dep.specs.declared.relink.PlacedMember.{PlacedMember}
use Rattle.smf_dep.specs.Index.{IsKeptIndex}
use Rattle.smf_dep.specs.Names.{AreIndexed}
use Rattle.smf_dep.specs.Places.{IsGraph, LeavesOthers, nodes_of}
use Rattle.smf_dep.specs.Updates.{AreNamed, AreReady, OthersStay, all_relinks, no_edges, no_flag, with_placed}
use Rattle.smf_dep.proofs.Changed.{as_many_edges, as_many_flags, changed_found, changed_stays, changed_there, graph_changed, graph_restored, named_before, placed_before}
use Rattle.smf_dep.proofs.Joined.{cycles_joined, edges_joined, first_ones}
use Rattle.smf_dep.proofs.KeptIndex.{joined_index, naming_joined}
use Rattle.smf_dep.proofs.Relinked.{length_placed}
use Rattle.smf_dep.proofs.placed.PlacedGraph.change.Goals as goal

pub link_all-requires-clause-named : goal.link_all-requires-clause-named
link_all-requires-clause-named c =
    let was = c.self.inside.members.items in
    let ps = c.args.changes.placed.items in
    let arrivals = c.args.changes.arrivals.items in
    let P : List GraphMember → Type 0 = AreReady ps arrivals in
    let ready = subst P (sym c.self.view_is) c.requires.ready in
    let Q : List GraphMember → Type 0 = AreNamed ps in
    let R : List PlacedMember → Type 0 = λ l. AreNamed l c.as_slice-2.result.now in
    subst R (sym c.as_slice-4.ensures.value)
    (subst Q (sym (c.as_slice-2.ensures.value ∙ c.in_ok-join_all.ensures.members)) (named_before ps was arrivals ready.named))

pub link_all-requires-clause-edged : goal.link_all-requires-clause-edged
link_all-requires-clause-edged c =
    let was = c.self.inside in
    edges_joined was.kept c.join_all.new.kept c.args.changes.arrivals.items was.cycles.edges.items
    c.join_all.new.cycles.edges.items c.self.invariant.0.edged c.in_ok-join_all.ensures.kept
    c.in_ok-join_all.ensures.edges

pub link_all-requires-clause-turning : goal.link_all-requires-clause-turning
link_all-requires-clause-turning c =
    let was = c.self.inside in
    cycles_joined was.members.items c.args.changes.arrivals.items was.kept was.cycles.edges.items
    c.join_all.new.cycles.edges.items was.cycles.flags.items c.join_all.new.cycles.flags.items
    c.self.invariant.0.linked c.self.invariant.0.edged c.self.invariant.0.turning c.in_ok-join_all.ensures.edges
    c.in_ok-join_all.ensures.flags

pub put_touched-requires : goal.put_touched-requires
put_touched-requires c =
    let was = c.self.inside.members.items in
    let arrivals = c.args.changes.arrivals.items in
    let size : length c.as_slice-in-Ok-2.result.now ≡ length was + length arrivals =
    ap length (c.as_slice-in-Ok-2.ensures.value ∙ c.set_members.ensures)
    ∙ length_placed c.args.changes.placed.items c.join_all.new.members.items
    ∙ ap length c.in_ok-join_all.ensures.members ∙ length-append was arrivals in
    let sum : length was + length arrivals ≤ c.in_ok-room.room = search rules in
    let same : length c.reserve.new.self.items ≡ length c.args.changes.leavers.items =
    ap length c.in_ok-reserve.ensures.items in
    let room = c.in_ok-reserve.ensures.ok in
    omega arith

pub link_all-requires-clause-indexed : goal.link_all-requires-clause-indexed
link_all-requires-clause-indexed c =
    let all = c.join_all.new.members.items in
    let P : List GraphMember → Type 0 = AreIndexed c.names.result.now in
    subst P (sym c.as_slice-2.ensures.value)
    (c.names.ensures all
    (joined_index c.args.index c.join.new.self c.self.inside.members.items c.args.self.now c.as_slice.result.now
    c.args.changes.arrivals.items all c.len-count.result c.self.view_is c.requires.index c.as_slice.ensures.value
    c.in_ok-join_all.ensures.members (omega (arith, c.len-count.ensures)) c.in_ok-join.ensures))

pub link_all-requires-clause-naming : goal.link_all-requires-clause-naming
link_all-requires-clause-naming c =
    naming_joined c.args.naming c.as_slice-3.result.now c.self.inside.members.items c.args.self.now
    c.args.changes.arrivals.items c.join_all.new.members.items c.as_slice-2.result.now c.len-count.result c.self.view_is
    c.requires.naming c.as_slice-3.ensures.all c.in_ok-join_all.ensures.members c.as_slice-2.ensures.value
    (omega (arith, c.len-count.ensures))

pub leave_all-requires-clause-flags : goal.leave_all-requires-clause-flags
leave_all-requires-clause-flags c =
    let was = c.self.inside in
    let arrivals = c.args.changes.arrivals.items in
    let flags = as_many_flags was.members.items was.kept was.cycles.edges.items was.cycles.flags.items c.self.invariant.0 in
    let now : length c.link_all.new.cycles.flags.items ≡ length was.cycles.flags.items + length arrivals =
    ap length (c.in-Err.ensures.same_flags ∙ c.in_ok-join_all.ensures.flags)
    ∙ length-append was.cycles.flags.items (map no_flag arrivals)
    ∙ ap (λ n. length was.cycles.flags.items + n) (length-map arrivals no_flag) in
    let all : length c.join_all.new.members.items ≡ length was.members.items + length arrivals =
    ap length c.in_ok-join_all.ensures.members ∙ length-append was.members.items arrivals in
    omega arith

pub invariant_of-self-in-Ok : goal.invariant_of-self-in-Ok
invariant_of-self-in-Ok c =
    let was = c.self.inside in
    let ps = c.args.changes.placed.items in
    let arrivals = c.args.changes.arrivals.items in
    let all = c.join_all.new.members.items in
    let P : List GraphMember → Type 0 = AreReady ps arrivals in
    let ready = subst P (sym c.self.view_is) c.requires.ready in
    let Q : List GraphMember → Type 0 = AreNamed ps in
    let R : List PlacedMember → Type 0 = λ l. AreNamed l all in
    let S : List GraphMember → Type 0 = IsKeptIndex c.index_with.result in (
      graph_changed ps arrivals was.members.items all c.set_members.new.members.items
          was.kept c.link_all.new.kept was.cycles.edges.items c.link_all.new.cycles.edges.items was.cycles.flags.items
          c.link_all.new.cycles.flags.items ready c.self.invariant.0
          c.in_ok-join_all.ensures.members c.set_members.ensures
          (c.in-Ok.ensures.linked ∙ (λ i. nodes_of (with_placed (c.as_slice-4.ensures.value i) (c.as_slice-2.ensures.value i))))
          c.in-Ok.ensures.edged c.in-Ok.ensures.turning,
      subst S (ap (λ l. with_placed l all) c.as_slice-in-Ok.ensures.value ∙ sym c.set_members.ensures)
          (c.index_with.ensures all
          (subst R (sym c.as_slice-in-Ok.ensures.value)
          (subst Q (sym c.in_ok-join_all.ensures.members) (named_before ps was.members.items arrivals ready.named)))
          (joined_index c.args.index c.join.new.self was.members.items c.args.self.now c.as_slice.result.now arrivals all
          c.len-count.result c.self.view_is c.requires.index c.as_slice.ensures.value c.in_ok-join_all.ensures.members
          (omega (arith, c.len-count.ensures)) c.in_ok-join.ensures)),
    )

pub invariant_of-self-in-Err : goal.invariant_of-self-in-Err
invariant_of-self-in-Err c =
    let was = c.self.inside in
    let arrivals = c.args.changes.arrivals.items in
    let many = as_many_edges was.members.items was.kept was.cycles.edges.items was.cycles.flags.items c.self.invariant.0 in
    let flags = as_many_flags was.members.items was.kept was.cycles.edges.items was.cycles.flags.items c.self.invariant.0 in
    let counted : c.len-count.result ≡ length was.members.items = omega (arith, c.len-count.ensures) in
    let again : c.leave_all.new.members.items ≡ was.members.items =
    c.leave_all.ensures.members
    ∙ first_ones c.join_all.new.members.items was.members.items arrivals c.len-count.result
    c.in_ok-join_all.ensures.members (sym counted) in
    let P : List GraphMember → Type 0 = IsKeptIndex was.index in (
      graph_restored was.members.items c.leave_all.new.members.items was.kept c.leave_all.new.kept
          was.cycles.edges.items c.leave_all.new.cycles.edges.items was.cycles.flags.items
          c.leave_all.new.cycles.flags.items c.self.invariant.0 again c.leave_all.ensures.kept
          (c.leave_all.ensures.edges
          ∙ first_ones c.link_all.new.cycles.edges.items was.cycles.edges.items (map no_edges arrivals)
          c.len-count.result (c.in-Err.ensures.same_edges ∙ c.in_ok-join_all.ensures.edges) (many ∙ sym counted))
          (c.leave_all.ensures.flags
          ∙ first_ones c.link_all.new.cycles.flags.items was.cycles.flags.items (map no_flag arrivals)
          c.len-count.result (c.in-Err.ensures.same_flags ∙ c.in_ok-join_all.ensures.flags) (flags ∙ sym counted)),
      subst P (sym again) c.self.invariant.1,
    )

pub returns-in-Ok-clause-left : goal.returns-in-Ok-clause-left
returns-in-Ok-clause-left c = λ n out.
    let P : List ℕ → Type 0 = IsOut n in
    subst P c.in_ok-reserve.ensures.items (c.put_touched.ensures.grown n (subst P c.from_vec.ensures out))

pub returns-in-Ok-clause-with : goal.returns-in-Ok-clause-with
returns-in-Ok-clause-with c =
    let was = c.self.inside.members.items in
    let ps = c.args.changes.placed.items in
    let arrivals = c.args.changes.arrivals.items in
    let P : List GraphMember → Type 0 = AreReady ps arrivals in
    let ready = subst P (sym c.self.view_is) c.requires.ready in
    c.set_members.ensures ∙ ap (with_placed ps) c.in_ok-join_all.ensures.members
    ∙ placed_before ps was arrivals ready.named
    ∙ ap (λ l. with_placed ps l ++ arrivals) c.self.view_is

pub returns-in-Ok-clause-others : goal.returns-in-Ok-clause-others
returns-in-Ok-clause-others c =
    let was = c.self.inside in
    let ps = c.args.changes.placed.items in
    let arrivals = c.args.changes.arrivals.items in
    let all = c.join_all.new.members.items in
    let now = c.set_members.new.members.items in
    let touched = c.link_all.new.touched.items in
    let counted : c.len-count.result ≡ length was.members.items = omega (arith, c.len-count.ensures) in
    let P : List GraphMember → Type 0 = AreReady ps arrivals in
    let ready : AreReady ps arrivals was.members.items = subst P (sym c.self.view_is) c.requires.ready in
    let graph : IsGraph now c.link_all.new.kept c.link_all.new.cycles.edges.items c.link_all.new.cycles.flags.items =
    graph_changed ps arrivals was.members.items all now was.kept c.link_all.new.kept was.cycles.edges.items
    c.link_all.new.cycles.edges.items was.cycles.flags.items c.link_all.new.cycles.flags.items ready c.self.invariant.0
    c.in_ok-join_all.ensures.members c.set_members.ensures
    (c.in-Ok.ensures.linked ∙ (λ i. nodes_of (with_placed (c.as_slice-4.ensures.value i) (c.as_slice-2.ensures.value i))))
    c.in-Ok.ensures.edged c.in-Ok.ensures.turning in
    let Q : List GraphMember → Type 0 = λ l. LeavesOthers c.join_all.new.kept c.link_all.new.kept
    (all_relinks l c.len-count.result ps) c.join_all.new.cycles.flags.items c.link_all.new.cycles.flags.items touched in
    let R : List PlacedMember → Type 0 = λ l. LeavesOthers c.join_all.new.kept c.link_all.new.kept
    (all_relinks c.as_slice-2.result.now c.len-count.result l) c.join_all.new.cycles.flags.items
    c.link_all.new.cycles.flags.items touched in
    let far = subst Q c.as_slice-2.ensures.value (subst R c.as_slice-4.ensures.value c.in-Ok.ensures.others) in
    let S : List GraphMember → Type 0 = λ l. OthersStay l now c.from_vec.result in
    subst S c.self.view_is
    (changed_stays was.members.items now c.as_slice-in-Ok-2.result.now touched c.as_slice-in-Ok-3.result.now
    c.put_touched.new.numbers.items c.from_vec.result c.self.invariant.0.rises graph.rises
    (changed_there ps arrivals was.members.items all now ready.named c.in_ok-join_all.ensures.members
    c.set_members.ensures)
    (changed_found ps arrivals was.members.items all now was.kept c.join_all.new.kept c.link_all.new.kept
    was.cycles.edges.items c.link_all.new.cycles.edges.items was.cycles.flags.items
    c.join_all.new.cycles.flags.items c.link_all.new.cycles.flags.items c.len-count.result touched ready
    c.self.invariant.0 graph c.in_ok-join_all.ensures.members c.set_members.ensures counted
    c.in_ok-join_all.ensures.kept c.in_ok-join_all.ensures.flags c.in_ok-join_all.ensures.met far)
    c.as_slice-in-Ok-2.ensures.value c.as_slice-in-Ok-3.ensures.value c.from_vec.ensures c.put_touched.ensures.touched)
