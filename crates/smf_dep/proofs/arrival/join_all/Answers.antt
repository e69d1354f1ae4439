use Rattle.std.proofs.Common.{◌≡◌, ◌++◌, [], map, ap, sym, ◌∙◌, arith}
use Rattle.std.specs.Vec.Iter.{into_iter_items}
use Rattle.std.proofs.lemmas.List.{nil_from_length}
use Rattle.smf_dep.specs.Places.{nodes_of}
use Rattle.smf_dep.specs.Updates.{blank_of, no_edges, no_flag}
use Rattle.smf_dep.proofs.Joined.{all_came, came_edges, came_flags, came_joined, came_still, edges_size, first_ones, none_came, one_came}
use Rattle.smf_dep.proofs.arrival.join_all.Goals as goal

pub loop-member-init : goal.loop-member-init
loop-member-init c =
    let given : into_iter_items c.into_iter-member-iterator.result ≡ c.args.arrivals.items =
    c.into_iter-member-iterator.ensures.into_iter_gives.0 in
    record {
      count = omega arith;
      came =
          none_came c.args.arrivals.items (into_iter_items c.into_iter-member-iterator.result) c.args.members.now.items
          c.args.kept.now c.args.cycles.now.edges.items c.args.cycles.now.flags.items given;
    }

pub join-requires : goal.join-requires
join-requires c = (
  c.len-count.result,
  came_joined c.loop-member.invariant.came c.len-count.result c.loop-member.invariant.count c.requires.linked,
)

pub leave_all-requires-clause-joined : goal.leave_all-requires-clause-joined
leave_all-requires-clause-joined c =
    let now = came_still c.loop-member.invariant.came c.join.new.members.items c.join.new.kept
    c.join.new.cycles.edges.items c.join.new.cycles.flags.items c.in-Err.ensures.same_members
    c.in-Err.ensures.same_kept c.in-Err.ensures.same_edges c.in-Err.ensures.same_flags in
    came_joined now c.len-count.result c.loop-member.invariant.count c.requires.linked

pub leave_all-requires-clause-edges : goal.leave_all-requires-clause-edges
leave_all-requires-clause-edges c =
    let now = came_still c.loop-member.invariant.came c.join.new.members.items c.join.new.kept
    c.join.new.cycles.edges.items c.join.new.cycles.flags.items c.in-Err.ensures.same_members
    c.in-Err.ensures.same_kept c.in-Err.ensures.same_edges c.in-Err.ensures.same_flags in
    came_edges now
    (edges_size c.args.members.now.items c.args.kept.now c.args.cycles.now.edges.items c.requires.linked
    c.requires.edged)

pub leave_all-requires-clause-flags : goal.leave_all-requires-clause-flags
leave_all-requires-clause-flags c =
    let now = came_still c.loop-member.invariant.came c.join.new.members.items c.join.new.kept
    c.join.new.cycles.edges.items c.join.new.cycles.flags.items c.in-Err.ensures.same_members
    c.in-Err.ensures.same_kept c.in-Err.ensures.same_edges c.in-Err.ensures.same_flags in
    came_flags now
    (c.requires.flagged
    ∙ edges_size c.args.members.now.items c.args.kept.now c.args.cycles.now.edges.items c.requires.linked
    c.requires.edged)

pub returns-in-Err-clause-same_members : goal.returns-in-Err-clause-same_members
returns-in-Err-clause-same_members c =
    let came = c.loop-member.invariant.came in
    c.leave_all.ensures.members
    ∙ first_ones c.join.new.members.items c.args.members.now.items came.done c.len-count.result
    (c.in-Err.ensures.same_members ∙ came.members) (sym c.loop-member.invariant.count)

pub returns-in-Err-clause-same_kept : goal.returns-in-Err-clause-same_kept
returns-in-Err-clause-same_kept c =
    let came = c.loop-member.invariant.came in
    let members = c.leave_all.ensures.members
    ∙ first_ones c.join.new.members.items c.args.members.now.items came.done c.len-count.result
    (c.in-Err.ensures.same_members ∙ came.members) (sym c.loop-member.invariant.count) in
    c.leave_all.ensures.kept ∙ ap nodes_of members ∙ sym c.requires.linked

pub returns-in-Err-clause-same_edges : goal.returns-in-Err-clause-same_edges
returns-in-Err-clause-same_edges c =
    let came = c.loop-member.invariant.came in
    c.leave_all.ensures.edges
    ∙ first_ones c.join.new.cycles.edges.items c.args.cycles.now.edges.items (map no_edges came.done)
    c.len-count.result
    (c.in-Err.ensures.same_edges ∙ came.edges)
    (edges_size c.args.members.now.items c.args.kept.now c.args.cycles.now.edges.items c.requires.linked
    c.requires.edged
    ∙ sym c.loop-member.invariant.count)

pub returns-in-Err-clause-same_flags : goal.returns-in-Err-clause-same_flags
returns-in-Err-clause-same_flags c =
    let came = c.loop-member.invariant.came in
    c.leave_all.ensures.flags
    ∙ first_ones c.join.new.cycles.flags.items c.args.cycles.now.flags.items (map no_flag came.done)
    c.len-count.result
    (c.in-Err.ensures.same_flags ∙ came.flags)
    (c.requires.flagged
    ∙ edges_size c.args.members.now.items c.args.kept.now c.args.cycles.now.edges.items c.requires.linked
    c.requires.edged
    ∙ sym c.loop-member.invariant.count)

pub loop-member-preserved : goal.loop-member-preserved
loop-member-preserved c =
    record {
      count = c.loop-member.invariant.count;
      came =
          one_came c.loop-member.invariant.came (into_iter_items c.next.new.self) c.in-Some.member
          c.join.new.members.items c.join.new.kept c.join.new.cycles.edges.items c.join.new.cycles.flags.items
          c.in-Some.ensures.steps.0 c.in_default.ensures.members c.in_default.ensures.kept c.in_default.ensures.met
          c.in_default.ensures.edges c.in_default.ensures.flags;
    }

pub returns-clause-members : goal.returns-clause-members
returns-clause-members c =
    let came = c.loop-member.invariant.came in
    let none : into_iter_items c.loop-member.member-iterator ≡ [] =
    nil_from_length (into_iter_items c.loop-member.member-iterator) (omega (arith, c.in-None.ensures.steps.0)) in
    came.members ∙ ap (λ l. c.args.members.now.items ++ l) (all_came came none)

pub returns-clause-kept : goal.returns-clause-kept
returns-clause-kept c =
    let came = c.loop-member.invariant.came in
    let none : into_iter_items c.loop-member.member-iterator ≡ [] =
    nil_from_length (into_iter_items c.loop-member.member-iterator) (omega (arith, c.in-None.ensures.steps.0)) in
    came.nodes ∙ ap (λ l. c.args.kept.now ++ map blank_of l) (all_came came none)

pub returns-clause-met : goal.returns-clause-met
returns-clause-met c = c.loop-member.invariant.came.met

pub returns-clause-edges : goal.returns-clause-edges
returns-clause-edges c =
    let came = c.loop-member.invariant.came in
    let none : into_iter_items c.loop-member.member-iterator ≡ [] =
    nil_from_length (into_iter_items c.loop-member.member-iterator) (omega (arith, c.in-None.ensures.steps.0)) in
    came.edges
    ∙ ap (λ l. c.args.cycles.now.edges.items ++ map no_edges l) (all_came came none)

pub returns-clause-flags : goal.returns-clause-flags
returns-clause-flags c =
    let came = c.loop-member.invariant.came in
    let none : into_iter_items c.loop-member.member-iterator ≡ [] =
    nil_from_length (into_iter_items c.loop-member.member-iterator) (omega (arith, c.in-None.ensures.steps.0)) in
    came.flags
    ∙ ap (λ l. c.args.cycles.now.flags.items ++ map no_flag l) (all_came came none)
