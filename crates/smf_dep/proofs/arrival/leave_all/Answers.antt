use Rattle.std.proofs.Common.{◌<◌, length, arith}
use Rattle.smf_dep.proofs.Joined.{fewer, joined_less, left_items, none_left, one_less}
use Rattle.smf_dep.proofs.arrival.leave_all.Goals as goal

pub leave-requires : goal.leave-requires
leave-requires c = (c.args.count, omega arith, c.loop.invariant.joined)

pub loop-preserved : goal.loop-preserved
loop-preserved c =
    let more : c.args.count < length c.loop.members.items = omega arith in
    let members = one_less c.loop.members.items c.leave.new.members.items c.leave.ensures.members in
    let edges = one_less c.loop.cycles.edges.items c.leave.new.cycles.edges.items c.leave.ensures.edges in
    let flags = one_less c.loop.cycles.flags.items c.leave.new.cycles.flags.items c.leave.ensures.flags in
    record {
      joined =
          joined_less c.loop.members.items c.leave.new.members.items c.args.count c.loop.kept c.leave.new.kept
          c.loop.invariant.joined more c.leave.ensures.members c.leave.ensures.kept;
      left = omega arith;
      edges = omega arith;
      flags = omega arith;
      same_members =
          fewer c.loop.members.items c.args.members.now.items c.leave.new.members.items c.args.count more
          c.loop.invariant.same_members c.leave.ensures.members;
      same_edges =
          fewer c.loop.cycles.edges.items c.args.cycles.now.edges.items c.leave.new.cycles.edges.items c.args.count
          (omega arith) c.loop.invariant.same_edges c.leave.ensures.edges;
      same_flags =
          fewer c.loop.cycles.flags.items c.args.cycles.now.flags.items c.leave.new.cycles.flags.items c.args.count
          (omega arith) c.loop.invariant.same_flags c.leave.ensures.flags;
    }

pub returns-clause-members : goal.returns-clause-members
returns-clause-members c =
    left_items c.loop.members.items c.args.members.now.items c.args.count (omega arith) c.loop.invariant.same_members

pub returns-clause-kept : goal.returns-clause-kept
returns-clause-kept c =
    none_left c.loop.members.items c.args.count c.loop.kept c.loop.invariant.joined (omega arith)
