use Rattle.std.proofs.Common.{◌≤◌, ◌<◌, length, sym, arith}
use Rattle.smf_links.proofs.FlagChanges.{with_flags_past, with_flags_read}
use Rattle.smf_links.proofs.kept.set_flags.Goals as goal

pub returns-then-place-len : goal.returns-then-place-len
returns-then-place-len c =
    let lt : c.args.place < length c.args.nodes.now.items = omega arith in
    with_flags_read c.args.nodes.now.items c.args.place c.args.flags c.index_mut.result.now lt c.index_mut.ensures.value

pub returns-else-place-len : goal.returns-else-place-len
returns-else-place-len c =
    let past : length c.args.nodes.now.items ≤ c.args.place = omega arith in
    sym (with_flags_past c.args.nodes.now.items c.args.place c.args.flags past)
