use Rattle.std.proofs.Common.{length, sym, ap, arith}
use Rattle.smf_cycles.proofs.Searches.{grown_new, grown_past, grown_seen}
use Rattle.smf_cycles.proofs.search.note.Goals as goal

pub returns-then-place-len : goal.returns-then-place-len
returns-then-place-len c =
    grown_past c.args.place c.args.seen.now.items c.args.work.now.items (omega arith)

pub returns-then-is_flagged : goal.returns-then-is_flagged
returns-then-is_flagged c =
    grown_seen c.args.place c.args.seen.now.items c.args.work.now.items
    (sym (rw c.as_slice.ensures.value at c.if-is_flagged.ensures))

pub returns : goal.returns
returns c =
    rw c.in_ok-push.ensures.items
    (grown_new c.args.place c.args.seen.now.items c.args.work.now.items
    (sym (rw c.as_slice.ensures.value at c.if-is_flagged.ensures))
    (omega (arith, ap length c.as_slice.ensures.value)))
