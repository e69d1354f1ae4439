use Rattle.std.proofs.Common.{arith}
use Rattle.std.proofs.lemmas.List.{take_more}
use Rattle.smf_cycles.proofs.Searches.{grown_more, grown_start}
use Rattle.smf_cycles.proofs.search.note_all.Goals as goal

pub loop-place-init : goal.loop-place-init
loop-place-init c = grown_start c.args.seen.now.items c.args.work.now.items

pub loop-place-preserved : goal.loop-place-preserved
loop-place-preserved c =
    rw (take_more c.args.places.now c.loop-place.place-index 0 (omega arith))
    (grown_more _ _ _ _ _ _ _
    _ c.loop-place.invariant c.in_ok-note.ensures)
