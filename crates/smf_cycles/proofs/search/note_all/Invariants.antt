use Rattle.std.proofs.Common.{take}
use Rattle.smf_cycles.specs.Searches.{IsGrown}
use Rattle.smf_cycles.proofs.search.note_all.Given as goal

abbrev pub invariant-loop-place : goal.invariant-loop-place
invariant-loop-place l =
    IsGrown (take l.place-index l.places) l.initial.seen.items l.initial.work.items l.seen.items l.work.items
