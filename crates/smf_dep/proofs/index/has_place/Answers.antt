use Rattle.std.proofs.Common.{get_or}
use Rattle.std.proofs.lemmas.List.{get_or_default}
use Rattle.smf_links.proofs.Work.{out_drop, out_next}
use Rattle.smf_dep.proofs.index.has_place.Goals as goal

pub returns-then-other-place : goal.returns-then-other-place
returns-then-other-place c = λ e out.
    let other = get_or c.args.places.now c.loop-other.other-index 0 in
    out_next c.args.place c.args.places.now c.loop-other.other-index other c.loop-other-test.true
    (get_or_default c.args.places.now c.loop-other.other-index 0 other c.loop-other-test.true)
    (out_drop c.args.place c.loop-other.other-index c.args.places.now out)
    c.if-other-place.true
