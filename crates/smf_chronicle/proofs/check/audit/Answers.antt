use Rattle.smf_chronicle.proofs.Passed.{none_passed, passed}
use Rattle.smf_chronicle.proofs.check.audit.Goals as goal

pub loop-place-init : goal.loop-place-init
loop-place-init c = none_passed _ _ c.new-tables.ensures

pub loop-place-preserved : goal.loop-place-preserved
loop-place-preserved c =
    passed _ _ _ _ c.index-entries-place.result c.loop-place.invariant c.loop-place-test.true c.index-entries-place.is
    c.in_default.ensures c.in_ok-note.ensures
