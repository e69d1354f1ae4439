use Rattle.smf_export.proofs.Alike.{told_by_bytes}
use Rattle.smf_export.proofs.comparison.are_equal.Goals as goal

pub returns : goal.returns
returns c =
    told_by_bytes c.args.one.now c.args.other.now c.in_ok-one.one c.in_ok-other.other c.eq.result
    c.in_ok-one.ensures.formed c.in_ok-other.ensures.formed c.in_ok-one.ensures.spelled c.in_ok-other.ensures.spelled
    c.eq.ensures
