use Rattle.std.proofs.Common.{◌≡◌, ◌≤◌, ◌+◌, ◌-◌, sym, ◌∙◌, arith}
use Rattle.smf_show.proofs.Years.{year_passed}
use Rattle.smf_show.specs.Dates.{year_days}
use Rattle.smf_show.proofs.dates.year_of.Goals as goal

pub loop-preserved : goal.loop-preserved
loop-preserved c =
    let long : c.year_days-length.result ≡ year_days c.loop.year = c.year_days-length.ensures in
    let more : year_days c.loop.year ≤ c.loop.day = omega arith in
    let passed = year_passed (c.args.days - c.loop.counter) (c.args.days - (c.loop.counter + 1)) c.loop.year c.loop.day
    (omega arith) more in
    record {
      same = rw long (sym passed ∙ c.loop.invariant.same);
      early = omega arith;
      within = omega arith;
    }
