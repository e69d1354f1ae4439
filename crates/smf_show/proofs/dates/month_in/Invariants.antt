use Rattle.std.proofs.Common.{◌≡◌, ◌≤◌, drop}
use Rattle.smf_show.specs.Dates.{month_in}
use Rattle.smf_show.proofs.dates.month_in.Given as goal

abbrev pub invariant-loop-length : goal.invariant-loop-length
invariant-loop-length l = record {
  same : month_in (drop l.length-index l.months) l.day ≡ month_in l.months l.fn.day;
  within : l.day ≤ l.fn.day;
}
