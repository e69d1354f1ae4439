use Rattle.std.proofs.Common.{◌≡◌, ◌≤◌, ◌+◌, ◌-◌}
use Rattle.smf_show.specs.Dates.{year_behind}
use Rattle.smf_show.proofs.dates.year_of.Given as goal

abbrev pub invariant-loop : goal.invariant-loop
invariant-loop l = record {
  same : year_behind (l.days - l.counter) l.year l.day ≡ year_behind l.days 1970 l.days;
  early : l.year ≤ 1970 + l.counter;
  within : l.day ≤ l.days;
}
