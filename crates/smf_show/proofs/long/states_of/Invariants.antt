use Rattle.std.proofs.Common.{◌≡◌, ◌++◌, drop}
use Rattle.smf_show.specs.Long.{states_of}
use Rattle.smf_show.proofs.long.states_of.Given as goal

abbrev pub invariant-loop-shown : goal.invariant-loop-shown
invariant-loop-shown l = l.states.items ++ states_of (drop l.shown-index l.all) l.text ≡ states_of l.all l.text
