use Rattle.std.proofs.Common.{◌≡◌, ◌++◌, length}
use Rattle.smf_ask.specs.Scripts.{session_of}
use Rattle.smf_ask.proofs.script.put_session.Given as goal

abbrev pub invariant-loop-rest : goal.invariant-loop-rest
invariant-loop-rest l = l.script.items ++ session_of l.rest ≡ l.initial.script.items ++ session_of l.fn.text

abbrev pub decreases-loop-rest : goal.decreases-loop-rest
decreases-loop-rest l = length l.rest
