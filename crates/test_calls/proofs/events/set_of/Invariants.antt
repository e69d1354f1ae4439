use Rattle.smf_contract.specs.Stated.{AreEvents}
use Rattle.test_calls.proofs.events.set_of.Given as goal

abbrev pub invariant-loop-word : goal.invariant-loop-word
invariant-loop-word l = AreEvents l.set
