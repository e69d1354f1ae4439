use Rattle.std.proofs.Common.{◌≡◌, drop}
use Rattle.std.specs.Prelude.{find}
use Rattle.smf_restarter.specs.Answers.{is_of_contract}
use Rattle.smf_restarter.proofs.answers.run_of_contract.Given as goal

abbrev pub invariant-loop-run : goal.invariant-loop-run
invariant-loop-run l =
    find (is_of_contract l.contract) (drop l.run-index l.runs) ≡ find (is_of_contract l.contract) l.runs
