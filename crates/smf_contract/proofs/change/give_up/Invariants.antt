use Rattle.std.proofs.Common.{◌≡◌, ◌++◌, map, take, drop}
use Rattle.smf_contract.specs.Calls.{given_up}
use Rattle.smf_contract.proofs.change.give_up.Given as goal

abbrev pub invariant-loop-c : goal.invariant-loop-c
invariant-loop-c l =
    l.contracts ≡ map (given_up l.actor) (take l.c-index l.initial.contracts) ++ drop l.c-index l.initial.contracts
