use Rattle.smf_contract.proofs.After.{call_keeps, calls_order, spawned_next, forked_next}
use Rattle.smf_contract.proofs.law.numbers_stay_in_order.Goals as goal

pub returns-clause-next : goal.returns-clause-next
returns-clause-next c = λ t call. (call_keeps t call).ordered

pub returns-clause-last : goal.returns-clause-last
returns-clause-last c = λ t call. (call_keeps t call).never_falls

pub returns-clause-spawned : goal.returns-clause-spawned
returns-clause-spawned c = λ t actor cookie terms. spawned_next t actor cookie terms

pub returns-clause-forked : goal.returns-clause-forked
returns-clause-forked c = λ t process. forked_next t process

pub returns-clause-every : goal.returns-clause-every
returns-clause-every c = λ calls. calls_order calls
