use Rattle.std.proofs.Common.{List, ℕ, [], sym}
use Rattle.smf_room.specs.Beginnings.{IsAnyBeginning, IsBeginning}
use Rattle.smf_room.specs.Tellings.{Listed}
use Rattle.smf_room.proofs.Beginning.{beginning, could_find_all, could_list}
use Rattle.smf_room.proofs.Hearing.{both, both_lost, heard_as, lost_of, on_err, one, one_lost, weaker}
use Rattle.smf_room.proofs.life.begin_life.Goals as goal

pub returns-in_err-ids-clause-lost : goal.returns-in_err-ids-clause-lost
returns-in_err-ids-clause-lost g c =
    on_err c.from_residual.result
    (lost_of IsAnyBeginning could_list (one_lost (Listed []) c.in_err-ids.ensures.lost))

pub returns-in_err-found-clause-lost : goal.returns-in_err-found-clause-lost
returns-in_err-found-clause-lost g c =
    on_err c.from_residual-in_err-found.result
    (lost_of IsAnyBeginning (could_find_all c.deref.result.now)
    (both_lost (heard_as (λ (x : List ℕ). Listed x) (sym c.deref.ensures.value) (one c.in_ok-ids.ensures.told)) c.in_err-found.ensures.lost))

pub returns-clause-begun : goal.returns-clause-begun
returns-clause-begun g c =
    weaker (IsBeginning c.in_ok-found.found.items) (beginning c.deref.result.now c.in_ok-found.found.items)
    (both (heard_as (λ (x : List ℕ). Listed x) (sym c.deref.ensures.value) (one c.in_ok-ids.ensures.told)) c.in_ok-found.ensures.done)
