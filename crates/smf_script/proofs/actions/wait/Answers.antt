use Rattle.std.proofs.Common.{refl}
use Rattle.smf_script.specs.Asks.{to_join}
use Rattle.smf_script.proofs.Replies.{said_by}
use Rattle.smf_script.proofs.actions.wait.Goals as goal

pub returns-clause-exact : goal.returns-clause-exact
returns-clause-exact g c =
    said_by g.K.Kids.skills (to_join c.contract_of-id.result) _ _ _ _ _ _ _
    _
    (rw (c.contract_of-id.ensures, c.table.ensures) refl)
    (record {
      done = c.join-done.ensures.joined;
      kept = c.join-done.ensures.refused;
      why = c.join-done.ensures.fault;
      not_here = c.join-done.ensures.not_here;
    })
    c.say.ensures.flag c.say.ensures.put c.say.ensures.had
