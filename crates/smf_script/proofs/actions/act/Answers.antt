use Rattle.std.proofs.Common.{refl}
use Rattle.smf_script.specs.Asks.{to_act}
use Rattle.smf_script.proofs.Replies.{said_by}
use Rattle.smf_script.proofs.actions.act.Goals as goal

pub returns-clause-exact : goal.returns-clause-exact
returns-clause-exact g c =
    said_by g.K.Kids.skills (to_act c.contract_of-id.result c.child_event.result) _ _ _ _ _ _ _
    _
    (rw (c.contract_of-id.ensures, c.table.ensures, c.child_event.ensures) refl)
    (record {
      done = c.act-done.ensures.acted;
      kept = c.act-done.ensures.refused;
      why = c.act-done.ensures.fault;
      not_here = c.act-done.ensures.not_here;
    })
    c.say.ensures.flag c.say.ensures.put c.say.ensures.had
