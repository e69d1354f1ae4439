use Rattle.smf_model.proofs.Made.{made}
use Rattle.smf_model.proofs.reads.made_group.Goals as goal

pub returns-in-Ok-put : goal.returns-in-Ok-put
returns-in-Ok-put c =
    made _ _ _ _ _ c.args.row.now c.in_ok-next.ensures c.in_ok-state.ensures c.in_ok-group.ensures c.in-Ok.ensures
    c.in-Ok-put.ensures
