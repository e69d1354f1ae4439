use Rattle.smf_model.proofs.Turns.{edited_by}
use Rattle.smf_script.proofs.cfg_line.apply.Goals as goal

pub returns : goal.returns
returns g c =
    record {
      exact = c.apply.ensures.exact;
      err = c.apply.ensures.err;
      follows = c.apply.ensures.follows;
      edits = edited_by _ _ _ _ _ _ c.apply.ensures.exact c.apply.ensures.err c.apply.ensures.follows;
      fault = c.apply.ensures.fault;
    }
