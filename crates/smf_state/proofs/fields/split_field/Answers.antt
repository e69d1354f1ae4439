use Rattle.std.proofs.Common.{Some, None, sym}
use Rattle.smf_state.proofs.Lines.{split_once_is}
use Rattle.smf_state.proofs.fields.split_field.Goals as goal

pub returns-in-Some : goal.returns-in-Some
returns-in-Some c =
    sym (split_once_is c.args.text.now (Some (c.in-Some.field, c.in-Some.after)) c.in-Some.ensures.cases)

pub returns-in-None : goal.returns-in-None
returns-in-None c = sym (split_once_is c.args.text.now None c.in-None.ensures.cases)
