use Rattle.std.proofs.Common.{IsTrue, subst, sym}
use Rattle.clap.specs.Words.{App, is_simple, is_simple_and_free}
use Rattle.smf_program.proofs.Apps.{smf_is_free, smf_is_simple}
use Rattle.smf_program.proofs.Tasks.{reads_none, reads_task, why_of}
use Rattle.smf_program.proofs.task.read_task.Goals as goal

pub parsed_by-requires-clause-simple : goal.parsed_by-requires-clause-simple
parsed_by-requires-clause-simple c =
    let P : App → Type 0 = λ a. IsTrue (is_simple a) in
    subst P (sym c.in-Ok.ensures) smf_is_simple

pub parsed_by-requires-clause-free : goal.parsed_by-requires-clause-free
parsed_by-requires-clause-free c =
    let P : App → Type 0 = λ a. IsTrue (is_simple_and_free a) in
    subst P (sym c.in-Ok.ensures) smf_is_free

pub returns-in-Ok-Some-clause-ok : goal.returns-in-Ok-Some-clause-ok
returns-in-Ok-Some-clause-ok c =
    reads_task _ _ c.in-Ok-Some.field-0 c.in-Ok-Some.task c.in-Ok-Some.field-0-is c.in-Ok.ensures
    c.in-Ok-Some.ensures.taken c.in-Ok-Some.ensures.task

pub returns-in-Ok-None-clause-err : goal.returns-in-Ok-None-clause-err
returns-in-Ok-None-clause-err c =
    reads_none _ _ c.in-Ok-None.field-0 c.in-Ok-None.field-0-is c.in-Ok.ensures c.in-Ok-None.ensures.taken
    c.in-Ok-None.ensures.task

pub returns-in-Err-parsed_by-clause-err : goal.returns-in-Err-parsed_by-clause-err
returns-in-Err-parsed_by-clause-err c =
    why_of _ _ c.in-Err-parsed_by.e _ c.in-Ok.ensures c.in-Err-parsed_by.ensures.err c.refusal_of.ensures
