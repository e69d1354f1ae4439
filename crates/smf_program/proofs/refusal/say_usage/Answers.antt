use Rattle.smf_program.specs.Refusals.{heading}
use Rattle.smf_program.proofs.Told.{both_written}
use Rattle.smf_program.proofs.refusal.say_usage.Goals as goal

pub returns-clause-ok : goal.returns-clause-ok
returns-clause-ok g c =
    both_written c.write_text-2.result _ _ _ heading _ c.args.why.now c.as_bytes.ensures.value
    c.in_ok-write_text.ensures.ok c.write_text-2.ensures.ok
