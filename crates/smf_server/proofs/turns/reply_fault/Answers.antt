use Rattle.std.proofs.Common.{inl, inr}
use Rattle.smf_server.proofs.turns.reply_fault.Goals as goal

pub returns-in-Ok-clause-told : goal.returns-in-Ok-clause-told
returns-in-Ok-clause-told g c =
    record {
      said = c.add_fault.new.text.items;
      says = inl c.in-Ok.ensures;
      written = c.reply-is_written.result;
      passed = rw c.deref.ensures.value at c.reply-is_written.ensures.passed;
    }

pub returns-clause-told : goal.returns-clause-told
returns-clause-told g c =
    record {
      said = c.fault_text.result.now;
      says = inr c.fault_text.ensures;
      written = c.reply-is_written-in-Err.result;
      passed = rw c.as_bytes.ensures.value at c.reply-is_written-in-Err.ensures.passed;
    }
