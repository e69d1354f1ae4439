use Rattle.std.proofs.Common.{◌≡◌, List, ℕ, Result, Ok, Err, IfOk}
use Rattle.smf_wire.specs.declared.fault.WireFault.{WireFault}
use Rattle.smf_wire.specs.declared.message.Message.{Message}
use Rattle.smf_wire.specs.Grammar.{GivesMessage, read_line}
use Rattle.smf_wire.specs.Lines.{IsSpelled, line_text}
use Rattle.smf_wire.proofs.Whole.{line_is_read, line_spelled, line_text_was}
use Rattle.smf_wire.proofs.decoder.decode.Goals as goal

found : (r : Result Message WireFault) (line : List ℕ) → GivesMessage r (read_line line)
    → IfOk r (λ m. line ≡ line_text m)
found (Ok m) line h = line_text_was line m h
found (Err e) line h = tt

spelled : (r : Result Message WireFault) (line : List ℕ) → GivesMessage r (read_line line) → IfOk r IsSpelled
spelled (Ok m) line h = line_spelled line m h
spelled (Err e) line h = tt

pub returns-clause-found : goal.returns-clause-found
returns-clause-found c = found c.read_line.result c.args.line.now c.read_line.ensures

pub returns-clause-spelled : goal.returns-clause-spelled
returns-clause-spelled c = spelled c.read_line.result c.args.line.now c.read_line.ensures

pub returns-clause-only : goal.returns-clause-only
returns-clause-only c = λ m has same. rw (same, line_is_read m has.typed has.spelled) at c.read_line.ensures
