use Rattle.std.proofs.Common.{⊎_elim, ◌∙◌, ap, arith, Some}
use Rattle.std.proofs.lemmas.Bool.{cases_Bool}
use Rattle.std.specs.Str.{is_utf8}
use Rattle.std.proofs.lemmas.Str.{IsUtf8-from_is_utf8, is_utf8-from_IsUtf8}
use Rattle.smf_lines.proofs.Texts.{none_long, none_of_bytes, text_short}
use Rattle.smf_lines.proofs.text.text_in.Goals as goal

pub returns-in-Ok : goal.returns-in-Ok
returns-in-Ok c = ap Some c.in-Ok.ensures.cases.0
    ∙ text_short c.args.line.now (omega arith) (is_utf8-from_IsUtf8 _ c.in-Ok.ensures.cases.1)

pub returns-in-Err : goal.returns-in-Err
returns-in-Err c =
    ⊎_elim
    (λ yes. absurd (c.in-Err.ensures.cases.0 (IsUtf8-from_is_utf8 _ yes)))
    (λ no. none_of_bytes c.args.line.now (omega arith) no)
    (cases_Bool (is_utf8 c.args.line.now))

pub returns-then-line-gt-MAX_LINE : goal.returns-then-line-gt-MAX_LINE
returns-then-line-gt-MAX_LINE c = none_long _ (omega arith)
