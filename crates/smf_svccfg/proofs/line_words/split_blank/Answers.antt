use Rattle.std.proofs.Common.{◌≡◌, ◌∙◌, ap, arith}
use Rattle.std.specs.List.{position_or_len}
use Rattle.std.proofs.lemmas.Str.{IsCharBoundary-before_ascii, IsCharBoundary-after_ascii}
use Rattle.smf_svccfg.specs.Words.{is_blank}
use Rattle.smf_svccfg.proofs.Blanks.{blank_is_ascii, parts_are, whole_part}
use Rattle.smf_svccfg.proofs.line_words.split_blank.Goals as goal

pub returns-then-at-text-clause-parts : goal.returns-then-at-text-clause-parts
returns-then-at-text-clause-parts c =
    let at_first : c.blank_at-at.result ≡ position_or_len is_blank c.args.text.now =
    c.blank_at-at.ensures ∙ ap (position_or_len is_blank) c.as_bytes.ensures.value in
    whole_part c.args.text.now c.blank_at-at.result at_first (omega arith)

pub range-requires-clause-end_boundary : goal.range-requires-clause-end_boundary
range-requires-clause-end_boundary c =
    let at_first : c.blank_at-at.result ≡ position_or_len is_blank c.args.text.now =
    c.blank_at-at.ensures ∙ ap (position_or_len is_blank) c.as_bytes.ensures.value in
    IsCharBoundary-before_ascii c.args.text.now c.blank_at-at.result (omega arith)
    (blank_is_ascii c.args.text.now c.blank_at-at.result at_first (omega arith))

pub range_from-requires : goal.range_from-requires
range_from-requires c = λ _.
    let at_first : c.blank_at-at.result ≡ position_or_len is_blank c.args.text.now =
    c.blank_at-at.ensures ∙ ap (position_or_len is_blank) c.as_bytes.ensures.value in
    IsCharBoundary-after_ascii c.args.text.now c.blank_at-at.result c.utf8.text (omega arith)
    (blank_is_ascii c.args.text.now c.blank_at-at.result at_first (omega arith))

pub returns-clause-parts : goal.returns-clause-parts
returns-clause-parts c =
    let at_first : c.blank_at-at.result ≡ position_or_len is_blank c.args.text.now =
    c.blank_at-at.ensures ∙ ap (position_or_len is_blank) c.as_bytes.ensures.value in
    parts_are c.args.text.now c.range.result.now c.range_from.result.now c.blank_at-at.result at_first
    (omega arith) c.range.ensures.value c.range_from.ensures.value
