use Rattle.std.proofs.Common.{◌∙◌, ◌-◌, length, arith}
use Rattle.smf_lines.proofs.Ended.{kept_front}
use Rattle.smf_lines.proofs.lines.keep.Goals as goal

pub returns-clause-ok : goal.returns-clause-ok
returns-clause-ok c =
    c.in_ok-extend_from_slice.ensures.items
    ∙ kept_front c.args.line.now.items c.args.bytes.now c.min-len.result (65537 - length c.args.line.now.items)
    (omega arith) (omega arith)
