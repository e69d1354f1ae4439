use Rattle.std.proofs.Common.{ap, ◌∙◌, flat_map}
use Rattle.std.proofs.lemmas.Iterator.Splits.{YieldsList-from_lines}
use Rattle.std.proofs.lemmas.Iterator.Consumers.{YieldsList-end}
use Rattle.std.specs.Str.Iter.{lines_rest}
use Rattle.smf_ask.specs.Answers.{line_if, lines_if}
use Rattle.smf_ask.proofs.answer.lines_if.Goals as goal

pub returns : goal.returns
unfolding lines_if
returns c =
    let t = YieldsList-end (YieldsList-from_lines c.args.text.now (ap lines_rest c.into_iter-line-iterator.ensures.into_iter_gives ∙ c.lines-line-items.ensures.rest)) c.loop-line.yielded _ c.loop-line.yielded_by _ _ c.in-None.is c.next.ensures.steps in
    c.loop-line.invariant ∙ ap (flat_map (line_if c.args.refused)) t.0
