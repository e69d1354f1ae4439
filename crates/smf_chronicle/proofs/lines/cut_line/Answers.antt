use Rattle.std.proofs.Common.{lit<}
use Rattle.smf_chronicle.proofs.Cuts.{split_once_cuts}
use Rattle.smf_chronicle.proofs.lines.cut_line.Goals as goal

pub returns : goal.returns
returns c = split_once_cuts 10 (lit< tt) c.args.text.now c.split_once.result c.split_once.ensures.cases
