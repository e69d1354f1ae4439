use Rattle.smf_svccfg.proofs.Judgements.{comes_fit}
use Rattle.smf_svccfg.proofs.judgement.judge.Goals as goal

pub returns-clause-fits : goal.returns-clause-fits
returns-clause-fits g c =
    comes_fit (g.C.Client.held c.args.repository.now) c.args.selection.now c.args.line.now c.judge_exact.result
    c.judge_exact.ensures
