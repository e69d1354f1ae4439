use Rattle.std.proofs.Common.{drop}
use Rattle.smf_engine.specs.Coverage.{CoversBut}
use Rattle.smf_engine.proofs.looked.judge_all.Given as goal

abbrev pub invariant-loop-instance : goal.invariant-loop-instance
invariant-loop-instance l = CoversBut (drop l.instance-index l.instances) l.view.items l.decided
