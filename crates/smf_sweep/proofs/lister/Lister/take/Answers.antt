use Rattle.std.proofs.Common.{subst}
use Rattle.smf_sweep.specs.Sweeps.{StopsRun}
use Rattle.smf_sweep.specs.declared.lister.TheConstants.{MOST}
use Rattle.smf_sweep.proofs.lister.Lister.take.Goals as goal

pub returns-in-Err : goal.returns-in-Err
returns-in-Err g c =
    record {
      stopped = subst (λ path. StopsRun g.S.Survey.tells MOST path c.args.system c.in-Err.fault)
          c.as_str.ensures.value c.in-Err.ensures.stopped;
    }
