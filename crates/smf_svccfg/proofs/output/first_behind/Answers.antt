use Rattle.smf_fmri.proofs.Places.{belongs_within, stands_within}
use Rattle.smf_model.specs.Look.{by_name}
use Rattle.std.proofs.Common.{arith}
use Rattle.smf_svccfg.proofs.Children.{belongs, stands}
use Rattle.smf_svccfg.proofs.output.first_behind.Goals as goal

pub returns-in-Ok-clause-lines : goal.returns-in-Ok-clause-lines
returns-in-Ok-clause-lines c = stands c.args.prefix.now c.in-Ok.at c.args.names.now c.in-Ok.ensures.found c.requires

pub returns-in-Ok-clause-within : goal.returns-in-Ok-clause-within
returns-in-Ok-clause-within c =
    omega (arith, stands_within by_name c.args.prefix.now c.in-Ok.at c.args.names.now c.in-Ok.ensures.found)

pub returns-in-Err-clause-lines : goal.returns-in-Err-clause-lines
returns-in-Err-clause-lines c =
    belongs c.args.prefix.now c.in-Err.at c.args.names.now c.in-Err.ensures.absent c.requires

pub returns-in-Err-clause-within : goal.returns-in-Err-clause-within
returns-in-Err-clause-within c =
    belongs_within by_name c.args.prefix.now c.in-Err.at c.args.names.now c.in-Err.ensures.absent
