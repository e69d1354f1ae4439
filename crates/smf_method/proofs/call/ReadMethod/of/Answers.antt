use Rattle.smf_method.specs.Tokens.{names_of}
use Rattle.smf_method.proofs.ReadOrDefined.{read_found}
use Rattle.smf_method.proofs.call.ReadMethod.of.Goals as goal

pub returns-clause-found : goal.returns-clause-found
returns-clause-found c =
    read_found c.read.result c.args.composed.now (names_of c.args.restarter.now c.args.method c.args.instance.now)
    c.read.ensures
