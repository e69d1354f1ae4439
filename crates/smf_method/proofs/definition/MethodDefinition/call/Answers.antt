use Rattle.smf_method.proofs.Replaced.{call_found}
use Rattle.smf_method.proofs.definition.MethodDefinition.call.Goals as goal

pub returns-clause-found : goal.returns-clause-found
returns-clause-found c =
    call_found c.make_call.result c.args.self.now c.args.restarter.now c.args.instance.now c.exec-exec.ensures.checked
    c.make_call.ensures
