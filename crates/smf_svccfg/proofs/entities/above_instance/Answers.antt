use Rattle.std.proofs.Common.{rules}
use Rattle.smf_svccfg.proofs.Above.{above_found}
use Rattle.smf_svccfg.proofs.entities.above_instance.Goals as goal

pub returns-in_ok-service-in-Some : goal.returns-in_ok-service-in-Some
returns-in_ok-service-in-Some g c =
    above_found (g.C.Client.held c.args.repository.now) c.args.number _ c.in-Some.instance
    c.in_ok-service-in-Some.service (rw (c.get.ensures.value) at c.in_ok-instance.ensures) (search rules)
    (search rules)
