use Rattle.std.proofs.Common.{refl}
use Rattle.smf_machine.proofs.Turned.{at_most_none, turned_parts}
use Rattle.smf_machine.proofs.Worlds.{on_err, same_world}
use Rattle.smf_machine.proofs.turns.kill_with.Goals as goal

pub returns-in_err-rest-clause-err : goal.returns-in_err-rest-clause-err
returns-in_err-rest-clause-err g c = λ h. on_err _ (same_world h h _ _ refl c.prepare.ensures.same)

pub returns-in_err-did-clause-err : goal.returns-in_err-did-clause-err
returns-in_err-did-clause-err g c = λ h. on_err _ (same_world h h _ _ refl c.prepare.ensures.same)

pub returns-clause-made : goal.returns-clause-made
returns-clause-made g c =
    λ h. turned_parts c.in_ok-did.did c.in_ok-did.did h c.args.parts.now c.prepare.new.parts c.install_if.new.parts
    c.args.work c.in_ok-rest.rest
    refl c.in_ok-rest.ensures.rest c.prepare.ensures.same c.install_if.ensures c.requires.plain
    (at_most_none _ c.requires.command) c.requires.patches
