use Rattle.std.proofs.Common.{sym, ◌∙◌}
use Rattle.smf_machine.proofs.Turned.{quiet_turn, turn_as, unnumbered_turn}
use Rattle.smf_machine.proofs.parts.System.tick.Goals as goal

pub tick_spawn-requires-clause-asks : goal.tick_spawn-requires-clause-asks
tick_spawn-requires-clause-asks g c = sym c.in_ok-ask_of.ensures ∙ c.in-Spawn.is

pub returns-in-Nothing-clause-ok : goal.returns-in-Nothing-clause-ok
returns-in-Nothing-clause-ok g c =
    quiet_turn g.R.Runner.rules c.args.name.now c.args.instance _ _ _ _
    (sym c.in-Nothing.is ∙ c.in_ok-ask_of.ensures) c.answer.ensures.ok

pub returns-in-Unnumbered-clause-ok : goal.returns-in-Unnumbered-clause-ok
returns-in-Unnumbered-clause-ok g c =
    unnumbered_turn g.R.Runner.rules c.args.name.now c.args.instance _ _ _ _
    (sym c.in-Unnumbered.is ∙ c.in_ok-ask_of.ensures) c.answer-in-Unnumbered.ensures.ok

pub returns-in-Spawn-clause-ok : goal.returns-in-Spawn-clause-ok
returns-in-Spawn-clause-ok g c =
    turn_as g.R.Runner.rules c.args.name.now c.args.instance _ _ _ _ _ _
    (sym c.in-Spawn.is ∙ c.in_ok-ask_of.ensures) c.tick_spawn.ensures.ok

pub returns-in-Kill-clause-ok : goal.returns-in-Kill-clause-ok
returns-in-Kill-clause-ok g c =
    turn_as g.R.Runner.rules c.args.name.now c.args.instance _ _ _ _ _ _
    (sym c.in-Kill.is ∙ c.in_ok-ask_of.ensures) c.tick_kill.ensures.ok
