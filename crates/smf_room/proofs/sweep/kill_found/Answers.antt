use Rattle.std.proofs.Common.{List, ℕ, ◌==◌, length, sym, ◌∙◌, ap}
use Rattle.smf_room.specs.Sweeps.{IsKill}
use Rattle.smf_room.specs.Tellings.{Did, Done, Killed, Unsure, deed}
use Rattle.smf_room.proofs.Hearing.{call_as, lost_of, on_err, one_lost}
use Rattle.smf_room.proofs.Sweeping.{could_kill, not_nil}
use Rattle.smf_room.proofs.sweep.kill_found.Goals as goal

pub returns-in_err-kill-clause-lost : goal.returns-in_err-kill-clause-lost
returns-in_err-kill-clause-lost g c =
    on_err c.from_residual.result
    (lost_of (IsKill c.args.id c.args.found.now.items)
    (could_kill c.args.id c.args.found.now.items
    (not_nil c.args.found.now.items c.is_empty.result
    (c.is_empty.ensures ∙ ap (λ (n : ℕ). n == 0) (sym c.deref.ensures.len ∙ ap length c.deref.ensures.value)) c.if-is_empty.false))
    (one_lost (Did (deed (Killed c.args.id c.args.found.now.items) Done))
    (call_as (λ (ns : List ℕ). Did (deed (Killed c.args.id ns) Unsure)) c.deref.ensures.value
    c.in_err-kill.ensures.lost)))
