-- How a server ends, out of what its parts do.
use Rattle.std.proofs.Common.{inl, inr, List, ℕ, Option, Some, None, sym, ap, subst}
use Rattle.smf_past.specs.Lives.{LeadsTo}
use Rattle.smf_past.proofs.RemainingWorlds.{leads_later, leads_remains}
use Rattle.smf_script.specs.declared.fault.ScriptFault.{ScriptFault}
use Rattle.smf_watch.specs.Traffic.{Passed}
use Rattle.smf_world.specs.Reached.{IsLater}
use Rattle.smf_world.specs.Schedule.{Progress}
use Rattle.smf_world.specs.World.{World}
use Rattle.smf_server.specs.Life.{HasConcluded}
use Rattle.smf_server.specs.Turns.{Between, MayHaveForgotten}

-- events, and then what went
leads_by : (w : World) (v u : Between) → LeadsTo w v.standing.course.progress.world → MayHaveForgotten v u
    → LeadsTo w u.standing.course.progress.world
leads_by w v u l (inl is) = subst (λ (x : Between). LeadsTo w x.standing.course.progress.world) (sym is) l
leads_by w v u l (inr (inl is)) =
    subst (λ (x : Between). LeadsTo w x.standing.course.progress.world) (sym is) l
leads_by w v u l (inr (inr f)) =
    leads_remains w v.standing.course.progress.world u.standing.course.progress.world l f.both.may.caught_up
    (ap (λ (p : Progress). p.world) f.both.node)

-- a turn, and what comes after it
pub leads_on : (w : World) (fault : Option ScriptFault) (last next : Option (List ℕ)) (was is : Option (List Passed))
    (mid : World) (v u : Between) → LeadsTo w mid → IsLater mid v.standing.course.progress.world
    → HasConcluded fault last next was is v u → LeadsTo w u.standing.course.progress.world
leads_on w None last next was is mid v u l later h =
    leads_by w v u
    (leads_later w mid v.standing.course.progress.world l later) h.2
leads_on w (Some fault) last next was is mid v u l later h =
    leads_by w v u
    (leads_later w mid v.standing.course.progress.world l later) (inl h.2)
