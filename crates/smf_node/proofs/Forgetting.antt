-- A node may forget if its machine may, and all was told.
use Rattle.std.proofs.Common.{◌≡◌, Option, Some, None, Result, Ok, Err, IfOk, IfSome, true, subst, sym, ap}
use Rattle.std.specs.declared.alloc.AllocError.{AllocError}
use Rattle.smf_machine.specs.declared.parts.Remains.{Remains}
use Rattle.smf_machine.specs.Remains.{AreRemainsOf}
use Rattle.smf_past.specs.Forgotten.{IsCaughtUp}
use Rattle.smf_world.specs.Schedule.{Progress}
use Rattle.smf_world.specs.World.{World}
use Rattle.smf_node.specs.declared.marks.Marks.{Marks}
use Rattle.smf_node.specs.Marks.{MayForget, is_told, progress_of}

pub may_forget : (p : Progress) (w : World) (r : Result (Option Remains) AllocError) → w ≡ p.world
    → is_told p ≡ true
    → IfOk r (λ some. IfSome some (λ rest. IsCaughtUp w × AreRemainsOf w rest))
    → IfOk r (λ some. IfSome some (λ rest. MayForget p × AreRemainsOf p.world rest))
may_forget p w (Err e) is told h = tt
may_forget p w (Ok None) is told h = tt
may_forget p w (Ok (Some rest)) is told h = (
  record { told = told; caught_up = subst IsCaughtUp is h.0 },
  subst (λ (v : World). AreRemainsOf v rest) is h.1,
)

pub world_in : (w : World) (m : Marks) (p : Progress) → progress_of w m ≡ p → w ≡ p.world
unfolding progress_of
world_in w m p e = ap (λ (q : Progress). q.world) e
