-- A node and its children agree when both have forgotten.
use Rattle.std.proofs.Common.{◌≡◌, subst, sym}
use Rattle.smf_edge.specs.Ledgers.{Ledger, remaining}
use Rattle.smf_node.specs.Marks.{remaining_progress}
use Rattle.smf_past.specs.Remains.{remains}
use Rattle.smf_world.specs.Schedule.{Progress}
use Rattle.smf_world.specs.World.{World}
use Rattle.smf_script.specs.Agrees.{AgreesSince, Before, before_over}
use Rattle.smf_script.specs.Forgets.{AgreesAnew, HasForgotten}
use Rattle.smf_script.proofs.Beginnings.{agree_remaining}

pub agree_still : (b : Before) (w : World) (l : Ledger) → AgreesSince b w l → AgreesAnew w l
agree_still b w l a = record { before = b; agrees = a }

pub agree_forgot : (b : Before) (p q : Progress) (l m : Ledger) → HasForgotten p q l m → AgreesSince b p.world l
    → AgreesAnew q.world m
agree_forgot b p q l m f a =
    let after : Before = before_over (remains p.world).table in
    record {
      before = after;
      agrees =
          subst (λ (x : Progress). AgreesSince after x.world m) (sym f.node)
          (subst (λ (k : Ledger). AgreesSince after (remaining_progress p).world k) (sym f.kids)
          (agree_remaining b p.world l a));
    }
