-- Methods that take too long are moves.
use Rattle.std.proofs.Common.{List, [], ◌∷◌, Bool, true, false, refl, sym, subst}
use Rattle.std.specs.declared.time.Duration.{Duration}
use Rattle.smf_script.specs.Moves.{Moves}
use Rattle.smf_script.specs.Moves.IsMove.{alone}
use Rattle.smf_script.proofs.Moves.{moves_none, moves_then, one_move}
use Rattle.smf_edge.specs.Ledgers.{Ledger}
use Rattle.smf_model.specs.declared.journal.RepoFault.{RepoFault}
use Rattle.smf_node.specs.declared.fault.NodeFault.{NodeFault}
use Rattle.smf_watch.specs.declared.watch.Due.{Due}
use Rattle.smf_watch.specs.Watched.{HaveTimedOut, StopsTiming, late_if, time_outs, timeout_of, times_out}
use Rattle.smf_world.specs.Schedule.{Progress, on}
use Rattle.smf_world.proofs.Scheduled.{on_world}

-- ---- one

if_moved : (b : Bool) (d : Due) (p : Progress) (l : Ledger) → Moves p.world (late_if b d p).world l l
if_moved true d p l =
    one_move p.world (on p (timeout_of d)).world l l
    (alone (timeout_of d) refl (on_world p (timeout_of d)) refl)
if_moved false d p l = moves_none p.world l

-- ---- all

late_moved : (now : Duration) (ds : List Due) (p : Progress) (l : Ledger)
    → Moves p.world (time_outs now ds p).world l l
late_moved now [] p l = moves_none p.world l
late_moved now (d ∷ ds) p l =
    let m : Progress = late_if (times_out now d p.world) d p in
    moves_then p.world m.world (time_outs now ds m).world l l l (if_moved (times_out now d p.world) d p l)
    (late_moved now ds m l)

pub times_moved : (now : Duration) (ds : List Due) (p q : Progress) (l : Ledger) (any : Bool)
    → HaveTimedOut now ds p q any → Moves p.world q.world l l
times_moved now ds p q l any h =
    subst (λ (x : Progress). Moves p.world x.world l l) (sym h.are) (late_moved now ds p l)

pub stopped_late : (stores : RepoFault → Type 0) (now : Duration) (ds : List Due) (p q : Progress) (l : Ledger)
    (e : NodeFault) → StopsTiming stores now ds p q e → Moves p.world q.world l l
stopped_late stores now ds p q l e h =
    subst (λ (x : Progress). Moves p.world x.world l l) (sym h.are) (late_moved now h.first p l)
