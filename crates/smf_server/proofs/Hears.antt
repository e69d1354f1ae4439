-- Events that children give are moves.
use Rattle.std.proofs.Common.{◌≡◌, ℕ, zero, suc, Bool, None, inl, inr, refl, sym, ap, subst}
use Rattle.smf_script.specs.Moves.{Moves}
use Rattle.smf_script.specs.Moves.IsMove.{polled}
use Rattle.smf_script.proofs.Moves.{moves_none, moves_then, one_move}
use Rattle.smf_edge.specs.Answers.{Skills}
use Rattle.smf_machine.specs.Runners.{HasGiven, rules_of}
use Rattle.smf_node.specs.declared.fault.NodeFault.{NodeFault}
use Rattle.smf_node.specs.Rounds.{AreGiven, Course, NoMore, course, with_event}
use Rattle.smf_watch.specs.Watched.{HasHeard, StopsHearing}
use Rattle.smf_world.specs.Schedule.{Progress}

-- ---- they are moves

moves_to : (c d e : Course) → Moves c.progress.world d.progress.world c.seen.ledger d.seen.ledger → e ≡ d
    → Moves c.progress.world e.progress.world c.seen.ledger e.seen.ledger
moves_to c d e h is =
    subst (λ (x : Course). Moves c.progress.world x.progress.world c.seen.ledger x.seen.ledger) (sym is) h

given_moved : (k : Skills) (n : ℕ) (c d : Course) → AreGiven (rules_of k) n c d
    → Moves c.progress.world d.progress.world c.seen.ledger d.seen.ledger
given_moved k zero c d h = moves_to c c d (moves_none c.progress.world c.seen.ledger) h
given_moved k (suc n) c d h =
    let m : Course = course (with_event c.progress h.0) h.1 in
    moves_then c.progress.world m.progress.world d.progress.world c.seen.ledger m.seen.ledger d.seen.ledger
    (one_move c.progress.world m.progress.world c.seen.ledger m.seen.ledger (polled h.0 h.2 refl))
    (given_moved k n m d h.3)

still_moved : (c d : Course) → d.progress.world ≡ c.progress.world → d.seen.ledger ≡ c.seen.ledger
    → Moves c.progress.world d.progress.world c.seen.ledger d.seen.ledger
still_moved c d world kept = (zero, (world, kept))

ended_moved : (k : Skills) (n : ℕ) (c d : Course) → NoMore (rules_of k) n c d
    → Moves c.progress.world d.progress.world c.seen.ledger d.seen.ledger
ended_moved k n c d (inl h) = moves_to c c d (moves_none c.progress.world c.seen.ledger) h.1
ended_moved k n c d (inr h) = still_moved c d (ap (λ (p : Progress). p.world) h.1) (none_kept h.0)
  where
    none_kept : HasGiven k None c.seen d.seen → d.seen.ledger ≡ c.seen.ledger
    none_kept (inl none) = none.0
    none_kept (inr failed) = failed.1

pub heard_moved : (k : Skills) (c d : Course) (any : Bool) → HasHeard k c d any
    → Moves c.progress.world d.progress.world c.seen.ledger d.seen.ledger
heard_moved k c d any h =
    moves_then c.progress.world h.learned.mid.progress.world d.progress.world c.seen.ledger h.learned.mid.seen.ledger
    d.seen.ledger
    (given_moved k h.learned.count c h.learned.mid h.learned.given)
    (ended_moved k h.learned.count h.learned.mid d h.learned.ended)

pub stopped_moved : (k : Skills) (c d : Course) (e : NodeFault) → StopsHearing k c d e
    → Moves c.progress.world d.progress.world c.seen.ledger d.seen.ledger
stopped_moved k c d e (n, m, given, (why, stays)) =
    moves_then c.progress.world m.progress.world d.progress.world c.seen.ledger m.seen.ledger d.seen.ledger
    (given_moved k n c m given)
    (still_moved m d (ap (λ (p : Progress). p.world) stays.progress) stays.kept)
