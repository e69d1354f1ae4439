-- Rounds until it is quiet.
use Rattle.std.proofs.Common.{◌≡◌, ◌<◌, ℕ, zero, suc, ◌+◌, ◌-◌, Bool, true, false, refl, sym, ◌∙◌, subst, inl, inr, arith, Result, IfErr}
use Rattle.std.specs.Result.{IsErrAnd}
use Rattle.smf_edge.specs.Answers.{Seen}
use Rattle.smf_machine.specs.Runners.{Rules}
use Rattle.smf_model.specs.declared.journal.RepoFault.{RepoFault}
use Rattle.smf_node.proofs.Done.{stays_same}
use Rattle.smf_node.proofs.FaultExits.{passed_on}
use Rattle.smf_node.specs.declared.fault.NodeFault.{NodeFault}
use Rattle.smf_node.specs.declared.fault.NodeFault.TheVariants.{Memory}
use Rattle.smf_node.specs.Partly.{LacksMemory, RoundFails, SettleFails}
use Rattle.smf_node.specs.Rounds.{AreRounds, Course, GoesOn, HasSettled, IsRound, course}
use Rattle.smf_world.specs.declared.schedule.Settled.{Settled}
use Rattle.smf_world.specs.declared.schedule.Settled.TheVariants.{Quiet, Busy}
use Rattle.smf_world.specs.Schedule.{Progress, is_quiet}

abbrev Stores : Type 1
Stores = RepoFault → Type 0

-- so many rounds that left it busy were made: what is left makes the whole, and they are so many
pub record RoundsGo (r : Rules) (rounds made : ℕ) (c d : Course) : Type 0 where
  pub on : (e : Course) (how : Settled) → AreRounds r (rounds - made) d e how → AreRounds r rounds c e how
  pub busy : AreRounds r made c d Busy

pub rounds_none : (r : Rules) (rounds : ℕ) (c : Course) → RoundsGo r rounds 0 c c
rounds_none r rounds c =
    let all : rounds - 0 ≡ rounds = omega arith in
    record { on = λ e how h. subst (λ (n : ℕ). AreRounds r n c e how) all h; busy = (refl, refl) }

quiet_then : (b : Bool) (more : Type 0) (d : Course) → b ≡ true → GoesOn b more d d Quiet
quiet_then true more d e = (refl, refl)
quiet_then false more d e = absurd cc

busy_then : (b : Bool) (more : Type 0) (d e : Course) (how : Settled) → b ≡ false → more → GoesOn b more d e how
busy_then true more d e how is h = absurd cc
busy_then false more d e how is h = h

quiet_is_busy : Quiet ≡ Busy → ⊥
quiet_is_busy e = absurd cc

-- a busy round after busy rounds
goes_more : (r : Rules) (made : ℕ) (c d e : Course) → AreRounds r made c d Busy → IsRound r d e
    → is_quiet e.progress.world ≡ false → AreRounds r (suc made) c e Busy
goes_more r zero c d e h round busy = (
  e,
  subst (λ (x : Course). IsRound r x e) h.0 round,
  busy_then (is_quiet e.progress.world) (AreRounds r zero e e Busy) e e Busy busy (refl, refl),
)
goes_more r (suc made) c d e h round busy =
    (h.0, h.1, by (is_quiet h.0.progress.world) h.2 (λ rest. goes_more r made h.0 d e rest round busy))
  where
    by : (b : Bool) → GoesOn b (AreRounds r made h.0 d Busy) h.0 d Busy
        → (AreRounds r made h.0 d Busy → AreRounds r (suc made) h.0 e Busy)
        → GoesOn b (AreRounds r (suc made) h.0 e Busy) h.0 e Busy
    by true g more = absurd (quiet_is_busy (sym g.1))
    by false g more = more g

pub rounds_more : (r : Rules) (rounds made : ℕ) (c : Course) (p q : Progress) (s t : Seen) (b : Bool)
    → RoundsGo r rounds made c (course p s) → made < rounds → IsRound r (course p s) (course q t)
    → b ≡ is_quiet q.world → b ≡ false
    → RoundsGo r rounds (made + 1) c (course q t)
rounds_more r rounds made c p q s t b g low round quiet busy =
    let left : rounds - made ≡ suc (rounds - (made + 1)) = omega (arith, low) in
    let next : suc made ≡ made + 1 = omega arith in
    record {
      on = λ e how more. g.on e how
          (subst (λ (k : ℕ). AreRounds r k (course p s) e how) (sym left) (
            course q t,
            round,
            busy_then (is_quiet q.world) (AreRounds r (rounds - (made + 1)) (course q t) e how) (course q t) e how
                (sym quiet ∙ busy) more,
          ));
      busy = subst (λ (k : ℕ). AreRounds r k c (course q t) Busy) next
          (goes_more r made c (course p s) (course q t) g.busy round (sym quiet ∙ busy));
    }

pub rounds_quiet : (r : Rules) (rounds made : ℕ) (c : Course) (p q : Progress) (s t : Seen) (b : Bool)
    → RoundsGo r rounds made c (course p s) → made < rounds → IsRound r (course p s) (course q t)
    → b ≡ is_quiet q.world → b ≡ true
    → HasSettled r rounds c (course q t) Quiet
rounds_quiet r rounds made c p q s t b g low round quiet seen =
    let left : rounds - made ≡ suc (rounds - (made + 1)) = omega (arith, low) in
    record {
      made = g.on (course q t) Quiet
          (subst (λ (k : ℕ). AreRounds r k (course p s) (course q t) Quiet) (sym left) (
            course q t,
            round,
            quiet_then (is_quiet q.world) (AreRounds r (rounds - (made + 1)) (course q t) (course q t) Quiet)
                (course q t) (sym quiet ∙ seen),
          ));
    }

pub rounds_out : (r : Rules) (rounds made : ℕ) (c d : Course) → RoundsGo r rounds made c d → made ≡ rounds
    → HasSettled r rounds c d Busy
rounds_out r rounds made c d g is =
    let none : rounds - made ≡ 0 = omega (arith, is) in
    record { made = g.on d Busy (subst (λ (k : ℕ). AreRounds r k d d Busy) (sym none) (refl, refl)) }

-- ---- what a fault leaves

pub round_failed : (r : Rules) (fails : Stores) (rounds made : ℕ) (c d e : Course) (f : NodeFault)
    → RoundsGo r rounds made c d → made < rounds → RoundFails r fails d e f → SettleFails r fails rounds c e f
round_failed r fails rounds made c d e f g low h =
    record { full = made; reached = d; fewer = low; busy = g.busy; ends = inl h }

pub memory_failed : (r : Rules) (fails : Stores) (rounds made : ℕ) (c d m e : Course) (f : NodeFault)
    → RoundsGo r rounds made c d → made < rounds → IsRound r d m → LacksMemory m e f → SettleFails r fails rounds c e f
memory_failed r fails rounds made c d m e f g low round h =
    record { full = made; reached = d; fewer = low; busy = g.busy; ends = inr (m, round, h) }

-- a view that is kept changes nothing
pub round_kept : (r : Rules) (c : Course) (p q : Progress) (t : Seen) → IsRound r c (course p t) → q ≡ p
    → IsRound r c (course q t)
round_kept r c p q t round same = subst (λ (x : Progress). IsRound r c (course x t)) (sym same) round

pub memory_after : {X : Type 0} (r : Rules) (fails : Stores) (rounds made : ℕ) (c d : Course) (p q : Progress)
    (t : Seen) (a : Result X NodeFault) → RoundsGo r rounds made c d → made < rounds → IsRound r d (course p t) → q ≡ p
    → IsErrAnd a (λ y. y ≡ Memory) → IfErr a (λ e. SettleFails r fails rounds c (course q t) e)
memory_after r fails rounds made c d p q t a g low round same told =
    passed_on a Memory (λ e. SettleFails r fails rounds c (course q t) e) told
    (memory_failed r fails rounds made c d (course p t) (course q t) Memory g low round (refl, stays_same p q t same))
