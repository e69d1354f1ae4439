-- Events that children give, one after another.
use Rattle.std.proofs.Common.{◌≡◌, ◌<◌, ◌+◌, ℕ, zero, suc, Bool, false, not, is_some, Option, Some, None, Result, IfErr, inl, inr, refl, sym, ap, ◌∙◌, subst, arith}
use Rattle.std.specs.Result.{IsErrAnd}
use Rattle.smf_contract.specs.declared.event.ContractEvent.{ContractEvent}
use Rattle.smf_edge.specs.Answers.{Seen}
use Rattle.smf_machine.specs.Children.{world_after_poll}
use Rattle.smf_machine.specs.Runners.{Rules}
use Rattle.smf_node.proofs.FaultExits.{passed_on}
use Rattle.smf_node.specs.declared.fault.NodeFault.{NodeFault}
use Rattle.smf_node.specs.declared.fault.NodeFault.TheVariants.{Memory}
use Rattle.smf_node.specs.declared.runners.TheConstants.{MAX_POLLS}
use Rattle.smf_node.specs.Partly.{EntryFails, LacksMemory, Stays}
use Rattle.smf_node.specs.Rounds.{AreGiven, Course, HasLearned, course, with_event, with_world}
use Rattle.smf_world.specs.declared.schedule.Turn.TheVariants as turns
use Rattle.smf_world.specs.Schedule.{Progress}

-- so many events were given, each when one was asked for
pub record HaveGiven (r : Rules) (count : ℕ) (c d : Course) : Type 0 where
  pub given : AreGiven r count c d

pub given_none : (r : Rules) (c : Course) → HaveGiven r 0 c c
given_none r c = record { given = refl }

given_last : (r : Rules) (k : ℕ) (c : Course) (p : Progress) (s t : Seen) (e : ContractEvent)
    → AreGiven r k c (course p s) → r.polls (Some e) s t → AreGiven r (suc k) c (course (with_event p e) t)
given_last r zero c p s t e h poll = (
  e,
  t,
  subst (λ (x : Course). r.polls (Some e) x.seen t) h poll,
  subst (λ (x : Course). course (with_event p e) t ≡ course (with_event x.progress e) t) h refl,
)
given_last r (suc k) c p s t e h poll =
    (h.0, h.1, h.2, given_last r k (course (with_event c.progress h.0) h.1) p s t e h.3 poll)

pub given_more : (r : Rules) (k : ℕ) (c : Course) (p q : Progress) (s t : Seen) (o : Option ContractEvent)
    (e : ContractEvent) → HaveGiven r k c (course p s) → o ≡ Some e → r.polls o s t
    → q ≡ with_world p (world_after_poll o p.world)
    → HaveGiven r (k + 1) c (course q t)
given_more r k c p q s t o e h some poll is =
    let next : suc k ≡ k + 1 = omega arith in
    let at : q ≡ with_event p e =
    is ∙ ap (λ (x : Option ContractEvent). with_world p (world_after_poll x p.world)) some in
    let one : r.polls (Some e) s t = subst (λ (x : Option ContractEvent). r.polls x s t) some poll in
    record {
      given = subst (λ (n : ℕ). AreGiven r n c (course q t)) next
          (subst (λ (x : Progress). AreGiven r (suc k) c (course x t)) (sym at) (given_last r k c p s t e h.given one));
    }

pub given_on : (r : Rules) (k : ℕ) (c : Course) (p q : Progress) (s t : Seen) (o : Option ContractEvent) (b : Bool)
    → HaveGiven r k c (course p s) → is_some o ≡ not b → b ≡ false → r.polls o s t
    → q ≡ with_world p (world_after_poll o p.world)
    → HaveGiven r (k + 1) c (course q t)
given_on r k c p q s t None b h found is poll at = absurd cc
given_on r k c p q s t (Some e) b h found is poll at = given_more r k c p q s t (Some e) e h refl poll at

-- a call for an event that failed
pub poll_lacks : {X : Type 0} (r : Rules) (k : ℕ) (c d e : Course) (f : NodeFault) (a : Result X NodeFault)
    → HaveGiven r k c d → f ≡ Memory → Stays d e → IsErrAnd a (λ y. y ≡ f)
    → IfErr a (λ y. EntryFails r turns.Reports c e y)
poll_lacks r k c d e f a h is stays told =
    passed_on a f (λ y. EntryFails r turns.Reports c e y) told (d, inl (k, h.given), (is, stays))

pub learned_quiet : (r : Rules) (k : ℕ) (c : Course) (p q : Progress) (s t : Seen) (o : Option ContractEvent)
    → HaveGiven r k c (course p s) → k < MAX_POLLS → o ≡ None → r.polls o s t
    → q ≡ with_world p (world_after_poll o p.world) → HasLearned r c (course q t)
learned_quiet r k c p q s t o h low none poll is =
    record {
      count = k;
      mid = course p s;
      given = h.given;
      few = omega (arith, low);
      ended = inr (
        subst (λ (x : Option ContractEvent). r.polls x s t) none poll,
        is
            ∙ ap (λ (x : Option ContractEvent). with_world p (world_after_poll x p.world)) none,
      );
    }

pub learned_most : (r : Rules) (k : ℕ) (c d : Course) → HaveGiven r k c d → k ≡ MAX_POLLS → HasLearned r c d
learned_most r k c d h is =
    record { count = k; mid = d; given = h.given; few = omega (arith, is); ended = inl (is, refl) }

pub poll_failed : (r : Rules) (k : ℕ) (c : Course) (d e : Course) (f : NodeFault) → HaveGiven r k c d
    → LacksMemory d e f → EntryFails r turns.Reports c e f
poll_failed r k c d e f h lacks = (d, inl (k, h.given), lacks)

pub look_failed : (r : Rules) (c d e : Course) (f : NodeFault) → HasLearned r c d → LacksMemory d e f
    → EntryFails r turns.Reports c e f
look_failed r c d e f h lacks = (d, inr h, lacks)
