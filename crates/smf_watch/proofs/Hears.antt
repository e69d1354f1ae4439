-- Events that children give, one after another.
use Rattle.std.proofs.Common.{◌≡◌, ◌<◌, ◌+◌, ℕ, zero, suc, Bool, true, false, not, nat_lt, is_some, Option, Some, None, Result, IfErr, inl, inr, refl, sym, ap, ◌∙◌, subst, arith}
use Rattle.std.proofs.lemmas.Bool.{lt-ltb}
use Rattle.std.specs.Result.{IsErrAnd}
use Rattle.smf_contract.specs.declared.event.ContractEvent.{ContractEvent}
use Rattle.smf_edge.specs.Answers.{Seen, Skills}
use Rattle.smf_machine.specs.declared.polls.News.{News}
use Rattle.smf_machine.specs.Children.{world_after_news, world_after_poll, news_of}
use Rattle.smf_machine.specs.Runners.{Rules, rules_of}
use Rattle.smf_node.specs.declared.fault.NodeFault.{NodeFault}
use Rattle.smf_node.specs.declared.fault.NodeFault.TheVariants.{Memory}
use Rattle.smf_node.specs.Partly.{Stays}
use Rattle.smf_node.specs.declared.runners.TheConstants.{MAX_POLLS}
use Rattle.smf_node.specs.Rounds.{AreGiven, Course, course, with_event, with_world}
use Rattle.smf_watch.specs.Watched.{HasHeard, StopsHearing}
use Rattle.smf_watch.proofs.FaultExits.{passed_on}
use Rattle.smf_world.specs.declared.event.Event.TheVariants as events
use Rattle.smf_world.specs.Reached.{IsLater}
use Rattle.smf_world.specs.Schedule.{Progress}
use Rattle.smf_world.specs.World.{World}
use Rattle.smf_world.proofs.LaterWorlds.{later_by, later_same, later_self, later_then}

-- ---- one event

later_happened : (o : Option News) (w v : World) → v ≡ world_after_news o w → IsLater w v
later_happened None w v is = later_same w v is
later_happened (Some n) w v is = later_by w v (events.Process n.process n.what) is

pub later_heard : (o : Option ContractEvent) (p q : Progress) → q ≡ with_world p (world_after_poll o p.world)
    → IsLater p.world q.world
later_heard None p q is = later_same p.world q.world (ap (λ (x : Progress). x.world) is)
later_heard (Some e) p q is =
    later_happened (news_of p.world.table e) p.world q.world (ap (λ (x : Progress). x.world) is)

-- ---- so many events

given_last : (r : Rules) (k : ℕ) (c : Course) (p : Progress) (s t : Seen) (e : ContractEvent)
    → AreGiven r k c (course p s) → r.polls (Some e) s t → AreGiven r (suc k) c (course (with_event p e) t)
given_last r zero c p s t e h poll = (
  e,
  t,
  subst (λ (x : Course). r.polls (Some e) x.seen t) h poll,
  subst (λ (x : Course). course (with_event p e) t ≡ course (with_event x.progress e) t) h refl,
)
given_last r (suc k) c p s t e h poll =
    (h.0, h.1, h.2, given_last r k (course (with_event c.progress h.0) h.1) p s t e h.3 poll)

-- children gave so many events; that is whether any was given
pub record HaveGiven (k : Skills) (count : ℕ) (c d : Course) (any : Bool) : Type 0 where
  pub given : AreGiven (rules_of k) count c d
  pub told : any ≡ nat_lt 0 count
  pub later : IsLater c.progress.world d.progress.world

pub given_none : (k : Skills) (c : Course) → HaveGiven k 0 c c false
given_none k c = record { given = refl; told = refl; later = later_self c.progress.world }

given_more : (k : Skills) (n : ℕ) (c : Course) (p q : Progress) (s t : Seen) (o : Option ContractEvent)
    (e : ContractEvent) (any : Bool) → HaveGiven k n c (course p s) any → o ≡ Some e → (rules_of k).polls o s t
    → q ≡ with_world p (world_after_poll o p.world)
    → HaveGiven k (n + 1) c (course q t) true
given_more k n c p q s t o e any h some poll is =
    let next : suc n ≡ n + 1 = omega arith in
    let at : q ≡ with_event p e =
    is ∙ ap (λ (x : Option ContractEvent). with_world p (world_after_poll x p.world)) some in
    let one : (rules_of k).polls (Some e) s t =
    subst (λ (x : Option ContractEvent). (rules_of k).polls x s t) some poll in
    record {
      given = subst (λ (m : ℕ). AreGiven (rules_of k) m c (course q t)) next
          (subst (λ (x : Progress). AreGiven (rules_of k) (suc n) c (course x t)) (sym at)
          (given_last (rules_of k) n c p s t e h.given one));
      told = sym (lt-ltb 0 (n + 1) (omega arith));
      later = later_then c.progress.world p.world q.world h.later (later_heard o p q is);
    }

pub given_on : (k : Skills) (n : ℕ) (c : Course) (p q : Progress) (s t : Seen) (o : Option ContractEvent)
    (b any : Bool) → HaveGiven k n c (course p s) any → is_some o ≡ not b → b ≡ false → (rules_of k).polls o s t
    → q ≡ with_world p (world_after_poll o p.world)
    → HaveGiven k (n + 1) c (course q t) true
given_on k n c p q s t None b any h found is poll at = absurd cc
given_on k n c p q s t (Some e) b any h found is poll at = given_more k n c p q s t (Some e) e any h refl poll at

pub heard_quiet : (k : Skills) (n : ℕ) (c : Course) (p q : Progress) (s t : Seen) (o : Option ContractEvent)
    (b any : Bool) → HaveGiven k n c (course p s) any → n < MAX_POLLS → is_some o ≡ not b → b ≡ true
    → (rules_of k).polls o s t → q ≡ with_world p (world_after_poll o p.world)
    → HasHeard k c (course q t) any
heard_quiet k n c p q s t (Some e) b any h low found is poll at = absurd cc
heard_quiet k n c p q s t None b any h low found is poll at =
    record {
      learned = record {
        count = n;
        mid = course p s;
        given = h.given;
        few = omega (arith, low);
        ended = inr (poll, at);
      };
      told = h.told;
    }

pub heard_most : (k : Skills) (n : ℕ) (c d : Course) (any : Bool) → HaveGiven k n c d any → n ≡ MAX_POLLS
    → HasHeard k c d any
heard_most k n c d any h is =
    record {
      learned = record {
        count = n;
        mid = d;
        given = h.given;
        few = omega (arith, is);
        ended = inl (is, refl);
      };
      told = h.told;
    }

-- memory ran out
pub heard_some : {X : Type 0} (k : Skills) (n : ℕ) (c d e : Course) (any : Bool) (f : NodeFault)
    (a : Result X NodeFault) → HaveGiven k n c d any → f ≡ Memory → Stays d e → IsErrAnd a (λ y. y ≡ f)
    → IfErr a (λ y. StopsHearing k c e y)
heard_some k n c d e any f a h why stays told =
    passed_on a f (λ y. StopsHearing k c e y) told (n, d, h.given, (why, stays))
