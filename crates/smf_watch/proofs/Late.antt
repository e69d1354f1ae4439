-- Methods that are watched, and those that took too long, one after another.
use Rattle.std.proofs.Common.{◌≡◌, ◌<◌, ◌+◌, ℕ, List, [], ◌∷◌, ◌++◌, length, get_or, drop, Bool, true, false, ◌||◌, refl, sym, ap, ◌∙◌, subst, append_assoc}
use Rattle.std.specs.declared.time.Duration.{Duration}
use Rattle.smf_model.specs.declared.journal.RepoFault.{RepoFault}
use Rattle.smf_node.specs.declared.fault.NodeFault.{NodeFault}
use Rattle.smf_restarter.specs.declared.known.KnownInstance.{KnownInstance}
use Rattle.smf_watch.specs.declared.watch.Due.{Due}
use Rattle.smf_watch.specs.Watched.{IsUntimed, StopsTiming, any_late, dues_among, dues_by, dues_in, dues_of, late_if, time_outs, timed_method, timeout_of, times_out}
use Rattle.smf_watch.proofs.Hasty.{left_at}
use Rattle.smf_world.specs.Reached.{IsLater}
use Rattle.smf_world.specs.Schedule.{Progress}
use Rattle.smf_world.specs.Worked.{restarter}
use Rattle.smf_world.specs.World.{World}
use Rattle.smf_world.proofs.LaterWorlds.{later_by, later_self, later_then}
use Rattle.smf_world.proofs.Scheduled.{on_world}

-- ---- what is watched

pub one_due : (now : Duration) (old : List Due) (name : List ℕ) (ks : List KnownInstance) (i : ℕ) (k : KnownInstance)
    (dues new all : List Due) → i < length ks → k ≡ get_or ks i k
    → new ≡ dues ++ dues_by now old name k.instance (timed_method k.phase)
    → dues ++ dues_of now old name (drop i ks) ≡ all → new ++ dues_of now old name (drop (i + 1) ks) ≡ all
one_due now old name ks i k dues new all low at made so_far =
    ap (λ (xs : List Due). xs ++ dues_of now old name (drop (i + 1) ks)) made
    ∙ append_assoc dues (dues_by now old name k.instance (timed_method k.phase))
    (dues_of now old name (drop (i + 1) ks))
    ∙ ap (λ (xs : List KnownInstance). dues ++ dues_of now old name xs) (sym (left_at ks i k low at))
    ∙ so_far

pub one_name : (now : Duration) (old : List Due) (w : World) (names : List (List ℕ)) (i : ℕ) (name : List ℕ)
    (dues new all : List Due) → i < length names → name ≡ get_or names i name
    → new ≡ dues ++ dues_in now old name (restarter w name)
    → dues ++ dues_among now old w (drop i names) ≡ all → new ++ dues_among now old w (drop (i + 1) names) ≡ all
one_name now old w names i name dues new all low at made so_far =
    ap (λ (xs : List Due). xs ++ dues_among now old w (drop (i + 1) names)) made
    ∙ append_assoc dues (dues_in now old name (restarter w name)) (dues_among now old w (drop (i + 1) names))
    ∙ ap (λ (xs : List (List ℕ)). dues ++ dues_among now old w xs) (sym (left_at names i name low at))
    ∙ so_far

-- ---- one that took too long

late_later : (b : Bool) (d : Due) (p : Progress) → IsLater p.world (late_if b d p).world
late_later true d p = later_by p.world (late_if true d p).world (timeout_of d) (on_world p (timeout_of d))
late_later false d p = later_self p.world

-- ---- all

times_last : (now : Duration) (ds : List Due) (d : Due) (p : Progress)
    → time_outs now (ds ++ d ∷ []) p
    ≡ late_if (times_out now d (time_outs now ds p).world) d (time_outs now ds p)
times_last now [] d p = refl
times_last now (x ∷ ds) d p = times_last now ds d (late_if (times_out now x p.world) x p)

-- the first of them timed out, and these are left
pub record HaveEnded (now : Duration) (all left : List Due) (p q : Progress) (any : Bool) : Type 0 where
  pub first : List Due
  pub whole : all ≡ first ++ left
  pub are : q ≡ time_outs now first p
  pub made : time_outs now left q ≡ time_outs now all p
  pub told : any_late any now left q ≡ any_late false now all p
  pub later : IsLater p.world q.world

pub ended_none : (now : Duration) (all : List Due) (p : Progress) → HaveEnded now all all p p false
ended_none now all p =
    record { first = []; whole = refl; are = refl; made = refl; told = refl; later = later_self p.world }

pub ended_on : (now : Duration) (all : List Due) (i : ℕ) (d : Due) (p q r : Progress) (any did : Bool) → i < length all
    → d ≡ get_or all i d → did ≡ times_out now d q.world → r ≡ late_if (times_out now d q.world) d q
    → HaveEnded now all (drop i all) p q any → HaveEnded now all (drop (i + 1) all) p r (any || did)
ended_on now all i d p q r any did low at is step h =
    let rest : List Due = drop (i + 1) all in
    let left : drop i all ≡ d ∷ rest = left_at all i d low at in
    let one : Progress = late_if (times_out now d q.world) d q in
    record {
      first = h.first ++ d ∷ [];
      whole = h.whole ∙ ap (λ (xs : List Due). h.first ++ xs) left ∙ sym (append_assoc h.first (d ∷ []) rest);
      are = step ∙ ap (λ (x : Progress). late_if (times_out now d x.world) d x) h.are
          ∙ sym (times_last now h.first d p);
      made = ap (time_outs now rest) step ∙ ap (λ (xs : List Due). time_outs now xs q) (sym left) ∙ h.made;
      told = ap (λ (x : Progress). any_late (any || did) now rest x) step
          ∙ ap (λ (x : Bool). any_late (any || x) now rest one) is
          ∙ ap (λ (xs : List Due). any_late any now xs q) (sym left) ∙ h.told;
      later = later_then p.world q.world r.world h.later
          (subst (λ (x : Progress). IsLater q.world x.world) (sym step)
          (late_later (times_out now d q.world) d q));
    }

pub ended_still : (now : Duration) (all left : List Due) (p q r : Progress) (any : Bool)
    → HaveEnded now all left p q any → r ≡ q → IsLater p.world r.world
ended_still now all left p q r any h is = subst (λ (x : Progress). IsLater p.world x.world) (sym is) h.later

pub ended_some : (stores : RepoFault → Type 0) (now : Duration) (all : List Due) (i : ℕ) (d : Due) (p q r : Progress)
    (any : Bool) (e : NodeFault) → i < length all → d ≡ get_or all i d
    → HaveEnded now all (drop i all) p q any → r ≡ q → IsUntimed stores now d q.world e
    → StopsTiming stores now all p r e
ended_some stores now all i d p q r any e low at h is why =
    record {
      first = h.first;
      failed = d;
      rest = drop (i + 1) all;
      whole = h.whole ∙ ap (λ (xs : List Due). h.first ++ xs) (left_at all i d low at);
      are = is ∙ h.are;
      fault = subst (λ (x : Progress). IsUntimed stores now d x.world e) (sym is) why;
    }
