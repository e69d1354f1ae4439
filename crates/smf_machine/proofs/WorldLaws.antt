-- In every world that events reach, numbers were given once, and names are apart.
use Rattle.std.proofs.Common.{◌≡◌, ℕ, List, [], ◌∷◌, ◌++◌, Bool, true, false, cond, None, map, refl, subst, sym, ap, ◌∙◌}
use Rattle.std.proofs.Common.{ap₂}
use Rattle.std.proofs.lemmas.Bool.{eqb-false, eqb-true}
use Rattle.std.specs.Cmp.Lexicographic.{pointwise}
use Rattle.std.specs.Prelude.{filter, nat_eq, not, ◌&&◌, if◌then◌else◌}
use Rattle.smf_model.specs.declared.command.Command.TheVariants as commands
use Rattle.smf_model.specs.declared.command.CommandReply.TheVariants as replies
use Rattle.smf_model.specs.Contents.{Holdings}
use Rattle.smf_model.specs.Laws.{IsNumbered}
use Rattle.smf_model.specs.Next.{next}
use Rattle.smf_restarter.specs.declared.reply.KnowledgeChange.{KnowledgeChange}
use Rattle.smf_restarter.specs.Changes.{knowledge_after}
use Rattle.smf_restarter.specs.Knowledge.{Knowledge, at_first}
use Rattle.smf_world.specs.declared.event.Event.{Event}
use Rattle.smf_world.specs.declared.event.Event.TheVariants as events
use Rattle.smf_world.specs.declared.work.Becomes.{Becomes}
use Rattle.smf_world.specs.declared.work.Becomes.TheVariants.{Knows, Launched, Gone, NoneLeft}
use Rattle.smf_world.specs.Happens.{all_becoming, restarters_after, world_after, happens}
use Rattle.smf_past.specs.Begun.{IsBeginning, IsBegun, booted, found}
use Rattle.smf_past.specs.Lived.{continued}
use Rattle.smf_past.proofs.BegunWorlds.{begun_booted, begun_next}
use Rattle.smf_past.specs.Forgotten.{forgotten}
use Rattle.smf_past.specs.Lives.{GoesOn}
use Rattle.smf_past.specs.Losses.{AllKnowLess, AreLess, AreMoves, Happens, IsLess, Loses, Move, as_before, know_less, none_left as nobody}
use Rattle.smf_world.specs.Runs.{run}
use Rattle.smf_world.specs.Worked.{is_named, work_of_event}
use Rattle.smf_world.specs.World.{World, initial_world}
use Rattle.smf_machine.proofs.EventWorks.{can_install, fresh_worked, numbered_worked, one_becomes}
use Rattle.smf_machine.proofs.Known.{none_named}
use Rattle.smf_machine.specs.Done.{changes_of}
use Rattle.smf_machine.specs.Install.{CanInstall}
use Rattle.smf_machine.specs.Lists.{AllFresh, AtMostOne, IsFresh, NoneNamed, NoTwins}

-- ---- names stay apart

kept_name : (b : Bool) (k : Knowledge) (c : KnowledgeChange) → (if b then knowledge_after k c else k).name ≡ k.name
unfolding knowledge_after
kept_name true k c = refl
kept_name false k c = refl

none_learned : (name other : List ℕ) (c : KnowledgeChange) (ks : List Knowledge) → NoneNamed other ks
    → NoneNamed other (map (λ k. if is_named name k then knowledge_after k c else k) ks)
none_learned name other c [] h = tt
none_learned name other c (k ∷ ks) h =
    let same : (if is_named name k then knowledge_after k c else k).name ≡ k.name = kept_name (is_named name k) k c in
    (ap (λ n. pointwise nat_eq n other) same ∙ h.0, none_learned name other c ks h.1)

apart_learned : (name : List ℕ) (c : KnowledgeChange) (ks : List Knowledge) → NoTwins ks
    → NoTwins (map (λ k. if is_named name k then knowledge_after k c else k) ks)
apart_learned name c [] h = tt
apart_learned name c (k ∷ ks) h =
    let same : (if is_named name k then knowledge_after k c else k).name ≡ k.name = kept_name (is_named name k) k c in (
      subst (λ n. NoneNamed n (map (λ x. if is_named name x then knowledge_after x c else x) ks)) (sym same)
          (none_learned name k.name c ks h.0),
      apart_learned name c ks h.1,
    )

none_left_by : (b : Bool) (other : List ℕ) (k : Knowledge) (ks : List Knowledge) → is_named other k ≡ false
    → NoneNamed other ks → NoneNamed other (cond b (k ∷ ks) ks)
none_left_by true other k ks e h = (e, h)
none_left_by false other k ks e h = h

none_left : (p : Knowledge → Bool) (other : List ℕ) (ks : List Knowledge) → NoneNamed other ks
    → NoneNamed other (filter p ks)
none_left p other [] h = tt
none_left p other (k ∷ ks) h = none_left_by (p k) other k (filter p ks) h.0 (none_left p other ks h.1)

apart_left_by : (b : Bool) (k : Knowledge) (ks : List Knowledge) → NoneNamed k.name ks → NoTwins ks
    → NoTwins (cond b (k ∷ ks) ks)
apart_left_by true k ks none h = (none, h)
apart_left_by false k ks none h = h

apart_left : (p : Knowledge → Bool) (ks : List Knowledge) → NoTwins ks → NoTwins (filter p ks)
apart_left p [] h = tt
apart_left p (k ∷ ks) h = apart_left_by (p k) k (filter p ks) (none_left p k.name ks h.0) (apart_left p ks h.1)

nat_eq_swapped : (x y : ℕ) → nat_eq x y ≡ nat_eq y x
nat_eq_swapped x y = by (nat_eq x y) (nat_eq y x) refl refl
  where
    by : (v u : Bool) → nat_eq x y ≡ v → nat_eq y x ≡ u → v ≡ u
    by true true e f = refl
    by true false e f = absurd (eqb-false y x f (sym (eqb-true x y e)))
    by false true e f = absurd (eqb-false x y e (sym (eqb-true y x f)))
    by false false e f = refl

swapped : (a b : List ℕ) → pointwise nat_eq a b ≡ pointwise nat_eq b a
swapped [] [] = refl
swapped [] (y ∷ b) = refl
swapped (x ∷ a) [] = refl
swapped (x ∷ a) (y ∷ b) = ap₂ (λ u v. u && v) (nat_eq_swapped x y) (swapped a b)

none_pushed : (other : List ℕ) (ks : List Knowledge) (k : Knowledge) → NoneNamed other ks → is_named other k ≡ false
    → NoneNamed other (ks ++ k ∷ [])
none_pushed other [] k h e = (e, tt)
none_pushed other (x ∷ ks) k h e = (h.0, none_pushed other ks k h.1 e)

apart_pushed : (ks : List Knowledge) (k : Knowledge) → NoTwins ks → NoneNamed k.name ks → NoTwins (ks ++ k ∷ [])
apart_pushed [] k h none = (tt, tt)
apart_pushed (x ∷ ks) k h none =
    (none_pushed x.name ks k h.0 (swapped k.name x.name ∙ none.0), apart_pushed ks k h.1 none.1)

apart_becoming : (b : Becomes) (ks : List Knowledge) → IsFresh ks b → NoTwins ks → NoTwins (restarters_after b ks)
apart_becoming (Knows name c) ks fresh h = apart_learned name c ks h
apart_becoming (Launched name actor launch) ks fresh h =
    apart_pushed ks (at_first name actor launch) h (none_named name ks fresh)
apart_becoming (Gone name) ks fresh h = apart_left (λ k. not (is_named name k)) ks h
apart_becoming NoneLeft ks fresh h = tt

apart_all : (bs : List Becomes) (ks : List Knowledge) → AtMostOne bs → AllFresh ks bs → NoTwins ks
    → NoTwins (all_becoming bs ks)
apart_all [] ks one fresh h = h
apart_all (b ∷ []) ks one fresh h = apart_becoming b ks fresh.0 h
apart_all (b ∷ c ∷ bs) ks one fresh h = absurd one

-- ---- a step, and steps

record IsOrdered (w : World) : Type 0 where
  numbered : IsNumbered w.now
  apart : NoTwins w.restarters

ordered_next : (w : World) (e : Event) → IsOrdered w → IsOrdered (happens w e)
unfolding happens world_after
ordered_next w e o =
    record {
      numbered = numbered_worked w e o.numbered;
      apart = apart_all (work_of_event w e).becomes w.restarters (one_becomes w e) (fresh_worked w e) o.apart;
    }

ordered_run : (es : List Event) (w : World) → IsOrdered w → IsOrdered (run es w)
ordered_run [] w o = o
ordered_run (e ∷ es) w o = ordered_run es (happens w e) (ordered_next w e o)

-- ---- losses

none_named_less : (name : List ℕ) (ls ks : List Knowledge) → AllKnowLess ls ks → NoneNamed name ks → NoneNamed name ls
none_named_less name [] [] f h = tt
none_named_less name [] (k ∷ ks) f h = absurd f
none_named_less name (l ∷ ls) [] f h = absurd f
none_named_less name (l ∷ ls) (k ∷ ks) f h =
    (ap (λ n. pointwise nat_eq n name) f.0.name ∙ h.0, none_named_less name ls ks f.1 h.1)

apart_known_less : (ls ks : List Knowledge) → AllKnowLess ls ks → NoTwins ks → NoTwins ls
apart_known_less [] [] f h = tt
apart_known_less [] (k ∷ ks) f h = absurd f
apart_known_less (l ∷ ls) [] f h = absurd f
apart_known_less (l ∷ ls) (k ∷ ks) f h = (
  none_named_less l.name ls ks f.1 (subst (λ n. NoneNamed n ks) (sym f.0.name) h.0),
  apart_known_less ls ks f.1 h.1,
)

apart_less : (ls ks : List Knowledge) → AreLess ls ks → NoTwins ks → NoTwins ls
apart_less ls ks (as_before e) h = subst NoTwins (sym e) h
apart_less ls ks (nobody e) h = subst NoTwins (sym e) tt
apart_less ls ks (know_less f) h = apart_known_less ls ks f h

ordered_less : (w v : World) → IsLess v w → IsOrdered w → IsOrdered v
ordered_less w v l o =
    record {
      numbered = subst IsNumbered (sym l.now) o.numbered;
      apart = apart_less v.restarters w.restarters l.restarters o.apart;
    }

ordered_moves : (ms : List Move) (w v : World) → AreMoves w ms v → IsOrdered w → IsOrdered v
ordered_moves [] w v m o = subst IsOrdered m o
ordered_moves (Happens e ∷ ms) w v m o = ordered_moves ms (happens w e) v m (ordered_next w e o)
ordered_moves (Loses u ∷ ms) w v m o = ordered_moves ms u v m.1 (ordered_less w u m.0 o)

ordered_on : (us : List World) (w v : World) → GoesOn w us v → IsOrdered w → IsOrdered v
ordered_on [] w v m o = ordered_moves m.0 w v m.1 o
ordered_on (u ∷ us) w v m o =
    let end : IsOrdered u = ordered_moves m.0.0 w u m.0.1 o in
    ordered_on us (forgotten u) v m.2 (record { numbered = end.numbered; apart = end.apart })

ordered_first : (base : World) → IsBeginning base → IsOrdered base
ordered_first base (booted h n done is) =
    subst IsOrdered (sym is)
    (ordered_next (initial_world h) events.Boot (record { numbered = n; apart = tt }))
ordered_first base (found h t n o i is) =
    let first : IsOrdered (continued h t) = record { numbered = n; apart = tt } in subst IsOrdered (sym is) first

ordered : (w : World) → IsBegun w → IsOrdered w
ordered w r = ordered_on r.lives r.base w r.since (ordered_first r.base r.beginning)

pub reached_numbered : (w : World) → IsBegun w → IsNumbered w.now
reached_numbered w r = (ordered w r).numbered

pub reached_installs : (w : World) (e : Event) → IsBegun w → changes_of w e ≡ None
    → CanInstall w.now w.restarters (work_of_event w e)
reached_installs w e r none = let o = ordered w r in can_install w e o.numbered o.apart none

-- ---- one event more

pub reached_next : (w v : World) (e : Event) → v ≡ happens w e → IsBegun w → IsBegun v
reached_next w v e is r = begun_next w v e is r

-- a boot that is accepted
pub reached_first : (h : Holdings) (v : World) → IsNumbered h → (next h commands.Boot).1 ≡ replies.Done
    → v ≡ happens (initial_world h) events.Boot → IsBegun v
reached_first h v n accepted is = begun_booted h v n accepted is
