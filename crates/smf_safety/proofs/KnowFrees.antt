-- A restarter that proposes what frees a live run knows no contract of that run, or knows that it is empty.
use Rattle.std.proofs.Common.{◌≡◌, ◌⊎◌, inl, inr, ℕ, ◌&&◌, not, Bool, true, false, if◌then◌else◌, List, Option, Some, None, refl, sym, ap, ◌∙◌, subst, arith}
use Rattle.smf_state.specs.declared.row.Row.{Row}
use Rattle.smf_state.specs.declared.state.Cause.{Cause}
use Rattle.smf_state.specs.declared.state.Duration.{Duration}
use Rattle.smf_state.specs.declared.state.Duration.TheVariants.{Contract, Transient, Child}
use Rattle.smf_state.specs.declared.state.State.{State}
use Rattle.smf_state.specs.declared.state.State.TheVariants.{Uninitialized, Disabled, Offline, Online, Degraded, Maintenance}
use Rattle.smf_state.specs.declared.step.Step.{Step}
use Rattle.smf_state.specs.declared.step.Step.TheVariants.{Move, Start, Stop, Refresh, End, Note}
use Rattle.smf_state.specs.Rows.{is_stopped, may_end, same_state}
use Rattle.smf_state.specs.States.{runs}
use Rattle.smf_model.specs.History.{History}
use Rattle.smf_model.specs.Contents.{Holdings}
use Rattle.smf_wire.specs.declared.message.Message.{Message}
use Rattle.smf_restarter.specs.declared.known.After.{After}
use Rattle.smf_restarter.specs.declared.known.Drain.{Drain}
use Rattle.smf_restarter.specs.declared.known.Drain.TheVariants as drains
use Rattle.smf_restarter.specs.declared.known.Ending.{Ending}
use Rattle.smf_restarter.specs.declared.known.KnownInstance.{KnownInstance}
use Rattle.smf_restarter.specs.declared.known.KnownRun.{KnownRun}
use Rattle.smf_restarter.specs.declared.reply.Call.{Call}
use Rattle.smf_restarter.specs.declared.reply.Call.TheVariants as calls
use Rattle.smf_restarter.specs.Knowledge.{Knowledge}
use Rattle.smf_restarter.specs.Runs.{is_empty, known_run, run_at}
use Rattle.smf_restarter.specs.Ticks.{drain_call, first_call, is_refresh_end, keeps, keeps_run, kill_of}
use Rattle.smf_safety.proofs.LiveClauses.{frees}
use Rattle.smf_world.proofs.RowClauses.{fits}
use Rattle.smf_safety.proofs.RowSteps.{is_tested}
use Rattle.smf_safety.proofs.KnowClauses.{IsEndOf, IsInPhase, IsInformed, IsStarting, IsStopping, drains_live}
use Rattle.smf_safety.proofs.KnowSteps.{Proposes, ends, is_plain, notes, orders, starts}

-- ---- what has been drained

first_nothing : (a b : Call) → first_call a b ≡ calls.Nothing → a ≡ calls.Nothing
first_nothing calls.Nothing b e = refl
first_nothing calls.List b e = absurd cc
first_nothing (calls.Adopt c) b e = absurd cc
first_nothing (calls.Spawn cookie terms) b e = absurd cc
first_nothing (calls.Kill c) b e = absurd cc

kill_nothing : (o : Option KnownRun) → kill_of o ≡ calls.Nothing → is_empty o ≡ true
kill_nothing None e = refl
kill_nothing (Some r) e = by r.empty e
  where
    by : (b : Bool) → (if b then calls.Nothing else calls.Kill r.contract) ≡ calls.Nothing → b ≡ true
    by true f = refl
    by false f = absurd cc

live_drained : (k : Knowledge) (i : KnownInstance) (d : Drain) → drains_live d ≡ true
    → drain_call k i d ≡ calls.Nothing → is_empty (known_run k i.instance i.row.live) ≡ true
live_drained k i drains.Nothing l e = absurd cc
live_drained k i drains.Live l e = kill_nothing (known_run k i.instance i.row.live) e
live_drained k i drains.Side l e = absurd cc
live_drained k i drains.Both l e =
    kill_nothing (known_run k i.instance i.row.live)
    (first_nothing (kill_of (known_run k i.instance i.row.live)) (kill_of (known_run k i.instance i.row.side)) e)

-- ---- what does not keep the live run

not_kept : (d : Duration) (o : Option KnownRun) → keeps_run d o ≡ false → is_empty o ≡ true
not_kept d None e = refl
not_kept Transient (Some r) e = by r.empty e
  where
    by : (b : Bool) → not b ≡ false → b ≡ true
    by true f = refl
    by false f = absurd cc
not_kept Contract (Some r) e = absurd cc
not_kept Child (Some r) e = absurd cc

if_true : (b x y : Bool) → b ≡ true → (if b then x else y) ≡ false → x ≡ false
if_true true x y e f = f
if_true false x y e f = absurd cc

online_not_kept : (r : Row) (to : State) (o : Option KnownRun) → r.state ≡ Offline → to ≡ Online
    → keeps r to o ≡ false → keeps_run r.duration o ≡ false
online_not_kept r to o e f g =
    if_true (same_state r.state Offline) (same_state Online Online && keeps_run r.duration o)
    (is_refresh_end r Online) (ap (λ (s : State). same_state s Offline) e)
    (subst (λ (s : State). keeps r s o ≡ false) f g)

-- an end that fits and does not keep the live run is the end of a start or of a stop
abbrev IsFreed : Row → Type 0
IsFreed r = IsStarting r ⊎ IsStopping r

freed_by : (s : State) (n : State) (to : State) → may_end s (Some n) to false ≡ true
    → ((s ≡ Offline) × (n ≡ Online)) ⊎ ((runs s ≡ true) × (is_stopped n ≡ true))
freed_by Offline Online to e = inl (refl, refl)
freed_by Offline Uninitialized to e = absurd cc
freed_by Offline Disabled to e = absurd cc
freed_by Offline Offline to e = absurd cc
freed_by Offline Degraded to e = absurd cc
freed_by Offline Maintenance to e = absurd cc
freed_by Uninitialized n to e = absurd cc
freed_by Disabled n to e = absurd cc
freed_by Maintenance n to e = absurd cc
freed_by Online n to e = inr (refl, stopped_of n to e)
  where
    stopped_of : (n to : State) → may_end Online (Some n) to false ≡ true → is_stopped n ≡ true
    stopped_of n to e = grind arith
freed_by Degraded n to e = inr (refl, stopped_of n to e)
  where
    stopped_of : (n to : State) → may_end Degraded (Some n) to false ≡ true → is_stopped n ≡ true
    stopped_of n to e = grind arith

no_next : (s to : State) (keep : Bool) → may_end s None to keep ≡ true → ⊥
no_next Uninitialized to keep e = cc
no_next Disabled to keep e = cc
no_next Offline to keep e = cc
no_next Online to keep e = cc
no_next Degraded to keep e = cc
no_next Maintenance to keep e = cc

freed : (r : Row) (to : State) → may_end r.state r.next to false ≡ true → IsFreed r
freed r to e = by r.next refl e
  where
    by : (o : Option State) → r.next ≡ o → may_end r.state o to false ≡ true → IsFreed r
    by None f g = absurd (no_next r.state to false g)
    by (Some n) f g = of (freed_by r.state n to g)
      where
        of : ((r.state ≡ Offline) × (n ≡ Online)) ⊎ ((runs r.state ≡ true) × (is_stopped n ≡ true)) → IsFreed r
        of (inl x) = inl (record { state = x.0; next = f ∙ ap (λ (s : State). Some s) x.1 })
        of (inr x) = inr (record { to = n; state = x.0; stopped = x.1; next = f })

both_first : (a b : Bool) → (a && b) ≡ true → a ≡ true
both_first true b e = refl
both_first false b e = absurd cc

end_frees : (k : Knowledge) (i : KnownInstance) (e : Ending) → IsEndOf e i.row
    → drain_call k i e.drain ≡ calls.Nothing → keeps i.row e.to (known_run k i.instance i.row.live) ≡ false
    → may_end i.row.state i.row.next e.to false ≡ true
    → is_empty (known_run k i.instance i.row.live) ≡ true
end_frees k i e is drained not_keeps may = by (freed i.row e.to may)
  where
    start_by : IsStarting i.row → (e.to ≡ Online) ⊎ (drains_live e.drain ≡ true)
        → is_empty (known_run k i.instance i.row.live) ≡ true
    start_by s (inl to) =
        not_kept i.row.duration (known_run k i.instance i.row.live)
        (online_not_kept i.row e.to (known_run k i.instance i.row.live) s.state to not_keeps)
    start_by s (inr l) = live_drained k i e.drain l drained

    by : IsFreed i.row → is_empty (known_run k i.instance i.row.live) ≡ true
    by (inl s) = start_by s (is.start s)
    by (inr s) = live_drained k i e.drain (is.stop s) drained

-- ---- proposals

not_not : (b : Bool) → not (not b) ≡ true → b ≡ true
not_not true e = refl
not_not false e = absurd cc

not_false : (b : Bool) → not b ≡ true → b ≡ false
not_false true e = absurd cc
not_false false e = refl

plain_frees_none : (s : Step) → is_plain s ≡ true → frees s ≡ true → ⊥
plain_frees_none (Move to) e f = cc
plain_frees_none (Stop to cause run) e f = cc
plain_frees_none (Refresh run) e f = cc
plain_frees_none (Start run snapshot duration ignore revision) e f = cc
plain_frees_none (End to keep failed cause) e f = cc
plain_frees_none (Note bits keep) e f = cc

end_fits : (r : Row) (to : State) (keep : Bool) (failed : ℕ) (cause : Cause)
    → fits r (End to keep failed cause) ≡ true → may_end r.state r.next to keep ≡ true
end_fits r to keep failed cause e =
    both_first (may_end r.state r.next to keep) _ (is_tested r (End to keep failed cause) e).form

-- if a proposed step fits the row that is held and frees its live run, no contract of that run is known to have members
pub proposed_frees : (y : History) (h : Holdings) (ms : List Message) (B : ℕ → ℕ → Type 0) (k : Knowledge)
    (T : Message → Type 0) (i : KnownInstance) (step : Step) (after : After)
    → IsInformed y h ms B k → Proposes k T i step after → frees step ≡ true → fits i.row step ≡ true
    → is_empty (known_run k i.instance i.row.live) ≡ true
proposed_frees y h ms B k T i step after f (starts o call duration ignore t x what is then_is) free fit =
    absurd (let g : false ≡ true = sym (ap frees is) ∙ free in cc)
proposed_frees y h ms B k T i step after f (orders o t x plain anyhow) free fit =
    absurd (plain_frees_none step plain free)
proposed_frees y h ms B k T i step after f (ends e at ph drained is then_is) free fit =
    let live : Option KnownRun = known_run k i.instance i.row.live in
    let not_keeps : keeps i.row e.to live ≡ false = not_false (keeps i.row e.to live) (sym (ap frees is) ∙ free) in
    let may : may_end i.row.state i.row.next e.to (keeps i.row e.to live) ≡ true =
    end_fits i.row e.to (keeps i.row e.to live) e.failed e.cause (sym (ap (fits i.row) is) ∙ fit) in
    let is_end : IsEndOf e i.row =
    subst (IsInPhase y h ms B k i.instance i.row) ph (f.each i.instance i at.is_known).phase in
    end_frees k i e is_end drained not_keeps
    (subst (λ (b : Bool). may_end i.row.state i.row.next e.to b ≡ true) not_keeps may)
proposed_frees y h ms B k T i step after f (notes bits at ph due is then_is) free fit =
    not_not (is_empty (known_run k i.instance i.row.live)) (sym (ap frees is) ∙ free)

-- the same of the run by its number
pub freed_run : (k : Knowledge) (n run : ℕ) (live : Option ℕ) (r : KnownRun) → is_empty (known_run k n live) ≡ true
    → live ≡ Some run → run_at k n run ≡ Some r → r.empty ≡ true
freed_run k n run live r e is known = sym (ap is_empty known)
    ∙ subst (λ (o : Option ℕ). is_empty (known_run k n o) ≡ true) is e
