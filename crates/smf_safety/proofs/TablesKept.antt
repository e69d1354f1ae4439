-- Each event keeps the clauses on the contract table, and on the items of the trail that concern it.
use Rattle.std.proofs.Common.{◌≡◌, ◌+◌, ◌<◌, ◌≤◌, ◌==◌, ◌&&◌, ◌||◌, not, ℕ, zero, suc, Bool, true, false, cond, if◌then◌else◌, List, [], ◌∷◌, ◌++◌, length, map, filter, position, nat_lt, slice_set, Option, Some, None, IfSome, Ok, Err, inl, inr, refl, sym, ap, ◌∙◌, subst, arith, eqb-true, eq-eqb}
use Rattle.std.specs.List.{slice_get}
use Rattle.std.specs.Option.{option_map_or}
use Rattle.std.proofs.lemmas.Bool.Decides.{nat_tests}
use Rattle.std.proofs.lemmas.List.Folds.{list_any-append}
use Rattle.smf_contract.specs.declared.call.ContractCall.{ContractCall}
use Rattle.smf_contract.specs.declared.call.ContractCall.TheVariants as calls
use Rattle.smf_contract.specs.declared.contract.Contract.{Contract}
use Rattle.smf_contract.specs.declared.contract.Holder.TheVariants.{Held, Inherited, Abandoned}
use Rattle.smf_contract.specs.declared.contract.Member.{Member}
use Rattle.smf_contract.specs.declared.cookie.Method.{Method}
use Rattle.smf_contract.specs.declared.cookie.Method.TheVariants as methods
use Rattle.smf_contract.specs.declared.event.ContractEvent.{ContractEvent}
use Rattle.smf_contract.specs.declared.event.EventKind.{EventKind}
use Rattle.smf_contract.specs.declared.event.EventKind.TheVariants as kinds
use Rattle.smf_contract.specs.declared.event.Exit as ends
use Rattle.smf_contract.specs.declared.event.Exit.TheVariants.{Killed}
use Rattle.smf_contract.specs.declared.event.Failure.{Failure}
use Rattle.smf_contract.specs.declared.event.Failure.TheVariants as failures
use Rattle.smf_contract.specs.declared.fault.ContractFault.TheVariants.{NotInherited}
use Rattle.smf_contract.specs.declared.terms.Terms.{Terms}
use Rattle.smf_contract.specs.Calls.{activity, result_of_adoption, adopted_if, all_exit, changed_at, with_empty_event, emptied_by_force, activity_after_end, ended_one_with, ended_with, ends_with, result_of_exit, exited_in, exits, exits_by_failure, result_of_failure, failed_in, failure_kind, result_of_fork, forked_in, given_up, table_without_actor, contract_held_by, is_held_by, is_inherited, result_of_kill, killed_if, with_new_contract, next_contract, next_number, next_of, with_next_event, one_exit, table_after_reboot, result_of_spawn, spawned_as, with_failure, with_holder}
use Rattle.smf_contract.specs.Called.{table_after_contract_call, emptied_by, left_by, left_by_making}
use Rattle.smf_contract.specs.Cookies.{bits_of_cookie, cookie_of_bits}
use Rattle.smf_contract.specs.Entries.{Activity, Contracts, contract, empty, has_id, has_members, home, is_in, is_process, outside, processes, without}
use Rattle.smf_contract.specs.Laws.{Ascends, Homed, IsOrdered, ids, is_among}
use Rattle.smf_contract.proofs.After.{asked_keeps}
use Rattle.smf_contract.proofs.Lost.{emptied_lost}
use Rattle.smf_contract.proofs.EmptiedBy.{spawn_empties}
use Rattle.smf_contract.proofs.Ordered.{home_among, home_has, homed_filter, next_is, none_filter, none_more}
use Rattle.smf_restarter.specs.Knowledge.{Knowledge}
use Rattle.smf_world.specs.declared.event.Event.{Event as WorldEvent}
use Rattle.smf_world.specs.declared.item.Item.{Item}
use Rattle.smf_world.specs.declared.item.Item.TheVariants.{Boot, Spawned, Emptied}
use Rattle.smf_world.specs.Happens.{world_after, happens}
use Rattle.smf_world.specs.Runs.{run}
use Rattle.smf_world.specs.Safe.{is_start}
use Rattle.smf_world.specs.Worked.{emptied_items, work_of_event}
use Rattle.smf_world.specs.World.{World}
use Rattle.smf_safety.proofs.DecidedEvents.{noted_three}
use Rattle.smf_safety.proofs.LiveClauses.{LiveRun, begun_run, live_runs}
use Rattle.smf_world.proofs.LiveEach.{each_both, each_later}
use Rattle.smf_safety.proofs.LiveItems.{all_emptied_spawned_for, emptied_each, held_row, rows_live, rows_spawned_for}
use Rattle.smf_world.proofs.LiveLists.{Each, IsIn}
use Rattle.smf_world.proofs.TrailItems.{noted as put_on, noted_more}
use Rattle.smf_safety.proofs.TablesClauses.{AreEmpty, EmptyIsEmpty, IsHeldLive, IsSpawned, IsTable, Tag, spawned_for, tag_of, tags}
use Rattle.smf_safety.proofs.TablesCookies.{packed_back}
use Rattle.smf_world.proofs.TablesWalked.{IsBegun, IsHeld, IsPlain, IsRow, IsTabled, acts, at_once, begun_as, boots, nothing, passes, spawned as spawned_in, tabled}

-- ---- tags stay

given_tag : (actor : ℕ) (c : Contract) → tag_of (given_up actor c) ≡ tag_of c
given_tag actor c = by (is_held_by actor c.holder)
  where
    by : (b : Bool)
        → tag_of (if b then record c { holder = (if c.terms.inherit then Inherited else Abandoned) } else c) ≡ tag_of c
    by true = refl
    by false = refl

given_tags : (actor : ℕ) (cs : List Contract) → tags (map (given_up actor) cs) ≡ tags cs
given_tags actor [] = refl
given_tags actor (c ∷ cs) = λ j. given_tag actor c j ∷ given_tags actor cs j

set_more : (o : Option Contract) (c : Contract) (cs : List Contract) (k : ℕ) (f : Contract → Contract)
    → tags (option_map_or (λ x. slice_set cs k (f x)) o cs) ≡ tags cs
    → tags (option_map_or (λ x. slice_set (c ∷ cs) (suc k) (f x)) o (c ∷ cs)) ≡ tags (c ∷ cs)
set_more None c cs k f h = refl
set_more (Some x) c cs k f h = ap (λ gs. tag_of c ∷ gs) h

set_tags : (cs : List Contract) (k : ℕ) (f : Contract → Contract) → ((c : Contract) → tag_of (f c) ≡ tag_of c)
    → tags (option_map_or (λ c. slice_set cs k (f c)) (slice_get cs k) cs) ≡ tags cs
set_tags [] k f h = refl
set_tags (c ∷ cs) zero f h = ap (λ g. g ∷ tags cs) (h c)
set_tags (c ∷ cs) (suc k) f h = set_more (slice_get cs k) c cs k f (set_tags cs k f h)

changed_tags : (cs : List Contract) (f : Contract → Contract) → ((c : Contract) → tag_of (f c) ≡ tag_of c)
    → (o : Option ℕ) → tags (changed_at cs f o) ≡ tags cs
changed_tags cs f h None = refl
changed_tags cs f h (Some k) = set_tags cs k f h

adopt_tags : (t : Contracts) (actor id : ℕ) (o : Option Contract)
    → tags (left_by t (adopted_if t actor id o)).contracts ≡ tags t.contracts
adopt_tags t actor id None = refl
adopt_tags t actor id (Some c) = by (is_inherited c.holder)
  where
    by : (b : Bool) → tags (left_by t (if b then Ok (with_holder t id (Held actor)) else Err NotInherited)).contracts
        ≡ tags t.contracts
    by true = changed_tags t.contracts (λ c. record c { holder = Held actor }) (λ c. refl)
        (position (has_id id) t.contracts)
    by false = refl

kill_tags : (t : Contracts) (id : ℕ) (o : Option Contract)
    → tags (left_by t (killed_if t id o)).contracts ≡ tags t.contracts
kill_tags t id None = refl
kill_tags t id (Some c) = refl

fork_tags : (t : Contracts) (o child : Option ℕ)
    → tags (left_by_making t (forked_in t o child)).contracts ≡ tags t.contracts
fork_tags t None child = refl
fork_tags t (Some id) None = refl
fork_tags t (Some id) (Some p) = refl

exit_tags : (t : Contracts) (p : ℕ) (e : ends.Exit) (o : Option ℕ)
    → tags (left_by t (exited_in t p e o)).contracts ≡ tags t.contracts
exit_tags t p e None = refl
exit_tags t p e (Some id) = refl

fail_tags : (t : Contracts) (p : ℕ) (f : Failure) (o : Option ℕ)
    → tags (left_by t (failed_in t p f o)).contracts ≡ tags t.contracts
fail_tags t p f None = refl
fail_tags t p f (Some id) = refl

-- no contract comes or goes, but by a spawn or a boot
pub plain_tags : (t : Contracts) (call : ContractCall) → IsPlain call
    → tags (table_after_contract_call t call).contracts ≡ tags t.contracts
unfolding table_after_contract_call result_of_adoption result_of_kill table_without_actor result_of_fork
    result_of_exit result_of_failure
plain_tags t calls.Nothing p = refl
plain_tags t calls.Reboot p = absurd p
plain_tags t (calls.Spawn actor cookie terms) p = absurd p
plain_tags t (calls.Adopt actor id) p = adopt_tags t actor id (contract t id)
plain_tags t (calls.Kill actor id) p = kill_tags t id (contract_held_by t actor id)
plain_tags t (calls.Gone actor) p = given_tags actor t.contracts
plain_tags t (calls.Fork process) p = fork_tags t (home t.members process) (next_number t.last_process)
plain_tags t (calls.Exit process e) p = exit_tags t process e (home t.members process)
plain_tags t (calls.Fail process f) p = fail_tags t process f (home t.members process)

-- ---- events

-- its contract is given, and has no members if the event found it empty
abbrev IsSound : ℕ → List Member → ContractEvent → Type 0
IsSound last ms e = (e.contract ≤ last) × (e.kind ≡ kinds.Empty → has_members e.contract ms ≡ false)

-- members are in contracts that were given, and events are sound
record AreSound (ns : List ℕ) (last : ℕ) (ms : List Member) (es : List ContractEvent) : Type 0 where
  homed : Homed ns ms
  low : (n : ℕ) → is_among n ns ≡ true → n ≤ last
  each : Each (IsSound last ms) es

abbrev Sound : List ℕ → ℕ → Activity → Type 0
Sound ns last a = AreSound ns last a.members a.events

sound_filter : (ns : List ℕ) (last : ℕ) (test : Member → Bool) (ms : List Member) (es : List ContractEvent)
    → AreSound ns last ms es → AreSound ns last (filter test ms) es
sound_filter ns last test ms es s =
    record {
      homed = homed_filter test ns ms s.homed;
      low = s.low;
      each = each_later (IsSound last ms) (IsSound last (filter test ms))
          (λ e x. (x.0, λ k. none_filter test e.contract ms (x.1 k))) es s.each;
    }

sound_noted : (ns : List ℕ) (last : ℕ) (ms : List Member) (es : List ContractEvent) (id : ℕ) (kind : EventKind)
    (left : Bool) → id ≤ last → (kind ≡ kinds.Empty → has_members id ms ≡ false) → AreSound ns last ms es
    → AreSound ns last ms (with_next_event es id kind left)
sound_noted ns last ms es id kind left le none s =
    record { homed = s.homed; low = s.low; each = each_both (IsSound last ms) es _ s.each ((le, none), tt) }

sound_exits : (ns : List ℕ) (last : ℕ) (ms : List Member) (es : List ContractEvent) (id : ℕ) (ps : List ℕ) → id ≤ last
    → AreSound ns last ms es → AreSound ns last ms (exits es id ps)
sound_exits ns last ms es id [] le s = s
sound_exits ns last ms es id (p ∷ ps) le s =
    sound_exits ns last ms (with_next_event es id (kinds.Exit p Killed) (nat_lt 0 (length ps))) id ps le
    (sound_noted ns last ms es id (kinds.Exit p Killed) _ le (λ k. absurd cc) s)

none_outside : (id : ℕ) (ms : List Member) → has_members id (outside id ms) ≡ false
none_outside id [] = refl
none_outside id (m ∷ ms) = by (is_in id m) refl (none_outside id ms)
  where
    by : (b : Bool) → is_in id m ≡ b → has_members id (outside id ms) ≡ false
        → has_members id (cond (not b) (m ∷ outside id ms) (outside id ms)) ≡ false
    by true e ih = ih
    by false e ih = rw e ih

sound_force : (ns : List ℕ) (last id : ℕ) (a : Activity) → id ≤ last → Sound ns last a
    → Sound ns last (emptied_by_force id a)
sound_force ns last id a le s =
    let fewer : AreSound ns last (outside id a.members) a.events =
    sound_filter ns last (λ m. not (is_in id m)) a.members a.events s in
    sound_noted ns last (outside id a.members) (exits a.events id (processes id a.members)) id kinds.Empty false le
    (λ k. none_outside id a.members)
    (sound_exits ns last (outside id a.members) a.events id (processes id a.members) le fewer)

sound_emptied : (ns : List ℕ) (last : ℕ) (ms : List Member) (es : List ContractEvent) (id : ℕ) (left : Bool)
    → has_members id ms ≡ left → id ≤ last → AreSound ns last ms es → AreSound ns last ms (with_empty_event left es id)
sound_emptied ns last ms es id true e le s = s
sound_emptied ns last ms es id false e le s = sound_noted ns last ms es id kinds.Empty false le (λ k. e) s

sound_one_exit : (ns : List ℕ) (last id p : ℕ) (e : ends.Exit) (a : Activity) → id ≤ last → Sound ns last a
    → Sound ns last (one_exit id p e a)
sound_one_exit ns last id p e a le s =
    let ms : List Member = without p a.members in
    let left : Bool = has_members id ms in
    let fewer : AreSound ns last ms a.events = sound_filter ns last (λ m. not (is_process p m)) a.members a.events s in
    sound_emptied ns last ms (with_next_event a.events id (kinds.Exit p e) left) id left refl le
    (sound_noted ns last ms a.events id (kinds.Exit p e) left le (λ k. absurd cc) fewer)

sound_all_exit : (ns : List ℕ) (last id p : ℕ) (a : Activity) → id ≤ last → Sound ns last a
    → Sound ns last (all_exit id p a)
sound_all_exit ns last id p a le s =
    let ms : List Member = without p a.members in
    let left : Bool = has_members id ms in
    let fewer : AreSound ns last ms a.events = sound_filter ns last (λ m. not (is_process p m)) a.members a.events s in
    sound_force ns last id (record { members = ms; events = with_next_event a.events id (kinds.Exit p Killed) left })
    le (sound_noted ns last ms a.events id (kinds.Exit p Killed) left le (λ k. absurd cc) fewer)

sound_failure : (ns : List ℕ) (last id p : ℕ) (f : Failure) (a : Activity) → id ≤ last → Sound ns last a
    → Sound ns last (with_failure id p f a)
sound_failure ns last id p f a le s =
    sound_noted ns last a.members a.events id (failure_kind f p) true le (no_empty f) s
  where
    no_empty : (g : Failure) → failure_kind g p ≡ kinds.Empty → has_members id a.members ≡ false
    no_empty failures.Core k = absurd cc
    no_empty failures.Signal k = absurd cc
    no_empty failures.Hwerr k = absurd cc

sound_by_failure : (ns : List ℕ) (last id p : ℕ) (b : Bool) (a : Activity) → id ≤ last → Sound ns last a
    → Sound ns last (exits_by_failure b id p a)
sound_by_failure ns last id p true a le s = sound_all_exit ns last id p a le s
sound_by_failure ns last id p false a le s = sound_one_exit ns last id p Killed a le s

-- who has members is given
has_home : (ns : List ℕ) (id : ℕ) (ms : List Member) → Homed ns ms → has_members id ms ≡ true → is_among id ns ≡ true
has_home ns id [] h e = absurd cc
has_home ns id (m ∷ ms) h e = by (m.contract == id) refl e (has_home ns id ms h.1)
  where
    by : (b : Bool) → (m.contract == id) ≡ b → (b || has_members id ms) ≡ true
        → (has_members id ms ≡ true → is_among id ns ≡ true) → is_among id ns ≡ true
    by true f g ih = subst (λ (n : ℕ). is_among n ns ≡ true) (eqb-true m.contract id f) h.0
    by false f g ih = ih g

sound_ended : (ns : List ℕ) (last id : ℕ) (a : Activity) → Sound ns last a → Sound ns last (activity_after_end id a)
sound_ended ns last id a s = by (has_members id a.members) refl
  where
    by : (b : Bool) → has_members id a.members ≡ b → Sound ns last (if b then emptied_by_force id a else a)
    by true e = sound_force ns last id a (s.low id (has_home ns id a.members s.homed e)) s
    by false e = s

sound_one_with : (ns : List ℕ) (last actor : ℕ) (c : Contract) (a : Activity) → Sound ns last a
    → Sound ns last (ended_one_with actor c a)
sound_one_with ns last actor c a s = by (ends_with actor c)
  where
    by : (b : Bool) → Sound ns last (if b then activity_after_end c.id a else a)
    by true = sound_ended ns last c.id a s
    by false = s

sound_with : (ns : List ℕ) (last actor : ℕ) (cs : List Contract) (a : Activity) → Sound ns last a
    → Sound ns last (ended_with actor cs a)
sound_with ns last actor [] a s = s
sound_with ns last actor (c ∷ cs) a s =
    sound_with ns last actor cs (ended_one_with actor c a) (sound_one_with ns last actor c a s)

-- ---- a table

low_among : (low n last : ℕ) (ns : List ℕ) → Ascends low ns last → is_among n ns ≡ true → n ≤ last
low_among low n last [] a e = absurd cc
low_among low n last (m ∷ ms) a e = by (m == n) refl e (low_among m n last ms a.1)
  where
    last_of : (l : ℕ) (ks : List ℕ) → Ascends l ks last → l ≤ last
    last_of l [] b = b
    last_of l (k ∷ ks) b = let up : k ≤ last = last_of k ks b.1 in let less : l < k = b.0 in omega arith

    by : (b : Bool) → (m == n) ≡ b → (b || is_among n ms) ≡ true → (is_among n ms ≡ true → n ≤ last) → n ≤ last
    by true f g ih = subst (λ (k : ℕ). k ≤ last) (eqb-true m n f) (last_of m ms a.1)
    by false f g ih = ih g

sound_table : (t : Contracts) → IsOrdered t → AreEmpty t → AreSound (ids t) t.last_contract t.members t.events
sound_table t o e =
    record {
      homed = o.homed;
      low = λ n among. low_among 0 n t.last_contract (ids t) o.contracts_ascend among;
      each = each_later (EmptyIsEmpty t) (IsSound t.last_contract t.members) (λ x k. (k.given, k.empty)) t.events e;
    }

-- a table whose events are sound
abbrev Empties : Contracts → Type 0
Empties t = Each (IsSound t.last_contract t.members) t.events

are_empty : (t : Contracts) → Empties t → AreEmpty t
are_empty t e =
    each_later (IsSound t.last_contract t.members) (EmptyIsEmpty t)
    (λ x k. record { given = k.0; empty = k.1 }) t.events e

adopt_empties : (t : Contracts) (actor id : ℕ) (o : Option Contract) → Empties t
    → Empties (left_by t (adopted_if t actor id o))
adopt_empties t actor id None e = e
adopt_empties t actor id (Some c) e = by (is_inherited c.holder)
  where
    by : (b : Bool) → Empties (left_by t (if b then Ok (with_holder t id (Held actor)) else Err NotInherited))
    by true = e
    by false = e

kill_empties : (t : Contracts) (id : ℕ) (o : Option Contract) → AreSound (ids t) t.last_contract t.members t.events
    → Empties (left_by t (killed_if t id o))
kill_empties t id None s = s.each
kill_empties t id (Some c) s = (sound_ended (ids t) t.last_contract id (activity t) s).each

differs : (c j : ℕ) (ms : List Member) → has_members c ms ≡ true → has_members j ms ≡ false → (c == j) ≡ false
differs c j ms h k = by (c == j) refl
  where
    clash : (b : Bool) → b ≡ true → b ≡ false → ⊥
    clash b e f = cc

    by : (b : Bool) → (c == j) ≡ b → (c == j) ≡ false
    by true e = absurd (clash (has_members j ms) (subst (λ (n : ℕ). has_members n ms ≡ true) (eqb-true c j e) h) k)
    by false e = e

fork_empties : (t : Contracts) (o child : Option ℕ) → IfSome o (λ c. has_members c t.members ≡ true)
    → IfSome o (λ c. is_among c (ids t) ≡ true) → AreSound (ids t) t.last_contract t.members t.events
    → Empties (left_by_making t (forked_in t o child))
fork_empties t None child h a s = s.each
fork_empties t (Some id) None h a s = s.each
fork_empties t (Some id) (Some p) h a s =
    each_both (IsSound t.last_contract (t.members ++ record { process = p; contract = id } ∷ [])) t.events _
    (each_later (IsSound t.last_contract t.members)
    (IsSound t.last_contract (t.members ++ record { process = p; contract = id } ∷ []))
    (λ e k. (
      k.0,
      λ empty. none_more e.contract t.members (record { process = p; contract = id }) (k.1 empty)
          (differs id e.contract t.members h (k.1 empty)),
    )) t.events s.each)
    ((s.low id a, λ k. absurd cc), tt)

exit_empties : (t : Contracts) (p : ℕ) (e : ends.Exit) (o : Option ℕ) → IfSome o (λ c. is_among c (ids t) ≡ true)
    → AreSound (ids t) t.last_contract t.members t.events → Empties (left_by t (exited_in t p e o))
exit_empties t p e None a s = s.each
exit_empties t p e (Some id) a s = (sound_one_exit (ids t) t.last_contract id p e (activity t) (s.low id a) s).each

fail_empties : (t : Contracts) (p : ℕ) (f : Failure) (o : Option ℕ) → IfSome o (λ c. is_among c (ids t) ≡ true)
    → AreSound (ids t) t.last_contract t.members t.events → Empties (left_by t (failed_in t p f o))
fail_empties t p f None a s = s.each
fail_empties t p f (Some id) a s =
    (sound_by_failure (ids t) t.last_contract id p _ (with_failure id p f (activity t)) (s.low id a)
    (sound_failure (ids t) t.last_contract id p f (activity t) (s.low id a) s)).each

gone_empties : (t : Contracts) (actor : ℕ) → AreSound (ids t) t.last_contract t.members t.events
    → Empties (table_without_actor t actor)
unfolding table_without_actor
gone_empties t actor s = (sound_with (ids t) t.last_contract actor t.contracts (activity t) s).each

plain_empties : (t : Contracts) (call : ContractCall) → IsPlain call
    → AreSound (ids t) t.last_contract t.members t.events → Empties (table_after_contract_call t call)
unfolding table_after_contract_call result_of_adoption result_of_kill result_of_fork result_of_exit result_of_failure
plain_empties t calls.Nothing p s = s.each
plain_empties t calls.Reboot p s = absurd p
plain_empties t (calls.Spawn actor cookie terms) p s = absurd p
plain_empties t (calls.Adopt actor id) p s = adopt_empties t actor id (contract t id) s.each
plain_empties t (calls.Kill actor id) p s = kill_empties t id (contract_held_by t actor id) s
plain_empties t (calls.Gone actor) p s = gone_empties t actor s
plain_empties t (calls.Fork process) p s =
    fork_empties t (home t.members process) (next_number t.last_process)
    (home_has t.members (position (is_process process) t.members))
    (home_among (ids t) t.members (position (is_process process) t.members) s.homed) s
plain_empties t (calls.Exit process e) p s =
    exit_empties t process e (home t.members process)
    (home_among (ids t) t.members (position (is_process process) t.members) s.homed) s
plain_empties t (calls.Fail process f) p s =
    fail_empties t process f (home t.members process)
    (home_among (ids t) t.members (position (is_process process) t.members) s.homed) s

-- ---- what is emptied lives no more

each_passed : {X : Type 0} (P : X → Type 0) (test : X → Bool) (xs : List X) → Each (λ x. test x ≡ true → P x) xs
    → Each P (filter test xs)
each_passed P test [] a = tt
each_passed P test (x ∷ xs) a = by (test x) refl (each_passed P test xs a.1)
  where
    by : (b : Bool) → test x ≡ b → Each P (filter test xs) → Each P (cond b (x ∷ filter test xs) (filter test xs))
    by true e ih = (a.0 e, ih)
    by false e ih = ih

abbrev emptied_list : List ℕ → List Item
emptied_list cs = map (λ (c : ℕ). Emptied c) cs

other_one : (l c : ℕ) (b : Bool) → not (l == c) ≡ true → b ≡ false → ((c == l) || b) ≡ false
other_one l c true e f = absurd cc
other_one l c false e f = grind (arith, nat_tests)

live_unless : (P : LiveRun → Type 0) (cs : List ℕ) (t : List Item)
    → Each (λ l. is_among l.contract cs ≡ false → P l) (live_runs t) → Each P (live_runs (put_on (emptied_list cs) t))
live_unless P [] t a = each_later (λ l. false ≡ false → P l) P (λ l k. k refl) (live_runs t) a
live_unless P (c ∷ cs) t a =
    subst (λ (u : List Item). Each P (live_runs u)) (sym (noted_more (Emptied c) (emptied_list cs) t))
    (live_unless P cs (Emptied c ∷ t)
    (each_passed (λ l. is_among l.contract cs ≡ false → P l) (λ l. not (l.contract == c)) (live_runs t)
    (each_later (λ l. is_among l.contract (c ∷ cs) ≡ false → P l)
    (λ l. not (l.contract == c) ≡ true → is_among l.contract cs ≡ false → P l)
    (λ l k e f. k (other_one l.contract c (is_among l.contract cs) e f)) (live_runs t) a)))

-- ---- a call

ids_are : (cs : List Contract) → map (λ (g : Tag). g.id) (tags cs) ≡ map (λ (c : Contract). c.id) cs
ids_are [] = refl
ids_are (c ∷ cs) = ap (λ ns. c.id ∷ ns) (ids_are cs)

tag_among : (g : Tag) (gs : List Tag) → IsIn g gs → is_among g.id (map (λ (x : Tag). x.id) gs) ≡ true
tag_among g [] a = absurd a
tag_among g (x ∷ xs) (inl e) = rw (ap (λ (y : Tag). y.id) e, eq-eqb g.id g.id refl) refl
tag_among g (x ∷ xs) (inr a) = by (x.id == g.id) (tag_among g xs a)
  where
    by : (b : Bool) → is_among g.id (map (λ (x : Tag). x.id) xs) ≡ true
        → (b || is_among g.id (map (λ (x : Tag). x.id) xs)) ≡ true
    by true f = refl
    by false f = f

contract_among : (t : Contracts) (g : Tag) → IsIn g (tags t.contracts) → is_among g.id (ids t) ≡ true
contract_among t g a =
    subst (λ (ns : List ℕ). is_among g.id ns ≡ true) (ids_are t.contracts) (tag_among g (tags t.contracts) a)

unlost : (a before after : Bool) → a ≡ true → before ≡ true → (a && (before && not after)) ≡ false → after ≡ true
unlost true true true e f g = refl
unlost true true false e f g = absurd cc
unlost true false after e f g = absurd cc
unlost false before after e f g = absurd cc

still_held : (t : Contracts) (call : ContractCall) (l : LiveRun) → IsPlain call → IsHeldLive t l
    → is_among l.contract (emptied_by t call) ≡ false → IsHeldLive (table_after_contract_call t call) l
still_held t call l p k e =
    let u : Contracts = table_after_contract_call t call in
    let there : IsIn (record { id = l.contract; cookie = k.cookie }) (tags u.contracts) =
    subst (IsIn (record { id = l.contract; cookie = k.cookie })) (sym (plain_tags t call p)) k.is_there in
    record {
      cookie = k.cookie;
      is_there = there;
      unpacks = k.unpacks;
      members = unlost (is_among l.contract (ids u)) (has_members l.contract t.members)
          (has_members l.contract u.members) (contract_among u (record { id = l.contract; cookie = k.cookie }) there)
          k.members (sym (emptied_lost t call l.contract) ∙ e);
    }

spawned_past : (cs : List ℕ) (t : List Item) (gs : List Tag) → Each (IsSpawned t) gs
    → Each (IsSpawned (put_on (emptied_list cs) t)) gs
spawned_past cs t gs a =
    each_later (IsSpawned t) (IsSpawned (put_on (emptied_list cs) t))
    (λ g k. record {
      cookie = k.cookie;
      unpacks = k.unpacks;
      spawned = all_emptied_spawned_for g.id (emptied_list cs) t (emptied_each cs) ∙ k.spawned;
    }) gs a

-- a call that is no spawn, with what it empties
pub plain_table : (t : Contracts) (call : ContractCall) (trail : List Item) → IsPlain call → IsTable t trail
    → IsTable (table_after_contract_call t call) (put_on (emptied_items t call) trail)
plain_table t call trail p k =
    let u : Contracts = table_after_contract_call t call in
    record {
      ordered = (asked_keeps t call).ordered k.ordered;
      spawned = subst (Each (IsSpawned (put_on (emptied_items t call) trail))) (sym (plain_tags t call p))
          (spawned_past (emptied_by t call) trail (tags t.contracts) k.spawned);
      live = live_unless (IsHeldLive u) (emptied_by t call) trail
          (each_later (IsHeldLive t) (λ l. is_among l.contract (emptied_by t call) ≡ false → IsHeldLive u l)
          (λ l h e. still_held t call l p h e) (live_runs trail) k.live);
      empty = are_empty u (plain_empties t call p (sound_table t k.ordered k.empty));
    }

-- ---- rows, built-ins, spawns, boots

pub rows_table : (t : Contracts) (rows trail : List Item) → Each IsRow rows → IsTable t trail
    → IsTable t (put_on rows trail)
rows_table t rows trail a k =
    record {
      ordered = k.ordered;
      spawned = each_later (IsSpawned trail) (IsSpawned (put_on rows trail))
          (λ g s. record {
            cookie = s.cookie;
            unpacks = s.unpacks;
            spawned = rows_spawned_for g.id rows trail a ∙ s.spawned;
          }) (tags t.contracts) k.spawned;
      live = subst (Each (IsHeldLive t)) (sym (rows_live rows trail a)) k.live;
      empty = k.empty;
    }

-- each tag is of a number that was given
abbrev AreGiven : ℕ → ℕ → List Tag → Type 0
AreGiven low last gs = Each (λ g. (low < g.id) × (g.id ≤ last)) gs

given_between : (low last : ℕ) (cs : List Contract) → Ascends low (map (λ (c : Contract). c.id) cs) last
    → AreGiven low last (tags cs)
given_between low last [] a = tt
given_between low last (c ∷ cs) a =
    let up : c.id ≤ last = reaches c.id (map (λ (c : Contract). c.id) cs) a.1 in
    let rest : AreGiven c.id last (tags cs) = given_between c.id last cs a.1 in
    let first : low < c.id = a.0 in (
      (first, up),
      each_later (λ g. (c.id < g.id) × (g.id ≤ last)) (λ g. (low < g.id) × (g.id ≤ last))
          (λ g k. (between low c.id g.id first k.0, k.1)) (tags cs) rest,
    )
  where
    between : (a b c : ℕ) → a < b → b < c → a < c
    between a b c e f = omega arith

    reaches : (l : ℕ) (ks : List ℕ) → Ascends l ks last → l ≤ last
    reaches l [] b = b
    reaches l (k ∷ ks) b = let up : k ≤ last = reaches k ks b.1 in let less : l < k = b.0 in omega arith

both_each : {X : Type 0} (P Q : X → Type 0) (xs : List X) → Each P xs → Each Q xs → Each (λ x. P x × Q x) xs
both_each P Q [] a b = tt
both_each P Q (x ∷ xs) a b = ((a.0, b.0), both_each P Q xs a.1 b.1)

-- a method that is begun in another contract is none of these
past_begun : (c i run revision : ℕ) (method : Method) (command : List ℕ) (trail : List Item) (gs : List Tag)
    → Each (λ g. (c == g.id) ≡ false) gs → Each (IsSpawned trail) gs
    → Each (IsSpawned (Spawned c i run method revision command ∷ trail)) gs
past_begun c i run revision method command trail gs a b =
    each_later (λ g. ((c == g.id) ≡ false) × IsSpawned trail g)
    (IsSpawned (Spawned c i run method revision command ∷ trail))
    (λ g k. record {
      cookie = k.1.cookie;
      unpacks = k.1.unpacks;
      spawned = ap (λ (b : Bool). if b then Some (record { instance = i; run = run; method = method })
          else spawned_for g.id trail) k.0 ∙ k.1.spawned;
    }) gs (both_each (λ g. (c == g.id) ≡ false) (IsSpawned trail) gs a b)

zero_other : (n : ℕ) → 0 < n → (0 == n) ≡ false
zero_other n e = grind (arith, nat_tests)

more_other : (c n last : ℕ) → c ≡ last + 1 → n ≤ last → (c == n) ≡ false
more_other c n last e f = grind (arith, nat_tests)

none_at_zero : (b : Bool) (i run : ℕ) (ls : List LiveRun) → begun_run b 0 i run ls ≡ ls
none_at_zero true i run ls = refl
none_at_zero false i run ls = refl

-- a built-in has no contract
pub built_in_table : (t : Contracts) (i run revision : ℕ) (method : Method) (command : List ℕ) (trail : List Item)
    → IsTable t trail → IsTable t (Spawned 0 i run method revision command ∷ trail)
built_in_table t i run revision method command trail k =
    let given : AreGiven 0 t.last_contract (tags t.contracts) =
    given_between 0 t.last_contract t.contracts k.ordered.contracts_ascend in
    record {
      ordered = k.ordered;
      spawned = past_begun 0 i run revision method command trail (tags t.contracts)
          (each_later (λ g. (0 < g.id) × (g.id ≤ t.last_contract)) (λ g. (0 == g.id) ≡ false)
          (λ g x. zero_other g.id x.0) (tags t.contracts) given) k.spawned;
      live = subst (Each (IsHeldLive t)) (sym (none_at_zero (is_start method) i run (live_runs trail))) k.live;
      empty = k.empty;
    }

in_front : {X : Type 0} (x : X) (xs ys : List X) → IsIn x xs → IsIn x (xs ++ ys)
in_front x [] ys a = absurd a
in_front x (z ∷ zs) ys (inl e) = inl e
in_front x (z ∷ zs) ys (inr a) = inr (in_front x zs ys a)

at_end : {X : Type 0} (x : X) (xs : List X) → IsIn x (xs ++ x ∷ [])
at_end x [] = inl refl
at_end x (z ∷ zs) = inr (at_end x zs)

tags_more : (cs : List Contract) (c : Contract) → tags (cs ++ c ∷ []) ≡ tags cs ++ tag_of c ∷ []
tags_more [] c = refl
tags_more (x ∷ xs) c = ap (λ gs. tag_of x ∷ gs) (tags_more xs c)

has_more : (id : ℕ) (ms : List Member) (m : Member) → has_members id ms ≡ true → has_members id (ms ++ m ∷ []) ≡ true
has_more id ms m h = rw (list_any-append (is_in id) ms (m ∷ []), h) refl

has_new : (id p : ℕ) (ms : List Member) → has_members id (ms ++ record { process = p; contract = id } ∷ []) ≡ true
has_new id p [] = rw (eq-eqb id id refl) refl
has_new id p (m ∷ ms) = by (is_in id m) (has_new id p ms)
  where
    by : (b : Bool) → has_members id (ms ++ record { process = p; contract = id } ∷ []) ≡ true
        → (b || has_members id (ms ++ record { process = p; contract = id } ∷ [])) ≡ true
    by true f = refl
    by false f = f

begun_held : (u : Contracts) (c i run : ℕ) (method : Method) (ls : List LiveRun)
    → (method ≡ methods.Start → IsHeldLive u (record { contract = c; instance = i; run = run }))
    → Each (IsHeldLive u) ls → Each (IsHeldLive u) (begun_run (is_start method) c i run ls)
begun_held u c i run methods.Stop ls new a = a
begun_held u c i run methods.Refresh ls new a = a
begun_held u c i run methods.Start ls new a = by (c == 0)
  where
    by : (b : Bool) → Each (IsHeldLive u) (if b then ls else record { contract = c; instance = i; run = run } ∷ ls)
    by true = a
    by false = (new refl, a)

-- the table that a spawn makes
abbrev table_made : Contracts → ℕ → ℕ → Terms → ℕ → ℕ → Contracts
table_made t actor cookie terms c p = with_new_contract t actor cookie terms c p

spawn_made : (t : Contracts) (actor cookie : ℕ) (terms : Terms) (c : ℕ) → next_contract t ≡ Some c
    → (p : ℕ) × (table_after_contract_call t (calls.Spawn actor cookie terms) ≡ table_made t actor cookie terms c p)
    × (c ≡ t.last_contract + 1)
unfolding table_after_contract_call result_of_spawn next_contract
spawn_made t actor cookie terms c e =
    by (next_number t.last_contract) (next_number t.last_process) (next_is t.last_contract) e
  where
    by : (o q : Option ℕ) → IfSome o (λ m. m ≡ t.last_contract + 1) → next_of o q ≡ Some c
        → (p : ℕ) × (left_by_making t (spawned_as t actor cookie terms o q) ≡ table_made t actor cookie terms c p)
        × (c ≡ t.last_contract + 1)
    by None q n f = absurd cc
    by (Some id) None n f = absurd cc
    by (Some id) (Some p) n f = let same : id ≡ c = cc in
        (p, ap (λ (x : ℕ). table_made t actor cookie terms x p) same, sym same ∙ n)

made_table : (t : Contracts) (actor cookie : ℕ) (terms : Terms) (c p i run revision : ℕ) (method : Method)
    (command : List ℕ) (trail : List Item) → IsOrdered (table_made t actor cookie terms c p) → c ≡ t.last_contract + 1
    → cookie_of_bits cookie ≡ Some (record { instance = i; run = run; method = method }) → IsTable t trail
    → IsTable (table_made t actor cookie terms c p) (Spawned c i run method revision command ∷ trail)
made_table t actor cookie terms c p i run revision method command trail ordered next e k =
    let u : Contracts = table_made t actor cookie terms c p in
    let new : Tag = record { id = c; cookie = cookie } in
    let m : Member = record { process = p; contract = c } in
    let more : tags u.contracts ≡ tags t.contracts ++ new ∷ [] = tags_more t.contracts _ in
    let given : AreGiven 0 t.last_contract (tags t.contracts) =
    given_between 0 t.last_contract t.contracts k.ordered.contracts_ascend in
    let others : Each (λ g. (c == g.id) ≡ false) (tags t.contracts) =
    each_later (λ g. (0 < g.id) × (g.id ≤ t.last_contract)) (λ g. (c == g.id) ≡ false)
    (λ g x. more_other c g.id t.last_contract next x.1) (tags t.contracts) given in
    let first : IsSpawned (Spawned c i run method revision command ∷ trail) new = record {
      cookie = record { instance = i; run = run; method = method };
      unpacks = e;
      spawned = ap (λ (b : Bool). if b then Some (record { instance = i; run = run; method = method })
          else spawned_for c trail) (eq-eqb c c refl);
    } in
    record {
      ordered = ordered;
      spawned = subst (Each (IsSpawned (Spawned c i run method revision command ∷ trail))) (sym more)
          (each_both (IsSpawned (Spawned c i run method revision command ∷ trail)) (tags t.contracts) (new ∷ [])
          (past_begun c i run revision method command trail (tags t.contracts) others k.spawned) (first, tt));
      live = begun_held u c i run method (live_runs trail)
          (λ start. record {
            cookie = cookie;
            is_there = subst (IsIn new) (sym more) (at_end new (tags t.contracts));
            unpacks = e ∙ ap (λ (x : Method). Some (record { instance = i; run = run; method = x })) start;
            members = has_new c p t.members;
          })
          (each_later (IsHeldLive t) (IsHeldLive u)
          (λ l h. record {
            cookie = h.cookie;
            is_there = subst (IsIn (record { id = l.contract; cookie = h.cookie })) (sym more)
                (in_front (record { id = l.contract; cookie = h.cookie }) (tags t.contracts) (new ∷ []) h.is_there);
            unpacks = h.unpacks;
            members = has_more l.contract t.members m h.members;
          }) (live_runs trail) k.live);
      empty = each_later (EmptyIsEmpty t) (EmptyIsEmpty u)
          (λ x h. record {
            given = below x.contract h.given;
            empty = λ none. none_more x.contract t.members m (h.empty none)
                (more_other c x.contract t.last_contract next h.given);
          }) t.events k.empty;
    }
  where
    below : (n : ℕ) → n ≤ t.last_contract → n ≤ c
    below n le = omega arith

pub spawn_table : (t : Contracts) (actor cookie : ℕ) (terms : Terms) (c i run revision : ℕ) (method : Method)
    (command : List ℕ) (trail : List Item) → next_contract t ≡ Some c
    → bits_of_cookie (record { instance = i; run = run; method = method }) ≡ Ok cookie → IsTable t trail
    → IsTable (table_after_contract_call t (calls.Spawn actor cookie terms))
    (Spawned c i run method revision command ∷ trail)
spawn_table t actor cookie terms c i run revision method command trail e p k =
    let made_by : (p : ℕ)
    × (table_after_contract_call t (calls.Spawn actor cookie terms) ≡ table_made t actor cookie terms c p)
    × (c ≡ t.last_contract + 1) = spawn_made t actor cookie terms c e in
    let ordered : IsOrdered (table_made t actor cookie terms c made_by.0) =
    subst IsOrdered made_by.1 ((asked_keeps t (calls.Spawn actor cookie terms)).ordered k.ordered) in
    subst (λ (u : Contracts). IsTable u (Spawned c i run method revision command ∷ trail)) (sym made_by.1)
    (made_table t actor cookie terms c made_by.0 i run revision method command trail ordered made_by.2
    (packed_back (record { instance = i; run = run; method = method }) cookie p) k)

pub boot_table : (t : Contracts) (rows trail : List Item) → Each IsRow rows → IsTable t trail
    → IsTable (table_after_contract_call t calls.Reboot) (put_on (Boot ∷ rows) trail)
unfolding table_after_contract_call
boot_table t rows trail a k =
    record {
      ordered = reboots;
      spawned = tt;
      live = subst (λ (u : List Item). Each (IsHeldLive (table_after_reboot t)) (live_runs u))
          (sym (noted_more Boot rows trail))
          (subst (Each (IsHeldLive (table_after_reboot t))) (sym (rows_live rows (Boot ∷ trail) a)) tt);
      empty = tt;
    }
  where
    reboots : IsOrdered (table_after_reboot t)
    reboots = record { contracts_ascend = omega arith; members_ascend = omega arith; homed = tt; numbered = λ id. refl }

-- ---- the work of an event

begun_table : (ks : List Knowledge) (t : Contracts) (call : ContractCall) (begun trail : List Item)
    → IsBegun ks t call begun → IsTable t trail
    → IsTable (table_after_contract_call t call) (put_on (emptied_items t call) (put_on begun trail))
begun_table ks t call begun trail (nothing p e) k =
    subst (λ (zs : List Item). IsTable (table_after_contract_call t call)
    (put_on (emptied_items t call) (put_on zs trail))) (sym e) (plain_table t call trail p k)
begun_table ks t call begun trail (at_once s p e) k =
    subst (λ (zs : List Item). IsTable (table_after_contract_call t call)
    (put_on (emptied_items t call) (put_on zs trail))) (sym e)
    (plain_table t call (begun_as 0 s.of s.owed ∷ trail) p
    (built_in_table t s.of.instance s.owed.run s.owed.revision s.owed.method s.owed.call.command trail k))
begun_table ks t call begun trail (spawned_in s c cookie terms n p q e) k =
    subst (λ (zs : List Item). IsTable (table_after_contract_call t call)
    (put_on (emptied_items t call) (put_on zs trail))) (sym e)
    (subst (λ (x : ContractCall). IsTable (table_after_contract_call t x)
    (put_on (emptied_items t x) (begun_as c s.of s.owed ∷ trail))) (sym q)
    (subst (λ (cs : List ℕ). IsTable (table_after_contract_call t (calls.Spawn s.restarter.actor cookie terms))
    (put_on (emptied_list cs) (begun_as c s.of s.owed ∷ trail)))
    (sym (spawn_empties t s.restarter.actor cookie terms))
    (spawn_table t s.restarter.actor cookie terms c s.of.instance s.owed.run s.owed.revision s.owed.method
    s.owed.call.command trail n p k)))

no_call : (t : Contracts) → table_after_contract_call t calls.Nothing ≡ t
unfolding table_after_contract_call
no_call t = refl

-- the table and the trail after an event
pub table_kept : (ks : List Knowledge) (t : Contracts) (items : List Item) (call : ContractCall) (trail : List Item)
    → IsTabled ks t items call → IsTable t trail → IsTable (table_after_contract_call t call) (put_on items trail)
table_kept ks t items call trail (passes e a) k =
    subst (λ (x : ContractCall). IsTable (table_after_contract_call t x) (put_on items trail)) (sym e)
    (subst (λ (u : Contracts). IsTable u (put_on items trail)) (sym (no_call t)) (rows_table t items trail a k))
table_kept ks t items call trail (acts rows begun a b e) k =
    subst (IsTable (table_after_contract_call t call))
    (sym (ap (λ (zs : List Item). put_on zs trail) e ∙ noted_three rows begun (emptied_items t call) trail))
    (begun_table ks t call begun (put_on rows trail) b
    (rows_table t rows trail (each_later IsHeld IsRow held_row rows a) k))
table_kept ks t items call trail (boots rows a e c) k =
    subst (λ (x : ContractCall). IsTable (table_after_contract_call t x) (put_on items trail)) (sym c)
    (subst (λ (zs : List Item). IsTable (table_after_contract_call t calls.Reboot) (put_on zs trail)) (sym e)
    (boot_table t rows trail a k))

pub table_event : (w : World) (e : WorldEvent) → IsTable w.table w.trail
    → IsTable (happens w e).table (happens w e).trail
unfolding happens world_after
table_event w e k =
    table_kept w.restarters w.table (work_of_event w e).items (work_of_event w e).call w.trail (tabled w e) k

pub table_run : (es : List WorldEvent) (w : World) → IsTable w.table w.trail → IsTable (run es w).table (run es w).trail
table_run [] w k = k
table_run (e ∷ es) w k = table_run es (happens w e) (table_event w e k)

-- a table with no contract
pub first_table : IsTable empty []
first_table =
    record {
      ordered = record {
        contracts_ascend = omega arith;
        members_ascend = omega arith;
        homed = tt;
        numbered = λ id. refl;
      };
      spawned = tt;
      live = tt;
      empty = tt;
    }
