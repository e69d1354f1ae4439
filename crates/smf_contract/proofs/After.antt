-- The facts that each call keeps of a contract table.
use Rattle.std.proofs.Common.{IfOk, ◌≡◌, ℕ, zero, suc, ◌+◌, ◌==◌, Bool, true, false, cond, List, [], ◌∷◌, ◌++◌, Option, Some, None, IfSome, Ok, Err, filter, map, length, nat_lt, position, slice_set, arith, refl, ap, subst}
use Rattle.std.specs.Option.{option_map_or}
use Rattle.std.specs.List.{slice_get}
use Rattle.std.proofs.lemmas.List.{map-append}
use Rattle.std.proofs.lemmas.Bool.{eqb-true, ne_eqb}
use Rattle.smf_contract.specs.declared.contract.Contract.{Contract}
use Rattle.smf_contract.specs.declared.contract.Holder.TheVariants.{Held, Inherited, Abandoned}
use Rattle.smf_contract.specs.declared.contract.Member.{Member}
use Rattle.smf_contract.specs.declared.event.ContractEvent.{ContractEvent}
use Rattle.smf_contract.specs.declared.event.EventKind.{EventKind}
use Rattle.smf_contract.specs.declared.event.EventKind.TheVariants as kinds
use Rattle.smf_contract.specs.declared.event.Exit as ends
use Rattle.smf_contract.specs.declared.event.Exit.TheVariants.{Killed}
use Rattle.smf_contract.specs.declared.event.Failure.{Failure}
use Rattle.smf_contract.specs.declared.fault.ContractFault.{ContractFault}
use Rattle.smf_contract.specs.declared.terms.Terms.{Terms}
use Rattle.smf_contract.specs.Entries.{Contracts, Activity, empty, contract, home, has_id, has_members, is_process, processes, without, outside, last_event}
use Rattle.smf_contract.specs.Calls
use Rattle.smf_contract.specs.Calls.{activity, with_activity}
use Rattle.smf_contract.specs.Called
use Rattle.smf_contract.specs.Called.{left_by, left_by_making}
use Rattle.smf_contract.specs.declared.call.ContractCall.{ContractCall}
use Rattle.smf_contract.specs.declared.call.ContractCall.TheVariants as calls
use Rattle.smf_contract.specs.Laws.{Call, Asked, Abandon, Acknowledge, table_after_call, after, IsOrdered, NeverFalls, StaysEmpty, Ascends, Homed, ids, is_among, numbers_of, numbers_up_to}
use Rattle.smf_contract.proofs.Numbered
use Rattle.smf_contract.proofs.Ordered

abbrev act : List Member → List ContractEvent → Activity
act ms es = record { members = ms; events = es }

-- a fact that lasts when members go and when events come
pub record Lasts (P : Activity → Type 0) : Type 0 where
  pub filtered : (p : Member → Bool) (ms : List Member) (es : List ContractEvent) → P (act ms es)
      → P (act (filter p ms) es)
  pub noted : (id : ℕ) (kind : EventKind) (left : Bool) (ms : List Member) (es : List ContractEvent) → P (act ms es)
      → P (act ms (Calls.with_next_event es id kind left))

-- members only go, events only come, and no contract comes
pub record Shrinks (P : Activity → Type 0) (old new : Contracts) : Type 0 where
  pub active : P (activity old) → P (activity new)
  pub same_ids : ids new ≡ ids old
  pub same_contract : new.last_contract ≡ old.last_contract
  pub same_process : new.last_process ≡ old.last_process

shrinks_same : (P : Activity → Type 0) (t : Contracts) → Shrinks P t t
shrinks_same P t = record { active = λ h. h; same_ids = refl; same_contract = refl; same_process = refl }

shrinks_choice : (P : Activity → Type 0) (b : Bool) (t u v : Contracts) → Shrinks P t u → Shrinks P t v
    → Shrinks P t (cond b u v)
shrinks_choice P true t u v h k = h
shrinks_choice P false t u v h k = k

shrinks_ok : (P : Activity → Type 0) (b : Bool) (e : ContractFault) (t u : Contracts) → Shrinks P t u
    → Shrinks P t (left_by t (cond b (Ok u) (Err e)))
shrinks_ok P true e t u h = h
shrinks_ok P false e t u h = shrinks_same P t

-- activity that only loses members
abbrev Quits : (Activity → Type 0) → Activity → Activity → Type 0
Quits P a b = P a → P b

quits_choice : (P : Activity → Type 0) (b : Bool) (a x y : Activity) → Quits P a x → Quits P a y
    → Quits P a (cond b x y)
quits_choice P true a x y h k = h
quits_choice P false a x y h k = k

shrinks_by : (P : Activity → Type 0) (t : Contracts) (a : Activity) → Quits P (activity t) a
    → Shrinks P t (with_activity t a)
shrinks_by P t a h = record { active = h; same_ids = refl; same_contract = refl; same_process = refl }

exits_last : (P : Activity → Type 0) → Lasts P → (id : ℕ) (ps : List ℕ) (ms : List Member) (es : List ContractEvent)
    → P (act ms es) → P (act ms (Calls.exits es id ps))
exits_last P lasts id [] ms es h = h
exits_last P lasts id (p ∷ ps) ms es h =
    let left : Bool = nat_lt 0 (length ps) in
    exits_last P lasts id ps ms (Calls.with_next_event es id (kinds.Exit p Killed) left)
    (lasts.noted id (kinds.Exit p Killed) left ms es h)

emptied_last : (P : Activity → Type 0) → Lasts P → (b : Bool) (id : ℕ) (ms : List Member) (es : List ContractEvent)
    → P (act ms es) → P (act ms (Calls.with_empty_event b es id))
emptied_last P lasts true id ms es h = h
emptied_last P lasts false id ms es h = lasts.noted id kinds.Empty false ms es h

force_quits : (P : Activity → Type 0) → Lasts P → (id : ℕ) (a : Activity) → Quits P a (Calls.emptied_by_force id a)
force_quits P lasts id a h =
    lasts.noted id kinds.Empty false _ _
    (exits_last P lasts id (processes id a.members) (outside id a.members) a.events
    (lasts.filtered _ a.members a.events h))

ended_quits : (P : Activity → Type 0) → Lasts P → (id : ℕ) (a : Activity) → Quits P a (Calls.activity_after_end id a)
ended_quits P lasts id a =
    quits_choice P (has_members id a.members) a (Calls.emptied_by_force id a) a (force_quits P lasts id a) (λ h. h)

one_quits : (P : Activity → Type 0) → Lasts P → (id p : ℕ) (e : ends.Exit) (a : Activity)
    → Quits P a (Calls.one_exit id p e a)
one_quits P lasts id p e a h =
    let left : Bool = has_members id (without p a.members) in
    let kept : P (act (without p a.members) a.events) = lasts.filtered _ a.members a.events h in
    emptied_last P lasts left id (without p a.members) _
    (lasts.noted id (kinds.Exit p e) left (without p a.members) a.events kept)

all_quit : (P : Activity → Type 0) → Lasts P → (id p : ℕ) (a : Activity) → Quits P a (Calls.all_exit id p a)
all_quit P lasts id p a h =
    let left : Bool = has_members id (without p a.members) in
    let kept : P (act (without p a.members) a.events) = lasts.filtered _ a.members a.events h in
    force_quits P lasts id (act (without p a.members) (Calls.with_next_event a.events id (kinds.Exit p Killed) left))
    (lasts.noted id (kinds.Exit p Killed) left (without p a.members) a.events kept)

failure_quits : (P : Activity → Type 0) → Lasts P → (fatal : Bool) (id p : ℕ) (a : Activity)
    → Quits P a (Calls.exits_by_failure fatal id p a)
failure_quits P lasts true id p a = all_quit P lasts id p a
failure_quits P lasts false id p a = one_quits P lasts id p Killed a

exit_shrinks : (P : Activity → Type 0) → Lasts P → (t : Contracts) (p : ℕ) (e : ends.Exit) (o : Option ℕ)
    → Shrinks P t (left_by t (Calls.exited_in t p e o))
exit_shrinks P lasts t p e None = shrinks_same P t
exit_shrinks P lasts t p e (Some id) = shrinks_by P t _ (one_quits P lasts id p e (activity t))

fail_shrinks : (P : Activity → Type 0) → Lasts P → (t : Contracts) (p : ℕ) (f : Failure) (o : Option ℕ)
    → Shrinks P t (left_by t (Calls.failed_in t p f o))
fail_shrinks P lasts t p f None = shrinks_same P t
fail_shrinks P lasts t p f (Some id) =
    shrinks_by P t _
    (λ h. failure_quits P lasts (Calls.is_fatal f (contract t id)) id p (Calls.with_failure id p f (activity t))
    (lasts.noted id (Calls.failure_kind f p) true t.members t.events h))

gone_one_quits : (P : Activity → Type 0) → Lasts P → (actor : ℕ) (c : Contract) (a : Activity)
    → Quits P a (Calls.ended_one_with actor c a)
gone_one_quits P lasts actor c a =
    quits_choice P (Calls.ends_with actor c) a (Calls.activity_after_end c.id a) a (ended_quits P lasts c.id a) (λ h. h)

gone_quits : (P : Activity → Type 0) → Lasts P → (actor : ℕ) (cs : List Contract) (a : Activity)
    → Quits P a (Calls.ended_with actor cs a)
gone_quits P lasts actor [] a h = h
gone_quits P lasts actor (c ∷ cs) a h =
    gone_quits P lasts actor cs (Calls.ended_one_with actor c a) (gone_one_quits P lasts actor c a h)

given_up_id : (b : Bool) (c d : Contract) → d.id ≡ c.id → (cond b d c).id ≡ c.id
given_up_id true c d h = h
given_up_id false c d h = refl

pub given_up_ids : (actor : ℕ) (cs : List Contract)
    → map (λ c. c.id) (map (Calls.given_up actor) cs) ≡ map (λ c. c.id) cs
given_up_ids actor [] = refl
given_up_ids actor (c ∷ cs) = let here =
    given_up_id (Calls.is_held_by actor c.holder) c
    (record c { holder = (cond c.terms.inherit Inherited Abandoned) }) refl in let rest = given_up_ids actor cs in cc

gone_shrinks : (P : Activity → Type 0) → Lasts P → (t : Contracts) (actor : ℕ)
    → Shrinks P t (Calls.table_without_actor t actor)
unfolding Calls.table_without_actor
gone_shrinks P lasts t actor =
    record {
      active = gone_quits P lasts actor t.contracts (activity t);
      same_ids = given_up_ids actor t.contracts;
      same_contract = refl;
      same_process = refl;
    }

set_more : (o : Option Contract) (c : Contract) (cs : List Contract) (k : ℕ) (f : Contract → Contract)
    → map (λ c. c.id) (option_map_or (λ x. slice_set cs k (f x)) o cs) ≡ map (λ c. c.id) cs
    → map (λ c. c.id) (option_map_or (λ x. slice_set (c ∷ cs) (suc k) (f x)) o (c ∷ cs)) ≡ map (λ c. c.id) (c ∷ cs)
set_more None c cs k f h = refl
set_more (Some x) c cs k f h = ap (λ is. c.id ∷ is) h

-- a change that keeps the id
set_ids : (cs : List Contract) (k : ℕ) (f : Contract → Contract) → ((c : Contract) → (f c).id ≡ c.id)
    → map (λ c. c.id) (option_map_or (λ c. slice_set cs k (f c)) (slice_get cs k) cs) ≡ map (λ c. c.id) cs
set_ids [] k f h = refl
set_ids (c ∷ cs) zero f h = ap (λ i. i ∷ map (λ c. c.id) cs) (h c)
set_ids (c ∷ cs) (suc k) f h = set_more (slice_get cs k) c cs k f (set_ids cs k f h)

pub changed_ids : (cs : List Contract) (f : Contract → Contract) → ((c : Contract) → (f c).id ≡ c.id) → (o : Option ℕ)
    → map (λ c. c.id) (Calls.changed_at cs f o) ≡ map (λ c. c.id) cs
changed_ids cs f h None = refl
changed_ids cs f h (Some k) = set_ids cs k f h

change_shrinks : (P : Activity → Type 0) (t : Contracts) (id : ℕ) (f : Contract → Contract)
    → ((c : Contract) → (f c).id ≡ c.id) → Shrinks P t (Calls.with_contract_change t id f)
change_shrinks P t id f h =
    record {
      active = λ k. k;
      same_ids = changed_ids t.contracts f h (position (has_id id) t.contracts);
      same_contract = refl;
      same_process = refl;
    }

adopt_shrinks : (P : Activity → Type 0) (t : Contracts) (actor id : ℕ) (o : Option Contract)
    → Shrinks P t (left_by t (Calls.adopted_if t actor id o))
adopt_shrinks P t actor id None = shrinks_same P t
adopt_shrinks P t actor id (Some c) =
    shrinks_ok P (Calls.is_inherited c.holder) _ t _
    (change_shrinks P t id (λ c. record c { holder = Held actor }) (λ c. refl))

ack_shrinks : (P : Activity → Type 0) (t : Contracts) (id number : ℕ) (o : Option Contract)
    → Shrinks P t (left_by t (Calls.acknowledged_if t id number o))
ack_shrinks P t id number None = shrinks_same P t
ack_shrinks P t id number (Some c) = change_shrinks P t id _ (λ c. refl)

kill_shrinks : (P : Activity → Type 0) → Lasts P → (t : Contracts) (id : ℕ) (o : Option Contract)
    → Shrinks P t (left_by t (Calls.killed_if t id o))
kill_shrinks P lasts t id None = shrinks_same P t
kill_shrinks P lasts t id (Some c) = shrinks_by P t _ (ended_quits P lasts id (activity t))

abandon_shrinks : (P : Activity → Type 0) → Lasts P → (t : Contracts) (id : ℕ) (o : Option Contract)
    → Shrinks P t (left_by t (Calls.abandoned_if t id o))
abandon_shrinks P lasts t id None = shrinks_same P t
abandon_shrinks P lasts t id (Some c) =
    record {
      active = quits_choice P c.terms.noorphan (activity t) (Calls.activity_after_end id (activity t)) (activity t)
          (ended_quits P lasts id (activity t)) (λ h. h);
      same_ids = changed_ids t.contracts (λ c. record c { holder = Abandoned }) (λ c. refl)
          (position (has_id id) t.contracts);
      same_contract = refl;
      same_process = refl;
    }

-- the facts that are kept
lasts_empty : (id : ℕ) → Lasts (λ a. has_members id a.members ≡ false)
lasts_empty id = record { filtered = λ p ms es h. Ordered.none_filter p id ms h; noted = λ at kind left ms es h. h }

lasts_ascending : (last : ℕ) → Lasts (λ a. Ascends 0 (map (λ m. m.process) a.members) last)
lasts_ascending last =
    record { filtered = λ p ms es h. Ordered.ascends_filter p 0 last ms h; noted = λ at kind left ms es h. h }

lasts_homed : (ns : List ℕ) → Lasts (λ a. Homed ns a.members)
lasts_homed ns = record { filtered = λ p ms es h. Ordered.homed_filter p ns ms h; noted = λ at kind left ms es h. h }

lasts_numbered : Lasts (λ a. (id : ℕ) → numbers_of id a.events ≡ numbers_up_to (last_event id a.events))
lasts_numbered =
    record { filtered = λ p ms es h. h; noted = λ at kind left ms es h. Numbered.noted_numbered es at kind left h }

-- the facts that last when members only go
pub record Keeps (old new : Contracts) : Type 0 where
  pub ordered : IsOrdered old → IsOrdered new
  pub never_falls : NeverFalls old new
  pub stays_empty : StaysEmpty old new

ordered_by : (t u : Contracts) → ((P : Activity → Type 0) → Lasts P → Shrinks P t u) → IsOrdered t → IsOrdered u
ordered_by t u h o =
    let ascending = h _ (lasts_ascending t.last_process) in
    let homed = h _ (lasts_homed (ids t)) in
    record {
      contracts_ascend = rw (homed.same_ids, homed.same_contract) o.contracts_ascend;
      members_ascend = rw ascending.same_process (ascending.active o.members_ascend);
      homed = rw homed.same_ids (homed.active o.homed);
      numbered = (h _ lasts_numbered).active o.numbered;
    }

keeps_by : (t u : Contracts) → ((P : Activity → Type 0) → Lasts P → Shrinks P t u) → Keeps t u
keeps_by t u h = record {
  ordered = ordered_by t u h;
  never_falls = let s = h _ (lasts_homed (ids t)) in
      record { contract = omega (arith, s.same_contract); process = omega (arith, s.same_process) };
  stays_empty = λ id given none. (h _ (lasts_empty id)).active none;
}

keeps_same : (t : Contracts) → Keeps t t
keeps_same t = keeps_by t t (λ P lasts. shrinks_same P t)

spawn_keeps : (t : Contracts) (actor cookie : ℕ) (terms : Terms) (new : Option ℕ) (first : Option ℕ)
    → IfSome new (λ m. m ≡ t.last_contract + 1) → IfSome first (λ m. m ≡ t.last_process + 1)
    → Keeps t (left_by_making t (Calls.spawned_as t actor cookie terms new first))
spawn_keeps t actor cookie terms None first h k = keeps_same t
spawn_keeps t actor cookie terms (Some id) None h k = keeps_same t
spawn_keeps t actor cookie terms (Some id) (Some p) h k = record {
  ordered = λ o. record {
    contracts_ascend =
        rw map-append (Ordered.ascends_more 0 (ids t) t.last_contract id (omega arith) o.contracts_ascend);
    members_ascend =
        rw map-append
        (Ordered.ascends_more 0 (map (λ m. m.process) t.members) t.last_process p (omega arith) o.members_ascend);
    homed = rw map-append
        (Ordered.homed_more (ids t ++ id ∷ []) t.members (record { process = p; contract = id })
        (Ordered.homed_wider (ids t) id t.members o.homed) (Ordered.among_last (ids t) id));
    numbered = o.numbered;
  };
  never_falls = record { contract = omega arith; process = omega arith };
  stays_empty =
      λ j given none. Ordered.none_more j t.members (record { process = p; contract = id }) none
      (ne_eqb id j (λ e. omega arith));
}

differs_by : (b : Bool) (c j : ℕ) (ms : List Member) → (b ≡ true → c ≡ j) → has_members c ms ≡ true
    → has_members j ms ≡ false → b ≡ false
differs_by false c j ms e h k = refl
differs_by true c j ms e h k = let same : c ≡ j = e refl in let other : has_members j ms ≡ true =
    subst (λ (n : ℕ). has_members n ms ≡ true) same h in cc

fork_keeps : (t : Contracts) (o : Option ℕ) (child : Option ℕ) → IfSome o (λ c. has_members c t.members ≡ true)
    → (Homed (ids t) t.members → IfSome o (λ c. is_among c (ids t) ≡ true))
    → IfSome child (λ m. m ≡ t.last_process + 1) → Keeps t (left_by_making t (Calls.forked_in t o child))
fork_keeps t None child h a k = keeps_same t
fork_keeps t (Some c) None h a k = keeps_same t
fork_keeps t (Some c) (Some p) h a k = record {
  ordered = λ o. record {
    contracts_ascend = o.contracts_ascend;
    members_ascend =
        rw map-append
        (Ordered.ascends_more 0 (map (λ m. m.process) t.members) t.last_process p (omega arith) o.members_ascend);
    homed = Ordered.homed_more (ids t) t.members (record { process = p; contract = c }) o.homed (a o.homed);
    numbered = Numbered.noted_numbered t.events c (kinds.Fork p) true o.numbered;
  };
  never_falls = record { contract = omega arith; process = omega arith };
  stays_empty =
      λ j given none. Ordered.none_more j t.members (record { process = p; contract = c }) none
      (differs_by (c == j) c j t.members (eqb-true c j) h none);
}

reboot_keeps : (t : Contracts) → Keeps t (Calls.table_after_reboot t)
reboot_keeps t = record {
  ordered = λ o. record {
    contracts_ascend = omega arith;
    members_ascend = omega arith;
    homed = tt;
    numbered = λ id. refl;
  };
  never_falls = record { contract = omega arith; process = omega arith };
  stays_empty = λ id given none. refl;
}

pub asked_keeps : (t : Contracts) (call : ContractCall) → Keeps t (Called.table_after_contract_call t call)
unfolding Called.table_after_contract_call Calls.result_of_spawn Calls.result_of_fork Calls.result_of_exit
    Calls.result_of_failure Calls.result_of_adoption Calls.result_of_kill
asked_keeps t calls.Nothing = keeps_same t
asked_keeps t calls.Reboot = reboot_keeps t
asked_keeps t (calls.Spawn actor cookie terms) =
    spawn_keeps t actor cookie terms _ _ (Ordered.next_is t.last_contract) (Ordered.next_is t.last_process)
asked_keeps t (calls.Fork p) =
    fork_keeps t (home t.members p) _ (Ordered.home_has t.members (position (is_process p) t.members))
    (Ordered.home_among (ids t) t.members (position (is_process p) t.members)) (Ordered.next_is t.last_process)
asked_keeps t (calls.Exit p e) = keeps_by t _ (λ P lasts. exit_shrinks P lasts t p e (home t.members p))
asked_keeps t (calls.Fail p f) = keeps_by t _ (λ P lasts. fail_shrinks P lasts t p f (home t.members p))
asked_keeps t (calls.Gone actor) = keeps_by t _ (λ P lasts. gone_shrinks P lasts t actor)
asked_keeps t (calls.Adopt actor id) = keeps_by t _ (λ P lasts. adopt_shrinks P t actor id (contract t id))
asked_keeps t (calls.Kill actor id) =
    keeps_by t _ (λ P lasts. kill_shrinks P lasts t id (Calls.contract_held_by t actor id))

-- every call keeps these facts
pub call_keeps : (t : Contracts) (call : Call) → Keeps t (table_after_call t call)
unfolding Calls.result_of_abandonment Calls.result_of_acknowledgement
call_keeps t (Asked call) = asked_keeps t call
call_keeps t (Abandon actor id) =
    keeps_by t _ (λ P lasts. abandon_shrinks P lasts t id (Calls.contract_held_by t actor id))
call_keeps t (Acknowledge actor id number) =
    keeps_by t _ (λ P lasts. ack_shrinks P t id number (Calls.contract_held_by t actor id))

spawn_next : (t : Contracts) (actor cookie : ℕ) (terms : Terms) (new : Option ℕ) (first : Option ℕ)
    → IfSome new (λ m. m ≡ t.last_contract + 1) → IfSome first (λ m. m ≡ t.last_process + 1)
    → IfOk (Calls.spawned_as t actor cookie terms new first)
    (λ r. (r.1.contract ≡ t.last_contract + 1) × (r.1.process ≡ t.last_process + 1))
spawn_next t actor cookie terms None first h k = tt
spawn_next t actor cookie terms (Some id) None h k = tt
spawn_next t actor cookie terms (Some id) (Some p) h k = (h, k)

-- a spawn makes the next numbers
pub spawned_next : (t : Contracts) (actor cookie : ℕ) (terms : Terms)
    → IfOk (Calls.result_of_spawn t actor cookie terms)
    (λ r. (r.1.contract ≡ t.last_contract + 1) × (r.1.process ≡ t.last_process + 1))
unfolding Calls.result_of_spawn
spawned_next t actor cookie terms =
    spawn_next t actor cookie terms _ _ (Ordered.next_is t.last_contract) (Ordered.next_is t.last_process)

fork_next : (t : Contracts) (o : Option ℕ) (child : Option ℕ) → IfSome child (λ m. m ≡ t.last_process + 1)
    → IfOk (Calls.forked_in t o child) (λ r. r.1 ≡ t.last_process + 1)
fork_next t None child k = tt
fork_next t (Some c) None k = tt
fork_next t (Some c) (Some p) k = k

-- a fork makes the next number
pub forked_next : (t : Contracts) (process : ℕ) → IfOk (Calls.result_of_fork t process) (λ r. r.1 ≡ t.last_process + 1)
unfolding Calls.result_of_fork
forked_next t process = fork_next t (home t.members process) _ (Ordered.next_is t.last_process)

empty_ordered : IsOrdered empty
empty_ordered =
    record { contracts_ascend = omega arith; members_ascend = omega arith; homed = tt; numbered = λ id. refl }

-- whatever is called
pub calls_order : (calls : List Call) → IsOrdered (after calls)
calls_order [] = empty_ordered
calls_order (call ∷ calls) = (call_keeps (after calls) call).ordered (calls_order calls)
