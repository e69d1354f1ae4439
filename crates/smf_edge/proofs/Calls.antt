-- The contract table after a call that says that something happened to a member.
use Rattle.std.proofs.Common.{◌≡◌, ℕ, ◌+◌, ◌-◌, ◌≤◌, ◌==◌, List, [], ◌∷◌, ◌++◌, length, Bool, true, false, cond, Some, map, refl, arith}
use Rattle.std.proofs.lemmas.Grind.{common_steps}
use Rattle.smf_contract.specs.declared.contract.Member.{Member}
use Rattle.smf_contract.specs.declared.event.EventKind.TheVariants as kinds
use Rattle.smf_contract.specs.declared.event.Exit as ends
use Rattle.smf_contract.specs.declared.event.Exit.TheVariants.{Killed}
use Rattle.smf_contract.specs.declared.event.Failure.{Failure}
use Rattle.smf_contract.specs.Entries.{Contracts, contract, home, has_members, processes, without}
use Rattle.smf_contract.specs.Calls.{activity, with_empty_event, result_of_exit, exits, exits_by_failure, result_of_failure, failure_kind, result_of_fork, is_fatal, next_number, with_next_event, one_exit, with_activity, with_failure}
use Rattle.smf_contract.specs.Called.{table_after_contract_call}
use Rattle.smf_contract.specs.Laws.{Ascends}
use Rattle.smf_edge.specs.declared.deed.Happening.{Happening}
use Rattle.smf_edge.specs.declared.deed.Happening.TheVariants as happenings
use Rattle.smf_edge.specs.Ledgers.{call_of, left_by}
use Rattle.smf_edge.proofs.Growth
use Rattle.smf_edge.proofs.Growth.{Begins}
use Rattle.smf_edge.proofs.Members.{count_more, count_outside, count_without, one_at}

-- contracts stay, events of the contract come, and its members are as many as are left
pub record Brings (at : ℕ) (h : Happening) (old new : Contracts) : Type 0 where
  pub contracts : new.contracts ≡ old.contracts
  pub events : Begins at (length old.members + 2) old.events new.events
  pub last : new.last_process ≤ old.last_process + 1
  pub counts : (id : ℕ) → length (processes id new.members)
      ≡ cond (at == id) (left_by (contract old at) h (length (processes id old.members)))
      (length (processes id old.members))

fewer_processes : (id : ℕ) (ms : List Member) → length (processes id ms) ≤ length ms
fewer_processes id [] = omega arith
fewer_processes id (m ∷ ms) = grind (arith, common_steps, fewer_processes id ms)

fewer_without : (p : ℕ) (ms : List Member) → length (without p ms) ≤ length ms
fewer_without p [] = omega arith
fewer_without p (m ∷ ms) = grind (arith, common_steps, fewer_without p ms)

one_less : (b : Bool) (n k : ℕ) → k + one_at b ≡ n → k ≡ cond b (n - 1) n
one_less true n k h = omega (arith, h)
one_less false n k h = omega (arith, h)

one_more : (b : Bool) (n k : ℕ) → k ≡ n + one_at b → k ≡ cond b (n + 1) n
one_more true n k h = h
one_more false n k h = omega (arith, h)

-- an exit of one
exit_events : (t : Contracts) (id p : ℕ) (e : ends.Exit) (left : Bool)
    → Begins id 1 t.events (with_empty_event left (with_next_event t.events id (kinds.Exit p e) left) id)
exit_events t id p e left =
    Growth.begins_noted 1 t.events _ id (kinds.Exit p e) left
    (Growth.grows_emptied left (with_next_event t.events id (kinds.Exit p e) left) id)

pub exit_brings : (t : Contracts) (at p : ℕ) (e : ends.Exit)
    → Ascends 0 (map (λ m. m.process) t.members) t.last_process → home t.members p ≡ Some at
    → Brings at (happenings.Exit e) t (with_activity t (one_exit at p e (activity t)))
exit_brings t at p e a h =
    let b = exit_events t at p e (has_members at (without p t.members)) in
    record {
      contracts = refl;
      events = record { first = b.first; more = b.more; is = b.is; of = b.of; bound = omega (arith, b.bound) };
      last = omega arith;
      counts = λ id. one_less (at == id) _ _ (count_without p at id t.last_process t.members a h);
    }

-- a failure that is not fatal
lone_brings : (t : Contracts) (at p : ℕ) (f : Failure) → is_fatal f (contract t at) ≡ false
    → Ascends 0 (map (λ m. m.process) t.members) t.last_process → home t.members p ≡ Some at
    → Brings at (happenings.Fail f) t (with_activity t (exits_by_failure false at p (with_failure at p f (activity t))))
lone_brings t at p f lone a h =
    let kind = failure_kind f p in
    let left = has_members at (without p t.members) in
    let failing = with_next_event t.events at kind true in
    let ending = with_next_event failing at (kinds.Exit p Killed) left in
    let two = Growth.grows_then 1 1 failing ending (with_empty_event left ending at)
    (Growth.grows_noted failing at (kinds.Exit p Killed) left) (Growth.grows_emptied left ending at) in
    let b = Growth.begins_noted (1 + 1) t.events _ at kind true two in
    record {
      contracts = refl;
      events = record { first = b.first; more = b.more; is = b.is; of = b.of; bound = omega (arith, b.bound) };
      last = omega arith;
      counts = λ id. rw lone (one_less (at == id) _ _ (count_without p at id t.last_process t.members a h));
    }

none_left : (b : Bool) (j k n : ℕ) → k + one_at b ≡ n → j ≡ cond b 0 k → j ≡ cond b 0 n
none_left true j k n h g = g
none_left false j k n h g = omega (arith, h, g)

-- a fatal one
fatal_brings : (t : Contracts) (at p : ℕ) (f : Failure) → is_fatal f (contract t at) ≡ true
    → Ascends 0 (map (λ m. m.process) t.members) t.last_process → home t.members p ≡ Some at
    → Brings at (happenings.Fail f) t (with_activity t (exits_by_failure true at p (with_failure at p f (activity t))))
fatal_brings t at p f fatal a h =
    let kind = failure_kind f p in
    let rest = without p t.members in
    let left = has_members at rest in
    let ps = processes at rest in
    let failing = with_next_event t.events at kind true in
    let ending = with_next_event failing at (kinds.Exit p Killed) left in
    let all = exits ending at ps in
    let two = Growth.grows_then 1 (length ps) failing ending all
    (Growth.grows_noted failing at (kinds.Exit p Killed) left) (Growth.grows_exits ending at ps) in
    let three = Growth.grows_then (1 + length ps) 1 failing all (with_next_event all at kinds.Empty false) two
    (Growth.grows_noted all at kinds.Empty false) in
    let b = Growth.begins_noted (1 + length ps + 1) t.events _ at kind true three in
    record {
      contracts = refl;
      events = record {
        first = b.first;
        more = b.more;
        is = b.is;
        of = b.of;
        bound = omega (arith, b.bound, fewer_processes at rest, fewer_without p t.members);
      };
      last = omega arith;
      counts = λ id. rw fatal
          (none_left (at == id) _ _ _ (count_without p at id t.last_process t.members a h) (count_outside at id rest));
    }

failure_by : (v : Bool) (t : Contracts) (at p : ℕ) (f : Failure) → is_fatal f (contract t at) ≡ v
    → Ascends 0 (map (λ m. m.process) t.members) t.last_process → home t.members p ≡ Some at
    → Brings at (happenings.Fail f) t (with_activity t (exits_by_failure v at p (with_failure at p f (activity t))))
failure_by true t at p f e a h = fatal_brings t at p f e a h
failure_by false t at p f e a h = lone_brings t at p f e a h

-- a fork, if a number is left
fork_brings : (t : Contracts) (at : ℕ)
    → Brings at happenings.Fork t
    (record t {
      members = t.members ++ record { process = t.last_process + 1; contract = at } ∷ [];
      events = with_next_event t.events at (kinds.Fork (t.last_process + 1)) true;
      last_process = t.last_process + 1;
    })
fork_brings t at =
    let b = Growth.begins_noted 0 t.events _ at (kinds.Fork (t.last_process + 1)) true (Growth.grows_same _) in
    record {
      contracts = refl;
      events = record { first = b.first; more = b.more; is = b.is; of = b.of; bound = omega (arith, b.bound) };
      last = omega arith;
      counts = λ id. one_more (at == id) _ _
          (count_more id t.members (record { process = t.last_process + 1; contract = at }));
    }

pub call_brings : (t : Contracts) (at p : ℕ) (h : Happening) → next_number t.last_process ≡ Some (t.last_process + 1)
    → Ascends 0 (map (λ m. m.process) t.members) t.last_process → home t.members p ≡ Some at
    → Brings at h t (table_after_contract_call t (call_of p h))
unfolding table_after_contract_call result_of_fork result_of_exit result_of_failure
call_brings t at p happenings.Fork next a h = rw (h, next) (fork_brings t at)
call_brings t at p (happenings.Exit e) next a h = rw h (exit_brings t at p e a h)
call_brings t at p (happenings.Fail f) next a h = rw h (failure_by (is_fatal f (contract t at)) t at p f refl a h)
