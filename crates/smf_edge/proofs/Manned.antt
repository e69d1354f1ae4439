-- Each call keeps one process of the system for each contract with members.
use Rattle.std.proofs.Common.{◌≡◌, ◌≢◌, ℕ, zero, suc, ◌+◌, ◌<◌, ◌≤◌, ◌==◌, not, List, [], ◌∷◌, ◌++◌, Bool, true, false, cond, Option, Some, None, ◌⊎◌, IfErr, IfOk, OnOk, OnErr, Result, Ok, Err, option_map, map, filter, length, position, slice_get, refl, sym, ap, subst, arith, eq-eqb, ◌∙◌, inl, inr}
use Rattle.std.specs.Prelude.{find}
use Rattle.std.proofs.lemmas.Bool.{eqb-true, ne_eqb}
use Rattle.std.proofs.lemmas.List.{map-append}
use Rattle.smf_contract.specs.declared.call.ContractCall.TheVariants as calls
use Rattle.smf_contract.specs.declared.contract.Contract.{Contract}
use Rattle.smf_contract.specs.declared.contract.Member.{Member}
use Rattle.smf_contract.specs.declared.event.ContractEvent.{ContractEvent}
use Rattle.smf_contract.specs.declared.event.Exit as ends
use Rattle.smf_contract.specs.declared.fault.ContractFault.{ContractFault}
use Rattle.smf_contract.specs.declared.table.Made.{Made}
use Rattle.smf_contract.specs.declared.terms.Terms.{Terms}
use Rattle.smf_contract.specs.Entries.{Contracts, contract, empty, first_member, has_members, home, is_in, is_process, outside, processes, without}
use Rattle.smf_contract.specs.Calls
use Rattle.smf_contract.specs.Calls.{activity, result_of_exit, exited_in, result_of_kill, killed_if, result_of_spawn, spawned_as, with_activity}
use Rattle.smf_contract.specs.Called.{table_after_contract_call, left_by}
use Rattle.smf_contract.specs.Laws.{Ascends}
use Rattle.smf_contract.proofs.After.{spawned_next}
use Rattle.smf_edge.specs.declared.deed.MemberEvent.{MemberEvent}
use Rattle.smf_edge.specs.declared.deed.Happening.{Happening}
use Rattle.smf_edge.specs.declared.deed.Happening.TheVariants.{Fork, Exit, Fail}
use Rattle.smf_edge.specs.declared.note.Run.{Run}
use Rattle.smf_edge.specs.Ledgers.{Ledger, call_of, is_other_deed, members_left, left_after, left_by as left_by_deed, left_of}
use Rattle.smf_edge.specs.Manned.{AreExits, IsExit, IsKept, IsManned}
use Rattle.smf_edge.specs.Books.{IsTold}
use Rattle.smf_edge.specs.declared.fault.KidsFault.{KidsFault}
use Rattle.smf_edge.specs.declared.fault.KidsFault.TheVariants.{Device, Memory, NoChild}
use Rattle.smf_edge.proofs.Sounds.{sound_empty}
use Rattle.smf_edge.specs.declared.child.Kid.{Kid}
use Rattle.smf_edge.specs.Processes.{NoneOrSome, SomeKid, contracts, is_kid_of, is_other}
use Rattle.smf_edge.specs.Steps.{IsFound, IsGiven, IsKilled, IsPolled, IsSpawned, IsTaken, ledger_with_member_event}
use Rattle.smf_edge.proofs.Firsts.{found_is, found_none}
use Rattle.smf_edge.proofs.Members.{count_cons, one_at, without_later}

abbrev numbers : List Member → List ℕ
numbers ms = map (λ m. m.process) ms

abbrev homes : List Member → List ℕ
homes ms = map (λ m. m.contract) ms

-- ---- lists that rise

ascends_more : (low last k : ℕ) (ns : List ℕ) → Ascends low ns last → last < k → Ascends low (ns ++ k ∷ []) k
ascends_more low last k [] h less = (omega (arith, h, less), omega arith)
ascends_more low last k (n ∷ ns) h less = (h.0, ascends_more n last k ns h.1 less)

ascends_from : (low high last : ℕ) (ns : List ℕ) → low ≤ high → Ascends high ns last → Ascends low ns last
ascends_from low high last [] le h = omega (arith, le, h)
ascends_from low high last (n ∷ ns) le h = (omega (arith, le, h.0), h.1)

ascends_by : (b : Bool) (low n last : ℕ) (ns : List ℕ) → low < n → Ascends n ns last
    → Ascends low (cond b (n ∷ ns) ns) last
ascends_by true low n last ns less h = (less, h)
ascends_by false low n last ns less h = ascends_from low n last ns (omega (arith, less)) h

ascends_filter : (p : ℕ → Bool) (low last : ℕ) (ns : List ℕ) → Ascends low ns last → Ascends low (filter p ns) last
ascends_filter p low last [] h = h
ascends_filter p low last (n ∷ ns) h = ascends_by (p n) low n last (filter p ns) h.0 (ascends_filter p n last ns h.1)

others_later : (id low last : ℕ) (ns : List ℕ) → id ≤ low → Ascends low ns last → filter (is_other id) ns ≡ ns
others_later id low last [] le h = refl
others_later id low last (n ∷ ns) le h =
    rw (ne_eqb n id (λ e. omega (arith, e, le, h.0)), others_later id n last ns (omega (arith, le, h.0)) h.1) refl

-- ---- a process less

home_above : (b : Bool) (id p low last : ℕ) (m : Member) (ms : List Member) → (m.process == p) ≡ b → low < m.contract
    → (option_map (λ x. x.contract) (find (is_process p) ms) ≡ Some id → m.contract < id)
    → option_map (λ x. x.contract) (find (is_process p) (m ∷ ms)) ≡ Some id → low < id
home_above true id p low last m ms e less deeper h = let there : Some m.contract ≡ Some id = rw e at h in
    let at : m.contract ≡ id = cc in omega (arith, at, less)
home_above false id p low last m ms e less deeper h =
    let there : option_map (λ x. x.contract) (find (is_process p) ms) ≡ Some id = rw e at h in
    omega (arith, deeper there, less)

home_high : (id p low last : ℕ) (ms : List Member) → Ascends low (homes ms) last
    → option_map (λ x. x.contract) (find (is_process p) ms) ≡ Some id → low < id
home_high id p low last [] a h = absurd cc
home_high id p low last (m ∷ ms) a h =
    home_above (m.process == p) id p low last m ms refl a.0 (home_high id p m.contract last ms a.1) h

less_by : (b : Bool) (id p last clast : ℕ) (m : Member) (ms : List Member) → (m.process == p) ≡ b
    → Ascends m.process (numbers ms) last → Ascends m.contract (homes ms) clast
    → (option_map (λ x. x.contract) (find (is_process p) ms) ≡ Some id
    → homes (without p ms) ≡ filter (is_other id) (homes ms))
    → option_map (λ x. x.contract) (find (is_process p) (m ∷ ms)) ≡ Some id
    → homes (without p (m ∷ ms)) ≡ filter (is_other id) (homes (m ∷ ms))
less_by true id p last clast m ms e a b deeper h =
    let there : Some m.contract ≡ Some id = rw e at h in
    let at : m.contract ≡ id = cc in
    let same : without p ms ≡ ms =
    without_later p m.process last ms (let q = eqb-true m.process p e in omega (arith, q)) a in
    rw (e, eq-eqb m.contract id at, same, others_later id m.contract clast (homes ms) (omega (arith, at)) b) refl
less_by false id p last clast m ms e a b deeper h =
    let there : option_map (λ x. x.contract) (find (is_process p) ms) ≡ Some id = rw e at h in
    let high = home_high id p m.contract clast ms b there in
    rw (e, ne_eqb m.contract id (λ q. omega (arith, q, high)), deeper there) refl

less : (id p low last clow clast : ℕ) (ms : List Member) → Ascends low (numbers ms) last
    → Ascends clow (homes ms) clast → option_map (λ x. x.contract) (find (is_process p) ms) ≡ Some id
    → homes (without p ms) ≡ filter (is_other id) (homes ms)
less id p low last clow clast [] a b h = absurd cc
less id p low last clow clast (m ∷ ms) a b h =
    less_by (m.process == p) id p last clast m ms refl a.1 b.1 (less id p m.process last m.contract clast ms a.1 b.1) h

exit_leaves : (t : Contracts) (id p : ℕ) (exit : ends.Exit) (o : Option ℕ) → o ≡ Some id
    → (left_by t (exited_in t p exit o)).members ≡ without p t.members
exit_leaves t id p exit None e = absurd cc
exit_leaves t id p exit (Some at) e = refl

exit_last : (t : Contracts) (p : ℕ) (exit : ends.Exit) (o : Option ℕ)
    → (left_by t (exited_in t p exit o)).last_contract ≡ t.last_contract
exit_last t p exit None = refl
exit_last t p exit (Some at) = refl

called_leaves : (t : Contracts) (id p : ℕ) (exit : ends.Exit) → home t.members p ≡ Some id
    → (table_after_contract_call t (calls.Exit p exit)).members ≡ without p t.members
unfolding table_after_contract_call result_of_exit
called_leaves t id p exit h = exit_leaves t id p exit (home t.members p) h

called_last : (t : Contracts) (p : ℕ) (exit : ends.Exit)
    → (table_after_contract_call t (calls.Exit p exit)).last_contract ≡ t.last_contract
unfolding table_after_contract_call result_of_exit
called_last t p exit = exit_last t p exit (home t.members p)

-- a contract's end is found
pub found_exit : (e : ContractEvent) (p : ℕ) (exit : ends.Exit) (old new : Ledger) (ks : List ℕ)
    → Ascends 0 (numbers old.table.members) old.table.last_process → IsManned old ks
    → home old.table.members p ≡ Some e.contract → new.table ≡ table_after_contract_call old.table (calls.Exit p exit)
    → AreExits new.pending → IsManned new (filter (is_other e.contract) ks)
found_exit e p exit old new ks a m h is exits =
    let there : option_map (λ x. x.contract) (find (is_process p) old.table.members) ≡ Some e.contract =
    sym (ap (option_map (λ x. x.contract)) (found_is (is_process p) old.table.members)) ∙ h in
    let once = let P : List ℕ → Type 0 = λ ns. Ascends 0 ns old.table.last_contract in subst P m.same m.once in
    record {
      same = ap (filter (is_other e.contract)) m.same
          ∙ sym (less e.contract p 0 old.table.last_process 0 old.table.last_contract old.table.members a once there)
          ∙ ap homes (sym (called_leaves old.table e.contract p exit h)) ∙ ap (λ t. homes t.members) (sym is);
      once = let Q : ℕ → Type 0 = λ n. Ascends 0 (filter (is_other e.contract) ks) n in
          subst Q (sym (called_last old.table p exit) ∙ ap (λ t. t.last_contract) (sym is))
          (ascends_filter (is_other e.contract) 0 old.table.last_contract ks m.once);
      exits = exits;
    }

-- ---- what is pending

exits_by : (b : Bool) (d : MemberEvent) (ds : List MemberEvent) → IsExit d.happening → AreExits ds
    → AreExits (cond b (d ∷ ds) ds)
exits_by true d ds h k = (h, k)
exits_by false d ds h k = k

exits_filter : (p : MemberEvent → Bool) (ds : List MemberEvent) → AreExits ds → AreExits (filter p ds)
exits_filter p [] h = tt
exits_filter p (d ∷ ds) h = exits_by (p d) d (filter p ds) h.0 (exits_filter p ds h.1)

exits_more : (d : MemberEvent) (ds : List MemberEvent) → IsExit d.happening → AreExits ds → AreExits (ds ++ d ∷ [])
exits_more d [] h k = (h, tt)
exits_more d (x ∷ ds) h k = (k.0, exits_more d ds h k.1)

-- ---- calls

pub manned_given : (e : ContractEvent) (old new : Ledger) (ks : List ℕ) → IsManned old ks → IsGiven e old new
    → IsManned new ks
manned_given e old new ks m h =
    let kept : IsManned (record old { due = new.due }) ks = record { same = m.same; once = m.once; exits = m.exits } in
    let P : Ledger → Type 0 = λ l. IsManned l ks in subst P (sym h.is) kept

taken_by : (happening : Happening) (e : ContractEvent) (p : ℕ) (old new : Ledger) (ks : List ℕ)
    → Ascends 0 (numbers old.table.members) old.table.last_process → IsManned old ks
    → home old.table.members p ≡ Some e.contract
    → new.table ≡ table_after_contract_call old.table (call_of p happening) → IsExit happening → AreExits new.pending
    → IsManned new (filter (is_other e.contract) ks)
taken_by Fork e p old new ks a m h is exit exits = absurd exit
taken_by (Exit x) e p old new ks a m h is exit exits = found_exit e p x old new ks a m h is exits
taken_by (Fail f) e p old new ks a m h is exit exits = absurd exit

pub manned_taken : (e : ContractEvent) (old new : Ledger) (ks : List ℕ)
    → Ascends 0 (numbers old.table.members) old.table.last_process → IsManned old ks → (old.pending ≢ [])
    → IsFound e old new → IsManned new (filter (is_other e.contract) ks)
manned_taken e old new ks a m some h =
    let by : IsTaken (record { contract = e.contract; happening = h.happening }) h.process old new
    → IsManned new (filter (is_other e.contract) ks) =
    elim [
      | inl t ↦
          let d : MemberEvent = record { contract = e.contract; happening = h.happening } in
          let P : List MemberEvent → Type 0 = AreExits in
          let both : AreExits (d ∷ new.pending) = subst P t.0 m.exits in
          taken_by h.happening e h.process old new ks a m h.member h.table both.0 both.1
      | inr t ↦ absurd (some t.0)
    ] in
    by h.taken

abbrev made_in : Made → Result (Contracts × Made) ContractFault → Made
made_in d (Ok r) = r.1
made_in d (Err e) = d

abbrev table_in : Contracts → Result (Contracts × Made) ContractFault → Contracts
table_in t (Ok r) = r.0
table_in t (Err e) = t

made_by : (t u : Contracts) (cookie : ℕ) (terms : Terms) (m : Made) (new first : Option ℕ)
    → spawned_as t 0 cookie terms new first ≡ Ok (u, m) → (p : ℕ)
    × (u ≡ Calls.with_new_contract t 0 cookie terms m.contract p)
made_by t u cookie terms m None first h = absurd cc
made_by t u cookie terms m (Some id) None h = absurd cc
made_by t u cookie terms m (Some id) (Some p) h =
    let same : id ≡ m.contract = ap (λ r. (made_in m r).contract) h in
    (p, sym (ap (table_in t) h) ∙ ap (λ n. Calls.with_new_contract t 0 cookie terms n p) same)

spawned_by : (t u : Contracts) (cookie : ℕ) (terms : Terms) (m : Made) → result_of_spawn t 0 cookie terms ≡ Ok (u, m)
    → (p : ℕ) × (u ≡ Calls.with_new_contract t 0 cookie terms m.contract p)
unfolding result_of_spawn
spawned_by t u cookie terms m h = made_by t u cookie terms m _ _ h

pub manned_spawned : (run : Run) (old new : Ledger) (ks : List ℕ) → IsManned old ks → IsSpawned run old new
    → IsManned new (ks ++ run.contract ∷ [])
manned_spawned run old new ks m h =
    let t = old.table in
    let shape = spawned_by t new.table run.cookie run.terms
    (record { contract = run.contract; process = new.table.last_process }) h.made in
    let P : Result (Contracts × Made) ContractFault → Type 0 =
    λ r. IfOk r (λ x. (x.1.contract ≡ t.last_contract + 1) × (x.1.process ≡ t.last_process + 1)) in
    let next = (subst P h.made (spawned_next t 0 run.cookie run.terms)).0 in
    let member : Member = record { process = shape.0; contract = run.contract } in
    let Q : ℕ → Type 0 = λ n. Ascends 0 (ks ++ run.contract ∷ []) n in
    let R : List MemberEvent → Type 0 = AreExits in
    record {
      same = ap (λ ns. ns ++ run.contract ∷ []) m.same ∙ sym (map-append (λ x. x.contract) t.members (member ∷ []))
          ∙ ap (λ u. homes u.members) (sym shape.1);
      once = subst Q (ap (λ u. u.last_contract) (sym shape.1))
          (ascends_more 0 t.last_contract run.contract ks m.once (omega (arith, next)));
      exits = subst R (sym (ap (λ l. l.pending) h.is)) m.exits;
    }

pub manned_happened : (l : Ledger) (id : ℕ) (exit : ends.Exit) (ks : List ℕ) → IsManned l ks
    → IsManned (ledger_with_member_event l id (Exit exit)) ks
manned_happened l id exit ks m =
    record {
      same = m.same;
      once = m.once;
      exits = exits_more (record { contract = id; happening = Exit exit }) l.pending tt m.exits;
    }

outside_by : (b : Bool) (id : ℕ) (m : Member) (ms : List Member) → not (m.contract == id) ≡ b
    → homes (outside id ms) ≡ filter (is_other id) (homes ms)
    → homes (cond b (m ∷ outside id ms) (outside id ms))
    ≡ cond b (m.contract ∷ filter (is_other id) (homes ms)) (filter (is_other id) (homes ms))
outside_by true id m ms e h = ap (λ ns. m.contract ∷ ns) h
outside_by false id m ms e h = h

outside_homes : (id : ℕ) (ms : List Member) → homes (outside id ms) ≡ filter (is_other id) (homes ms)
outside_homes id [] = refl
outside_homes id (m ∷ ms) = outside_by (not (m.contract == id)) id m ms refl (outside_homes id ms)

none_by : (b : Bool) (id : ℕ) (m : Member) (ms : List Member) → (m.contract == id) ≡ b
    → (has_members id ms ≡ false → homes ms ≡ filter (is_other id) (homes ms)) → has_members id (m ∷ ms) ≡ false
    → homes (m ∷ ms) ≡ filter (is_other id) (homes (m ∷ ms))
none_by true id m ms e deeper h = let there : true ≡ false = rw e at h in absurd cc
none_by false id m ms e deeper h = let there : has_members id ms ≡ false = rw e at h in rw (e, ← deeper there) refl

none_homes : (id : ℕ) (ms : List Member) → has_members id ms ≡ false → homes ms ≡ filter (is_other id) (homes ms)
none_homes id [] h = refl
none_homes id (m ∷ ms) h = none_by (m.contract == id) id m ms refl (none_homes id ms) h

abbrev Leaves : ℕ → Contracts → Contracts → Type 0
Leaves id t u = (homes u.members ≡ filter (is_other id) (homes t.members)) × (u.last_contract ≡ t.last_contract)

ends_by : (b : Bool) (id : ℕ) (t : Contracts) → has_members id t.members ≡ b
    → Leaves id t (with_activity t (cond b (Calls.emptied_by_force id (activity t)) (activity t)))
ends_by true id t e = (outside_homes id t.members, refl)
ends_by false id t e = (none_homes id t.members e, refl)

kill_by : (id : ℕ) (t u : Contracts) (o : Option Contract) → killed_if t id o ≡ Ok u → Leaves id t u
kill_by id t u None h = absurd cc
kill_by id t u (Some c) h = let P : Contracts → Type 0 = Leaves id t in
    subst P (ap (left_by t) h) (ends_by (has_members id t.members) id t refl)

killed_by : (id : ℕ) (t u : Contracts) → result_of_kill t 0 id ≡ Ok u → Leaves id t u
unfolding result_of_kill
killed_by id t u h = kill_by id t u _ h

pub manned_killed : (id : ℕ) (old new : Ledger) (ks : List ℕ) → IsManned old ks → IsKilled id old new
    → IsManned new (filter (is_other id) ks)
manned_killed id old new ks m h =
    let ends = killed_by id old.table new.table h.killed in
    let Q : ℕ → Type 0 = λ n. Ascends 0 (filter (is_other id) ks) n in
    let R : List MemberEvent → Type 0 = AreExits in
    record {
      same = ap (filter (is_other id)) m.same ∙ sym ends.0;
      once = subst Q (sym ends.1) (ascends_filter (is_other id) 0 old.table.last_contract ks m.once);
      exits = subst R (sym (ap (λ l. l.pending) h.is)) (exits_filter (is_other_deed id) old.pending m.exits);
    }

pub manned_along : (l k : Ledger) (ks ns : List ℕ) → l ≡ k → ks ≡ ns → IsManned l ks → IsManned k ns
manned_along l k ks ns e f m = let P : Ledger → Type 0 = λ x. IsManned x ns in let Q : List ℕ → Type 0 =
    λ x. IsManned l x in subst P e (subst Q f m)

pub kept_empty : (l : Ledger) (ks : List ℕ) → l ≡ record { notes = []; table = empty; due = []; pending = [] }
    → ks ≡ [] → IsKept l ks
kept_empty l ks e f =
    let none : IsManned (record { notes = []; table = empty; due = []; pending = [] }) [] =
    record { same = refl; once = omega arith; exits = tt } in
    record { sound = sound_empty l e; manned = manned_along _ l [] ks (sym e) (sym f) none }

pub manned_happen : (r : Result (Unit {0}) KidsFault) (id : ℕ) (exit : ends.Exit) (old new : Ledger) (ks : List ℕ)
    → OnOk r (new ≡ ledger_with_member_event old id (Exit exit)) → OnErr r (new ≡ old) → IsManned old ks
    → IsManned new ks
manned_happen (Ok u) id exit old new ks ok err m =
    manned_along _ new ks ks (sym ok) refl (manned_happened old id exit ks m)
manned_happen (Err e) id exit old new ks ok err m = manned_along old new ks ks (sym err) refl m

pub manned_polled : (e : ContractEvent) (old new : Ledger) (ks : List ℕ)
    → Ascends 0 (numbers old.table.members) old.table.last_process → IsManned old ks → old.due ≡ []
    → (old.pending ≢ []) → IsPolled (Some e) old new → IsManned new (filter (is_other e.contract) ks)
manned_polled e old new ks a m due some (inl given) = let none = sym due ∙ given.next in absurd cc
manned_polled e old new ks a m due some (inr found) = manned_taken e old new ks a m some found

pub manned_told : (e : ContractEvent) (id p : ℕ) (exit : ends.Exit) (old new : Ledger) (ks : List ℕ)
    → Ascends 0 (numbers old.table.members) old.table.last_process → IsManned old ks
    → home old.table.members p ≡ Some id → IsTold id p (Exit exit) e old new
    → IsManned new (filter (is_other id) ks)
manned_told e id p exit old new ks a m h told =
    let R : List MemberEvent → Type 0 = AreExits in
    let P : ℕ → Type 0 = λ n. IsManned new (filter (is_other n) ks) in
    subst P told.of
    (found_exit e p exit old new ks a m (h ∙ ap Some (sym told.of)) told.table
    (subst R (sym (ap (λ l. l.pending) told.is)) m.exits))

-- ---- a contract with members has a process, and the contract of a process has members

by_exit : (c : Option Contract) (h : Happening) (n : ℕ) → IsExit h → left_by_deed c h n ≤ n
by_exit c (Exit exit) n e = omega arith
by_exit c Fork n e = absurd e
by_exit c (Fail failure) n e = absurd e

left_by_exit : (b : Bool) (c : Option Contract) (h : Happening) (n : ℕ) → IsExit h → cond b (left_by_deed c h n) n ≤ n
left_by_exit true c h n e = by_exit c h n e
left_by_exit false c h n e = omega arith

left_by_exits : (c : Option Contract) (id : ℕ) (ds : List MemberEvent) (n : ℕ) → AreExits ds → left_after c id ds n ≤ n
left_by_exits c id [] n e = omega arith
left_by_exits c id (d ∷ ds) n e =
    omega (arith, left_by_exit (d.contract == id) c d.happening n e.0, left_by_exits c id ds (left_of c id d n) e.1)

no_kid_by : {C : Type 0} (b : Bool) (id : ℕ) (kid : Kid C) (kids : List (Kid C)) (m : Member) (ms : List Member)
    → (kid.contract == id) ≡ b → m.contract ≡ kid.contract
    → (find (is_kid_of id) kids ≡ None → length (processes id ms) ≡ 0) → find (is_kid_of id) (kid ∷ kids) ≡ None
    → length (processes id (m ∷ ms)) ≡ 0
no_kid_by true id kid kids m ms e same deeper h = let there : Some kid ≡ None = rw e at h in absurd cc
no_kid_by false id kid kids m ms e same deeper h =
    let there : find (is_kid_of id) kids ≡ None = rw e at h in
    let none : one_at (m.contract == id) ≡ 0 = ap (λ n. one_at (n == id)) same ∙ ap one_at e in
    omega (arith, count_cons id m ms, deeper there, none)

no_kid : {C : Type 0} (id : ℕ) (kids : List (Kid C)) (ms : List Member) → contracts kids ≡ homes ms
    → find (is_kid_of id) kids ≡ None → length (processes id ms) ≡ 0
no_kid id [] [] same h = refl
no_kid id [] (m ∷ ms) same h = absurd cc
no_kid id (kid ∷ kids) [] same h = absurd cc
no_kid id (kid ∷ kids) (m ∷ ms) same h =
    let first : m.contract ≡ kid.contract = cc in
    let rest : contracts kids ≡ homes ms = cc in
    no_kid_by (kid.contract == id) id kid kids m ms refl first (no_kid id kids ms rest) h

pub kid_is_there : {C : Type 0} (id : ℕ) (l : Ledger) (kids : List (Kid C)) → IsManned l (contracts kids)
    → 0 < members_left l id → position (is_kid_of id) kids ≢ None
kid_is_there id l kids m some none =
    let members = no_kid id kids l.table.members m.same (found_none (is_kid_of id) kids none) in
    omega (
      arith,
      some,
      members,
      left_by_exits (contract l.table id) id l.pending (length (processes id l.table.members)) m.exits,
    )

no_member_by : {C : Type 0} (b : Bool) (id : ℕ) (kid : Kid C) (m : Member) (ms : List Member) → (m.contract == id) ≡ b
    → m.contract ≡ id → find (is_in id) (m ∷ ms) ≢ None
no_member_by true id kid m ms e same h = let there : Some m ≡ None = rw e at h in absurd cc
no_member_by false id kid m ms e same h = let there : true ≡ false = sym (eq-eqb m.contract id same) ∙ e in absurd cc

rest_by : (b : Bool) (id : ℕ) (m : Member) (ms : List Member) → (m.contract == id) ≡ b
    → find (is_in id) (m ∷ ms) ≡ None → find (is_in id) ms ≡ None
rest_by true id m ms e h = let there : Some m ≡ None = rw e at h in absurd cc
rest_by false id m ms e h = rw e at h

no_member : {C : Type 0} (id : ℕ) (kids : List (Kid C)) (ms : List Member) (k : ℕ) (kid : Kid C)
    → contracts kids ≡ homes ms → slice_get kids k ≡ Some kid → kid.contract ≡ id → find (is_in id) ms ≢ None
no_member id [] ms k kid same there of h = absurd cc
no_member id (x ∷ xs) [] k kid same there of h = absurd cc
no_member id (x ∷ xs) (m ∷ ms) zero kid same there of h =
    let is : x ≡ kid = cc in
    let first : m.contract ≡ x.contract = cc in
    no_member_by (m.contract == id) id kid m ms refl (first ∙ ap (λ y. y.contract) is ∙ of) h
no_member id (x ∷ xs) (m ∷ ms) (suc k) kid same there of h =
    let rest : contracts xs ≡ homes ms = cc in
    no_member id xs ms k kid rest there of (rest_by (m.contract == id) id m ms refl h)

no_first : (o : Option Member) → option_map (λ m. m.process) o ≡ None → o ≡ None
no_first None h = refl
no_first (Some m) h = absurd cc

pub member_is_there : {C : Type 0} (id : ℕ) (l : Ledger) (kids : List (Kid C)) (P : Kid C → Type 0)
    → IsManned l (contracts kids) → SomeKid id kids P → first_member id l.table.members ≢ None
member_is_there id l kids P m some none =
    no_member id kids l.table.members some.0 some.1 m.same some.2 some.3
    (no_first _ (ap (option_map (λ m. m.process)) (sym (found_is (is_in id) l.table.members)) ∙ none))

-- one process of which this holds, if the contract has one
pub some_of : {C : Type 0} (id : ℕ) (l : Ledger) (kids : List (Kid C)) (P : Kid C → Type 0)
    → IsManned l (contracts kids) → 0 < members_left l id → NoneOrSome id kids P → SomeKid id kids P
some_of id l kids P m some (inl none) = absurd (kid_is_there id l kids m some none)
some_of id l kids P m some (inr one) = one

pub no_device : {X : Type 0} (r : Result X KidsFault) (Q P : Type 0)
    → IfErr r (λ e. (e ≡ Memory) ⊎ ((e ≡ NoChild) × Q)) → IfErr r (λ e. e ≡ Device → P)
no_device (Ok x) Q P h = tt
no_device (Err e) Q P (inl is) = λ device. let apart : Memory ≡ Device = sym is ∙ device in absurd cc
no_device (Err e) Q P (inr is) = λ device. let apart : NoChild ≡ Device = sym is.0 ∙ device in absurd cc
