-- A call keeps two tables alike that differ only in who holds their contracts.
use Rattle.std.proofs.Common.{◌≡◌, ℕ, zero, suc, ◌==◌, Bool, true, false, cond, List, [], ◌∷◌, ◌++◌, map, Option, Some, None, Ok, Err, option_map, position, slice_get, slice_set, refl, sym, ap, ◌∙◌, subst}
use Rattle.std.specs.Prelude.{find}
use Rattle.std.specs.Option.{option_map_or}
use Rattle.std.proofs.lemmas.List.{map_push}
use Rattle.smf_contract.specs.declared.call.ContractCall.TheVariants as calls
use Rattle.smf_contract.specs.declared.contract.Contract.{Contract}
use Rattle.smf_contract.specs.declared.contract.Holder.{Holder}
use Rattle.smf_contract.specs.declared.contract.Holder.TheVariants.{Held, Inherited, Abandoned}
use Rattle.smf_contract.specs.declared.event.Exit as ends
use Rattle.smf_contract.specs.declared.event.Failure.{Failure}
use Rattle.smf_contract.specs.declared.fault.ContractFault.TheVariants.{NotInherited}
use Rattle.smf_contract.specs.declared.table.Made.{Made}
use Rattle.smf_contract.specs.declared.terms.Terms.{Terms}
use Rattle.smf_contract.specs.Called.{table_after_contract_call, left_by, left_by_making}
use Rattle.smf_contract.specs.Calls
use Rattle.smf_contract.specs.Calls.{activity, result_of_adoption, adopted_if, new_contract, changed_at, activity_after_end, result_of_exit, exited_in, exits_by_failure, result_of_failure, failed_in, result_of_fork, forked_in, contract_held_by, held_by, is_fatal, is_inherited, result_of_kill, killed_if, with_new_contract, next_number, result_of_spawn, spawned_as, with_activity, with_failure, with_holder}
use Rattle.smf_contract.specs.Entries.{Contracts, contract, contract_in, has_id, home}
use Rattle.smf_edge.proofs.Firsts.{found_is}
use Rattle.smf_script.specs.Agrees.{AreAlike, contract_without_holder}
use Rattle.smf_machine.specs.Requests.{is_held_by}

pub alike_then : (s t u : Contracts) → AreAlike s t → AreAlike t u → AreAlike s u
alike_then s t u a b =
    record {
      contracts = a.contracts ∙ b.contracts;
      members = a.members ∙ b.members;
      events = a.events ∙ b.events;
      last_contract = a.last_contract ∙ b.last_contract;
      last_process = a.last_process ∙ b.last_process;
    }

pub alike_back : (t u : Contracts) → AreAlike t u → AreAlike u t
alike_back t u a =
    record {
      contracts = sym a.contracts;
      members = sym a.members;
      events = sym a.events;
      last_contract = sym a.last_contract;
      last_process = sym a.last_process;
    }

abbrev over : Contracts → List Contract → Contracts
over u cs = record u { contracts = cs }

over_is : (t u : Contracts) → AreAlike t u → t ≡ over u t.contracts
over_is t u a =
    λ j. record {
      contracts = t.contracts;
      members = a.members j;
      events = a.events j;
      last_contract = a.last_contract j;
      last_process = a.last_process j;
    }

abbrev Same : List Contract → List Contract → Type 0
Same cs ds = map contract_without_holder cs ≡ map contract_without_holder ds

alone : (u : Contracts) (cs : List Contract) → Same cs u.contracts → AreAlike (over u cs) u
alone u cs e = record { contracts = e; members = refl; events = refl; last_contract = refl; last_process = refl }

-- ---- what happens to a process

fork_by : (u : Contracts) (cs : List Contract) (o n : Option ℕ) → Same cs u.contracts
    → AreAlike (left_by_making (over u cs) (forked_in (over u cs) o n)) (left_by_making u (forked_in u o n))
fork_by u cs None n e = alone u cs e
fork_by u cs (Some id) None e = alone u cs e
fork_by u cs (Some id) (Some child) e =
    record { contracts = e; members = refl; events = refl; last_contract = refl; last_process = refl }

exit_by : (u : Contracts) (cs : List Contract) (p : ℕ) (exit : ends.Exit) (o : Option ℕ) → Same cs u.contracts
    → AreAlike (left_by (over u cs) (exited_in (over u cs) p exit o)) (left_by u (exited_in u p exit o))
exit_by u cs p exit None e = alone u cs e
exit_by u cs p exit (Some id) e =
    record { contracts = e; members = refl; events = refl; last_contract = refl; last_process = refl }

found_by : (b : Bool) (c : Contract) (o : Option Contract) (other : Option Contract)
    → option_map contract_without_holder o ≡ other
    → option_map contract_without_holder (cond b (Some c) o) ≡ cond b (Some (contract_without_holder c)) other
found_by true c o other h = refl
found_by false c o other h = h

found_unheld : (id : ℕ) (cs : List Contract)
    → option_map contract_without_holder (find (has_id id) cs) ≡ find (has_id id) (map contract_without_holder cs)
found_unheld id [] = refl
found_unheld id (c ∷ cs) =
    found_by (c.id == id) c (find (has_id id) cs) (find (has_id id) (map contract_without_holder cs))
    (found_unheld id cs)

there : (id : ℕ) (cs : List Contract) → option_map contract_without_holder (contract_in cs id)
    ≡ find (has_id id) (map contract_without_holder cs)
there id cs = ap (option_map contract_without_holder) (found_is (has_id id) cs) ∙ found_unheld id cs

fatal_unheld : (f : Failure) (o : Option Contract) → is_fatal f o ≡ is_fatal f (option_map contract_without_holder o)
fatal_unheld f None = refl
fatal_unheld f (Some c) = refl

fatal_same : (f : Failure) (id : ℕ) (cs ds : List Contract) → Same cs ds
    → is_fatal f (contract_in cs id) ≡ is_fatal f (contract_in ds id)
fatal_same f id cs ds e =
    fatal_unheld f (contract_in cs id)
    ∙ ap (is_fatal f) (there id cs ∙ ap (find (has_id id)) e ∙ sym (there id ds))
    ∙ sym (fatal_unheld f (contract_in ds id))

fail_by : (u : Contracts) (cs : List Contract) (p : ℕ) (f : Failure) (o : Option ℕ) → Same cs u.contracts
    → AreAlike (left_by (over u cs) (failed_in (over u cs) p f o)) (left_by u (failed_in u p f o))
fail_by u cs p f None e = alone u cs e
fail_by u cs p f (Some id) e =
    let same : is_fatal f (contract_in cs id) ≡ is_fatal f (contract_in u.contracts id) =
    fatal_same f id cs u.contracts e in
    record {
      contracts = e;
      members = ap (λ b. (exits_by_failure b id p (with_failure id p f (activity u))).members) same;
      events = ap (λ b. (exits_by_failure b id p (with_failure id p f (activity u))).events) same;
      last_contract = refl;
      last_process = refl;
    }

-- ---- two tables, by one of them

by_over : (t u : Contracts) (P : Contracts → Type 0) → AreAlike t u → P (over u t.contracts) → P t
by_over t u P a h = subst P (sym (over_is t u a)) h

fork_over : (u : Contracts) (cs : List Contract) (p : ℕ) → Same cs u.contracts
    → AreAlike (table_after_contract_call (over u cs) (calls.Fork p)) (table_after_contract_call u (calls.Fork p))
unfolding table_after_contract_call result_of_fork
fork_over u cs p e = fork_by u cs (home u.members p) (next_number u.last_process) e

exit_over : (u : Contracts) (cs : List Contract) (p : ℕ) (exit : ends.Exit) → Same cs u.contracts
    → AreAlike (table_after_contract_call (over u cs) (calls.Exit p exit))
    (table_after_contract_call u (calls.Exit p exit))
unfolding table_after_contract_call result_of_exit
exit_over u cs p exit e = exit_by u cs p exit (home u.members p) e

fail_over : (u : Contracts) (cs : List Contract) (p : ℕ) (f : Failure) → Same cs u.contracts
    → AreAlike (table_after_contract_call (over u cs) (calls.Fail p f)) (table_after_contract_call u (calls.Fail p f))
unfolding table_after_contract_call result_of_failure
fail_over u cs p f e = fail_by u cs p f (home u.members p) e

pub alike_fork : (t u : Contracts) (p : ℕ) → AreAlike t u
    → AreAlike (table_after_contract_call t (calls.Fork p)) (table_after_contract_call u (calls.Fork p))
alike_fork t u p a =
    by_over t u (λ x. AreAlike (table_after_contract_call x (calls.Fork p))
    (table_after_contract_call u (calls.Fork p))) a (fork_over u t.contracts p a.contracts)

pub alike_exit : (t u : Contracts) (p : ℕ) (exit : ends.Exit) → AreAlike t u
    → AreAlike (table_after_contract_call t (calls.Exit p exit)) (table_after_contract_call u (calls.Exit p exit))
alike_exit t u p exit a =
    by_over t u (λ x. AreAlike (table_after_contract_call x (calls.Exit p exit))
    (table_after_contract_call u (calls.Exit p exit))) a (exit_over u t.contracts p exit a.contracts)

pub alike_fail : (t u : Contracts) (p : ℕ) (f : Failure) → AreAlike t u
    → AreAlike (table_after_contract_call t (calls.Fail p f)) (table_after_contract_call u (calls.Fail p f))
alike_fail t u p f a =
    by_over t u (λ x. AreAlike (table_after_contract_call x (calls.Fail p f))
    (table_after_contract_call u (calls.Fail p f))) a (fail_over u t.contracts p f a.contracts)

-- ---- kills

abbrev pub killed_all : Contracts → ℕ → Contracts
killed_all t id = with_activity t (activity_after_end id (activity t))

alike_killed : (t u : Contracts) (id : ℕ) → AreAlike t u → AreAlike (killed_all t id) (killed_all u id)
alike_killed t u id a =
    by_over t u (λ x. AreAlike (killed_all x id) (killed_all u id)) a
    (record { contracts = a.contracts; members = refl; events = refl; last_contract = refl; last_process = refl })

killed_by : (u v : Contracts) (id : ℕ) (o : Option Contract) → killed_if u id o ≡ Ok v → v ≡ killed_all u id
killed_by u v id None h = absurd cc
killed_by u v id (Some c) h = sym (ap (left_by u) h)

pub killed_shape : (u v : Contracts) (actor id : ℕ) → result_of_kill u actor id ≡ Ok v → v ≡ killed_all u id
unfolding result_of_kill
killed_shape u v actor id h = killed_by u v id (contract_held_by u actor id) h

by_holder : (actor : ℕ) (h : Holder) (c : Contract) → c.holder ≡ h
    → is_held_by actor (Some c) ≡ Calls.is_held_by actor c.holder
by_holder actor (Held other) c e = rw e refl
by_holder actor Inherited c e = rw e refl
by_holder actor Abandoned c e = rw e refl

kill_of : (b : Bool) (t : Contracts) (id : ℕ) (c : Contract) → b ≡ true
    → left_by t (killed_if t id (cond b (Some c) None)) ≡ killed_all t id
kill_of true t id c e = refl
kill_of false t id c e = absurd cc

none_of : (b : Bool) (t : Contracts) (id : ℕ) (c : Contract) → b ≡ false
    → left_by t (killed_if t id (cond b (Some c) None)) ≡ t
none_of true t id c e = absurd cc
none_of false t id c e = refl

kill_in : (t : Contracts) (actor id : ℕ) (o : Option Contract) → is_held_by actor o ≡ true
    → left_by t (killed_if t id (held_by actor o)) ≡ killed_all t id
kill_in t actor id None e = absurd cc
kill_in t actor id (Some c) e =
    kill_of (Calls.is_held_by actor c.holder) t id c (sym (by_holder actor c.holder c refl) ∙ e)

no_kill_in : (t : Contracts) (actor id : ℕ) (o : Option Contract) → is_held_by actor o ≡ false
    → left_by t (killed_if t id (held_by actor o)) ≡ t
no_kill_in t actor id None e = refl
no_kill_in t actor id (Some c) e =
    none_of (Calls.is_held_by actor c.holder) t id c (sym (by_holder actor c.holder c refl) ∙ e)

pub killed_called : (t : Contracts) (actor id : ℕ) → is_held_by actor (contract t id) ≡ true
    → table_after_contract_call t (calls.Kill actor id) ≡ killed_all t id
unfolding table_after_contract_call result_of_kill
killed_called t actor id e = kill_in t actor id (contract t id) e

pub not_killed : (t : Contracts) (actor id : ℕ) → is_held_by actor (contract t id) ≡ false
    → table_after_contract_call t (calls.Kill actor id) ≡ t
unfolding table_after_contract_call result_of_kill
not_killed t actor id e = no_kill_in t actor id (contract t id) e

pub alike_kill : (t u v : Contracts) (actor id : ℕ) → AreAlike t u → is_held_by actor (contract t id) ≡ true
    → result_of_kill u 0 id ≡ Ok v → AreAlike (table_after_contract_call t (calls.Kill actor id)) v
alike_kill t u v actor id a mine h =
    let P : Contracts → Type 0 = λ x. AreAlike x v in
    let Q : Contracts → Type 0 = λ x. AreAlike (killed_all t id) x in
    subst P (sym (killed_called t actor id mine)) (subst Q (sym (killed_shape u v 0 id h)) (alike_killed t u id a))

-- ---- adoptions

set_more : (o : Option Contract) (c : Contract) (cs : List Contract) (k : ℕ) (f : Contract → Contract)
    → map contract_without_holder (option_map_or (λ x. slice_set cs k (f x)) o cs) ≡ map contract_without_holder cs
    → map contract_without_holder (option_map_or (λ x. slice_set (c ∷ cs) (suc k) (f x)) o (c ∷ cs))
    ≡ map contract_without_holder (c ∷ cs)
set_more None c cs k f h = refl
set_more (Some x) c cs k f h = ap (λ is. contract_without_holder c ∷ is) h

set_unheld : (cs : List Contract) (k : ℕ) (f : Contract → Contract)
    → ((c : Contract) → contract_without_holder (f c) ≡ contract_without_holder c)
    → map contract_without_holder (option_map_or (λ c. slice_set cs k (f c)) (slice_get cs k) cs)
    ≡ map contract_without_holder cs
set_unheld [] k f h = refl
set_unheld (c ∷ cs) zero f h = ap (λ i. i ∷ map contract_without_holder cs) (h c)
set_unheld (c ∷ cs) (suc k) f h = set_more (slice_get cs k) c cs k f (set_unheld cs k f h)

changed_unheld : (cs : List Contract) (f : Contract → Contract)
    → ((c : Contract) → contract_without_holder (f c) ≡ contract_without_holder c) → (o : Option ℕ)
    → map contract_without_holder (changed_at cs f o) ≡ map contract_without_holder cs
changed_unheld cs f h None = refl
changed_unheld cs f h (Some k) = set_unheld cs k f h

self : (t : Contracts) → AreAlike t t
self t = alone t t.contracts refl

adopt_to : (b : Bool) (t : Contracts) (actor id : ℕ)
    → AreAlike (left_by t (cond b (Ok (with_holder t id (Held actor))) (Err NotInherited))) t
adopt_to true t actor id =
    record {
      contracts = changed_unheld t.contracts (λ c. record c { holder = Held actor }) (λ c. refl)
          (position (has_id id) t.contracts);
      members = refl;
      events = refl;
      last_contract = refl;
      last_process = refl;
    }
adopt_to false t actor id = self t

adopt_by : (t : Contracts) (actor id : ℕ) (o : Option Contract) → AreAlike (left_by t (adopted_if t actor id o)) t
adopt_by t actor id None = self t
adopt_by t actor id (Some c) = adopt_to (is_inherited c.holder) t actor id

adopted_alike : (t : Contracts) (actor id : ℕ) → AreAlike (table_after_contract_call t (calls.Adopt actor id)) t
unfolding table_after_contract_call result_of_adoption
adopted_alike t actor id = adopt_by t actor id (contract t id)

pub alike_adopt : (t u : Contracts) (actor id : ℕ) → AreAlike t u
    → AreAlike (table_after_contract_call t (calls.Adopt actor id)) u
alike_adopt t u actor id a =
    alike_then (table_after_contract_call t (calls.Adopt actor id)) t u (adopted_alike t actor id) a

-- ---- spawns

spawn_by : (u v : Contracts) (cs : List Contract) (actor cookie : ℕ) (terms : Terms) (m : Made) (o n : Option ℕ)
    → Same cs u.contracts → spawned_as u 0 cookie terms o n ≡ Ok (v, m)
    → AreAlike (left_by_making (over u cs) (spawned_as (over u cs) actor cookie terms o n)) v
spawn_by u v cs actor cookie terms m None n e h = absurd cc
spawn_by u v cs actor cookie terms m (Some id) None e h = absurd cc
spawn_by u v cs actor cookie terms m (Some id) (Some p) e h =
    let is : v ≡ with_new_contract u 0 cookie terms id p = sym (ap (left_by_making u) h) in
    let P : Contracts → Type 0 = λ x. AreAlike (with_new_contract (over u cs) actor cookie terms id p) x in
    subst P (sym is)
    (record {
      contracts = map_push contract_without_holder cs (new_contract id actor cookie terms p)
          ∙ ap (λ ds. ds ++ contract_without_holder (new_contract id 0 cookie terms p) ∷ []) e
          ∙ sym (map_push contract_without_holder u.contracts (new_contract id 0 cookie terms p));
      members = refl;
      events = refl;
      last_contract = refl;
      last_process = refl;
    })

spawn_over : (u v : Contracts) (cs : List Contract) (actor cookie : ℕ) (terms : Terms) (m : Made)
    → Same cs u.contracts → result_of_spawn u 0 cookie terms ≡ Ok (v, m)
    → AreAlike (table_after_contract_call (over u cs) (calls.Spawn actor cookie terms)) v
unfolding table_after_contract_call result_of_spawn
spawn_over u v cs actor cookie terms m e h =
    spawn_by u v cs actor cookie terms m (next_number u.last_contract) (next_number u.last_process) e h

pub alike_spawn : (t u v : Contracts) (actor cookie : ℕ) (terms : Terms) (m : Made) → AreAlike t u
    → result_of_spawn u 0 cookie terms ≡ Ok (v, m)
    → AreAlike (table_after_contract_call t (calls.Spawn actor cookie terms)) v
alike_spawn t u v actor cookie terms m a h =
    by_over t u (λ x. AreAlike (table_after_contract_call x (calls.Spawn actor cookie terms)) v) a
    (spawn_over u v t.contracts actor cookie terms m a.contracts h)

pub alike_nothing : (t u : Contracts) → AreAlike t u → AreAlike (table_after_contract_call t calls.Nothing) u
unfolding table_after_contract_call
alike_nothing t u a = a
