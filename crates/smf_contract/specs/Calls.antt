-- The effect of each call on a contract table.
use Rattle.std.specs.Prelude.{◌≡◌, ℕ, ◌+◌, List, [], ◌∷◌, ◌++◌, Bool, true, false, ◌==◌, ◌&&◌, not, nat_lt, length, if◌then◌else◌, Option, Some, None, Result, Ok, Err, map, position, slice_get, slice_set}
use Rattle.std.specs.Int.RustNames.{bit_and}
use Rattle.std.specs.Option.{option_map_or}
use Rattle.smf_contract.specs.declared.contract.Contract.{Contract}
use Rattle.smf_contract.specs.declared.contract.Holder.{Holder}
use Rattle.smf_contract.specs.declared.contract.Holder.TheVariants.{Held, Inherited, Abandoned}
use Rattle.smf_contract.specs.declared.event.ContractEvent.{ContractEvent}
use Rattle.smf_contract.specs.declared.event.EventKind.{EventKind}
use Rattle.smf_contract.specs.declared.event.EventKind.TheVariants.{Empty, Fork, Core, Signal, Hwerr}
use Rattle.smf_contract.specs.declared.event.EventKind.TheVariants as kinds
use Rattle.smf_contract.specs.declared.event.Exit.TheVariants.{Killed}
use Rattle.smf_contract.specs.declared.event.Exit as ends
use Rattle.smf_contract.specs.declared.event.Failure.{Failure}
use Rattle.smf_contract.specs.declared.event.Failure.TheVariants as failures
use Rattle.smf_contract.specs.declared.fault.ContractFault.{ContractFault}
use Rattle.smf_contract.specs.declared.fault.ContractFault.TheVariants.{Memory, Full, NoSuchProcess, NotInherited, NotHeld}
use Rattle.smf_contract.specs.declared.table.Made.{Made}
use Rattle.smf_contract.specs.declared.terms.Terms.{Terms}
use Rattle.smf_contract.specs.Entries.{Contracts, Activity, contract, home, has_id, has_members, processes, without, outside, last_event}

-- a refusal is the one that the definition gives, unless memory ran out
abbrev pub Fails : {X : Type 0} → ContractFault → Result X ContractFault → Type 0
Fails Memory given = Unit {0}
Fails e given = given ≡ Err e

-- a call left the table that the definition gives
abbrev pub Leaves : {X : Type 0} → Result X ContractFault → Result Contracts ContractFault → Contracts → Type 0
Leaves (Ok x) given left = given ≡ Ok left
Leaves (Err e) given left = Fails e given

-- a call left the table and made the number that the definition gives
abbrev pub Makes : {X : Type 0} → Result X ContractFault → Result (Contracts × X) ContractFault → Contracts → Type 0
Makes (Ok x) given left = given ≡ Ok (left, x)
Makes (Err e) given left = Fails e given

-- the number after the last one given, up to 2^63 - 1
abbrev pub next_number : ℕ → Option ℕ
next_number last = if nat_lt last 0x7fff_ffff_ffff_ffff then Some (last + 1) else None

-- one more event of a contract, and whether a member is left after it
abbrev pub with_next_event : List ContractEvent → ℕ → EventKind → Bool → List ContractEvent
with_next_event es id kind left =
    es ++ record { contract = id; number = last_event id es + 1; kind = kind; left = left } ∷ []

-- processes are killed, one after the other, and all others of their contract are gone
abbrev pub exits : List ContractEvent → ℕ → List ℕ → List ContractEvent
exits es id [] = es
exits es id (p ∷ ps) = exits (with_next_event es id (kinds.Exit p Killed) (nat_lt 0 (length ps))) id ps

-- empty follows if no member is left
abbrev pub with_empty_event : Bool → List ContractEvent → ℕ → List ContractEvent
with_empty_event true es id = es
with_empty_event false es id = with_next_event es id Empty false

-- all members of a contract are killed in number order, and empty follows
abbrev pub emptied_by_force : ℕ → Activity → Activity
emptied_by_force id a =
    record {
      members = outside id a.members;
      events = with_next_event (exits a.events id (processes id a.members)) id Empty false;
    }

-- the same, if it has a member; an empty contract stays as it is
abbrev pub activity_after_end : ℕ → Activity → Activity
activity_after_end id a = if has_members id a.members then emptied_by_force id a else a

abbrev pub activity : Contracts → Activity
activity t = record { members = t.members; events = t.events }

abbrev pub with_activity : Contracts → Activity → Contracts
with_activity t a = record t { members = a.members; events = a.events }

abbrev pub next_of : Option ℕ → Option ℕ → Option ℕ
next_of None process = None
next_of (Some id) None = None
next_of (Some id) (Some process) = Some id

-- the id that a spawn would make
unfoldable pub next_contract : Contracts → Option ℕ
next_contract t = next_of (next_number t.last_contract) (next_number t.last_process)

-- a contract with its first process
abbrev pub new_contract : ℕ → ℕ → ℕ → Terms → ℕ → Contract
new_contract id actor cookie terms process =
    record { id = id; cookie = cookie; holder = Held actor; terms = terms; first = process; acknowledged = 0 }

abbrev pub with_new_contract : Contracts → ℕ → ℕ → Terms → ℕ → ℕ → Contracts
with_new_contract t actor cookie terms id process =
    record t {
      contracts = t.contracts ++ new_contract id actor cookie terms process ∷ [];
      members = t.members ++ record { process = process; contract = id } ∷ [];
      last_contract = id;
      last_process = process;
    }

abbrev pub spawned_as : Contracts → ℕ → ℕ → Terms → Option ℕ → Option ℕ → Result (Contracts × Made) ContractFault
spawned_as t actor cookie terms None process = Err Full
spawned_as t actor cookie terms (Some id) None = Err Full
spawned_as t actor cookie terms (Some id) (Some process) =
    Ok (with_new_contract t actor cookie terms id process, record { contract = id; process = process })

-- an actor makes a contract with one process
unfoldable pub result_of_spawn : Contracts → ℕ → ℕ → Terms → Result (Contracts × Made) ContractFault
result_of_spawn t actor cookie terms =
    spawned_as t actor cookie terms (next_number t.last_contract) (next_number t.last_process)

abbrev pub forked_in : Contracts → Option ℕ → Option ℕ → Result (Contracts × ℕ) ContractFault
forked_in t None child = Err NoSuchProcess
forked_in t (Some id) None = Err Full
forked_in t (Some id) (Some child) =
    Ok (
      record t {
        members = t.members ++ record { process = child; contract = id } ∷ [];
        events = with_next_event t.events id (Fork child) true;
        last_process = child;
      },
      child,
    )

-- a member forks a process, which is a member too
unfoldable pub result_of_fork : Contracts → ℕ → Result (Contracts × ℕ) ContractFault
result_of_fork t process = forked_in t (home t.members process) (next_number t.last_process)

-- a process exits, and empty follows if it was the last member
abbrev pub one_exit : ℕ → ℕ → ends.Exit → Activity → Activity
one_exit id process exit a =
    let left : Bool = has_members id (without process a.members) in
    record {
      members = without process a.members;
      events = with_empty_event left (with_next_event a.events id (kinds.Exit process exit) left) id;
    }

abbrev pub exited_in : Contracts → ℕ → ends.Exit → Option ℕ → Result Contracts ContractFault
exited_in t process exit None = Err NoSuchProcess
exited_in t process exit (Some id) = Ok (with_activity t (one_exit id process exit (activity t)))

-- a member exits
unfoldable pub result_of_exit : Contracts → ℕ → ends.Exit → Result Contracts ContractFault
result_of_exit t process exit = exited_in t process exit (home t.members process)

abbrev pub failure_kind : Failure → ℕ → EventKind
failure_kind failures.Core p = Core p
failure_kind failures.Signal p = Signal p
failure_kind failures.Hwerr p = Hwerr p

abbrev pub failure_bit : Failure → ℕ
failure_bit failures.Core = 8
failure_bit failures.Signal = 16
failure_bit failures.Hwerr = 32

abbrev pub is_fatal : Failure → Option Contract → Bool
is_fatal failure None = false
is_fatal failure (Some c) = bit_and c.terms.fatal.0 (failure_bit failure) == failure_bit failure

abbrev pub with_failure : ℕ → ℕ → Failure → Activity → Activity
with_failure id process failure a =
    record { members = a.members; events = with_next_event a.events id (failure_kind failure process) true }

-- a process exits, the others after it, and empty follows
abbrev pub all_exit : ℕ → ℕ → Activity → Activity
all_exit id process a =
    let left : Bool = has_members id (without process a.members) in
    emptied_by_force id (record {
      members = without process a.members;
      events = with_next_event a.events id (kinds.Exit process Killed) left;
    })

abbrev pub exits_by_failure : Bool → ℕ → ℕ → Activity → Activity
exits_by_failure true id process a = all_exit id process a
exits_by_failure false id process a = one_exit id process Killed a

abbrev pub failed_in : Contracts → ℕ → Failure → Option ℕ → Result Contracts ContractFault
failed_in t process failure None = Err NoSuchProcess
failed_in t process failure (Some id) =
    Ok (with_activity t
    (exits_by_failure (is_fatal failure (contract t id)) id process (with_failure id process failure (activity t))))

-- a failure ends a member, and the others too if it is fatal
unfoldable pub result_of_failure : Failure → Contracts → ℕ → Result Contracts ContractFault
result_of_failure failure t process = failed_in t process failure (home t.members process)

abbrev pub result_of_core : Contracts → ℕ → Result Contracts ContractFault
result_of_core t process = result_of_failure failures.Core t process

abbrev pub result_of_signal : Contracts → ℕ → Result Contracts ContractFault
result_of_signal t process = result_of_failure failures.Signal t process

abbrev pub failed_by_hardware : Contracts → ℕ → Result Contracts ContractFault
failed_by_hardware t process = result_of_failure failures.Hwerr t process

abbrev pub is_held_by : ℕ → Holder → Bool
is_held_by actor (Held other) = other == actor
is_held_by actor Inherited = false
is_held_by actor Abandoned = false

abbrev pub is_inherited : Holder → Bool
is_inherited Inherited = true
is_inherited (Held other) = false
is_inherited Abandoned = false

-- the contract of an id, changed
abbrev pub changed_at : List Contract → (Contract → Contract) → Option ℕ → List Contract
changed_at cs change None = cs
changed_at cs change (Some k) = option_map_or (λ c. slice_set cs k (change c)) (slice_get cs k) cs

abbrev pub with_contract_change : Contracts → ℕ → (Contract → Contract) → Contracts
with_contract_change t id change =
    record t { contracts = changed_at t.contracts change (position (has_id id) t.contracts) }

abbrev pub with_holder : Contracts → ℕ → Holder → Contracts
with_holder t id holder = with_contract_change t id (λ c. record c { holder = holder })

-- a contract with the holder that it has after an actor is gone
abbrev pub given_up : ℕ → Contract → Contract
given_up actor c = if is_held_by actor c.holder
    then record c { holder = (if c.terms.inherit then Inherited else Abandoned) } else c

-- a contract of an actor, whose members end with it
abbrev pub ends_with : ℕ → Contract → Bool
ends_with actor c = is_held_by actor c.holder && not c.terms.inherit && c.terms.noorphan

abbrev pub ended_one_with : ℕ → Contract → Activity → Activity
ended_one_with actor c a = if ends_with actor c then activity_after_end c.id a else a

-- in id order
abbrev pub ended_with : ℕ → List Contract → Activity → Activity
ended_with actor [] a = a
ended_with actor (c ∷ cs) a = ended_with actor cs (ended_one_with actor c a)

-- an actor is gone: what it held is inherited or abandoned, as its terms say
unfoldable pub table_without_actor : Contracts → ℕ → Contracts
table_without_actor t actor =
    record (with_activity t (ended_with actor t.contracts (activity t)))
    { contracts = map (given_up actor) t.contracts }

abbrev pub adopted_if : Contracts → ℕ → ℕ → Option Contract → Result Contracts ContractFault
adopted_if t actor id None = Err NotInherited
adopted_if t actor id (Some c) = if is_inherited c.holder then Ok (with_holder t id (Held actor)) else Err NotInherited

-- an actor takes over what is inherited
unfoldable pub result_of_adoption : Contracts → ℕ → ℕ → Result Contracts ContractFault
result_of_adoption t actor id = adopted_if t actor id (contract t id)

abbrev pub held_by : ℕ → Option Contract → Option Contract
held_by actor None = None
held_by actor (Some c) = if is_held_by actor c.holder then Some c else None

-- the contract of an id, if an actor holds it
abbrev pub contract_held_by : Contracts → ℕ → ℕ → Option Contract
contract_held_by t actor id = held_by actor (contract t id)

abbrev pub abandoned_if : Contracts → ℕ → Option Contract → Result Contracts ContractFault
abandoned_if t id None = Err NotHeld
abandoned_if t id (Some c) =
    Ok (with_activity (with_holder t id Abandoned)
    (if c.terms.noorphan then activity_after_end id (activity t) else activity t))

-- its holder gives a contract up for good
unfoldable pub result_of_abandonment : Contracts → ℕ → ℕ → Result Contracts ContractFault
result_of_abandonment t actor id = abandoned_if t id (contract_held_by t actor id)

abbrev pub killed_if : Contracts → ℕ → Option Contract → Result Contracts ContractFault
killed_if t id None = Err NotHeld
killed_if t id (Some c) = Ok (with_activity t (activity_after_end id (activity t)))

-- its holder kills the members of a contract
unfoldable pub result_of_kill : Contracts → ℕ → ℕ → Result Contracts ContractFault
result_of_kill t actor id = killed_if t id (contract_held_by t actor id)

-- the machine begins anew: no number is given again
abbrev pub table_after_reboot : Contracts → Contracts
table_after_reboot t = record t { contracts = []; members = []; events = [] }

abbrev pub earlier : ℕ → ℕ → ℕ
earlier a b = if nat_lt b a then b else a

abbrev pub later : ℕ → ℕ → ℕ
later a b = if nat_lt a b then b else a

abbrev pub acknowledged_if : Contracts → ℕ → ℕ → Option Contract → Result Contracts ContractFault
acknowledged_if t id number None = Err NotHeld
acknowledged_if t id number (Some c) =
    Ok (with_contract_change t id
    (λ c. record c { acknowledged = later c.acknowledged (earlier number (last_event id t.events)) }))

-- its holder acknowledges the events of a contract up to a number, as far as they have happened
unfoldable pub result_of_acknowledgement : Contracts → ℕ → ℕ → ℕ → Result Contracts ContractFault
result_of_acknowledgement t actor id number = acknowledged_if t id number (contract_held_by t actor id)
