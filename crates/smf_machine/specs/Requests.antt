-- The request of a restarter's turn for an instance to whoever runs methods.
use Rattle.std.specs.Prelude.{ℕ, ◌==◌, List, [], ◌∷◌, find, Bool, true, false, Option, Some, None}
use Rattle.smf_contract.specs.declared.contract.Contract.{Contract}
use Rattle.smf_contract.specs.declared.contract.Holder.{Holder}
use Rattle.smf_contract.specs.declared.contract.Holder.TheVariants.{Held, Inherited, Abandoned}
use Rattle.smf_contract.specs.declared.terms.Terms.{Terms}
use Rattle.smf_contract.specs.Calls.{next_contract}
use Rattle.smf_contract.specs.Entries.{Contracts, contract}
use Rattle.smf_restarter.specs.declared.known.KnownInstance.{KnownInstance}
use Rattle.smf_restarter.specs.declared.reply.Begun.{Begun}
use Rattle.smf_restarter.specs.declared.reply.Call.{Call}
use Rattle.smf_restarter.specs.declared.reply.Call.TheVariants as calls
use Rattle.smf_restarter.specs.Knowledge.{Knowledge}
use Rattle.smf_restarter.specs.Ticks.{reply_to_tick}
use Rattle.smf_world.specs.Worked.{restarter}
use Rattle.smf_world.specs.World.{World}
use Rattle.smf_machine.specs.declared.requests.MethodRequest.{MethodRequest}
use Rattle.smf_machine.specs.declared.requests.MethodRequest.TheVariants.{Nothing, Unnumbered, Spawn, Kill}

-- a process for a method that is begun, of an instance that the restarter of this name knows, in the next contract
abbrev pub spawn_request : List ℕ → ℕ → ℕ → Terms → Option KnownInstance → Option Begun → MethodRequest
spawn_request name c cookie terms (Some i) (Some b) =
    Spawn (record {
      contract = c;
      cookie = cookie;
      style = i.row.duration;
      terms = terms;
      command = b.command;
      method = b.method;
      instance = i.name;
      restarter = name;
    })
spawn_request name c cookie terms _ _ = Unnumbered

abbrev pub wanted_in : List ℕ → Option ℕ → ℕ → Terms → Option KnownInstance → Option Begun → MethodRequest
wanted_in name (Some c) cookie terms i b = spawn_request name c cookie terms i b
wanted_in name None cookie terms i b = Unnumbered

abbrev pub is_holder : ℕ → Holder → Bool
is_holder actor (Held a) = a == actor
is_holder actor Inherited = false
is_holder actor Abandoned = false

-- an actor holds a contract
abbrev pub is_held_by : ℕ → Option Contract → Bool
is_held_by actor (Some c) = is_holder actor c.holder
is_held_by actor None = false

-- members of a contract that another holds are not ended
abbrev pub kill_if : Bool → ℕ → MethodRequest
kill_if true c = Kill c
kill_if false c = Nothing

abbrev pub first_of : List Begun → Option Begun
first_of [] = None
first_of (b ∷ bs) = Some b

abbrev pub is_instance : ℕ → KnownInstance → Bool
is_instance n i = i.instance == n

abbrev pub asked_by : Contracts → Knowledge → ℕ → Option Begun → Call → MethodRequest
asked_by t k n b (calls.Spawn cookie terms) =
    wanted_in k.name (next_contract t) cookie terms (find (is_instance n) k.instances) b
asked_by t k n b (calls.Kill c) = kill_if (is_held_by k.actor (contract t c)) c
asked_by t k n b calls.Nothing = Nothing
asked_by t k n b calls.List = Nothing
asked_by t k n b (calls.Adopt c) = Nothing

abbrev pub asked_of : Contracts → Option Knowledge → ℕ → MethodRequest
asked_of t None n = Nothing
asked_of t (Some k) n = asked_by t k n (first_of (reply_to_tick k n).begun) (reply_to_tick k n).call

unfoldable pub request_of_turn : World → List ℕ → ℕ → MethodRequest
request_of_turn w name n = asked_of w.table (restarter w name) n
