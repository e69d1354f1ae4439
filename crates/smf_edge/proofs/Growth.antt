-- Events that are added to those of a table.
use Rattle.std.proofs.Common.{◌≡◌, ℕ, ◌+◌, ◌≤◌, List, [], ◌∷◌, ◌++◌, length, length-append, Bool, true, false, nat_lt, refl, sym, arith, append_assoc, ◌∙◌, ap}
use Rattle.std.proofs.lemmas.List.{append-nil}
use Rattle.smf_contract.specs.declared.event.ContractEvent.{ContractEvent}
use Rattle.smf_contract.specs.declared.event.EventKind.{EventKind}
use Rattle.smf_contract.specs.declared.event.EventKind.TheVariants as kinds
use Rattle.smf_contract.specs.declared.event.Exit.TheVariants.{Killed}
use Rattle.smf_contract.specs.Entries.{last_event}
use Rattle.smf_contract.specs.Calls.{with_empty_event, exits, with_next_event}

-- at most so many are added
pub record Grows (k : ℕ) (old new : List ContractEvent) : Type 0 where
  pub more : List ContractEvent
  pub is : new ≡ old ++ more
  pub bound : length more ≤ k

pub grows_same : (es : List ContractEvent) → Grows 0 es es
grows_same es = record { more = []; is = sym (append-nil es); bound = omega arith }

pub grows_noted : (es : List ContractEvent) (id : ℕ) (kind : EventKind) (left : Bool)
    → Grows 1 es (with_next_event es id kind left)
grows_noted es id kind left =
    record {
      more = record { contract = id; number = last_event id es + 1; kind = kind; left = left } ∷ [];
      is = refl;
      bound = omega arith;
    }

pub grows_then : (j k : ℕ) (a b c : List ContractEvent) → Grows j a b → Grows k b c → Grows (j + k) a c
grows_then j k a b c g h =
    record {
      more = g.more ++ h.more;
      is = h.is ∙ ap (λ es. es ++ h.more) g.is ∙ append_assoc a g.more h.more;
      bound = omega (arith, g.bound, h.bound, length-append g.more h.more);
    }

pub grows_exits : (es : List ContractEvent) (id : ℕ) (ps : List ℕ) → Grows (length ps) es (exits es id ps)
grows_exits es id [] = grows_same es
grows_exits es id (p ∷ ps) =
    let here = with_next_event es id (kinds.Exit p Killed) (nat_lt 0 (length ps)) in
    let g = grows_then 1 (length ps) es here (exits here id ps)
    (grows_noted es id (kinds.Exit p Killed) (nat_lt 0 (length ps))) (grows_exits here id ps) in
    record { more = g.more; is = g.is; bound = omega (arith, g.bound) }

pub grows_emptied : (b : Bool) (es : List ContractEvent) (id : ℕ) → Grows 1 es (with_empty_event b es id)
grows_emptied true es id = record { more = []; is = sym (append-nil es); bound = omega arith }
grows_emptied false es id = grows_noted es id kinds.Empty false

-- an event of a contract comes first, and at most so many more after it
pub record Begins (id k : ℕ) (old new : List ContractEvent) : Type 0 where
  pub first : ContractEvent
  pub more : List ContractEvent
  pub is : new ≡ old ++ first ∷ more
  pub of : first.contract ≡ id
  pub bound : length more ≤ k

pub begins_noted : (k : ℕ) (es new : List ContractEvent) (id : ℕ) (kind : EventKind) (left : Bool)
    → Grows k (with_next_event es id kind left) new → Begins id k es new
begins_noted k es new id kind left g =
    record {
      first = record { contract = id; number = last_event id es + 1; kind = kind; left = left };
      more = g.more;
      is = g.is ∙ append_assoc es
          (record { contract = id; number = last_event id es + 1; kind = kind; left = left } ∷ []) g.more;
      of = refl;
      bound = g.bound;
    }
