-- A spawn for which there is room and a number makes the next contract.
use Rattle.std.proofs.Common.{◌≡◌, ℕ, Bool, true, false, Option, Some, None, Result, Ok, Err, refl, sym, ap, ◌∙◌}
use Rattle.smf_contract.specs.declared.fault.ContractFault.{ContractFault}
use Rattle.smf_contract.specs.declared.fault.ContractFault.TheVariants.{Memory, Full, NoSuchProcess, NotInherited, NotHeld}
use Rattle.smf_contract.specs.declared.table.Made.{Made}
use Rattle.smf_contract.specs.declared.terms.Terms.{Terms}
use Rattle.smf_contract.specs.Entries.{Contracts}
use Rattle.smf_contract.specs.Calls.{Leaves, Makes, with_new_contract, next_contract, next_of, result_of_spawn, spawned_as}
use Rattle.smf_contract.specs.Called.{left_by_making}

as_next : (t : Contracts) (actor cookie : ℕ) (terms : Terms) (id : ℕ) (new first : Option ℕ)
    → next_of new first ≡ Some id
    → (u : Contracts) × (p : ℕ)
    × (spawned_as t actor cookie terms new first ≡ Ok (u, record { contract = id; process = p }))
    × (u.last_process ≡ p)
as_next t actor cookie terms id None first h = absurd cc
as_next t actor cookie terms id (Some n) None h = absurd cc
as_next t actor cookie terms id (Some n) (Some p) h =
    (with_new_contract t actor cookie terms id p, p, (let e : n ≡ id = cc in rw e refl), refl)

pub spawned_next_is : (t : Contracts) (actor cookie : ℕ) (terms : Terms) (id : ℕ) → next_contract t ≡ Some id
    → (u : Contracts) × (p : ℕ)
    × (result_of_spawn t actor cookie terms ≡ Ok (u, record { contract = id; process = p })) × (u.last_process ≡ p)
unfolding next_contract result_of_spawn
spawned_next_is t actor cookie terms id h = as_next t actor cookie terms id _ _ h

-- a call that could not be refused but for memory, of which there was enough
pub makes_ok : {X : Type 0} (r : Result X ContractFault) (given : Result (Contracts × X) ContractFault) (room : Bool)
    (left u : Contracts) (x : X) → given ≡ Ok (u, x) → Makes r given left → (r ≡ Err Memory → room ≡ false)
    → room ≡ true → given ≡ Ok (left, x)
makes_ok (Ok y) given room left u x is m full enough = let same : Ok (u, x) ≡ Ok (left, y) = sym is ∙ m in
    let at : u ≡ left = ap (left_by_making u) same in is ∙ ap (λ t. Ok (t, x)) at
makes_ok (Err Memory) given room left u x is m full enough = let none = full refl in absurd cc
makes_ok (Err Full) given room left u x is m full enough = absurd cc
makes_ok (Err NoSuchProcess) given room left u x is m full enough = absurd cc
makes_ok (Err NotInherited) given room left u x is m full enough = absurd cc
makes_ok (Err NotHeld) given room left u x is m full enough = absurd cc

pub leaves_ok : {X : Type 0} (r : Result X ContractFault) (given : Result Contracts ContractFault) (room : Bool)
    (left u : Contracts) → given ≡ Ok u → Leaves r given left → (r ≡ Err Memory → room ≡ false) → room ≡ true
    → given ≡ Ok left
leaves_ok (Ok y) given room left u is m full enough = m
leaves_ok (Err Memory) given room left u is m full enough = let none = full refl in absurd cc
leaves_ok (Err Full) given room left u is m full enough = absurd cc
leaves_ok (Err NoSuchProcess) given room left u is m full enough = absurd cc
leaves_ok (Err NotInherited) given room left u is m full enough = absurd cc
leaves_ok (Err NotHeld) given room left u is m full enough = absurd cc

pub spawn_made : (r : Result Made ContractFault) (t left : Contracts) (room : Bool) (actor cookie : ℕ) (terms : Terms)
    (id : ℕ) → next_contract t ≡ Some id → Makes r (result_of_spawn t actor cookie terms) left
    → (r ≡ Err Memory → room ≡ false) → room ≡ true
    → result_of_spawn t actor cookie terms ≡ Ok (left, record { contract = id; process = left.last_process })
spawn_made r t left room actor cookie terms id next m full enough =
    let is = spawned_next_is t actor cookie terms id next in
    let got = makes_ok r (result_of_spawn t actor cookie terms) room left is.0 _ is.2 m full enough in
    let same : Ok (is.0, record { contract = id; process = is.1 })
    ≡ Ok (left, record { contract = id; process = is.1 }) = sym is.2 ∙ got in
    let at : left.last_process ≡ is.1 = let u : is.0 ≡ left = ap (left_by_making t) same in
    ap (λ t. t.last_process) (sym u) ∙ is.3 in
    got ∙ ap (λ p. Ok (left, record { contract = id; process = p })) (sym at)
