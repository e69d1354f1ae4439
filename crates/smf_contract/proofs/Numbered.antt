-- Each contract numbers its events from 1.
use Rattle.std.proofs.Common.{◌≡◌, ℕ, ◌+◌, ◌==◌, Bool, true, false, cond, List, [], ◌∷◌, ◌++◌, map, arith, refl, sym, ◌∙◌, ap, add-one}
use Rattle.std.specs.List.{count_by}
use Rattle.std.proofs.lemmas.Bool.{eqb-true}
use Rattle.std.proofs.lemmas.Grind.{common_steps}
use Rattle.std.proofs.lemmas.List.{map-append}
use Rattle.std.proofs.lemmas.List.Elements.{filter-append}
use Rattle.smf_contract.specs.declared.event.ContractEvent.{ContractEvent}
use Rattle.smf_contract.specs.declared.event.EventKind.{EventKind}
use Rattle.smf_contract.specs.Entries.{is_event_of, last_event}
use Rattle.smf_contract.specs.Calls.{with_next_event}
use Rattle.smf_contract.specs.Laws.{numbers_up_to, numbers_of}

count_more : (p : ContractEvent → Bool) (es : List ContractEvent) (e : ContractEvent)
    → count_by p (es ++ e ∷ []) ≡ count_by p es + cond (p e) 1 0
count_more p [] e = grind (arith, common_steps)
count_more p (x ∷ xs) e = grind (arith, common_steps, count_more p xs e)

number_of_one : (b : Bool) (e : ContractEvent) → map (λ x. x.number) (cond b (e ∷ []) []) ≡ cond b (e.number ∷ []) []
number_of_one true e = refl
number_of_one false e = refl

numbers_more : (id : ℕ) (es : List ContractEvent) (e : ContractEvent)
    → numbers_of id (es ++ e ∷ []) ≡ numbers_of id es ++ cond (is_event_of id e) (e.number ∷ []) []
numbers_more id es e = rw (filter-append, map-append, number_of_one (is_event_of id e) e) refl

one_more : (b : Bool) (at id : ℕ) (es : List ContractEvent) → (b ≡ true → at ≡ id)
    → numbers_of id es ≡ numbers_up_to (last_event id es)
    → numbers_of id es ++ cond b ((last_event at es + 1) ∷ []) [] ≡ numbers_up_to (last_event id es + cond b 1 0)
one_more true at id es e h = let same : at ≡ id = e refl in rw (same, h, add-one) refl
one_more false at id es e h = grind (arith, common_steps)

pub noted_numbered : (es : List ContractEvent) (at : ℕ) (kind : EventKind) (left : Bool)
    → ((id : ℕ) → numbers_of id es ≡ numbers_up_to (last_event id es)) → (id : ℕ)
    → numbers_of id (with_next_event es at kind left) ≡ numbers_up_to (last_event id (with_next_event es at kind left))
noted_numbered es at kind left h id =
    let e : ContractEvent = record { contract = at; number = last_event at es + 1; kind = kind; left = left } in
    numbers_more id es e ∙ one_more (at == id) at id es (eqb-true at id) (h id)
    ∙ ap numbers_up_to (sym (count_more (is_event_of id) es e))
