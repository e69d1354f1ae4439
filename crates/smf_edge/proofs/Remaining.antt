-- A ledger without its notes, and without the contracts that have no members, is sound.
use Rattle.std.proofs.Common.{◌≡◌, ◌∙◌, ℕ, ◌==◌, Bool, true, false, cond, List, [], ◌∷◌, length, filter, Option, Some, None, refl, sym, ap, subst, eqb-true}
use Rattle.std.specs.Prelude.{find}
use Rattle.smf_contract.specs.declared.contract.Contract.{Contract}
use Rattle.smf_contract.specs.declared.contract.Member.{Member}
use Rattle.smf_contract.specs.Calls.{held_by}
use Rattle.smf_contract.specs.Entries.{Contracts, contract, has_id, has_members, is_in, processes}
use Rattle.smf_contract.specs.Thinned.{thinned}
use Rattle.smf_contract.proofs.ThinTables.{clash, thinned_ordered}
use Rattle.smf_edge.specs.Ledgers.{Ledger, remaining}
use Rattle.smf_edge.specs.Sound.{IsSound, lasts}
use Rattle.smf_edge.proofs.Firsts.{found_is}
use Rattle.smf_edge.proofs.MemberEvents.{lasts_none}

abbrev nothing : Option Contract
nothing = None

none_if : (b : Bool) → nothing ≡ cond b nothing nothing
none_if true = refl
none_if false = refl

-- a contract that stays is found as before, and one that goes is not
found_kept : (q : ℕ → Bool) (id : ℕ) (cs : List Contract)
    → find (has_id id) (filter (λ (c : Contract). q c.id) cs) ≡ cond (q id) (find (has_id id) cs) None
found_kept q id [] = none_if (q id)
found_kept q id (c ∷ cs) = by (c.id == id) (q c.id) (q id) refl refl refl (found_kept q id cs)
  where
    left : List Contract
    left = filter (λ (x : Contract). q x.id) cs

    at : (b d : Bool) → (c.id == id) ≡ true → q c.id ≡ b → q id ≡ d → b ≡ d
    at b d e f g = sym f ∙ ap q (eqb-true c.id id e) ∙ g

    by : (b d k : Bool) → (c.id == id) ≡ b → q c.id ≡ d → q id ≡ k
        → find (has_id id) left ≡ cond k (find (has_id id) cs) None
        → find (has_id id) (cond d (c ∷ left) left) ≡ cond k (cond b (Some c) (find (has_id id) cs)) None
    by true true true e f g ih = rw e refl
    by true true false e f g ih = absurd (clash true refl (at true false e f g))
    by true false true e f g ih = absurd (clash true refl (sym (at false true e f g)))
    by true false false e f g ih = ih
    by false true k e f g ih = rw e ih
    by false false k e f g ih = ih

thin_contract : (t : Contracts) (id : ℕ)
    → contract (thinned t) id ≡ cond (has_members id t.members) (contract t id) None
thin_contract t id =
    found_is (has_id id) (thinned t).contracts
    ∙ found_kept (λ n. has_members n t.members) id t.contracts
    ∙ ap (λ (o : Option Contract). cond (has_members id t.members) o None) (sym (found_is (has_id id) t.contracts))

held_kept : (b : Bool) (o : Option Contract) → held_by 0 o ≡ o → held_by 0 (cond b o None) ≡ cond b o None
held_kept true o h = h
held_kept false o h = refl

none_in : (id : ℕ) (ms : List Member) → has_members id ms ≡ false → length (processes id ms) ≡ 0
none_in id [] e = refl
none_in id (m ∷ ms) e = by (is_in id m) refl e (none_in id ms)
  where
    by : (b : Bool) → is_in id m ≡ b → has_members id (m ∷ ms) ≡ false
        → (has_members id ms ≡ false → length (processes id ms) ≡ 0) → length (processes id (m ∷ ms)) ≡ 0
    by true f none ih = absurd (clash (has_members id (m ∷ ms)) (rw f refl) none)
    by false f none ih = rw f (ih (let same : has_members id ms ≡ false = rw f at none in same))

lasts_kept : (l : Ledger) (id : ℕ) (b : Bool) → has_members id l.table.members ≡ b
    → lasts (contract l.table id) id l.pending (length (processes id l.table.members)) ≡ true
    → lasts (cond b (contract l.table id) None) id l.pending (length (processes id l.table.members)) ≡ true
lasts_kept l id true e h = h
lasts_kept l id false e h =
    let none = none_in id l.table.members e in
    lasts_none (contract l.table id) None id (length (processes id l.table.members)) l.pending
    (subst (λ (n : ℕ). lasts (contract l.table id) id l.pending n ≡ true) none h)

pub sound_remaining : (l k : Ledger) → k ≡ remaining l → IsSound l → IsSound k
sound_remaining l k e s =
    let there : IsSound (remaining l) =
    record {
      ordered = thinned_ordered l.table s.ordered;
      held = λ id.
          let P : Option Contract → Type 0 = λ o. held_by 0 o ≡ o in
          subst P (sym (thin_contract l.table id))
          (held_kept (has_members id l.table.members) (contract l.table id) (s.held id));
      lasting = λ id.
          let P : Option Contract → Type 0 =
          λ o. lasts o id l.pending (length (processes id l.table.members)) ≡ true in
          subst P (sym (thin_contract l.table id))
          (lasts_kept l id (has_members id l.table.members) refl (s.lasting id));
    } in
    let P : Ledger → Type 0 = IsSound in subst P (sym e) there
