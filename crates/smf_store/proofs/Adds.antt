-- Rows that are put in one after another.
use Rattle.std.proofs.Common.{◌≡◌, ◌+◌, ◌<◌, ◌≤◌, ℕ, suc, arith, ℤ, List, ◌∷◌, length, get_or, drop, Option, Some, None, sym, ap, ◌∙◌}
use Rattle.std.proofs.Math.Seq.{drop-cons}
use Rattle.std.proofs.lemmas.List.{drop_all}
use Rattle.sqlite.specs.Order.{Row}
use Rattle.smf_model.specs.Contents.{Holdings}
use Rattle.smf_store.specs.RowValues.{◌>>=◌}
use Rattle.smf_store.specs.Judged.{add_all, look, look_on}

next_row : {X : Type 0} (all : List X) (at : ℕ) (r : X) → at < length all → r ≡ get_or all at r
    → drop at all ≡ r ∷ drop (at + 1) all
next_row all at r within is =
    let more : suc at ≡ at + 1 = omega arith in
    drop-cons all at r within ∙ ap (λ z. z ∷ drop (suc at) all) (sym is) ∙ ap (λ n. r ∷ drop n all) more

module _ (add : Holdings → Row → Option Holdings) (all : List Row) (old : Holdings) where
  first_add : (k : Holdings) (at : ℕ) (r : Row) → at < length all → r ≡ get_or all at r
      → add_all add old all ≡ add_all add k (drop at all)
      → add_all add old all ≡ (add k r >>= (λ h. add_all add h (drop (at + 1) all)))
  first_add k at r within is so = so ∙ ap (add_all add k) (next_row all at r within is)

  -- one row more was put in, or it may not stand there
  pub add_more : (k h : Holdings) (at : ℕ) (r : Row) → at < length all → r ≡ get_or all at r
      → add_all add old all ≡ add_all add k (drop at all) → add k r ≡ Some h
      → add_all add old all ≡ add_all add h (drop (at + 1) all)
  add_more k h at r within is so made = first_add k at r within is so
      ∙ ap (λ o. o >>= (λ z. add_all add z (drop (at + 1) all))) made

  pub add_none : (k : Holdings) (at : ℕ) (r : Row) → at < length all → r ≡ get_or all at r
      → add_all add old all ≡ add_all add k (drop at all) → add k r ≡ None → add_all add old all ≡ None
  add_none k at r within is so none = first_add k at r within is so
      ∙ ap (λ o. o >>= (λ z. add_all add z (drop (at + 1) all))) none

  pub add_end : (k : Holdings) (at : ℕ) → length all ≤ at → add_all add old all ≡ add_all add k (drop at all)
      → add_all add old all ≡ Some k
  add_end k at past so = so ∙ ap (add_all add k) (drop_all at all past)

-- the same of what is found of a key
module _ (key : List ℕ) (all : List Row) where
  first_look : (found : Option ℤ) (at : ℕ) (r : Row) → at < length all → r ≡ get_or all at r
      → look_on key None all ≡ look_on key found (drop at all)
      → look_on key None all ≡ (look key found r >>= (λ more. look_on key more (drop (at + 1) all)))
  first_look found at r within is so = so ∙ ap (look_on key found) (next_row all at r within is)

  pub look_more : (found more : Option ℤ) (at : ℕ) (r : Row) → at < length all → r ≡ get_or all at r
      → look_on key None all ≡ look_on key found (drop at all) → look key found r ≡ Some more
      → look_on key None all ≡ look_on key more (drop (at + 1) all)
  look_more found more at r within is so made = first_look found at r within is so
      ∙ ap (λ o. o >>= (λ z. look_on key z (drop (at + 1) all))) made

  pub look_none : (found : Option ℤ) (at : ℕ) (r : Row) → at < length all → r ≡ get_or all at r
      → look_on key None all ≡ look_on key found (drop at all) → look key found r ≡ None → look_on key None all ≡ None
  look_none found at r within is so none = first_look found at r within is so
      ∙ ap (λ o. o >>= (λ z. look_on key z (drop (at + 1) all))) none

  pub look_end : (found : Option ℤ) (at : ℕ) → length all ≤ at
      → look_on key None all ≡ look_on key found (drop at all) → look_on key None all ≡ Some found
  look_end found at past so = so ∙ ap (look_on key found) (drop_all at all past)
