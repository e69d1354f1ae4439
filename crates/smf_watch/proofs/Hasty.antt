-- Ends of instances, noted one by one.
use Rattle.std.proofs.Common.{◌≡◌, ◌<◌, ◌+◌, ◌-◌, ℕ, suc, List, ◌∷◌, ◌++◌, length, get_or, drop, Bool, Option, None, sym, ap, ◌∙◌, arith, drop-cons}
use Rattle.std.specs.declared.time.Duration.{Duration}
use Rattle.smf_model.specs.Contents.{Holdings}
use Rattle.smf_watch.specs.declared.ends.End.{End}
use Rattle.smf_watch.specs.Loops.{end_at, ended_now, hasty_among, ends_after_items, steady_at, steady_or, was_steady, with_hasty}
use Rattle.smf_state.specs.declared.state.State.{State}
use Rattle.smf_world.specs.declared.item.Item.{Item}

pub left_from : {X : Type 0} (xs : List X) (i : ℕ) (d : X) → i < length xs → drop i xs ≡ get_or xs i d ∷ drop (i + 1) xs
left_from xs i d low =
    let next : suc i ≡ i + 1 = omega arith in
    drop-cons xs i d low ∙ ap (λ (n : ℕ). get_or xs i d ∷ drop n xs) next

pub left_at : {X : Type 0} (xs : List X) (i : ℕ) (x : X) → i < length xs → x ≡ get_or xs i x
    → drop i xs ≡ x ∷ drop (i + 1) xs
left_at xs i x low at = left_from xs i x low ∙ ap (λ y. y ∷ drop (i + 1) xs) (sym at)

-- ---- the newest row

pub steady_past : (shown : List Item) (n : ℕ) (s : State) (k m : ℕ) (o : Option Bool) (b : Bool) → suc k ≡ m
    → o ≡ steady_at shown n s k → o ≡ None → was_steady shown n s m ≡ b → was_steady shown n s k ≡ b
steady_past shown n s k m o b next is none so_far =
    sym (ap (λ (x : Option Bool). steady_or x (was_steady shown n s k)) (sym is ∙ none))
    ∙ ap (was_steady shown n s) next ∙ so_far

-- ---- ends

pub noted_more : (base : List End) (shown : List Item) (at : Duration) (first k : ℕ) (ends new : List End)
    → ends ≡ ends_after_items base shown at first k → new ≡ ends ++ ended_now at (end_at shown (first + k))
    → new ≡ ends_after_items base shown at first (k + 1)
noted_more base shown at first k ends new is made =
    let next : suc k ≡ k + 1 = omega arith in
    made ∙ ap (λ (es : List End). es ++ ended_now at (end_at shown (first + k))) is
    ∙ ap (ends_after_items base shown at first) next

pub one_hasty : (h : Holdings) (ends : List End) (i : ℕ) (d : End) (numbers new all : List ℕ) → i < length ends
    → new ≡ with_hasty h ends numbers (get_or ends i d) → hasty_among h ends numbers (drop i ends) ≡ all
    → hasty_among h ends new (drop (i + 1) ends) ≡ all
one_hasty h ends i d numbers new all low made so_far =
    ap (λ (ns : List ℕ). hasty_among h ends ns (drop (i + 1) ends)) made
    ∙ ap (hasty_among h ends numbers) (sym (left_from ends i d low)) ∙ so_far

-- a trail that was looked at tells of no more ends
pub none_more : (ends : List End) (shown : List Item) (at : Duration) (looked : ℕ) → length shown - looked ≡ 0
    → ends ≡ ends_after_items ends shown at looked (length shown - looked)
none_more ends shown at looked none = sym (ap (ends_after_items ends shown at looked) none)
