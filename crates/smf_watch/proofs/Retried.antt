-- Instances that are tried again, one after another.
use Rattle.std.proofs.Common.{◌≡◌, ◌<◌, ◌+◌, ℕ, suc, List, [], ◌∷◌, ◌++◌, length, get_or, drop, map, Option, sym, ap, ◌∙◌, arith, append_assoc}
use Rattle.std.specs.declared.time.Duration.{Duration}
use Rattle.smf_contract.specs.declared.contract.Contract.{Contract}
use Rattle.smf_model.specs.Contents.{Holdings}
use Rattle.smf_watch.specs.declared.bounds.Bounds.{Bounds}
use Rattle.smf_watch.specs.declared.retries.Retry.{Retry}
use Rattle.smf_watch.specs.LastStart.{last_start_after, newer}
use Rattle.smf_watch.specs.Retries.{delay_after, doubled, is_due, owed, owed_if, tried_if, with_mark, with_marks}
use Rattle.smf_watch.proofs.Hasty.{left_at, left_from}

pub one_start : (cs : List Contract) (n i : ℕ) (c : Contract) (last new all : Option Contract) → i < length cs
    → c ≡ get_or cs i c → new ≡ newer n c last → last_start_after n (drop i cs) last ≡ all
    → last_start_after n (drop (i + 1) cs) new ≡ all
one_start cs n i c last new all low at made so_far =
    ap (last_start_after n (drop (i + 1) cs)) made
    ∙ ap (λ (xs : List Contract). last_start_after n xs last) (sym (left_at cs i c low at))
    ∙ so_far

pub one_mark : (h : Holdings) (now : Duration) (ns : List ℕ) (i d : ℕ) (rs new all : List Retry) → i < length ns
    → new ≡ with_mark h now (get_or ns i d) rs → with_marks h now (drop i ns) rs ≡ all
    → with_marks h now (drop (i + 1) ns) new ≡ all
one_mark h now ns i d rs new all low made so_far =
    ap (with_marks h now (drop (i + 1) ns)) made
    ∙ ap (λ (xs : List ℕ). with_marks h now xs rs) (sym (left_from ns i d low))
    ∙ so_far

pub one_owed : (h : Holdings) (now : Duration) (rs : List Retry) (i : ℕ) (d : Retry) (ns new all : List ℕ) → i < length rs
    → new ≡ ns ++ owed_if (is_due h now (get_or rs i d)) (get_or rs i d).instance → ns ++ owed h now (drop i rs) ≡ all
    → new ++ owed h now (drop (i + 1) rs) ≡ all
one_owed h now rs i d ns new all low made so_far =
    let r : Retry = get_or rs i d in
    ap (λ (xs : List ℕ). xs ++ owed h now (drop (i + 1) rs)) made
    ∙ append_assoc ns (owed_if (is_due h now r) r.instance) (owed h now (drop (i + 1) rs))
    ∙ ap (λ (xs : List Retry). ns ++ owed h now xs) (sym (left_from rs i d low))
    ∙ so_far

pub one_tried : (h : Holdings) (now : Duration) (rs : List Retry) (i : ℕ) (d : Retry) (ls new all : List Retry)
    → i < length rs → new ≡ ls ++ tried_if h now (get_or rs i d) ∷ []
    → ls ++ map (tried_if h now) (drop i rs) ≡ all → new ++ map (tried_if h now) (drop (i + 1) rs) ≡ all
one_tried h now rs i d ls new all low made so_far =
    let r : Retry = get_or rs i d in
    ap (λ (xs : List Retry). xs ++ map (tried_if h now) (drop (i + 1) rs)) made
    ∙ append_assoc ls (tried_if h now r ∷ []) (map (tried_if h now) (drop (i + 1) rs))
    ∙ ap (λ (xs : List Retry). ls ++ map (tried_if h now) xs) (sym (left_from rs i d low))
    ∙ so_far

pub one_delay : (b : Bounds) (k seconds new : ℕ) → seconds ≡ delay_after b k → new ≡ doubled b.most seconds
    → new ≡ delay_after b (k + 1)
one_delay b k seconds new is made =
    let next : suc k ≡ k + 1 = omega arith in
    made ∙ ap (doubled b.most) is ∙ ap (delay_after b) next
