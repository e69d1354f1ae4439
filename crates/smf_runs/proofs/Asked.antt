-- The reasons of the instances that words mean.
use Rattle.std.proofs.Common.{◌≡◌, ◌<◌, ◌++◌, arith, length, ℕ, List, [], ◌∷◌, map, drop, refl, ap, sym, subst, append-nil, ◌∙◌}
use Rattle.smf_admin.specs.Output.{patterns_of}
use Rattle.smf_fmri.proofs.KeyOrder.{rises_map}
use Rattle.smf_fmri.specs.ByKey.{Rises}
use Rattle.smf_model.specs.Contents.{Holdings}
use Rattle.smf_reasons.specs.declared.reason.Told.{Told}
use Rattle.smf_runs.specs.Reasons.{reasons_by_words, reasons_by_patterns, item_after_refresh}
use Rattle.smf_state.specs.declared.view.ViewItem.{ViewItem}
use Rattle.smf_state.specs.Patched.{by_item}

-- without words all are asked for
pub all_asked : (words : List (List ℕ)) (all : List Told) → length words < 1 → all ≡ reasons_by_words words all
unfolding reasons_by_words
all_asked [] all few = refl
all_asked (word ∷ words) all few = absurd (omega (arith, few))

pub some_asked : (words : List (List ℕ)) (all : List Told) → (words ≡ [] → ⊥)
    → reasons_by_words words all ≡ reasons_by_patterns (patterns_of words) all
unfolding reasons_by_words
some_asked [] all some = absurd (some refl)
some_asked (word ∷ words) all some = refl

-- all items as a refresh would make them stand in the order of their numbers
pub rises_refreshed : (h : Holdings) (items all : List ViewItem) (k : ℕ) → drop k items ≡ []
    → all ++ map (item_after_refresh h) (drop k items) ≡ map (item_after_refresh h) items
    → Rises by_item items → Rises by_item all
rises_refreshed h items all k none so rises =
    let is : all ≡ map (item_after_refresh h) items =
    sym (append-nil all) ∙ ap (λ (xs : List ViewItem). all ++ map (item_after_refresh h) xs) (sym none) ∙ so in
    subst (λ (xs : List ViewItem). Rises by_item xs) (sym is)
    (rises_map by_item (item_after_refresh h) items (λ i. refl) rises)
