-- A contract more.
use Rattle.std.proofs.Common.{◌≡◌, ℕ, List, [], ◌∷◌, ◌++◌, ap, ◌∙◌}
use Rattle.std.proofs.lemmas.List.{map-append}
use Rattle.smf_edge.specs.declared.kid.Kid.{Kid}
use Rattle.smf_edge.specs.declared.kid.Phase.TheVariants.{First}
use Rattle.smf_edge.specs.Phases.{post_of, posts}

pub kid_is : {H : Type 0} (kid : Kid H) (id : ℕ) → kid.contract ≡ id → kid.phase ≡ First
    → kid ≡ record { contract = id; phase = First; held = kid.held }
kid_is kid id e f = λ j. record { contract = e j; phase = f j; held = kid.held }

pub more_posts : {H : Type 0} (kids new : List (Kid H)) (kid : Kid H) (id : ℕ) → new ≡ kids ++ kid ∷ []
    → kid.contract ≡ id → kid.phase ≡ First → posts new ≡ posts kids ++ record { contract = id; phase = First } ∷ []
more_posts kids new kid id is e f =
    let post : post_of kid ≡ record { contract = id; phase = First } = λ j. record { contract = e j; phase = f j } in
    ap posts is ∙ map-append post_of kids (kid ∷ []) ∙ ap (λ p. posts kids ++ p ∷ []) post
