-- A list is cloned as it is, if its items are.
use Rattle.std.proofs.Common.{◌≡◌, List}
use Rattle.std.specs.List.{AllZip}
use Rattle.std.proofs.lemmas.List.Elements.{same_from_all_zip}

pub same_items : {X : Type 0} (R : X → X → Type 0) (xs ys : List X) → AllZip R xs ys → ((x y : X) → R x y → y ≡ x)
    → ys ≡ xs
same_items R xs ys h e = same_from_all_zip R xs ys h e
