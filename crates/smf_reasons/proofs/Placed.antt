-- The item and the member at a place of a view.
use Rattle.std.proofs.Common.{◌≡◌, ◌<◌, ℕ, List, length, get_or, Some, refl, ap, ◌∙◌}
use Rattle.std.specs.Prelude.{slice_get, option_map}
use Rattle.std.proofs.lemmas.Option.{slice_get-map, slice_get_read}
use Rattle.smf_state.specs.declared.view.ViewItem.{ViewItem}
use Rattle.smf_dep.specs.Members.{member_of, members}

pub placed_item : (items : List ViewItem) (k : ℕ) (i : ViewItem) → k < length items → i ≡ get_or items k i
    → slice_get items k ≡ Some i
placed_item items k i lt e = slice_get_read items (length items) k i refl lt e

pub placed_member : (items : List ViewItem) (k : ℕ) (i : ViewItem) → slice_get items k ≡ Some i
    → slice_get (members items) k ≡ Some (member_of i)
placed_member items k i e = slice_get-map member_of items k ∙ ap (option_map member_of) e
