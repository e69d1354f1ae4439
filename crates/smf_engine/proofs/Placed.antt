-- The finding of a graph at a place is that of the item there.
use Rattle.std.proofs.Common.{◌≡◌, ◌<◌, ℕ, List, length, get_or, Some, refl, ap, ◌∙◌}
use Rattle.std.specs.Prelude.{slice_get, option_map}
use Rattle.std.proofs.lemmas.Option.{slice_get-map, slice_get_read}
use Rattle.smf_state.specs.declared.view.ViewItem.{ViewItem}
use Rattle.smf_dep.specs.declared.member.GraphMember.{GraphMember}
use Rattle.smf_dep.specs.Members.{member_of, members}
use Rattle.smf_dep.specs.Places.{finding_of}
use Rattle.smf_engine.specs.Orders.{order, order_with}

pub placed_item : (items : List ViewItem) (k : ℕ) (i : ViewItem) → k < length items → i ≡ get_or items k i
    → slice_get items k ≡ Some i
placed_item items k i lt e = slice_get_read items (length items) k i refl lt e

pub placed : (revision : ℕ) (ms : List GraphMember) (items : List ViewItem) (k : ℕ) (i : ViewItem)
    → ms ≡ members items → slice_get items k ≡ Some i
    → order_with revision i (slice_get ms k) (option_map (finding_of ms) (slice_get ms k)) ≡ order revision items i
unfolding order
placed revision ms items k i e h =
    (λ j. order_with revision i (slice_get (e j) k) (option_map (finding_of (e j)) (slice_get (e j) k)))
    ∙ ap (λ o. order_with revision i o (option_map (finding_of (members items)) o))
    (slice_get-map member_of items k ∙ ap (option_map member_of) h)
