-- A view that is brought up to date by the changed items.
use Rattle.std.specs.Prelude.{ℕ, List, [], ◌∷◌, Option, Some, None}
use Rattle.smf_fmri.specs.ByKey.{By, WithRoom, by_number, list_with_item, without}
use Rattle.smf_state.specs.declared.view.ChangedItem.{ChangedItem}
use Rattle.smf_state.specs.declared.view.View.{View}
use Rattle.smf_state.specs.declared.view.ViewItem.{ViewItem}

abbrev pub by_item : By ViewItem ℕ
by_item = by_number (λ x. x.instance)

abbrev pub by_changed : By ChangedItem ℕ
by_changed = by_number (λ c. c.instance)

-- an item in its place, or taken out
abbrev pub with_item : ℕ → Option ViewItem → List ViewItem → List ViewItem
with_item n None xs = without by_item n xs
with_item n (Some x) xs = list_with_item by_item x xs

-- one after another
abbrev pub with_items : List ChangedItem → List ViewItem → List ViewItem
with_items [] xs = xs
with_items (c ∷ cs) xs = with_items cs (with_item c.instance c.item xs)

unfoldable pub view_after_changes : View → ℕ → List ChangedItem → View
view_after_changes v to cs = record { revision = to; items = with_items cs v.items }

-- the items that are held: those of a shared list, or one's own
abbrev pub items_held : Option (List ViewItem) → WithRoom ViewItem → List ViewItem
items_held None own = own.items
items_held (Some shared) own = shared
