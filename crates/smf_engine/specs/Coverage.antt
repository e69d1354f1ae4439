-- A view that was looked at, and the instances for which something may be ordered.
use Rattle.std.specs.Prelude.{◌≡◌, ℕ, List, ◌++◌, Option, Some, None}
use Rattle.std.specs.Option.{option_map_or}
use Rattle.smf_fmri.specs.ByKey.{By, by_number, lookup}
use Rattle.smf_state.specs.declared.view.ChangedItem.{ChangedItem}
use Rattle.smf_state.specs.declared.view.View.{View}
use Rattle.smf_state.specs.declared.view.ViewItem.{ViewItem}
use Rattle.smf_state.specs.Patched.{by_item}
use Rattle.smf_links.specs.Blockage.{IsOut}
use Rattle.smf_dep.specs.declared.member.GraphMember.{GraphMember}
use Rattle.smf_dep.specs.Members.{members}
use Rattle.smf_wire.specs.declared.order.Order.{Order}
use Rattle.smf_engine.specs.Orders.{order, order_in}

abbrev pub by_itself : By ℕ ℕ
by_itself = by_number (λ n. n)

-- ---- possible orders

-- nothing is ordered for an instance that is not among these, whatever the revision
abbrev pub Covers : List ViewItem → List ℕ → Type 0
Covers items ns = (n : ℕ) (i : ViewItem) → lookup by_item items n ≡ Some i → lookup by_itself ns n ≡ None
    → (revision : ℕ) → order revision items i ≡ None

-- the same of the instances that need not be judged any more
abbrev pub CoversBut : List ℕ → List ViewItem → List ℕ → Type 0
CoversBut left items ns = (n : ℕ) (i : ViewItem) → IsOut n left → lookup by_item items n ≡ Some i
    → lookup by_itself ns n ≡ None → (revision : ℕ) → order revision items i ≡ None

-- it is known of one instance if something may be ordered; the others stay
pub record IsJudged (items : List ViewItem) (n : ℕ) (before after : List ℕ) : Type 0 where
  pub here : (i : ViewItem) → lookup by_item items n ≡ Some i → lookup by_itself after n ≡ None → (revision : ℕ)
      → order revision items i ≡ None
  pub others : (m : ℕ) → (n ≡ m → ⊥) → lookup by_itself after m ≡ lookup by_itself before m

-- the order for the instance of a number
abbrev pub order_for : ℕ → List ViewItem → ℕ → Option Order
order_for revision items n = order_in revision items (lookup by_item items n)

-- the data kept of a view that was looked at
pub record IsLooked (v : View) (ms : List GraphMember) (ns : List ℕ) : Type 0 where
  pub shown : ms ≡ members v.items
  pub covered : Covers v.items ns

-- ---- the view that was looked at, and the one that is held

-- the items that were looked at, and the numbers of those that may be others in the view that is held
pub record LookedAt : Type 0 where
  pub items : List ViewItem
  pub stale : List ℕ

-- the number of an item that is put, or of one that is taken out
abbrev pub number_put : ChangedItem → ℕ
number_put c = option_map_or (λ (i : ViewItem). i.instance) c.item c.instance

-- the item of an instance, as it is
abbrev pub as_seen : List ViewItem → ℕ → ChangedItem
as_seen items n = record { instance = n; item = lookup by_item items n }

-- but for these instances both show the same
abbrev pub AreAlikeBut : List ℕ → List ViewItem → List ViewItem → Type 0
AreAlikeBut ns xs ys = (n : ℕ) → IsOut n ns → lookup by_item xs n ≡ lookup by_item ys n

abbrev pub IsBeside : Option View → Option LookedAt → Type 0
IsBeside (Some v) (Some l) = AreAlikeBut l.stale l.items v.items
IsBeside _ _ = Unit {0}

-- the numbers of those that changed are noted with the items looked at, if any were
abbrev pub IsNoted : Option LookedAt → List ℕ → Option LookedAt → Type 0
IsNoted None ns None = Unit {0}
IsNoted (Some l) ns (Some after) = (after.items ≡ l.items) × (after.stale ≡ l.stale ++ ns)
IsNoted _ ns _ = ⊥

-- the items looked at are still known, maybe with more numbers noted
abbrev pub IsKept : Option LookedAt → Option LookedAt → Type 0
IsKept None None = Unit {0}
IsKept (Some l) (Some after) = after.items ≡ l.items
IsKept _ _ = ⊥
