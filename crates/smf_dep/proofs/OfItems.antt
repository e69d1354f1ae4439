-- Members of items: they rise by the same numbers, and are found, put and taken out by them.
use Rattle.std.proofs.Common.{◌≡◌, ℕ, List, [], ◌∷◌, Option, Some, None, refl, sym, ap, ◌∙◌}
use Rattle.std.specs.Prelude.{option_map, position, slice_get}
use Rattle.smf_fmri.specs.ByKey.{Rises, has_key, lookup}
use Rattle.smf_fmri.proofs.KeyOrder.{map_put, rises_put, rises_without}
use Rattle.smf_state.specs.declared.view.ChangedItem.{ChangedItem}
use Rattle.smf_state.specs.declared.view.ViewItem.{ViewItem}
use Rattle.smf_state.specs.Patched.{by_item, with_item, with_items}
use Rattle.smf_dep.specs.declared.member.GraphMember.{GraphMember}
use Rattle.smf_dep.specs.Members.{by_member, member_of, members}
use Rattle.smf_dep.specs.Updates.{with_member, with_members}
use Rattle.smf_dep.proofs.ByNumber.{lookup_mapped, no_place_looks, place_looks, rises_mapped, without_mapped}

pub same_number : (i : ViewItem) → (member_of i).instance ≡ i.instance
unfolding member_of
same_number i = refl

pub rises_of : (items : List ViewItem) → Rises by_item items → Rises by_member (members items)
rises_of items r = rises_mapped by_item by_member member_of items refl same_number r

pub lookup_of : (items : List ViewItem) (n : ℕ)
    → lookup by_member (members items) n ≡ option_map member_of (lookup by_item items n)
lookup_of items n = lookup_mapped by_item by_member member_of items n refl same_number

-- the instance at the place of a number is the one that is looked up by it
pub at_place : (ms : List GraphMember) (n place : ℕ) → position (has_key by_member n) ms ≡ Some place
    → slice_get ms place ≡ lookup by_member ms n
at_place ms n place e = place_looks by_member ms n place e

pub at_no_place : (ms : List GraphMember) (n : ℕ) → position (has_key by_member n) ms ≡ None
    → lookup by_member ms n ≡ None
at_no_place ms n e = no_place_looks by_member ms n e

-- ---- items that changed

one_of : (n : ℕ) (o : Option ViewItem) (items : List ViewItem)
    → members (with_item n o items) ≡ with_member n o (members items)
one_of n None items = without_mapped by_item by_member member_of n items refl same_number
one_of n (Some x) items = map_put by_item by_member member_of x items refl same_number

pub members_with : (cs : List ChangedItem) (items : List ViewItem)
    → members (with_items cs items) ≡ with_members cs (members items)
members_with [] items = refl
members_with (c ∷ cs) items = members_with cs (with_item c.instance c.item items)
    ∙ ap (with_members cs) (one_of c.instance c.item items)

pub shown : (cs : List ChangedItem) (before after : List GraphMember) → after ≡ with_members cs before
    → (items : List ViewItem) → before ≡ members items → after ≡ members (with_items cs items)
shown cs before after e items f = e ∙ ap (with_members cs) f ∙ sym (members_with cs items)

pub rises_with : (n : ℕ) (o : Option ViewItem) (ms : List GraphMember) → Rises by_member ms
    → Rises by_member (with_member n o ms)
rises_with n None ms r = rises_without by_member n ms r
rises_with n (Some x) ms r = rises_put by_member (member_of x) ms r

pub rises_all : (cs : List ChangedItem) (ms : List GraphMember) → Rises by_member ms
    → Rises by_member (with_members cs ms)
rises_all [] ms r = r
rises_all (c ∷ cs) ms r = rises_all cs (with_member c.instance c.item ms) (rises_with c.instance c.item ms r)
