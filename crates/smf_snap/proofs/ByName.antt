-- Groups that are put over others, looked up by name.
use Rattle.std.proofs.Common.{◌≡◌, ℕ, List, [], ◌∷◌, Bool, true, false, cond, if◌then◌else◌, Option, Some, None, refl, sym, ap, ◌∙◌, subst}
use Rattle.smf_fmri.specs.ByKey.{Rises, has_key, list_with_item, put_all}
use Rattle.smf_fmri.proofs.Lookups.{equal_from_test, lookup_put}
use Rattle.smf_fmri.proofs.Places.{none_above}
use Rattle.smf_value.specs.Groups.{GroupRecord, by_group}
use Rattle.smf_snap.specs.Composed.{composed_group, composition, first_of, group_of}

-- the name of the first comes no more
none_behind : (g : GroupRecord) (gs : List GroupRecord) (name : List ℕ) → Rises by_group (g ∷ gs)
    → has_key by_group name g ≡ true → group_of name gs ≡ None
none_behind g gs name rises e =
    subst (λ (n : List ℕ). group_of n gs ≡ None)
    (by_group.exact g.name name (equal_from_test (by_group.cmp g.name name) e))
    (none_above by_group g.name gs rises.0 rises.1)

put_once : (g : GroupRecord) (b : Bool) (q p : Option GroupRecord) → (b ≡ true → q ≡ None)
    → first_of q (if b then Some g else p) ≡ first_of (cond b (Some g) q) p
put_once g true q p none = rw (none refl) refl
put_once g false q p none = refl

-- groups that are put over others, by name
pub over : (gs others : List GroupRecord) (name : List ℕ) → Rises by_group gs
    → group_of name (put_all by_group gs others) ≡ first_of (group_of name gs) (group_of name others)
over [] others name rises = refl
over (g ∷ gs) others name rises =
    over gs (list_with_item by_group g others) name rises.1
    ∙ ap (first_of (group_of name gs)) (lookup_put by_group g others name)
    ∙ put_once g (has_key by_group name g) (group_of name gs) (group_of name others) (none_behind g gs name rises)

-- the list of all has, under a name, the group that the instance has
pub listed : (instance service : List GroupRecord) (name : List ℕ) → Rises by_group instance
    → composed_group instance service name ≡ group_of name (composition instance service)
unfolding composed_group
listed instance service name rises = sym (over instance service name rises)

pub its_own : (instance service : List GroupRecord) (name : List ℕ) (g : GroupRecord)
    → group_of name instance ≡ Some g → composed_group instance service name ≡ Some g
unfolding composed_group
its_own instance service name g e = ap (λ o. first_of o (group_of name service)) e

pub its_services : (instance service : List GroupRecord) (name : List ℕ) → group_of name instance ≡ None
    → composed_group instance service name ≡ group_of name service
unfolding composed_group
its_services instance service name e = ap (λ o. first_of o (group_of name service)) e
