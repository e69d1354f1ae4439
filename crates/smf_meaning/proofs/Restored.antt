-- A snapshot takes groups and a revert brings them back, by name.
use Rattle.std.proofs.Common.{◌≡◌, ◌⊎◌, inl, inr, ℕ, List, filter, Bool, true, false, not, ◌||◌, ◌&&◌, Option, Some, None, refl, ap, ◌∙◌}
use Rattle.std.specs.Cmp.Lexicographic.{pointwise}
use Rattle.std.specs.Prelude.{codes, nat_eq}
use Rattle.std.proofs.lemmas.Bool.{or_cases, or_left, or_right}
use Rattle.std.proofs.lemmas.Map.Entries.{option_filter}
use Rattle.smf_fmri.specs.ByKey.{Rises}
use Rattle.smf_fmri.proofs.Patterns.{same_text}
use Rattle.smf_fmri.proofs.KeyOrder.{rises_filter, rises_put_all}
use Rattle.smf_fmri.proofs.SameLists.{lookup_filter, same_lists}
use Rattle.smf_value.specs.Groups.{GroupRecord, by_group}
use Rattle.smf_snap.proofs.ByName.{over}
use Rattle.smf_snap.specs.Composed.{first_of}
use Rattle.smf_snap.specs.Snapshots.{is_left_out, is_snapped, groups_of_revert, unsnapped_groups, snapshot_groups}
use Rattle.smf_meaning.specs.Composition.{IsHeld, IsLeftOut, IsOfTheSystem, IsRestored, IsTaken, named_in}

of_system : (name : List ℕ) → IsOfTheSystem name → is_left_out name ≡ true
of_system name (inl e) = or_left _ _ (or_left _ _ ((same_text name (codes "general")).1 e))
of_system name (inr (inl e)) =
    or_left _ _ (or_right (pointwise nat_eq name (codes "general")) (pointwise nat_eq name (codes "general_ovr"))
    ((same_text name (codes "general_ovr")).1 e))
of_system name (inr (inr e)) =
    or_right (pointwise nat_eq name (codes "general") || pointwise nat_eq name (codes "general_ovr"))
    (pointwise nat_eq name (codes "restarter")) ((same_text name (codes "restarter")).1 e)

is_of_system : (name : List ℕ) → is_left_out name ≡ true → IsOfTheSystem name
is_of_system name e =
    by (or_cases (pointwise nat_eq name (codes "general") || pointwise nat_eq name (codes "general_ovr"))
    (pointwise nat_eq name (codes "restarter")) e)
  where
    first : (pointwise nat_eq name (codes "general") ≡ true) ⊎ (pointwise nat_eq name (codes "general_ovr") ≡ true)
        → IsOfTheSystem name
    first (inl h) = inl ((same_text name (codes "general")).0 h)
    first (inr h) = inr (inl ((same_text name (codes "general_ovr")).0 h))

    by : ((pointwise nat_eq name (codes "general") || pointwise nat_eq name (codes "general_ovr")) ≡ true)
        ⊎ (pointwise nat_eq name (codes "restarter") ≡ true)
        → IsOfTheSystem name
    by (inl h) = first
        (or_cases (pointwise nat_eq name (codes "general")) (pointwise nat_eq name (codes "general_ovr")) h)
    by (inr h) = inr (inr ((same_text name (codes "restarter")).0 h))

held : (g : GroupRecord) → IsHeld g → is_snapped g ≡ true
held g h = by g.non_persistent (is_left_out g.name) refl h.0
  where
    by : (p s : Bool) → is_left_out g.name ≡ s → p ≡ false → (not p && not s) ≡ true
    by true s e k = absurd cc
    by false true e k = absurd (h.1 (is_of_system g.name e))
    by false false e k = refl

left_out : (g : GroupRecord) → IsLeftOut g → is_snapped g ≡ false
left_out g (inl e) = ap (λ p. not p && not (is_left_out g.name)) e
left_out g (inr s) = by g.non_persistent (is_left_out g.name) (of_system g.name s)
  where
    by : (p s : Bool) → s ≡ true → (not p && not s) ≡ false
    by true s e = refl
    by false s e = ap not e

-- the group of a name, if it passes
found_in : (p : GroupRecord → Bool) (gs : List GroupRecord) (name : List ℕ) (o : Option GroupRecord)
    → Rises by_group gs → named_in gs name ≡ o
    → named_in (filter p gs) name ≡ option_filter p o
found_in p gs name o rises e = lookup_filter by_group p gs name rises ∙ ap (option_filter p) e

passes : (p : GroupRecord → Bool) (g : GroupRecord) → p g ≡ true → option_filter p (Some g) ≡ Some g
passes p g e = rw e refl

fails : (p : GroupRecord → Bool) (g : GroupRecord) → p g ≡ false → option_filter p (Some g) ≡ None
fails p g e = rw e refl

pub is_taken : (gs : List GroupRecord) → Rises by_group gs → IsTaken gs (snapshot_groups gs)
unfolding snapshot_groups
is_taken gs rises =
    record {
      held = λ name g e h. found_in is_snapped gs name (Some g) rises e ∙ passes is_snapped g (held g h);
      left_out = λ name g e h. found_in is_snapped gs name (Some g) rises e ∙ fails is_snapped g (left_out g h);
      nothing = λ name e. found_in is_snapped gs name None rises e;
    }

stays : GroupRecord → Bool
stays g = not (is_snapped g)

-- after a revert, by name
restored_name : (before snapshot : List GroupRecord) (name : List ℕ) (o : Option GroupRecord) → Rises by_group before
    → Rises by_group snapshot
    → named_in before name ≡ o
    → named_in (groups_of_revert before snapshot) name
    ≡ first_of (named_in snapshot name) (option_filter (λ g. not (is_snapped g)) o)
unfolding groups_of_revert unsnapped_groups
restored_name before snapshot name o r s e =
    over snapshot (filter (λ g. not (is_snapped g)) before) name s
    ∙ ap (first_of (named_in snapshot name)) (found_in (λ g. not (is_snapped g)) before name o r e)

restored_over : (before snapshot : List GroupRecord) (name : List ℕ) (o p : Option GroupRecord)
    → Rises by_group before → Rises by_group snapshot
    → named_in before name ≡ o → named_in snapshot name ≡ p
    → named_in (groups_of_revert before snapshot) name ≡ first_of p (option_filter (λ g. not (is_snapped g)) o)
restored_over before snapshot name o p r s e f =
    restored_name before snapshot name o r s e ∙ ap (λ q. first_of q (option_filter (λ g. not (is_snapped g)) o)) f

pub is_restored : (before snapshot : List GroupRecord) → Rises by_group before → Rises by_group snapshot
    → IsRestored before snapshot (groups_of_revert before snapshot)
is_restored before snapshot r s =
    record {
      back = λ name g f. restored_over before snapshot name (named_in before name) (Some g) r s refl f;
      stays = λ name g f e h. restored_over before snapshot name (Some g) None r s e f
          ∙ passes (λ x. not (is_snapped x)) g (ap not (left_out g h));
      gone = λ name g f e h. restored_over before snapshot name (Some g) None r s e f
          ∙ fails (λ x. not (is_snapped x)) g (ap not (held g h));
      nothing = λ name f e. restored_over before snapshot name None None r s e f;
    }

both : (b : Bool) (g : GroupRecord) → is_snapped g ≡ b
    → first_of (option_filter is_snapped (Some g)) (option_filter (λ x. not (is_snapped x)) (Some g)) ≡ Some g
both true g e = rw e refl
both false g e = rw e refl

back_by : (o : Option GroupRecord) → first_of (option_filter is_snapped o) (option_filter (λ x. not (is_snapped x)) o)
    ≡ o
back_by None = refl
back_by (Some g) = both (is_snapped g) g refl

rises_restored : (before snapshot : List GroupRecord) → Rises by_group before
    → Rises by_group (groups_of_revert before snapshot)
unfolding groups_of_revert unsnapped_groups
rises_restored before snapshot r =
    rises_put_all by_group snapshot (filter (λ g. not (is_snapped g)) before)
    (rises_filter by_group (λ g. not (is_snapped g)) before r)

rises_taken : (gs : List GroupRecord) → Rises by_group gs → Rises by_group (snapshot_groups gs)
unfolding snapshot_groups
rises_taken gs r = rises_filter by_group is_snapped gs r

taken_name : (gs : List GroupRecord) (name : List ℕ) → Rises by_group gs
    → named_in (snapshot_groups gs) name ≡ option_filter is_snapped (named_in gs name)
unfolding snapshot_groups
taken_name gs name r = found_in is_snapped gs name (named_in gs name) r refl

pub again : (gs : List GroupRecord) → Rises by_group gs → groups_of_revert gs (snapshot_groups gs) ≡ gs
again gs r =
    same_lists by_group (groups_of_revert gs (snapshot_groups gs)) gs (rises_restored gs (snapshot_groups gs) r) r
    (λ name. restored_over gs (snapshot_groups gs) name (named_in gs name)
    (option_filter is_snapped (named_in gs name)) r (rises_taken gs r) refl (taken_name gs name r)
    ∙ back_by (named_in gs name))
