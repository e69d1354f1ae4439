-- Groups that outlast a boot, found by name.
use Rattle.std.proofs.Common.{◌≡◌, ℕ, Bool, true, false, List, [], ◌∷◌, Some, None, if◌then◌else◌, refl, sym, ap, ◌∙◌}
use Rattle.std.proofs.lemmas.Map.Entries.{option_filter}
use Rattle.smf_fmri.specs.ByKey.{Rises, has_key}
use Rattle.smf_fmri.proofs.SameLists.{lookup_filter}
use Rattle.smf_value.specs.Groups.{GroupRecord, by_group}
use Rattle.smf_model.specs.declared.held.Owner.TheVariants as owners
use Rattle.smf_model.specs.Contents.{Holdings}
use Rattle.smf_model.specs.Look.{group_in, groups_of, no_service_has}
use Rattle.smf_model.specs.Next.{is_persistent, kept_groups, persistent}
use Rattle.smf_model.specs.GeneralGroup.{general}
use Rattle.smf_model.proofs.Services.{none_of_it}

pub kept_none : (gs : List GroupRecord) (name : List ℕ) → Rises by_group gs → None ≡ group_in gs name
    → None ≡ group_in (kept_groups gs) name
kept_none gs name r e = ap (option_filter is_persistent) e ∙ sym (lookup_filter by_group is_persistent gs name r)

kept_by : (g : GroupRecord) (b : Bool) → g.non_persistent ≡ b
    → (if b then None else Some g) ≡ option_filter is_persistent (Some g)
kept_by g true e = rw e refl
kept_by g false e = rw e refl

pub kept_some : (gs : List GroupRecord) (name : List ℕ) (g : GroupRecord) (b : Bool) → Rises by_group gs
    → Some g ≡ group_in gs name → g.non_persistent ≡ b → (if b then None else Some g) ≡ group_in (kept_groups gs) name
kept_some gs name g b r e f = kept_by g b f ∙ ap (option_filter is_persistent) e
    ∙ sym (lookup_filter by_group is_persistent gs name r)

-- a group that is not there at all does not outlast a boot
none_kept : (name : List ℕ) (gs : List GroupRecord) → group_in gs name ≡ None → group_in (kept_groups gs) name ≡ None
none_kept name [] e = refl
none_kept name (g ∷ gs) e = by (has_key by_group name g) (is_persistent g) refl e (none_kept name gs)
  where
    by : (b p : Bool) → has_key by_group name g ≡ b → (if b then Some g else group_in gs name) ≡ None
        → (group_in gs name ≡ None → group_in (kept_groups gs) name ≡ None)
        → group_in (if p then g ∷ kept_groups gs else kept_groups gs) name ≡ None
    by true p h none rest = absurd cc
    by false true h none rest = ap (λ (b : Bool). if b then Some g else group_in (kept_groups gs) name) h ∙ rest none
    by false false h none rest = rest none

pub none_at_boot : (h : Holdings) (service : List ℕ) → no_service_has h.services general ≡ true
    → group_in (persistent (groups_of h) (owners.Service service)) general ≡ None
none_at_boot h service e = none_kept general (groups_of h (owners.Service service)) (none_of_it h general service e)
