-- Instances with their groups, seen without them.
use Rattle.std.proofs.Common.{◌≡◌, ℕ, Bool, true, false, cond, not, if◌then◌else◌, List, [], ◌∷◌, Some, option_map, refl, ap}
use Rattle.smf_fmri.proofs.KeyOrder.{map_put}
use Rattle.smf_fmri.specs.ByKey.{Rises, IsBelowFirst, amend, has_key, lookup, list_with_item, without}
use Rattle.smf_value.specs.Groups.{GroupRecord}
use Rattle.smf_model.specs.declared.held.Instance.{Instance}
use Rattle.smf_model.specs.declared.held.InstanceEntry.{InstanceEntry}
use Rattle.smf_model.specs.Look.{bare, by_entry, by_instance, in_place, put_over, with_instance}

abbrev instance_in : InstanceEntry → Instance
instance_in e = e.instance

pub lookup_bare : (es : List InstanceEntry) (n : ℕ)
    → lookup by_instance (bare es) n ≡ option_map (λ e. e.instance) (lookup by_entry es n)
lookup_bare [] n = refl
lookup_bare (e ∷ es) n = by (has_key by_entry n e) (lookup_bare es n)
  where
    by : (b : Bool) → lookup by_instance (bare es) n ≡ option_map instance_in (lookup by_entry es n)
        → cond b (Some e.instance) (lookup by_instance (bare es) n)
        ≡ option_map instance_in (cond b (Some e) (lookup by_entry es n))
    by true ih = refl
    by false ih = ih

pub bare_put : (x : InstanceEntry) (es : List InstanceEntry)
    → bare (list_with_item by_entry x es) ≡ list_with_item by_instance x.instance (bare es)
bare_put x es = map_put by_entry by_instance instance_in x es refl (λ z. refl)

pub bare_without : (n : ℕ) (es : List InstanceEntry) → bare (without by_entry n es) ≡ without by_instance n (bare es)
bare_without n [] = refl
bare_without n (e ∷ es) = by (has_key by_entry n e) (bare_without n es)
  where
    by : (b : Bool) → bare (without by_entry n es) ≡ without by_instance n (bare es)
        → bare (cond (not b) (e ∷ without by_entry n es) (without by_entry n es))
        ≡ cond (not b) (e.instance ∷ without by_instance n (bare es)) (without by_instance n (bare es))
    by true ih = ih
    by false ih = ap (λ (is : List Instance). e.instance ∷ is) ih

-- other groups leave the instances
pub bare_groups : (n : ℕ) (gs : List GroupRecord) (es : List InstanceEntry)
    → bare (amend by_entry n (λ e. record e { groups = gs }) es) ≡ bare es
bare_groups n gs [] = refl
bare_groups n gs (e ∷ es) = by (has_key by_entry n e) (bare_groups n gs es)
  where
    give : InstanceEntry → InstanceEntry
    give x = record x { groups = gs }

    by : (b : Bool) → bare (amend by_entry n (λ x. record x { groups = gs }) es) ≡ bare es
        → (if b then (record e { groups = gs }) else e).instance ∷ bare
        (amend by_entry n (λ x. record x { groups = gs }) es) ≡ e.instance ∷ bare es
    by true ih = ap (λ (is : List Instance). e.instance ∷ is) ih
    by false ih = ap (λ (is : List Instance). e.instance ∷ is) ih

pub bare_instance : (i : Instance) (es : List InstanceEntry)
    → bare (amend by_entry i.number (with_instance i) es) ≡ put_over i (bare es)
bare_instance i [] = refl
bare_instance i (e ∷ es) = by (has_key by_entry i.number e) (bare_instance i es)
  where
    by : (b : Bool) → bare (amend by_entry i.number (with_instance i) es) ≡ put_over i (bare es)
        → (if b then with_instance i e else e).instance ∷ bare (amend by_entry i.number (with_instance i) es)
        ≡ (if b then in_place i e.instance else e.instance) ∷ put_over i (bare es)
    by true ih = ap (λ (is : List Instance). in_place i e.instance ∷ is) ih
    by false ih = ap (λ (is : List Instance). e.instance ∷ is) ih

below_bare : (n : ℕ) (es : List InstanceEntry) → IsBelowFirst by_entry n es → IsBelowFirst by_instance n (bare es)
below_bare n [] b = tt
below_bare n (e ∷ es) b = b

pub rises_bare : (es : List InstanceEntry) → Rises by_entry es → Rises by_instance (bare es)
rises_bare [] r = tt
rises_bare (e ∷ es) r = (below_bare e.instance.number es r.0, rises_bare es r.1)
