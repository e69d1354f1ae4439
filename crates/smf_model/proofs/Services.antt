-- If no service has a group of a name, a look-up finds none in any service.
use Rattle.std.proofs.Common.{◌≡◌, List, [], ◌∷◌, ℕ, Bool, true, false, not, Option, Some, None, is_some, find, option_map, refl, if◌then◌else◌}
use Rattle.std.specs.List.{list_all}
use Rattle.std.specs.Prelude.{◌&&◌, unwrap_or}
use Rattle.smf_fmri.specs.ByKey.{has_key}
use Rattle.smf_value.specs.Groups.{GroupRecord}
use Rattle.smf_model.specs.declared.held.Owner.TheVariants as owners
use Rattle.smf_model.specs.declared.held.Service.{Service}
use Rattle.smf_model.specs.Contents.{Holdings}
use Rattle.smf_model.specs.Look.{by_service, group, group_in, groups_of, lacks, no_service_has}

both : (a b : Bool) → (a && b) ≡ true → (a ≡ true) × (b ≡ true)
both true true e = (refl, refl)
both true false e = cc
both false b e = cc

none_if : (o : Option GroupRecord) → not (is_some o) ≡ true → o ≡ None
none_if None e = refl
none_if (Some g) e = cc

none_in : (test : Service → Bool) (name : List ℕ) (ss : List Service) → list_all (lacks name) ss ≡ true
    → group_in (unwrap_or (option_map (λ s. s.groups) (find test ss)) []) name ≡ None
none_in test name [] e = refl
none_in test name (s ∷ ss) e =
    let two = both (lacks name s) (list_all (lacks name) ss) e in by (test s) two.0 (none_in test name ss two.1)
  where
    by : (b : Bool) → lacks name s ≡ true
        → group_in (unwrap_or (option_map (λ x. x.groups) (find test ss)) []) name ≡ None
        → group_in (unwrap_or (option_map (λ x. x.groups) (if b then Some s else find test ss)) []) name ≡ None
    by true lacked rest = none_if (group_in s.groups name) lacked
    by false lacked rest = rest

pub none_of_it : (h : Holdings) (name service : List ℕ) → no_service_has h.services name ≡ true
    → group h (owners.Service service) name ≡ None
unfolding groups_of
none_of_it h name service e = none_in (has_key by_service service) name h.services e
