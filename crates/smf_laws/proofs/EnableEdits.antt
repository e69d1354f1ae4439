-- Enable and disable, and the value that they leave.
use Rattle.std.proofs.Common.{◌≡◌, ℕ, ◌+◌, nat_lt, Bool, true, false, if◌then◌else◌, List, [], ◌∷◌, length, Option, Some, None, unwrap_or, Result, Ok, Err, refl, sym, ap, ◌∙◌, subst}
use Rattle.std.specs.Ordering.{is_eq, nat_cmp}
use Rattle.std.specs.Cmp.Lexicographic.{slice_cmp}
use Rattle.smf_fmri.specs.ByKey.{lookup, list_with_item, without}
use Rattle.smf_fmri.proofs.Lookups.{lookup_put, lookup_without, with_answer_here, with_answer_other}
use Rattle.smf_fmri.proofs.SameLists.{found_key}
use Rattle.smf_value.specs.declared.fault.GroupFault.{GroupFault}
use Rattle.smf_value.specs.declared.fault.GroupFault.TheVariants.{Full}
use Rattle.smf_value.specs.Edits.{put_property}
use Rattle.smf_value.specs.Groups.{GroupRecord, PropertyRecord, by_group, by_property, property_of}
use Rattle.smf_model.specs.declared.command.CommandReply.TheVariants.{Denied, Done, Limit, NoSuch}
use Rattle.smf_model.specs.declared.held.Instance.{Instance}
use Rattle.smf_model.specs.declared.held.Owner.TheVariants as owners
use Rattle.smf_model.specs.Contents.{Holdings}
use Rattle.smf_model.specs.Look.{group, group_in, groups_of, holdings_after_changes, instance, instances, with_groups}
use Rattle.smf_model.specs.Next.{outcome_of_command, asked_edit, asked_enable, asked_for_good, asked_for_now, enabled_for_good, enabled_for_now, enabling_of, group_enabled, group_or_new, group_put, has_room, new_group, next, with_owners}
use Rattle.smf_model.specs.GeneralGroup.{Groups, is_instance_enabled, enabled_name, enabled_property, first_of, framework, general, general_ovr, is_true, property_in, property_of_either, service_owner}
use Rattle.smf_model.proofs.Entries.{bare_groups}
use Rattle.smf_model.proofs.LawLists.{differs, is_number}
use Rattle.smf_laws.specs.Effects.{ChangesGroupsOf, IsEnabledForGood, IsEnabledForNow, SaysEnabled, enabled_as, enable_command}
use Rattle.smf_laws.proofs.Outcomes.{Gives, accepts, either, found_by, groups_here, owned_apart, refuses}

-- ---- a group that says so

pub put_gives : (p : PropertyRecord) (old g : GroupRecord) → put_property p old ≡ Ok g
    → record old { properties = list_with_item by_property p old.properties } ≡ g
unfolding put_property
put_gives p old g e = by (nat_lt 1000 (length (list_with_item by_property p old.properties))) e
  where
    by : (b : Bool)
        → (if b then Err Full else Ok (record old { properties = list_with_item by_property p old.properties }))
        ≡ Ok g → record old { properties = list_with_item by_property p old.properties } ≡ g
    by true q = absurd cc
    by false q = cc

says_property : (b : Bool) (old : GroupRecord)
    → lookup by_property (list_with_item by_property (enabled_as b) old.properties) enabled_name ≡ Some (enabled_as b)
says_property b old = lookup_put by_property (enabled_as b) old.properties enabled_name
    ∙ with_answer_here by_property (lookup by_property old.properties) enabled_name (Some (enabled_as b))

other_property : (b : Bool) (old : GroupRecord) (p : List ℕ) → (p ≡ enabled_name → ⊥)
    → lookup by_property (list_with_item by_property (enabled_as b) old.properties) p ≡ property_of p old
other_property b old p apart = lookup_put by_property (enabled_as b) old.properties p
    ∙ with_answer_other by_property (lookup by_property old.properties) enabled_name (Some (enabled_as b)) p
    (differs by_property enabled_name p (λ same. apart (sym same)))

none_some : {X : Type 0} (x : X) → None ≡ Some x → ⊥
none_some x e = cc

some_none : {X : Type 0} (x : X) → Some x ≡ None → ⊥
some_none x e = cc

some_same : {X : Type 0} (x y : X) → Some x ≡ Some y → x ≡ y
some_same x y e = cc

abbrev enabled_in : Bool → GroupRecord → GroupRecord
enabled_in b old = record old { properties = list_with_item by_property (enabled_as b) old.properties }

says_by : (name : List ℕ) (flag b : Bool) (before : Option GroupRecord)
    → ((old : GroupRecord) → before ≡ Some old → old.name ≡ name)
    → SaysEnabled name flag b before (enabled_in b (unwrap_or before (new_group name framework flag)))
says_by name flag b None named =
    let old : GroupRecord = new_group name framework flag in
    record {
      named = refl;
      says = says_property b old;
      others = other_property b old;
      new = λ e. (refl, refl);
      kept = λ other e. absurd (none_some other e);
    }
says_by name flag b (Some old) named = record {
  named = named old refl;
  says = says_property b old;
  others = other_property b old;
  new = λ e. absurd (some_none old e);
  kept = λ other e. (let same : old ≡ other = some_same old other e in
      (ap (λ (g : GroupRecord). g.group_type) same, ap (λ (g : GroupRecord). g.non_persistent) same));
}

says_enabled : (h : Holdings) (n : ℕ) (name : List ℕ) (flag b : Bool) (g : GroupRecord)
    → group_enabled b (group_or_new h n name flag) ≡ Ok g → SaysEnabled name flag b (group h (owners.Instance n) name) g
says_enabled h n name flag b g e =
    subst (SaysEnabled name flag b (group h (owners.Instance n) name))
    (put_gives (enabled_as b) (group_or_new h n name flag) g e)
    (says_by name flag b (group h (owners.Instance n) name)
    (λ old found. found_key by_group name (groups_of h (owners.Instance n)) old found))

-- ---- the groups then

pub group_here : (g : GroupRecord) (gs : List GroupRecord) (name : List ℕ) → g.name ≡ name
    → group_in (list_with_item by_group g gs) name ≡ Some g
group_here g gs name e = lookup_put by_group g gs name
    ∙ (subst (λ (key : List ℕ). with_answer_at key) (sym e)
    (with_answer_here by_group (lookup by_group gs) name (Some g)))
  where
    with_answer_at : List ℕ → Type 0
    with_answer_at key = (if is_eq (slice_cmp nat_cmp key name) then Some g else lookup by_group gs name) ≡ Some g

pub group_other : (g : GroupRecord) (gs : List GroupRecord) (name other : List ℕ) → g.name ≡ name → (other ≡ name → ⊥)
    → group_in (list_with_item by_group g gs) other ≡ group_in gs other
group_other g gs name other e apart = lookup_put by_group g gs other
    ∙ with_answer_other by_group (lookup by_group gs) g.name (Some g) other
    (differs by_group g.name other (λ same. apart (sym same ∙ e)))

pub group_gone : (gs : List GroupRecord) (name : List ℕ) → group_in (without by_group name gs) name ≡ None
group_gone gs name = lookup_without by_group name gs name ∙ with_answer_here by_group (lookup by_group gs) name None

pub group_left : (gs : List GroupRecord) (name other : List ℕ) → (other ≡ name → ⊥)
    → group_in (without by_group name gs) other ≡ group_in gs other
group_left gs name other apart = lookup_without by_group name gs other
    ∙ with_answer_other by_group (lookup by_group gs) name None other
    (differs by_group name other (λ same. apart (sym same)))

-- ---- the instance is enabled then

enabled_is : (gs : Groups) (i : Instance) (n : ℕ) (ovr own : Option GroupRecord) → i.number ≡ n
    → group_in (gs (owners.Instance n)) general_ovr ≡ ovr → group_in (gs (owners.Instance n)) general ≡ own
    → is_instance_enabled gs i ≡ is_true (enabled_property ovr own (group_in (gs (service_owner i)) general))
unfolding is_instance_enabled
enabled_is gs i n ovr own at e f =
    ap (λ (m : ℕ). is_true
    (enabled_property (group_in (gs (owners.Instance m)) general_ovr) (group_in (gs (owners.Instance m)) general)
    (group_in (gs (service_owner i)) general))) at
    ∙ ap (λ (o : Option GroupRecord). is_true
    (enabled_property o (group_in (gs (owners.Instance n)) general) (group_in (gs (service_owner i)) general))) e
    ∙ ap (λ (o : Option GroupRecord). is_true (enabled_property ovr o (group_in (gs (service_owner i)) general))) f

is_good : (g : GroupRecord) (b : Bool) (services_own : Option GroupRecord)
    → property_of enabled_name g ≡ Some (enabled_as b) → is_true (enabled_property None (Some g) services_own) ≡ b
is_good g b services_own e =
    ap (λ (o : Option PropertyRecord). is_true (first_of o (property_in services_own enabled_name))) e

is_now : (g : GroupRecord) (b : Bool) (own services_own : Option GroupRecord)
    → property_of enabled_name g ≡ Some (enabled_as b) → is_true (enabled_property (Some g) own services_own) ≡ b
is_now g b own services_own e =
    ap (λ (o : Option PropertyRecord). is_true (first_of o (property_of_either own services_own enabled_name))) e

-- ---- the command

abbrev put_in_place : Holdings → ℕ → List GroupRecord → Holdings
put_in_place h n gs = record (with_groups h gs (owners.Instance n)) { revision = h.revision + 1 }

changes_groups : (h : Holdings) (n : ℕ) (i : Instance) (gs : List GroupRecord) → instance h n ≡ Some i
    → ChangesGroupsOf n h (put_in_place h n gs)
changes_groups h n i gs e = record {
  is_there = (i, e);
  rows = bare_groups n gs h.instances;
  groups = λ owner apart. owned_apart h (owners.Instance n) owner gs apart;
  rest = refl;
}

general_apart : general ≡ general_ovr → ⊥
general_apart e = absurd cc

module _ (h : Holdings) (n : ℕ) (i : Instance) (e : instance h n ≡ Some i) (b : Bool) (g : GroupRecord) where
  abbrev good_groups : List GroupRecord
  good_groups = list_with_item by_group g (without by_group general_ovr (groups_of h (owners.Instance n)))

  abbrev good_then : Holdings
  good_then = put_in_place h n good_groups

  good_are : groups_of good_then (owners.Instance n) ≡ good_groups
  unfolding groups_of
  good_are = groups_here h n i good_groups e

  good_own : g.name ≡ general → group good_then (owners.Instance n) general ≡ Some g
  good_own named = ap (λ (gs : List GroupRecord). group_in gs general) good_are ∙ group_here g _ general named

  good_none : g.name ≡ general → group good_then (owners.Instance n) general_ovr ≡ None
  good_none named =
      ap (λ (gs : List GroupRecord). group_in gs general_ovr) good_are
      ∙ group_other g _ general general_ovr named (λ same. general_apart (sym same))
      ∙ group_gone (groups_of h (owners.Instance n)) general_ovr

  pub is_for_good : SaysEnabled general false b (group h (owners.Instance n) general) g
      → IsEnabledForGood h good_then n b
  is_for_good s = record {
    is_so = λ j there. enabled_is (groups_of good_then) j n None (Some g) (is_number n (instances good_then) j there)
        (good_none s.named) (good_own s.named)
        ∙ is_good g b (group_in (groups_of good_then (service_owner j)) general) s.says;
    own = (g, good_own s.named, s);
    no_override = good_none s.named;
    other_groups = λ name apart away. ap (λ (gs : List GroupRecord). group_in gs name) good_are
        ∙ group_other g _ general name s.named apart
        ∙ group_left (groups_of h (owners.Instance n)) general_ovr name away;
    others = changes_groups h n i good_groups e;
  }

  abbrev now_groups : List GroupRecord
  now_groups = list_with_item by_group g (groups_of h (owners.Instance n))

  abbrev now_then : Holdings
  now_then = put_in_place h n now_groups

  now_are : groups_of now_then (owners.Instance n) ≡ now_groups
  unfolding groups_of
  now_are = groups_here h n i now_groups e

  now_own : g.name ≡ general_ovr → group now_then (owners.Instance n) general_ovr ≡ Some g
  now_own named = ap (λ (gs : List GroupRecord). group_in gs general_ovr) now_are ∙ group_here g _ general_ovr named

  pub is_for_now : SaysEnabled general_ovr true b (group h (owners.Instance n) general_ovr) g
      → IsEnabledForNow h now_then n b
  is_for_now s = record {
    is_so = λ j there. enabled_is (groups_of now_then) j n (Some g)
        (group_in (groups_of now_then (owners.Instance n)) general) (is_number n (instances now_then) j there)
        (now_own s.named) refl
        ∙ is_now g b (group_in (groups_of now_then (owners.Instance n)) general)
        (group_in (groups_of now_then (service_owner j)) general) s.says;
    override = (g, now_own s.named, s);
    other_groups = λ name apart. ap (λ (gs : List GroupRecord). group_in gs name) now_are
        ∙ group_other g _ general_ovr name s.named apart;
    others = changes_groups h n i now_groups e;
  }

abbrev ForGood : Holdings → ℕ → Bool → Holdings → Type 0
ForGood h n b k = IsEnabledForGood h k n b

abbrev ForNow : Holdings → ℕ → Bool → Holdings → Type 0
ForNow h n b k = IsEnabledForNow h k n b

good_by : (h : Holdings) (n : ℕ) (i : Instance) (b : Bool) → instance h n ≡ Some i
    → (r : Result GroupRecord GroupFault) → group_enabled b (group_or_new h n general false) ≡ r
    → Gives h Done (ForGood h n b) (enabled_for_good h n r)
unfolding holdings_after_changes
good_by h n i b e (Err fault) f = refuses h Done (ForGood h n b) (Denied fault) refl refl
good_by h n i b e (Ok g) f =
    either h Done (ForGood h n b) (has_room h (owners.Instance n) general general_ovr) _ _
    (λ room. accepts h Done (ForGood h n b) (enabling_of h (owners.Instance n) g ∷ []) Done refl
    (λ same. is_for_good h n i e b g (says_enabled h n general false b g f)))
    (λ room. refuses h Done (ForGood h n b) Limit refl refl)

now_by : (h : Holdings) (n : ℕ) (i : Instance) (b : Bool) → instance h n ≡ Some i
    → (r : Result GroupRecord GroupFault) → group_enabled b (group_or_new h n general_ovr true) ≡ r
    → Gives h Done (ForNow h n b) (enabled_for_now h n r)
unfolding holdings_after_changes
now_by h n i b e (Err fault) f = refuses h Done (ForNow h n b) (Denied fault) refl refl
now_by h n i b e (Ok g) f =
    either h Done (ForNow h n b) (has_room h (owners.Instance n) general_ovr general_ovr) _ _
    (λ room. accepts h Done (ForNow h n b) (group_put h (owners.Instance n) g ∷ []) Done refl
    (λ same. is_for_now h n i e b g (says_enabled h n general_ovr true b g f)))
    (λ room. refuses h Done (ForNow h n b) Limit refl refl)

pub enabled_good : (h : Holdings) (n : ℕ) (b : Bool) → (next h (enable_command n b false)).1 ≡ Done
    → IsEnabledForGood h (next h (enable_command n b false)).0 n b
unfolding next outcome_of_command asked_edit with_owners
enabled_good h n b =
    found_by h n (λ (o : Option Instance). Gives h Done (ForGood h n b) (asked_enable h b false o))
    (λ e. refuses h Done (ForGood h n b) NoSuch refl refl)
    (λ i e at. subst (λ (m : ℕ). Gives h Done (ForGood h n b) (asked_for_good h m b)) (sym at)
    (good_by h n i b e (group_enabled b (group_or_new h n general false)) refl))

pub enabled_now : (h : Holdings) (n : ℕ) (b : Bool) → (next h (enable_command n b true)).1 ≡ Done
    → IsEnabledForNow h (next h (enable_command n b true)).0 n b
unfolding next outcome_of_command asked_edit with_owners
enabled_now h n b =
    found_by h n (λ (o : Option Instance). Gives h Done (ForNow h n b) (asked_enable h b true o))
    (λ e. refuses h Done (ForNow h n b) NoSuch refl refl)
    (λ i e at. subst (λ (m : ℕ). Gives h Done (ForNow h n b) (asked_for_now h m b)) (sym at)
    (now_by h n i b e (group_enabled b (group_or_new h n general_ovr true)) refl))
