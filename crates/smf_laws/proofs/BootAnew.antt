-- A boot, and the value that it leaves.
use Rattle.std.proofs.Common.{◌≡◌, ◌⊎◌, inl, inr, ℕ, ◌+◌, ◌<◌, ◌≤◌, ◌||◌, not, nat_lt, Bool, true, false, cond, if◌then◌else◌, List, [], ◌∷◌, ◌++◌, map, filter, Option, Some, None, option_map, unwrap_or, refl, sym, ap, ◌∙◌, subst, ltb-false, lt-ltb, ltb-true, arith}
use Rattle.std.proofs.Math.Path.{fun_ext}
use Rattle.std.proofs.lemmas.Map.Entries.{option_filter}
use Rattle.std.specs.List.{list_any}
use Rattle.smf_fmri.specs.ByKey.{amend, lookup, put_all}
use Rattle.smf_fmri.proofs.KeyOrder.{rises_filter, rises_map}
use Rattle.smf_fmri.proofs.SameLists.{lookup_filter}
use Rattle.smf_state.specs.Rows.{greatest_number}
use Rattle.smf_value.specs.Groups.{GroupRecord}
use Rattle.smf_model.specs.declared.change.Change.{Change}
use Rattle.smf_model.specs.declared.command.Command.TheVariants as commands
use Rattle.smf_model.specs.declared.command.CommandReply.TheVariants.{Done, Limit}
use Rattle.smf_model.specs.declared.held.Instance.{Instance}
use Rattle.smf_model.specs.declared.held.InstanceEntry.{InstanceEntry}
use Rattle.smf_model.specs.declared.held.Launch.{Launch}
use Rattle.smf_model.specs.declared.held.Owner.{Owner}
use Rattle.smf_model.specs.declared.held.Owner.TheVariants as owners
use Rattle.smf_model.specs.declared.held.Service.{Service}
use Rattle.smf_model.specs.Contents.{Holdings}
use Rattle.smf_model.specs.Laws.{IsNumbered}
use Rattle.smf_model.specs.Look.{bare, by_entry, by_instance, by_launch, by_service, holdings_after_change, groups_of, holdings_after_changes, instance, instances, groups_if_there}
use Rattle.smf_model.specs.Next.{all_booted, outcome_of_command, asked_boot, instance_after_boot, changes_for_boot, greatest, has_dropped, instance_kept, is_last_launch, is_last_number, kept_groups, kept_of_instances, kept_of_services, may_not_boot, next, persistent, refusal_with, acceptance_with, change_of_relaunch, service_kept}
use Rattle.smf_model.specs.GeneralGroup.{Groups, first_of, owner_by, setting}
use Rattle.smf_model.proofs.Entries.{bare_groups, rises_bare}
use Rattle.smf_model.proofs.LawOutcomes.{booted_at, installed_append}
use Rattle.smf_model.proofs.Written.{put_each}
use Rattle.smf_laws.specs.Anew.{BeginsAgain, IsBootAnswer, IsBooted, MayBoot, once_more, persistent_groups}
use Rattle.smf_laws.proofs.Folds.{amend_each, amended_by, any_not, any_there, first_mapped, lookup_amend_each, lookup_map, lookup_put_all}
use Rattle.smf_laws.proofs.Outcomes.{accepts, either, no_both, one_of, refuses, reply_accepted}
use Rattle.smf_laws.proofs.OwnerWrites.{bare_each, groups_stay, instances_put, put_entries}

-- ---- the changes, each kind in turn

abbrev keep_service : Service → Service → Service
keep_service s t = record t { groups = kept_groups s.groups }

abbrev keep_entry : InstanceEntry → InstanceEntry → InstanceEntry
keep_entry e t = record t { groups = kept_groups e.groups }

launches_put : (ls : List Launch) (h : Holdings)
    → holdings_after_changes h (map change_of_relaunch ls)
    ≡ record h { launches = put_all by_launch (map once_more ls) h.launches }
unfolding holdings_after_changes
launches_put [] h = refl
launches_put (l ∷ ls) h = launches_put ls (holdings_after_change h (change_of_relaunch l))

services_kept : (ss : List Service) (h : Holdings)
    → holdings_after_changes h (map service_kept ss)
    ≡ record h { services = amend_each by_service keep_service ss h.services }
unfolding holdings_after_changes
services_kept [] h = refl
services_kept (s ∷ ss) h = services_kept ss (holdings_after_change h (service_kept s))

entries_kept : (es : List InstanceEntry) (h : Holdings)
    → holdings_after_changes h (map instance_kept es)
    ≡ record h { instances = amend_each by_entry keep_entry es h.instances }
unfolding holdings_after_changes
entries_kept [] h = refl
entries_kept (e ∷ es) h = entries_kept es (holdings_after_change h (instance_kept e))

abbrev new_services : Holdings → List Service
new_services h = amend_each by_service keep_service (filter (λ s. has_dropped s.groups) h.services) h.services

abbrev new_entries : Holdings → List InstanceEntry
new_entries h = amend_each by_entry keep_entry (filter (λ e. has_dropped e.groups) h.instances) h.instances

abbrev again : Holdings → Instance → Instance
again h = instance_after_boot (persistent (groups_of h))

abbrev all_anew : Holdings → Holdings
all_anew h = record h {
  launches = put_all by_launch (map once_more h.launches) h.launches;
  services = new_services h;
  instances = put_entries (again h) (instances h) (new_entries h);
}

booting_makes : (h : Holdings) → holdings_after_changes h (changes_for_boot h) ≡ all_anew h
booting_makes h =
    let first : List Change = map change_of_relaunch h.launches in
    let second : List Change = kept_of_services h.services in
    let third : List Change = kept_of_instances h.instances in
    let last : List Change = all_booted (persistent (groups_of h)) (instances h) in
    installed_append h (first ++ (second ++ third)) last
    ∙ ap (λ (k : Holdings). holdings_after_changes k last)
    (installed_append h first (second ++ third)
    ∙ ap (λ (k : Holdings). holdings_after_changes k (second ++ third)) (launches_put h.launches h)
    ∙ installed_append _ second third
    ∙ ap (λ (k : Holdings). holdings_after_changes k third)
    (services_kept (filter (λ s. has_dropped s.groups) h.services) _)
    ∙ entries_kept (filter (λ e. has_dropped e.groups) h.instances) _)
    ∙ instances_put (again h) (instances h) _

-- ---- launches

launches_then : (h : Holdings) (name : List ℕ) → IsNumbered h
    → lookup by_launch (all_anew h).launches name ≡ option_map once_more (lookup by_launch h.launches name)
launches_then h name numbered =
    lookup_put_all by_launch (map once_more h.launches) h.launches name
    (rises_map by_launch once_more h.launches (λ l. refl) numbered.ordered.launches)
    ∙ ap (λ (o : Option Launch). first_of o (lookup by_launch h.launches name))
    (lookup_map by_launch once_more h.launches name (λ l. refl))
    ∙ first_mapped once_more (lookup by_launch h.launches name)

-- ---- groups

outlasts_by : (g : GroupRecord) (gs : List GroupRecord)
    → (g.non_persistent || list_any (λ (x : GroupRecord). x.non_persistent) gs) ≡ false
    → (g.non_persistent ≡ false) × (has_dropped gs ≡ false)
outlasts_by g gs e = by g.non_persistent e
  where
    by : (b : Bool) → (b || has_dropped gs) ≡ false → (b ≡ false) × (has_dropped gs ≡ false)
    by true f = absurd cc
    by false f = (refl, f)

all_outlast : (gs : List GroupRecord) → has_dropped gs ≡ false → gs ≡ persistent_groups gs
all_outlast [] e = refl
all_outlast (g ∷ gs) e =
    let parts = outlasts_by g gs e in
    ap (λ (rest : List GroupRecord). g ∷ rest) (all_outlast gs parts.1)
    ∙ sym (ap (λ (b : Bool). if not b then g ∷ persistent_groups gs else persistent_groups gs) parts.0)

service_groups : (o : Option Service)
    → option_map (λ s. s.groups) (amended_by keep_service (option_filter (λ s. has_dropped s.groups) o) o)
    ≡ option_map persistent_groups (option_map (λ s. s.groups) o)
service_groups None = refl
service_groups (Some s) = by (has_dropped s.groups) refl
  where
    by : (b : Bool) → has_dropped s.groups ≡ b
        → option_map (λ (x : Service). x.groups) (amended_by keep_service (cond b (Some s) None) (Some s))
        ≡ Some (persistent_groups s.groups)
    by true e = refl
    by false e = ap (λ (gs : List GroupRecord). Some gs) (all_outlast s.groups e)

entry_groups : (o : Option InstanceEntry)
    → option_map (λ e. e.groups) (amended_by keep_entry (option_filter (λ e. has_dropped e.groups) o) o)
    ≡ option_map persistent_groups (option_map (λ e. e.groups) o)
entry_groups None = refl
entry_groups (Some e) = by (has_dropped e.groups) refl
  where
    by : (b : Bool) → has_dropped e.groups ≡ b
        → option_map (λ (x : InstanceEntry). x.groups) (amended_by keep_entry (cond b (Some e) None) (Some e))
        ≡ Some (persistent_groups e.groups)
    by true f = refl
    by false f = ap (λ (gs : List GroupRecord). Some gs) (all_outlast e.groups f)

groups_then : (h : Holdings) (owner : Owner) → IsNumbered h
    → groups_if_there (all_anew h) owner ≡ option_map persistent_groups (groups_if_there h owner)
groups_then h (owners.Service name) numbered =
    ap (option_map (λ s. s.groups))
    (lookup_amend_each by_service keep_service (filter (λ s. has_dropped s.groups) h.services) h.services name
    (λ s t. refl) (rises_filter by_service (λ s. has_dropped s.groups) h.services numbered.ordered.services)
    ∙ ap (λ (o : Option Service). amended_by keep_service o (lookup by_service h.services name))
    (lookup_filter by_service (λ s. has_dropped s.groups) h.services name numbered.ordered.services))
    ∙ service_groups (lookup by_service h.services name)
groups_then h (owners.Instance n) numbered =
    groups_stay (again h) (instances h) (new_entries h) n
    ∙ ap (option_map (λ e. e.groups))
    (lookup_amend_each by_entry keep_entry (filter (λ e. has_dropped e.groups) h.instances) h.instances n
    (λ e t. refl) (rises_filter by_entry (λ e. has_dropped e.groups) h.instances numbered.ordered.instances)
    ∙ ap (λ (o : Option InstanceEntry). amended_by keep_entry o (lookup by_entry h.instances n))
    (lookup_filter by_entry (λ e. has_dropped e.groups) h.instances n numbered.ordered.instances))
    ∙ entry_groups (lookup by_entry h.instances n)

-- ---- instances

bare_kept : (es xs : List InstanceEntry) → bare (amend_each by_entry keep_entry es xs) ≡ bare xs
bare_kept [] xs = refl
bare_kept (e ∷ es) xs = bare_kept es (amend by_entry e.instance.number (keep_entry e) xs)
    ∙ bare_groups e.instance.number (kept_groups e.groups) xs

instances_then : (h : Holdings) (n : ℕ) → IsNumbered h → instance (all_anew h) n ≡ option_map (again h) (instance h n)
instances_then h n numbered =
    ap (λ (is : List Instance). lookup by_instance is n)
    (bare_each (again h) (instances h) (new_entries h)
    ∙ ap (put_each (again h) (instances h))
    (bare_kept (filter (λ e. has_dropped e.groups) h.instances) h.instances))
    ∙ booted_at h (persistent (groups_of h)) n numbered

or_none : (o : Option (List GroupRecord))
    → unwrap_or (option_map persistent_groups o) [] ≡ persistent_groups (unwrap_or o [])
or_none None = refl
or_none (Some gs) = refl

read_then : (h : Holdings) (owner : Owner) → IsNumbered h
    → persistent (groups_of h) owner ≡ groups_of (all_anew h) owner
unfolding groups_of
read_then h owner numbered =
    sym (ap (λ (o : Option (List GroupRecord)). unwrap_or o []) (groups_then h owner numbered)
    ∙ or_none (groups_if_there h owner))

begins_again : (h : Holdings) (i : Instance) → IsNumbered h → BeginsAgain i (all_anew h) (again h i)
begins_again h i numbered = record {
  anew = record {
    anew = record {
      number = refl;
      state = refl;
      next = refl;
      live = refl;
      side = refl;
      last = refl;
      launch = refl;
      serial = refl;
    };
    asks = refl;
    failed = refl;
  };
  owner = ap (λ (gs : Groups). owner_by (setting gs i)) (fun_ext (λ owner. read_then h owner numbered));
  rest = refl;
}

no_such : (h : Holdings) (n : ℕ) → IsNumbered h → instance h n ≡ None → instance (all_anew h) n ≡ None
no_such h n numbered e = instances_then h n numbered ∙ ap (option_map (again h)) e

abbrev revised : Holdings → Holdings
revised h = record (all_anew h) { revision = h.revision + 1 }

is_booted : (h : Holdings) → IsNumbered h → IsBooted h (revised h)
unfolding groups_of
is_booted h numbered = record {
  launches = λ name. launches_then h name numbered;
  anew = λ n i e. (
    again h i,
    instances_then h n numbered ∙ ap (option_map (again h)) e,
    (let a = begins_again h i numbered in record { anew = a.anew; owner = a.owner; rest = a.rest }),
  );
  no_more = λ n e. no_such h n numbered e;
  groups = λ owner. groups_then h owner numbered;
  names = refl;
  snapshots = refl;
  next_instance = refl;
  next_snapshot = refl;
  revision = refl;
}

pub booted_then : (h : Holdings) → IsNumbered h → (next h commands.Boot).1 ≡ Done → IsBooted h (next h commands.Boot).0
unfolding next outcome_of_command asked_boot
booted_then h numbered =
    either h Done (IsBooted h) (may_not_boot h) _ _ (λ e. refuses h Done (IsBooted h) Limit refl refl)
    (λ e. accepts h Done (IsBooted h) (changes_for_boot h) Done refl
    (λ same. subst (λ (k : Holdings). IsBooted h (record k { revision = h.revision + 1 })) (sym (booting_makes h))
    (is_booted h numbered)))

-- ---- a boot that may be

at_last : (m n : ℕ) → not (nat_lt m n) ≡ true → m < n → ⊥
at_last m n e low = no_both (not (nat_lt m n)) e (ap not (lt-ltb m n low))

below_last : (m n : ℕ) → not (nat_lt m n) ≡ false → m < n
below_last m n e = by (nat_lt m n) refl e
  where
    by : (b : Bool) → nat_lt m n ≡ b → not b ≡ false → m < n
    by true f g = ltb-true m n f
    by false f g = absurd cc

either_any : (a b : Bool) → (a || b) ≡ true → (a ≡ true) ⊎ (b ≡ true)
either_any true b e = inl refl
either_any false b e = inr e

neither : (a b : Bool) → (a || b) ≡ false → (a ≡ false) × (b ≡ false)
neither true b e = absurd cc
neither false b e = (refl, e)

may_not : (h : Holdings) → IsNumbered h → may_not_boot h ≡ true → MayBoot h → ⊥
may_not h numbered e m =
    elim (either_any (list_any is_last_launch h.launches) (list_any is_last_number (instances h)) e) [
      | inl a ↦ (let l = any_there by_launch is_last_launch h.launches numbered.ordered.launches a in
          at_last l.0.count greatest l.2 (m.launches l.0.restarter l.0 l.1))
      | inr a ↦ (let i = any_there by_instance is_last_number (instances h)
          (rises_bare h.instances numbered.ordered.instances) a in
          at_last i.0.row.number greatest_number i.2 (m.numbers i.0.number i.0 i.1))
    ]

may : (h : Holdings) → may_not_boot h ≡ false → h.revision < greatest → MayBoot h
may h e left =
    let both = neither (list_any is_last_launch h.launches) (list_any is_last_number (instances h)) e in
    record {
      launches = λ name l f. below_last l.count greatest (any_not _ is_last_launch h.launches l both.0 f);
      numbers = λ n i f. below_last i.row.number greatest_number (any_not _ is_last_number (instances h) i both.1 f);
      revision = left;
    }

pub boot_answer : (h : Holdings) → IsNumbered h → IsBootAnswer h (next h commands.Boot).1
unfolding next outcome_of_command asked_boot
boot_answer h numbered =
    one_of (IsBootAnswer h) (may_not_boot h) (refusal_with Limit) (acceptance_with h (changes_for_boot h) Done)
    (λ e. inr (refl, may_not h numbered e))
    (λ e. reply_accepted (IsBootAnswer h) h (changes_for_boot h) Done
    (λ f. inl (refl, may h e (ltb-true h.revision greatest f)))
    (λ f. inr (
      refl,
      λ m. (let high : greatest ≤ h.revision = ltb-false h.revision greatest f in
          let low : h.revision < greatest = m.revision in omega arith),
    )))
