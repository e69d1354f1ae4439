-- Changes by groups that a body may hold leave such groups.
use Rattle.std.proofs.Common.{◌≡◌, ℕ, List, [], ◌∷◌, ◌++◌, map, Bool, true, false, if◌then◌else◌, Option, Some, None, option_map, refl}
use Rattle.std.specs.Prelude.{unwrap_or}
use Rattle.std.specs.List.{AllByRecursion}
use Rattle.smf_fmri.specs.ByKey.{By, amend, has_key, lookup}
use Rattle.smf_fmri.proofs.KeyOrder.{all_put}
use Rattle.smf_fmri.proofs.SameLists.{found_every}
use Rattle.smf_value.specs.Body.{AreGroups}
use Rattle.smf_model.specs.declared.change.Change.{Change}
use Rattle.smf_model.specs.declared.change.Change.TheVariants as changes
use Rattle.smf_model.specs.declared.held.InstanceEntry.{InstanceEntry}
use Rattle.smf_model.specs.declared.held.Owner.{Owner}
use Rattle.smf_model.specs.declared.held.Owner.TheVariants as owners
use Rattle.smf_model.specs.declared.held.Service.{Service}
use Rattle.smf_model.specs.declared.held.Snapshot.{Snapshot}
use Rattle.smf_model.specs.Contents.{Holdings}
use Rattle.smf_model.specs.Look.{by_entry, by_service, by_snapshot, holdings_after_change, groups_of, holdings_after_changes, put_by_lookup, put_new, service}
use Rattle.smf_model.specs.Next.{named_snapshot}
use Rattle.smf_world.specs.Formed.{IsFormed, IsFormedEntry, IsFormedService, IsFormedSnapshot}
use Rattle.smf_world.proofs.FormedEdits.{every_filter}
use Rattle.smf_world.proofs.FormedGroups.{no_groups}

-- ---- every item

pub every_both : {X : Type 0} (P : X → Type 0) (xs ys : List X) → AllByRecursion P xs → AllByRecursion P ys
    → AllByRecursion P (xs ++ ys)
every_both P [] ys a b = b
every_both P (x ∷ xs) ys a b = (a.0, every_both P xs ys a.1 b)

pub every_map : {X Y : Type 0} (P : X → Type 0) (Q : Y → Type 0) (f : X → Y) → ((x : X) → P x → Q (f x))
    → (xs : List X) → AllByRecursion P xs → AllByRecursion Q (map f xs)
every_map P Q f each [] a = tt
every_map P Q f each (x ∷ xs) a = (each x a.0, every_map P Q f each xs a.1)

every_amend : {X K : Type 0} (o : By X K) (P : X → Type 0) (k : K) (f : X → X) → ((x : X) → P x → P (f x))
    → (xs : List X) → AllByRecursion P xs → AllByRecursion P (amend o k f xs)
every_amend o P k f each xs a =
    every_map P P (λ x. if has_key o k x then f x else x) (λ x p. by x (has_key o k x) p) xs a
  where
    by : (x : _) (b : Bool) → P x → P (if b then f x else x)
    by x true p = each x p
    by x false p = p

every_new : {X K : Type 0} (o : By X K) (P : X → Type 0) (x : X) (xs : List X) → P x → AllByRecursion P xs
    → AllByRecursion P (put_new o x xs)
every_new o P x xs p a = by (lookup o xs (o.key x))
  where
    by : (found : Option _) → AllByRecursion P (put_by_lookup o x xs found)
    by None = all_put o P x xs p a
    by (Some there) = a

-- ---- changes

abbrev pub IsFormedBy : Change → Type 0
IsFormedBy (changes.AddService s) = IsFormedService s
IsFormedBy (changes.AddInstance e) = IsFormedEntry e
IsFormedBy (changes.PutGroups owner gs) = AreGroups gs
IsFormedBy (changes.AddSnapshot s) = IsFormedSnapshot s
IsFormedBy _ = Unit {0}

formed_changed : (h : Holdings) (c : Change) → IsFormed h → IsFormedBy c → IsFormed (holdings_after_change h c)
formed_changed h (changes.AddService s) f is =
    record {
      services = all_put by_service IsFormedService s h.services is f.services;
      instances = f.instances;
      snapshots = f.snapshots;
    }
formed_changed h (changes.DropService name) f is =
    record {
      services = every_filter IsFormedService _ h.services f.services;
      instances = f.instances;
      snapshots = f.snapshots;
    }
formed_changed h (changes.AddInstance e) f is =
    record {
      services = f.services;
      instances = all_put by_entry IsFormedEntry e h.instances is f.instances;
      snapshots = f.snapshots;
    }
formed_changed h (changes.PutInstance i) f is =
    record {
      services = f.services;
      instances = every_amend by_entry IsFormedEntry i.number _ (λ e a. a) h.instances f.instances;
      snapshots =
          f.snapshots;
    }
formed_changed h (changes.DropInstance n) f is =
    record {
      services = f.services;
      instances = every_filter IsFormedEntry _ h.instances f.instances;
      snapshots = f.snapshots;
    }
formed_changed h (changes.PutName e) f is =
    record { services = f.services; instances = f.instances; snapshots = f.snapshots }
formed_changed h (changes.DropName name) f is =
    record { services = f.services; instances = f.instances; snapshots = f.snapshots }
formed_changed h (changes.PutGroups (owners.Service name) gs) f is =
    record {
      services = every_amend by_service IsFormedService name _ (λ s a. is) h.services f.services;
      instances = f.instances;
      snapshots = f.snapshots;
    }
formed_changed h (changes.PutGroups (owners.Instance n) gs) f is =
    record {
      services = f.services;
      instances = every_amend by_entry IsFormedEntry n _ (λ e a. is) h.instances f.instances;
      snapshots =
          f.snapshots;
    }
formed_changed h (changes.AddSnapshot s) f is =
    record {
      services = f.services;
      instances = f.instances;
      snapshots = every_new by_snapshot IsFormedSnapshot s h.snapshots is f.snapshots;
    }
formed_changed h (changes.DropSnapshots n) f is =
    record {
      services = f.services;
      instances = f.instances;
      snapshots = every_filter IsFormedSnapshot _ h.snapshots f.snapshots;
    }
formed_changed h (changes.PutLaunch l) f is =
    record { services = f.services; instances = f.instances; snapshots = f.snapshots }
formed_changed h (changes.NextInstance n) f is =
    record { services = f.services; instances = f.instances; snapshots = f.snapshots }
formed_changed h (changes.NextSnapshot n) f is =
    record { services = f.services; instances = f.instances; snapshots = f.snapshots }
formed_changed h (changes.SetRevision n) f is =
    record { services = f.services; instances = f.instances; snapshots = f.snapshots }

pub formed_installed : (h : Holdings) (cs : List Change) → IsFormed h → AllByRecursion IsFormedBy cs
    → IsFormed (holdings_after_changes h cs)
unfolding holdings_after_changes
formed_installed h [] f a = f
formed_installed h (c ∷ cs) f a = formed_installed (holdings_after_change h c) cs (formed_changed h c f a.0) a.1

-- ---- what is held

pub formed_groups : (h : Holdings) (owner : Owner) → IsFormed h → AreGroups (groups_of h owner)
unfolding groups_of
formed_groups h (owners.Service name) f = by (service h name) refl
  where
    by : (o : Option Service) → service h name ≡ o → AreGroups (unwrap_or (option_map (λ s. s.groups) o) [])
    by None e = no_groups
    by (Some s) e = found_every by_service IsFormedService name h.services s f.services e
formed_groups h (owners.Instance n) f = by (lookup by_entry h.instances n) refl
  where
    by : (o : Option InstanceEntry) → lookup by_entry h.instances n ≡ o
        → AreGroups (unwrap_or (option_map (λ e. e.groups) o) [])
    by None e = no_groups
    by (Some x) e = found_every by_entry IsFormedEntry n h.instances x f.instances e

pub formed_snapshot : (h : Holdings) (o : Option ℕ) (s : Snapshot) → IsFormed h → named_snapshot h o ≡ Some s
    → IsFormedSnapshot s
formed_snapshot h None s f e = absurd cc
formed_snapshot h (Some n) s f e = found_every by_snapshot IsFormedSnapshot n h.snapshots s f.snapshots e
