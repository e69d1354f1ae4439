-- How what is held is looked up, and how it is changed.
use Rattle.std.specs.Prelude.{ℕ, List, [], ◌∷◌, ◌==◌, not, Bool, Option}
use Rattle.std.specs.List.{list_all}
use Rattle.std.specs.Prelude.{Some, None, is_some, option_map, unwrap_or, filter, map, if◌then◌else◌}
use Rattle.std.specs.Option.{option_map_or}
use Rattle.smf_fmri.specs.ByKey.{By, amend, by_number, by_text, has_key, lookup, list_with_item, without}
use Rattle.smf_value.specs.Groups.{GroupRecord, by_group}
use Rattle.smf_model.specs.declared.held.Instance.{Instance}
use Rattle.smf_model.specs.declared.held.InstanceEntry.{InstanceEntry}
use Rattle.smf_model.specs.declared.held.InstanceName.{InstanceName}
use Rattle.smf_model.specs.declared.held.Launch.{Launch}
use Rattle.smf_model.specs.declared.held.Owner.{Owner}
use Rattle.smf_model.specs.declared.held.Owner.TheVariants as owners
use Rattle.smf_model.specs.declared.held.Service.{Service}
use Rattle.smf_model.specs.declared.held.Snapshot.{Snapshot}
use Rattle.smf_model.specs.declared.change.Change.{Change}
use Rattle.smf_model.specs.declared.change.Change.TheVariants.{AddService, DropService, AddInstance, PutInstance}
use Rattle.smf_model.specs.declared.change.Change.TheVariants.{DropInstance, PutName, DropName, PutGroups}
use Rattle.smf_model.specs.declared.change.Change.TheVariants.{AddSnapshot, DropSnapshots, PutLaunch, NextInstance}
use Rattle.smf_model.specs.declared.change.Change.TheVariants.{NextSnapshot, SetRevision}
use Rattle.smf_model.specs.Contents.{Holdings}

abbrev pub empty : Holdings
empty =
    record {
      revision = 0;
      services = [];
      instances = [];
      names = [];
      snapshots = [];
      launches = [];
      next_instance = 1;
      next_snapshot = 1;
    }

-- ---- keys

abbrev pub by_service : By Service (List ℕ)
by_service = by_text (λ s. s.name)

abbrev pub by_entry : By InstanceEntry ℕ
by_entry = by_number (λ e. e.instance.number)

abbrev pub by_instance : By Instance ℕ
by_instance = by_number (λ i. i.number)

abbrev pub by_name : By InstanceName (List ℕ)
by_name = by_text (λ n. n.name)

abbrev pub by_snapshot : By Snapshot ℕ
by_snapshot = by_number (λ s. s.number)

abbrev pub by_launch : By Launch (List ℕ)
by_launch = by_text (λ l. l.restarter)

abbrev pub has_number : ℕ → Instance → Bool
has_number n i = has_key by_instance n i

abbrev pub is_snapshot_of : ℕ → Snapshot → Bool
is_snapshot_of n s = s.instance == n

-- the snapshots of other instances
abbrev pub others_of : ℕ → List Snapshot → List Snapshot
others_of n ss = filter (λ s. not (is_snapshot_of n s)) ss

-- ---- look-ups

-- instances without their groups
abbrev pub bare : List InstanceEntry → List Instance
bare es = map (λ e. e.instance) es

-- the instances in number order
abbrev pub instances : Holdings → List Instance
instances h = bare h.instances

abbrev pub instance : Holdings → ℕ → Option Instance
instance h n = lookup by_instance (instances h) n

abbrev pub instance_at : Holdings → Option InstanceName → Option Instance
instance_at h None = None
instance_at h (Some e) = instance h e.number

-- the instance of a name
abbrev pub instance_by_name : Holdings → List ℕ → Option Instance
instance_by_name h name = instance_at h (lookup by_name h.names name)

abbrev pub service : Holdings → List ℕ → Option Service
service h name = lookup by_service h.services name

-- an owner's groups by name, if the owner is there
abbrev pub groups_if_there : Holdings → Owner → Option (List GroupRecord)
groups_if_there h (owners.Service name) = option_map (λ s. s.groups) (service h name)
groups_if_there h (owners.Instance n) = option_map (λ e. e.groups) (lookup by_entry h.instances n)

-- an owner's groups by name
unfoldable pub groups_of : Holdings → Owner → List GroupRecord
groups_of h owner = unwrap_or (groups_if_there h owner) []

abbrev pub group_in : List GroupRecord → List ℕ → Option GroupRecord
group_in gs name = lookup by_group gs name

abbrev pub group : Holdings → Owner → List ℕ → Option GroupRecord
group h owner name = group_in (groups_of h owner) name

-- a service without a group of a name, and whether all are
abbrev pub lacks : List ℕ → Service → Bool
lacks name s = not (is_some (group_in s.groups name))

abbrev pub no_service_has : List Service → List ℕ → Bool
no_service_has ss name = list_all (lacks name) ss

abbrev pub snapshot : Holdings → ℕ → Option Snapshot
snapshot h n = lookup by_snapshot h.snapshots n

abbrev pub launch_of : Holdings → List ℕ → ℕ
launch_of h name = option_map_or (λ l. l.count) (lookup by_launch h.launches name) 0

-- ---- changes

-- the first item that passes a test gives way to this one
abbrev pub with_replacement : {X : Type 0} → (X → Bool) → X → List X → List X
with_replacement test x [] = []
with_replacement test x (y ∷ ys) = if test y then x ∷ ys else y ∷ with_replacement test x ys

-- an instance in place of another, whose number it takes
abbrev pub in_place : Instance → Instance → Instance
in_place i other = record i { number = other.number }

-- an instance in place of the one that has its number, if there is one
abbrev pub put_over : Instance → List Instance → List Instance
put_over i is = amend by_instance i.number (in_place i) is

abbrev pub with_instance : Instance → InstanceEntry → InstanceEntry
with_instance i e = record e { instance = in_place i e.instance }

-- an item in its place, if no item has its key
abbrev pub put_by_lookup : {X K : Type 0} → By X K → X → List X → Option X → List X
put_by_lookup o x xs (Some there) = xs
put_by_lookup o x xs None = list_with_item o x xs

abbrev pub put_new : {X K : Type 0} → By X K → X → List X → List X
put_new o x xs = put_by_lookup o x xs (lookup o xs (o.key x))

abbrev pub with_groups : Holdings → List GroupRecord → Owner → Holdings
with_groups h gs (owners.Service name) =
    record h { services = amend by_service name (λ s. record s { groups = gs }) h.services }
with_groups h gs (owners.Instance n) =
    record h { instances = amend by_entry n (λ e. record e { groups = gs }) h.instances }

-- one change
abbrev pub holdings_after_change : Holdings → Change → Holdings
holdings_after_change h (AddService s) = record h { services = list_with_item by_service s h.services }
holdings_after_change h (DropService name) = record h { services = without by_service name h.services }
holdings_after_change h (AddInstance e) = record h { instances = list_with_item by_entry e h.instances }
holdings_after_change h (PutInstance i) = record h { instances = amend by_entry i.number (with_instance i) h.instances }
holdings_after_change h (DropInstance n) = record h { instances = without by_entry n h.instances }
holdings_after_change h (PutName e) = record h { names = list_with_item by_name e h.names }
holdings_after_change h (DropName name) = record h { names = without by_name name h.names }
holdings_after_change h (PutGroups owner gs) = with_groups h gs owner
holdings_after_change h (AddSnapshot s) = record h { snapshots = put_new by_snapshot s h.snapshots }
holdings_after_change h (DropSnapshots n) = record h { snapshots = others_of n h.snapshots }
holdings_after_change h (PutLaunch l) = record h { launches = list_with_item by_launch l h.launches }
holdings_after_change h (NextInstance n) = record h { next_instance = n }
holdings_after_change h (NextSnapshot n) = record h { next_snapshot = n }
holdings_after_change h (SetRevision n) = record h { revision = n }

-- the changes, in turn
unfoldable pub holdings_after_changes : Holdings → List Change → Holdings
holdings_after_changes h [] = h
holdings_after_changes h (c ∷ cs) = holdings_after_changes (holdings_after_change h c) cs
