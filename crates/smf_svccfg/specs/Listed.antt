-- The output of the lines that list.
use Rattle.std.specs.Prelude.{ℕ, List, [], ◌∷◌, ◌++◌, Bool, true, false, codes, Option, Some, None}
use Rattle.std.specs.List.{flat_map}
use Rattle.smf_fmri.specs.Patterns.{service_of}
use Rattle.smf_fmri.specs.Name.{strip}
use Rattle.smf_value.specs.declared.value.Value.{Value}
use Rattle.smf_value.specs.declared.value.Value.TheVariants.{Astring, Ustring}
use Rattle.smf_value.specs.Groups.{GroupRecord, PropertyRecord}
use Rattle.smf_value.specs.Kinds.{kind_text}
use Rattle.smf_value.specs.ValueTexts.{text_of_value}
use Rattle.smf_snap.specs.declared.name.SnapshotName.{SnapshotName}
use Rattle.smf_snap.specs.Composed.{composition}
use Rattle.smf_snap.specs.Names.{name_text}
use Rattle.smf_model.specs.declared.held.InstanceName.{InstanceName}
use Rattle.smf_model.specs.declared.held.Owner.TheVariants as owners
use Rattle.smf_model.specs.declared.held.Service.{Service}
use Rattle.smf_model.specs.declared.held.Snapshot.{Snapshot}
use Rattle.smf_model.specs.Contents.{Holdings}
use Rattle.smf_model.specs.Next.{named_snapshot}
use Rattle.smf_model.specs.Shown.{shown_groups, snapshot_number, snapshots_of}
use Rattle.smf_svccfg.specs.declared.selection.Selection.{Selection}
use Rattle.smf_svccfg.specs.declared.selection.Selection.TheVariants as selected
use Rattle.smf_svccfg.specs.Tokens.{quoted_text}

-- a line and its end
abbrev pub line_for : List ℕ → List ℕ
line_for text = text ++ 10 ∷ []

-- ---- children

abbrev pub service_line : Service → List ℕ
service_line s = line_for (service_of s.name)

abbrev pub services_text : List Service → List ℕ
services_text ss = flat_map service_line ss

-- 58 is ':'; what stands before the names of a service's instances
abbrev pub before_instances : List ℕ → List ℕ
before_instances service = service ++ 58 ∷ []

abbrev pub name_line : Option (List ℕ) → List ℕ
name_line None = []
name_line (Some name) = line_for name

-- a line for the rest of a name after a prefix
abbrev pub line_behind : List ℕ → InstanceName → List ℕ
line_behind prefix n = name_line (strip prefix n.name)

abbrev pub lines_behind : List ℕ → List InstanceName → List ℕ
lines_behind prefix ns = flat_map (line_behind prefix) ns

-- the instances of a service, by name
abbrev pub instances_text : List ℕ → List InstanceName → List ℕ
instances_text service ns = lines_behind (before_instances service) ns

abbrev pub first_line : Option (List ℕ) → List ℕ → List ℕ
first_line None behind = []
first_line (Some name) behind = line_for name ++ behind

-- the lines of the names at the head of a list that begin with a prefix
abbrev pub head_lines : List ℕ → List InstanceName → List ℕ
head_lines prefix [] = []
head_lines prefix (n ∷ ns) = first_line (strip prefix n.name) (head_lines prefix ns)

-- the names of the services, or of the instances of the selected service, a line each
abbrev pub children_text : Holdings → Selection → List ℕ
children_text h selected.Nothing = services_text h.services
children_text h (selected.Service s) = instances_text s h.names
children_text h _ = []

-- ---- groups

-- a text is printed in quotes, any other value as it is spelled
abbrev pub value_text : Value → List ℕ
value_text (Astring text) = quoted_text text
value_text (Ustring text) = quoted_text text
value_text v = text_of_value v

abbrev pub flag_text : Bool → List ℕ
flag_text true = codes " P"
flag_text false = []

-- the name and the type of a group, and P if it is not kept over a boot
abbrev pub group_line : GroupRecord → List ℕ
group_line g = line_for (g.name ++ 32 ∷ (g.group_type ++ flag_text g.non_persistent))

-- each value after a space
abbrev pub values_text : List Value → List ℕ
values_text vs = flat_map (λ v. 32 ∷ value_text v) vs

abbrev pub target_text : List ℕ → List ℕ → List ℕ
target_text group property = group ++ 47 ∷ property

-- GROUP/PROPERTY, its kind and its values
abbrev pub property_line : List ℕ → PropertyRecord → List ℕ
property_line group p = line_for (target_text group p.name ++ 32 ∷ (kind_text p.kind ++ values_text p.values))

abbrev pub property_lines : List ℕ → List PropertyRecord → List ℕ
property_lines group ps = flat_map (property_line group) ps

-- a group, with a line for each of its properties
abbrev pub group_lines : GroupRecord → List ℕ
group_lines g = group_line g ++ property_lines g.name g.properties

abbrev pub groups_text : List GroupRecord → List ℕ
groups_text gs = flat_map group_line gs

abbrev pub properties_text : List GroupRecord → List ℕ
properties_text gs = flat_map group_lines gs

-- the groups that an instance had
abbrev pub composed_in : Option Snapshot → List GroupRecord
composed_in None = []
composed_in (Some s) = composition s.instance_groups s.service_groups

-- the snapshot that a name means of an instance
abbrev pub snapshot_by_name : Holdings → ℕ → SnapshotName → Option Snapshot
snapshot_by_name h n name = named_snapshot h (snapshot_number h n name)

-- the groups of what is selected, by name; none if nothing is
abbrev pub groups_in : Holdings → Selection → Option (List GroupRecord)
groups_in h selected.Nothing = None
groups_in h (selected.Service s) = Some (shown_groups h (owners.Service s))
groups_in h (selected.Instance n) = Some (shown_groups h (owners.Instance n))
groups_in h (selected.Snapshot n name) = Some (composed_in (snapshot_by_name h n name))

-- ---- snapshots

abbrev pub snapshot_line : SnapshotName → List ℕ
snapshot_line name = line_for (name_text name)

abbrev pub snapshots_text : List SnapshotName → List ℕ
snapshots_text names = flat_map snapshot_line names

abbrev pub snapshots_in : Holdings → Option ℕ → Option (List SnapshotName)
snapshots_in h None = None
snapshots_in h (Some n) = snapshots_of h n
