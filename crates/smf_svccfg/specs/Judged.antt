-- How a line is judged, by a repository and by the selection.
use Rattle.std.specs.Fmt.{decimal}
use Rattle.std.specs.Prelude.{◌≡◌, ◌==◌, ◌⊎◌, ℕ, List, ◌∷◌, ◌++◌, nat_eq, codes, Bool, false, true, if◌then◌else◌, Option, Some, None, is_some, option_map, Result, Ok, Err}
use Rattle.std.specs.Cmp.Lexicographic.{pointwise}
use Rattle.smf_fmri.specs.declared.fault.FmriFault.{FmriFault}
use Rattle.smf_fmri.specs.Name.{short, name_of_text}
use Rattle.smf_fmri.specs.Patterns.{named_service, named_instance, read_short}
use Rattle.smf_model.specs.declared.command.Edit.{Edit}
use Rattle.smf_model.specs.declared.command.Edit.TheVariants as edits
use Rattle.smf_model.specs.declared.command.PropertyChange.{PropertyChange}
use Rattle.smf_model.specs.declared.held.Instance.{Instance}
use Rattle.smf_model.specs.declared.held.Owner.{Owner}
use Rattle.smf_model.specs.declared.held.Owner.TheVariants as owners
use Rattle.smf_model.specs.Contents.{Holdings}
use Rattle.smf_model.specs.Look.{instance, service, instance_by_name}
use Rattle.smf_model.specs.GeneralGroup.{service_fmri}
use Rattle.smf_model.specs.Shown.{snapshot_number}
use Rattle.smf_snap.specs.declared.name.SnapshotName.{SnapshotName}
use Rattle.smf_snap.specs.declared.name.SnapshotName.TheVariants.{Running}
use Rattle.smf_snap.specs.Names.{name_from}
use Rattle.smf_svccfg.specs.declared.command.CfgCommand.TheVariants as commands
use Rattle.smf_svccfg.specs.declared.fault.CfgFault.{CfgFault}
use Rattle.smf_svccfg.specs.declared.fault.CfgFault.TheVariants.{Memory, Quote, Unknown, Usage, NotSelected, ReadOnly, NoSuch, Limit}
use Rattle.smf_svccfg.specs.declared.fault.LineFault.{LineFault}
use Rattle.smf_svccfg.specs.declared.fault.LineFault.TheVariants as line_faults
use Rattle.smf_svccfg.specs.declared.line.Line.{Line}
use Rattle.smf_svccfg.specs.declared.line.Line.TheVariants as lines
use Rattle.smf_svccfg.specs.declared.selection.Selection.{Selection}
use Rattle.smf_svccfg.specs.declared.selection.Selection.TheVariants as selected
use Rattle.smf_svccfg.specs.declared.selection.Judged.{Judged}
use Rattle.smf_svccfg.specs.declared.selection.Judged.TheVariants as judgements
use Rattle.smf_svccfg.specs.Lines.{command_text, name_in, line_of}
use Rattle.smf_svccfg.specs.Listed.{children_text, groups_in, groups_text, properties_text, snapshots_in, snapshots_text}

-- a call returned what the definition gives, unless memory ran out
abbrev pub Fails : {X : Type 0} → CfgFault → Result X CfgFault → Type 0
Fails Memory given = Unit {0}
Fails e given = given ≡ Err e

abbrev pub Gives : {X : Type 0} → Result X CfgFault → Result X CfgFault → Type 0
Gives (Ok x) given = given ≡ Ok x
Gives (Err e) given = Fails e given

-- ---- what a word names

-- the service that a text names in the short form
abbrev pub short_service : List ℕ → Result (List ℕ) FmriFault → Option (List ℕ)
short_service text (Ok name) = if pointwise nat_eq name text then named_service name else None
short_service text (Err e) = None

abbrev pub read_service : List ℕ → Option (List ℕ)
read_service text = short_service text (name_of_text text)

abbrev pub present_service : Holdings → Option (List ℕ) → Option Owner
present_service h None = None
present_service h (Some name) = if is_some (service h name) then Some (owners.Service name) else None

abbrev pub present_instance : Holdings → Option (List ℕ) → Option Owner
present_instance h None = None
present_instance h (Some name) = option_map (λ i. owners.Instance i.number) (instance_by_name h name)

-- the child of what is selected: a service of this name, or an instance of this name of the selected service
abbrev pub child : Holdings → Selection → List ℕ → Option Owner
child h selected.Nothing word = present_service h (read_service (short ++ word))
child h (selected.Service s) word = present_instance h (read_short (s ++ 58 ∷ word))
child h _ word = None

abbrev pub entity_by : Holdings → Result (List ℕ) FmriFault → Option Owner
entity_by h (Ok name) = if is_some (named_instance name) then present_instance h (named_instance name)
    else present_service h (named_service name)
entity_by h (Err e) = None

-- the service or the instance that a word names in full
abbrev pub entity : Holdings → List ℕ → Option Owner
entity h word = entity_by h (name_of_text word)

abbrev pub child_or : Option Owner → Option Owner → Option Owner
child_or (Some owner) other = Some owner
child_or None other = other

-- the owner that a word names: a child of what is selected, else an entity in full
abbrev pub named_by : Holdings → Selection → List ℕ → Option Owner
named_by h s word = child_or (child h s word) (entity h word)

-- ---- what is selected

abbrev pub selection_of : Owner → Selection
selection_of (owners.Service name) = selected.Service name
selection_of (owners.Instance n) = selected.Instance n

-- the instance that is selected, or of which a snapshot is
abbrev pub instance_in : Selection → Option ℕ
instance_in selected.Nothing = None
instance_in (selected.Service s) = None
instance_in (selected.Instance n) = Some n
instance_in (selected.Snapshot n name) = Some n

-- the selection above an instance: its service, or nothing if the instance is not there any more
abbrev pub above_instance : Option Instance → Selection
above_instance None = selected.Nothing
above_instance (Some i) = selected.Service (service_fmri i.name)

-- the owner of the groups that a line changes
abbrev pub owner_of : Selection → Result Owner CfgFault
owner_of selected.Nothing = Err NotSelected
owner_of (selected.Service s) = Ok (owners.Service s)
owner_of (selected.Instance n) = Ok (owners.Instance n)
owner_of (selected.Snapshot n name) = Err ReadOnly

abbrev pub is_snapshot : Selection → Bool
is_snapshot (selected.Snapshot n name) = true
is_snapshot _ = false

-- ---- lines that select

abbrev pub judged_select : Option Owner → Result Judged CfgFault
judged_select None = Err NoSuch
judged_select (Some owner) = Ok (judgements.Select (selection_of owner))

abbrev pub judged_unselect : Holdings → Selection → Result Judged CfgFault
judged_unselect h selected.Nothing = Err NotSelected
judged_unselect h (selected.Service s) = Ok (judgements.Select selected.Nothing)
judged_unselect h (selected.Instance n) = Ok (judgements.Select (above_instance (instance h n)))
judged_unselect h (selected.Snapshot n name) = Ok (judgements.Select (above_instance (instance h n)))

abbrev pub snapshot_named : Holdings → ℕ → Option SnapshotName → Result Judged CfgFault
snapshot_named h n None = Err NoSuch
snapshot_named h n (Some name) =
    if is_some (snapshot_number h n name) then Ok (judgements.Select (selected.Snapshot n name)) else Err NoSuch

-- a snapshot of an instance by its name, or the instance again
abbrev pub snapshot_in : Holdings → ℕ → Option (List ℕ) → Result Judged CfgFault
snapshot_in h n None = Ok (judgements.Select (selected.Instance n))
snapshot_in h n (Some word) = snapshot_named h n (name_from word)

abbrev pub judged_snapshot : Holdings → Option ℕ → Option (List ℕ) → Result Judged CfgFault
judged_snapshot h None word = Err NotSelected
judged_snapshot h (Some n) word = snapshot_in h n word

-- ---- edits

-- a service whose name is not past 512 bytes
abbrev pub added_service : Option (List ℕ) → Result Judged CfgFault
added_service (Some name) = Ok (judgements.Edit (edits.AddService name) selected.Nothing)
added_service None = Err Limit

abbrev pub added_instance : List ℕ → Option (List ℕ) → Result Judged CfgFault
added_instance s (Some name) = Ok (judgements.Edit (edits.AddInstance s name) (selected.Service s))
added_instance s None = Err (Usage commands.Add)

abbrev pub judged_add : Selection → List ℕ → Result Judged CfgFault
judged_add selected.Nothing word = added_service (read_service (short ++ word))
judged_add (selected.Service s) word = added_instance s (name_in word)
judged_add _ word = Err (Usage commands.Add)

abbrev pub delete_edit : Owner → Edit
delete_edit (owners.Service name) = edits.DeleteService name
delete_edit (owners.Instance n) = edits.DeleteInstance n

-- true if the owner that is deleted is selected
abbrev pub is_owner : Selection → Owner → Bool
is_owner (selected.Service a) (owners.Service b) = pointwise nat_eq a b
is_owner (selected.Instance m) (owners.Instance n) = m == n
is_owner _ _ = false

-- the selection above a service or an instance
abbrev pub above : Holdings → Owner → Selection
above h (owners.Service name) = selected.Nothing
above h (owners.Instance n) = above_instance (instance h n)

-- deleting what is selected selects what stands above it
abbrev pub after_delete : Holdings → Selection → Owner → Selection
after_delete h s owner = if is_owner s owner then above h owner else s

abbrev pub judgement_of_delete : Holdings → Selection → Option Owner → Result Judged CfgFault
judgement_of_delete h s None = Err NoSuch
judgement_of_delete h s (Some owner) = Ok (judgements.Edit (delete_edit owner) (after_delete h s owner))

-- the owner that a word names is deleted
abbrev pub deleted_by_name : Holdings → Selection → List ℕ → Result Judged CfgFault
deleted_by_name h s word = judgement_of_delete h s (named_by h s word)

abbrev pub judged_delete : Holdings → Selection → List ℕ → Result Judged CfgFault
judged_delete h s word = if is_snapshot s then Err ReadOnly else deleted_by_name h s word

-- an edit of the groups of what is selected, which stays selected
abbrev pub judged_add_group : Selection → Result Owner CfgFault → List ℕ → List ℕ → Bool → Result Judged CfgFault
judged_add_group s (Err e) name group_type p = Err e
judged_add_group s (Ok owner) name group_type p = Ok (judgements.Edit (edits.AddGroup owner name group_type p) s)

abbrev pub judged_delete_group : Selection → Result Owner CfgFault → List ℕ → Result Judged CfgFault
judged_delete_group s (Err e) name = Err e
judged_delete_group s (Ok owner) name = Ok (judgements.Edit (edits.DeleteGroup owner name) s)

abbrev pub judged_property : Selection → Result Owner CfgFault → List ℕ → PropertyChange → Result Judged CfgFault
judged_property s (Err e) group change = Err e
judged_property s (Ok owner) group change = Ok (judgements.Edit (edits.Property owner group change) s)

-- back to a snapshot by its name
abbrev pub reverting_to : Selection → ℕ → Option SnapshotName → Result Judged CfgFault
reverting_to s n None = Err NoSuch
reverting_to s n (Some name) = Ok (judgements.Edit (edits.Revert n name) s)

-- back to the selected snapshot, else to the running one; no snapshot is selected after it
abbrev pub revert_by_selection : Selection → Result Judged CfgFault
revert_by_selection selected.Nothing = Err NotSelected
revert_by_selection (selected.Service s) = Err NotSelected
revert_by_selection (selected.Instance n) = Ok (judgements.Edit (edits.Revert n Running) (selected.Instance n))
revert_by_selection (selected.Snapshot n name) = Ok (judgements.Edit (edits.Revert n name) (selected.Instance n))

abbrev pub reverting_by : Selection → Option ℕ → List ℕ → Result Judged CfgFault
reverting_by s None word = Err NotSelected
reverting_by s (Some n) word = reverting_to s n (name_from word)

abbrev pub judged_revert : Selection → Option (List ℕ) → Result Judged CfgFault
judged_revert s None = revert_by_selection s
judged_revert s (Some word) = reverting_by s (instance_in s) word

-- ---- listings

abbrev pub judged_print : Option (List ℕ) → Result Judged CfgFault
judged_print None = Err NotSelected
judged_print (Some text) = Ok (judgements.Print text)

-- ---- the whole

abbrev pub judged_line : Holdings → Selection → Line → Result Judged CfgFault
judged_line h s lines.Nothing = Ok judgements.Nothing
judged_line h s (lines.Select word) = judged_select (named_by h s word)
judged_line h s (lines.Delete word) = judged_delete h s word
judged_line h s lines.Unselect = judged_unselect h s
judged_line h s lines.List = Ok (judgements.Print (children_text h s))
judged_line h s lines.ListGroups = judged_print (option_map groups_text (groups_in h s))
judged_line h s lines.ListProperties = judged_print (option_map properties_text (groups_in h s))
judged_line h s lines.ListSnapshots = judged_print (option_map snapshots_text (snapshots_in h (instance_in s)))
judged_line h s (lines.Add word) = judged_add s word
judged_line h s (lines.AddGroup name group_type p) = judged_add_group s (owner_of s) name group_type p
judged_line h s (lines.DeleteGroup name) = judged_delete_group s (owner_of s) name
judged_line h s (lines.Property group change) = judged_property s (owner_of s) group change
judged_line h s (lines.SelectSnapshot word) = judged_snapshot h (instance_in s) word
judged_line h s (lines.Revert word) = judged_revert s word
judged_line h s lines.End = Ok judgements.End

abbrev pub given_by : LineFault → CfgFault
given_by line_faults.Memory = Memory
given_by (line_faults.Quote place) = Quote place
given_by line_faults.Unknown = Unknown
given_by (line_faults.Usage command) = Usage command

abbrev pub judged_by : Holdings → Selection → Result Line LineFault → Result Judged CfgFault
judged_by h s (Ok line) = judged_line h s line
judged_by h s (Err e) = Err (given_by e)

-- the judgement of a line; the repository may still refuse the edit
unfoldable pub judgement_of : Holdings → Selection → List ℕ → Result Judged CfgFault
judgement_of h s line = judged_by h s (line_of line)

-- ---- what a line may come to

-- a service or an instance that the repository has
abbrev pub IsOwner : Holdings → Owner → Type 0
IsOwner h (owners.Service s) = is_some (service h s) ≡ true
IsOwner h (owners.Instance n) = (name : List ℕ) × (option_map (λ i. i.number) (instance_by_name h name) ≡ Some n)

-- the service above the instance that was selected
abbrev pub IsAboveInstance : Holdings → Option ℕ → List ℕ → Type 0
IsAboveInstance h None service = ⊥
IsAboveInstance h (Some n) service = option_map (λ i. service_fmri i.name) (instance h n) ≡ Some service

-- the new selection may be nothing. It may be a service that is there, or that stands above the selected instance.
-- It may be an instance that is there, or the one of which a snapshot was selected. It may be a snapshot that the
-- selected instance has
abbrev pub MaySelect : Holdings → Selection → Selection → Type 0
MaySelect h s selected.Nothing = Unit {0}
MaySelect h s (selected.Service name) = IsOwner h (owners.Service name) ⊎ IsAboveInstance h (instance_in s) name
MaySelect h s (selected.Instance n) = IsOwner h (owners.Instance n) ⊎ (instance_in s ≡ Some n)
MaySelect h s (selected.Snapshot n name) = (instance_in s ≡ Some n) × (is_some (snapshot_number h n name) ≡ true)

-- an edit of what is selected, or of what is there; under a selected snapshot only a revert
abbrev pub Concerns : Holdings → Selection → Edit → Type 0
Concerns h s (edits.AddService name) = s ≡ selected.Nothing
Concerns h s (edits.AddInstance service name) = s ≡ selected.Service service
Concerns h s (edits.DeleteService name) = IsOwner h (owners.Service name) × (is_snapshot s ≡ false)
Concerns h s (edits.DeleteInstance n) = IsOwner h (owners.Instance n) × (is_snapshot s ≡ false)
Concerns h s (edits.AddGroup owner name group_type p) = owner_of s ≡ Ok owner
Concerns h s (edits.DeleteGroup owner name) = owner_of s ≡ Ok owner
Concerns h s (edits.Property owner group change) = owner_of s ≡ Ok owner
Concerns h s (edits.Revert n name) = instance_in s ≡ Some n
Concerns h s _ = ⊥

-- a judgement that a line may come to
abbrev pub Fits : Holdings → Selection → Judged → Type 0
Fits h s (judgements.Select found) = MaySelect h s found
Fits h s (judgements.Edit edit after) = Concerns h s edit
Fits h s _ = Unit {0}

-- ---- texts

unfoldable pub fault_text : CfgFault → List ℕ
fault_text Memory = codes "no memory"
fault_text (Quote place) = codes "bad quoting at " ++ decimal place
fault_text Unknown = codes "unknown command"
fault_text (Usage command) = codes "bad use of " ++ command_text command
fault_text NotSelected = codes "nothing selected"
fault_text ReadOnly = codes "snapshot is read only"
fault_text NoSuch = codes "no such entity"
fault_text Limit = codes "limit"
