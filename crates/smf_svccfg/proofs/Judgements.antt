-- A line selects or edits only what the repository has or what is selected.
use Rattle.std.proofs.Common.{◌≡◌, ℕ, List, ◌∷◌, ◌++◌, Bool, true, false, cond, Option, Some, None, IfSome, Result, Ok, Err, IfOk, inl, inr, refl, ap, subst}
use Rattle.std.specs.Prelude.{is_some, option_map}
use Rattle.smf_fmri.specs.declared.fault.FmriFault.{FmriFault}
use Rattle.smf_fmri.specs.Name.{short, name_of_text}
use Rattle.smf_fmri.specs.Patterns.{named_service, named_instance, read_short}
use Rattle.smf_model.specs.declared.command.PropertyChange.{PropertyChange}
use Rattle.smf_model.specs.declared.held.Instance.{Instance}
use Rattle.smf_model.specs.declared.held.Owner.{Owner}
use Rattle.smf_model.specs.declared.held.Owner.TheVariants as owners
use Rattle.smf_model.specs.Contents.{Holdings}
use Rattle.smf_model.specs.Look.{instance, service, instance_by_name}
use Rattle.smf_model.specs.GeneralGroup.{service_fmri}
use Rattle.smf_model.specs.Shown.{snapshot_number}
use Rattle.smf_snap.specs.declared.name.SnapshotName.{SnapshotName}
use Rattle.smf_snap.specs.Names.{name_from}
use Rattle.smf_svccfg.specs.declared.fault.CfgFault.{CfgFault}
use Rattle.smf_svccfg.specs.declared.fault.CfgFault.TheVariants.{NoSuch, ReadOnly}
use Rattle.smf_svccfg.specs.declared.fault.LineFault.{LineFault}
use Rattle.smf_svccfg.specs.declared.line.Line.{Line}
use Rattle.smf_svccfg.specs.declared.line.Line.TheVariants as lines
use Rattle.smf_svccfg.specs.declared.selection.Selection.{Selection}
use Rattle.smf_svccfg.specs.declared.selection.Selection.TheVariants as selected
use Rattle.smf_svccfg.specs.declared.selection.Judged.{Judged}
use Rattle.smf_svccfg.specs.declared.selection.Judged.TheVariants as judgements
use Rattle.smf_svccfg.specs.Lines.{name_in, line_of}
use Rattle.smf_svccfg.specs.Judged.{Concerns, Fits, Gives, IsAboveInstance, IsOwner, MaySelect, above_instance, added_instance, added_service, child, child_or, judgement_of_delete, delete_edit, entity, entity_by, instance_in, is_snapshot, judgement_of, judged_add, judged_add_group, judged_by, judged_delete_group, judged_line, judged_property, judged_revert, judged_select, judged_snapshot, judged_unselect, named_by, owner_of, present_instance, present_service, judged_print, read_service, revert_by_selection, reverting_by, reverting_to, snapshot_in, snapshot_named}

-- ---- what a word names is there

service_by : (v : Bool) (h : Holdings) (name : List ℕ) → is_some (service h name) ≡ v
    → IfSome (cond v (Some (owners.Service name)) None) (IsOwner h)
service_by true h name e = e
service_by false h name e = tt

service_present : (h : Holdings) (name : Option (List ℕ)) → IfSome (present_service h name) (IsOwner h)
service_present h None = tt
service_present h (Some name) = service_by _ h name refl

instance_by : (h : Holdings) (name : List ℕ) (i : Option Instance) → instance_by_name h name ≡ i
    → IfSome (option_map (λ j. owners.Instance j.number) i) (IsOwner h)
instance_by h name None e = tt
instance_by h name (Some i) e = (name, ap (option_map (λ j. j.number)) e)

instance_present : (h : Holdings) (name : Option (List ℕ)) → IfSome (present_instance h name) (IsOwner h)
instance_present h None = tt
instance_present h (Some name) = instance_by h name (instance_by_name h name) refl

child_present : (h : Holdings) (s : Selection) (word : List ℕ) → IfSome (child h s word) (IsOwner h)
child_present h selected.Nothing word = service_present h (read_service (short ++ word))
child_present h (selected.Service s) word = instance_present h (read_short (s ++ 58 ∷ word))
child_present h (selected.Instance n) word = tt
child_present h (selected.Snapshot n name) word = tt

either_present : (v : Bool) (h : Holdings) (a b : Option Owner) → IfSome a (IsOwner h) → IfSome b (IsOwner h)
    → IfSome (cond v a b) (IsOwner h)
either_present true h a b p q = p
either_present false h a b p q = q

entity_by_present : (h : Holdings) (r : Result (List ℕ) FmriFault) → IfSome (entity_by h r) (IsOwner h)
entity_by_present h (Ok name) =
    either_present (is_some (named_instance name)) h (present_instance h (named_instance name))
    (present_service h (named_service name))
    (instance_present h (named_instance name)) (service_present h (named_service name))
entity_by_present h (Err e) = tt

or_present : (h : Holdings) (a b : Option Owner) → IfSome a (IsOwner h) → IfSome b (IsOwner h)
    → IfSome (child_or a b) (IsOwner h)
or_present h (Some owner) b p q = p
or_present h None b p q = q

named_present : (h : Holdings) (s : Selection) (word : List ℕ) → IfSome (named_by h s word) (IsOwner h)
named_present h s word =
    or_present h (child h s word) (entity h word) (child_present h s word) (entity_by_present h (name_of_text word))

-- ---- lines that select

select_fits : (h : Holdings) (s : Selection) (found : Option Owner) → IfSome found (IsOwner h)
    → IfOk (judged_select found) (Fits h s)
select_fits h s None p = tt
select_fits h s (Some (owners.Service name)) p = inl p
select_fits h s (Some (owners.Instance n)) p = inl p

above_fits : (h : Holdings) (s : Selection) (n : ℕ) (i : Option Instance) → instance_in s ≡ Some n → instance h n ≡ i
    → MaySelect h s (above_instance i)
above_fits h s n None e f = tt
above_fits h s n (Some i) e f = inr (above_by (instance_in s) e)
  where
    above_by : (o : Option ℕ) → o ≡ Some n → IsAboveInstance h o (service_fmri i.name)
    above_by None g = absurd cc
    above_by (Some m) g = let same : m ≡ n = cc in rw same (ap (option_map (λ j. service_fmri j.name)) f)

unselect_fits : (h : Holdings) (s : Selection) → IfOk (judged_unselect h s) (Fits h s)
unselect_fits h selected.Nothing = tt
unselect_fits h (selected.Service s) = tt
unselect_fits h (selected.Instance n) = above_fits h (selected.Instance n) n (instance h n) refl refl
unselect_fits h (selected.Snapshot n name) = above_fits h (selected.Snapshot n name) n (instance h n) refl refl

named_fits : (v : Bool) (h : Holdings) (s : Selection) (n : ℕ) (name : SnapshotName) → instance_in s ≡ Some n
    → is_some (snapshot_number h n name) ≡ v
    → IfOk (cond {A = Result Judged CfgFault} v (Ok (judgements.Select (selected.Snapshot n name))) (Err NoSuch))
    (Fits h s)
named_fits true h s n name e f = (e, f)
named_fits false h s n name e f = tt

snapshot_named_fits : (h : Holdings) (s : Selection) (n : ℕ) (name : Option SnapshotName) → instance_in s ≡ Some n
    → IfOk (snapshot_named h n name) (Fits h s)
snapshot_named_fits h s n None e = tt
snapshot_named_fits h s n (Some name) e = named_fits _ h s n name e refl

snapshot_in_fits : (h : Holdings) (s : Selection) (n : ℕ) (word : Option (List ℕ)) → instance_in s ≡ Some n
    → IfOk (snapshot_in h n word) (Fits h s)
snapshot_in_fits h s n None e = inr e
snapshot_in_fits h s n (Some word) e = snapshot_named_fits h s n (name_from word) e

snapshot_fits : (h : Holdings) (s : Selection) (o : Option ℕ) (word : Option (List ℕ)) → instance_in s ≡ o
    → IfOk (judged_snapshot h o word) (Fits h s)
snapshot_fits h s None word e = tt
snapshot_fits h s (Some n) word e = snapshot_in_fits h s n word e

-- ---- edits

added_service_fits : (h : Holdings) (name : Option (List ℕ)) → IfOk (added_service name) (Fits h selected.Nothing)
added_service_fits h (Some name) = refl
added_service_fits h None = tt

added_instance_fits : (h : Holdings) (s : List ℕ) (name : Option (List ℕ))
    → IfOk (added_instance s name) (Fits h (selected.Service s))
added_instance_fits h s (Some name) = refl
added_instance_fits h s None = tt

add_fits : (h : Holdings) (s : Selection) (word : List ℕ) → IfOk (judged_add s word) (Fits h s)
add_fits h selected.Nothing word = added_service_fits h (read_service (short ++ word))
add_fits h (selected.Service s) word = added_instance_fits h s (name_in word)
add_fits h (selected.Instance n) word = tt
add_fits h (selected.Snapshot n name) word = tt

deleting_fits : (h : Holdings) (s : Selection) (owner : Owner) → IsOwner h owner → is_snapshot s ≡ false
    → Concerns h s (delete_edit owner)
deleting_fits h s (owners.Service name) p e = (p, e)
deleting_fits h s (owners.Instance n) p e = (p, e)

deleted_fits : (h : Holdings) (s : Selection) (found : Option Owner) → IfSome found (IsOwner h)
    → is_snapshot s ≡ false → IfOk (judgement_of_delete h s found) (Fits h s)
deleted_fits h s None p e = tt
deleted_fits h s (Some owner) p e = deleting_fits h s owner p e

delete_by : (v : Bool) (h : Holdings) (s : Selection) (found : Option Owner) → IfSome found (IsOwner h)
    → is_snapshot s ≡ v
    → IfOk (cond {A = Result Judged CfgFault} v (Err ReadOnly) (judgement_of_delete h s found)) (Fits h s)
delete_by true h s found p e = tt
delete_by false h s found p e = deleted_fits h s found p e

group_fits : (h : Holdings) (s : Selection) (o : Result Owner CfgFault) (name group_type : List ℕ) (p : Bool)
    → owner_of s ≡ o → IfOk (judged_add_group s o name group_type p) (Fits h s)
group_fits h s (Err f) name group_type p e = tt
group_fits h s (Ok owner) name group_type p e = e

delete_group_fits : (h : Holdings) (s : Selection) (o : Result Owner CfgFault) (name : List ℕ) → owner_of s ≡ o
    → IfOk (judged_delete_group s o name) (Fits h s)
delete_group_fits h s (Err f) name e = tt
delete_group_fits h s (Ok owner) name e = e

property_fits : (h : Holdings) (s : Selection) (o : Result Owner CfgFault) (group : List ℕ) (change : PropertyChange)
    → owner_of s ≡ o → IfOk (judged_property s o group change) (Fits h s)
property_fits h s (Err f) group change e = tt
property_fits h s (Ok owner) group change e = e

reverting_fits : (h : Holdings) (s : Selection) → IfOk (revert_by_selection s) (Fits h s)
reverting_fits h selected.Nothing = tt
reverting_fits h (selected.Service s) = tt
reverting_fits h (selected.Instance n) = refl
reverting_fits h (selected.Snapshot n name) = refl

reverting_to_fits : (h : Holdings) (s : Selection) (n : ℕ) (name : Option SnapshotName) → instance_in s ≡ Some n
    → IfOk (reverting_to s n name) (Fits h s)
reverting_to_fits h s n None e = tt
reverting_to_fits h s n (Some name) e = e

reverting_by_fits : (h : Holdings) (s : Selection) (o : Option ℕ) (word : List ℕ) → instance_in s ≡ o
    → IfOk (reverting_by s o word) (Fits h s)
reverting_by_fits h s None word e = tt
reverting_by_fits h s (Some n) word e = reverting_to_fits h s n (name_from word) e

revert_fits : (h : Holdings) (s : Selection) (word : Option (List ℕ)) → IfOk (judged_revert s word) (Fits h s)
revert_fits h s None = reverting_fits h s
revert_fits h s (Some word) = reverting_by_fits h s (instance_in s) word refl

-- ---- the whole

printed_fits : (h : Holdings) (s : Selection) (text : Option (List ℕ)) → IfOk (judged_print text) (Fits h s)
printed_fits h s None = tt
printed_fits h s (Some text) = tt

line_fits : (h : Holdings) (s : Selection) (line : Line) → IfOk (judged_line h s line) (Fits h s)
line_fits h s lines.Nothing = tt
line_fits h s (lines.Select word) = select_fits h s (named_by h s word) (named_present h s word)
line_fits h s (lines.Delete word) = delete_by (is_snapshot s) h s (named_by h s word) (named_present h s word) refl
line_fits h s lines.Unselect = unselect_fits h s
line_fits h s lines.List = tt
line_fits h s lines.ListGroups = printed_fits h s _
line_fits h s lines.ListProperties = printed_fits h s _
line_fits h s lines.ListSnapshots = printed_fits h s _
line_fits h s (lines.Add word) = add_fits h s word
line_fits h s (lines.AddGroup name group_type p) = group_fits h s (owner_of s) name group_type p refl
line_fits h s (lines.DeleteGroup name) = delete_group_fits h s (owner_of s) name refl
line_fits h s (lines.Property group change) = property_fits h s (owner_of s) group change refl
line_fits h s (lines.SelectSnapshot word) = snapshot_fits h s (instance_in s) word refl
line_fits h s (lines.Revert word) = revert_fits h s word
line_fits h s lines.End = tt

by_fits : (h : Holdings) (s : Selection) (r : Result Line LineFault) → IfOk (judged_by h s r) (Fits h s)
by_fits h s (Ok line) = line_fits h s line
by_fits h s (Err e) = tt

judged_fits : (h : Holdings) (s : Selection) (line : List ℕ) → IfOk (judgement_of h s line) (Fits h s)
unfolding judgement_of
judged_fits h s line = by_fits h s (line_of line)

given_fits : (P : Judged → Type 0) (r given : Result Judged CfgFault) → Gives r given → IfOk given P → IfOk r P
given_fits P (Ok j) given e p = let Q : Result Judged CfgFault → Type 0 = λ x. IfOk x P in subst Q e p
given_fits P (Err f) given e p = tt

pub comes_fit : (h : Holdings) (s : Selection) (line : List ℕ) (r : Result Judged CfgFault)
    → Gives r (judgement_of h s line) → IfOk r (Fits h s)
comes_fit h s line r e = given_fits (Fits h s) r (judgement_of h s line) e (judged_fits h s line)
