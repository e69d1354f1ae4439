-- Asks, launches and groups after a command that changes one of them.
use Rattle.std.proofs.Common.{◌≡◌, inl, inr, ℕ, ◌+◌, ◌<◌, ◌≤◌, ◌||◌, not, nat_eq, nat_lt, Bool, true, false, if◌then◌else◌, is_some, List, [], ◌∷◌, Option, Some, None, option_map, unwrap_or, Result, Ok, Err, refl, sym, ap, ◌∙◌, subst, arith, ltb-false, ltb-true}
use Rattle.std.specs.Cmp.Lexicographic.{pointwise}
use Rattle.smf_fmri.specs.ByKey.{Rises, lookup, list_with_item, without}
use Rattle.smf_fmri.proofs.Lookups.{lookup_put, with_answer_here, with_answer_other}
use Rattle.smf_fmri.proofs.Patterns.{same_text}
use Rattle.smf_fmri.proofs.SameLists.{found_key}
use Rattle.smf_state.specs.declared.state.State.TheVariants.{Degraded, Maintenance, Online}
use Rattle.smf_state.specs.Rows.{same_state}
use Rattle.smf_state.specs.States.{runs}
use Rattle.smf_value.specs.declared.fault.GroupFault.{GroupFault}
use Rattle.smf_value.specs.declared.fault.GroupFault.TheVariants as faults
use Rattle.smf_value.specs.Edits.{◌>>=◌, add_value, del, del_value, present_less, property_added, property_set, put_property, set}
use Rattle.smf_value.specs.Groups.{GroupRecord, PropertyRecord, by_group, by_property, property_of}
use Rattle.smf_model.specs.declared.change.Change.TheVariants.{PutInstance, PutLaunch}
use Rattle.smf_model.specs.declared.change.Outcome.{Outcome as Asked}
use Rattle.smf_model.specs.declared.command.Command.TheVariants as commands
use Rattle.smf_model.specs.declared.command.Mark.{Mark}
use Rattle.smf_model.specs.declared.command.Mark.TheVariants as marks
use Rattle.smf_model.specs.declared.command.PropertyChange.{PropertyChange}
use Rattle.smf_model.specs.declared.command.PropertyChange.TheVariants as properties
use Rattle.smf_model.specs.declared.command.CommandReply.TheVariants.{Denied, Done, Exists, InUse, Limit, Made, NoSuch, NotInState}
use Rattle.smf_model.specs.declared.held.Instance.{Instance}
use Rattle.smf_model.specs.declared.held.InstanceEntry.{InstanceEntry}
use Rattle.smf_model.specs.declared.held.Owner.{Owner}
use Rattle.smf_model.specs.declared.held.Owner.TheVariants as owners
use Rattle.smf_model.specs.declared.held.Service.{Service}
use Rattle.smf_model.specs.Contents.{Holdings}
use Rattle.smf_model.specs.Laws.{IsNumbered}
use Rattle.smf_model.specs.Look.{by_entry, by_instance, by_launch, holdings_after_change, group, group_in, groups_of, holdings_after_changes, instance, instances, launch_of, groups_if_there, put_over, service, with_groups}
use Rattle.smf_model.specs.Next.{acceptance_with, added_group, outcome_of_command, asked_clear, asked_edit, asked_if, asked_launch, asked_mark, asked_delete_group, asked_property, asked_restart, asked_where, instance_with_ask, if_general, changed_group, deleted_group, greatest, group_dropped, group_put, outcome_if_editable, has_room, is_made, is_there, outcome_of_mark, new_group, next, next_launch, property_changed, put_or_denied, refusal_with, with_owners}
use Rattle.smf_model.specs.GeneralGroup.{Groups, general}
use Rattle.smf_model.proofs.Entries.{bare_groups, bare_instance, lookup_bare}
use Rattle.smf_model.proofs.LawLists.{differs}
use Rattle.smf_laws.specs.Effects.{IsAsRead, instance_as_read}
use Rattle.smf_laws.specs.SingleChanges.{Becomes, IsGroupAdded, IsGroupChanged, IsGroupDeleted, IsGroupThen, IsLaunchAnswer, IsLaunched, IsNoted, adding_group, changing_group, clear_command, deleting_group, has_effect, mark_bit, mark_command, restart_command, without_properties}
use Rattle.smf_laws.proofs.EnableEdits.{group_gone, group_here, group_left, group_other, put_gives}
use Rattle.smf_laws.proofs.Outcomes.{Gives, Held, accepts, either, held_of, one_of, owned_apart, owned_here, owned_put, put_apart, put_there, refuses, reply_accepted}
use Rattle.smf_laws.proofs.OwnerWrites.{as_read, gives_owners, groups_written, owned_written, written_then}

-- ---- asks

abbrev put_one : Holdings → Instance → Holdings
put_one h x = record (holdings_after_change h (PutInstance x)) { revision = h.revision + 1 }

becomes : (h : Holdings) (n : ℕ) (i x : Instance) → Held h n i → x.number ≡ i.number → Becomes i x h (put_one h x)
becomes h n i x it at =
    let held : instance h i.number ≡ Some it.before = ap (instance h) it.number ∙ it.is_there in
    let over : instances (put_one h x) ≡ put_over x (instances h) = bare_instance x h.instances in
    record {
      is_there = ap (λ (is : List Instance). lookup by_instance is i.number) over
          ∙ put_there x it.before i.number (instances h) at held;
      others = λ m apart. ap (λ (is : List Instance). lookup by_instance is m) over
          ∙ put_apart x m (instances h) (λ same. apart (same ∙ at));
      groups = λ owner. owned_put h x owner;
      rest = refl;
    }

abbrev Notes : Bool → ℕ → Instance → Holdings → Holdings → Type 0
Notes b bit i h k = IsNoted b bit i h k

notes_it : (h : Holdings) (n : ℕ) (i : Instance) (bit : ℕ) → Held h n i
    → Gives h Done (Notes true bit i h) (acceptance_with h (PutInstance (instance_with_ask i bit) ∷ []) Done)
unfolding holdings_after_changes
notes_it h n i bit it =
    accepts h Done (Notes true bit i h) (PutInstance (instance_with_ask i bit) ∷ []) Done refl
    (λ same. becomes h n i (instance_with_ask i bit) it refl)

notes_if : (h : Holdings) (n : ℕ) (i : Instance) (b : Bool) (bit : ℕ) → Held h n i
    → Gives h Done (Notes b bit i h) (asked_if h b i bit)
unfolding holdings_after_changes
notes_if h n i true bit it = notes_it h n i bit it
notes_if h n i false bit it = accepts h Done (Notes false bit i h) [] Done refl (λ same. refl)

notes_where : (h : Holdings) (n : ℕ) (i : Instance) (b : Bool) (bit : ℕ) → Held h n i
    → Gives h Done (Notes true bit i h) (asked_where h b i bit)
notes_where h n i true bit it = notes_it h n i bit it
notes_where h n i false bit it = refuses h Done (Notes true bit i h) NotInState refl refl

pub restart_noted : (h : Holdings) (n : ℕ) (i : Instance) → instance_as_read h n ≡ Some i
    → (next h (restart_command n)).1 ≡ Done → IsNoted (runs i.row.state) 16 i h (next h (restart_command n)).0
unfolding next outcome_of_command asked_edit with_owners
restart_noted h n i e =
    subst (λ (o : Option Instance). Gives h Done (Notes (runs i.row.state) 16 i h) (asked_restart h o)) (sym e)
    (notes_if h n i (runs i.row.state) 16 (held_of h n i e))

pub clear_noted : (h : Holdings) (n : ℕ) (i : Instance) → instance_as_read h n ≡ Some i
    → (next h (clear_command n)).1 ≡ Done → IsNoted true 32 i h (next h (clear_command n)).0
unfolding next outcome_of_command asked_edit with_owners
clear_noted h n i e =
    subst (λ (o : Option Instance). Gives h Done (Notes true 32 i h) (asked_clear h o)) (sym e)
    (notes_where h n i (same_state i.row.state Maintenance || same_state i.row.state Degraded) 32 (held_of h n i e))

marks_it : (h : Holdings) (n : ℕ) (mark : Mark) (i : Instance) → Held h n i
    → Gives h Done (Notes (has_effect mark i.row) (mark_bit mark) i h) (outcome_of_mark h mark i)
marks_it h n marks.Degraded i it = notes_where h n i (same_state i.row.state Online) 64 it
marks_it h n marks.Maintenance i it = notes_if h n i (not (same_state i.row.state Maintenance)) 2 it
marks_it h n marks.MaintenanceNow i it = notes_if h n i (not (same_state i.row.state Maintenance)) 1 it

pub mark_noted : (h : Holdings) (n : ℕ) (mark : Mark) (i : Instance) → instance_as_read h n ≡ Some i
    → (next h (mark_command n mark)).1 ≡ Done
    → IsNoted (has_effect mark i.row) (mark_bit mark) i h (next h (mark_command n mark)).0
unfolding next outcome_of_command asked_edit with_owners
mark_noted h n mark i e =
    subst (λ (o : Option Instance). Gives h Done (Notes (has_effect mark i.row) (mark_bit mark) i h)
    (asked_mark h mark o)) (sym e) (marks_it h n mark i (held_of h n i e))

-- ---- launches

made_same : (m n : ℕ) → Made m ≡ Made n → m ≡ n
made_same m n e = cc

abbrev Launches : List ℕ → ℕ → Holdings → Holdings → Type 0
Launches name n h k = IsLaunched name n h k

abbrev launched : Holdings → List ℕ → Holdings
launched h name =
    record h { launches = list_with_item by_launch (next_launch h name) h.launches; revision = h.revision + 1 }

is_launched : (h : Holdings) (name : List ℕ) → IsLaunched name (launch_of h name + 1) h (launched h name)
is_launched h name = record {
  counted = refl;
  is_there = lookup_put by_launch (next_launch h name) h.launches name
      ∙ with_answer_here by_launch (lookup by_launch h.launches) name (Some (next_launch h name));
  others = λ other apart. lookup_put by_launch (next_launch h name) h.launches other
      ∙ with_answer_other by_launch (lookup by_launch h.launches) name (Some (next_launch h name)) other
      (differs by_launch name other (λ same. apart (sym same)));
  rest = refl;
}

pub launch_counted : (h : Holdings) (name : List ℕ) (n : ℕ) → (next h (commands.Launch name)).1 ≡ Made n
    → IsLaunched name n h (next h (commands.Launch name)).0
unfolding next outcome_of_command asked_launch holdings_after_changes
launch_counted h name n =
    either h (Made n) (Launches name n h) (nat_lt (launch_of h name) greatest) _ _
    (λ e. accepts h (Made n) (Launches name n h) (PutLaunch (next_launch h name) ∷ [])
    (Made (launch_of h name + 1)) refl
    (λ same. subst (λ (m : ℕ). IsLaunched name m h (launched h name)) (made_same (launch_of h name + 1) n same)
    (is_launched h name)))
    (λ e. refuses h (Made n) (Launches name n h) Limit refl refl)

no_more : (m n : ℕ) → nat_lt m n ≡ false → m < n → ⊥
no_more m n e low = (let high : n ≤ m = ltb-false m n e in omega arith)

pub launch_answered : (h : Holdings) (name : List ℕ) → IsLaunchAnswer name h (next h (commands.Launch name)).1
unfolding next outcome_of_command asked_launch
launch_answered h name =
    one_of (IsLaunchAnswer name h) (nat_lt (launch_of h name) greatest)
    (acceptance_with h (PutLaunch (next_launch h name) ∷ []) (Made (launch_of h name + 1))) (refusal_with Limit)
    (λ e. reply_accepted (IsLaunchAnswer name h) h (PutLaunch (next_launch h name) ∷ []) (Made (launch_of h name + 1))
    (λ f. inl (
      refl,
      record { launch = ltb-true (launch_of h name) greatest e; revision = ltb-true h.revision greatest f },
    ))
    (λ f. inr (refl, λ m. no_more h.revision greatest f m.revision)))
    (λ e. inr (refl, λ m. no_more (launch_of h name) greatest e m.launch))

-- ---- groups

owned_service : (o : Option Service) → is_some o ≡ true → (gs : List GroupRecord)
    × (option_map (λ (s : Service). s.groups) o ≡ Some gs)
owned_service None e = absurd cc
owned_service (Some s) e = (s.groups, refl)

owned_there : (h : Holdings) (owner : Owner) → is_there h owner ≡ true
    → (gs : List GroupRecord) × (groups_if_there h owner ≡ Some gs)
owned_there h (owners.Service name) e = owned_service (service h name) e
owned_there h (owners.Instance n) e =
    by (lookup by_entry h.instances n) (sym (ap (λ (o : Option Instance). is_some o) (lookup_bare h.instances n)) ∙ e)
  where
    by : (o : Option InstanceEntry) → is_some (option_map (λ (x : InstanceEntry). x.instance) o) ≡ true
        → (gs : List GroupRecord) × (option_map (λ (x : InstanceEntry). x.groups) o ≡ Some gs)
    by None f = absurd cc
    by (Some x) f = (x.groups, refl)

groups_put : (h : Holdings) (owner : Owner) (gs : List GroupRecord) → is_there h owner ≡ true
    → groups_of (with_groups h gs owner) owner ≡ gs
unfolding groups_of
groups_put h owner gs e =
    ap (λ (o : Option (List GroupRecord)). unwrap_or o [])
    (owned_here h owner gs
    ∙ ap (λ (o : Option (List GroupRecord)). option_map (λ (x : List GroupRecord). gs) o) (owned_there h owner e).1)

abbrev grouped : Holdings → Owner → List GroupRecord → Holdings
grouped h owner gs = record (with_groups h gs owner) { revision = h.revision + 1 }

-- the rows stay, and so does all else
kept_rows : (h : Holdings) (owner : Owner) (gs : List GroupRecord) → instances (grouped h owner gs) ≡ instances h
kept_rows h (owners.Service name) gs = refl
kept_rows h (owners.Instance n) gs = bare_groups n gs h.instances

kept_rest : (h : Holdings) (owner : Owner) (gs : List GroupRecord)
    → grouped h owner gs
    ≡ record h {
      services = (grouped h owner gs).services;
      instances = (grouped h owner gs).instances;
      revision = h.revision + 1;
    }
kept_rest h (owners.Service name) gs = refl
kept_rest h (owners.Instance n) gs = refl

revised_groups : (h : Holdings) (owner other : Owner) (gs : List GroupRecord)
    → groups_if_there (grouped h owner gs) other ≡ groups_if_there (with_groups h gs owner) other
revised_groups h owner (owners.Service name) gs = refl
revised_groups h owner (owners.Instance n) gs = refl

groups_then : (h : Holdings) (owner : Owner) (gs : List GroupRecord) → is_there h owner ≡ true
    → groups_of (grouped h owner gs) owner ≡ gs
unfolding groups_of
groups_then h owner gs e = ap (λ (o : Option (List GroupRecord)). unwrap_or o []) (revised_groups h owner owner gs)
    ∙ groups_put h owner gs e

-- the group of a name of one owner is o, and nothing else is changed
pub record HasGroup (owner : Owner) (name : List ℕ) (o : Option GroupRecord) (h k : Holdings) : Type 0 where
  pub is_so : group k owner name ≡ o
  pub other_groups : (other : List ℕ) → (other ≡ name → ⊥) → group k owner other ≡ group h owner other
  pub other_owners : (other : Owner) → (other ≡ owner → ⊥) → groups_if_there k other ≡ groups_if_there h other
  pub rows : instances k ≡ instances h
  pub rest : k ≡ record h { services = k.services; instances = k.instances; revision = h.revision + 1 }

is_then : (h : Holdings) (owner : Owner) (name : List ℕ) (gs : List GroupRecord) (o : Option GroupRecord)
    → is_there h owner ≡ true → group_in gs name ≡ o
    → ((other : List ℕ) → (other ≡ name → ⊥) → group_in gs other ≡ group h owner other)
    → HasGroup owner name o h (grouped h owner gs)
is_then h owner name gs o there e others = record {
  is_so = ap (λ (l : List GroupRecord). group_in l name) (groups_then h owner gs there) ∙ e;
  other_groups = λ other apart. ap (λ (l : List GroupRecord). group_in l other) (groups_then h owner gs there)
      ∙ others other apart;
  other_owners = λ other apart. revised_groups h owner other gs ∙ owned_apart h owner other gs apart;
  rows = kept_rows h owner gs;
  rest = kept_rest h owner gs;
}

puts_group : (h : Holdings) (owner : Owner) (name : List ℕ) (g : GroupRecord) → is_there h owner ≡ true
    → g.name ≡ name → HasGroup owner name (Some g) h (grouped h owner (list_with_item by_group g (groups_of h owner)))
puts_group h owner name g there named =
    is_then h owner name (list_with_item by_group g (groups_of h owner)) (Some g) there
    (group_here g (groups_of h owner) name named)
    (λ other apart. group_other g (groups_of h owner) name other named apart)

drops_group : (h : Holdings) (owner : Owner) (name : List ℕ) → is_there h owner ≡ true
    → HasGroup owner name None h (grouped h owner (without by_group name (groups_of h owner)))
drops_group h owner name there =
    is_then h owner name (without by_group name (groups_of h owner)) None there (group_gone (groups_of h owner) name)
    (λ other apart. group_left (groups_of h owner) name other apart)

-- no row is written
unwritten_then : (h k : Holdings) (owner : Owner) (name : List ℕ) (o : Option GroupRecord) → HasGroup owner name o h k
    → IsGroupThen owner name o h k
unwritten_then h k owner name o g = record {
  is_so = g.is_so;
  other_groups = g.other_groups;
  other_owners = g.other_owners;
  rows = λ numbered n. inl (ap (λ (is : List Instance). lookup by_instance is n) g.rows);
  other_rows = λ apart. g.rows;
  rest = g.rest;
}

-- owners are written, since the group names restarters
named_then : (h k : Holdings) (owner : Owner) (name : List ℕ) (o : Option GroupRecord) → name ≡ general
    → (IsNumbered h → Rises by_instance (instances k)) → HasGroup owner name o h k
    → IsGroupThen owner name o h (written_then k owner)
named_then h k owner name o same rises g = record {
  is_so = ap (λ (gs : Groups). group_in (gs owner) name) (groups_written k owner) ∙ g.is_so;
  other_groups = λ other apart. ap (λ (gs : Groups). group_in (gs owner) other) (groups_written k owner)
      ∙ g.other_groups other apart;
  other_owners = λ other apart. owned_written k owner other ∙ g.other_owners other apart;
  rows = λ numbered n.
      subst (λ (p : Option Instance). IsAsRead (written_then k owner) p (instance (written_then k owner) n))
      (ap (λ (is : List Instance). lookup by_instance is n) g.rows) (as_read k owner n (rises numbered));
  other_rows = λ apart. absurd (apart same);
  rest = ap (λ (l : Holdings). let written : Holdings = record l { instances = (written_then k owner).instances } in
      written) g.rest;
}

-- the owner whose instances are written is that of the group `general`
general_by : (owner other : Owner) (name : List ℕ) (b : Bool) → pointwise nat_eq name general ≡ b
    → (if b then Some owner else None) ≡ Some other → (name ≡ general) × (owner ≡ other)
general_by owner other name true e f = ((same_text name general).0 e, cc)
general_by owner other name false e f = absurd cc

pub is_general : (owner other : Owner) (name : List ℕ) → if_general owner name ≡ Some other
    → (name ≡ general) × (owner ≡ other)
is_general owner other name e = general_by owner other name (pointwise nat_eq name general) refl e

written_so : (h k : Holdings) (owner other : Owner) (name : List ℕ) (o : Option GroupRecord)
    → if_general owner name ≡ Some other → (IsNumbered h → Rises by_instance (instances k))
    → HasGroup owner name o h k → IsGroupThen owner name o h (written_then k other)
written_so h k owner other name o e rises g =
    let is = is_general owner other name e in
    subst (λ (x : Owner). IsGroupThen owner name o h (written_then k x)) is.1 (named_then h k owner name o is.0 rises g)

not_false : (b : Bool) → not b ≡ false → b ≡ true
not_false true e = refl
not_false false e = absurd cc

guards : (h : Holdings) (Q : Holdings → Type 0) (owner : Owner) (name : List ℕ) (a : Asked)
    → (is_there h owner ≡ true → Gives h Done Q a) → Gives h Done Q (outcome_if_editable h owner name a)
guards h Q owner name a rest =
    either h Done Q (not (is_there h owner)) (refusal_with NoSuch)
    (if is_made owner name then refusal_with InUse else a)
    (λ e. refuses h Done Q NoSuch refl refl)
    (λ e. either h Done Q (is_made owner name) (refusal_with InUse) a (λ f. refuses h Done Q InUse refl refl)
    (λ f. rest (not_false (is_there h owner) e)))

adds_group : (h : Holdings) (owner : Owner) (g : GroupRecord) (o : Option GroupRecord) → is_there h owner ≡ true
    → group h owner g.name ≡ o → Gives h Done (IsGroupAdded owner g h) (added_group h owner g o)
unfolding holdings_after_changes
adds_group h owner g (Some x) there e = refuses h Done (IsGroupAdded owner g h) Exists refl refl
adds_group h owner g None there e =
    either h Done (IsGroupAdded owner g h) (has_room h owner g.name g.name) _ _
    (λ f. accepts h Done (IsGroupAdded owner g h) (group_put h owner g ∷ []) Done refl
    (λ same. (let has = puts_group h owner g.name g there refl in
    record {
      was_free = e;
      then_there = unwritten_then h (grouped h owner (list_with_item by_group g (groups_of h owner))) owner g.name
          (Some g) has;
      rows = has.rows;
    })))
    (λ f. refuses h Done (IsGroupAdded owner g h) Limit refl refl)

pub group_added : (h : Holdings) (owner : Owner) (name group_type : List ℕ) (p : Bool)
    → (next h (adding_group owner name group_type p)).1 ≡ Done
    → IsGroupAdded owner (without_properties name group_type p) h (next h (adding_group owner name group_type p)).0
unfolding next outcome_of_command asked_edit with_owners
group_added h owner name group_type p =
    guards h (IsGroupAdded owner (new_group name group_type p) h) owner name
    (added_group h owner (new_group name group_type p) (group h owner name))
    (λ there. adds_group h owner (new_group name group_type p) (group h owner name) there refl)

-- the group was there, and is gone
pub record HasLost (owner : Owner) (name : List ℕ) (h k : Holdings) : Type 0 where
  pub was_there : (g : GroupRecord) × (group h owner name ≡ Some g)
  pub then_gone : HasGroup owner name None h k

deletes_group : (h : Holdings) (owner : Owner) (name : List ℕ) (o : Option GroupRecord) → is_there h owner ≡ true
    → group h owner name ≡ o → Gives h Done (HasLost owner name h) (deleted_group h owner name o)
unfolding holdings_after_changes
deletes_group h owner name None there e = refuses h Done (HasLost owner name h) NoSuch refl refl
deletes_group h owner name (Some g) there e =
    accepts h Done (HasLost owner name h) (group_dropped h owner name ∷ []) Done refl
    (λ same. record { was_there = (g, e); then_gone = drops_group h owner name there })

pub loses_group : (h : Holdings) (owner : Owner) (name : List ℕ)
    → Gives h Done (HasLost owner name h) (asked_delete_group h owner name)
loses_group h owner name =
    guards h (HasLost owner name h) owner name (deleted_group h owner name (group h owner name))
    (λ there. deletes_group h owner name (group h owner name) there refl)

pub group_deleted : (h : Holdings) (owner : Owner) (name : List ℕ) → (next h (deleting_group owner name)).1 ≡ Done
    → IsGroupDeleted owner name h (next h (deleting_group owner name)).0
unfolding next outcome_of_command asked_edit
group_deleted h owner name =
    gives_owners h (HasLost owner name h) (IsGroupDeleted owner name h) (if_general owner name)
    (asked_delete_group h owner name) (loses_group h owner name)
    (λ k none p. record { was_there = p.was_there; then_gone = unwritten_then h k owner name None p.then_gone })
    (λ k other e rises p. record {
      was_there = p.was_there;
      then_gone = written_so h k owner other name None e rises p.then_gone;
    })

-- a change keeps the name of a group
put_named : (r : Result PropertyRecord GroupFault) (old g : GroupRecord) → (r >>= (λ p. put_property p old)) ≡ Ok g
    → g.name ≡ old.name
put_named (Err fault) old g e = absurd cc
put_named (Ok p) old g e = sym (ap (λ (x : GroupRecord). x.name) (put_gives p old g e))

del_named : (name : List ℕ) (old g : GroupRecord) → del name old ≡ Ok g → g.name ≡ old.name
unfolding del
del_named name old g e = by (is_some (property_of name old)) e
  where
    by : (b : Bool)
        → (if b then Ok (record old { properties = without by_property name old.properties }) else Err faults.NoSuch)
        ≡ Ok g → g.name ≡ old.name
    by true f = (let same : record old { properties = without by_property name old.properties } ≡ g = cc in
        sym (ap (λ (x : GroupRecord). x.name) same))
    by false f = absurd cc

change_named : (change : PropertyChange) (old g : GroupRecord) → property_changed change old ≡ Ok g → g.name ≡ old.name
unfolding set add_value del_value
change_named (properties.Set name kind values) old g e =
    put_named (property_set name kind values (property_of name old)) old g e
change_named (properties.AddValue name kind value) old g e =
    put_named (property_added name kind value (property_of name old)) old g e
change_named (properties.DeleteValue name value) old g e = put_named (present_less value (property_of name old)) old g e
change_named (properties.Delete name) old g e = del_named name old g e

-- the group is what the change makes of it
pub record HasChanged (owner : Owner) (name : List ℕ) (change : PropertyChange) (h k : Holdings) : Type 0 where
  pub before : GroupRecord
  pub after : GroupRecord
  pub was_there : group h owner name ≡ Some before
  pub changed : property_changed change before ≡ Ok after
  pub then_so : HasGroup owner name (Some after) h k

puts_changed : (h : Holdings) (owner : Owner) (name : List ℕ) (change : PropertyChange) (old : GroupRecord)
    (r : Result GroupRecord GroupFault) → is_there h owner ≡ true → group h owner name ≡ Some old
    → property_changed change old ≡ r
    → Gives h Done (HasChanged owner name change h) (put_or_denied h owner r)
unfolding holdings_after_changes
puts_changed h owner name change old (Err fault) there e f =
    refuses h Done (HasChanged owner name change h) (Denied fault) refl refl
puts_changed h owner name change old (Ok g) there e f =
    accepts h Done (HasChanged owner name change h) (group_put h owner g ∷ []) Done refl
    (λ same. record {
      before = old;
      after = g;
      was_there = e;
      changed = f;
      then_so = puts_group h owner name g there
          (change_named change old g f ∙ found_key by_group name (groups_of h owner) old e);
    })

changes_group : (h : Holdings) (owner : Owner) (name : List ℕ) (change : PropertyChange) (o : Option GroupRecord)
    → is_there h owner ≡ true → group h owner name ≡ o
    → Gives h Done (HasChanged owner name change h) (changed_group h owner change o)
changes_group h owner name change None there e = refuses h Done (HasChanged owner name change h) NoSuch refl refl
changes_group h owner name change (Some g) there e =
    puts_changed h owner name change g (property_changed change g) there e refl

pub changes_to : (h : Holdings) (owner : Owner) (name : List ℕ) (change : PropertyChange)
    → Gives h Done (HasChanged owner name change h) (asked_property h owner name change)
changes_to h owner name change =
    guards h (HasChanged owner name change h) owner name (changed_group h owner change (group h owner name))
    (λ there. changes_group h owner name change (group h owner name) there refl)

pub group_changed : (h : Holdings) (owner : Owner) (name : List ℕ) (change : PropertyChange)
    → (next h (changing_group owner name change)).1 ≡ Done
    → IsGroupChanged owner name change h (next h (changing_group owner name change)).0
unfolding next outcome_of_command asked_edit
group_changed h owner name change =
    gives_owners h (HasChanged owner name change h) (IsGroupChanged owner name change h) (if_general owner name)
    (asked_property h owner name change) (changes_to h owner name change)
    (λ k none p. record {
      before = p.before;
      after = p.after;
      was_there = p.was_there;
      changed = p.changed;
      then_so = unwritten_then h k owner name (Some p.after) p.then_so;
    })
    (λ k other e rises p. record {
      before = p.before;
      after = p.after;
      was_there = p.was_there;
      changed = p.changed;
      then_so = written_so h k owner other name (Some p.after) e rises p.then_so;
    })
