-- Services, instances and groups that are added, changed or deleted keep the rules of a value.
use Rattle.std.proofs.Common.{◌≡◌, ℕ, ◌+◌, ◌≤◌, not, nat_le, nat_lt, Bool, true, false, cond, if◌then◌else◌, List, [], ◌∷◌, ◌++◌, Option, Some, None, is_some, IsSome, Result, Ok, Err, refl, sym, ap, ◌∙◌, arith, leb-true}
use Rattle.std.specs.List.{list_any}
use Rattle.std.specs.Prelude.{unwrap_or}
use Rattle.smf_fmri.specs.ByKey.{lookup, list_with_item as put_in, without}
use Rattle.smf_fmri.specs.Patterns.{IsInstanceName, IsServiceName, read_short}
use Rattle.smf_fmri.proofs.SameLists.{found_key}
use Rattle.smf_state.specs.declared.state.State.TheVariants.{Maintenance, Online}
use Rattle.smf_state.specs.Rows.{same_state}
use Rattle.smf_value.specs.declared.fault.GroupFault.{GroupFault}
use Rattle.smf_value.specs.declared.fault.GroupFault.TheVariants as faults
use Rattle.smf_value.specs.Edits.{◌>>=◌, add_value, del, del_value, present_less, property_added, property_set, put_property, set}
use Rattle.smf_value.specs.Groups.{GroupRecord, PropertyRecord, by_group, by_property, property_of}
use Rattle.smf_model.specs.declared.change.Change.TheVariants.{AddService, DropService, AddInstance, PutInstance, PutName, PutGroups}
use Rattle.smf_model.specs.declared.change.Outcome.{Outcome}
use Rattle.smf_model.specs.declared.command.Mark.{Mark}
use Rattle.smf_model.specs.declared.command.Mark.TheVariants as marks
use Rattle.smf_model.specs.declared.command.PropertyChange.{PropertyChange}
use Rattle.smf_model.specs.declared.command.PropertyChange.TheVariants as properties
use Rattle.smf_model.specs.declared.command.CommandReply.TheVariants.{Made, Done, NoSuch, InUse, NotInState, Exists, Denied, Limit}
use Rattle.smf_model.specs.declared.held.Instance.{Instance}
use Rattle.smf_model.specs.declared.held.Owner.{Owner}
use Rattle.smf_model.specs.declared.held.Owner.TheVariants as owners
use Rattle.smf_model.specs.declared.held.Service.{Service}
use Rattle.smf_model.specs.Contents.{Holdings}
use Rattle.smf_model.specs.Look.{by_service, holdings_after_change, group, groups_of, holdings_after_changes, instances, instance_by_name, service}
use Rattle.smf_model.specs.Next.{acceptance_with, added_at, added_group, added_named, asked_add_instance, asked_add_service, asked_delete_instance, asked_delete_service, asked_enable, asked_if, asked_where, instance_with_ask, changed_group, deleted_group, enabled_for_good, enabled_for_now, enabled_property, enabling_of, greatest_instance, group_enabled, group_or_new, group_put, outcome_if_editable, has_room, is_in_use, is_instance_of, is_made, is_there, changes_for_addition, changes_for_deletion, outcome_of_mark, new_entry, new_group, new_instance, new_name, property_changed, put_or_denied, refusal_with}
use Rattle.smf_model.specs.GeneralGroup.{framework, general, general_ovr, service_fmri}
use Rattle.smf_laws.specs.Consistent.{AreOwned, IsConsistent, IsInstanceHeld}
use Rattle.smf_laws.proofs.CommandChanges.{IsFound, Keeps, accepts, accepts_none, accepts_one, either, groups_put, owned_of, refuses, with_row_held}
use Rattle.smf_laws.proofs.Dropped.{instance_dropped, service_dropped}
use Rattle.smf_laws.proofs.Held.{Follows, instance_added, instance_put, name_put, next_instance_set, service_added}
use Rattle.smf_laws.proofs.Named.{service_of_joined}
use Rattle.smf_laws.proofs.Owned.{none_owned, owned_instead, owned_over, owned_put, owned_without}
use Rattle.smf_model.specs.Laws.{IsNumbered}

-- ---- services

pub adds_service : (h : Holdings) (name : List ℕ) (o : Option Service) → IsConsistent h → IsServiceName name
    → Keeps h (asked_add_service h name o)
adds_service h name (Some s) c is = refuses h Exists c
adds_service h name None c is =
    let s : Service = record { name = name; groups = [] } in
    accepts_one h (AddService s) Done c (service_added h s c (record { named = is; groups = none_owned }))

dropped_one : (h : Holdings) (name : List ℕ) → IsConsistent (holdings_after_change h (DropService name))
    → IsConsistent (holdings_after_changes h (DropService name ∷ []))
unfolding holdings_after_changes
dropped_one h name c = c

pub deletes_service : (h : Holdings) (o : Option Service) → IsConsistent h → Keeps h (asked_delete_service h o)
deletes_service h None c = refuses h NoSuch c
deletes_service h (Some s) c = by (list_any (is_instance_of s.name) (instances h)) refl
  where
    by : (b : Bool) → list_any (is_instance_of s.name) (instances h) ≡ b
        → Keeps h (if b then refusal_with InUse else acceptance_with h (DropService s.name ∷ []) Done)
    by true e = refuses h InUse c
    by false e = accepts h (DropService s.name ∷ []) Done c (dropped_one h s.name (service_dropped h s.name c e))

-- ---- instances

some_there : {X : Type 0} (o : Option X) (x : X) → o ≡ Some x → IsSome o
some_there None x e = absurd cc
some_there (Some y) x e = refl

-- a new instance has no run, no launch and no snapshot
new_held : (h : Holdings) (name : List ℕ) → IsInstanceName name → IsSome (service h (service_fmri name))
    → IsInstanceHeld h (new_instance h name)
new_held h name is there = record {
  named = is;
  of_service = there;
  bounded = record { live = tt; side = tt; last = omega arith; number = omega arith; serial = omega arith };
  launched = record { given = omega arith; first = λ e. refl };
  snapshots = record { start = tt; previous = tt; running = tt; begun = tt };
}

joins : (h : Holdings) (name : List ℕ) → IsConsistent h → IsInstanceHeld h (new_instance h name)
    → h.next_instance ≤ greatest_instance → IsConsistent (holdings_after_changes h (changes_for_addition h name))
unfolding holdings_after_changes
joins h name c held low =
    let one : Follows h (holdings_after_change h (AddInstance (new_entry h name))) =
    instance_added h (new_entry h name) c held none_owned in
    let h1 : Holdings = holdings_after_change h (AddInstance (new_entry h name)) in
    let two : Follows h1 (holdings_after_change h1 (PutName (new_name h name))) =
    name_put h1 (new_name h name) one.consistent in
    (next_instance_set (holdings_after_change h1 (PutName (new_name h name))) (h.next_instance + 1) two.consistent
    (omega arith)).consistent

adds_at : (h : Holdings) (name : List ℕ) (o : Option Instance) → IsConsistent h
    → IsInstanceHeld h (new_instance h name) → Keeps h (added_at h name o)
adds_at h name (Some i) c held = refuses h Exists c
adds_at h name None c held = by (nat_le h.next_instance greatest_instance) refl
  where
    by : (b : Bool) → nat_le h.next_instance greatest_instance ≡ b
        → Keeps h (if b then acceptance_with h (changes_for_addition h name) (Made h.next_instance)
        else refusal_with Limit)
    by true e = accepts h (changes_for_addition h name) (Made h.next_instance) c
        (joins h name c held (leb-true h.next_instance greatest_instance e))
    by false e = refuses h Limit c

adds_named : (h : Holdings) (t name : List ℕ) (s : Service) (o : Option (List ℕ)) → IsConsistent h
    → service h t ≡ Some s → read_short (s.name ++ 58 ∷ name) ≡ o → Keeps h (added_named h o)
adds_named h t name s None c there e = refuses h Limit c
adds_named h t name s (Some whole) c there e =
    let is = service_of_joined s.name name whole (c.services t s there).named e in
    let key : service_fmri whole ≡ t = is.1 ∙ found_key by_service t h.services s there in
    adds_at h whole (instance_by_name h whole) c
    (new_held h whole is.0 (some_there (service h (service_fmri whole)) s (ap (service h) key ∙ there)))

pub adds_instance : (h : Holdings) (t name : List ℕ) (o : Option Service) → IsConsistent h → service h t ≡ o
    → Keeps h (asked_add_instance h name o)
adds_instance h t name None c e = refuses h NoSuch c
adds_instance h t name (Some s) c e = adds_named h t name s (read_short (s.name ++ 58 ∷ name)) c e refl

leaves : (h : Holdings) (i : Instance) → IsNumbered h → IsConsistent h
    → IsConsistent (holdings_after_changes h (changes_for_deletion i))
unfolding holdings_after_changes
leaves h i b c = instance_dropped h i.number i.name c b.ordered.snapshots

pub deletes_instance : (h : Holdings) (o : Option Instance) → IsNumbered h → IsConsistent h
    → Keeps h (asked_delete_instance h o)
deletes_instance h None b c = refuses h NoSuch c
deletes_instance h (Some i) b c =
    either h (is_in_use i.row) _ _ (refuses h InUse c) (accepts h (changes_for_deletion i) Done c (leaves h i b c))

-- ---- groups

pub guards : (h : Holdings) (owner : Owner) (name : List ℕ) (a : Outcome) → IsConsistent h → Keeps h a
    → Keeps h (outcome_if_editable h owner name a)
guards h owner name a c p =
    either h (not (is_there h owner)) _ _ (refuses h NoSuch c) (either h (is_made owner name) _ _ (refuses h InUse c) p)

accepts_groups : (h : Holdings) (owner : Owner) (gs : List GroupRecord) → IsConsistent h → AreOwned gs
    → Keeps h (acceptance_with h (PutGroups owner gs ∷ []) Done)
accepts_groups h owner gs c owned = accepts_one h (PutGroups owner gs) Done c (groups_put h owner gs c owned)

pub adds_group : (h : Holdings) (owner : Owner) (g : GroupRecord) (o : Option GroupRecord) → IsConsistent h
    → Keeps h (added_group h owner g o)
adds_group h owner g (Some there) c = refuses h Exists c
adds_group h owner g None c = by (has_room h owner g.name g.name) refl
  where
    by : (b : Bool) → has_room h owner g.name g.name ≡ b
        → Keeps h (if b then acceptance_with h (group_put h owner g ∷ []) Done else refusal_with Limit)
    by true e = accepts_groups h owner (put_in by_group g (groups_of h owner)) c
        (owned_put g g.name (groups_of h owner) (owned_of h owner c) refl e)
    by false e = refuses h Limit c

pub deletes_group : (h : Holdings) (owner : Owner) (name : List ℕ) (o : Option GroupRecord) → IsConsistent h
    → Keeps h (deleted_group h owner name o)
deletes_group h owner name None c = refuses h NoSuch c
deletes_group h owner name (Some g) c =
    accepts_groups h owner (without by_group name (groups_of h owner)) c
    (owned_without name (groups_of h owner) (owned_of h owner c))

-- ---- a group that is changed keeps its name

abbrev given : {A : Type 0} → A → Result A GroupFault
given x = Ok x

given_is : {A : Type 0} (x y : A) → given x ≡ given y → x ≡ y
given_is x y e = cc

step_ok : {A B : Type 0} (r : Result A GroupFault) (f : A → Result B GroupFault) (y : B) → (r >>= f) ≡ Ok y
    → (x : A) × (r ≡ Ok x) × (f x ≡ Ok y)
step_ok (Ok x) f y e = (x, refl, e)
step_ok (Err d) f y e = absurd cc

put_names : (p : PropertyRecord) (g k : GroupRecord) → put_property p g ≡ Ok k → k.name ≡ g.name
unfolding put_property
put_names p g k e = by (nat_lt 1000 _) e
  where
    by : (b : Bool) → cond b (Err faults.Full) (given (record g { properties = put_in by_property p g.properties }))
        ≡ Ok k → k.name ≡ g.name
    by true h = absurd cc
    by false h = sym (ap (λ (x : GroupRecord). x.name)
        (given_is (record g { properties = put_in by_property p g.properties }) k h))

del_names : (name : List ℕ) (g k : GroupRecord) → del name g ≡ Ok k → k.name ≡ g.name
unfolding del
del_names name g k e = by (is_some (property_of name g)) e
  where
    by : (b : Bool)
        → cond b (given (record g { properties = without by_property name g.properties })) (Err faults.NoSuch) ≡ Ok k
        → k.name ≡ g.name
    by false h = absurd cc
    by true h = sym (ap (λ (x : GroupRecord). x.name)
        (given_is (record g { properties = without by_property name g.properties }) k h))

change_names : (c : PropertyChange) (g k : GroupRecord) → property_changed c g ≡ Ok k → k.name ≡ g.name
unfolding set add_value del_value
change_names (properties.Set name kind values) g k e = let a =
    step_ok (property_set name kind values (property_of name g)) (λ p. put_property p g) k e in put_names a.0 g k a.2
change_names (properties.AddValue name kind value) g k e = let a =
    step_ok (property_added name kind value (property_of name g)) (λ p. put_property p g) k e in put_names a.0 g k a.2
change_names (properties.DeleteValue name value) g k e = let a =
    step_ok (present_less value (property_of name g)) (λ p. put_property p g) k e in put_names a.0 g k a.2
change_names (properties.Delete name) g k e = del_names name g k e

puts_group : (h : Holdings) (owner : Owner) (name : List ℕ) (g : GroupRecord) (r : Result GroupRecord GroupFault)
    → IsConsistent h → group h owner name ≡ Some g → ((k : GroupRecord) → r ≡ Ok k → k.name ≡ g.name)
    → Keeps h (put_or_denied h owner r)
puts_group h owner name g (Err fault) c e names = refuses h (Denied fault) c
puts_group h owner name g (Ok k) c e names =
    let called : g.name ≡ name = found_key by_group name (groups_of h owner) g e in
    let there : lookup by_group (groups_of h owner) k.name ≡ Some g =
    ap (lookup by_group (groups_of h owner)) (names k refl ∙ called) ∙ e in
    accepts_groups h owner (put_in by_group k (groups_of h owner)) c
    (owned_over k g (groups_of h owner) (owned_of h owner c) there)

pub changes_group : (h : Holdings) (owner : Owner) (name : List ℕ) (change : PropertyChange) (o : Option GroupRecord)
    → IsConsistent h → group h owner name ≡ o → Keeps h (changed_group h owner change o)
changes_group h owner name change None c e = refuses h NoSuch c
changes_group h owner name change (Some g) c e =
    puts_group h owner name g (property_changed change g) c e (λ k r. change_names change g k r)

-- ---- enable and disable

new_names : (h : Holdings) (n : ℕ) (name : List ℕ) (p : Bool) → (group_or_new h n name p).name ≡ name
new_names h n name p = by (group h (owners.Instance n) name) refl
  where
    by : (o : Option GroupRecord) → group h (owners.Instance n) name ≡ o
        → (unwrap_or o (new_group name framework p)).name ≡ name
    by None e = refl
    by (Some g) e = found_key by_group name (groups_of h (owners.Instance n)) g e

enables_for_good : (h : Holdings) (n : ℕ) (r : Result GroupRecord GroupFault) → IsConsistent h
    → ((k : GroupRecord) → r ≡ Ok k → k.name ≡ general) → Keeps h (enabled_for_good h n r)
enables_for_good h n (Err fault) c names = refuses h (Denied fault) c
enables_for_good h n (Ok g) c names = by (has_room h (owners.Instance n) general general_ovr) refl
  where
    gs : List GroupRecord
    gs = groups_of h (owners.Instance n)

    by : (b : Bool) → has_room h (owners.Instance n) general general_ovr ≡ b
        → Keeps h (if b then acceptance_with h (enabling_of h (owners.Instance n) g ∷ []) Done else refusal_with Limit)
    by true e = accepts_groups h (owners.Instance n) (put_in by_group g (without by_group general_ovr gs)) c
        (owned_instead g general general_ovr gs (owned_of h (owners.Instance n) c) (names g refl) e)
    by false e = refuses h Limit c

enables_for_now : (h : Holdings) (n : ℕ) (r : Result GroupRecord GroupFault) → IsConsistent h
    → ((k : GroupRecord) → r ≡ Ok k → k.name ≡ general_ovr) → Keeps h (enabled_for_now h n r)
enables_for_now h n (Err fault) c names = refuses h (Denied fault) c
enables_for_now h n (Ok g) c names = by (has_room h (owners.Instance n) general_ovr general_ovr) refl
  where
    by : (b : Bool) → has_room h (owners.Instance n) general_ovr general_ovr ≡ b
        → Keeps h (if b then acceptance_with h (group_put h (owners.Instance n) g ∷ []) Done else refusal_with Limit)
    by true e = accepts_groups h (owners.Instance n) (put_in by_group g (groups_of h (owners.Instance n))) c
        (owned_put g general_ovr (groups_of h (owners.Instance n)) (owned_of h (owners.Instance n) c) (names g refl) e)
    by false e = refuses h Limit c

pub enables : (h : Holdings) (b temporary : Bool) (o : Option Instance) → IsConsistent h
    → Keeps h (asked_enable h b temporary o)
enables h b temporary None c = refuses h NoSuch c
enables h b false (Some i) c =
    enables_for_good h i.number (group_enabled b (group_or_new h i.number general false)) c
    (λ k e. put_names (enabled_property b) (group_or_new h i.number general false) k e
    ∙ new_names h i.number general false)
enables h b true (Some i) c =
    enables_for_now h i.number (group_enabled b (group_or_new h i.number general_ovr true)) c
    (λ k e. put_names (enabled_property b) (group_or_new h i.number general_ovr true) k e
    ∙ new_names h i.number general_ovr true)

-- ---- what is asked of an instance

asks : (h : Holdings) (n : ℕ) (i : Instance) (bit : ℕ) → IsConsistent h → IsFound h n i
    → Keeps h (acceptance_with h (PutInstance (instance_with_ask i bit) ∷ []) Done)
asks h n i bit c f =
    accepts_one h (PutInstance (instance_with_ask i bit)) Done c
    (instance_put h (instance_with_ask i bit) c
    (with_row_held h i (instance_with_ask i bit).row f.held
    (record {
      live = f.held.bounded.live;
      side = f.held.bounded.side;
      last = f.held.bounded.last;
      number = f.held.bounded.number;
      serial = f.held.bounded.serial;
    })
    (record { given = f.held.launched.given; first = f.held.launched.first }) f.held.snapshots.running
    f.held.snapshots.begun))

pub asks_if : (h : Holdings) (n : ℕ) (b : Bool) (i : Instance) (bit : ℕ) → IsConsistent h → IsFound h n i
    → Keeps h (asked_if h b i bit)
asks_if h n true i bit c f = asks h n i bit c f
asks_if h n false i bit c f = accepts_none h Done c

pub asks_where : (h : Holdings) (n : ℕ) (b : Bool) (i : Instance) (bit : ℕ) → IsConsistent h → IsFound h n i
    → Keeps h (asked_where h b i bit)
asks_where h n true i bit c f = asks h n i bit c f
asks_where h n false i bit c f = refuses h NotInState c

pub marks_it : (h : Holdings) (n : ℕ) (mark : Mark) (i : Instance) → IsConsistent h → IsFound h n i
    → Keeps h (outcome_of_mark h mark i)
marks_it h n marks.Degraded i c f = asks_where h n (same_state i.row.state Online) i 64 c f
marks_it h n marks.Maintenance i c f = asks_if h n (not (same_state i.row.state Maintenance)) i 2 c f
marks_it h n marks.MaintenanceNow i c f = asks_if h n (not (same_state i.row.state Maintenance)) i 1 c f
