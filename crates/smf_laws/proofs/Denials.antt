-- The first reason for which an edit is refused.
use Rattle.std.proofs.Common.{inl, inr, ◌≡◌, ℕ, ◌&&◌, ◌||◌, not, nat_eq, nat_le, nat_lt, Bool, true, false, if◌then◌else◌, List, [], ◌∷◌, ◌++◌, Option, Some, None, is_some, unwrap_or, Result, Ok, Err, refl, sym, ap, ◌∙◌, subst}
use Rattle.std.proofs.Math.Path.{fun_ext}
use Rattle.std.specs.Cmp.Lexicographic.{pointwise}
use Rattle.std.specs.List.{list_any}
use Rattle.smf_fmri.specs.Patterns.{read_short}
use Rattle.smf_fmri.proofs.SameLists.{found_key}
use Rattle.smf_fmri.proofs.Short.{short_is_name}
use Rattle.smf_snap.specs.declared.name.SnapshotName.{SnapshotName}
use Rattle.smf_snap.specs.Snapshots.{groups_of_revert}
use Rattle.smf_state.specs.declared.state.State.TheVariants.{Degraded, Maintenance, Online}
use Rattle.smf_state.specs.Rows.{greatest_number, same_state}
use Rattle.smf_state.specs.States.{runs}
use Rattle.smf_value.specs.declared.fault.GroupFault.{GroupFault}
use Rattle.smf_value.specs.Edits.{put_property}
use Rattle.smf_value.specs.Groups.{GroupRecord}
use Rattle.smf_model.specs.declared.change.Change.{Change}
use Rattle.smf_model.specs.declared.change.Change.TheVariants.{AddService, DropService, PutInstance}
use Rattle.smf_model.specs.declared.change.Outcome.{Outcome as Asked}
use Rattle.smf_model.specs.declared.command.Command.TheVariants as commands
use Rattle.smf_model.specs.declared.command.Edit.{Edit}
use Rattle.smf_model.specs.declared.command.Edit.TheVariants as asked_for
use Rattle.smf_model.specs.declared.command.Mark.{Mark}
use Rattle.smf_model.specs.declared.command.Mark.TheVariants as marks
use Rattle.smf_model.specs.declared.command.PropertyChange.{PropertyChange}
use Rattle.smf_model.specs.declared.command.CommandReply.{CommandReply}
use Rattle.smf_model.specs.declared.command.CommandReply.TheVariants.{Done, Exists, InUse, Limit, Made, NoSuch, NotInState}
use Rattle.smf_model.specs.declared.held.Instance.{Instance}
use Rattle.smf_model.specs.declared.held.Owner.{Owner}
use Rattle.smf_model.specs.declared.held.Owner.TheVariants as owners
use Rattle.smf_model.specs.declared.held.Service.{Service}
use Rattle.smf_model.specs.declared.held.Snapshot.{Snapshot}
use Rattle.smf_model.specs.declared.general_group.Setting.{Setting}
use Rattle.smf_model.specs.declared.general_group.Setting.TheVariants.{Unset, Restarter, Unreadable}
use Rattle.smf_model.specs.Contents.{Holdings}
use Rattle.smf_model.specs.Look.{by_service, group, groups_of, instances, instance_by_name, service}
use Rattle.smf_model.specs.Next.{acceptance_with, added_at, added_group, added_named, outcome_of_command, asked_add_group, asked_add_instance, asked_add_service, asked_clear, asked_delete_group, asked_delete_instance, asked_delete_service, asked_edit, asked_enable, asked_if, asked_mark, asked_property, asked_refresh, asked_restart, asked_revert, asked_where, instance_with_ask, changed_group, deleted_group, enabled_for_good, enabled_for_now, enabling_of, current_instance, greatest, greatest_instance, group_dropped, group_enabled, group_or_new, group_put, outcome_if_editable, has_room, is_in_use, is_instance_of, is_made, is_past_most, is_there, changes_for_addition, changes_for_deletion, outcome_of_mark, may_be_moved, outcome_of_move, moved_instance, named_snapshot, new_group, next, number_of, property_changed, put_or_denied, outcome_of_refresh, refreshed_instance, refusal_with, restarters_named, outcome_of_revert, target_by, with_snapshot}
use Rattle.smf_model.specs.Next.{changes_for_revert as changes_of_revert}
use Rattle.smf_model.specs.GeneralGroup.{framework, general, general_ovr, is_readable, owner_by, service_owner, setting}
use Rattle.smf_laws.specs.Additions.{full_name}
use Rattle.smf_laws.specs.Effects.{enabled_as, snapshot_of_name, meant_by, instance_as_read}
use Rattle.smf_laws.specs.Refusals.{IsAnswered, Passes, denial, fault_at, fault_in, has_instances, hindrance, if_seen, are_few, has_few, has_left, has_snapshot_left, is_besides, is_busy, is_free, is_idle, is_named, is_of_restarter, is_taken, is_to_move, may_be_marked, may_have, owner_is_there}
use Rattle.smf_laws.proofs.Outcomes.{held_of, one_of, reply_accepted, reply_snapshot}
use Rattle.smf_laws.proofs.Reverts.{is_meant}
use Rattle.smf_laws.proofs.OwnerWrites.{same_reply}

-- ---- an edit that passes

both : (a b : Bool) → a ≡ true → b ≡ true → (a && b) ≡ true
both a b e f = rw (e, f) refl

first_not : (a b : Bool) → a ≡ false → (a && b) ≡ false
first_not a b e = rw e refl

second_not : (a b : Bool) → b ≡ false → (a && b) ≡ false
second_not true b e = e
second_not false b e = refl

passed : (h : Holdings) (e : Edit) (cs : List Change) → Passes h e → has_left h e ≡ true
    → IsAnswered h e (acceptance_with h cs Done).reply
passed h e cs p room =
    reply_accepted (IsAnswered h e) h cs Done (λ f. (p, both (has_left h e) (nat_lt h.revision greatest) room f))
    (λ f. (p, second_not (has_left h e) (nat_lt h.revision greatest) f))

passed_snapshot : (h : Holdings) (e : Edit) (i : Instance) (cs : List Change) → Passes h e
    → has_left h e ≡ has_snapshot_left h → IsAnswered h e (with_snapshot h i cs Done).reply
passed_snapshot h e i cs p room =
    reply_snapshot (IsAnswered h e) h i cs Done
    (λ f g. (p, both (has_left h e) (nat_lt h.revision greatest) (room ∙ f) g))
    (λ f. (
      p,
      elim f [
        | inl g ↦ first_not (has_left h e) (nat_lt h.revision greatest) (room ∙ g)
        | inr g ↦ second_not (has_left h e) (nat_lt h.revision greatest) g
      ],
    ))

past : (h : Holdings) (e : Edit) → Passes h e → has_left h e ≡ false → IsAnswered h e Limit
past h e p none = (p, first_not (has_left h e) (nat_lt h.revision greatest) none)

-- ---- services

of_add_service : (h : Holdings) (name : List ℕ) (o : Option Service) → service h name ≡ o
    → IsAnswered h (asked_for.AddService name) (asked_add_service h name o).reply
of_add_service h name (Some s) e =
    record { is_there = refl; is_not_open = ap (λ (o : Option Service). not (is_some o)) e; told = refl }
of_add_service h name None e =
    passed h (asked_for.AddService name) (AddService (record { name = name; groups = [] }) ∷ [])
    (record { is_there = refl; is_open = ap (λ (o : Option Service). not (is_some o)) e; allowed = refl }) refl

of_delete_service : (h : Holdings) (name : List ℕ) (o : Option Service) → service h name ≡ o
    → IsAnswered h (asked_for.DeleteService name) (asked_delete_service h o).reply
of_delete_service h name None e = ap (λ (o : Option Service). is_some o) e
of_delete_service h name (Some s) e =
    let there : is_some (service h name) ≡ true = ap (λ (o : Option Service). is_some o) e in
    let same : has_instances h name ≡ has_instances h s.name =
    ap (has_instances h) (sym (found_key by_service name h.services s e)) in
    one_of (IsAnswered h (asked_for.DeleteService name)) (list_any (is_instance_of s.name) (instances h))
    (refusal_with InUse) (acceptance_with h (DropService s.name ∷ []) Done)
    (λ f. record { is_there = there; is_not_open = ap not (same ∙ f); told = refl })
    (λ f. passed h (asked_for.DeleteService name) (DropService s.name ∷ [])
    (record { is_there = there; is_open = ap not (same ∙ f); allowed = refl }) refl)

-- ---- instances

taken_by : (h : Holdings) (full : List ℕ) (o : Option (List ℕ)) (p : Option Instance) → read_short full ≡ o
    → instance_by_name h full ≡ p → is_taken h full ≡ (is_some o && is_some p)
taken_by h full o p e f = ap (λ (q : Option (List ℕ)). is_some q && is_some (instance_by_name h full)) e
    ∙ ap (λ (q : Option Instance). is_some o && is_some q) f

of_added_at : (h : Holdings) (s name : List ℕ) (o : Option Instance) → is_some (service h s) ≡ true
    → read_short (full_name s name) ≡ Some (full_name s name) → instance_by_name h (full_name s name) ≡ o
    → IsAnswered h (asked_for.AddInstance s name) (added_at h (full_name s name) o).reply
of_added_at h s name (Some i) there e f =
    record {
      is_there = there;
      is_not_open = ap not (taken_by h (full_name s name) (Some (full_name s name)) (Some i) e f);
      told = refl;
    }
of_added_at h s name None there e f =
    let p : Passes h (asked_for.AddInstance s name) =
    record {
      is_there = there;
      is_open = ap not (taken_by h (full_name s name) (Some (full_name s name)) None e f);
      allowed = refl;
    } in
    let left : has_left h (asked_for.AddInstance s name) ≡ nat_le h.next_instance greatest_instance =
    ap (λ (q : Option (List ℕ)). is_some q && nat_le h.next_instance greatest_instance) e in
    one_of (IsAnswered h (asked_for.AddInstance s name)) (nat_le h.next_instance greatest_instance)
    (acceptance_with h (changes_for_addition h (full_name s name)) (Made h.next_instance)) (refusal_with Limit)
    (λ g. reply_accepted (IsAnswered h (asked_for.AddInstance s name)) h (changes_for_addition h (full_name s name))
    (Made h.next_instance)
    (λ k. (p, both (has_left h (asked_for.AddInstance s name)) (nat_lt h.revision greatest) (left ∙ g) k))
    (λ k. (p, second_not (has_left h (asked_for.AddInstance s name)) (nat_lt h.revision greatest) k)))
    (λ g. past h (asked_for.AddInstance s name) p (left ∙ g))

of_added_named : (h : Holdings) (s name : List ℕ) (o : Option (List ℕ)) → is_some (service h s) ≡ true
    → read_short (full_name s name) ≡ o → IsAnswered h (asked_for.AddInstance s name) (added_named h o).reply
of_added_named h s name None there e =
    past h (asked_for.AddInstance s name)
    (record {
      is_there = there;
      is_open = ap (λ (q : Option (List ℕ)). not (is_some q && is_some (instance_by_name h (full_name s name)))) e;
      allowed = refl;
    })
    (ap (λ (q : Option (List ℕ)). is_some q && nat_le h.next_instance greatest_instance) e)
of_added_named h s name (Some full) there e =
    let same : full_name s name ≡ full = (short_is_name (full_name s name) full e).0 in
    subst (λ (x : List ℕ). IsAnswered h (asked_for.AddInstance s name) (added_at h x (instance_by_name h x)).reply) same
    (of_added_at h s name (instance_by_name h (full_name s name)) there
    (e ∙ ap (λ (x : List ℕ). Some x) (sym same)) refl)

of_add_instance : (h : Holdings) (s name : List ℕ) (o : Option Service) → service h s ≡ o
    → IsAnswered h (asked_for.AddInstance s name) (asked_add_instance h name o).reply
of_add_instance h s name None e = ap (λ (o : Option Service). is_some o) e
of_add_instance h s name (Some x) e =
    subst (λ (front : List ℕ). IsAnswered h (asked_for.AddInstance s name)
    (added_named h (read_short (front ++ 58 ∷ name))).reply) (sym (found_key by_service s h.services x e))
    (of_added_named h s name (read_short (full_name s name)) (ap (λ (o : Option Service). is_some o) e) refl)

of_delete_instance : (h : Holdings) (n : ℕ) (o : Option Instance) → instance_as_read h n ≡ o
    → IsAnswered h (asked_for.DeleteInstance n) (asked_delete_instance h o).reply
of_delete_instance h n None e = ap (λ (o : Option Instance). is_some o) e
of_delete_instance h n (Some i) e =
    let there : is_some (instance_as_read h n) ≡ true = ap (λ (o : Option Instance). is_some o) e in
    let free : if_seen (instance_as_read h n) (λ (x : Instance). not (is_busy x.row)) ≡ not (is_busy i.row) =
    ap (λ (o : Option Instance). if_seen o (λ (x : Instance). not (is_busy x.row))) e in
    one_of (IsAnswered h (asked_for.DeleteInstance n)) (is_in_use i.row) (refusal_with InUse)
    (acceptance_with h (changes_for_deletion i) Done)
    (λ f. record { is_there = there; is_not_open = free ∙ ap not f; told = refl })
    (λ f. passed h (asked_for.DeleteInstance n) (changes_for_deletion i)
    (record { is_there = there; is_open = free ∙ ap not f; allowed = refl }) refl)

-- ---- groups

same_owner : (h : Holdings) (owner : Owner) → is_there h owner ≡ owner_is_there h owner
same_owner h (owners.Service name) = refl
same_owner h (owners.Instance n) = refl

same_made : (owner : Owner) (name : List ℕ) → is_made owner name ≡ is_of_restarter owner name
same_made (owners.Service s) name = refl
same_made (owners.Instance n) name = refl

not_true : (b : Bool) → not b ≡ true → b ≡ false
not_true true e = absurd cc
not_true false e = refl

not_false : (b : Bool) → not b ≡ false → b ≡ true
not_false true e = refl
not_false false e = absurd cc

guards : (R : CommandReply → Type 0) (h : Holdings) (owner : Owner) (name : List ℕ) (a : Asked)
    → (owner_is_there h owner ≡ false → R NoSuch)
    → (owner_is_there h owner ≡ true → is_of_restarter owner name ≡ true → R InUse)
    → (owner_is_there h owner ≡ true → is_of_restarter owner name ≡ false → R a.reply)
    → R (outcome_if_editable h owner name a).reply
guards R h owner name a none made rest =
    one_of R (not (is_there h owner)) (refusal_with NoSuch) (if is_made owner name then refusal_with InUse else a)
    (λ e. none (sym (same_owner h owner) ∙ not_true (is_there h owner) e))
    (λ e. one_of R (is_made owner name) (refusal_with InUse) a
    (λ f. made (sym (same_owner h owner) ∙ not_false (is_there h owner) e) (sym (same_made owner name) ∙ f))
    (λ f. rest (sym (same_owner h owner) ∙ not_false (is_there h owner) e) (sym (same_made owner name) ∙ f)))

twice : (b : Bool) → b ≡ (b && b)
twice true = refl
twice false = refl

same_room : (h : Holdings) (owner : Owner) (name : List ℕ)
    → has_few h owner (is_besides name) ≡ has_room h owner name name
same_room h owner name = ap (has_few h owner) (fun_ext (λ g. twice (is_besides name g)))

of_add_group : (h : Holdings) (owner : Owner) (name group_type : List ℕ) (p : Bool)
    → IsAnswered h (asked_for.AddGroup owner name group_type p)
    (asked_add_group h owner (new_group name group_type p)).reply
of_add_group h owner name group_type p =
    let e : Edit = asked_for.AddGroup owner name group_type p in
    guards (IsAnswered h (asked_for.AddGroup owner name group_type p)) h owner name
    (added_group h owner (new_group name group_type p) (group h owner name))
    (λ none. none)
    (λ there made. record {
      is_there = there;
      is_not_open = ap (λ (b : Bool). not b && not (is_some (group h owner name))) made;
      told = sym (ap (λ (b : Bool). if b then InUse else Exists) made);
    })
    (λ there not_made. at there not_made (group h owner name) refl)
  where
    at : owner_is_there h owner ≡ true → is_of_restarter owner name ≡ false → (o : Option GroupRecord)
        → group h owner name ≡ o
        → IsAnswered h (asked_for.AddGroup owner name group_type p)
        (added_group h owner (new_group name group_type p) o).reply
    at there not_made (Some g) e = record {
      is_there = there;
      is_not_open = ap (λ (b : Bool). not b && not (is_some (group h owner name))) not_made
          ∙ ap (λ (o : Option GroupRecord). not (is_some o)) e;
      told = sym (ap (λ (b : Bool). if b then InUse else Exists) not_made);
    }
    at there not_made None e =
        let passes : Passes h (asked_for.AddGroup owner name group_type p) = record {
          is_there = there;
          is_open = ap (λ (b : Bool). not b && not (is_some (group h owner name))) not_made
              ∙ ap (λ (o : Option GroupRecord). not (is_some o)) e;
          allowed = refl;
        } in
        one_of (IsAnswered h (asked_for.AddGroup owner name group_type p)) (has_room h owner name name)
        (acceptance_with h (group_put h owner (new_group name group_type p) ∷ []) Done) (refusal_with Limit)
        (λ f. passed h (asked_for.AddGroup owner name group_type p)
        (group_put h owner (new_group name group_type p) ∷ []) passes (same_room h owner name ∙ f))
        (λ f. past h (asked_for.AddGroup owner name group_type p) passes (same_room h owner name ∙ f))

-- the group is there: its owner is, and it is a made one or it is held
named_by : (h : Holdings) (owner : Owner) (name : List ℕ) (a b d : Bool) → owner_is_there h owner ≡ a
    → is_of_restarter owner name ≡ b → is_some (group h owner name) ≡ d
    → (owner_is_there h owner && (is_of_restarter owner name || is_some (group h owner name))) ≡ (a && (b || d))
named_by h owner name a b d e f g = rw (e, f, g) refl

no_owner : (h : Holdings) (owner : Owner) (name : List ℕ) → owner_is_there h owner ≡ false
    → (owner_is_there h owner && (is_of_restarter owner name || is_some (group h owner name))) ≡ false
no_owner h owner name e = ap (λ (b : Bool). b && (is_of_restarter owner name || is_some (group h owner name))) e

of_delete_group : (h : Holdings) (owner : Owner) (name : List ℕ)
    → IsAnswered h (asked_for.DeleteGroup owner name) (asked_delete_group h owner name).reply
of_delete_group h owner name =
    guards (IsAnswered h (asked_for.DeleteGroup owner name)) h owner name
    (deleted_group h owner name (group h owner name))
    (λ none. no_owner h owner name none)
    (λ there made. record {
      is_there = named_by h owner name true true _ there made refl;
      is_not_open = ap not made;
      told = refl;
    })
    (λ there not_made. at there not_made (group h owner name) refl)
  where
    at : owner_is_there h owner ≡ true → is_of_restarter owner name ≡ false → (o : Option GroupRecord)
        → group h owner name ≡ o → IsAnswered h (asked_for.DeleteGroup owner name) (deleted_group h owner name o).reply
    at there not_made None e =
        named_by h owner name true false false there not_made (ap (λ (o : Option GroupRecord). is_some o) e)
    at there not_made (Some g) e =
        passed h (asked_for.DeleteGroup owner name) (group_dropped h owner name ∷ [])
        (record {
          is_there = named_by h owner name true false true there not_made
              (ap (λ (o : Option GroupRecord). is_some o) e);
          is_open = ap not not_made;
          allowed = refl;
        }) refl

of_property : (h : Holdings) (owner : Owner) (name : List ℕ) (change : PropertyChange)
    → IsAnswered h (asked_for.Property owner name change) (asked_property h owner name change).reply
of_property h owner name change =
    guards (IsAnswered h (asked_for.Property owner name change)) h owner name
    (changed_group h owner change (group h owner name))
    (λ none. no_owner h owner name none)
    (λ there made. record {
      is_there = named_by h owner name true true _ there made refl;
      is_not_open = ap not made;
      told = refl;
    })
    (λ there not_made. at there not_made (group h owner name) refl)
  where
    given : owner_is_there h owner ≡ true → is_of_restarter owner name ≡ false → (g : GroupRecord)
        → group h owner name ≡ Some g → (r : Result GroupRecord GroupFault) → property_changed change g ≡ r
        → IsAnswered h (asked_for.Property owner name change) (put_or_denied h owner r).reply
    given there not_made g e (Err fault) f = record {
      is_there = named_by h owner name true false true there not_made (ap (λ (o : Option GroupRecord). is_some o) e);
      is_open = ap not not_made;
      told = ap (λ (o : Option GroupRecord). fault_at o (property_changed change)) e ∙ ap fault_in f;
    }
    given there not_made g e (Ok new) f =
        passed h (asked_for.Property owner name change) (group_put h owner new ∷ [])
        (record {
          is_there = named_by h owner name true false true there not_made
              (ap (λ (o : Option GroupRecord). is_some o) e);
          is_open = ap not not_made;
          allowed = ap (λ (o : Option GroupRecord). fault_at o (property_changed change)) e ∙ ap fault_in f;
        }) refl

    at : owner_is_there h owner ≡ true → is_of_restarter owner name ≡ false → (o : Option GroupRecord)
        → group h owner name ≡ o
        → IsAnswered h (asked_for.Property owner name change) (changed_group h owner change o).reply
    at there not_made None e =
        named_by h owner name true false false there not_made (ap (λ (o : Option GroupRecord). is_some o) e)
    at there not_made (Some g) e = given there not_made g e (property_changed change g) refl

-- ---- enable

-- a property can be put into a new group
new_fault : (name : List ℕ) (flag b : Bool) (o : Option GroupRecord)
    → fault_in (put_property (enabled_as b) (unwrap_or o (new_group name framework flag)))
    ≡ fault_at o (put_property (enabled_as b))
unfolding put_property
new_fault name flag b None = refl
new_fault name flag b (Some g) = refl

of_good : (h : Holdings) (n : ℕ) (b : Bool) → is_some (instance_as_read h n) ≡ true
    → (r : Result GroupRecord GroupFault) → group_enabled b (group_or_new h n general false) ≡ r
    → IsAnswered h (asked_for.Enable n b false) (enabled_for_good h n r).reply
of_good h n b there (Err fault) e =
    record {
      is_there = there;
      is_open = refl;
      told = sym (new_fault general false b (group h (owners.Instance n) general)) ∙ ap fault_in e;
    }
of_good h n b there (Ok g) e =
    let p : Passes h (asked_for.Enable n b false) =
    record {
      is_there = there;
      is_open = refl;
      allowed = sym (new_fault general false b (group h (owners.Instance n) general)) ∙ ap fault_in e;
    } in
    one_of (IsAnswered h (asked_for.Enable n b false)) (has_room h (owners.Instance n) general general_ovr)
    (acceptance_with h (enabling_of h (owners.Instance n) g ∷ []) Done) (refusal_with Limit)
    (λ f. passed h (asked_for.Enable n b false) (enabling_of h (owners.Instance n) g ∷ []) p f)
    (λ f. past h (asked_for.Enable n b false) p f)

of_now : (h : Holdings) (n : ℕ) (b : Bool) → is_some (instance_as_read h n) ≡ true
    → (r : Result GroupRecord GroupFault) → group_enabled b (group_or_new h n general_ovr true) ≡ r
    → IsAnswered h (asked_for.Enable n b true) (enabled_for_now h n r).reply
of_now h n b there (Err fault) e =
    record {
      is_there = there;
      is_open = refl;
      told = sym (new_fault general_ovr true b (group h (owners.Instance n) general_ovr)) ∙ ap fault_in e;
    }
of_now h n b there (Ok g) e =
    let p : Passes h (asked_for.Enable n b true) =
    record {
      is_there = there;
      is_open = refl;
      allowed = sym (new_fault general_ovr true b (group h (owners.Instance n) general_ovr)) ∙ ap fault_in e;
    } in
    one_of (IsAnswered h (asked_for.Enable n b true)) (has_room h (owners.Instance n) general_ovr general_ovr)
    (acceptance_with h (group_put h (owners.Instance n) g ∷ []) Done) (refusal_with Limit)
    (λ f. passed h (asked_for.Enable n b true) (group_put h (owners.Instance n) g ∷ []) p
    (same_room h (owners.Instance n) general_ovr ∙ f))
    (λ f. past h (asked_for.Enable n b true) p (same_room h (owners.Instance n) general_ovr ∙ f))

of_enable : (h : Holdings) (n : ℕ) (b temporary : Bool) (o : Option Instance) → instance_as_read h n ≡ o
    → IsAnswered h (asked_for.Enable n b temporary) (asked_enable h b temporary o).reply
of_enable h n b temporary None e = ap (λ (o : Option Instance). is_some o) e
of_enable h n b false (Some i) e =
    subst (λ (m : ℕ). IsAnswered h (asked_for.Enable n b false)
    (enabled_for_good h m (group_enabled b (group_or_new h m general false))).reply) (sym (held_of h n i e).number)
    (of_good h n b (ap (λ (o : Option Instance). is_some o) e) (group_enabled b (group_or_new h n general false)) refl)
of_enable h n b true (Some i) e =
    subst (λ (m : ℕ). IsAnswered h (asked_for.Enable n b true)
    (enabled_for_now h m (group_enabled b (group_or_new h m general_ovr true))).reply)
    (sym (held_of h n i e).number)
    (of_now h n b (ap (λ (o : Option Instance). is_some o) e)
    (group_enabled b (group_or_new h n general_ovr true)) refl)

-- ---- asks of an instance

of_asked_if : (h : Holdings) (e : Edit) (b : Bool) (i : Instance) (bit : ℕ) → Passes h e → has_left h e ≡ true
    → IsAnswered h e (asked_if h b i bit).reply
of_asked_if h e true i bit p room = passed h e (PutInstance (instance_with_ask i bit) ∷ []) p room
of_asked_if h e false i bit p room = passed h e [] p room

of_asked_where : (h : Holdings) (e : Edit) (b : Bool) (i : Instance) (bit : ℕ) → is_named h e ≡ true → is_free h e ≡ b
    → denial h e ≡ None → NotInState ≡ hindrance e → has_left h e ≡ true → IsAnswered h e (asked_where h b i bit).reply
of_asked_where h e true i bit there free allowed told room =
    passed h e (PutInstance (instance_with_ask i bit) ∷ [])
    (record { is_there = there; is_open = free; allowed = allowed }) room
of_asked_where h e false i bit there free allowed told room =
    record { is_there = there; is_not_open = free; told = told }

of_restart : (h : Holdings) (n : ℕ) (o : Option Instance) → instance_as_read h n ≡ o
    → IsAnswered h (asked_for.Restart n) (asked_restart h o).reply
of_restart h n None e = ap (λ (o : Option Instance). is_some o) e
of_restart h n (Some i) e =
    of_asked_if h (asked_for.Restart n) (runs i.row.state) i 16
    (record { is_there = ap (λ (o : Option Instance). is_some o) e; is_open = refl; allowed = refl }) refl

of_clear : (h : Holdings) (n : ℕ) (o : Option Instance) → instance_as_read h n ≡ o
    → IsAnswered h (asked_for.Clear n) (asked_clear h o).reply
of_clear h n None e = ap (λ (o : Option Instance). is_some o) e
of_clear h n (Some i) e =
    of_asked_where h (asked_for.Clear n) (same_state i.row.state Maintenance || same_state i.row.state Degraded) i 32
    (ap (λ (o : Option Instance). is_some o) e)
    (ap (λ (o : Option Instance). if_seen o
    (λ (x : Instance). same_state x.row.state Maintenance || same_state x.row.state Degraded)) e) refl refl refl

of_marked : (h : Holdings) (n : ℕ) (mark : Mark) (i : Instance) → instance_as_read h n ≡ Some i
    → IsAnswered h (asked_for.Mark n mark) (outcome_of_mark h mark i).reply
of_marked h n marks.Degraded i e =
    of_asked_where h (asked_for.Mark n marks.Degraded) (same_state i.row.state Online) i 64
    (ap (λ (o : Option Instance). is_some o) e)
    (ap (λ (o : Option Instance). if_seen o (may_be_marked marks.Degraded)) e) refl refl refl
of_marked h n marks.Maintenance i e =
    of_asked_if h (asked_for.Mark n marks.Maintenance) (not (same_state i.row.state Maintenance)) i 2
    (record {
      is_there = ap (λ (o : Option Instance). is_some o) e;
      is_open = ap (λ (o : Option Instance). if_seen o (may_be_marked marks.Maintenance)) e;
      allowed = refl;
    }) refl
of_marked h n marks.MaintenanceNow i e =
    of_asked_if h (asked_for.Mark n marks.MaintenanceNow) (not (same_state i.row.state Maintenance)) i 1
    (record {
      is_there = ap (λ (o : Option Instance). is_some o) e;
      is_open = ap (λ (o : Option Instance). if_seen o (may_be_marked marks.MaintenanceNow)) e;
      allowed = refl;
    }) refl

of_mark : (h : Holdings) (n : ℕ) (mark : Mark) (o : Option Instance) → instance_as_read h n ≡ o
    → IsAnswered h (asked_for.Mark n mark) (asked_mark h mark o).reply
of_mark h n mark None e = ap (λ (o : Option Instance). is_some o) e
of_mark h n mark (Some i) e = of_marked h n mark i e

-- ---- refresh

abbrev to_move : Setting → List ℕ → Bool
to_move s owner = is_readable s && not (pointwise nat_eq (owner_by s) owner)

pub data AimsBy (s : Setting) (owner : List ℕ) (o : Option (List ℕ)) : Type 0 where
  by_none : o ≡ None → to_move s owner ≡ false → AimsBy s owner o
  by_one : (x : List ℕ) → o ≡ Some x → to_move s owner ≡ true → AimsBy s owner o

aims_at : (s : Setting) (owner : List ℕ) (b : Bool) → is_readable s ≡ true → pointwise nat_eq (owner_by s) owner ≡ b
    → AimsBy s owner (if b then None else Some (owner_by s))
aims_at s owner true r e = by_none refl (rw (r, e) refl)
aims_at s owner false r e = by_one (owner_by s) refl (rw (r, e) refl)

aims_by : (s : Setting) (owner : List ℕ) → AimsBy s owner (target_by s owner)
aims_by Unreadable owner = by_none refl refl
aims_by Unset owner = aims_at Unset owner (pointwise nat_eq (owner_by Unset) owner) refl refl
aims_by (Restarter name) owner =
    aims_at (Restarter name) owner (pointwise nat_eq (owner_by (Restarter name)) owner) refl refl

refresh_free : (h : Holdings) (n : ℕ) (i : Instance) → instance_as_read h n ≡ Some i
    → is_free h (asked_for.Refresh n) ≡ (not (is_to_move h i) || is_idle i.row)
refresh_free h n i e =
    ap (λ (o : Option Instance). if_seen o (λ (x : Instance). not (is_to_move h x) || is_idle x.row)) e

refresh_left : (h : Holdings) (n : ℕ) (i : Instance) → instance_as_read h n ≡ Some i
    → has_left h (asked_for.Refresh n)
    ≡ (has_snapshot_left h && (not (is_to_move h i) || nat_lt i.row.number greatest_number))
refresh_left h n i e =
    ap (λ (o : Option Instance). has_snapshot_left h
    && if_seen o (λ (x : Instance). not (is_to_move h x) || nat_lt x.row.number greatest_number)) e

and_true : (b : Bool) → (b && true) ≡ b
and_true true = refl
and_true false = refl

of_moved : (h : Holdings) (n : ℕ) (i : Instance) (owner : List ℕ) → instance_as_read h n ≡ Some i
    → is_to_move h i ≡ true → IsAnswered h (asked_for.Refresh n) (outcome_of_move h i owner).reply
of_moved h n i owner e goes =
    let c : Edit = asked_for.Refresh n in
    let there : is_some (instance_as_read h n) ≡ true = ap (λ (o : Option Instance). is_some o) e in
    let room : has_left h (asked_for.Refresh n) ≡ (has_snapshot_left h && nat_lt i.row.number greatest_number)
    = refresh_left h n i e
    ∙ ap (λ (b : Bool). has_snapshot_left h && (not b || nat_lt i.row.number greatest_number)) goes in
    let free : is_free h (asked_for.Refresh n) ≡ is_idle i.row =
    refresh_free h n i e ∙ ap (λ (b : Bool). not b || is_idle i.row) goes in
    one_of (IsAnswered h (asked_for.Refresh n)) (not (may_be_moved i.row)) (refusal_with InUse)
    (if not (nat_lt i.row.number greatest_number) then refusal_with Limit
    else with_snapshot h i (PutInstance (moved_instance h i owner) ∷ []) Done)
    (λ f. record { is_there = there; is_not_open = free ∙ not_true (may_be_moved i.row) f; told = refl })
    (λ f. (let p : Passes h (asked_for.Refresh n) = record {
      is_there = there;
      is_open = free ∙ not_false (may_be_moved i.row) f;
      allowed = refl;
    } in
    one_of (IsAnswered h (asked_for.Refresh n)) (not (nat_lt i.row.number greatest_number)) (refusal_with Limit)
    (with_snapshot h i (PutInstance (moved_instance h i owner) ∷ []) Done)
    (λ g. past h (asked_for.Refresh n) p
    (room ∙ second_not (has_snapshot_left h) (nat_lt i.row.number greatest_number)
    (not_true (nat_lt i.row.number greatest_number) g)))
    (λ g. passed_snapshot h (asked_for.Refresh n) i (PutInstance (moved_instance h i owner) ∷ []) p
    (room ∙ ap (λ (b : Bool). has_snapshot_left h && b) (not_false (nat_lt i.row.number greatest_number) g)
    ∙ and_true (has_snapshot_left h)))))

of_stayed : (h : Holdings) (n : ℕ) (i : Instance) → instance_as_read h n ≡ Some i → is_to_move h i ≡ false
    → IsAnswered h (asked_for.Refresh n) (outcome_of_refresh h i None).reply
of_stayed h n i e stays =
    passed_snapshot h (asked_for.Refresh n) i (PutInstance (refreshed_instance h i) ∷ [])
    (record {
      is_there = ap (λ (o : Option Instance). is_some o) e;
      is_open = refresh_free h n i e ∙ ap (λ (b : Bool). not b || is_idle i.row) stays;
      allowed = refl;
    })
    (refresh_left h n i e
    ∙ ap (λ (b : Bool). has_snapshot_left h && (not b || nat_lt i.row.number greatest_number)) stays
    ∙ and_true (has_snapshot_left h))

of_target : (h : Holdings) (n : ℕ) (i : Instance) (o : Option (List ℕ)) → instance_as_read h n ≡ Some i
    → AimsBy (setting (groups_of h) i) i.row.owner o
    → IsAnswered h (asked_for.Refresh n) (outcome_of_refresh h i o).reply
of_target h n i o e (by_none f g) =
    subst (λ (p : Option (List ℕ)). IsAnswered h (asked_for.Refresh n) (outcome_of_refresh h i p).reply) (sym f)
    (of_stayed h n i e g)
of_target h n i o e (by_one x f g) =
    subst (λ (p : Option (List ℕ)). IsAnswered h (asked_for.Refresh n) (outcome_of_refresh h i p).reply) (sym f)
    (of_moved h n i x e g)

of_refresh : (h : Holdings) (n : ℕ) (o : Option Instance) → instance_as_read h n ≡ o
    → IsAnswered h (asked_for.Refresh n) (asked_refresh h o).reply
of_refresh h n None e = ap (λ (o : Option Instance). is_some o) e
of_refresh h n (Some i) e =
    of_target h n i (target_by (setting (groups_of h) i) i.row.owner) e (aims_by (setting (groups_of h) i) i.row.owner)

-- ---- revert

neither_past : (a b : Bool) → (a || b) ≡ true → (not a && not b) ≡ false
neither_past true b e = refl
neither_past false b e = ap not e

both_few : (a b : Bool) → (a || b) ≡ false → (not a && not b) ≡ true
both_few true b e = absurd cc
both_few false b e = ap not e

of_reverted : (h : Holdings) (n : ℕ) (name : SnapshotName) (i : Instance) (o : Option Snapshot)
    → instance_as_read h n ≡ Some i → snapshot_of_name h n name ≡ o
    → IsAnswered h (asked_for.Revert n name) (outcome_of_revert h i o).reply
of_reverted h n name i None at e = ap (λ (o : Option Snapshot). is_some o) e
of_reverted h n name i (Some s) at e =
    let p : Passes h (asked_for.Revert n name) =
    record { is_there = ap (λ (o : Option Snapshot). is_some o) e; is_open = refl; allowed = refl } in
    let ss : List GroupRecord = groups_of_revert (groups_of h (service_owner i)) s.service_groups in
    let gs : List GroupRecord = groups_of_revert (groups_of h (owners.Instance i.number)) s.instance_groups in
    let room : has_left h (asked_for.Revert n name) ≡ (has_snapshot_left h && (are_few ss && are_few gs))
    = ap (λ (x : Option Instance). has_snapshot_left h && may_have h x (snapshot_of_name h n name)) at
    ∙ ap (λ (x : Option Snapshot). has_snapshot_left h && may_have h (Some i) x) e in
    one_of (IsAnswered h (asked_for.Revert n name)) (is_past_most ss || is_past_most gs) (refusal_with Limit)
    (with_snapshot h i (changes_of_revert h i ss gs) Done)
    (λ f. past h (asked_for.Revert n name) p
    (room ∙ second_not (has_snapshot_left h) (are_few ss && are_few gs)
    (neither_past (is_past_most ss) (is_past_most gs) f)))
    (λ f. passed_snapshot h (asked_for.Revert n name) i (changes_of_revert h i ss gs) p
    (room ∙ ap (λ (b : Bool). has_snapshot_left h && b) (both_few (is_past_most ss) (is_past_most gs) f)
    ∙ and_true (has_snapshot_left h)))

of_revert : (h : Holdings) (n : ℕ) (name : SnapshotName) (o : Option Instance) → instance_as_read h n ≡ o
    → IsAnswered h (asked_for.Revert n name) (asked_revert h name o).reply
of_revert h n name None e = ap (λ (o : Option Instance). is_some (meant_by h name o)) e
of_revert h n name (Some i) e =
    of_reverted h n name i (named_snapshot h (number_of i name)) e (ap (meant_by h name) e ∙ sym (is_meant h i name))

-- ---- the whole

answers : (h : Holdings) (e : Edit) → IsAnswered h e (asked_edit h e).reply
unfolding asked_edit
answers h (asked_for.AddService name) = of_add_service h name (service h name) refl
answers h (asked_for.AddInstance s name) = of_add_instance h s name (service h s) refl
answers h (asked_for.DeleteService name) = of_delete_service h name (service h name) refl
answers h (asked_for.DeleteInstance n) = of_delete_instance h n (current_instance h n) refl
answers h (asked_for.AddGroup owner name group_type p) = of_add_group h owner name group_type p
answers h (asked_for.DeleteGroup owner name) = of_delete_group h owner name
answers h (asked_for.Property owner name change) = of_property h owner name change
answers h (asked_for.Enable n b temporary) = of_enable h n b temporary (current_instance h n) refl
answers h (asked_for.Restart n) = of_restart h n (current_instance h n) refl
answers h (asked_for.Refresh n) = of_refresh h n (current_instance h n) refl
answers h (asked_for.Clear n) = of_clear h n (current_instance h n) refl
answers h (asked_for.Mark n mark) = of_mark h n mark (current_instance h n) refl
answers h (asked_for.Revert n name) = of_revert h n name (current_instance h n) refl

pub is_answered : (h : Holdings) (e : Edit) → IsAnswered h e (next h (commands.Edit e)).1
unfolding next outcome_of_command
is_answered h e = subst (IsAnswered h e) (sym (same_reply h (restarters_named h e) (asked_edit h e))) (answers h e)
