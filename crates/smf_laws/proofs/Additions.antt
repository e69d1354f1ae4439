-- Services and instances after they are added or deleted.
use Rattle.std.proofs.Common.{◌≡◌, ℕ, ◌+◌, ◌==◌, ◌||◌, not, nat_eq, nat_le, Bool, true, false, cond, filter, find, is_some, List, [], ◌∷◌, ◌++◌, Option, Some, None, option_map, unwrap_or, refl, sym, ap, ◌∙◌, subst, eqb-true, eq-eqb}
use Rattle.std.specs.Cmp.Lexicographic.{pointwise}
use Rattle.std.specs.List.{list_any}
use Rattle.smf_fmri.specs.ByKey.{By, has_key, lookup, list_with_item, without}
use Rattle.smf_fmri.specs.Patterns.{read_short}
use Rattle.smf_fmri.proofs.Lookups.{lookup_put, lookup_without, with_answer_here, with_answer_other}
use Rattle.smf_fmri.proofs.Patterns.{same_text}
use Rattle.smf_fmri.proofs.SameLists.{found_key}
use Rattle.smf_fmri.proofs.Short.{short_is_name}
use Rattle.smf_state.specs.declared.row.Row.{Row}
use Rattle.smf_state.specs.States.{runs}
use Rattle.smf_value.specs.Groups.{GroupRecord}
use Rattle.smf_model.specs.declared.change.Change.TheVariants.{AddService, DropService}
use Rattle.smf_model.specs.declared.command.CommandReply.TheVariants.{Done, Exists, InUse, Limit, Made, NoSuch}
use Rattle.smf_model.specs.declared.held.Instance.{Instance}
use Rattle.smf_model.specs.declared.held.Owner.{Owner}
use Rattle.smf_model.specs.declared.held.Owner.TheVariants as owners
use Rattle.smf_model.specs.declared.held.Service.{Service}
use Rattle.smf_model.specs.declared.held.Snapshot.{Snapshot}
use Rattle.smf_model.specs.Contents.{Holdings}
use Rattle.smf_model.specs.Look.{group_in, groups_of, by_entry, by_instance, by_name, by_service, by_snapshot, instance, instance_at, holdings_after_changes, instances, is_snapshot_of, instance_by_name, others_of, groups_if_there, service}
use Rattle.smf_model.specs.Next.{added_at, added_named, outcome_of_command, asked_add_instance, asked_add_service, asked_delete_instance, asked_delete_service, asked_edit, greatest_instance, is_in_use, is_instance_of, changes_for_addition, changes_for_deletion, new_entry, new_instance, new_name, new_owner, next, with_owners}
use Rattle.smf_model.specs.GeneralGroup.{current, general, owner_by, service_fmri, setting, setting_by}
use Rattle.smf_model.proofs.Entries.{bare_put, bare_without}
use Rattle.smf_model.proofs.LawLists.{differs, some_filter}
use Rattle.smf_laws.specs.Additions.{IsAtRest, IsInstanceAdded, IsInstanceDeleted, IsOfService, IsServiceAdded, IsServiceDeleted, fresh_instance, adding_instance, adding_service, deleting_instance, deleting_service, full_name}
use Rattle.smf_laws.specs.Effects.{instance_as_read}
use Rattle.smf_laws.proofs.Folds.{any_not}
use Rattle.smf_laws.proofs.Outcomes.{Gives, accepts, either, held_of, no_both, refuses}

-- ---- any key

found_put : {X K : Type 0} (o : By X K) (x : X) (xs : List X) → lookup o (list_with_item o x xs) (o.key x) ≡ Some x
found_put o x xs = lookup_put o x xs (o.key x) ∙ with_answer_here o (lookup o xs) (o.key x) (Some x)

apart_put : {X K : Type 0} (o : By X K) (x : X) (xs : List X) (k : K) → (k ≡ o.key x → ⊥)
    → lookup o (list_with_item o x xs) k ≡ lookup o xs k
apart_put o x xs k apart = lookup_put o x xs k
    ∙ with_answer_other o (lookup o xs) (o.key x) (Some x) k (differs o (o.key x) k (λ same. apart (sym same)))

gone_without : {X K : Type 0} (o : By X K) (k : K) (xs : List X) → lookup o (without o k xs) k ≡ None
gone_without o k xs = lookup_without o k xs k ∙ with_answer_here o (lookup o xs) k None

apart_without : {X K : Type 0} (o : By X K) (k : K) (xs : List X) (j : K) → (j ≡ k → ⊥)
    → lookup o (without o k xs) j ≡ lookup o xs j
apart_without o k xs j apart = lookup_without o k xs j
    ∙ with_answer_other o (lookup o xs) k None j (differs o k j (λ same. apart (sym same)))

-- ---- services

service_new : (h : Holdings) (name : List ℕ) (o : Option Service) → service h name ≡ o
    → Gives h Done (IsServiceAdded name h) (asked_add_service h name o)
unfolding holdings_after_changes
service_new h name (Some s) e = refuses h Done (IsServiceAdded name h) Exists refl refl
service_new h name None e =
    let new : Service = record { name = name; groups = [] } in
    accepts h Done (IsServiceAdded name h) (AddService new ∷ []) Done refl
    (λ same. record {
      was_free = e;
      is_there = found_put by_service new h.services;
      others = λ other apart. apart_put by_service new h.services other apart;
      rest = refl;
    })

pub service_added : (h : Holdings) (name : List ℕ) → (next h (adding_service name)).1 ≡ Done
    → IsServiceAdded name h (next h (adding_service name)).0
unfolding next outcome_of_command asked_edit with_owners
service_added h name = service_new h name (service h name) refl

alone : (h : Holdings) (name : List ℕ) → list_any (is_instance_of name) (instances h) ≡ false → (n : ℕ) (i : Instance)
    → instance h n ≡ Some i → service_fmri i.name ≡ name → ⊥
alone h name none n i e same =
    no_both (pointwise nat_eq (service_fmri i.name) name) ((same_text (service_fmri i.name) name).1 same)
    (any_not (has_key by_instance n) (is_instance_of name) (instances h) i none e)

service_gone : (h : Holdings) (name : List ℕ) (o : Option Service) → service h name ≡ o
    → Gives h Done (IsServiceDeleted name h) (asked_delete_service h o)
unfolding holdings_after_changes
service_gone h name None e = refuses h Done (IsServiceDeleted name h) NoSuch refl refl
service_gone h name (Some s) e =
    let at : s.name ≡ name = found_key by_service name h.services s e in
    either h Done (IsServiceDeleted name h) (list_any (is_instance_of s.name) (instances h)) _ _
    (λ f. refuses h Done (IsServiceDeleted name h) InUse refl refl)
    (λ f. accepts h Done (IsServiceDeleted name h) (DropService s.name ∷ []) Done refl
    (λ same. record {
      was_there = (s, e);
      was_alone = λ n i there same'. alone h s.name f n i there (same' ∙ sym at);
      is_gone = ap (λ (key : List ℕ). lookup by_service (without by_service key h.services) name) at
          ∙ gone_without by_service name h.services;
      others = λ other apart. apart_without by_service s.name h.services other (λ same'. apart (same' ∙ at));
      rest = refl;
    }))

pub service_deleted : (h : Holdings) (name : List ℕ) → (next h (deleting_service name)).1 ≡ Done
    → IsServiceDeleted name h (next h (deleting_service name)).0
unfolding next outcome_of_command asked_edit with_owners
service_deleted h name = service_gone h name (service h name) refl

-- ---- an instance that is added

abbrev joined : Holdings → List ℕ → Holdings
joined h full = record h {
  instances = list_with_item by_entry (new_entry h full) h.instances;
  names = list_with_item by_name (new_name h full) h.names;
  next_instance = h.next_instance + 1;
  revision = h.revision + 1;
}

no_groups : (h : Holdings) (full : List ℕ) → groups_if_there (joined h full) (owners.Instance h.next_instance) ≡ Some []
no_groups h full = ap (option_map (λ e. e.groups)) (found_put by_entry (new_entry h full) h.instances)

none_own : (h : Holdings) (full : List ℕ) → groups_of (joined h full) (owners.Instance h.next_instance) ≡ []
unfolding groups_of
none_own h full = ap (λ (o : Option (List GroupRecord)). unwrap_or o []) (no_groups h full)

services_stay : (h : Holdings) (full name : List ℕ)
    → groups_of (joined h full) (owners.Service name) ≡ groups_of h (owners.Service name)
unfolding groups_of
services_stay h full name = refl

-- its row shows the owner that is read, since it has no group `general` of its own
reads_new : (h : Holdings) (full : List ℕ)
    → current (groups_of (joined h full)) (fresh_instance (new_owner h full) full h.next_instance)
    ≡ fresh_instance (new_owner h full) full h.next_instance
unfolding current setting
reads_new h full =
    let by : Owner = owners.Service (service_fmri full) in
    ap (λ (own : List GroupRecord). fresh_instance
    (owner_by (setting_by (group_in own general) (group_in (groups_of (joined h full) by) general))) full
    h.next_instance) (none_own h full)
    ∙ ap (λ (gs : List GroupRecord). fresh_instance
    (owner_by (setting_by None (group_in gs general))) full h.next_instance)
    (services_stay h full (service_fmri full))

is_joined : (h : Holdings) (full : List ℕ) → instance_by_name h full ≡ None
    → IsInstanceAdded full h.next_instance h (joined h full)
is_joined h full free =
    let there : instance (joined h full) h.next_instance ≡ Some (fresh_instance (new_owner h full) full h.next_instance)
    = ap (λ (is : List Instance). lookup by_instance is h.next_instance) (bare_put (new_entry h full) h.instances)
    ∙ found_put by_instance (new_instance h full) (instances h) in
    record {
      owner = new_owner h full;
      was_free = free;
      is_there = there;
      is_named = ap (instance_at (joined h full)) (found_put by_name (new_name h full) h.names) ∙ there;
      is_read = reads_new h full;
      has_no_groups = no_groups h full;
      others = λ m apart. ap (λ (is : List Instance). lookup by_instance is m)
          (bare_put (new_entry h full) h.instances) ∙ apart_put by_instance (new_instance h full) (instances h) m apart;
      other_groups = λ owner apart. other_groups owner apart;
      counted = (refl, refl);
      rest = refl;
    }
  where
    other_groups : (owner : Owner) → (owner ≡ owners.Instance h.next_instance → ⊥)
        → groups_if_there (joined h full) owner ≡ groups_if_there h owner
    other_groups (owners.Service name) apart = refl
    other_groups (owners.Instance m) apart =
        ap (option_map (λ e. e.groups))
        (apart_put by_entry (new_entry h full) h.instances m (λ same. apart (ap (λ (x : ℕ). owners.Instance x) same)))

made_same : (m n : ℕ) → Made m ≡ Made n → m ≡ n
made_same m n e = cc

abbrev Joins : Holdings → List ℕ → List ℕ → ℕ → Holdings → Type 0
Joins h service full n k = IsOfService h service × IsInstanceAdded full n h k

joins_at : (h : Holdings) (s full : List ℕ) (n : ℕ) (o : Option Instance) → IsOfService h s
    → instance_by_name h full ≡ o → Gives h (Made n) (Joins h s full n) (added_at h full o)
unfolding holdings_after_changes
joins_at h s full n (Some i) of free = refuses h (Made n) (Joins h s full n) Exists refl refl
joins_at h s full n None of free =
    either h (Made n) (Joins h s full n) (nat_le h.next_instance greatest_instance) _ _
    (λ f. accepts h (Made n) (Joins h s full n) (changes_for_addition h full) (Made h.next_instance) refl
    (λ same. (
      of,
      subst (λ (m : ℕ). IsInstanceAdded full m h (joined h full)) (made_same h.next_instance n same)
          (is_joined h full free),
    )))
    (λ f. refuses h (Made n) (Joins h s full n) Limit refl refl)

joins_named : (h : Holdings) (s full : List ℕ) (n : ℕ) (o : Option (List ℕ)) → IsOfService h s
    → ((name : List ℕ) → o ≡ Some name → full ≡ name) → Gives h (Made n) (Joins h s full n) (added_named h o)
joins_named h s full n None of same = refuses h (Made n) (Joins h s full n) Limit refl refl
joins_named h s full n (Some name) of same =
    subst (λ (x : List ℕ). Gives h (Made n) (Joins h s full n) (added_at h x (instance_by_name h x))) (same name refl)
    (joins_at h s full n (instance_by_name h full) of refl)

joins_of : (h : Holdings) (s name : List ℕ) (n : ℕ) (o : Option Service) → service h s ≡ o
    → Gives h (Made n) (Joins h s (full_name s name) n) (asked_add_instance h name o)
joins_of h s name n None e = refuses h (Made n) (Joins h s (full_name s name) n) NoSuch refl refl
joins_of h s name n (Some x) e =
    let at : x.name ≡ s = found_key by_service s h.services x e in
    joins_named h s (full_name s name) n (read_short (x.name ++ 58 ∷ name)) (x, e)
    (λ found f. ap (λ (front : List ℕ). front ++ 58 ∷ name) (sym at) ∙ (short_is_name (x.name ++ 58 ∷ name) found f).0)

pub instance_added : (h : Holdings) (s name : List ℕ) (n : ℕ) → (next h (adding_instance s name)).1 ≡ Made n
    → IsOfService h s × IsInstanceAdded (full_name s name) n h (next h (adding_instance s name)).0
unfolding next outcome_of_command asked_edit with_owners
instance_added h s name n = joins_of h s name n (service h s) refl

-- ---- an instance that is deleted

none_there : {X : Type 0} (o : Option X) → is_some o ≡ false → o ≡ None
none_there None e = refl
none_there (Some x) e = absurd cc

four : (w a b d : Bool) → (w || a || b || d) ≡ false → (w ≡ false) × (a ≡ false) × (b ≡ false) × (d ≡ false)
four true a b d e = absurd cc
four false true b d e = absurd cc
four false false true d e = absurd cc
four false false false true e = absurd cc
four false false false false e = (refl, refl, refl, refl)

at_rest : (r : Row) → is_in_use r ≡ false → IsAtRest r
at_rest r e =
    let parts = four (runs r.state) (is_some r.next) (is_some r.live) (is_some r.side) e in
    record {
      state = parts.0;
      next = none_there r.next parts.1;
      live = none_there r.live parts.2;
      side = none_there r.side parts.3;
    }

-- an item that is found in a part of a list passes the test of the part
found_kept : {X : Type 0} (test keep : X → Bool) (xs : List X) (x : X) → find test (filter keep xs) ≡ Some x
    → keep x ≡ true
found_kept test keep [] x e = absurd cc
found_kept test keep (y ∷ ys) x e = by (keep y) refl (test y) e (found_kept test keep ys x)
  where
    by : (d : Bool) → keep y ≡ d → (b : Bool) → find test (cond d (y ∷ filter keep ys) (filter keep ys)) ≡ Some x
        → (find test (filter keep ys) ≡ Some x → keep x ≡ true) → keep x ≡ true
    by false f b e rest = rest e
    by true f b e rest = at (test y) e
      where
        at : (c : Bool) → cond c (Some y) (find test (filter keep ys)) ≡ Some x → keep x ≡ true
        at true g = (let same : y ≡ x = cc in subst (λ (z : _). keep z ≡ true) same f)
        at false g = rest g

abbrev left : Holdings → Instance → Holdings
left h i = record h {
  instances = without by_entry i.number h.instances;
  names = without by_name i.name h.names;
  snapshots = others_of i.number h.snapshots;
  revision = h.revision + 1;
}

not_other : (a b : ℕ) → (a ≡ b → ⊥) → (a == b) ≡ false
not_other a b apart = by (a == b) refl
  where
    by : (t : Bool) → (a == b) ≡ t → t ≡ false
    by true e = absurd (apart (eqb-true a b e))
    by false e = refl

is_left : (h : Holdings) (i : Instance) → is_in_use i.row ≡ false → IsInstanceDeleted i.number i h (left h i)
is_left h i e = record {
  was_at_rest = at_rest i.row e;
  is_gone = ap (λ (is : List Instance). lookup by_instance is i.number) (bare_without i.number h.instances)
      ∙ gone_without by_instance i.number (instances h);
  name_is_free = ap (instance_at (left h i)) (gone_without by_name i.name h.names);
  groups_are_gone = ap (option_map (λ x. x.groups)) (gone_without by_entry i.number h.instances);
  snapshots_are_gone =
      λ m s there same. no_both (s.instance == i.number) (eq-eqb s.instance i.number same)
      (kept_other (s.instance == i.number)
      (found_kept (has_key by_snapshot m) (λ (x : Snapshot). not (is_snapshot_of i.number x)) h.snapshots s there));
  other_snapshots =
      λ m s there apart. some_filter (has_key by_snapshot m)
      (λ (x : Snapshot). not (is_snapshot_of i.number x)) h.snapshots s there
      (ap not (not_other s.instance i.number apart));
  others = λ m apart. ap (λ (is : List Instance). lookup by_instance is m) (bare_without i.number h.instances)
      ∙ apart_without by_instance i.number (instances h) m apart;
  other_groups = λ owner apart. other_groups owner apart;
  rest = refl;
}
  where
    kept_other : (t : Bool) → not t ≡ true → t ≡ false
    kept_other true f = absurd cc
    kept_other false f = refl

    other_groups : (owner : Owner) → (owner ≡ owners.Instance i.number → ⊥)
        → groups_if_there (left h i) owner ≡ groups_if_there h owner
    other_groups (owners.Service name) apart = refl
    other_groups (owners.Instance m) apart =
        ap (option_map (λ x. x.groups))
        (apart_without by_entry i.number h.instances m (λ same. apart (ap (λ (x : ℕ). owners.Instance x) same)))

abbrev Leaves : Holdings → ℕ → Instance → Holdings → Type 0
Leaves h n i k = IsInstanceDeleted n i h k

leaves : (h : Holdings) (n : ℕ) (i : Instance) → i.number ≡ n
    → Gives h Done (Leaves h n i) (asked_delete_instance h (Some i))
unfolding holdings_after_changes
leaves h n i at =
    either h Done (Leaves h n i) (is_in_use i.row) _ _ (λ e. refuses h Done (Leaves h n i) InUse refl refl)
    (λ e. accepts h Done (Leaves h n i) (changes_for_deletion i) Done refl
    (λ same. subst (λ (m : ℕ). IsInstanceDeleted m i h (left h i)) at (is_left h i e)))

pub instance_deleted : (h : Holdings) (n : ℕ) (i : Instance) → instance_as_read h n ≡ Some i
    → (next h (deleting_instance n)).1 ≡ Done → IsInstanceDeleted n i h (next h (deleting_instance n)).0
unfolding next outcome_of_command asked_edit with_owners
instance_deleted h n i e =
    subst (λ (o : Option Instance). Gives h Done (Leaves h n i) (asked_delete_instance h o)) (sym e)
    (leaves h n i (held_of h n i e).number)
