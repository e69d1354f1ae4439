-- A revert, and the value that it leaves.
use Rattle.std.proofs.Common.{◌≡◌, ℕ, ◌+◌, ◌||◌, true, List, [], Option, Some, None, option_map, unwrap_or, refl, sym, ap, ◌∙◌, subst}
use Rattle.smf_fmri.specs.ByKey.{Rises, lookup}
use Rattle.smf_fmri.proofs.Patterns.{same_text}
use Rattle.smf_snap.specs.declared.name.SnapshotName.{SnapshotName}
use Rattle.smf_snap.specs.declared.name.SnapshotName.TheVariants as snapshots
use Rattle.smf_snap.specs.Snapshots.{groups_of_revert}
use Rattle.smf_value.specs.Groups.{GroupRecord}
use Rattle.smf_model.specs.declared.change.Change.TheVariants.{AddSnapshot, NextSnapshot, PutInstance}
use Rattle.smf_model.specs.declared.command.CommandReply.{CommandReply}
use Rattle.smf_model.specs.declared.command.CommandReply.TheVariants.{Done, Limit, NoSuch}
use Rattle.smf_model.specs.declared.held.Instance.{Instance}
use Rattle.smf_model.specs.declared.held.Owner.{Owner}
use Rattle.smf_model.specs.declared.held.Owner.TheVariants as owners
use Rattle.smf_model.specs.declared.held.Snapshot.{Snapshot}
use Rattle.smf_model.specs.Contents.{Holdings}
use Rattle.smf_model.specs.Laws.{IsNumbered}
use Rattle.smf_model.specs.Look.{by_instance, holdings_after_change, groups_of, holdings_after_changes, instance, instances, groups_if_there, put_over, with_groups}
use Rattle.smf_model.specs.Next.{outcome_of_command, asked_edit, asked_revert, belongs_to, current_instance, is_past_most, named_snapshot, next, number_of, outcome_of_revert, snapshot_of}
use Rattle.smf_model.specs.Next.{changes_for_revert as changes_of_revert}
use Rattle.smf_model.specs.GeneralGroup.{Groups, current, service_fmri, service_owner}
use Rattle.smf_model.proofs.Entries.{bare_groups, bare_instance}
use Rattle.smf_laws.specs.Effects.{IsAsRead, IsSnapped, IsOfNothing, IsReverted, snapshot_of_name, meant_by, revert_command, instance_as_read, snapshot_at, stands_for}
use Rattle.smf_laws.proofs.Outcomes.{Gives, Held, either, groups_here, held_of, one_of, owned_apart, owned_here, owned_put, put_apart, put_there, refuses, reply_snapshot, snaps, with_one}
use Rattle.smf_laws.proofs.OwnerWrites.{as_read, gives_owners, groups_written, owned_written, same_reply, shown, shown_of, written_at, written_then}

-- ---- the snapshot that a name means

same_number : (i : Instance) (name : SnapshotName) → number_of i name ≡ stands_for name i
same_number i snapshots.Previous = refl
same_number i snapshots.Running = refl
same_number i snapshots.Start = refl

same_snapshot : (h : Holdings) (o : Option ℕ) → named_snapshot h o ≡ snapshot_at h o
same_snapshot h None = refl
same_snapshot h (Some n) = refl

pub is_meant : (h : Holdings) (i : Instance) (name : SnapshotName)
    → named_snapshot h (number_of i name) ≡ snapshot_at h (stands_for name i)
is_meant h i name = same_snapshot h (number_of i name) ∙ ap (snapshot_at h) (same_number i name)

-- ---- the value then

-- both owners have the groups of the snapshot, and no owner is written yet
pub record IsBack (i : Instance) (s : Snapshot) (h k : Holdings) : Type 0 where
  pub own : groups_of k (owners.Instance i.number)
      ≡ groups_of_revert (groups_of h (owners.Instance i.number)) s.instance_groups
  pub services_own : groups_if_there k (service_owner i)
      ≡ option_map (λ gs. groups_of_revert gs s.service_groups) (groups_if_there h (service_owner i))
  pub other_groups : (owner : Owner) → (owner ≡ owners.Instance i.number → ⊥) → (owner ≡ service_owner i → ⊥)
      → groups_if_there k owner ≡ groups_if_there h owner
  pub previous : instance k i.number ≡ Some (record i { previous = Some h.next_snapshot })
  pub snapped : IsSnapped i h k
  pub others : (m : ℕ) → (m ≡ i.number → ⊥) → instance k m ≡ instance h m
  pub names : k.names ≡ h.names
  pub launches : k.launches ≡ h.launches
  pub next_instance : k.next_instance ≡ h.next_instance
  pub revision : k.revision ≡ h.revision + 1

restored_or_none : (o : Option (List GroupRecord)) (gs : List GroupRecord)
    → option_map (λ (x : List GroupRecord). groups_of_revert (unwrap_or o []) gs) o
    ≡ option_map (λ (x : List GroupRecord). groups_of_revert x gs) o
restored_or_none None gs = refl
restored_or_none (Some x) gs = refl

module _ (h : Holdings) (n : ℕ) (i : Instance) (s : Snapshot) (numbered : IsNumbered h) (it : Held h n i) where
  abbrev own_then : List GroupRecord
  own_then = groups_of_revert (groups_of h (owners.Instance i.number)) s.instance_groups

  abbrev services_then : List GroupRecord
  services_then = groups_of_revert (groups_of h (service_owner i)) s.service_groups

  abbrev noted : Instance
  noted = record i { previous = Some h.next_snapshot }

  abbrev with_noted : Holdings
  with_noted = holdings_after_change
      (holdings_after_change (holdings_after_change h (AddSnapshot (snapshot_of h i)))
      (NextSnapshot (h.next_snapshot + 1))) (PutInstance noted)

  abbrev with_services : Holdings
  with_services = with_groups with_noted services_then (service_owner i)

  abbrev at_end : Holdings
  at_end = record (with_groups with_services own_then (owners.Instance i.number)) { revision = h.revision + 1 }

  held : instance h i.number ≡ Some it.before
  held = ap (instance h) it.number ∙ it.is_there

  over : instances at_end ≡ put_over noted (instances h)
  over = bare_groups i.number own_then with_services.instances ∙ bare_instance noted h.instances

  noted_there : instance with_services i.number ≡ Some noted
  noted_there = ap (λ (is : List Instance). lookup by_instance is i.number) (bare_instance noted h.instances)
      ∙ put_there noted it.before i.number (instances h) refl held

  own_are : groups_of at_end (owners.Instance i.number) ≡ own_then
  unfolding groups_of
  own_are = groups_here with_services i.number noted own_then noted_there

  service_apart : service_owner i ≡ owners.Instance i.number → ⊥
  service_apart e = absurd cc

  services_are : groups_if_there at_end (service_owner i)
      ≡ option_map (λ gs. groups_of_revert gs s.service_groups) (groups_if_there h (service_owner i))
  unfolding groups_of
  services_are = owned_here with_noted (service_owner i) services_then
      ∙ restored_or_none (groups_if_there h (service_owner i)) s.service_groups

  is_back : IsBack i s h at_end
  is_back = record {
    own = own_are;
    services_own = services_are;
    other_groups =
        λ owner not_own not_services. owned_apart with_services (owners.Instance i.number) owner own_then not_own
        ∙ owned_apart with_noted (service_owner i) owner services_then not_services ∙ owned_put h noted owner;
    previous = ap (λ (is : List Instance). lookup by_instance is i.number) over
        ∙ put_there noted it.before i.number (instances h) refl held;
    snapped = snaps h i at_end numbered refl refl;
    others = λ m apart. ap (λ (is : List Instance). lookup by_instance is m) over
        ∙ put_apart noted m (instances h) apart;
    names = refl;
    launches = refl;
    next_instance = refl;
    revision = refl;
  }

abbrev pub Back : Holdings → Instance → Snapshot → Holdings → Type 0
Back h i s k = IsBack i s h k

pub back_to : (h : Holdings) (n : ℕ) (i : Instance) (s : Snapshot) → IsNumbered h → Held h n i
    → Gives h Done (Back h i s) (outcome_of_revert h i (Some s))
unfolding holdings_after_changes
back_to h n i s numbered it =
    either h Done (Back h i s)
    (is_past_most (services_then h n i s numbered it) || is_past_most (own_then h n i s numbered it)) _ _
    (λ e. refuses h Done (Back h i s) Limit refl refl)
    (λ e. with_one h Done (Back h i s) i
    (changes_of_revert h i (services_then h n i s numbered it) (own_then h n i s numbered it)) Done refl
    (λ same. is_back h n i s numbered it))

-- an instance is among those of its service
pub of_its_service : (i x : Instance) → x.name ≡ i.name → belongs_to (service_owner i) x ≡ true
of_its_service i x e = (same_text (service_fmri x.name) (service_fmri i.name)).1 (ap service_fmri e)

writes_owners : (h k : Holdings) (i : Instance) (s : Snapshot) → Rises by_instance (instances k) → IsBack i s h k
    → IsReverted i s h (written_then k (service_owner i))
writes_owners h k i s rises b =
    let noted_one : Instance = record i { previous = Some h.next_snapshot } in
    let same : groups_of (written_then k (service_owner i)) ≡ groups_of k = groups_written k (service_owner i) in
    record {
      own = ap (λ (gs : Groups). gs (owners.Instance i.number)) same ∙ b.own;
      services_own = owned_written k (service_owner i) (service_owner i) ∙ b.services_own;
      other_groups = λ owner not_own not_services. owned_written k (service_owner i) owner
          ∙ b.other_groups owner not_own not_services;
      previous = written_at k (service_owner i) i.number rises ∙ ap (option_map (shown k (service_owner i))) b.previous
          ∙ ap (λ (x : Instance). Some x) (shown_of k (service_owner i) noted_one (of_its_service i noted_one refl))
          ∙ ap (λ (gs : Groups). Some (current gs noted_one)) (sym same);
      snapped = record { is_there = b.snapped.is_there; others = b.snapped.others; counted = b.snapped.counted };
      others = λ m apart.
          subst (λ (o : Option Instance). IsAsRead (written_then k (service_owner i)) o
          (instance (written_then k (service_owner i)) m)) (b.others m apart) (as_read k (service_owner i) m rises);
      names = b.names;
      launches = b.launches;
      next_instance = b.next_instance;
      revision = b.revision;
    }

-- the service whose instances are written is that of the instance
pub owner_of : (h : Holdings) (n : ℕ) (i : Instance) (owner : Owner) → Held h n i
    → option_map service_owner (instance h n) ≡ Some owner → service_owner i ≡ owner
owner_of h n i owner it e =
    ap (λ (name : List ℕ). owners.Service (service_fmri name)) it.name
    ∙ the_same (service_owner it.before) owner (sym (ap (option_map service_owner) it.is_there) ∙ e)
  where
    the_same : (x y : Owner) → Some x ≡ Some y → x ≡ y
    the_same x y f = cc

pub has_owner : (h : Holdings) (n : ℕ) (i : Instance) → Held h n i → option_map service_owner (instance h n) ≡ None → ⊥
has_owner h n i it e = clash (service_owner it.before) (sym (ap (option_map service_owner) it.is_there) ∙ e)
  where
    clash : (x : Owner) → Some x ≡ None → ⊥
    clash x f = cc

meant_at : (h : Holdings) (n : ℕ) (name : SnapshotName) (i : Instance) (s : Snapshot) → instance_as_read h n ≡ Some i
    → snapshot_of_name h n name ≡ Some s → named_snapshot h (number_of i name) ≡ Some s
meant_at h n name i s e f = is_meant h i name ∙ sym (ap (meant_by h name) e) ∙ f

pub brought_back : (h : Holdings) (n : ℕ) (name : SnapshotName) (i : Instance) (s : Snapshot) → IsNumbered h
    → instance_as_read h n ≡ Some i → snapshot_of_name h n name ≡ Some s
    → (next h (revert_command n name)).1 ≡ Done → IsReverted i s h (next h (revert_command n name)).0
unfolding next outcome_of_command asked_edit
brought_back h n name i s numbered e f =
    let it : Held h n i = held_of h n i e in
    gives_owners h (Back h i s) (λ k. IsReverted i s h k) (option_map service_owner (instance h n))
    (asked_revert h name (current_instance h n))
    (subst (λ (o : Option Instance). Gives h Done (Back h i s) (asked_revert h name o)) (sym e)
    (subst (λ (o : Option Snapshot). Gives h Done (Back h i s) (outcome_of_revert h i o))
    (sym (meant_at h n name i s e f)) (back_to h n i s numbered it)))
    (λ k none p. absurd (has_owner h n i it none))
    (λ k owner is rises p. subst (λ (x : Owner). IsReverted i s h (written_then k x)) (owner_of h n i owner it is)
    (writes_owners h k i s (rises numbered) p))

-- ---- a revert of nothing

abbrev Tells : Option Snapshot → CommandReply → Type 0
Tells o r = (r ≡ NoSuch → o ≡ None) × (o ≡ None → r ≡ NoSuch)

tells_some : (s : Snapshot) (r : CommandReply) → (r ≡ NoSuch → ⊥) → Tells (Some s) r
tells_some s r apart = (λ e. absurd (apart e), λ e. absurd (some_none e))
  where
    some_none : Some s ≡ None → ⊥
    some_none e = cc

not_done : Done ≡ NoSuch → ⊥
not_done e = cc

not_limit : Limit ≡ NoSuch → ⊥
not_limit e = cc

tells_reverted : (h : Holdings) (i : Instance) (o : Option Snapshot) → Tells o (outcome_of_revert h i o).reply
tells_reverted h i None = (λ e. refl, λ e. refl)
tells_reverted h i (Some s) =
    one_of (Tells (Some s))
    (is_past_most (groups_of_revert (groups_of h (service_owner i)) s.service_groups)
    || is_past_most (groups_of_revert (groups_of h (owners.Instance i.number)) s.instance_groups)) _ _
    (λ e. tells_some s Limit not_limit)
    (λ e. reply_snapshot (Tells (Some s)) h i
    (changes_of_revert h i (groups_of_revert (groups_of h (service_owner i)) s.service_groups)
    (groups_of_revert (groups_of h (owners.Instance i.number)) s.instance_groups)) Done
    (λ f g. tells_some s Done not_done) (λ f. tells_some s Limit not_limit))

tells_found : (h : Holdings) (name : SnapshotName) (o : Option Instance)
    → Tells (meant_by h name o) (asked_revert h name o).reply
tells_found h name None = (λ e. refl, λ e. refl)
tells_found h name (Some i) =
    subst (λ (o : Option Snapshot). Tells o (outcome_of_revert h i (named_snapshot h (number_of i name))).reply)
    (is_meant h i name) (tells_reverted h i (named_snapshot h (number_of i name)))

pub of_nothing : (h : Holdings) (n : ℕ) (name : SnapshotName) → IsOfNothing n name h (next h (revert_command n name)).1
unfolding next outcome_of_command asked_edit
of_nothing h n name =
    let both = subst (λ (r : CommandReply). Tells (snapshot_of_name h n name) r)
    (sym (same_reply h (option_map service_owner (instance h n)) (asked_revert h name (current_instance h n))))
    (tells_found h name (current_instance h n)) in
    record { told = both.0; only = both.1 }
