-- A command that is answered in a given way, and the value that it makes.
use Rattle.std.proofs.Common.{◌≡◌, ◌⊎◌, inl, inr, arith, cond, ℕ, ◌+◌, nat_lt, nat_le, Bool, true, false, if◌then◌else◌, List, [], ◌∷◌, ◌++◌, Option, Some, None, option_map, unwrap_or, refl, sym, ap, ◌∙◌, subst}
use Rattle.std.specs.Ordering.{is_eq, nat_cmp}
use Rattle.smf_fmri.specs.ByKey.{lookup, list_with_item}
use Rattle.smf_fmri.proofs.Lookups.{lookup_amend, lookup_put, same_key, with_answer_here, with_answer_other}
use Rattle.smf_value.specs.Groups.{GroupRecord}
use Rattle.smf_model.specs.declared.change.Change.{Change}
use Rattle.smf_model.specs.declared.change.Change.TheVariants.{PutInstance, SetRevision}
use Rattle.smf_model.specs.declared.change.Outcome.{Outcome as Asked}
use Rattle.smf_model.specs.declared.command.CommandReply.{CommandReply}
use Rattle.smf_model.specs.declared.command.CommandReply.TheVariants.{Limit}
use Rattle.smf_model.specs.declared.held.Instance.{Instance}
use Rattle.smf_model.specs.declared.held.InstanceEntry.{InstanceEntry}
use Rattle.smf_model.specs.declared.held.Owner.{Owner}
use Rattle.smf_model.specs.declared.held.Owner.TheVariants as owners
use Rattle.smf_model.specs.declared.held.Service.{Service}
use Rattle.smf_model.specs.declared.held.Snapshot.{Snapshot}
use Rattle.smf_model.specs.Contents.{Holdings}
use Rattle.smf_model.specs.Laws.{IsNumbered, Stays, is_accepted}
use Rattle.smf_model.specs.Look.{by_entry, by_instance, by_service, by_snapshot, holdings_after_change, groups_of, in_place, holdings_after_changes, instance, instances, groups_if_there, put_by_lookup, put_new, put_over, with_groups, with_instance}
use Rattle.smf_model.specs.Next.{acceptance_with, behind_snapshot, current_instance, greatest, greatest_snapshot, refusal_with, snapshot_of, with_snapshot}
use Rattle.smf_model.specs.GeneralGroup.{Groups, current}
use Rattle.smf_model.proofs.Entries.{lookup_bare}
use Rattle.smf_model.proofs.LawLists.{at_put, differs, is_number}
use Rattle.smf_model.proofs.LawOutcomes.{current_row, installed_closed}
use Rattle.smf_laws.specs.Effects.{IsSnapped}

pub no_both : (b : Bool) → b ≡ true → b ≡ false → ⊥
no_both b e f = cc

-- ---- answers

-- if the answer is r, the value then is so
abbrev pub Gives : Holdings → CommandReply → (Holdings → Type 0) → Asked → Type 0
Gives h r Q a = a.reply ≡ r → Q (holdings_after_changes h a.changes)

pub refuses : (h : Holdings) (r : CommandReply) (Q : Holdings → Type 0) (other : CommandReply) → is_accepted r ≡ true
    → is_accepted other ≡ false → Gives h r Q (refusal_with other)
refuses h r Q other y n e = absurd (no_both (is_accepted r) y (ap is_accepted (sym e) ∙ n))

abbrev pub revised : Holdings → Holdings
revised h = record h { revision = h.revision + 1 }

pub accepts : (h : Holdings) (r : CommandReply) (Q : Holdings → Type 0) (cs : List Change) (given : CommandReply)
    → is_accepted r ≡ true
    → (given ≡ r → Q (record (holdings_after_changes h cs) { revision = h.revision + 1 }))
    → Gives h r Q (acceptance_with h cs given)
accepts h r Q cs given y q = by (nat_lt h.revision greatest)
  where
    by : (b : Bool)
        → Gives h r Q
        (if b then (record { changes = cs ++ SetRevision (h.revision + 1) ∷ []; reply = given })
        else refusal_with Limit)
    by true = λ e. subst Q (sym (installed_closed h cs (h.revision + 1))) (q e)
    by false = refuses h r Q Limit y refl

pub either : (h : Holdings) (r : CommandReply) (Q : Holdings → Type 0) (b : Bool) (x y : Asked)
    → (b ≡ true → Gives h r Q x) → (b ≡ false → Gives h r Q y) → Gives h r Q (if b then x else y)
either h r Q true x y p q = p refl
either h r Q false x y p q = q refl

-- ---- the instance that a command finds

pub found_by : (h : Holdings) (n : ℕ) (P : Option Instance → Type 0) → (instance h n ≡ None → P None)
    → ((i : Instance) → instance h n ≡ Some i → (current (groups_of h) i).number ≡ n
    → P (Some (current (groups_of h) i))) → P (current_instance h n)
found_by h n P none some = by (instance h n) refl
  where
    by : (o : Option Instance) → instance h n ≡ o → P (option_map (current (groups_of h)) o)
    by None e = none e
    by (Some i) e = some i e ((current_row (groups_of h) i).number ∙ is_number n (instances h) i e)

-- ---- the groups of an owner after they were put

groups_mapped : (gs : List GroupRecord) (o : Option InstanceEntry)
    → option_map (λ e. e.groups) (option_map (λ (e : InstanceEntry). record e { groups = gs }) o)
    ≡ option_map (λ x. gs) (option_map (λ (e : InstanceEntry). e.groups) o)
groups_mapped gs None = refl
groups_mapped gs (Some e) = refl

services_mapped : (gs : List GroupRecord) (o : Option Service)
    → option_map (λ s. s.groups) (option_map (λ (s : Service). record s { groups = gs }) o)
    ≡ option_map (λ x. gs) (option_map (λ (s : Service). s.groups) o)
services_mapped gs None = refl
services_mapped gs (Some s) = refl

pub owned_here : (h : Holdings) (owner : Owner) (gs : List GroupRecord)
    → groups_if_there (with_groups h gs owner) owner ≡ option_map (λ x. gs) (groups_if_there h owner)
owned_here h (owners.Service name) gs =
    ap (option_map (λ s. s.groups))
    (lookup_amend by_service name (λ s. record s { groups = gs }) h.services name (λ s. refl)
    ∙ with_answer_here by_service (lookup by_service h.services) name
    (option_map (λ (s : Service). record s { groups = gs }) (lookup by_service h.services name)))
    ∙ services_mapped gs (lookup by_service h.services name)
owned_here h (owners.Instance n) gs =
    ap (option_map (λ e. e.groups))
    (lookup_amend by_entry n (λ e. record e { groups = gs }) h.instances n (λ e. refl)
    ∙ with_answer_here by_entry (lookup by_entry h.instances) n
    (option_map (λ (e : InstanceEntry). record e { groups = gs }) (lookup by_entry h.instances n)))
    ∙ groups_mapped gs (lookup by_entry h.instances n)

pub owned_apart : (h : Holdings) (owner other : Owner) (gs : List GroupRecord) → (other ≡ owner → ⊥)
    → groups_if_there (with_groups h gs owner) other ≡ groups_if_there h other
owned_apart h (owners.Service name) (owners.Service other) gs apart =
    ap (option_map (λ s. s.groups))
    (lookup_amend by_service name (λ s. record s { groups = gs }) h.services other (λ s. refl)
    ∙ with_answer_other by_service (lookup by_service h.services) name
    (option_map (λ (s : Service). record s { groups = gs }) (lookup by_service h.services other)) other
    (differs by_service name other (λ same. apart (ap (λ (x : List ℕ). owners.Service x) (sym same)))))
owned_apart h (owners.Service name) (owners.Instance n) gs apart = refl
owned_apart h (owners.Instance n) (owners.Service name) gs apart = refl
owned_apart h (owners.Instance n) (owners.Instance other) gs apart =
    ap (option_map (λ e. e.groups))
    (lookup_amend by_entry n (λ e. record e { groups = gs }) h.instances other (λ e. refl)
    ∙ with_answer_other by_entry (lookup by_entry h.instances) n
    (option_map (λ (e : InstanceEntry). record e { groups = gs }) (lookup by_entry h.instances other)) other
    (differs by_entry n other (λ same. apart (ap (λ (x : ℕ). owners.Instance x) (sym same)))))

-- an instance that is there has an entry
entry_in : (o : Option InstanceEntry) (i : Instance) → option_map (λ e. e.instance) o ≡ Some i
    → (e : InstanceEntry) × (o ≡ Some e) × (e.instance ≡ i)
entry_in None i e = absurd cc
entry_in (Some x) i e = (x, refl, cc)

pub entry_of : (h : Holdings) (n : ℕ) (i : Instance) → instance h n ≡ Some i
    → (e : InstanceEntry) × (lookup by_entry h.instances n ≡ Some e) × (e.instance ≡ i)
entry_of h n i e = entry_in (lookup by_entry h.instances n) i (sym (lookup_bare h.instances n) ∙ e)

pub groups_here : (h : Holdings) (n : ℕ) (i : Instance) (gs : List GroupRecord) → instance h n ≡ Some i
    → groups_of (with_groups h gs (owners.Instance n)) (owners.Instance n) ≡ gs
unfolding groups_of
groups_here h n i gs e =
    let there = entry_of h n i e in
    ap (λ (o : Option (List GroupRecord)). unwrap_or o [])
    (owned_here h (owners.Instance n) gs
    ∙ ap (λ (o : Option InstanceEntry). option_map (λ (x : List GroupRecord). gs)
    (option_map (λ (x : InstanceEntry). x.groups) o)) there.1)

-- an instance put in its place keeps its groups
pub owned_put : (h : Holdings) (x : Instance) (owner : Owner)
    → groups_if_there (holdings_after_change h (PutInstance x)) owner ≡ groups_if_there h owner
owned_put h x (owners.Service name) = refl
owned_put h x (owners.Instance n) =
    ap (option_map (λ e. e.groups)) (lookup_amend by_entry x.number (with_instance x) h.instances n (λ e. refl))
    ∙ by (is_eq (nat_cmp x.number n)) (lookup by_entry h.instances n)
  where
    by : (b : Bool) (o : Option InstanceEntry)
        → option_map (λ (e : InstanceEntry). e.groups) (if b then option_map (with_instance x) o else o)
        ≡ option_map (λ (e : InstanceEntry). e.groups) o
    by true None = refl
    by true (Some e) = refl
    by false o = refl

-- ---- an instance put in its place

pub put_there : (x b : Instance) (n : ℕ) (is : List Instance) → x.number ≡ n → lookup by_instance is n ≡ Some b
    → lookup by_instance (put_over x is) n ≡ Some x
put_there x b n is at e =
    let numbered : b.number ≡ x.number = is_number n is b e ∙ sym at in
    let test : is_eq (nat_cmp x.number n) ≡ true = ap (λ (m : ℕ). is_eq (nat_cmp x.number m)) (sym at)
    ∙ ap is_eq (same_key by_instance x.number) in
    at_put n x is
    ∙ ap (λ (t : Bool). cond t (option_map (in_place x) (lookup by_instance is n)) (lookup by_instance is n)) test
    ∙ ap (option_map (in_place x)) e ∙ ap (λ (m : ℕ). Some (record x { number = m })) numbered

pub put_apart : (x : Instance) (m : ℕ) (is : List Instance) → (m ≡ x.number → ⊥)
    → lookup by_instance (put_over x is) m ≡ lookup by_instance is m
put_apart x m is apart =
    at_put m x is
    ∙ ap (λ (t : Bool). cond t (option_map (in_place x) (lookup by_instance is m)) (lookup by_instance is m))
    (differs by_instance x.number m (λ same. apart (sym same)))

-- ---- the instance that is found

found_in : (gs : Groups) (o : Option Instance) (i : Instance) → option_map (current gs) o ≡ Some i
    → (b : Instance) × (o ≡ Some b) × (current gs b ≡ i)
found_in gs None i e = absurd cc
found_in gs (Some b) i e = (b, refl, cc)

-- it is held, and has its number
pub record Held (h : Holdings) (n : ℕ) (i : Instance) : Type 0 where
  pub before : Instance
  pub is_there : instance h n ≡ Some before
  pub read : current (groups_of h) before ≡ i
  pub number : i.number ≡ n
  pub name : i.name ≡ before.name
  pub row : Stays before.row i.row

pub held_of : (h : Holdings) (n : ℕ) (i : Instance) → current_instance h n ≡ Some i → Held h n i
held_of h n i e =
    let it = found_in (groups_of h) (instance h n) i e in
    let read = current_row (groups_of h) it.0 in
    record {
      before = it.0;
      is_there = it.1;
      read = it.2;
      number = sym (ap (λ (x : Instance). x.number) it.2) ∙ read.number ∙ is_number n (instances h) it.0 it.1;
      name = sym (ap (λ (x : Instance). x.name) it.2) ∙ read.name;
      row = subst (λ (x : Instance). Stays it.0.row x.row) it.2 read.row;
    }

-- ---- a new snapshot

new_is : (s : Snapshot) (ss : List Snapshot) → lookup by_snapshot ss s.number ≡ None
    → put_new by_snapshot s ss ≡ list_with_item by_snapshot s ss
new_is s ss none = ap (λ (o : Option Snapshot). put_by_lookup by_snapshot s ss o) none

pub snapshot_new : (s : Snapshot) (ss : List Snapshot) → lookup by_snapshot ss s.number ≡ None
    → lookup by_snapshot (put_new by_snapshot s ss) s.number ≡ Some s
snapshot_new s ss none =
    ap (λ (l : List Snapshot). lookup by_snapshot l s.number) (new_is s ss none) ∙ lookup_put by_snapshot s ss s.number
    ∙ with_answer_here by_snapshot (lookup by_snapshot ss) s.number (Some s)

pub snapshot_apart : (s : Snapshot) (ss : List Snapshot) (m : ℕ) → lookup by_snapshot ss s.number ≡ None
    → (m ≡ s.number → ⊥) → lookup by_snapshot (put_new by_snapshot s ss) m ≡ lookup by_snapshot ss m
snapshot_apart s ss m none apart =
    ap (λ (l : List Snapshot). lookup by_snapshot l m) (new_is s ss none) ∙ lookup_put by_snapshot s ss m
    ∙ with_answer_other by_snapshot (lookup by_snapshot ss) s.number (Some s) m
    (differs by_snapshot s.number m (λ same. apart (sym same)))

-- a snapshot that is taken with a command
pub snaps : (h : Holdings) (i : Instance) (k : Holdings) → IsNumbered h
    → k.snapshots ≡ put_new by_snapshot (snapshot_of h i) h.snapshots → k.next_snapshot ≡ h.next_snapshot + 1
    → IsSnapped i h k
snaps h i k numbered e f =
    let none : lookup by_snapshot h.snapshots h.next_snapshot ≡ None =
    numbered.snapshots h.next_snapshot (omega arith) in
    record {
      is_there = ap (λ (l : List Snapshot). lookup by_snapshot l h.next_snapshot) e
          ∙ snapshot_new (snapshot_of h i) h.snapshots none;
      others = λ m apart. ap (λ (l : List Snapshot). lookup by_snapshot l m) e
          ∙ snapshot_apart (snapshot_of h i) h.snapshots m none apart;
      counted = f;
    }

pub with_one : (h : Holdings) (r : CommandReply) (Q : Holdings → Type 0) (i : Instance) (cs : List Change)
    (given : CommandReply) → is_accepted r ≡ true
    → (given ≡ r → Q
    (record (holdings_after_changes h (behind_snapshot h i (h.next_snapshot + 1) cs))
    { revision = h.revision + 1 })) → Gives h r Q (with_snapshot h i cs given)
with_one h r Q i cs given y q =
    either h r Q (nat_le h.next_snapshot greatest_snapshot)
    (acceptance_with h (behind_snapshot h i (h.next_snapshot + 1) cs) given) (refusal_with Limit)
    (λ e. accepts h r Q (behind_snapshot h i (h.next_snapshot + 1) cs) given y q) (λ e. refuses h r Q Limit y refl)

-- ---- replies alone

pub one_of : (R : CommandReply → Type 0) (b : Bool) (x y : Asked) → (b ≡ true → R x.reply) → (b ≡ false → R y.reply)
    → R (if b then x else y).reply
one_of R true x y p q = p refl
one_of R false x y p q = q refl

pub reply_accepted : (R : CommandReply → Type 0) (h : Holdings) (cs : List Change) (r : CommandReply)
    → (nat_lt h.revision greatest ≡ true → R r) → (nat_lt h.revision greatest ≡ false → R Limit)
    → R (acceptance_with h cs r).reply
reply_accepted R h cs r p q =
    one_of R (nat_lt h.revision greatest) (record { changes = cs ++ SetRevision (h.revision + 1) ∷ []; reply = r })
    (refusal_with Limit) p q

pub reply_snapshot : (R : CommandReply → Type 0) (h : Holdings) (i : Instance) (cs : List Change) (r : CommandReply)
    → (nat_le h.next_snapshot greatest_snapshot ≡ true → nat_lt h.revision greatest ≡ true → R r)
    → ((nat_le h.next_snapshot greatest_snapshot ≡ false) ⊎ (nat_lt h.revision greatest ≡ false) → R Limit)
    → R (with_snapshot h i cs r).reply
reply_snapshot R h i cs r p q =
    one_of R (nat_le h.next_snapshot greatest_snapshot)
    (acceptance_with h (behind_snapshot h i (h.next_snapshot + 1) cs) r) (refusal_with Limit)
    (λ e. reply_accepted R h (behind_snapshot h i (h.next_snapshot + 1) cs) r (p e) (λ f. q (inr f))) (λ e. q (inl e))
