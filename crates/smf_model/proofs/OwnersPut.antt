-- The owners that are worked out before an edit are those that it leaves to write.
use Rattle.std.proofs.Common.{◌≡◌, ℕ, ◌+◌, ◌==◌, ◌&&◌, ◌||◌, not, nat_eq, nat_lt, nat_le, Bool, true, false, cond, if◌then◌else◌, List, [], ◌∷◌, ◌++◌, map, Option, Some, None, is_some, Result, Err, option_map, append_assoc, refl, sym, ap, subst, ◌∙◌, eqb-true, eq-eqb}
use Rattle.std.specs.Prelude.{filter, unwrap_or}
use Rattle.std.specs.Cmp.Lexicographic.{pointwise}
use Rattle.std.specs.List.{AllByRecursion}
use Rattle.std.specs.Ordering.{is_eq, nat_cmp}
use Rattle.smf_fmri.specs.ByKey.{By, KeepsKeys, Rises, amend, lookup}
use Rattle.smf_fmri.proofs.Lookups.{equal_from_test, lookup_amend, same_key, with_answer_here, with_answer_other}
use Rattle.smf_fmri.proofs.Places.{none_above}
use Rattle.smf_value.specs.Groups.{GroupRecord}
use Rattle.smf_value.proofs.Decimals.{same_text}
use Rattle.smf_model.specs.declared.change.Change.{Change}
use Rattle.smf_model.specs.declared.change.Change.TheVariants.{PutInstance, PutGroups, AddSnapshot, NextSnapshot, SetRevision}
use Rattle.smf_model.specs.declared.command.PropertyChange.{PropertyChange}
use Rattle.smf_model.specs.declared.command.CommandReply.{CommandReply}
use Rattle.smf_value.specs.declared.fault.GroupFault.{GroupFault}
use Rattle.smf_value.specs.declared.fault.GroupFault.TheVariants as faults
use Rattle.smf_value.specs.declared.fault.GroupFault.TheVariants.{Memory, NeedsKind, KindDiffers, TooLong, NotA, Range, Full}
use Rattle.smf_value.specs.Edits.{Fails}
use Rattle.smf_snap.specs.declared.name.SnapshotName.{SnapshotName}
use Rattle.smf_model.specs.declared.command.CommandReply.TheVariants.{Made, Granted, Done, NoSuch, InUse, NotInState, Exists, Denied, Limit, Stale}
use Rattle.smf_model.specs.declared.held.Instance.{Instance}
use Rattle.smf_model.specs.declared.held.InstanceEntry.{InstanceEntry}
use Rattle.smf_model.specs.declared.held.Owner.{Owner}
use Rattle.smf_model.specs.declared.held.Owner.TheVariants as owners
use Rattle.smf_model.specs.declared.held.Service.{Service}
use Rattle.smf_model.specs.declared.held.Snapshot.{Snapshot}
use Rattle.smf_model.specs.declared.general_group.Setting.{Setting}
use Rattle.smf_model.specs.Contents.{Holdings}
use Rattle.smf_model.specs.Laws.{AreApart, is_accepted}
use Rattle.smf_model.specs.Look.{bare, by_entry, by_instance, by_service, by_snapshot, group, group_in, groups_of, in_place, holdings_after_changes, instance, instances, put_new, put_over, service, with_instance}
use Rattle.smf_model.specs.Next.{Asked, acceptance_with, and_owners, asked_property, asked_revert, belongs_to, changed_group, current_instance, greatest, greatest_snapshot, outcome_if_editable, if_general, is_instance_of, is_made, is_past_most, is_there, is_unwritten, named_snapshot, number_of, owners_written, property_changed, put_or_denied, refusal_with, outcome_of_revert, reverted_to, changes_for_revert, snapshot_of, with_owners, with_snapshot}
use Rattle.smf_model.specs.OwnerChanges.{IsHeldAs, IsVerdict, and_others, general_after, instance_with_previous, owner_of_instance, owner_put, owner_put_in, owners_behind, owners_beside, owners_of_service, owners_reverted, with_owner}
use Rattle.smf_model.specs.GeneralGroup.{Groups, current, general, owned_by_setting, owner_by, service_fmri, service_owner, setting, setting_by}
use Rattle.smf_model.proofs.Entries.{bare_groups, bare_instance, lookup_bare, rises_bare}
use Rattle.smf_model.proofs.LawLists.{apart_from_rises, differs, is_number, some_same}
use Rattle.smf_model.proofs.Written.{is_shown}

-- one step of a loop that puts changes after others
pub put_behind : (new old piece rest : List Change) → new ≡ old ++ piece → new ++ rest ≡ old ++ (piece ++ rest)
put_behind new old piece rest e = ap (λ (l : List Change). l ++ rest) e ∙ append_assoc old piece rest

-- ---- one instance

-- by its setting
one_by : (i : Instance) (s : Setting) (b d : Bool)
    → (if b && not d then PutInstance (with_owner i (owner_by s)) ∷ [] else [])
    ≡ cond (b && not d) (PutInstance (owned_by_setting b s i) ∷ []) []
one_by i s false d = refl
one_by i s true false = refl
one_by i s true true = refl

one_put : (gs : Groups) (i : Instance) → owner_put (setting gs i) i
    ≡ cond (is_unwritten gs i) (PutInstance (current gs i) ∷ []) []
unfolding current
one_put gs i = one_by i (setting gs i) (i.row.number == 0) (pointwise nat_eq i.row.owner (owner_by (setting gs i)))

-- those of a service that are to be written, and the changes that write them
abbrev is_to_write : Groups → List ℕ → Instance → Bool
is_to_write gs s i = belongs_to (owners.Service s) i && is_unwritten gs i

abbrev writes : Groups → List ℕ → List Instance → List Change
writes gs s is =
    map (λ i. PutInstance (current gs i)) (filter (λ i. belongs_to (owners.Service s) i && is_unwritten gs i) is)

-- one more at the front
front : (gs : Groups) (s : List ℕ) (i : Instance) (is : List Instance) (b d : Bool)
    → (if b then cond d (PutInstance (current gs i) ∷ []) [] else []) ++ writes gs s is
    ≡ map (λ j. PutInstance (current gs j))
    (cond (b && d) (i ∷ filter (λ j. belongs_to (owners.Service s) j && is_unwritten gs j) is)
    (filter (λ j. belongs_to (owners.Service s) j && is_unwritten gs j) is))
front gs s i is false d = refl
front gs s i is true false = refl
front gs s i is true true = refl

-- the groups `general` of an instance and of its service are these
abbrev SaysOf : Groups → List ℕ → Option GroupRecord → Option GroupRecord → Instance → Type 0
SaysOf gs s g own i = (group_in (gs (owners.Instance i.number)) general ≡ own)
    × (group_in (gs (owners.Service s)) general ≡ g)

its_setting : (gs : Groups) (s : List ℕ) (g own : Option GroupRecord) (i : Instance) → SaysOf gs s g own i
    → is_instance_of s i ≡ true → setting_by own g ≡ setting gs i
unfolding setting
its_setting gs s g own i says is =
    let of : service_fmri i.name ≡ s = same_text (service_fmri i.name) s is in
    sym (
    ap (λ (t : List ℕ). setting_by (group_in (gs (owners.Instance i.number)) general)
    (group_in (gs (owners.Service t)) general)) of
    ∙ (ap (λ (o : Option GroupRecord). setting_by (group_in (gs (owners.Instance i.number)) general) o) says.1
    ∙ ap (λ (o : Option GroupRecord). setting_by o g) says.0)
    )

head_by : (gs : Groups) (s : List ℕ) (g own : Option GroupRecord) (i : Instance) (b : Bool) → is_instance_of s i ≡ b
    → SaysOf gs s g own i
    → (if b then owner_put (setting_by own g) i else [])
    ≡ (if b then cond (is_unwritten gs i) (PutInstance (current gs i) ∷ []) [] else [])
head_by gs s g own i false e says = refl
head_by gs s g own i true e says = ap (λ (t : Setting). owner_put t i) (its_setting gs s g own i says e) ∙ one_put gs i

pub head : (gs : Groups) (s : List ℕ) (g own : Option GroupRecord) (i : Instance) (is : List Instance)
    (rest : List Change) → SaysOf gs s g own i → rest ≡ writes gs s is
    → owner_put_in s (setting_by own g) i ++ rest ≡ writes gs s (i ∷ is)
head gs s g own i is rest says e =
    ap (λ (l : List Change). owner_put_in s (setting_by own g) i ++ l) e
    ∙ (ap (λ (l : List Change). l ++ writes gs s is) (head_by gs s g own i (is_instance_of s i) refl says)
    ∙ front gs s i is (is_instance_of s i) (is_unwritten gs i))

-- ---- all of a service

abbrev AreSeen : Groups → List InstanceEntry → Type 0
AreSeen gs es = AllByRecursion (λ e. gs (owners.Instance e.instance.number) ≡ e.groups) es

of_service : (gs : Groups) (s : List ℕ) (g : Option GroupRecord) (es : List InstanceEntry) → AreSeen gs es
    → group_in (gs (owners.Service s)) general ≡ g → owners_of_service s g es ≡ writes gs s (bare es)
of_service gs s g [] seen e = refl
of_service gs s g (x ∷ es) seen e =
    head gs s g (group_in x.groups general) x.instance (bare es) (owners_of_service s g es)
    (ap (λ (l : List GroupRecord). group_in l general) seen.0, e) (of_service gs s g es seen.1 e)

-- ---- all of a service, of which one is reverted

abbrev AreSeenBeside : Groups → ℕ → List InstanceEntry → Type 0
AreSeenBeside gs n es =
    AllByRecursion (λ e. (e.instance.number ≡ n → ⊥) → gs (owners.Instance e.instance.number) ≡ e.groups) es

same_instance : (x y : Instance) → y.number ≡ x.number → in_place x y ≡ x
same_instance x y e = ap (λ (n : ℕ). let placed : Instance = record x { number = n } in placed) e

number_test : (a b : ℕ) (d : Bool) → (a == b) ≡ d → is_eq (nat_cmp a b) ≡ d
number_test a b true e = ap (λ (n : ℕ). is_eq (nat_cmp a n)) (sym (eqb-true a b e)) ∙ ap is_eq (same_key by_instance a)
number_test a b false e = by (is_eq (nat_cmp a b)) refl
  where
    clash : (d : Bool) → d ≡ true → d ≡ false → ⊥
    clash d e f = cc

    by : (d : Bool) → is_eq (nat_cmp a b) ≡ d → d ≡ false
    by false f = refl
    by true f = absurd (clash (a == b) (eq-eqb a b (by_instance.exact a b (equal_from_test (nat_cmp a b) f))) e)

beside : (gs : Groups) (s : List ℕ) (g : Option GroupRecord) (x : Instance) (own : Option GroupRecord)
    (es : List InstanceEntry)
    → AreSeenBeside gs x.number es → group_in (gs (owners.Instance x.number)) general ≡ own
    → group_in (gs (owners.Service s)) general ≡ g
    → owners_beside s g x own es ≡ writes gs s (put_over x (bare es))
beside gs s g x own [] seen e f = refl
beside gs s g x own (y ∷ es) seen e f = by (y.instance.number == x.number) refl (beside gs s g x own es seen.1 e f)
  where
    differs : (y.instance.number == x.number) ≡ false → y.instance.number ≡ x.number → ⊥
    differs d same = clash (y.instance.number == x.number) (eq-eqb y.instance.number x.number same) d
      where
        clash : (d : Bool) → d ≡ true → d ≡ false → ⊥
        clash d e f = cc

    by : (b : Bool) → (y.instance.number == x.number) ≡ b
        → owners_beside s g x own es ≡ writes gs s (put_over x (bare es))
        → (if b then owner_put_in s (setting_by own g) x
        else owner_put_in s (setting_by (group_in y.groups general) g) y.instance) ++ owners_beside s g x own es
        ≡ writes gs s
        ((if is_eq (nat_cmp y.instance.number x.number) then in_place x y.instance else y.instance) ∷ put_over x
        (bare es))
    by true d ih =
        head gs s g own x (put_over x (bare es)) (owners_beside s g x own es) (e, f) ih
        ∙ ap (λ (i : Instance). writes gs s (i ∷ put_over x (bare es)))
        (sym (same_instance x y.instance (eqb-true y.instance.number x.number d))
        ∙ ap (λ (t : Bool). if t then in_place x y.instance else y.instance)
        (sym (number_test y.instance.number x.number true d)))
    by false d ih =
        head gs s g (group_in y.groups general) y.instance (put_over x (bare es)) (owners_beside s g x own es)
        (ap (λ (l : List GroupRecord). group_in l general) (seen.0 (differs d)), f) ih
        ∙ ap (λ (i : Instance). writes gs s (i ∷ put_over x (bare es)))
        (ap (λ (t : Bool). if t then in_place x y.instance else y.instance)
        (sym (number_test y.instance.number x.number false d)))

-- ---- an instance alone

none_pass : (test : Instance → Bool) (n : ℕ) (xs : List Instance) → lookup by_instance xs n ≡ None
    → filter (λ i. (i.number == n) && test i) xs ≡ []
none_pass test n [] e = refl
none_pass test n (x ∷ xs) e = by (x.number == n) refl e (none_pass test n xs)
  where
    clash : None ≡ Some x → ⊥
    clash p = cc

    by : (b : Bool) → (x.number == n) ≡ b
        → cond (is_eq (nat_cmp x.number n)) (Some x) (lookup by_instance xs n) ≡ None
        → (lookup by_instance xs n ≡ None → filter (λ i. (i.number == n) && test i) xs ≡ [])
        → cond (b && test x) (x ∷ filter (λ i. (i.number == n) && test i) xs)
        (filter (λ i. (i.number == n) && test i) xs) ≡ []
    by true d e ih =
        absurd (clash
        (sym e ∙ ap (λ (t : Bool). cond t (Some x) (lookup by_instance xs n)) (number_test x.number n true d)))
    by false d e ih =
        ih (sym (ap (λ (t : Bool). cond t (Some x) (lookup by_instance xs n)) (number_test x.number n false d)) ∙ e)

abbrev one_of : (Instance → Bool) → Option Instance → List Instance
one_of test None = []
one_of test (Some i) = cond (test i) (i ∷ []) []

single : (test : Instance → Bool) (n : ℕ) (xs : List Instance) → AreApart xs
    → filter (λ i. (i.number == n) && test i) xs ≡ one_of test (lookup by_instance xs n)
single test n [] apart = refl
single test n (x ∷ xs) apart = by (x.number == n) refl (single test n xs apart.1)
  where
    by : (b : Bool) → (x.number == n) ≡ b
        → filter (λ i. (i.number == n) && test i) xs ≡ one_of test (lookup by_instance xs n)
        → cond (b && test x) (x ∷ filter (λ i. (i.number == n) && test i) xs)
        (filter (λ i. (i.number == n) && test i) xs)
        ≡ one_of test (cond (is_eq (nat_cmp x.number n)) (Some x) (lookup by_instance xs n))
    by true d ih =
        let none : lookup by_instance xs n ≡ None =
        ap (lookup by_instance xs) (sym (eqb-true x.number n d)) ∙ apart.0 in
        ap (λ (l : List Instance). cond (test x) (x ∷ l) l) (none_pass test n xs none)
        ∙ ap (λ (t : Bool). one_of test (cond t (Some x) (lookup by_instance xs n)))
        (sym (number_test x.number n true d))
    by false d ih =
        ih ∙ ap (λ (t : Bool). one_of test (cond t (Some x) (lookup by_instance xs n)))
        (sym (number_test x.number n false d))

alone_by : (gs : Groups) (i : Instance) (b : Bool)
    → cond b (PutInstance (current gs i) ∷ []) [] ≡ map (λ j. PutInstance (current gs j)) (cond b (i ∷ []) [])
alone_by gs i true = refl
alone_by gs i false = refl

-- ---- what is held once groups are put

-- each entry is found by its number
pub all_found : (es : List InstanceEntry) → Rises by_entry es
    → AllByRecursion (λ e. lookup by_entry es e.instance.number ≡ Some e) es
all_found [] r = tt
all_found (x ∷ es) r = (first, behind es (all_found es r.1))
  where
    first : lookup by_entry (x ∷ es) x.instance.number ≡ Some x
    first = ap (λ (b : Bool). cond b (Some x) (lookup by_entry es x.instance.number))
        (ap is_eq (same_key by_entry x.instance.number))

    clash : (e : InstanceEntry) → None ≡ Some e → ⊥
    clash e p = cc

    on : (e : InstanceEntry) (b : Bool) → is_eq (nat_cmp x.instance.number e.instance.number) ≡ b
        → lookup by_entry es e.instance.number ≡ Some e
        → cond b (Some x) (lookup by_entry es e.instance.number) ≡ Some e
    on e false d there = there
    on e true d there =
        let same : x.instance.number ≡ e.instance.number =
        by_instance.exact x.instance.number e.instance.number
        (equal_from_test (nat_cmp x.instance.number e.instance.number) d) in
        absurd (clash e (sym (none_above by_entry x.instance.number es r.0 r.1)
        ∙ (ap (lookup by_entry es) same ∙ there)))

    behind : (fs : List InstanceEntry) → AllByRecursion (λ e. lookup by_entry es e.instance.number ≡ Some e) fs
        → AllByRecursion (λ e. lookup by_entry (x ∷ es) e.instance.number ≡ Some e) fs
    behind [] a = tt
    behind (e ∷ fs) a = (on e (is_eq (nat_cmp x.instance.number e.instance.number)) refl a.0, behind fs a.1)

abbrev groups_in : Option InstanceEntry → List GroupRecord
groups_in o = unwrap_or (option_map (λ e. e.groups) o) []

-- in a value whose entries these are, each shows its groups
seen_by : (k : Holdings) (es fs : List InstanceEntry) → k.instances ≡ es
    → AllByRecursion (λ e. lookup by_entry es e.instance.number ≡ Some e) fs → AreSeen (groups_of k) fs
unfolding groups_of
seen_by k es [] same a = tt
seen_by k es (e ∷ fs) same a = (
  ap (λ (l : List InstanceEntry). groups_in (lookup by_entry l e.instance.number)) same ∙ ap groups_in a.0,
  seen_by k es fs same a.1,
)

abbrev give : List GroupRecord → InstanceEntry → InstanceEntry
give gs e = record e { groups = gs }

abbrev endow : List GroupRecord → Service → Service
endow gs s = record s { groups = gs }

abbrev services_in : Option Service → List GroupRecord
services_in o = unwrap_or (option_map (λ s. s.groups) o) []

amended_here : {X K : Type 0} (o : By X K) (k : K) (f : X → X) (xs : List X) → KeepsKeys o f
    → lookup o (amend o k f xs) k ≡ option_map f (lookup o xs k)
amended_here o k f xs same = lookup_amend o k f xs k same
    ∙ with_answer_here o (lookup o xs) k (option_map f (lookup o xs k))

amended_other : {X K : Type 0} (o : By X K) (j : K) (f : X → X) (xs : List X) (k : K) → KeepsKeys o f
    → is_eq (o.cmp j k) ≡ false → lookup o (amend o j f xs) k ≡ lookup o xs k
amended_other o j f xs k same apart = lookup_amend o j f xs k same
    ∙ with_answer_other o (lookup o xs) j (option_map f (lookup o xs k)) k apart

-- the groups of a service that is there, and of one that may not be
endowed_there : (gs : List GroupRecord) (o : Option Service) → is_some o ≡ true
    → services_in (option_map (endow gs) o) ≡ gs
endowed_there gs (Some s) e = refl
endowed_there gs None e = absurd cc

endowed : (gs : List GroupRecord) (o : Option Service)
    → group_in (services_in (option_map (endow gs) o)) general ≡ (if is_some o then group_in gs general else None)
endowed gs (Some s) = refl
endowed gs None = refl

-- ---- groups of a service are put

abbrev with_service_groups : Holdings → List ℕ → List GroupRecord → ℕ → Holdings
with_service_groups h name gs m = record h { services = amend by_service name (endow gs) h.services; revision = m }

service_put : (h : Holdings) (name : List ℕ) (gs : List GroupRecord) (m : ℕ) → is_some (service h name) ≡ true
    → groups_of (with_service_groups h name gs m) (owners.Service name) ≡ gs
unfolding groups_of
service_put h name gs m there = ap services_in (amended_here by_service name (endow gs) h.services (λ s. refl))
    ∙ endowed_there gs (service h name) there

behind_service : (h : Holdings) (name : List ℕ) (gs : List GroupRecord) (m : ℕ) → is_some (service h name) ≡ true
    → Rises by_entry h.instances
    → owners_of_service name (group_in gs general) h.instances
    ≡ owners_written (with_service_groups h name gs m) (owners.Service name)
behind_service h name gs m there ordered =
    let k : Holdings = with_service_groups h name gs m in
    of_service (groups_of k) name (group_in gs general) h.instances
    (seen_by k h.instances h.instances refl (all_found h.instances ordered))
    (ap (λ (l : List GroupRecord). group_in l general) (service_put h name gs m there))

-- ---- groups of an instance are put

abbrev with_instance_groups : Holdings → ℕ → List GroupRecord → ℕ → Holdings
with_instance_groups h n gs m = record h { instances = amend by_entry n (give gs) h.instances; revision = m }

given_there : (gs : List GroupRecord) (es : List InstanceEntry) (n : ℕ) (i : Instance)
    → lookup by_instance (bare es) n ≡ Some i → groups_in (option_map (give gs) (lookup by_entry es n)) ≡ gs
given_there gs es n i e = by (lookup by_entry es n) (sym (lookup_bare es n) ∙ e)
  where
    clash : None ≡ Some i → ⊥
    clash p = cc

    by : (o : Option InstanceEntry) → option_map (λ e. e.instance) o ≡ Some i → groups_in (option_map (give gs) o) ≡ gs
    by None p = absurd (clash p)
    by (Some y) p = refl

instance_put : (h : Holdings) (n : ℕ) (gs : List GroupRecord) (m : ℕ) (i : Instance) → instance h n ≡ Some i
    → groups_of (with_instance_groups h n gs m) (owners.Instance n) ≡ gs
unfolding groups_of
instance_put h n gs m i there = ap groups_in (amended_here by_entry n (give gs) h.instances (λ e. refl))
    ∙ given_there gs h.instances n i there

services_stay : (h : Holdings) (n : ℕ) (gs : List GroupRecord) (m : ℕ) (name : List ℕ)
    → groups_of (with_instance_groups h n gs m) (owners.Service name) ≡ groups_of h (owners.Service name)
unfolding groups_of
services_stay h n gs m name = refl

own_setting : (h : Holdings) (n : ℕ) (gs : List GroupRecord) (m : ℕ) (i : Instance) → instance h n ≡ Some i
    → setting_by (group_in gs general) (group_in (groups_of h (service_owner i)) general)
    ≡ setting (groups_of (with_instance_groups h n gs m)) i
unfolding setting
own_setting h n gs m i there =
    let k : Holdings = with_instance_groups h n gs m in
    let own : groups_of k (owners.Instance i.number) ≡ gs =
    ap (λ (d : ℕ). groups_of k (owners.Instance d)) (is_number n (instances h) i there)
    ∙ instance_put h n gs m i there in
    sym (
    ap (λ (l : List GroupRecord). setting_by (group_in l general) (group_in (groups_of k (service_owner i)) general))
    own
    ∙ ap (λ (l : List GroupRecord). setting_by (group_in gs general) (group_in l general))
    (services_stay h n gs m (service_fmri i.name))
    )

own_by : (h : Holdings) (n : ℕ) (gs : List GroupRecord) (m : ℕ) (o : Option Instance) → instance h n ≡ o
    → owner_of_instance h (group_in gs general) o
    ≡ map (λ j. PutInstance (current (groups_of (with_instance_groups h n gs m)) j))
    (one_of (is_unwritten (groups_of (with_instance_groups h n gs m))) o)
own_by h n gs m None e = refl
own_by h n gs m (Some i) e =
    let gs2 : Groups = groups_of (with_instance_groups h n gs m) in
    ap (λ (t : Setting). owner_put t i) (own_setting h n gs m i e)
    ∙ (one_put gs2 i ∙ alone_by gs2 i (is_unwritten gs2 i))

behind_instance : (h : Holdings) (n : ℕ) (gs : List GroupRecord) (m : ℕ) → Rises by_entry h.instances
    → owner_of_instance h (group_in gs general) (instance h n)
    ≡ owners_written (with_instance_groups h n gs m) (owners.Instance n)
behind_instance h n gs m ordered =
    let k : Holdings = with_instance_groups h n gs m in
    let gs2 : Groups = groups_of k in
    own_by h n gs m (instance h n) refl
    ∙ ap (map (λ j. PutInstance (current gs2 j)))
    (sym (single (is_unwritten gs2) n (instances h) (apart_from_rises (instances h) (rises_bare h.instances ordered)))
    ∙ ap (filter (λ i. (i.number == n) && is_unwritten gs2 i)) (sym (bare_groups n gs h.instances)))

-- the owners worked out before groups are put are those that are left to write afterwards
pub put_is_written : (h : Holdings) (owner : Owner) (gs : List GroupRecord) (m : ℕ) → is_there h owner ≡ true
    → Rises by_entry h.instances
    → owners_behind h owner gs
    ≡ owners_written (holdings_after_changes h (PutGroups owner gs ∷ SetRevision m ∷ [])) owner
unfolding owners_behind holdings_after_changes
put_is_written h (owners.Service name) gs m there ordered = behind_service h name gs m there ordered
put_is_written h (owners.Instance n) gs m there ordered = behind_instance h n gs m ordered

-- ---- a revert

abbrev after_revert : Holdings → List ℕ → Instance → List GroupRecord → List GroupRecord → List Snapshot → ℕ → ℕ
    → Holdings
after_revert h name x ss gs shots next_one m =
    record h {
      services = amend by_service name (endow ss) h.services;
      instances = amend by_entry x.number (give gs) (amend by_entry x.number (with_instance x) h.instances);
      snapshots = shots;
      next_snapshot = next_one;
      revision = m;
    }

module _ (h : Holdings) (x : Instance) (ss gs : List GroupRecord) (shots : List Snapshot) (next_one m : ℕ) where
  abbrev reverted_name : List ℕ
  reverted_name = service_fmri x.name

  abbrev after_it : Holdings
  after_it = after_revert h (service_fmri x.name) x ss gs shots next_one m

  service_after : group_in (groups_of after_it (owners.Service (service_fmri x.name))) general
      ≡ general_after h (service_fmri x.name) ss
  unfolding groups_of
  service_after =
      ap (λ (o : Option Service). group_in (services_in o) general)
      (amended_here by_service (service_fmri x.name) (endow ss) h.services (λ s. refl))
      ∙ endowed ss (service h (service_fmri x.name))

  own_after_by : (o : Option InstanceEntry) (i : Instance) → option_map (λ e. e.instance) o ≡ Some i
      → groups_in (option_map (give gs) (option_map (with_instance x) o)) ≡ gs
  own_after_by None i e = absurd (clash e)
    where
      clash : None ≡ Some i → ⊥
      clash p = cc
  own_after_by (Some y) i e = refl

  own_after : (i : Instance) → instance h x.number ≡ Some i → groups_of after_it (owners.Instance x.number) ≡ gs
  unfolding groups_of
  own_after i there =
      ap groups_in (amended_here by_entry x.number (give gs) (amend by_entry x.number (with_instance x) h.instances)
      (λ e. refl))
      ∙ (ap (λ (o : Option InstanceEntry). groups_in (option_map (give gs) o))
      (amended_here by_entry x.number (with_instance x) h.instances (λ e. refl))
      ∙ own_after_by (lookup by_entry h.instances x.number) i (sym (lookup_bare h.instances x.number) ∙ there))

  other_after : (e : InstanceEntry) → (e.instance.number ≡ x.number → ⊥)
      → lookup by_entry h.instances e.instance.number ≡ Some e
      → groups_of after_it (owners.Instance e.instance.number) ≡ e.groups
  unfolding groups_of
  other_after e apart there =
      let test : is_eq (nat_cmp x.number e.instance.number) ≡ false =
      differs by_instance x.number e.instance.number (λ same. apart (sym same)) in
      ap groups_in (amended_other by_entry x.number (give gs)
      (amend by_entry x.number (with_instance x) h.instances) e.instance.number (λ f. refl) test
      ∙ (amended_other by_entry x.number (with_instance x) h.instances e.instance.number (λ f. refl) test ∙ there))

  seen_after : (fs : List InstanceEntry)
      → AllByRecursion (λ e. lookup by_entry h.instances e.instance.number ≡ Some e) fs
      → AreSeenBeside (groups_of after_it) x.number fs
  seen_after [] a = tt
  seen_after (e ∷ fs) a = (λ apart. other_after e apart a.0, seen_after fs a.1)

  instances_after : instances after_it ≡ put_over x (instances h)
  instances_after = bare_groups x.number gs (amend by_entry x.number (with_instance x) h.instances)
      ∙ bare_instance x h.instances

  revert_written : (i : Instance) → instance h x.number ≡ Some i → Rises by_entry h.instances
      → owners_beside (service_fmri x.name) (general_after h (service_fmri x.name) ss) x
      (group_in gs general) h.instances ≡ owners_written after_it (owners.Service (service_fmri x.name))
  revert_written i there ordered =
      beside (groups_of after_it) (service_fmri x.name) (general_after h (service_fmri x.name) ss) x
      (group_in gs general) h.instances
      (seen_after h.instances (all_found h.instances ordered))
      (ap (λ (l : List GroupRecord). group_in l general) (own_after i there)) service_after
      ∙ ap (writes (groups_of after_it) (service_fmri x.name)) (sym instances_after)

-- the owners worked out before a revert are those that are left to write afterwards
pub revert_is_written : (h : Holdings) (i : Instance) (ss gs : List GroupRecord) (s : Snapshot) (n m : ℕ)
    → IsHeldAs h i → Rises by_entry h.instances
    → owners_reverted h i ss gs
    ≡ owners_written
    (holdings_after_changes h
    (AddSnapshot s ∷ NextSnapshot n ∷ (changes_for_revert h i ss gs ++ SetRevision m ∷ []))) (service_owner i)
unfolding owners_reverted holdings_after_changes
revert_is_written h i ss gs s n m held ordered =
    revert_written h (instance_with_previous h i) ss gs
    (put_new by_snapshot s h.snapshots) n m held.held held.found ordered

-- ---- what is done

-- an outcome with more changes after its own
abbrev pub with_others : Asked → List Change → Asked
with_others a others = record a { changes = and_others a.changes others a.reply }

pub put_done : (h : Holdings) (owner : Owner) (gs : List GroupRecord) → is_there h owner ≡ true
    → Rises by_entry h.instances
    → with_others (acceptance_with h (PutGroups owner gs ∷ []) Done) (owners_behind h owner gs)
    ≡ with_owners h (Some owner) (acceptance_with h (PutGroups owner gs ∷ []) Done)
unfolding with_owners
put_done h owner gs there ordered = by (nat_lt h.revision greatest)
  where
    all : Bool → Asked
    all b = if b then (record { changes = PutGroups owner gs ∷ SetRevision (h.revision + 1) ∷ []; reply = Done })
        else refusal_with Limit

    by : (b : Bool) → with_others (all b) (owners_behind h owner gs)
        ≡ record (all b) { changes = and_owners h owner (all b).changes (all b).reply }
    by true =
        ap (λ (l : List Change).
        let a : Asked =
        record { changes = PutGroups owner gs ∷ SetRevision (h.revision + 1) ∷ l; reply = Done } in a)
        (put_is_written h owner gs (h.revision + 1) there ordered)
    by false = refl

pub revert_done : (h : Holdings) (i : Instance) (ss gs : List GroupRecord) → IsHeldAs h i → Rises by_entry h.instances
    → with_others (with_snapshot h i (changes_for_revert h i ss gs) Done) (owners_reverted h i ss gs)
    ≡ with_owners h (Some (service_owner i)) (with_snapshot h i (changes_for_revert h i ss gs) Done)
unfolding with_owners
revert_done h i ss gs held ordered = by (nat_le h.next_snapshot greatest_snapshot) (nat_lt h.revision greatest)
  where
    changes : List Change
    changes = AddSnapshot (snapshot_of h i) ∷ NextSnapshot (h.next_snapshot + 1) ∷ changes_for_revert h i ss gs

    all : Bool → Bool → Asked
    all b d = if b
        then (if d then (record { changes = changes ++ SetRevision (h.revision + 1) ∷ []; reply = Done })
        else refusal_with Limit) else refusal_with Limit

    by : (b d : Bool) → with_others (all b d) (owners_reverted h i ss gs)
        ≡ record (all b d) { changes = and_owners h (service_owner i) (all b d).changes (all b d).reply }
    by true true =
        ap (λ (l : List Change).
        let a : Asked = record { changes = (changes ++ SetRevision (h.revision + 1) ∷ []) ++ l; reply = Done } in a)
        (revert_is_written h i ss gs (snapshot_of h i) (h.next_snapshot + 1) (h.revision + 1) held ordered)
    by true false = refl
    by false d = refl

-- a refusal is as it was
pub refused_alone : (h : Holdings) (o : Option Owner) (r : CommandReply) → is_accepted r ≡ false
    → refusal_with r ≡ with_owners h o (refusal_with r)
unfolding with_owners
refused_alone h None r e = refl
refused_alone h (Some owner) (Made n) e = refl
refused_alone h (Some owner) (Granted row) e = refl
refused_alone h (Some owner) Done e = absurd cc
refused_alone h (Some owner) NoSuch e = refl
refused_alone h (Some owner) InUse e = refl
refused_alone h (Some owner) NotInState e = refl
refused_alone h (Some owner) Exists e = refl
refused_alone h (Some owner) (Denied fault) e = refl
refused_alone h (Some owner) Limit e = refl
refused_alone h (Some owner) (Stale why row) e = refl

-- an instance as it is found is held, and its service is that of the one that is held
pub found_held : (h : Holdings) (n : ℕ) (i : Instance) → current_instance h n ≡ Some i → IsHeldAs h i
found_held h n i e = by (instance h n) refl e
  where
    by : (o : Option Instance) → instance h n ≡ o → option_map (current (groups_of h)) o ≡ Some i → IsHeldAs h i
    by None there f = absurd (clash f)
      where
        clash : None ≡ Some i → ⊥
        clash p = cc
    by (Some x) there f =
        let shown = is_shown (groups_of h) x in
        subst (λ (y : Instance). IsHeldAs h y) (some_same (current (groups_of h) x) i f)
        (record {
          held = x;
          found = ap (instance h) (shown.number ∙ is_number n (instances h) x there) ∙ there;
          name = shown.name;
        })

pub found_service : (h : Holdings) (n : ℕ) (i : Instance) → current_instance h n ≡ Some i
    → option_map service_owner (instance h n) ≡ Some (service_owner i)
found_service h n i e = by (instance h n) e
  where
    by : (o : Option Instance) → option_map (current (groups_of h)) o ≡ Some i
        → option_map service_owner o ≡ Some (service_owner i)
    by None f = absurd (clash f)
      where
        clash : None ≡ Some i → ⊥
        clash p = cc
    by (Some x) f =
        ap Some (ap (λ (name : List ℕ). owners.Service (service_fmri name))
        (sym (is_shown (groups_of h) x).name ∙ ap (λ (z : Instance). z.name) (some_same (current (groups_of h) x) i f)))

-- ---- refusals of an edit of which owners may come

past_by : (h : Holdings) (o : Option Owner) (a : Asked) (b : Bool) → b ≡ true
    → refusal_with Limit ≡ with_owners h o (if b then refusal_with Limit else a)
past_by h o a true e = refused_alone h o Limit refl
past_by h o a false e = absurd cc

within_by : (h : Holdings) (o : Option Owner) (a x : Asked) (b : Bool) → b ≡ false
    → with_owners h o a ≡ with_owners h o (if b then x else a)
within_by h o a x true e = absurd cc
within_by h o a x false e = refl

pub past_refused : (h : Holdings) (i : Instance) (ss gs : List GroupRecord)
    → (is_past_most ss || is_past_most gs) ≡ true
    → refusal_with Limit ≡ with_owners h (Some (service_owner i)) (reverted_to h i ss gs)
past_refused h i ss gs e =
    past_by h (Some (service_owner i)) (with_snapshot h i (changes_for_revert h i ss gs) Done)
    (is_past_most ss || is_past_most gs) e

pub within_most : (h : Holdings) (i : Instance) (ss gs : List GroupRecord)
    → (is_past_most ss || is_past_most gs) ≡ false
    → with_owners h (Some (service_owner i)) (with_snapshot h i (changes_for_revert h i ss gs) Done)
    ≡ with_owners h (Some (service_owner i)) (reverted_to h i ss gs)
within_most h i ss gs e =
    within_by h (Some (service_owner i)) (with_snapshot h i (changes_for_revert h i ss gs) Done) (refusal_with Limit)
    (is_past_most ss || is_past_most gs) e

pub absent_refused : (h : Holdings) (o : Option Owner) (owner : Owner) (name : List ℕ) (a : Asked)
    → is_there h owner ≡ false → refusal_with NoSuch ≡ with_owners h o (outcome_if_editable h owner name a)
absent_refused h o owner name a e = by (is_there h owner) (is_made owner name) e
  where
    by : (b d : Bool) → b ≡ false → refusal_with NoSuch
        ≡ with_owners h o (if not b then refusal_with NoSuch else if d then refusal_with InUse else a)
    by false d e = refused_alone h o NoSuch refl
    by true d e = absurd cc

pub made_refused : (h : Holdings) (o : Option Owner) (owner : Owner) (name : List ℕ) (a : Asked)
    → is_there h owner ≡ true → is_made owner name ≡ true
    → refusal_with InUse ≡ with_owners h o (outcome_if_editable h owner name a)
made_refused h o owner name a e f = by (is_there h owner) (is_made owner name) e f
  where
    by : (b d : Bool) → b ≡ true → d ≡ true
        → refusal_with InUse
        ≡ with_owners h o (if not b then refusal_with NoSuch else if d then refusal_with InUse else a)
    by true true e f = refused_alone h o InUse refl
    by true false e f = absurd cc
    by false d e f = absurd cc

pub let_through : (h : Holdings) (o : Option Owner) (owner : Owner) (name : List ℕ) (a : Asked)
    → is_there h owner ≡ true → is_made owner name ≡ false
    → with_owners h o a ≡ with_owners h o (outcome_if_editable h owner name a)
let_through h o owner name a e f = by (is_there h owner) (is_made owner name) e f
  where
    by : (b d : Bool) → b ≡ true → d ≡ false
        → with_owners h o a
        ≡ with_owners h o (if not b then refusal_with NoSuch else if d then refusal_with InUse else a)
    by true false e f = refl
    by true true e f = absurd cc
    by false d e f = absurd cc

pub not_general : (h : Holdings) (owner : Owner) (name : List ℕ) (a : Asked) → pointwise nat_eq name general ≡ false
    → a ≡ with_owners h (if_general owner name) a
unfolding with_owners
not_general h owner name a e = by (pointwise nat_eq name general) e
  where
    by : (b : Bool) → b ≡ false → a ≡ with_owners h (if b then Some owner else None) a
    by false e = refl
    by true e = absurd cc

-- no group of the name is there
pub group_absent : (h : Holdings) (owner : Owner) (name : List ℕ) (o : Option Owner)
    (ask : Option GroupRecord → Asked) (g : Option GroupRecord)
    → is_there h owner ≡ true → is_made owner name ≡ false → ask None ≡ refusal_with NoSuch → g ≡ None
    → refusal_with NoSuch ≡ with_owners h o (outcome_if_editable h owner name (ask g))
group_absent h owner name o ask g there made none e =
    refused_alone h o NoSuch refl
    ∙ (ap (with_owners h o) (sym none ∙ ap ask (sym e)) ∙ let_through h o owner name (ask g) there made)

-- an edit of the properties was refused
pub change_denied : (h : Holdings) (owner : Owner) (name : List ℕ) (o : Option Owner) (change : PropertyChange)
    (g : GroupRecord) (fault : GroupFault)
    → is_there h owner ≡ true → is_made owner name ≡ false → group h owner name ≡ Some g
    → property_changed change g ≡ Err fault
    → refusal_with (Denied fault) ≡ with_owners h o (asked_property h owner name change)
change_denied h owner name o change g fault there made e f =
    refused_alone h o (Denied fault) refl
    ∙ (ap (with_owners h o) (ap (put_or_denied h owner) (sym f) ∙ ap (changed_group h owner change) (sym e))
    ∙ let_through h o owner name (changed_group h owner change (group h owner name)) there made)

-- ---- reverts that are refused

pub no_snapshot : (h : Holdings) (i : Instance) (o : Option Snapshot) → o ≡ None
    → refusal_with NoSuch ≡ with_owners h (Some (service_owner i)) (outcome_of_revert h i o)
no_snapshot h i o e = refused_alone h (Some (service_owner i)) NoSuch refl
    ∙ ap (λ (s : Option Snapshot). with_owners h (Some (service_owner i)) (outcome_of_revert h i s)) (sym e)

pub no_instance : (h : Holdings) (n : ℕ) (name : SnapshotName) → current_instance h n ≡ None
    → refusal_with NoSuch ≡ with_owners h (option_map service_owner (instance h n))
    (asked_revert h name (current_instance h n))
no_instance h n name e =
    refused_alone h (option_map service_owner (instance h n)) NoSuch refl
    ∙ ap (λ (o : Option Instance). with_owners h (option_map service_owner (instance h n)) (asked_revert h name o))
    (sym e)

pub revert_found : (h : Holdings) (n : ℕ) (name : SnapshotName) (i : Instance) → current_instance h n ≡ Some i
    → with_owners h (Some (service_owner i)) (outcome_of_revert h i (named_snapshot h (number_of i name)))
    ≡ with_owners h (option_map service_owner (instance h n)) (asked_revert h name (current_instance h n))
revert_found h n name i e =
    ap (λ (o : Option Owner). with_owners h o (outcome_of_revert h i (named_snapshot h (number_of i name))))
    (sym (found_service h n i e))
    ∙ ap (λ (o : Option Instance). with_owners h (option_map service_owner (instance h n)) (asked_revert h name o))
    (sym e)

-- the result is this fault, if memory did not run out
pub told_fault : {Y : Type 0} (f fault : GroupFault) (given : Result Y GroupFault) → Fails fault given
    → IsVerdict f fault → given ≡ Err f
told_fault f Memory given told v = absurd v
told_fault f faults.NoSuch given told v = told ∙ ap Err (sym v)
told_fault f NeedsKind given told v = told ∙ ap Err (sym v)
told_fault f KindDiffers given told v = told ∙ ap Err (sym v)
told_fault f TooLong given told v = told ∙ ap Err (sym v)
told_fault f (NotA kind) given told v = told ∙ ap Err (sym v)
told_fault f Range given told v = told ∙ ap Err (sym v)
told_fault f Full given told v = told ∙ ap Err (sym v)
