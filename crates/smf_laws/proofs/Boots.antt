-- A boot keeps the rules of a value.
use Rattle.std.proofs.Common.{◌≡◌, ℕ, ◌+◌, ◌<◌, ◌≤◌, ◌||◌, not, nat_lt, Bool, true, false, cond, if◌then◌else◌, List, [], ◌∷◌, ◌++◌, map, Option, Some, refl, sym, ap, ◌∙◌, subst, arith, ltb-true}
use Rattle.std.specs.List.{AllByRecursion, list_any}
use Rattle.std.specs.Option.{option_map_or}
use Rattle.std.specs.Prelude.{filter}
use Rattle.smf_fmri.specs.ByKey.{By, IsBelowFirst, Rises, has_key, lookup}
use Rattle.smf_fmri.proofs.Lookups.{equal_from_test, lookup_put, same_key, with_answer_other}
use Rattle.smf_fmri.proofs.Places.{none_above}
use Rattle.smf_state.specs.Rows.{greatest_number}
use Rattle.smf_model.specs.declared.change.Change.{Change}
use Rattle.smf_model.specs.declared.change.Change.TheVariants.{PutGroups, PutInstance, PutLaunch}
use Rattle.smf_model.specs.declared.command.CommandReply.TheVariants.{Done, Limit}
use Rattle.smf_model.specs.declared.held.Instance.{Instance}
use Rattle.smf_model.specs.declared.held.InstanceEntry.{InstanceEntry}
use Rattle.smf_model.specs.declared.held.Launch.{Launch}
use Rattle.smf_model.specs.declared.held.Owner.{Owner}
use Rattle.smf_model.specs.declared.held.Owner.TheVariants as owners
use Rattle.smf_model.specs.declared.held.Service.{Service}
use Rattle.smf_model.specs.Contents.{Holdings}
use Rattle.smf_model.specs.Laws.{IsNumbered}
use Rattle.smf_model.specs.Look.{by_entry, by_instance, by_launch, by_service, holdings_after_change, groups_of, holdings_after_changes, instances, launch_of}
use Rattle.smf_model.specs.Next.{acceptance_with, all_booted, asked_boot, instance_after_boot, booted_row, changes_for_boot, greatest, has_dropped, instance_kept, is_last_launch, is_last_number, is_persistent, kept_groups, kept_of_instances, kept_of_services, may_not_boot, persistent, refusal_with, change_of_relaunch, service_kept}
use Rattle.smf_model.specs.GeneralGroup.{Groups, owner_by, setting}
use Rattle.smf_model.proofs.Entries.{rises_bare}
use Rattle.smf_model.proofs.LawLists.{differs, no_such}
use Rattle.smf_model.proofs.LawOutcomes.{installed_append}
use Rattle.smf_laws.specs.Consistent.{AreOwned, IsConsistent, IsInstanceHeld, IsLaunchHeld}
use Rattle.smf_laws.proofs.CommandChanges.{Keeps, accepts, groups_put, refuses, with_row_held}
use Rattle.smf_laws.proofs.Held.{Follows, Grows, follows_on, grows_on, instance_grows, instance_put, itself, launch_put, own_grows}
use Rattle.smf_laws.proofs.Owned.{owned_filter}

-- ---- every item

found_behind : {X K : Type 0} (o : By X K) (x : X) (xs : List X) (k : K) (y : X) → IsBelowFirst o (o.key x) xs
    → Rises o xs → lookup o xs k ≡ Some y → lookup o (x ∷ xs) k ≡ Some y
found_behind o x xs k y low r e = by (has_key o k x) refl
  where
    by : (b : Bool) → has_key o k x ≡ b → cond b (Some x) (lookup o xs k) ≡ Some y
    by false h = e
    by true h =
        let same : o.key x ≡ k = o.exact (o.key x) k (equal_from_test _ h) in
        absurd (no_such (lookup o xs k) y (ap (lookup o xs) (sym same) ∙ none_above o (o.key x) xs low r) e)

found_first : {X K : Type 0} (o : By X K) (x : X) (xs : List X) → lookup o (x ∷ xs) (o.key x) ≡ Some x
found_first o x xs = rw (same_key o (o.key x)) refl

-- a fact that holds of each item that is found holds of every item
each_found : {X K : Type 0} (o : By X K) (P : X → Type 0) (xs : List X) → Rises o xs
    → ((k : K) (x : X) → lookup o xs k ≡ Some x → P x) → AllByRecursion P xs
each_found o P [] r f = tt
each_found o P (x ∷ xs) r f =
    (f (o.key x) x (found_first o x xs), each_found o P xs r.1 (λ k y e. f k y (found_behind o x xs k y r.0 r.1 e)))

none_any : {X : Type 0} (test : X → Bool) (xs : List X) → list_any test xs ≡ false
    → AllByRecursion (λ x. test x ≡ false) xs
none_any test [] e = tt
none_any test (x ∷ xs) e = by (test x) refl e (none_any test xs)
  where
    by : (b : Bool) → test x ≡ b → (b || list_any test xs) ≡ false
        → (list_any test xs ≡ false → AllByRecursion (λ y. test y ≡ false) xs)
        → (test x ≡ false) × AllByRecursion (λ y. test y ≡ false) xs
    by true h e ih = absurd cc
    by false h e ih = (h, ih e)

both : {X : Type 0} (P Q : X → Type 0) (xs : List X) → AllByRecursion P xs → AllByRecursion Q xs
    → AllByRecursion (λ x. P x × Q x) xs
both P Q [] a b = tt
both P Q (x ∷ xs) a b = ((a.0, b.0), both P Q xs a.1 b.1)

-- ---- launches

more_same : (n m : ℕ) → n ≡ m → n ≤ m + 1
more_same n m e = omega arith

abbrev MayRise : Launch → Type 0
MayRise l = IsLaunchHeld l × (is_last_launch l ≡ false)

rises_once : (b : Bool) → not b ≡ false → b ≡ true
rises_once true e = refl
rises_once false e = absurd cc

raised : (n m : ℕ) → not (nat_lt n m) ≡ false → n + 1 ≤ m
raised n m e = let low : n < m = ltb-true n m (rises_once (nat_lt n m) e) in omega arith

relaunches : (k : Holdings) (ls : List Launch) → IsConsistent k → Rises by_launch ls → AllByRecursion MayRise ls
    → ((name : List ℕ) (l : Launch) → lookup by_launch ls name ≡ Some l → lookup by_launch k.launches name ≡ Some l)
    → Follows k (holdings_after_changes k (map change_of_relaunch ls))
unfolding holdings_after_changes
relaunches k [] c r may there = itself k c
relaunches k (l ∷ ls) c r may there =
    let x : Launch = record { restarter = l.restarter; count = l.count + 1 } in
    let at : lookup by_launch k.launches l.restarter ≡ Some l = there l.restarter l (found_first by_launch l ls) in
    let more : launch_of k l.restarter ≤ l.count + 1 =
    more_same (launch_of k l.restarter) l.count (ap (λ (o : Option Launch). option_map_or (λ m. m.count) o 0) at) in
    let one : Follows k (holdings_after_change k (PutLaunch x)) =
    launch_put k x c (record { named = may.0.0.named; count = raised l.count greatest may.0.1 }) more in
    follows_on k (holdings_after_change k (PutLaunch x)) _ one
    (relaunches (holdings_after_change k (PutLaunch x)) ls one.consistent r.1 may.1
    (λ name m e.
    lookup_put by_launch x k.launches name
    ∙ with_answer_other by_launch (lookup by_launch k.launches) l.restarter (Some x) name
    (differs by_launch l.restarter name
    (λ same. no_such (lookup by_launch ls l.restarter) m (none_above by_launch l.restarter ls r.0 r.1)
    (ap (lookup by_launch ls) same ∙ e)))
    ∙ there name m (found_behind by_launch l ls name m r.0 r.1 e)))

-- ---- groups

every_filter : {X : Type 0} (P : X → Type 0) (test : X → Bool) (xs : List X) → AllByRecursion P xs
    → AllByRecursion P (filter test xs)
every_filter P test [] a = tt
every_filter P test (x ∷ xs) a = by (test x) (every_filter P test xs a.1)
  where
    by : (b : Bool) → AllByRecursion P (filter test xs)
        → AllByRecursion P (cond b (x ∷ filter test xs) (filter test xs))
    by true rest = (a.0, rest)
    by false rest = rest

services_kept : (k : Holdings) (ss : List Service) → IsConsistent k → AllByRecursion (λ s. AreOwned s.groups) ss
    → Follows k (holdings_after_changes k (map service_kept ss))
unfolding holdings_after_changes
services_kept k [] c a = itself k c
services_kept k (s ∷ ss) c a =
    let one : Follows k (holdings_after_change k (PutGroups (owners.Service s.name) (kept_groups s.groups))) =
    groups_put k (owners.Service s.name) (kept_groups s.groups) c (owned_filter is_persistent s.groups a.0) in
    follows_on k (holdings_after_change k (PutGroups (owners.Service s.name) (kept_groups s.groups))) _ one
    (services_kept (holdings_after_change k (PutGroups (owners.Service s.name) (kept_groups s.groups))) ss
    one.consistent a.1)

instances_kept : (k : Holdings) (es : List InstanceEntry) → IsConsistent k
    → AllByRecursion (λ e. AreOwned e.groups) es → Follows k (holdings_after_changes k (map instance_kept es))
unfolding holdings_after_changes
instances_kept k [] c a = itself k c
instances_kept k (e ∷ es) c a =
    let owner : Owner = owners.Instance e.instance.number in
    let one : Follows k (holdings_after_change k (PutGroups owner (kept_groups e.groups))) =
    groups_put k owner (kept_groups e.groups) c (owned_filter is_persistent e.groups a.0) in
    follows_on k (holdings_after_change k (PutGroups owner (kept_groups e.groups))) _ one
    (instances_kept (holdings_after_change k (PutGroups owner (kept_groups e.groups))) es one.consistent a.1)

-- ---- instances

booted_held : (h k : Holdings) (gs : Groups) (i : Instance) → Grows h k → IsInstanceHeld h i
    → is_last_number i ≡ false → IsInstanceHeld k (instance_after_boot gs i)
booted_held h k gs i g held low =
    with_row_held k i (booted_row i.row (owner_by (setting gs i))) (instance_grows h k g i held)
    (record {
      live = tt;
      side = tt;
      last = held.bounded.last;
      number = raised i.row.number greatest_number low;
      serial = omega arith;
    })
    (record { given = omega arith; first = λ e. refl })
    (own_grows h k g i.number i.row.running held.snapshots.running)
    (own_grows h k g i.number i.row.begun held.snapshots.begun)

each : {X : Type 0} (P Q : X → Type 0) → ((x : X) → P x → Q x) → (xs : List X) → AllByRecursion P xs
    → AllByRecursion Q xs
each P Q f [] a = tt
each P Q f (x ∷ xs) a = (f x a.0, each P Q f xs a.1)

all_anew : (k : Holdings) (gs : Groups) (is : List Instance) → IsConsistent k
    → AllByRecursion (λ i. IsInstanceHeld k (instance_after_boot gs i)) is
    → Follows k (holdings_after_changes k (all_booted gs is))
unfolding holdings_after_changes
all_anew k gs [] c a = itself k c
all_anew k gs (i ∷ is) c a =
    let k1 : Holdings = holdings_after_change k (PutInstance (instance_after_boot gs i)) in
    let one : Follows k (holdings_after_change k (PutInstance (instance_after_boot gs i))) =
    instance_put k (instance_after_boot gs i) c a.0 in
    follows_on k k1 _ one
    (all_anew k1 gs is one.consistent
    (each (λ j. IsInstanceHeld k (instance_after_boot gs j)) (λ j. IsInstanceHeld k1 (instance_after_boot gs j))
    (λ j held. instance_grows k k1 one.grows (instance_after_boot gs j) held) is a.1))

-- ---- the whole

neither : (a b : Bool) → (a || b) ≡ false → (a ≡ false) × (b ≡ false)
neither true b e = absurd cc
neither false b e = (refl, e)

boots_all : (h : Holdings) → IsNumbered h → IsConsistent h → may_not_boot h ≡ false
    → IsConsistent (holdings_after_changes h (changes_for_boot h))
boots_all h b c may =
    let gs : Groups = persistent (groups_of h) in
    let parts = neither (list_any is_last_launch h.launches) (list_any is_last_number (instances h)) may in
    let ls : List Change = map change_of_relaunch h.launches in
    let ss : List Change = kept_of_services h.services in
    let es : List Change = kept_of_instances h.instances in
    let held : AllByRecursion IsLaunchHeld h.launches =
    each_found by_launch IsLaunchHeld h.launches b.ordered.launches c.launches in
    let one : Follows h (holdings_after_changes h ls) =
    relaunches h h.launches c b.ordered.launches
    (both IsLaunchHeld (λ l. is_last_launch l ≡ false) h.launches held
    (none_any is_last_launch h.launches parts.0)) (λ name l e. e) in
    let two : Follows (holdings_after_changes h ls) (holdings_after_changes (holdings_after_changes h ls) ss) =
    services_kept (holdings_after_changes h ls) (filter (λ s. has_dropped s.groups) h.services) one.consistent
    (every_filter (λ s. AreOwned s.groups) (λ s. has_dropped s.groups) h.services
    (each_found by_service (λ s. AreOwned s.groups) h.services b.ordered.services
    (λ name s e. (c.services name s e).groups))) in
    let three : Follows (holdings_after_changes (holdings_after_changes h ls) ss)
    (holdings_after_changes (holdings_after_changes (holdings_after_changes h ls) ss) es) =
    instances_kept (holdings_after_changes (holdings_after_changes h ls) ss)
    (filter (λ e. has_dropped e.groups) h.instances) two.consistent
    (every_filter (λ e. AreOwned e.groups) (λ e. has_dropped e.groups) h.instances
    (each_found by_entry (λ e. AreOwned e.groups) h.instances b.ordered.instances c.groups)) in
    let k : Holdings = holdings_after_changes (holdings_after_changes (holdings_after_changes h ls) ss) es in
    let g : Grows h k =
    grows_on h (holdings_after_changes h ls) k one.grows
    (grows_on (holdings_after_changes h ls) (holdings_after_changes (holdings_after_changes h ls) ss) k two.grows
    three.grows) in
    let there : AllByRecursion (λ i. IsInstanceHeld h i × (is_last_number i ≡ false)) (instances h) =
    both (IsInstanceHeld h) (λ i. is_last_number i ≡ false) (instances h)
    (each_found by_instance (IsInstanceHeld h) (instances h)
    (rises_bare h.instances b.ordered.instances) c.instances) (none_any is_last_number (instances h) parts.1) in
    let four : Follows k (holdings_after_changes k (all_booted gs (instances h))) =
    all_anew k gs (instances h) three.consistent
    (each (λ i. IsInstanceHeld h i × (is_last_number i ≡ false))
    (λ i. IsInstanceHeld k (instance_after_boot gs i)) (λ i a. booted_held h k gs i g a.0 a.1)
    (instances h) there) in
    let front : holdings_after_changes h (ls ++ (ss ++ es)) ≡ k =
    installed_append h ls (ss ++ es) ∙ installed_append (holdings_after_changes h ls) ss es in
    subst IsConsistent
    (sym (installed_append h (ls ++ (ss ++ es)) (all_booted gs (instances h))
    ∙ ap (λ (x : Holdings). holdings_after_changes x (all_booted gs (instances h))) front)) four.consistent

pub boots : (h : Holdings) → IsNumbered h → IsConsistent h → Keeps h (asked_boot h)
unfolding asked_boot
boots h b c = by (may_not_boot h) refl
  where
    by : (v : Bool) → may_not_boot h ≡ v
        → Keeps h (if v then refusal_with Limit else acceptance_with h (changes_for_boot h) Done)
    by true e = refuses h Limit c
    by false e = accepts h (changes_for_boot h) Done c (boots_all h b c e)
