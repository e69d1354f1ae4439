-- A service or an instance that is deleted leaves a value that keeps its rules.
use Rattle.std.proofs.Common.{◌≡◌, inl, inr, ℕ, ◌≤◌, ◌==◌, ◌||◌, not, Bool, true, false, cond, List, [], ◌∷◌, Option, Some, None, IsSome, refl, sym, ap, ◌∙◌, subst, arith, eqb-true}
use Rattle.std.specs.List.{list_any}
use Rattle.std.specs.Ordering.{is_eq, nat_cmp}
use Rattle.std.specs.Prelude.{find}
use Rattle.std.proofs.lemmas.Bool.Decides.{nat_tests}
use Rattle.std.proofs.lemmas.Map.Entries.{option_filter}
use Rattle.smf_fmri.specs.ByKey.{By, Rises, lookup, without}
use Rattle.smf_fmri.proofs.Lookups.{lookup_without, same_key, with_answer_cases, with_answer_other}
use Rattle.smf_fmri.proofs.Patterns.{same_text}
use Rattle.smf_fmri.proofs.SameLists.{found_key, lookup_filter}
use Rattle.smf_model.specs.declared.change.Change.TheVariants.{DropService, DropInstance, DropName, DropSnapshots}
use Rattle.smf_model.specs.declared.held.Instance.{Instance}
use Rattle.smf_model.specs.Contents.{Holdings}
use Rattle.smf_model.specs.Look.{by_entry, by_instance, by_service, by_snapshot, holdings_after_change, instance, instances, is_snapshot_of, launch_of}
use Rattle.smf_model.specs.Next.{is_instance_of}
use Rattle.smf_model.specs.GeneralGroup.{service_fmri}
use Rattle.smf_model.proofs.Entries.{bare_without}
use Rattle.smf_model.proofs.LawLists.{differs, some_filter}
use Rattle.smf_laws.specs.Consistent.{IsConsistent, IsInstanceHeld, IsSnapshotHeld}
use Rattle.smf_laws.proofs.Held.{instance_stays, same_counts}

none_some : {X : Type 0} (x : X) → None ≡ Some x → ⊥
none_some x e = cc

same_number : (n : ℕ) → n ≤ n
same_number n = omega arith

-- an item that is found after another one is dropped was there, and is another
left_cases : {X K : Type 0} (o : By X K) (j : K) (xs : List X) (k : K) (y : X) → lookup o (without o j xs) k ≡ Some y
    → (is_eq (o.cmp j k) ≡ false) × (lookup o xs k ≡ Some y)
left_cases o j xs k y e =
    elim (with_answer_cases o (lookup o xs) j None k (Some y) (sym (lookup_without o j xs k) ∙ e)) [
      | inl q ↦ absurd (none_some y q.1)
      | inr q ↦ q
    ]

-- the others stay
others_stay : {X K : Type 0} (o : By X K) (j : K) (xs : List X) (k : K) → (j ≡ k → ⊥) → IsSome (lookup o xs k)
    → IsSome (lookup o (without o j xs) k)
others_stay o j xs k apart e =
    subst (λ o. IsSome o)
    (sym (lookup_without o j xs k ∙ with_answer_other o (lookup o xs) j None k (differs o j k apart))) e

-- ---- a service

none_any : {X : Type 0} (test part : X → Bool) (xs : List X) (x : X) → list_any test xs ≡ false
    → find part xs ≡ Some x → test x ≡ false
none_any test part [] x e f = absurd (none_some x f)
none_any test part (y ∷ ys) x e f = by (test y) (part y) refl e f (none_any test part ys x)
  where
    by : (a b : Bool) → test y ≡ a → (a || list_any test ys) ≡ false → cond b (Some y) (find part ys) ≡ Some x
        → (list_any test ys ≡ false → find part ys ≡ Some x → test x ≡ false) → test x ≡ false
    by true b h e f ih = absurd cc
    by false true h e f ih = let same : y ≡ x = cc in ap test (sym same) ∙ h
    by false false h e f ih = ih e f

clash : (b : Bool) → b ≡ true → b ≡ false → ⊥
clash b e f = cc

-- no instance is of the service
apart_from : (h : Holdings) (name : List ℕ) (n : ℕ) (i : Instance)
    → list_any (is_instance_of name) (instances h) ≡ false → instance h n ≡ Some i → name ≡ service_fmri i.name → ⊥
apart_from h name n i none there same =
    clash (is_instance_of name i) ((same_text (service_fmri i.name) name).1 (sym same))
    (none_any (is_instance_of name) _ (instances h) i none there)

pub service_dropped : (h : Holdings) (name : List ℕ) → IsConsistent h
    → list_any (is_instance_of name) (instances h) ≡ false → IsConsistent (holdings_after_change h (DropService name))
service_dropped h name c none = record {
  counted = same_counts h k c.counted refl refl refl;
  services = λ m s e. c.services m s (left_cases by_service name h.services m s e).1;
  instances = λ n i e. (let held : IsInstanceHeld h i = c.instances n i e in
      instance_stays h k i
      (others_stay by_service name h.services (service_fmri i.name)
      (apart_from h name n i none e) held.of_service) (λ m s f own. f)
      (same_number (launch_of h i.row.owner)) held);
  groups = c.groups;
  snapshots = λ n s e. (let held : IsSnapshotHeld h s = c.snapshots n s e in
      record { above = held.above; of_instance = held.of_instance });
  launches = c.launches;
}
  where
    k : Holdings
    k = holdings_after_change h (DropService name)

-- ---- an instance

passes : {X : Type 0} (test : X → Bool) (o : Option X) (x : X) → option_filter test o ≡ Some x
    → (o ≡ Some x) × (test x ≡ true)
passes test None x e = absurd (none_some x e)
passes test (Some y) x e = by (test y) refl e
  where
    by : (b : Bool) → test y ≡ b → cond b (Some y) None ≡ Some x → (Some y ≡ Some x) × (test x ≡ true)
    by true h f = let same : y ≡ x = cc in (f, ap test (sym same) ∙ h)
    by false h f = absurd (none_some x f)

not_equal : (a b : ℕ) → not (a == b) ≡ true → b ≡ a → ⊥
not_equal a b e same = grind (arith, nat_tests)

unequal : (a b : ℕ) → (b ≡ a → ⊥) → not (a == b) ≡ true
unequal a b apart = by (a == b) refl
  where
    by : (t : Bool) → (a == b) ≡ t → not t ≡ true
    by true e = absurd (apart (sym (eqb-true a b e)))
    by false e = refl

other_number : (n m : ℕ) → is_eq (nat_cmp n m) ≡ false → n ≡ m → ⊥
other_number n m d same = clash (is_eq (nat_cmp n m)) (ap is_eq (ap (nat_cmp n) (sym same) ∙ same_key by_instance n)) d

-- the value without an instance and all that is its own
abbrev pub without_instance : Holdings → ℕ → List ℕ → Holdings
without_instance h n name =
    holdings_after_change (holdings_after_change (holdings_after_change h (DropSnapshots n)) (DropName name))
    (DropInstance n)

pub instance_dropped : (h : Holdings) (n : ℕ) (name : List ℕ) → IsConsistent h → Rises by_snapshot h.snapshots
    → IsConsistent (without_instance h n name)
instance_dropped h n name c rises = record {
  counted = same_counts h k c.counted refl refl refl;
  services = c.services;
  instances = λ m i e. (let was = left_cases by_instance n (instances h) m i (sym (at m) ∙ e) in
      let number : i.number ≡ m = found_key by_instance m (instances h) i was.1 in
      let held : IsInstanceHeld h i = c.instances m i was.1 in
      instance_stays h k i held.of_service
      (λ l s there own. some_filter _ (λ t. not (is_snapshot_of n t)) h.snapshots s there
      (unequal s.instance n (λ same. other_number n m was.0 (same ∙ (own ∙ number)))))
      (same_number (launch_of h i.row.owner)) held);
  groups = λ m e there. c.groups m e (left_cases by_entry n h.instances m e there).1;
  snapshots = λ m s e.
      (let was = passes (λ t. not (is_snapshot_of n t)) (lookup by_snapshot h.snapshots m) s
      (sym (lookup_filter by_snapshot (λ t. not (is_snapshot_of n t)) h.snapshots m rises) ∙ e) in
      let held : IsSnapshotHeld h s = c.snapshots m s was.0 in
      record {
        above = held.above;
        of_instance =
            subst (λ o. IsSome o) (sym (at s.instance))
            (others_stay by_instance n (instances h) s.instance (not_equal s.instance n was.1) held.of_instance);
      });
  launches = c.launches;
}
  where
    k : Holdings
    k = without_instance h n name

    at : (m : ℕ) → instance k m ≡ lookup by_instance (without by_instance n (instances h)) m
    at m = ap (λ (is : List Instance). lookup by_instance is m) (bare_without n h.instances)
