-- Instances go on being found by their names.
use Rattle.std.proofs.Common.{◌≡◌, inl, inr, ℕ, Bool, true, false, cond, List, Option, Some, None, option_map, refl, sym, ap, ◌∙◌, subst}
use Rattle.std.specs.Ordering.{is_eq, nat_cmp}
use Rattle.std.specs.Cmp.Lexicographic.{slice_cmp}
use Rattle.smf_fmri.specs.ByKey.{lookup, list_with_item, with_answer, without}
use Rattle.smf_fmri.proofs.Lookups.{equal_from_test, lookup_put, lookup_without, same_key, with_answer_cases, with_answer_here, with_answer_other}
use Rattle.smf_model.specs.declared.held.Instance.{Instance}
use Rattle.smf_model.specs.declared.held.InstanceName.{InstanceName}
use Rattle.smf_model.specs.Contents.{Holdings}
use Rattle.smf_model.specs.Look.{by_instance, by_name, in_place, instance, instance_at, instances, instance_by_name, put_over}
use Rattle.smf_model.specs.Laws.{IsIndexed}
use Rattle.smf_model.proofs.LawLists.{at_put, differs, no_such, some_same}

abbrev pub name_of : List ℕ → ℕ → InstanceName
name_of name n = record { name = name; number = n }

number_same : (d e : InstanceName) → Some d ≡ Some e → d.number ≡ e.number
number_same d e p = ap (λ (z : InstanceName). z.number) (some_same d e p)

-- ---- the same instances by number and name

pub record SameNames (is ys : List Instance) : Type 0 where
  pub forth : (n : ℕ) (i : Instance) → lookup by_instance is n ≡ Some i
      → (j : Instance) × (lookup by_instance ys n ≡ Some j) × (j.name ≡ i.name)
  pub back : (n : ℕ) (j : Instance) → lookup by_instance ys n ≡ Some j
      → (i : Instance) × (lookup by_instance is n ≡ Some i) × (i.name ≡ j.name)

pub index_same : (is ys : List Instance) (names : List InstanceName) → SameNames is ys → IsIndexed is names
    → IsIndexed ys names
index_same is ys names same index = record {
  right = λ name e p. (let old = index.right name e p in let new = same.forth e.number old.0 old.1 in
      (new.0, new.1, new.2 ∙ old.2));
  whole = λ n j p. (let old = same.back n j p in
      subst (λ (name : List ℕ). lookup by_name names name ≡ Some (name_of name n)) old.2 (index.whole n old.0 old.1));
}

-- each instance is changed, and its name not
forth_by : (f : Instance → Instance) (b : Bool) (i : Instance) (o : Option Instance) → o ≡ Some i
    → ((z : Instance) → (f z).name ≡ z.name) → (j : Instance) × (cond b (option_map f o) o ≡ Some j) × (j.name ≡ i.name)
forth_by f true i o e keeps = (f i, ap (option_map f) e, keeps i)
forth_by f false i o e keeps = (i, e, refl)

mapped : (f : Instance → Instance) (o : Option Instance) (j : Instance) → option_map f o ≡ Some j
    → ((z : Instance) → (f z).name ≡ z.name) → (i : Instance) × (o ≡ Some i) × (i.name ≡ j.name)
mapped f None j e keeps = absurd cc
mapped f (Some i) j e keeps = (i, refl, sym (keeps i) ∙ ap (λ (z : Instance). z.name) (some_same (f i) j e))

back_by : (f : Instance → Instance) (b : Bool) (j : Instance) (o : Option Instance)
    → cond b (option_map f o) o ≡ Some j → ((z : Instance) → (f z).name ≡ z.name)
    → (i : Instance) × (o ≡ Some i) × (i.name ≡ j.name)
back_by f true j o e keeps = mapped f o j e keeps
back_by f false j o e keeps = (j, e, refl)

pub names_all : (f : Instance → Instance) (is ys : List Instance) → ((z : Instance) → (f z).name ≡ z.name)
    → ((n : ℕ) → lookup by_instance ys n ≡ option_map f (lookup by_instance is n)) → SameNames is ys
names_all f is ys keeps at = record {
  forth = λ n i e. (let new = forth_by f true i (lookup by_instance is n) e keeps in (new.0, at n ∙ new.1, new.2));
  back = λ n j e. back_by f true j (lookup by_instance is n) (sym (at n) ∙ e) keeps;
}

-- an instance in place of one of its name
module _ (n : ℕ) (i x : Instance) (is : List Instance) (there : lookup by_instance is n ≡ Some i) (number : x.number ≡ n) (name : x.name ≡ i.name) where
  over_forth_by : (m : ℕ) (y : Instance) (b : Bool) → is_eq (nat_cmp x.number m) ≡ b → lookup by_instance is m ≡ Some y
      → (j : Instance)
      × (cond b (option_map (in_place x) (lookup by_instance is m)) (lookup by_instance is m) ≡ Some j)
      × (j.name ≡ y.name)
  over_forth_by m y false h e = (y, e, refl)
  over_forth_by m y true h e =
      let here : x.number ≡ m = by_instance.exact x.number m (equal_from_test (nat_cmp x.number m) h) in
      let same : i ≡ y = some_same i y (sym there ∙ ap (lookup by_instance is) (sym number ∙ here) ∙ e) in
      (in_place x y, ap (option_map (in_place x)) e, name ∙ ap (λ (z : Instance). z.name) same)

  over_back_by : (m : ℕ) (j : Instance) (b : Bool) (o : Option Instance) → is_eq (nat_cmp x.number m) ≡ b
      → lookup by_instance is m ≡ o
      → cond b (option_map (in_place x) o) o ≡ Some j → (y : Instance) × (o ≡ Some y) × (y.name ≡ j.name)
  over_back_by m j false o h at e = (j, e, refl)
  over_back_by m j true None h at e = absurd cc
  over_back_by m j true (Some y) h at e =
      let here : x.number ≡ m = by_instance.exact x.number m (equal_from_test (nat_cmp x.number m) h) in
      let same : i ≡ y = some_same i y (sym there ∙ ap (lookup by_instance is) (sym number ∙ here) ∙ at) in (
        y,
        refl,
        sym (ap (λ (z : Instance). z.name) same) ∙ sym name
            ∙ ap (λ (z : Instance). z.name) (some_same (in_place x y) j e),
      )

  pub names_over : SameNames is (put_over x is)
  names_over = record {
    forth = λ m y e. (let new = over_forth_by m y (is_eq (nat_cmp x.number m)) refl e in
        (new.0, at_put m x is ∙ new.1, new.2));
    back = λ m j e. over_back_by m j (is_eq (nat_cmp x.number m)) (lookup by_instance is m) refl refl
        (sym (at_put m x is) ∙ e);
  }

-- ---- a new instance under a new name

pub unnamed : (h : Holdings) (name : List ℕ) → IsIndexed (instances h) h.names → instance_by_name h name ≡ None
    → lookup by_name h.names name ≡ None
unnamed h name index none = by (lookup by_name h.names name) refl none
  where
    by : (o : Option InstanceName) → lookup by_name h.names name ≡ o → instance_at h o ≡ None
        → lookup by_name h.names name ≡ None
    by None e f = e
    by (Some entry) e f =
        absurd (no_such (instance h entry.number) (index.right name entry e).0 f (index.right name entry e).1)

module _ (i : Instance) (is : List Instance) (names : List InstanceName) (index : IsIndexed is names) (new_number : lookup by_instance is i.number ≡ None) (new_name : lookup by_name names i.name ≡ None) where
  at_number : (n : ℕ) → lookup by_instance (list_with_item by_instance i is) n
      ≡ with_answer by_instance (lookup by_instance is) i.number (Some i) n
  at_number n = lookup_put by_instance i is n

  at_name : (name : List ℕ) → lookup by_name (list_with_item by_name (name_of i.name i.number) names) name
      ≡ with_answer by_name (lookup by_name names) i.name (Some (name_of i.name i.number)) name
  at_name name = lookup_put by_name (name_of i.name i.number) names name

  -- an instance under another number stays
  stays : (n : ℕ) (j : Instance) → lookup by_instance is n ≡ Some j
      → with_answer by_instance (lookup by_instance is) i.number (Some i) n ≡ Some j
  stays n j e =
      with_answer_other by_instance (lookup by_instance is) i.number (Some i) n
      (differs by_instance i.number n
      (λ same. no_such (lookup by_instance is i.number) j new_number (ap (lookup by_instance is) same ∙ e))) ∙ e

  named_stays : (name : List ℕ) (e : InstanceName) → lookup by_name names name ≡ Some e
      → with_answer by_name (lookup by_name names) i.name (Some (name_of i.name i.number)) name ≡ Some e
  named_stays name e p =
      with_answer_other by_name (lookup by_name names) i.name (Some (name_of i.name i.number)) name
      (differs by_name i.name name
      (λ same. no_such (lookup by_name names i.name) e new_name (ap (lookup by_name names) same ∙ p))) ∙ p

  new_entry : (n : ℕ) (j : Instance) → i.number ≡ n → i ≡ j
      → with_answer by_name (lookup by_name names) i.name (Some (name_of i.name i.number)) j.name
      ≡ Some (name_of j.name n)
  new_entry n j e f =
      let P : Instance → Type 0 =
      λ k. with_answer by_name (lookup by_name names) i.name (Some (name_of i.name i.number)) k.name
      ≡ Some (name_of k.name n) in
      let here : with_answer by_name (lookup by_name names) i.name (Some (name_of i.name i.number)) i.name
      ≡ Some (name_of i.name n)
      = with_answer_here by_name (lookup by_name names) i.name (Some (name_of i.name i.number))
      ∙ ap (λ (m : ℕ). Some (name_of i.name m)) e in
      subst P f here

  pub index_added : IsIndexed (list_with_item by_instance i is) (list_with_item by_name (name_of i.name i.number) names)
  index_added = record {
    right = λ name e p.
        elim (with_answer_cases by_name (lookup by_name names) i.name (Some (name_of i.name i.number)) name (Some e)
        (sym (at_name name) ∙ p)) [
          | inl q ↦ (
            i,
            at_number e.number
                ∙ ap (with_answer by_instance (lookup by_instance is) i.number (Some i))
                (sym (number_same (name_of i.name i.number) e q.1))
                ∙ with_answer_here by_instance (lookup by_instance is) i.number (Some i),
            q.0,
          )
          | inr q ↦ (let old = index.right name e q.1 in
              (old.0, at_number e.number ∙ stays e.number old.0 old.1, old.2))
        ];
    whole = λ n j p.
        elim (with_answer_cases by_instance (lookup by_instance is) i.number (Some i) n (Some j)
        (sym (at_number n) ∙ p)) [
          | inl q ↦ at_name j.name ∙ new_entry n j q.0 (some_same i j q.1)
          | inr q ↦ at_name j.name ∙ named_stays j.name (name_of j.name n) (index.whole n j q.1)
        ];
  }

-- ---- an instance gone with its name

module _ (n : ℕ) (i : Instance) (is : List Instance) (names : List InstanceName) (index : IsIndexed is names) (there : lookup by_instance is n ≡ Some i) where
  left_number : (m : ℕ) → lookup by_instance (without by_instance n is) m
      ≡ with_answer by_instance (lookup by_instance is) n None m
  left_number m = lookup_without by_instance n is m

  left_name : (name : List ℕ) → lookup by_name (without by_name i.name names) name
      ≡ with_answer by_name (lookup by_name names) i.name None name
  left_name name = lookup_without by_name i.name names name

  -- two instances of one name have one number
  one_number : (m : ℕ) (j : Instance) → lookup by_instance is m ≡ Some j → i.name ≡ j.name → n ≡ m
  one_number m j e same =
      number_same (name_of i.name n) (name_of j.name m)
      (sym (index.whole n i there) ∙ ap (lookup by_name names) same ∙ index.whole m j e)

  false_true : (b : Bool) → b ≡ false → b ≡ true → ⊥
  false_true b e f = cc

  other_name : (name : List ℕ) → is_eq (slice_cmp nat_cmp i.name name) ≡ false → i.name ≡ name → ⊥
  other_name name d same =
      false_true (is_eq (slice_cmp nat_cmp i.name name)) d
      (ap is_eq (ap (slice_cmp nat_cmp i.name) (sym same) ∙ same_key by_name i.name))

  other_number : (m : ℕ) → is_eq (nat_cmp n m) ≡ false → n ≡ m → ⊥
  other_number m d same =
      false_true (is_eq (nat_cmp n m)) d (ap is_eq (ap (nat_cmp n) (sym same) ∙ same_key by_instance n))

  right_left : (name : List ℕ) (e : InstanceName) → is_eq (slice_cmp nat_cmp i.name name) ≡ false
      → lookup by_name names name ≡ Some e
      → (j : Instance) × (lookup by_instance (without by_instance n is) e.number ≡ Some j) × (j.name ≡ name)
  right_left name e d p =
      let old = index.right name e p in
      let apart : n ≡ e.number → ⊥ =
      λ same. other_name name d
      (ap (λ (z : Instance). z.name) (some_same i old.0 (sym there ∙ ap (lookup by_instance is) same ∙ old.1))
      ∙ old.2) in (
        old.0,
        left_number e.number
            ∙ with_answer_other by_instance (lookup by_instance is) n None e.number
            (differs by_instance n e.number apart) ∙ old.1,
        old.2,
      )

  whole_left : (m : ℕ) (j : Instance) → is_eq (nat_cmp n m) ≡ false → lookup by_instance is m ≡ Some j
      → lookup by_name (without by_name i.name names) j.name ≡ Some (name_of j.name m)
  whole_left m j d p =
      left_name j.name
      ∙ with_answer_other by_name (lookup by_name names) i.name None j.name
      (differs by_name i.name j.name (λ same. other_number m d (one_number m j p same))) ∙ index.whole m j p

  pub index_left : IsIndexed (without by_instance n is) (without by_name i.name names)
  index_left = record {
    right = λ name e p.
        elim (with_answer_cases by_name (lookup by_name names) i.name None name (Some e) (sym (left_name name) ∙ p)) [
          | inl q ↦ absurd (none_some_name e q.1)
          | inr q ↦ right_left name e q.0 q.1
        ];
    whole = λ m j p.
        elim (with_answer_cases by_instance (lookup by_instance is) n None m (Some j) (sym (left_number m) ∙ p)) [
          | inl q ↦ absurd (none_some_number j q.1)
          | inr q ↦ whole_left m j q.0 q.1
        ];
  }
    where
      none_some_name : (e : InstanceName) → None ≡ Some e → ⊥
      none_some_name e p = cc

      none_some_number : (j : Instance) → None ≡ Some j → ⊥
      none_some_number j p = cc

-- ---- so what has a name is found by it

pub found_by_name : (h : Holdings) (n : ℕ) (i : Instance) → IsIndexed (instances h) h.names → instance h n ≡ Some i
    → instance_by_name h i.name ≡ Some i
found_by_name h n i index e = ap (instance_at h) (index.whole n i e) ∙ e

pub name_found : (h : Holdings) (name : List ℕ) (i : Instance) → IsIndexed (instances h) h.names
    → instance_by_name h name ≡ Some i → i.name ≡ name
name_found h name i index e = by (lookup by_name h.names name) refl e
  where
    by : (o : Option InstanceName) → lookup by_name h.names name ≡ o → instance_at h o ≡ Some i → i.name ≡ name
    by None p f = absurd cc
    by (Some entry) p f =
        let old = index.right name entry p in
        ap (λ (z : Instance). z.name) (some_same i old.0 (sym f ∙ old.1)) ∙ old.2
