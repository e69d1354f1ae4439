-- The rows of the counters of a store say them.
use Rattle.std.proofs.Common.{◌≡◌, ◌≤◌, inl, inr, ℕ, ◌+◌, ℤ, pos, List, [], ◌∷◌, not, codes, Bool, true, false, Option, Some, None, Ok, refl, sym, ap, subst, ◌∙◌, arith}
use Rattle.std.specs.Prelude.{IsUtf8, nat_eq, nat_le}
use Rattle.std.specs.Cmp.Lexicographic.{pointwise}
use Rattle.std.specs.Option.{option_map_or}
use Rattle.std.specs.Str.{is_utf8}
use Rattle.std.proofs.lemmas.Bool.Decides.{nat_tests}
use Rattle.sqlite.specs.declared.types.Value.{Value}
use Rattle.sqlite.specs.declared.types.Value.TheVariants.{Null, Int, Real, Text, Blob}
use Rattle.sqlite.specs.Order.{Row, column}
use Rattle.sqlite.specs.Tree.{rowid}
use Rattle.sqlite_rules.specs.Lists.{Has}
use Rattle.sqlite_rules.proofs.ListLemmas.{all_has, test_from}
use Rattle.smf_fmri.proofs.Patterns.{same_text}
use Rattle.smf_tables.specs.Rows.{AreApart}
use Rattle.smf_model.specs.Contents.{Holdings}
use Rattle.smf_model.specs.Next.{greatest_instance}
use Rattle.smf_store.specs.declared.counter_rows.Counters.{Counters}
use Rattle.smf_store.specs.declared.counter_rows.StoreVersion.{StoreVersion}
use Rattle.smf_store.specs.declared.counter_rows.StoreVersion.TheVariants as versions
use Rattle.smf_store.specs.CounterRows.{AreCounters, Finds, HasLayout, IsCounterOf, number_of_version}
use Rattle.smf_store.specs.Gathered.{AreCounted}
use Rattle.smf_store.specs.Judged.{counters_said, has_layout, has_text, is_known, is_within, look, look_on, may_stand, number_of, number_said, value_of, version_by, version_said}
use Rattle.smf_store.specs.RowValues.{◌>>=◌, value_if, greatest, text_in}
use Rattle.smf_store.specs.Shown.{Count, Counter, Version, Layout, Revision, NextInstance, NextSnapshot, HasCountIn, count_of, counter_text, first_count_of}
use Rattle.smf_store.specs.Unique.{counter_is, text_is}
use Rattle.smf_store.proofs.Known.{counters_are}
use Rattle.smf_store.proofs.Sole.{AreOne}
use Rattle.smf_store.proofs.Spelt.{counter_utf8}
use Rattle.smf_store.proofs.Utf8.{is_text}

-- ---- which rows have a key

has_by : (b : Bool) (key t : List ℕ) → is_utf8 t ≡ b
    → option_map_or (λ z. pointwise nat_eq z key) (value_if b t) false ≡ true → t ≡ key
has_by true key t e h = (same_text t key).0 h
has_by false key t e h = absurd cc

has_text_is : (key : List ℕ) (v : Value) → has_text key (text_in v) ≡ true → v ≡ Text key
has_text_is key Null h = absurd cc
has_text_is key (Int n) h = absurd cc
has_text_is key (Real x) h = absurd cc
has_text_is key (Text t) h = ap Text (has_by (is_utf8 t) key t refl h)
has_text_is key (Blob b) h = absurd cc

is_text_has : (key : List ℕ) (v : Value) → IsUtf8 key → v ≡ Text key → has_text key (text_in v) ≡ true
is_text_has key v utf8 e = rw (e, is_text key utf8, (same_text key key).1 refl) refl

-- ---- one row has the key

module _ (key : List ℕ) (utf8 : IsUtf8 key) (v : ℤ) where
  look_past_by : (found : Option ℤ) (r : Row) (b : Bool) → has_text key (text_in (column r 1)) ≡ b
      → (column r 1 ≡ Text key → ⊥) → look key found r ≡ Some found
  unfolding look
  look_past_by found r true e apart = absurd (apart (has_text_is key (column r 1) e))
  look_past_by found r false e apart = rw e refl

  look_past : (found : Option ℤ) (r : Row) → (column r 1 ≡ Text key → ⊥) → look key found r ≡ Some found
  look_past found r apart = look_past_by found r (has_text key (text_in (column r 1))) refl apart

  look_none : (found : Option ℤ) (rows : List Row) → ((r : Row) → Has rows r → column r 1 ≡ Text key → ⊥)
      → look_on key found rows ≡ Some found
  look_none found [] none = refl
  look_none found (r ∷ rs) none =
      ap (λ o. o >>= (λ more. look_on key more rs)) (look_past found r (none r (inl refl)))
      ∙ look_none found rs (λ q h. none q (inr h))

  look_here : (r : Row) → column r 1 ≡ Text key → column r 2 ≡ Int v → look key None r ≡ Some (Some v)
  unfolding look
  look_here r key_is value_is = rw (is_text_has key (column r 1) utf8 key_is, value_is) refl

  look_all_by : (r : Row) (rs : List Row) (b : Bool) → has_text key (text_in (column r 1)) ≡ b → AreApart (r ∷ rs)
      → AreOne key (r ∷ rs) → (row : Row) → Has (r ∷ rs) row → column row 1 ≡ Text key
      → ((q : Row) → Has (r ∷ rs) q → column q 1 ≡ Text key → column q 2 ≡ Int v)
      → (Has rs row → look_on key None rs ≡ Some (Some v)) → look_on key None (r ∷ rs) ≡ Some (Some v)
  look_all_by r rs true e apart one row there key_is only behind =
      let here = has_text_is key (column r 1) e in
      ap (λ o. o >>= (λ more. look_on key more rs)) (look_here r here (only r (inl refl) here))
      ∙ look_none (Some v) rs
      (λ q h same. one r q (inl refl) (inr h) here same (all_has (λ z. rowid r ≡ rowid z → ⊥) rs q apart.0 h))
  look_all_by r rs false e apart one row (inl same) key_is only behind =
      let yes = is_text_has key (column r 1) utf8 (ap (λ z. column z 1) (sym same) ∙ key_is) in
      let clash : true ≡ false = sym yes ∙ e in absurd cc
  look_all_by r rs false e apart one row (inr more) key_is only behind =
      ap (λ o. o >>= (λ found. look_on key found rs))
      (look_past_by None r false e
      (λ same. let clash : true ≡ false = sym (is_text_has key (column r 1) utf8 same) ∙ e in absurd cc))
      ∙ behind more

  look_all : (rows : List Row) → AreApart rows → AreOne key rows → (row : Row) → Has rows row
      → column row 1 ≡ Text key → ((q : Row) → Has rows q → column q 1 ≡ Text key → column q 2 ≡ Int v)
      → look_on key None rows ≡ Some (Some v)
  look_all [] apart one row there key_is only = absurd there
  look_all (r ∷ rs) apart one row there key_is only =
      look_all_by r rs (has_text key (text_in (column r 1))) refl apart one row there key_is only
      (λ more. look_all rs apart.1 (λ a b ha hb. one a b (inr ha) (inr hb)) row more key_is (λ q h. only q (inr h)))

  value_again : (rows : List Row) → AreApart rows → AreOne key rows → Finds key v rows → value_of key rows ≡ Some v
  unfolding value_of
  value_again rows apart one f =
      ap (λ o. o >>= (λ found. found)) (look_all rows apart one f.row f.there f.key_is f.only)

is_at_most : (a b : ℕ) → a ≤ b → nat_le a b ≡ true
is_at_most a b h = grind (arith, nat_tests)

count_again : (key : List ℕ) → IsUtf8 key → (n : ℕ) → n ≤ greatest → (rows : List Row) → AreApart rows
    → AreOne key rows → Finds key (pos n) rows → number_said key rows ≡ Some n
unfolding number_said
count_again key utf8 n low rows apart one f =
    ap (λ o. o >>= (λ v. number_of v)) (value_again key utf8 (pos n) rows apart one f)
    ∙ ap (λ b. value_if b n) (is_at_most n greatest low)

-- ---- the rows of a value's counters

some_is : (a b : ℕ) → Some a ≡ Some b → a ≡ b
some_is a b e = cc

none_some : (n : ℕ) → None ≡ Some n → ⊥
none_some n e = cc

-- two numbers of one counter
one_value : (version : StoreVersion) (h : Holdings) (c d : Counter) (m n : ℕ) → c ≡ d
    → HasCountIn version h (record { counter = c; value = m })
    → HasCountIn version h (record { counter = d; value = n }) → m ≡ n
one_value versions.First h c d m n same p q = some_is m n (sym p ∙ ap (first_count_of h) same ∙ q)
one_value versions.Second h c d m n same p q = sym p ∙ ap (count_of h) same ∙ q

module _ (version : StoreVersion) (h : Holdings) (rows : List Row) (a : AreCounted (HasCountIn version h) rows) where
  pub finds : (c : Counter) (n : ℕ) → HasCountIn version h (record { counter = c; value = n })
      → Finds (counter_text c) (pos n) rows
  finds c n m =
      let r = a.there (record { counter = c; value = n }) m in
      record {
        row = r.0;
        there = r.1;
        key_is = r.2.counter_is;
        value_is = r.2.value_is;
        only = λ q there key.
            let x = a.only q there c key in
            let same : c ≡ x.0.counter =
            counter_is c x.0.counter
            (text_is (counter_text c) (counter_text x.0.counter) (sym key ∙ x.2.counter_is)) in
            x.2.value_is ∙ ap (λ z. Int (pos z)) (sym (one_value version h c x.0.counter n x.0.value same m x.1));
      }

pub revision_in : (version : StoreVersion) (h : Holdings)
    → HasCountIn version h (record { counter = Revision; value = h.revision })
revision_in versions.First h = refl
revision_in versions.Second h = refl

pub next_instance_in : (version : StoreVersion) (h : Holdings)
    → HasCountIn version h (record { counter = NextInstance; value = h.next_instance })
next_instance_in versions.First h = refl
next_instance_in versions.Second h = refl

pub next_snapshot_in : (version : StoreVersion) (h : Holdings)
    → HasCountIn version h (record { counter = NextSnapshot; value = h.next_snapshot })
next_snapshot_in versions.First h = refl
next_snapshot_in versions.Second h = refl

version_in : (version : StoreVersion) (h : Holdings)
    → HasCountIn version h (record { counter = Version; value = number_of_version version })
version_in versions.First h = refl
version_in versions.Second h = refl

-- two values with the same rows of counters
pub same_count : (version : StoreVersion) (h k : Holdings) (rows : List Row) → AreCounted (HasCountIn version h) rows
    → AreCounted (HasCountIn version k) rows → (c : Counter) (m n : ℕ)
    → HasCountIn version h (record { counter = c; value = m })
    → HasCountIn version k (record { counter = c; value = n }) → m ≡ n
same_count version h k rows a b c m n p q =
    let r = a.there (record { counter = c; value = m }) p in
    let f = finds version k rows b c n q in
    ints_are m n (sym r.2.value_is ∙ f.only r.0 r.1 r.2.counter_is)
  where
    ints_are : (i j : ℕ) → ◌≡◌ {A = Value} (Int (pos i)) (Int (pos j)) → i ≡ j
    ints_are i j e = cc

counter_of : (version : StoreVersion) (h : Holdings) (x : Count) → HasCountIn version h x
    → IsCounterOf version x.counter
counter_of versions.First h x m = by x.counter m
  where
    by : (c : Counter) → first_count_of h c ≡ Some x.value → IsCounterOf versions.First c
    by Version m = tt
    by Layout m = none_some x.value m
    by Revision m = tt
    by NextInstance m = tt
    by NextSnapshot m = tt
counter_of versions.Second h x m = second x.counter
  where
    second : (c : Counter) → IsCounterOf versions.Second c
    second c = tt

no_layout_by : (b : Bool) (t : List ℕ) → pointwise nat_eq t (codes "layout") ≡ b → (t ≡ codes "layout" → ⊥)
    → not b ≡ true
no_layout_by true t e apart = absurd (apart ((same_text t (codes "layout")).0 e))
no_layout_by false t e apart = refl

may_stand_by : (version : StoreVersion) (t : List ℕ) → ((c : Counter) → t ≡ counter_text c → IsCounterOf version c)
    → may_stand version t ≡ true
may_stand_by versions.First t of = no_layout_by _ t refl (λ same. of Layout same)
may_stand_by versions.Second t of = refl

module _ (version : StoreVersion) (h : Holdings) (rows : List Row) (a : AreCounted (HasCountIn version h) rows) (apart : AreApart rows)
    (one : (t : List ℕ) → AreOne t rows) where
  known_again : (r : Row) → Has rows r → is_known version r ≡ true
  unfolding is_known
  known_again r there =
      let t = a.texts r there in
      let of : (c : Counter) → t.0 ≡ counter_text c → IsCounterOf version c = λ c same.
      let x = a.only r there c (t.1 ∙ ap Text same) in
      subst (IsCounterOf version)
      (sym (counter_is c x.0.counter
      (text_is (counter_text c) (counter_text x.0.counter) (sym (ap Text same) ∙ sym t.1 ∙ x.2.counter_is))))
      (counter_of version h x.0 x.1) in
      rw (t.1, is_text t.0 t.2) (may_stand_by version t.0 of)

  pub version_again : version_said rows ≡ Ok version
  unfolding version_said
  version_again =
      ap version_by
      (value_again (codes "version") (counter_utf8 Version) (pos (number_of_version version)) rows apart
      (one (codes "version")) (finds version h rows a Version (number_of_version version) (version_in version h)))
      ∙ by version
    where
      by : (w : StoreVersion) → version_by (Some (pos (number_of_version w))) ≡ Ok w
      by versions.First = refl
      by versions.Second = refl

  abbrev pub own_counters : Counters
  own_counters = record { revision = h.revision; next_instance = h.next_instance; next_snapshot = h.next_snapshot }

  finds_layout : (w : StoreVersion) → w ≡ version → HasLayout w rows
  finds_layout versions.First same = tt
  finds_layout versions.Second same =
      finds versions.Second h rows (subst (λ w. AreCounted (HasCountIn w h) rows) (sym same) a) Layout 2 refl

  layout_again : (w : StoreVersion) → HasLayout w rows → has_layout w rows ≡ true
  unfolding has_layout
  layout_again versions.First f = refl
  layout_again versions.Second f =
      rw (value_again (codes "layout") (counter_utf8 Layout) (pos 2) rows apart (one (codes "layout")) f) refl

  within_again : (w : StoreVersion) → h.next_instance ≤ greatest_instance + 1 → is_within w h.next_instance ≡ true
  within_again versions.First low = refl
  within_again versions.Second low = is_at_most h.next_instance (greatest_instance + 1) low

  pub are_counters : 1 ≤ h.next_instance → AreCounters version own_counters rows
  are_counters first = record {
    version_is = finds version h rows a Version (number_of_version version) (version_in version h);
    layout = finds_layout version refl;
    revision = finds version h rows a Revision h.revision (revision_in version h);
    next_instance = finds version h rows a NextInstance h.next_instance (next_instance_in version h);
    next_snapshot = finds version h rows a NextSnapshot h.next_snapshot (next_snapshot_in version h);
    first = first;
    known = λ r there. record {
      text = a.texts r there;
      counter = λ c key. let x = a.only r there c key in
          subst (IsCounterOf version)
          (sym (counter_is c x.0.counter
          (text_is (counter_text c) (counter_text x.0.counter) (sym key ∙ x.2.counter_is))))
          (counter_of version h x.0 x.1);
    };
  }

  pub counters_again : h.revision ≤ greatest → 1 ≤ h.next_instance → h.next_instance ≤ greatest_instance + 1
      → 1 ≤ h.next_snapshot → h.next_snapshot ≤ greatest → counters_said version rows ≡ Some own_counters
  counters_again revised first small begins low =
      let instances : h.next_instance ≤ greatest = omega (arith, small) in
      counters_are version rows h.revision h.next_instance h.next_snapshot
      (count_again (codes "revision") (counter_utf8 Revision) h.revision revised rows apart (one (codes "revision"))
      (finds version h rows a Revision h.revision (revision_in version h)))
      (count_again (codes "next_instance") (counter_utf8 NextInstance) h.next_instance instances rows apart
      (one (codes "next_instance"))
      (finds version h rows a NextInstance h.next_instance (next_instance_in version h)))
      (count_again (codes "next_snapshot") (counter_utf8 NextSnapshot) h.next_snapshot low rows apart
      (one (codes "next_snapshot"))
      (finds version h rows a NextSnapshot h.next_snapshot (next_snapshot_in version h)))
      (test_from (is_known version) rows known_again)
      (layout_again version (finds_layout version refl)) first begins (within_again version small)
