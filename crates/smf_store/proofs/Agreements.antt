-- The agreement among the tables of a store that opens.
use Rattle.std.proofs.Common.{◌≡◌, ◌≤◌, ℕ, List, [], ◌∷◌, Bool, true, false, Option, Some, None, if◌then◌else◌, refl, sym, ap, subst, ◌∙◌, arith}
use Rattle.std.specs.Prelude.{◌&&◌, ◌==◌, not, find, nat_le}
use Rattle.std.proofs.lemmas.Bool.Decides.{nat_tests}
use Rattle.std.specs.List.{list_all, list_any}
use Rattle.std.specs.Option.{option_map_or}
use Rattle.sqlite.specs.Order.{Row}
use Rattle.smf_fmri.specs.ByKey.{has_key}
use Rattle.smf_model.specs.declared.change.Change.TheVariants.{PutLaunch}
use Rattle.smf_model.specs.declared.held.Instance.{Instance}
use Rattle.smf_model.specs.declared.held.InstanceEntry.{InstanceEntry}
use Rattle.smf_model.specs.declared.held.Launch.{Launch}
use Rattle.smf_model.specs.declared.held.Snapshot.{Snapshot}
use Rattle.smf_model.specs.Contents.{Holdings}
use Rattle.smf_model.specs.Look.{bare, by_instance, by_launch, by_snapshot, holdings_after_change, empty, launch_of, snapshot}
use Rattle.smf_store.specs.Agreement.{AreLaunched, NameOwn, Names, start, previous, running, begun}
use Rattle.smf_store.specs.Judged.{add_all, add_launch, entry_names_own, is_launched, is_own, launches_said, names_own}
use Rattle.smf_store.specs.RowValues.{◌>>=◌, value_if, launch_said}

some_same : {X : Type 0} (x y : X) → Some x ≡ Some y → x ≡ y
some_same x y e = cc

both : (a b : Bool) → (a && b) ≡ true → (a ≡ true) × (b ≡ true)
both true b e = (refl, e)
both false b e = absurd cc

given_is : {X : Type 0} (b : Bool) (x y : X) → value_if b x ≡ Some y → (b ≡ true) × (x ≡ y)
given_is true x y e = (refl, some_same x y e)
given_is false x y e = absurd cc

-- ---- what passes a test of all

first_or : {X : Type 0} (b : Bool) (p : X → Bool) (x : X) (rest : Option X) (i : X)
    → (if b then Some x else rest) ≡ Some i → p x ≡ true → (rest ≡ Some i → p i ≡ true) → p i ≡ true
first_or true p x rest i found px more = subst (λ z. p z ≡ true) (some_same x i found) px
first_or false p x rest i found px more = more found

passes : (p q : Instance → Bool) (es : List InstanceEntry) (i : Instance) → list_all (λ e. p e.instance) es ≡ true
    → find q (bare es) ≡ Some i → p i ≡ true
passes p q [] i all found = absurd (let clash : None ≡ Some i = found in cc)
passes p q (e ∷ es) i all found =
    let two = both (p e.instance) (list_all (λ x. p x.instance) es) all in
    first_or (q e.instance) p e.instance (find q (bare es)) i found two.0 (passes p q es i two.1)

-- ---- a snapshot that is named

number_is : (a b : ℕ) → (a == b) ≡ true → a ≡ b
number_is a b e = grind (arith, nat_tests)

abbrev IsThere : Holdings → ℕ → ℕ → Type 0
IsThere h number n = (s : Snapshot) × (snapshot h n ≡ Some s) × (s.instance ≡ number)

there_by : (h : Holdings) (number n : ℕ) (o : Option Snapshot) → snapshot h n ≡ o
    → option_map_or (λ (s : Snapshot). s.instance == number) o false ≡ true → IsThere h number n
there_by h number n None e test = absurd cc
there_by h number n (Some s) e test = (s, e, number_is s.instance number test)

own_is : (h : Holdings) (number : ℕ) (o : Option ℕ) (n : ℕ) → is_own h number o ≡ true → o ≡ Some n → IsThere h number n
own_is h number None n test is = absurd (let clash : None ≡ Some n = is in cc)
own_is h number (Some m) n test is =
    subst (IsThere h number) (some_same m n is) (there_by h number m (snapshot h m) refl test)

named_by : (h : Holdings) (i : Instance) (n : ℕ) → is_own h i.number i.start ≡ true
    → is_own h i.number i.previous ≡ true → is_own h i.number i.row.running ≡ true
    → is_own h i.number i.row.begun ≡ true
    → Names i n → IsThere h i.number n
named_by h i n a b c d (start is) = own_is h i.number i.start n a is
named_by h i n a b c d (previous is) = own_is h i.number i.previous n b is
named_by h i n a b c d (running is) = own_is h i.number i.row.running n c is
named_by h i n a b c d (begun is) = own_is h i.number i.row.begun n d is

named_own : (h : Holdings) (i : Instance) → names_own h i ≡ true → (n : ℕ) → Names i n → IsThere h i.number n
named_own h i all n named =
    let three = both _ (is_own h i.number i.row.begun) all in
    let two = both _ (is_own h i.number i.row.running) three.0 in
    let one = both (is_own h i.number i.start) (is_own h i.number i.previous) two.0 in
    named_by h i n one.0 one.1 two.1 three.1 named

pub all_agree : (h : Holdings) → list_all (entry_names_own h) h.instances ≡ true → NameOwn h
all_agree h all =
    record {
      own = λ k i found n named. named_own h i
          (passes (names_own h) (has_key by_instance k) h.instances i all found) n named;
    }

-- ---- launches say nothing of snapshots

pub record KeepsBoth (old new : Holdings) : Type 0 where
  pub instances : new.instances ≡ old.instances
  pub snapshots : new.snapshots ≡ old.snapshots

launch_by : (h k : Holdings) (o : Option Launch)
    → (o >>= (λ l. value_if (not (list_any (has_key by_launch l.restarter) h.launches))
    (holdings_after_change h (PutLaunch l)))) ≡ Some k → KeepsBoth h k
launch_by h k None e = absurd (let clash : None ≡ Some k = e in cc)
launch_by h k (Some l) e =
    let same = (given_is (not (list_any (has_key by_launch l.restarter) h.launches))
    (holdings_after_change h (PutLaunch l)) k e).1 in
    record {
      instances = ap (λ (z : Holdings). z.instances) (sym same);
      snapshots = ap (λ (z : Holdings). z.snapshots) (sym same);
    }

launch_keeps : (h k : Holdings) (r : Row) → add_launch h r ≡ Some k → KeepsBoth h k
unfolding add_launch
launch_keeps h k r e = launch_by h k (launch_said r) e

keeps_itself : (h k : Holdings) → h ≡ k → KeepsBoth h k
keeps_itself h k same =
    record {
      instances = ap (λ (z : Holdings). z.instances) (sym same);
      snapshots = ap (λ (z : Holdings). z.snapshots) (sym same);
    }

keeps_then : (h m k : Holdings) → KeepsBoth h m → KeepsBoth m k → KeepsBoth h k
keeps_then h m k one more =
    record { instances = more.instances ∙ one.instances; snapshots = more.snapshots ∙ one.snapshots }

launches_on : (rs : List Row) (h k : Holdings) (o : Option Holdings) → ((m : Holdings) → o ≡ Some m → KeepsBoth h m)
    → ((m : Holdings) → add_all add_launch m rs ≡ Some k → KeepsBoth m k)
    → (o >>= (λ m. add_all add_launch m rs)) ≡ Some k → KeepsBoth h k
launches_on rs h k None first more e = absurd (let clash : None ≡ Some k = e in cc)
launches_on rs h k (Some m) first more e = keeps_then h m k (first m refl) (more m e)

launches_keep : (rows : List Row) (h k : Holdings) → add_all add_launch h rows ≡ Some k → KeepsBoth h k
launches_keep [] h k e = keeps_itself h k (some_same h k e)
launches_keep (r ∷ rs) h k e =
    launches_on rs h k (add_launch h r) (λ m is. launch_keeps h m r is) (λ m. launches_keep rs m k) e

launches_by : (o : Option Holdings) (h k : Holdings) → ((m : Holdings) → o ≡ Some m → KeepsBoth h m)
    → (o >>= (λ m. value_if (list_all (is_launched m) m.instances) m)) ≡ Some k → KeepsBoth h k
launches_by None h k keeps e = absurd (let clash : None ≡ Some k = e in cc)
launches_by (Some m) h k keeps e =
    subst (KeepsBoth h) (given_is (list_all (is_launched m) m.instances) m k e).1 (keeps m refl)

pub launches_said_keep : (rows : List Row) (h k : Holdings) → launches_said rows h ≡ Some k → KeepsBoth h k
unfolding launches_said
launches_said_keep rows h k e = launches_by (add_all add_launch h rows) h k (λ m is. launches_keep rows h m is) e

pub agrees_on : (h k : Holdings) → KeepsBoth h k → NameOwn h → NameOwn k
agrees_on h k same a = record {
  own = λ number i found n named.
      let it = a.own number i (ap (λ es. find (has_key by_instance number) (bare es)) (sym same.instances) ∙ found) n
      named in
      (it.0, ap (λ ss. find (has_key by_snapshot n) ss) same.snapshots ∙ it.1, it.2);
}

pub none_agree : NameOwn empty
none_agree = record { own = λ k i found n named. absurd (let clash : None ≡ Some i = found in cc) }

-- ---- the launches of rows

abbrev Passes : (InstanceEntry → Bool) → Instance → Type 0
Passes p i = (e : InstanceEntry) × (e.instance ≡ i) × (p e ≡ true)

entry_by : (b : Bool) (p : InstanceEntry → Bool) (x : InstanceEntry) (rest : Option Instance) (i : Instance)
    → (if b then Some x.instance else rest) ≡ Some i → p x ≡ true → (rest ≡ Some i → Passes p i) → Passes p i
entry_by true p x rest i found px more = (x, some_same x.instance i found, px)
entry_by false p x rest i found px more = more found

entry_passes : (p : InstanceEntry → Bool) (k : ℕ) (es : List InstanceEntry) (i : Instance) → list_all p es ≡ true
    → find (has_key by_instance k) (bare es) ≡ Some i → Passes p i
entry_passes p k [] i all found = absurd (let clash : None ≡ Some i = found in cc)
entry_passes p k (x ∷ es) i all found =
    let two = both (p x) (list_all p es) all in
    entry_by (has_key by_instance k x.instance) p x (find (has_key by_instance k) (bare es)) i found two.0
    (entry_passes p k es i two.1)

number_within : (a b : ℕ) → nat_le a b ≡ true → a ≤ b
number_within a b e = grind (arith, nat_tests)

pub all_launched : (h : Holdings) → list_all (is_launched h) h.instances ≡ true → AreLaunched h
all_launched h all = record {
  launched = λ k i found.
      let it = entry_passes (is_launched h) k h.instances i all found in
      let low = number_within it.0.instance.row.launch (launch_of h it.0.instance.row.owner) it.2 in
      subst (λ (z : Instance). z.row.launch ≤ launch_of h z.row.owner) it.1 low;
}

pub none_launched : AreLaunched empty
none_launched = record { launched = λ k i found. absurd (let clash : None ≡ Some i = found in cc) }
