-- No row waits for a snapshot that is above all that rows name.
use Rattle.std.proofs.Common.{◌≡◌, ℕ, ◌≤◌, ◌<◌, ◌==◌, ◌&&◌, not, Bool, true, false, cond, List, [], ◌∷◌, map, filter, Option, Some, None, is_none, refl, sym, ap, ◌∙◌, arith}
use Rattle.std.specs.Prelude.{max}
use Rattle.std.specs.List.{AllByRecursion}
use Rattle.std.specs.declared.cmp.Ordering.{Ordering}
use Rattle.std.specs.declared.cmp.Ordering.TheVariants.{Less, Equal, Greater}
use Rattle.std.proofs.lemmas.Bool.Decides.{Decides-eqb}
use Rattle.smf_fmri.specs.ByKey.{amend, has_key, list_with_item, put_by as put_at, without}
use Rattle.smf_laws.specs.Consistent.{IsUpTo}
use Rattle.smf_model.specs.declared.change.Change.{Change}
use Rattle.smf_model.specs.declared.change.Change.TheVariants.{AddService, DropService, AddInstance, PutInstance, DropInstance, PutName, DropName, PutGroups, AddSnapshot, DropSnapshots, PutLaunch, NextInstance, NextSnapshot, SetRevision}
use Rattle.smf_model.specs.declared.held.Instance.{Instance}
use Rattle.smf_model.specs.declared.held.InstanceEntry.{InstanceEntry}
use Rattle.smf_model.specs.declared.held.Owner.TheVariants as owners
use Rattle.smf_model.specs.Contents.{Holdings}
use Rattle.smf_model.specs.Look.{bare, by_entry, holdings_after_change, holdings_after_changes, snapshot, with_instance}
use Rattle.smf_changes.specs.Candidates.{is_number, numbers_where, waits_for}
use Rattle.smf_changes.specs.ChangeRecord.{AreUpTo, greater, greatest_of, put_by, put_by_all}

-- ---- numbers

higher : (a b : ℕ) (o : Option ℕ) → a ≤ b → IsUpTo a o → IsUpTo b o
higher a b None low f = tt
higher a b (Some n) low f = omega arith

above : (a b : ℕ) → a ≤ max a b
above a b = omega arith

above_other : (a b : ℕ) → b ≤ max a b
above_other a b = omega arith

same_at_least : (a : ℕ) → a ≤ a
same_at_least a = omega arith

at_least : (a b c : ℕ) → a ≤ b → b ≤ c → a ≤ c
at_least a b c e f = omega arith

grows : (top : ℕ) (o : Option ℕ) → top ≤ greater top o
grows top None = same_at_least top
grows top (Some n) = above top n

reaches : (top : ℕ) (o : Option ℕ) → IsUpTo (greater top o) o
reaches top None = tt
reaches top (Some n) = above_other top n

all_higher : (a b : ℕ) (es : List InstanceEntry) → a ≤ b → AreUpTo a es → AreUpTo b es
all_higher a b [] low f = tt
all_higher a b (e ∷ es) low f = (higher a b e.instance.row.running low f.0, all_higher a b es low f.1)

-- ---- the greatest of entries

grows_over : (top : ℕ) (es : List InstanceEntry) → top ≤ greatest_of top es
grows_over top [] = same_at_least top
grows_over top (e ∷ es) =
    let next : ℕ = greater top e.instance.row.running in
    at_least top next (greatest_of next es) (grows top e.instance.row.running) (grows_over next es)

pub are_up_to : (top : ℕ) (es : List InstanceEntry) → AreUpTo (greatest_of top es) es
are_up_to top [] = tt
are_up_to top (e ∷ es) =
    let next : ℕ = greater top e.instance.row.running in (
      higher next (greatest_of next es) e.instance.row.running (grows_over next es)
          (reaches top e.instance.row.running),
      are_up_to next es,
    )

-- ---- lists that change

pub put_keeps : (P : InstanceEntry → Type 0) (x : InstanceEntry) (es : List InstanceEntry) → P x → AllByRecursion P es
    → AllByRecursion P (list_with_item by_entry x es)
put_keeps P x [] p f = (p, tt)
put_keeps P x (y ∷ ys) p f = by (by_entry.cmp (by_entry.key y) (by_entry.key x)) (put_keeps P x ys p f.1)
  where
    by : (r : Ordering) → AllByRecursion P (list_with_item by_entry x ys)
        → AllByRecursion P (put_at r x y ys (list_with_item by_entry x ys))
    by Less ih = (f.0, ih)
    by Equal ih = (p, f.1)
    by Greater ih = (p, f)

pub without_keeps : (P : InstanceEntry → Type 0) (n : ℕ) (es : List InstanceEntry) → AllByRecursion P es
    → AllByRecursion P (without by_entry n es)
without_keeps P n [] f = tt
without_keeps P n (y ∷ ys) f = by (not (has_key by_entry n y)) (without_keeps P n ys f.1)
  where
    by : (b : Bool) → AllByRecursion P (without by_entry n ys)
        → AllByRecursion P (cond b (y ∷ without by_entry n ys) (without by_entry n ys))
    by true ih = (f.0, ih)
    by false ih = ih

pub amend_keeps : (P : InstanceEntry → Type 0) (n : ℕ) (g : InstanceEntry → InstanceEntry) (es : List InstanceEntry)
    → ((e : InstanceEntry) → P e → P (g e)) → AllByRecursion P es → AllByRecursion P (amend by_entry n g es)
amend_keeps P n g [] keeps f = tt
amend_keeps P n g (y ∷ ys) keeps f = (by (has_key by_entry n y), amend_keeps P n g ys keeps f.1)
  where
    by : (b : Bool) → P (cond b (g y) y)
    by true = keeps y f.0
    by false = f.0

-- ---- changes

change_keeps : (top : ℕ) (h : Holdings) (c : Change) → AreUpTo top h.instances
    → AreUpTo (put_by top c) (holdings_after_change h c).instances
change_keeps top h (AddInstance e) f =
    let P : InstanceEntry → Type 0 = λ z. IsUpTo (greater top e.instance.row.running) z.instance.row.running in
    put_keeps P e h.instances (reaches top e.instance.row.running)
    (all_higher top (greater top e.instance.row.running) h.instances (grows top e.instance.row.running) f)
change_keeps top h (PutInstance i) f =
    let P : InstanceEntry → Type 0 = λ z. IsUpTo (greater top i.row.running) z.instance.row.running in
    amend_keeps P i.number (with_instance i) h.instances (λ e was. reaches top i.row.running)
    (all_higher top (greater top i.row.running) h.instances (grows top i.row.running) f)
change_keeps top h (DropInstance n) f = without_keeps (λ z. IsUpTo top z.instance.row.running) n h.instances f
change_keeps top h (PutGroups (owners.Instance n) gs) f =
    amend_keeps (λ z. IsUpTo top z.instance.row.running) n (λ e. record e { groups = gs }) h.instances (λ e was. was) f
change_keeps top h (PutGroups (owners.Service name) gs) f = f
change_keeps top h (AddService s) f = f
change_keeps top h (DropService name) f = f
change_keeps top h (PutName z) f = f
change_keeps top h (DropName name) f = f
change_keeps top h (AddSnapshot s) f = f
change_keeps top h (DropSnapshots n) f = f
change_keeps top h (PutLaunch l) f = f
change_keeps top h (NextInstance n) f = f
change_keeps top h (NextSnapshot n) f = f
change_keeps top h (SetRevision n) f = f

pub changes_keep : (top : ℕ) (h : Holdings) (cs : List Change) → AreUpTo top h.instances
    → AreUpTo (put_by_all top cs) (holdings_after_changes h cs).instances
unfolding holdings_after_changes
changes_keep top h [] f = f
changes_keep top h (c ∷ cs) f = changes_keep (put_by top c) (holdings_after_change h c) cs (change_keeps top h c f)

-- ---- a snapshot above all that rows name

other_number : (n top : ℕ) (o : Option ℕ) → top < n → IsUpTo top o → is_number n o ≡ false
other_number n top None low f = refl
other_number n top (Some m) low f = by (m == n) refl
  where
    apart : m ≡ n → m ≤ top → top < n → false ≡ true
    apart e high less = absurd (omega arith)

    by : (b : Bool) → (m == n) ≡ b → b ≡ false
    by true e = sym (apart ((Decides-eqb m n).0 e) f low)
    by false e = refl

none_of : (h : Holdings) (n top : ℕ) (es : List InstanceEntry) → top < n → AreUpTo top es
    → filter (waits_for h n) (bare es) ≡ []
none_of h n top [] low f = refl
none_of h n top (e ∷ es) low f =
    ap (λ (b : Bool). cond (b && is_none (snapshot h n)) (e.instance ∷ filter (waits_for h n) (bare es))
    (filter (waits_for h n) (bare es))) (other_number n top e.instance.row.running low f.0)
    ∙ none_of h n top es low f.1

pub none_waits : (h : Holdings) (n top : ℕ) → AreUpTo top h.instances → top < n → numbers_where (waits_for h n) h ≡ []
none_waits h n top f low = ap (map (λ (i : Instance). i.number)) (none_of h n top h.instances low f)
