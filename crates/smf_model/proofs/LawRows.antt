-- How rows go on, and that snapshots stay.
use Rattle.std.proofs.Common.{◌≡◌, ◌⊎◌, ℕ, ◌+◌, ◌≤◌, ◌==◌, not, Bool, true, false, cond, List, Option, Some, None, option_map, refl, sym, ap, ◌∙◌, subst, inl, inr, arith, eqb-true}
use Rattle.std.specs.Ordering.{is_eq, nat_cmp}
use Rattle.smf_fmri.specs.ByKey.{lookup, list_with_item as put_in, without}
use Rattle.smf_fmri.proofs.Lookups.{equal_from_test, lookup_put, lookup_without, with_answer_cases}
use Rattle.smf_state.specs.declared.row.Row.{Row}
use Rattle.smf_state.specs.Rows.{fresh}
use Rattle.smf_model.specs.declared.command.Command.{Command}
use Rattle.smf_model.specs.declared.command.Command.TheVariants as commands
use Rattle.smf_model.specs.declared.command.Edit.TheVariants as asked_for
use Rattle.smf_model.specs.declared.command.CommandReply.{CommandReply}
use Rattle.smf_model.specs.declared.held.Instance.{Instance}
use Rattle.smf_model.specs.declared.held.Snapshot.{Snapshot}
use Rattle.smf_model.specs.Contents.{Holdings}
use Rattle.smf_model.specs.Look.{by_instance, by_snapshot, in_place, instance, instances, put_over, snapshot}
use Rattle.smf_model.specs.Laws.{IsNumbered, Stays, RowFollows, stays, steps, boots, moves, Follows}
use Rattle.smf_model.specs.GeneralGroup.{Groups, current}
use Rattle.smf_model.specs.Next.{new_instance, instance_after_boot, next}
use Rattle.smf_model.proofs.LawLists.{at_put, no_such, some_filter, some_put_new, some_same}
use Rattle.smf_model.proofs.LawOutcomes.{Outcome, nothing, goes, OfInstances, alike, joined, left, put, each, written, OfSnapshots, kept, taken, gone, booted_at, current_row, outcome, stays_on}
use Rattle.smf_model.proofs.Written.{Written, stays_so, is_read, at_written, is_shown, put_each}

-- ---- snapshots

abbrev Remains : Holdings → Command → ℕ → Snapshot → List Snapshot → Type 0
Remains h c n s xs = (lookup by_snapshot xs n ≡ Some s) ⊎ (c ≡ commands.Edit (asked_for.DeleteInstance s.instance))

remains_by : (h : Holdings) (c : Command) (n : ℕ) (s : Snapshot) (xs : List Snapshot) (m : ℕ) → OfSnapshots h c xs m
    → snapshot h n ≡ Some s → Remains h c n s xs
remains_by h c n s xs m (kept e f) is = inl (rw e is)
remains_by h c n s xs m (taken t number e f) is = inl (rw e (some_put_new by_snapshot t h.snapshots n s is))
remains_by h c n s xs m (gone d deletes e f) is = by (s.instance == d) refl
  where
    by : (b : Bool) → (s.instance == d) ≡ b → Remains h c n s xs
    by true same =
        inr (deletes ∙ ap (λ (i : ℕ). commands.Edit (asked_for.DeleteInstance i)) (sym (eqb-true s.instance d same)))
    by false other = inl (rw e (some_filter _ _ h.snapshots s is (ap not other)))

remains : (h : Holdings) (c : Command) (k : Holdings) (r : CommandReply) (n : ℕ) (s : Snapshot) → Outcome h c k r
    → snapshot h n ≡ Some s → Remains h c n s k.snapshots
remains h c k r n s (nothing e a) is = inl (rw e is)
remains h c k r n s (goes g) is = remains_by h c n s k.snapshots k.next_snapshot g.snapshots is

pub snapshot_stays : (h : Holdings) (c : Command) (n : ℕ) (s : Snapshot) → snapshot h n ≡ Some s
    → (snapshot (next h c).0 n ≡ Some s) ⊎ (c ≡ commands.Edit (asked_for.DeleteInstance s.instance))
snapshot_stays h c n s is = remains h c (next h c).0 (next h c).1 n s (outcome h c) is

-- ---- rows

at_same : (n : ℕ) (xs ys : List Instance) → xs ≡ ys → lookup by_instance xs n ≡ lookup by_instance ys n
at_same n xs ys e = ap (λ (zs : List Instance). lookup by_instance zs n) e

unmoved : (c : Command) (n : ℕ) (o : Option Instance) (j : Instance) → o ≡ Some j → Follows c n o j
unmoved c n None j e = absurd cc
unmoved c n (Some i) j e =
    stays (subst (λ (x : Instance). Stays i.row x.row) (some_same i j e) (record { same = refl; owner = inr refl }))

follows_new : (h : Holdings) (c : Command) (n : ℕ) (name : List ℕ) (o : Option Instance) (j : Instance) → IsNumbered h
    → instance h n ≡ o → lookup by_instance (put_in by_instance (new_instance h name) (instances h)) n ≡ Some j
    → Follows c n o j
follows_new h c n name o j b e found =
    elim (with_answer_cases by_instance (instance h) h.next_instance (Some (new_instance h name)) n (Some j)
    (sym (lookup_put by_instance (new_instance h name) (instances h) n) ∙ found)) [
      | inl q ↦ new o e q.0 (some_same (new_instance h name) j q.1)
      | inr q ↦ unmoved c n o j (sym e ∙ q.1)
    ]
  where
    new : (o : Option Instance) → instance h n ≡ o → h.next_instance ≡ n → new_instance h name ≡ j → Follows c n o j
    new None e at is = subst (λ (x : Instance). x.row ≡ fresh x.row.owner) is refl
    new (Some i) e at is = absurd (no_such (instance h n) i (b.instances n (omega arith)) e)

follows_left : (h : Holdings) (c : Command) (n d : ℕ) (o : Option Instance) (j : Instance) → instance h n ≡ o
    → lookup by_instance (without by_instance d (instances h)) n ≡ Some j → Follows c n o j
follows_left h c n d o j e found =
    elim (with_answer_cases by_instance (instance h) d None n (Some j)
    (sym (lookup_without by_instance d (instances h) n) ∙ found)) [
      | inl q ↦ absurd (none_some q.1)
      | inr q ↦ unmoved c n o j (sym e ∙ q.1)
    ]
  where
    none_some : None ≡ Some j → ⊥
    none_some e = cc

follows_put : (h : Holdings) (c : Command) (n m : ℕ) (i x : Instance) (o : Option Instance) (j : Instance)
    → instance h m ≡ Some i → x.number ≡ m → RowFollows c m i.row x.row → instance h n ≡ o
    → lookup by_instance (put_over x (instances h)) n ≡ Some j → Follows c n o j
follows_put h c n m i x o j there number follows e found =
    by (is_eq (nat_cmp x.number n)) refl o e
    (ap (λ (p : Option Instance). cond (is_eq (nat_cmp x.number n)) (option_map (in_place x) p) p) (sym e)
    ∙ (sym (at_put n x (instances h)) ∙ found))
  where
    by : (b : Bool) → is_eq (nat_cmp x.number n) ≡ b → (o : Option Instance) → instance h n ≡ o
        → cond b (option_map (in_place x) o) o ≡ Some j → Follows c n o j
    by false other o e f = unmoved c n o j f
    by true same None e f = absurd (none_some f)
      where
        none_some : None ≡ Some j → ⊥
        none_some e = cc
    by true same (Some i0) e f =
        let m_is : m ≡ n = sym number ∙ by_instance.exact x.number n (equal_from_test (nat_cmp x.number n) same) in
        let follows_n : RowFollows c n i.row x.row = subst (λ (l : ℕ). RowFollows c l i.row x.row) m_is follows in
        let one : i ≡ i0 = some_same i i0 (sym there ∙ (ap (instance h) m_is ∙ e)) in
        let put_there : in_place x i0 ≡ j = some_same (in_place x i0) j f in
        subst (λ (y : Instance). RowFollows c n i0.row y.row) put_there
        (subst (λ (y : Instance). RowFollows c n y.row x.row) one follows_n)

follows_boot : (h : Holdings) (c : Command) (n : ℕ) (gs : Groups) (o : Option Instance) (j : Instance)
    → c ≡ commands.Boot → IsNumbered h → instance h n ≡ o
    → lookup by_instance (put_each (instance_after_boot gs) (instances h) (instances h)) n ≡ Some j → Follows c n o j
follows_boot h c n gs o j boot b e found =
    by o (ap (option_map (instance_after_boot gs)) (sym e) ∙ (sym (booted_at h gs n b) ∙ found))
  where
    by : (o : Option Instance) → option_map (instance_after_boot gs) o ≡ Some j → Follows c n o j
    by None e = absurd cc
    by (Some i) e =
        let is : instance_after_boot gs i ≡ j = some_same (instance_after_boot gs i) j e in
        subst (λ (y : Instance). RowFollows c n i.row y.row) is
        (boots boot (record {
          number = refl;
          state = refl;
          next = refl;
          live = refl;
          side = refl;
          last = refl;
          launch = refl;
          serial = refl;
        }))

-- a row that has begun, or went on, has a number above 0
never : (m n : ℕ) → m ≡ n + 1 → m ≡ 0 → ⊥
never m n e f = omega arith

follows_written : (gs : Groups) (c : Command) (n : ℕ) (o p q : Option Instance) (j : Instance)
    → ((i : Instance) → p ≡ Some i → Follows c n o i) → Written gs p q → q ≡ Some j → Follows c n o j
follows_written gs c n o p q j before (stays_so e) found = before j (sym e ∙ found)
follows_written gs c n o p q j before (is_read i there zero e) found =
    subst (λ (x : Instance). Follows c n o x) (some_same (current gs i) j (sym e ∙ found)) (by o (before i there))
  where
    by : (o : Option Instance) → Follows c n o i → Follows c n o (current gs i)
    by None f = (is_shown gs i).row ∙ ap (λ (r : Row). record r { owner = (current gs i).row.owner }) f
    by (Some b) f = on f
      where
        on : RowFollows c n b.row i.row → RowFollows c n b.row (current gs i).row
        on (stays s) = stays (stays_on b.row i.row (current gs i).row s (current_row gs i).row)
        on (steps p is at g) = absurd (never i.row.number b.row.number g.counted zero)
        on (boots is a) = absurd (never i.row.number b.row.number a.number zero)
        on (moves is from a) = absurd (never i.row.number b.row.number a.number zero)

follows_by : (h : Holdings) (c : Command) (n m : ℕ) (xs : List Instance) (o : Option Instance) (j : Instance)
    → OfInstances h c m xs → IsNumbered h → instance h n ≡ o → lookup by_instance xs n ≡ Some j → Follows c n o j
follows_by h c n m xs o j (alike e f) a is found = unmoved c n o j (sym is ∙ (sym (at_same n xs _ e) ∙ found))
follows_by h c n m xs o j (joined name e f) a is found =
    follows_new h c n name o j a is (sym (at_same n xs _ e) ∙ found)
follows_by h c n m xs o j (left d e f) a is found = follows_left h c n d o j is (sym (at_same n xs _ e) ∙ found)
follows_by h c n m xs o j (put l i x there number follows e f) a is found =
    follows_put h c n l i x o j there number follows is (sym (at_same n xs _ e) ∙ found)
follows_by h c n m xs o j (each boot gs e f) a is found =
    follows_boot h c n gs o j boot a is (sym (at_same n xs _ e) ∙ found)
follows_by h c n m xs o j (written ys before gs js held e) a is found =
    follows_written gs c n o (lookup by_instance ys n) (lookup by_instance (put_each (current gs) js ys) n) j
    (λ i f. follows_by h c n m ys o i before a is f) (at_written gs js ys n (held a))
    (sym (at_same n xs (put_each (current gs) js ys) e) ∙ found)

follows_of : (h : Holdings) (c : Command) (k : Holdings) (r : CommandReply) (n : ℕ) (o : Option Instance)
    (j : Instance) → Outcome h c k r → IsNumbered h → instance h n ≡ o → instance k n ≡ Some j → Follows c n o j
follows_of h c k r n o j (nothing e x) a is found =
    unmoved c n o j (sym is ∙ (sym (ap (λ (l : Holdings). instance l n) e) ∙ found))
follows_of h c k r n o j (goes g) a is found = follows_by h c n k.next_instance (instances k) o j g.instances a is found

pub follows_next : (h : Holdings) (c : Command) (n : ℕ) (j : Instance) → IsNumbered h
    → instance (next h c).0 n ≡ Some j → Follows c n (instance h n) j
follows_next h c n j numbered found =
    follows_of h c (next h c).0 (next h c).1 n (instance h n) j (outcome h c) numbered refl found

rises : (c : Command) (n : ℕ) (r s : Row) → RowFollows c n r s → (r.number ≤ s.number) × (r.last ≤ s.last)
rises c n r s (stays t) =
    let a = ap (λ (x : Row). x.number) t.same in
    let b = ap (λ (x : Row). x.last) t.same in
    (omega arith, omega arith)
rises c n r s (steps p is at g) = let a = g.counted in let b = g.runs_kept in (omega arith, omega arith)
rises c n r s (boots is t) = let a = t.number in let b = t.last in (omega arith, omega arith)
rises c n r s (moves is from t) = let a = t.number in let b = t.last in (omega arith, omega arith)

pub row_rises : (h : Holdings) (c : Command) (n : ℕ) (i j : Instance) → IsNumbered h → instance h n ≡ Some i
    → instance (next h c).0 n ≡ Some j → (i.row.number ≤ j.row.number) × (i.row.last ≤ j.row.last)
row_rises h c n i j numbered is found =
    rises c n i.row j.row (subst (λ (o : Option Instance). Follows c n o j) is (follows_next h c n j numbered found))
