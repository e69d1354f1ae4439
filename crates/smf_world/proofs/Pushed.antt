-- The last commit of an instance, after rows are put on a trail.
use Rattle.std.proofs.Common.{◌≡◌, ℕ, ◌==◌, Bool, true, false, cond, if◌then◌else◌, List, [], ◌∷◌, map, filter, Option, Some, None, option_map, refl, sym, ap, ◌∙◌, subst}
use Rattle.std.specs.Prelude.{find}
use Rattle.smf_model.specs.declared.held.Instance.{Instance}
use Rattle.smf_model.specs.Laws.{AreApart}
use Rattle.smf_model.specs.Look.{has_number}
use Rattle.smf_world.specs.declared.item.Item.{Item}
use Rattle.smf_world.specs.declared.item.Item.TheVariants.{Boot, Committed}
use Rattle.smf_world.specs.Items.{row_item}
use Rattle.smf_world.specs.Safe.{AlongTheDiagram, Last, RowFollows, behind_boot, commits, last_of}
use Rattle.smf_world.proofs.CommitLists.{has_other, none_first, number_is, same, turned}
use Rattle.smf_world.proofs.TrailItems.{noted, noted_more}

-- ---- the commits alone

pub last_commits : (n : ℕ) (t : List Item) → last_of n (commits t) ≡ last_of n t
last_commits n [] = refl
last_commits n (Committed j m state next ∷ t) =
    ap (λ (o : Option Last). if j == n then Some (record { number = m; state = state; booted = false }) else o)
    (last_commits n t)
last_commits n (Boot ∷ t) = ap (λ (o : Option Last). option_map behind_boot o) (last_commits n t)
last_commits n (item ∷ t) = last_commits n t

pub along_commits : (t : List Item) → AlongTheDiagram (commits t) → AlongTheDiagram t
along_commits [] a = a
along_commits (Committed j m state next ∷ t) a =
    (subst (λ (o : Option Last). RowFollows o m state) (last_commits j t) a.0, along_commits t a.1)
along_commits (Boot ∷ t) a = along_commits t a
along_commits (item ∷ t) a = along_commits t a

-- ---- rows that are put on

abbrev pub last_held : Instance → Last
last_held i = record { number = i.row.number; state = i.row.state; booted = false }

-- the last commit of each of these instances is its row
abbrev pub AreTracked : List Item → List Instance → Type 0
AreTracked t [] = Unit {0}
AreTracked t (i ∷ is) = (last_of i.number t ≡ Some (last_held i)) × AreTracked t is

pub tracked_at : (t : List Item) (n : ℕ) (is : List Instance) (i : Instance) → AreTracked t is
    → find (has_number n) is ≡ Some i → last_of n t ≡ Some (last_held i)
tracked_at t n [] i a e = absurd cc
tracked_at t n (j ∷ js) i a e = by (has_number n j) refl e (tracked_at t n js i a.1)
  where
    by : (b : Bool) → has_number n j ≡ b → cond b (Some j) (find (has_number n) js) ≡ Some i
        → (find (has_number n) js ≡ Some i → last_of n t ≡ Some (last_held i)) → last_of n t ≡ Some (last_held i)
    by true is e ih =
        let j_is : j ≡ i = cc in
        subst (λ (m : ℕ). last_of m t ≡ Some (last_held i)) (number_is j.number n is)
        (subst (λ (x : Instance). last_of j.number t ≡ Some (last_held x)) j_is a.0)
    by false is e ih = ih e

-- a row that is put on may be, and one that is not is what was committed last
abbrev pub IsReady : (Instance → Bool) → Instance → Option Last → Type 0
IsReady test i o = (test i ≡ true → RowFollows o i.row.number i.row.state) × (test i ≡ false → o ≡ Some (last_held i))

abbrev pub AreReady : (Instance → Bool) → List Item → List Instance → Type 0
AreReady test t [] = Unit {0}
AreReady test t (i ∷ is) = IsReady test i (last_of i.number t) × AreReady test t is

past_other : (j : Instance) (n : ℕ) (t : List Item) → (j.number == n) ≡ false → last_of n (row_item j ∷ t) ≡ last_of n t
past_other j n t e = rw e refl

ready_more : (test : Instance → Bool) (j : Instance) (t : List Item) (is : List Instance)
    → find (has_number j.number) is ≡ None → AreReady test t is → AreReady test (row_item j ∷ t) is
ready_more test j t [] n a = tt
ready_more test j t (i ∷ is) n a =
    let first = none_first (has_number j.number i) i (find (has_number j.number) is) n in (
      subst (IsReady test i)
          (sym (past_other j i.number t (has_other j.number i.number (turned i.number j.number first.0)))) a.0,
      ready_more test j t is first.1 a.1,
    )

-- a trail with these on it
pub record ArePushed (is : List Instance) (t u : List Item) : Type 0 where
  pub along : AlongTheDiagram u
  pub rows : AreTracked u is
  pub others : (n : ℕ) → find (has_number n) is ≡ None → last_of n u ≡ last_of n t

at_row : (j : Instance) (t : List Item) → last_of j.number (row_item j ∷ t) ≡ Some (last_held j)
at_row j t = rw (same j.number) refl

put_on : (j : Instance) (js : List Instance) (t u : List Item) → find (has_number j.number) js ≡ None
    → ArePushed js (row_item j ∷ t) u → ArePushed (j ∷ js) t u
put_on j js t u n p =
    record {
      along = p.along;
      rows = (p.others j.number n ∙ at_row j t, p.rows);
      others = λ m e. let first = none_first (has_number m j) j (find (has_number m) js) e in
          p.others m first.1 ∙ past_other j m t (has_other j.number m first.0);
    }

left_out : (j : Instance) (js : List Instance) (t u : List Item) → find (has_number j.number) js ≡ None
    → last_of j.number t ≡ Some (last_held j) → ArePushed js t u → ArePushed (j ∷ js) t u
left_out j js t u n e p =
    record {
      along = p.along;
      rows = (p.others j.number n ∙ e, p.rows);
      others = λ m e. p.others m (none_first (has_number m j) j (find (has_number m) js) e).1;
    }

pub pushed : (test : Instance → Bool) (is : List Instance) (t : List Item) → AreApart is → AreReady test t is
    → AlongTheDiagram t → ArePushed is t (noted (map row_item (filter test is)) t)
pushed test [] t a r l = record { along = l; rows = tt; others = λ n e. refl }
pushed test (j ∷ js) t a r l =
    by (test j) refl
    (λ e. pushed test js (row_item j ∷ t) a.1 (ready_more test j t js a.0 r.1) (r.0.0 e, l))
    (pushed test js t a.1 r.1 l)
  where
    by : (b : Bool) → test j ≡ b
        → (test j ≡ true → ArePushed js (row_item j ∷ t) (noted (map row_item (filter test js)) (row_item j ∷ t)))
        → ArePushed js t (noted (map row_item (filter test js)) t)
        → ArePushed (j ∷ js) t (noted (map row_item (cond b (j ∷ filter test js) (filter test js))) t)
    by true e on out =
        put_on j js t _ a.0
        (subst (ArePushed js (row_item j ∷ t)) (sym (noted_more (row_item j) (map row_item (filter test js)) t)) (on e))
    by false e on out = left_out j js t _ a.0 (r.0.1 e) out
