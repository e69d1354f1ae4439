-- Groups that are put, taken out and picked stay groups that a body may hold.
use Rattle.std.proofs.Common.{◌≡◌, ℕ, ◌+◌, ◌<◌, ◌≤◌, ◌^◌, nat_lt, ◌&&◌, not, List, [], ◌∷◌, length, filter, Bool, true, false, cond, Some, refl, subst, arith, ltb-true, ltb-false}
use Rattle.std.specs.Cmp.Lexicographic.{pointwise}
use Rattle.std.specs.List.{AllByRecursion}
use Rattle.std.specs.Prelude.{count_by, nat_eq}
use Rattle.std.specs.declared.cmp.Ordering.TheVariants.{Less, Equal}
use Rattle.std.proofs.lemmas.List.Sums.{length-filter}
use Rattle.smf_fmri.specs.ByKey.{By, IsBelowFirst, Rises, lookup, list_with_item, put_all}
use Rattle.smf_fmri.proofs.Lookups.{same_key}
use Rattle.smf_fmri.proofs.Patterns.{same_text}
use Rattle.smf_fmri.proofs.Places.{length_put_over}
use Rattle.smf_fmri.proofs.KeyOrder.{all_put, first_below, length_put, rises_filter, rises_put, rises_put_all}
use Rattle.smf_value.specs.Body.{AreGroups, IsWholeGroup}
use Rattle.smf_value.specs.Groups.{GroupRecord, by_group}
use Rattle.smf_snap.specs.Snapshots.{is_snapped, groups_of_revert, unsnapped_groups, snapshot_groups}
use Rattle.smf_world.proofs.FormedEdits.{every_filter}

-- ---- how many there are

abbrev is_called : List ℕ → GroupRecord → Bool
is_called name g = pointwise nat_eq g.name name

not_less : {X K : Type 0} (o : By X K) (k : K) → o.cmp k k ≡ Less → ⊥
not_less o k h = let e : o.cmp k k ≡ Equal = same_key o k in absurd cc

none_called : (name : List ℕ) (gs : List GroupRecord) → IsBelowFirst by_group name gs → Rises by_group gs
    → length (filter (is_called name) gs) ≡ 0
none_called name [] b r = refl
none_called name (g ∷ gs) b r =
    by (is_called name g) refl (none_called name gs (first_below by_group name g.name gs b r.0) r.1)
  where
    by : (v : Bool) → is_called name g ≡ v → length (filter (is_called name) gs) ≡ 0
        → length (cond v (g ∷ filter (is_called name) gs) (filter (is_called name) gs)) ≡ 0
    by false e none = none
    by true e none =
        let same : g.name ≡ name = (same_text g.name name).0 e in
        absurd (not_less by_group name (subst (λ (k : List ℕ). by_group.cmp name k ≡ Less) same b))

one_called : (name : List ℕ) (gs : List GroupRecord) → Rises by_group gs → length (filter (is_called name) gs) ≤ 1
one_called name [] r = omega arith
one_called name (g ∷ gs) r = by (is_called name g) refl (one_called name gs r.1)
  where
    by : (v : Bool) → is_called name g ≡ v → length (filter (is_called name) gs) ≤ 1
        → length (cond v (g ∷ filter (is_called name) gs) (filter (is_called name) gs)) ≤ 1
    by false e one = one
    by true e one =
        let same : g.name ≡ name = (same_text g.name name).0 e in
        let none : length (filter (is_called name) gs) ≡ 0 =
        none_called name gs (subst (λ (k : List ℕ). IsBelowFirst by_group k gs) same r.0) r.1 in
        omega arith

abbrev is_neither : List ℕ → List ℕ → GroupRecord → Bool
is_neither a b g = not (pointwise nat_eq g.name a) && not (pointwise nat_eq g.name b)

in_parts : (a b : List ℕ) (gs : List GroupRecord)
    → length gs ≤ length (filter (is_neither a b) gs)
    + (length (filter (is_called a) gs) + length (filter (is_called b) gs))
in_parts a b [] = omega arith
in_parts a b (g ∷ gs) = by (is_called a g) (is_called b g) (in_parts a b gs)
  where
    others : List GroupRecord
    others = filter (is_neither a b) gs

    firsts : List GroupRecord
    firsts = filter (is_called a) gs

    seconds : List GroupRecord
    seconds = filter (is_called b) gs

    by : (u v : Bool) → length gs ≤ length others + (length firsts + length seconds)
        → length (g ∷ gs) ≤ length (cond (not u && not v) (g ∷ others) others)
        + (length (cond u (g ∷ firsts) firsts) + length (cond v (g ∷ seconds) seconds))
    by true true h = omega arith
    by true false h = omega arith
    by false true h = omega arith
    by false false h = omega arith

pub room_for : (a b : List ℕ) (gs : List GroupRecord) → Rises by_group gs
    → nat_lt (count_by (is_neither a b) gs) 1000 ≡ true → length gs ≤ 1001
room_for a b gs r t =
    let low : count_by (is_neither a b) gs < 1000 = ltb-true (count_by (is_neither a b) gs) 1000 t in
    let n : length (filter (is_neither a b) gs) ≡ count_by (is_neither a b) gs = length-filter (is_neither a b) gs in
    let all = in_parts a b gs in
    let firsts : length (filter (is_called a) gs) ≤ 1 = one_called a gs r in
    let seconds : length (filter (is_called b) gs) ≤ 1 = one_called b gs r in
    omega arith

-- ---- what changes do

pub no_groups : AreGroups []
no_groups = record { bounded = omega arith; rises = tt; each = tt }

pub groups_put : (g : GroupRecord) (gs : List GroupRecord) → IsWholeGroup g → AreGroups gs → length gs ≤ 1001
    → AreGroups (list_with_item by_group g gs)
groups_put g gs whole are low =
    let n : length (list_with_item by_group g gs) ≤ length gs + 1 = (length_put by_group g gs).1 in
    record {
      bounded = omega arith;
      rises = rises_put by_group g gs are.rises;
      each = all_put by_group IsWholeGroup g gs whole are.each;
    }

-- over the one of its name
pub groups_over : (g old : GroupRecord) (gs : List GroupRecord) → IsWholeGroup g → AreGroups gs
    → lookup by_group gs g.name ≡ Some old → AreGroups (list_with_item by_group g gs)
groups_over g old gs whole are e =
    let n : length (list_with_item by_group g gs) ≡ length gs = length_put_over by_group g old gs are.rises e in
    let low : length gs < 2 ^ 32 = are.bounded in
    record {
      bounded = omega arith;
      rises = rises_put by_group g gs are.rises;
      each = all_put by_group IsWholeGroup g gs whole are.each;
    }

shorter : (test : GroupRecord → Bool) (gs : List GroupRecord) → length (filter test gs) ≤ length gs
shorter test [] = omega arith
shorter test (g ∷ gs) = by (test g) (shorter test gs)
  where
    by : (b : Bool) → length (filter test gs) ≤ length gs
        → length (cond b (g ∷ filter test gs) (filter test gs)) ≤ length (g ∷ gs)
    by true h = omega arith
    by false h = omega arith

pub groups_filter : (test : GroupRecord → Bool) (gs : List GroupRecord) → AreGroups gs → AreGroups (filter test gs)
groups_filter test gs are =
    let n : length (filter test gs) ≤ length gs = shorter test gs in
    let low : length gs < 2 ^ 32 = are.bounded in
    record {
      bounded = omega arith;
      rises = rises_filter by_group test gs are.rises;
      each = every_filter IsWholeGroup test gs are.each;
    }

pub filter_short : (test : GroupRecord → Bool) (gs : List GroupRecord) → length gs ≤ 1001
    → length (filter test gs) ≤ 1001
filter_short test gs low = let n : length (filter test gs) ≤ length gs = shorter test gs in omega arith

pub groups_taken : (gs : List GroupRecord) → AreGroups gs → AreGroups (snapshot_groups gs)
unfolding snapshot_groups
groups_taken gs are = groups_filter is_snapped gs are

every_put : (gs hs : List GroupRecord) → AllByRecursion IsWholeGroup gs → AllByRecursion IsWholeGroup hs
    → AllByRecursion IsWholeGroup (put_all by_group gs hs)
every_put [] hs a b = b
every_put (g ∷ gs) hs a b = every_put gs (list_with_item by_group g hs) a.1 (all_put by_group IsWholeGroup g hs a.0 b)

-- a revert within the limit makes groups that a body may hold
pub groups_restored : (now of : List GroupRecord) → AreGroups now → AreGroups of
    → nat_lt 1000 (length (groups_of_revert now of)) ≡ false → AreGroups (groups_of_revert now of)
unfolding groups_of_revert unsnapped_groups
groups_restored now of are was t =
    let stay : AreGroups (unsnapped_groups now) = groups_filter (λ g. not (is_snapped g)) now are in
    let low : length (groups_of_revert now of) ≤ 1000 = ltb-false 1000 (length (groups_of_revert now of)) t in
    record {
      bounded = omega arith;
      rises = rises_put_all by_group of (unsnapped_groups now) stay.rises;
      each = every_put of (unsnapped_groups now) was.each stay.each;
    }
