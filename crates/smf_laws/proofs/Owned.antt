-- An owner's groups stay few and in order.
use Rattle.std.proofs.Common.{◌≡◌, ℕ, ◌+◌, ◌<◌, ◌≤◌, nat_lt, ◌&&◌, not, List, [], ◌∷◌, length, Bool, true, false, cond, Some, refl, sym, ap, subst, ◌∙◌, arith, ltb-true, ltb-false}
use Rattle.std.specs.Cmp.Lexicographic.{pointwise, texts_ties}
use Rattle.std.proofs.lemmas.List.Sums.{length-filter}
use Rattle.std.specs.Prelude.{count_by, filter, nat_eq}
use Rattle.std.specs.declared.cmp.Ordering.{Ordering}
use Rattle.std.specs.declared.cmp.Ordering.TheVariants.{Less, Equal, Greater}
use Rattle.smf_fmri.specs.ByKey.{By, IsBelowFirst, Rises, has_key, lookup, list_with_item, put_by, without}
use Rattle.smf_fmri.proofs.Lookups.{same_key}
use Rattle.smf_fmri.proofs.Patterns.{same_text}
use Rattle.smf_fmri.proofs.Places.{length_put_over}
use Rattle.smf_fmri.proofs.KeyOrder.{first_below, rises_filter, rises_put, rises_put_all, rises_without}
use Rattle.smf_snap.specs.Snapshots.{groups_of_revert, unsnapped_groups}
use Rattle.smf_snap.proofs.Order.{rises_staying}
use Rattle.smf_value.specs.Groups.{GroupRecord, by_group}
use Rattle.smf_model.specs.Next.{is_other_group, most_groups}
use Rattle.smf_laws.specs.Consistent.{AreOwned}

pub none_owned : AreOwned []
none_owned = record { rise = tt; few = omega arith }

-- ---- a part of them

shorter : (test : GroupRecord → Bool) (gs : List GroupRecord) → length (filter test gs) ≤ length gs
shorter test [] = omega arith
shorter test (g ∷ gs) = by (test g) (shorter test gs)
  where
    by : (b : Bool) → length (filter test gs) ≤ length gs
        → length (cond b (g ∷ filter test gs) (filter test gs)) ≤ length (g ∷ gs)
    by true h = omega arith
    by false h = omega arith

pub owned_filter : (test : GroupRecord → Bool) (gs : List GroupRecord) → AreOwned gs → AreOwned (filter test gs)
owned_filter test gs a =
    let n : length (filter test gs) ≤ length gs = shorter test gs in
    let low : length gs ≤ 1000 = a.few in
    record { rise = rises_filter by_group test gs a.rise; few = omega arith }

pub owned_without : (name : List ℕ) (gs : List GroupRecord) → AreOwned gs → AreOwned (without by_group name gs)
owned_without name gs a = owned_filter (λ g. not (has_key by_group name g)) gs a

-- ---- a group in its place

-- over the one of its name
pub owned_over : (g old : GroupRecord) (gs : List GroupRecord) → AreOwned gs → lookup by_group gs g.name ≡ Some old
    → AreOwned (list_with_item by_group g gs)
owned_over g old gs a e =
    let n : length (list_with_item by_group g gs) ≡ length gs = length_put_over by_group g old gs a.rise e in
    let low : length gs ≤ 1000 = a.few in
    record { rise = rises_put by_group g gs a.rise; few = omega arith }

abbrev is_called : List ℕ → GroupRecord → Bool
is_called name g = pointwise nat_eq g.name name

-- those of other names
abbrev pub others : List ℕ → List GroupRecord → List GroupRecord
others name gs = filter (λ g. not (is_called name g)) gs

not_less : {X K : Type 0} (o : By X K) (k : K) → o.cmp k k ≡ Less → ⊥
not_less o k h = let e : o.cmp k k ≡ Equal = same_key o k in absurd cc

none_called : (name : List ℕ) (gs : List GroupRecord) → IsBelowFirst by_group name gs → Rises by_group gs
    → length gs ≤ length (others name gs)
none_called name [] b r = omega arith
none_called name (g ∷ gs) b r =
    by (is_called name g) refl (none_called name gs (first_below by_group name g.name gs b r.0) r.1)
  where
    by : (v : Bool) → is_called name g ≡ v → length gs ≤ length (others name gs)
        → length (g ∷ gs) ≤ length (cond (not v) (g ∷ others name gs) (others name gs))
    by false e all = omega arith
    by true e all =
        let same : g.name ≡ name = (same_text g.name name).0 e in
        absurd (not_less by_group name (subst (λ (k : List ℕ). by_group.cmp name k ≡ Less) same b))

-- at most one has the name
one_called : (name : List ℕ) (gs : List GroupRecord) → Rises by_group gs → length gs ≤ length (others name gs) + 1
one_called name [] r = omega arith
one_called name (g ∷ gs) r = by (is_called name g) refl (one_called name gs r.1)
  where
    by : (v : Bool) → is_called name g ≡ v → length gs ≤ length (others name gs) + 1
        → length (g ∷ gs) ≤ length (cond (not v) (g ∷ others name gs) (others name gs)) + 1
    by false e one = omega arith
    by true e one =
        let same : g.name ≡ name = (same_text g.name name).0 e in
        let none : length gs ≤ length (others name gs) =
        none_called name gs (subst (λ (k : List ℕ). IsBelowFirst by_group k gs) same r.0) r.1 in
        omega arith

called_itself : (name : List ℕ) → pointwise nat_eq name name ≡ true
called_itself name = (same_text name name).1 refl

-- a group that is put is none of the others
others_by : (g y : GroupRecord) (ys : List GroupRecord) (r : Ordering) → by_group.cmp y.name g.name ≡ r
    → length (others g.name (list_with_item by_group g ys)) ≡ length (others g.name ys)
    → length (others g.name (put_by r g y ys (list_with_item by_group g ys))) ≡ length (others g.name (y ∷ ys))
others_by g y ys Less e ih = by (not (is_called g.name y))
  where
    by : (b : Bool)
        → length (cond b (y ∷ others g.name (list_with_item by_group g ys))
        (others g.name (list_with_item by_group g ys))) ≡ length (cond b (y ∷ others g.name ys) (others g.name ys))
    by true = omega arith
    by false = ih
others_by g y ys Equal e ih =
    let same : y.name ≡ g.name = by_group.exact y.name g.name e in
    let here : is_called g.name g ≡ true = called_itself g.name in
    let there : is_called g.name y ≡ true = ap (λ (name : List ℕ). pointwise nat_eq name g.name) same ∙ here in
    rw (here, there) refl
others_by g y ys Greater e ih = let here : is_called g.name g ≡ true = called_itself g.name in rw here refl

others_put : (g : GroupRecord) (gs : List GroupRecord)
    → length (others g.name (list_with_item by_group g gs)) ≡ length (others g.name gs)
others_put g [] = let here : is_called g.name g ≡ true = called_itself g.name in rw here refl
others_put g (y ∷ ys) = others_by g y ys (by_group.cmp y.name g.name) refl (others_put g ys)

-- those of neither of two names
abbrev neither : List ℕ → List ℕ → List GroupRecord → List GroupRecord
neither first second gs = filter (is_other_group first second) gs

apart : (first second : List ℕ) (gs : List GroupRecord)
    → length (others first (without by_group second gs)) ≤ length (neither first second gs)
apart first second [] = omega arith
apart first second (g ∷ gs) =
    by (is_called second g) (has_key by_group second g) (texts_ties g.name second) (apart first second gs)
  where
    rest : List GroupRecord
    rest = without by_group second gs

    gone : (u : Bool) → length (others first rest) ≤ length (neither first second gs)
        → length (others first rest) ≤ length
        (cond (not u && false) (g ∷ neither first second gs) (neither first second gs))
    gone true h = h
    gone false h = h

    stays : (u : Bool) → length (others first rest) ≤ length (neither first second gs)
        → length (cond (not u) (g ∷ others first rest) (others first rest)) ≤ length
        (cond (not u && true) (g ∷ neither first second gs) (neither first second gs))
    stays true h = h
    stays false h = omega arith

    by : (v w : Bool) → v ≡ w → length (others first rest) ≤ length (neither first second gs)
        → length (others first (cond (not w) (g ∷ rest) rest)) ≤ length
        (cond (not (is_called first g) && not v) (g ∷ neither first second gs) (neither first second gs))
    by true true e h = gone (is_called first g) h
    by false true e h = absurd cc
    by true false e h = absurd cc
    by false false e h = stays (is_called first g) h

all_others : (first : List ℕ) (gs : List GroupRecord) → length (others first gs) ≤ length (neither first first gs)
all_others first [] = omega arith
all_others first (g ∷ gs) = by (is_called first g) (all_others first gs)
  where
    by : (u : Bool) → length (others first gs) ≤ length (neither first first gs)
        → length (cond (not u) (g ∷ others first gs) (others first gs)) ≤ length
        (cond (not u && not u) (g ∷ neither first first gs) (neither first first gs))
    by true h = h
    by false h = omega arith

-- there is room for one more besides the others
with_room : (g : GroupRecord) (gs : List GroupRecord) (n : ℕ) → Rises by_group gs → length (others g.name gs) ≤ n
    → n < 1000 → AreOwned (list_with_item by_group g gs)
with_room g gs n r low room =
    let rise : Rises by_group (list_with_item by_group g gs) = rises_put by_group g gs r in
    let one : length (list_with_item by_group g gs) ≤ length (others g.name (list_with_item by_group g gs)) + 1 =
    one_called g.name (list_with_item by_group g gs) rise in
    let same : length (others g.name (list_with_item by_group g gs)) ≡ length (others g.name gs) = others_put g gs in
    record { rise = rise; few = omega arith }

few_neither : (first second : List ℕ) (gs : List GroupRecord)
    → nat_lt (count_by (is_other_group first second) gs) most_groups ≡ true → length (neither first second gs) < 1000
few_neither first second gs t =
    let low : count_by (is_other_group first second) gs < 1000 =
    ltb-true (count_by (is_other_group first second) gs) 1000 t in
    let n : length (neither first second gs) ≡ count_by (is_other_group first second) gs =
    length-filter (is_other_group first second) gs in
    omega arith

-- a group is put if there is room for its name
pub owned_put : (g : GroupRecord) (name : List ℕ) (gs : List GroupRecord) → AreOwned gs → g.name ≡ name
    → nat_lt (count_by (is_other_group name name) gs) most_groups ≡ true → AreOwned (list_with_item by_group g gs)
owned_put g name gs a same room =
    let low : length (others g.name gs) ≤ length (neither name name gs) =
    subst (λ (k : List ℕ). length (others k gs) ≤ length (neither name name gs)) (sym same) (all_others name gs) in
    with_room g gs (length (neither name name gs)) a.rise low (few_neither name name gs room)

-- and in place of another
pub owned_instead : (g : GroupRecord) (name other : List ℕ) (gs : List GroupRecord) → AreOwned gs → g.name ≡ name
    → nat_lt (count_by (is_other_group name other) gs) most_groups ≡ true
    → AreOwned (list_with_item by_group g (without by_group other gs))
owned_instead g name other gs a same room =
    let less : List GroupRecord = without by_group other gs in
    let low : length (others g.name less) ≤ length (neither name other gs) =
    subst (λ (k : List ℕ). length (others k less) ≤ length (neither name other gs)) (sym same)
    (apart name other gs) in
    with_room g less (length (neither name other gs)) (rises_without by_group other gs a.rise) low
    (few_neither name other gs room)

-- a revert makes groups in order, and of no more than may be
pub owned_restored : (now of : List GroupRecord) → AreOwned now
    → nat_lt most_groups (length (groups_of_revert now of)) ≡ false → AreOwned (groups_of_revert now of)
unfolding groups_of_revert
owned_restored now of a t =
    record {
      rise = rises_put_all by_group of (unsnapped_groups now) (rises_staying now a.rise);
      few = ltb-false 1000 (length (groups_of_revert now of)) t;
    }
