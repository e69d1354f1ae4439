-- The first breach of a trail is where its rules first fail.
use Rattle.std.proofs.Common.{◌≡◌, ℕ, suc, ◌+◌, ◌<◌, List, [], ◌∷◌, ◌++◌, length, take, Bool, true, false, cond, refl, sym, ap, ◌∙◌, subst, append_assoc, arith}
use Rattle.std.specs.Prelude.{Option, Some, None, reverse, unwrap_or}
use Rattle.std.proofs.lemmas.List.{append-nil, reverse-append}
use Rattle.std.proofs.lemmas.Bool.{both_ways, not-false, not-true}
use Rattle.std.proofs.lemmas.Bool.Decides.{not_from_Decides}
use Rattle.smf_chronicle.specs.declared.rule.Rule.{Rule}
use Rattle.smf_chronicle.specs.declared.rule.Rule.TheVariants.{FoundLate, TwoLive, HeldUncommitted, CommittedTwice, OffTheDiagram}
use Rattle.smf_chronicle.specs.declared.rule.Breach.{Breach}
use Rattle.smf_world.specs.declared.item.Item.{Item}
use Rattle.smf_world.specs.declared.item.Item.TheVariants.{Boot, Committed, Held, Spawned, Emptied}
use Rattle.smf_world.specs.Safe.{AlongTheDiagram, CommittedOnce, HeldWereCommitted, OneLive, last_of, live_starts}
use Rattle.smf_chronicle.specs.Audit.{AllHold, Holds, IsExact, IsFirstBreach, breach_at, breach_from, breach_or, first_breach, has_two_live, is_committed_twice, is_held_uncommitted, is_off_the_diagram, is_one_each, row_follows, was_committed}
use Rattle.smf_chronicle.proofs.Decided.{committed_decides, each_decides, numbered_decides, row_decides}

-- ---- one item: tests that are false keep a rule, and one that is true breaks it

pub kept_one : (trail : List Item) (x : Item) → has_two_live trail x ≡ false → OneLive trail → OneLive (x ∷ trail)
kept_one trail x e one = ((each_decides (live_starts (x ∷ trail))).0 (not-false _ e), one)

broken_one : (trail : List Item) (x : Item) → has_two_live trail x ≡ true → OneLive (x ∷ trail) → ⊥
broken_one trail x e one =
    both_ways _ (not-true (is_one_each (live_starts (x ∷ trail))) e) ((each_decides (live_starts (x ∷ trail))).1 one.0)

kept_held : (trail : List Item) (x : Item) → is_held_uncommitted trail x ≡ false → HeldWereCommitted trail
    → HeldWereCommitted (x ∷ trail)
kept_held trail (Committed i n s next) e held = held
kept_held trail (Held name launch i n s) e held = ((committed_decides i n s trail).0 (not-false _ e), held)
kept_held trail (Spawned c i run method revision command) e held = held
kept_held trail (Emptied c) e held = held
kept_held trail Boot e held = held

broken_held : (trail : List Item) (x : Item) → is_held_uncommitted trail x ≡ true → HeldWereCommitted (x ∷ trail) → ⊥
broken_held trail (Committed i n s next) e held = absurd cc
broken_held trail (Held name launch i n s) e held =
    both_ways _ (not-true (was_committed i n s trail) e) ((committed_decides i n s trail).1 held.0)
broken_held trail (Spawned c i run method revision command) e held = absurd cc
broken_held trail (Emptied c) e held = absurd cc
broken_held trail Boot e held = absurd cc

pub kept_once : (trail : List Item) (x : Item) → is_committed_twice trail x ≡ false → CommittedOnce trail
    → CommittedOnce (x ∷ trail)
kept_once trail (Committed i n s next) e once = (not_from_Decides _ (numbered_decides i n trail) e, once)
kept_once trail (Held name launch i n s) e once = once
kept_once trail (Spawned c i run method revision command) e once = once
kept_once trail (Emptied c) e once = once
kept_once trail Boot e once = once

broken_once : (trail : List Item) (x : Item) → is_committed_twice trail x ≡ true → CommittedOnce (x ∷ trail) → ⊥
broken_once trail (Committed i n s next) e once = once.0 ((numbered_decides i n trail).0 e)
broken_once trail (Held name launch i n s) e once = absurd cc
broken_once trail (Spawned c i run method revision command) e once = absurd cc
broken_once trail (Emptied c) e once = absurd cc
broken_once trail Boot e once = absurd cc

kept_diagram : (trail : List Item) (x : Item) → is_off_the_diagram trail x ≡ false → AlongTheDiagram trail
    → AlongTheDiagram (x ∷ trail)
kept_diagram trail (Committed i n s next) e along = ((row_decides (last_of i trail) n s).0 (not-false _ e), along)
kept_diagram trail (Held name launch i n s) e along = along
kept_diagram trail (Spawned c i run method revision command) e along = along
kept_diagram trail (Emptied c) e along = along
kept_diagram trail Boot e along = along

broken_diagram : (trail : List Item) (x : Item) → is_off_the_diagram trail x ≡ true → AlongTheDiagram (x ∷ trail) → ⊥
broken_diagram trail (Committed i n s next) e along =
    both_ways _ (not-true (row_follows (last_of i trail) n s) e) ((row_decides (last_of i trail) n s).1 along.0)
broken_diagram trail (Held name launch i n s) e along = absurd cc
broken_diagram trail (Spawned c i run method revision command) e along = absurd cc
broken_diagram trail (Emptied c) e along = absurd cc
broken_diagram trail Boot e along = absurd cc

-- ---- the rule that is told

-- the first of four tests that is true
abbrev first_of_four : Bool → Bool → Bool → Bool → Option Rule
first_of_four a b c d =
    cond a (Some TwoLive) (cond b (Some HeldUncommitted) (cond c (Some CommittedTwice) (cond d (Some OffTheDiagram) None)))

pub record AreFalse (a b c d : Bool) : Type 0 where
  pub one : a ≡ false
  pub held : b ≡ false
  pub once : c ≡ false
  pub diagram : d ≡ false

none_told : (a b c d : Bool) → first_of_four a b c d ≡ None → AreFalse a b c d
none_told true b c d e = absurd cc
none_told false true c d e = absurd cc
none_told false false true d e = absurd cc
none_told false false false true e = absurd cc
none_told false false false false e = record { one = refl; held = refl; once = refl; diagram = refl }

abbrev test_of : Bool → Bool → Bool → Bool → Rule → Bool
test_of a b c d FoundLate = false
test_of a b c d TwoLive = a
test_of a b c d HeldUncommitted = b
test_of a b c d CommittedTwice = c
test_of a b c d OffTheDiagram = d

same_rule : (a b : Rule) → Some a ≡ Some b → a ≡ b
same_rule a b e = ap (λ (o : Option Rule). unwrap_or o a) e

told : (a b c d : Bool) (rule : Rule) → first_of_four a b c d ≡ Some rule → test_of a b c d rule ≡ true
told true b c d rule e =
    let P : Rule → Type 0 = λ r. test_of true b c d r ≡ true in subst P (same_rule TwoLive rule e) refl
told false true c d rule e =
    let P : Rule → Type 0 = λ r. test_of false true c d r ≡ true in subst P (same_rule HeldUncommitted rule e) refl
told false false true d rule e =
    let P : Rule → Type 0 = λ r. test_of false false true d r ≡ true in subst P (same_rule CommittedTwice rule e) refl
told false false false true rule e =
    let P : Rule → Type 0 = λ r. test_of false false false true r ≡ true in
    subst P (same_rule OffTheDiagram rule e) refl
told false false false false rule e = absurd cc

abbrev tests_are_false : List Item → Item → Type 0
tests_are_false trail x =
    AreFalse (has_two_live trail x) (is_held_uncommitted trail x) (is_committed_twice trail x) (is_off_the_diagram trail x)

pub all_false : (trail : List Item) (x : Item) → breach_at trail x ≡ None
    → AreFalse (has_two_live trail x) (is_held_uncommitted trail x) (is_committed_twice trail x)
    (is_off_the_diagram trail x)
all_false trail x e =
    none_told (has_two_live trail x) (is_held_uncommitted trail x) (is_committed_twice trail x)
    (is_off_the_diagram trail x) e

kept : (trail : List Item) (x : Item) → AllHold trail → breach_at trail x ≡ None → AllHold (x ∷ trail)
kept trail x all e =
    let f = all_false trail x e in
    record {
      one = kept_one trail x f.one all.one;
      held = kept_held trail x f.held all.held;
      once = kept_once trail x f.once all.once;
      diagram = kept_diagram trail x f.diagram all.diagram;
    }

broken_by : (trail : List Item) (x : Item) (rule : Rule)
    → test_of (has_two_live trail x) (is_held_uncommitted trail x) (is_committed_twice trail x)
    (is_off_the_diagram trail x) rule ≡ true
    → Holds rule (x ∷ trail) → ⊥
broken_by trail x FoundLate e = absurd cc
broken_by trail x TwoLive e = broken_one trail x e
broken_by trail x HeldUncommitted e = broken_held trail x e
broken_by trail x CommittedTwice e = broken_once trail x e
broken_by trail x OffTheDiagram e = broken_diagram trail x e

broken : (trail : List Item) (x : Item) (rule : Rule) → breach_at trail x ≡ Some rule → Holds rule (x ∷ trail) → ⊥
broken trail x rule e =
    broken_by trail x rule
    (told (has_two_live trail x) (is_held_uncommitted trail x) (is_committed_twice trail x)
    (is_off_the_diagram trail x) rule e)

-- ---- the rules hold of what came before

held_behind : (trail : List Item) (x : Item) → HeldWereCommitted (x ∷ trail) → HeldWereCommitted trail
held_behind trail (Committed i n s next) h = h
held_behind trail (Held name launch i n s) h = h.1
held_behind trail (Spawned c i run method revision command) h = h
held_behind trail (Emptied c) h = h
held_behind trail Boot h = h

once_behind : (trail : List Item) (x : Item) → CommittedOnce (x ∷ trail) → CommittedOnce trail
once_behind trail (Committed i n s next) h = h.1
once_behind trail (Held name launch i n s) h = h
once_behind trail (Spawned c i run method revision command) h = h
once_behind trail (Emptied c) h = h
once_behind trail Boot h = h

diagram_behind : (trail : List Item) (x : Item) → AlongTheDiagram (x ∷ trail) → AlongTheDiagram trail
diagram_behind trail (Committed i n s next) h = h.1
diagram_behind trail (Held name launch i n s) h = h
diagram_behind trail (Spawned c i run method revision command) h = h
diagram_behind trail (Emptied c) h = h
diagram_behind trail Boot h = h

behind_one : (trail : List Item) (x : Item) → AllHold (x ∷ trail) → AllHold trail
behind_one trail x all =
    record {
      one = all.one.1;
      held = held_behind trail x all.held;
      once = once_behind trail x all.once;
      diagram = diagram_behind trail x all.diagram;
    }

behind : (xs trail : List Item) → AllHold (xs ++ trail) → AllHold trail
behind [] trail all = all
behind (x ∷ xs) trail all = behind xs trail (behind_one (xs ++ trail) x all)

-- ---- all items

turned : (x : Item) (xs trail : List Item) → reverse (x ∷ xs) ++ trail ≡ reverse xs ++ (x ∷ trail)
turned x xs trail =
    ap (λ (l : List Item). l ++ trail) (reverse-append (x ∷ []) xs) ∙ append_assoc (reverse xs) (x ∷ []) trail

none_by : (trail : List Item) (x : Item) (r : Option Rule) → breach_at trail x ≡ r → AllHold (x ∷ trail) → r ≡ None
none_by trail x None e all = refl
none_by trail x (Some FoundLate) e all = absurd (broken trail x FoundLate e tt)
none_by trail x (Some TwoLive) e all = absurd (broken trail x TwoLive e all.one)
none_by trail x (Some HeldUncommitted) e all = absurd (broken trail x HeldUncommitted e all.held)
none_by trail x (Some CommittedTwice) e all = absurd (broken trail x CommittedTwice e all.once)
none_by trail x (Some OffTheDiagram) e all = absurd (broken trail x OffTheDiagram e all.diagram)

none_from : (place : ℕ) (trail xs : List Item) → AllHold (reverse xs ++ trail) → breach_from place trail xs ≡ None
none_from place trail [] all = refl
none_from place trail (x ∷ xs) all =
    let further : AllHold (reverse xs ++ (x ∷ trail)) = subst AllHold (turned x xs trail) all in
    let here : breach_at trail x ≡ None = none_by trail x (breach_at trail x) refl (behind (reverse xs) (x ∷ trail) further) in
    ap (λ (r : Option Rule). breach_or r place (breach_from (place + 1) (x ∷ trail) xs)) here
    ∙ none_from (place + 1) (x ∷ trail) xs further

safe_by : (place : ℕ) (trail : List Item) (x : Item) (xs : List Item) (r : Option Rule) → AllHold trail
    → breach_at trail x ≡ r → breach_or r place (breach_from (place + 1) (x ∷ trail) xs) ≡ None
    → (AllHold (x ∷ trail) → breach_from (place + 1) (x ∷ trail) xs ≡ None → AllHold (reverse xs ++ (x ∷ trail)))
    → AllHold (reverse (x ∷ xs) ++ trail)
safe_by place trail x xs None all here e more =
    subst AllHold (sym (turned x xs trail)) (more (kept trail x all here) e)
safe_by place trail x xs (Some rule) all here e more = absurd cc

safe_from : (place : ℕ) (trail xs : List Item) → AllHold trail → breach_from place trail xs ≡ None
    → AllHold (reverse xs ++ trail)
safe_from place trail [] all e = all
safe_from place trail (x ∷ xs) all e =
    safe_by place trail x xs (breach_at trail x) all refl e (safe_from (place + 1) (x ∷ trail) xs)

-- the breach stands so many items ahead
record IsAhead (place : ℕ) (trail xs : List Item) (b : Breach) : Type 0 where
  ahead : ℕ
  place_is : b.place ≡ place + ahead
  there : ahead < length xs
  before : AllHold (reverse (take ahead xs) ++ trail)
  broken : Holds b.rule (reverse (take (suc ahead) xs) ++ trail) → ⊥

same_breach : (a b : Breach) → Some a ≡ Some b → a ≡ b
same_breach a b e = ap (λ (o : Option Breach). unwrap_or o a) e

ahead_here : (place : ℕ) (trail : List Item) (x : Item) (xs : List Item) (rule : Rule) → AllHold trail
    → breach_at trail x ≡ Some rule → IsAhead place trail (x ∷ xs) (record { place = place; rule = rule })
ahead_here place trail x xs rule all e =
    record {
      ahead = 0;
      place_is = omega arith;
      there = omega arith;
      before = all;
      broken = broken trail x rule e;
    }

ahead_later : (place : ℕ) (trail : List Item) (x : Item) (xs : List Item) (b : Breach)
    → IsAhead (place + 1) (x ∷ trail) xs b → IsAhead place trail (x ∷ xs) b
ahead_later place trail x xs b later =
    record {
      ahead = suc later.ahead;
      place_is = later.place_is ∙ omega arith;
      there = omega (arith, later.there);
      before = subst AllHold (sym (turned x (take later.ahead xs) trail)) later.before;
      broken = λ holds. later.broken (subst (Holds b.rule) (turned x (take (suc later.ahead) xs) trail) holds);
    }

found_by : (place : ℕ) (trail : List Item) (x : Item) (xs : List Item) (b : Breach) (r : Option Rule) → AllHold trail
    → breach_at trail x ≡ r → breach_or r place (breach_from (place + 1) (x ∷ trail) xs) ≡ Some b
    → (AllHold (x ∷ trail) → breach_from (place + 1) (x ∷ trail) xs ≡ Some b → IsAhead (place + 1) (x ∷ trail) xs b)
    → IsAhead place trail (x ∷ xs) b
found_by place trail x xs b None all here e more =
    ahead_later place trail x xs b (more (kept trail x all here) e)
found_by place trail x xs b (Some rule) all here e more =
    subst (IsAhead place trail (x ∷ xs)) (same_breach (record { place = place; rule = rule }) b e)
    (ahead_here place trail x xs rule all here)

found_from : (place : ℕ) (trail xs : List Item) (b : Breach) → AllHold trail → breach_from place trail xs ≡ Some b
    → IsAhead place trail xs b
found_from place trail [] b all e = absurd cc
found_from place trail (x ∷ xs) b all e =
    found_by place trail x xs b (breach_at trail x) all refl e (found_from (place + 1) (x ∷ trail) xs b)

-- ---- the whole

nothing_holds : AllHold []
nothing_holds = record { one = tt; held = tt; once = tt; diagram = tt }

is_first : (items : List Item) (b : Breach) → IsAhead 0 [] items b → IsFirstBreach items b
is_first items b a =
    let at : a.ahead ≡ b.place = omega (arith, a.place_is) in
    let past : suc a.ahead ≡ b.place + 1 = omega (arith, a.place_is) in
    record {
      there = omega (arith, a.place_is, a.there);
      before =
          (let P : ℕ → Type 0 = λ k. AllHold (reverse (take k items)) in
          subst P at (subst AllHold (append-nil (reverse (take a.ahead items))) a.before));
      broken = λ holds. a.broken (subst (Holds b.rule) (sym (append-nil (reverse (take (suc a.ahead) items))))
          (let P : ℕ → Type 0 = λ k. Holds b.rule (reverse (take k items)) in subst P (sym past) holds));
    }

pub exact : (items : List Item) → IsExact items
unfolding first_breach
exact items =
    record {
      none = (
        λ e. subst AllHold (append-nil (reverse items)) (safe_from 0 [] items nothing_holds e),
        λ all. none_from 0 [] items (subst AllHold (sym (append-nil (reverse items))) all),
      );
      some = λ b e. is_first items b (found_from 0 [] items b nothing_holds e);
    }
