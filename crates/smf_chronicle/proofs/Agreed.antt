-- Of the trail of one life, the rules of chronicles say what those of trails do.
use Rattle.std.proofs.Common.{◌≡◌, ℕ, ◌+◌, ◌==◌, ◌&&◌, ◌||◌, not, List, [], ◌∷◌, ◌++◌, Bool, true, false, cond, refl, sym, ap, ◌∙◌, subst}
use Rattle.std.specs.Prelude.{Option, Some, None, option_map, reverse}
use Rattle.std.proofs.lemmas.List.{map-append, reverse-append, reverse-reverse}
use Rattle.smf_chronicle.specs.declared.entry.Entry.{Entry}
use Rattle.smf_state.specs.declared.state.State.{State}
use Rattle.smf_state.specs.Rows.{same_state}
use Rattle.smf_chronicle.specs.declared.rule.Rule.{Rule}
use Rattle.smf_chronicle.specs.declared.rule.Rule.TheVariants.{TwoLive, CommittedTwice, OffTheDiagram}
use Rattle.smf_chronicle.specs.declared.entry.Entry.TheVariants.{Happened}
use Rattle.smf_world.specs.declared.item.Item.{Item}
use Rattle.smf_world.specs.declared.item.Item.TheVariants.{Boot, Committed, Held, Spawned, Emptied}
use Rattle.smf_world.specs.Safe.{Last, LiveStart, last_of, live_starts}
use Rattle.smf_chronicle.specs.Audit.{AllHold, breach_at, breach_from, breach_or, first_breach, is_one_each, row_follows, was_committed, was_numbered}
use Rattle.smf_chronicle.specs.Breaches.{AgreesOnTrails, all_happened, breach_after, breach_next, first_breach_told, first_false, may_follow, was_told, was_told_as}
use Rattle.smf_chronicle.specs.Lives.{IsSafeChronicle, LastTold, live_behind, live_told, last_told}
use Rattle.smf_chronicle.proofs.Found.{exact}
use Rattle.smf_chronicle.proofs.FoundTold.{exact_told}

-- ---- what was told is what happened

live_agrees : (trail : List Item) → live_told (all_happened trail) ≡ live_starts trail
live_agrees [] = refl
live_agrees (Committed i n s next ∷ trail) = live_agrees trail
live_agrees (Held name launch i n s ∷ trail) = live_agrees trail
live_agrees (Spawned c i run method revision command ∷ trail) =
    ap (live_behind (Spawned c i run method revision command)) (live_agrees trail)
live_agrees (Emptied c ∷ trail) = ap (live_behind (Emptied c)) (live_agrees trail)
live_agrees (Boot ∷ trail) = refl

number_agrees : (i number : ℕ) (trail : List Item) → was_told_as i number (all_happened trail) ≡ was_numbered i number trail
number_agrees i number [] = refl
number_agrees i number (Committed j n s next ∷ trail) =
    ap (λ (b : Bool). (j == i && n == number) || b) (number_agrees i number trail)
number_agrees i number (Held name launch j n s ∷ trail) = number_agrees i number trail
number_agrees i number (Spawned c j run method revision command ∷ trail) = number_agrees i number trail
number_agrees i number (Emptied c ∷ trail) = number_agrees i number trail
number_agrees i number (Boot ∷ trail) = number_agrees i number trail

row_agrees : (i number : ℕ) (state : State) (trail : List Item)
    → was_told i number state (all_happened trail) ≡ was_committed i number state trail
row_agrees i number state [] = refl
row_agrees i number state (Committed j n s next ∷ trail) =
    ap (λ (b : Bool). (j == i && n == number && same_state s state) || b) (row_agrees i number state trail)
row_agrees i number state (Held name launch j n s ∷ trail) = row_agrees i number state trail
row_agrees i number state (Spawned c j run method revision command ∷ trail) = row_agrees i number state trail
row_agrees i number state (Emptied c ∷ trail) = row_agrees i number state trail
row_agrees i number state (Boot ∷ trail) = row_agrees i number state trail

-- a last row, of a life that is no older
abbrev told_last : Last → LastTold
told_last l = record { number = l.number; state = l.state; booted = l.booted; older = false }

last_by : (b : Bool) (n : ℕ) (s : State) (told : Option LastTold) (o : Option Last) → told ≡ option_map told_last o
    → cond b (Some (record { number = n; state = s; booted = false; older = false })) told
    ≡ option_map told_last (cond b (Some (record { number = n; state = s; booted = false })) o)
last_by true n s told o e = refl
last_by false n s told o e = e

booted_by : (told : Option LastTold) (o : Option Last) → told ≡ option_map told_last o
    → option_map (λ (l : LastTold). record l { booted = true }) told
    ≡ option_map told_last (option_map (λ (l : Last). record l { booted = true }) o)
booted_by told None e = ap (option_map (λ (l : LastTold). record l { booted = true })) e
booted_by told (Some l) e = ap (option_map (λ (l : LastTold). record l { booted = true })) e

last_agrees : (i : ℕ) (trail : List Item) → last_told i (all_happened trail) ≡ option_map told_last (last_of i trail)
last_agrees i [] = refl
last_agrees i (Committed j n s next ∷ trail) =
    last_by (j == i) n s (last_told i (all_happened trail)) (last_of i trail) (last_agrees i trail)
last_agrees i (Held name launch j n s ∷ trail) = last_agrees i trail
last_agrees i (Spawned c j run method revision command ∷ trail) = last_agrees i trail
last_agrees i (Emptied c ∷ trail) = last_agrees i trail
last_agrees i (Boot ∷ trail) = booted_by (last_told i (all_happened trail)) (last_of i trail) (last_agrees i trail)

follow_agrees : (o : Option Last) (number : ℕ) (state : State)
    → may_follow (option_map told_last o) number state ≡ row_follows o number state
follow_agrees None number state = refl
follow_agrees (Some l) number state = refl

-- ---- the rule that an item breaks

not_not : (b : Bool) → not (not b) ≡ b
not_not true = refl
not_not false = refl

-- a test that is true where a rule is broken, in place of one that is true where it is kept
committed_by : (one twice follows : Bool)
    → first_false true one true (not twice) follows
    ≡ cond (not one) (Some TwoLive)
    (cond twice (Some CommittedTwice) (cond (not follows) (Some OffTheDiagram) None))
committed_by one twice follows =
    ap (λ (b : Bool). cond (not one) (Some TwoLive)
    (cond b (Some CommittedTwice) (cond (not follows) (Some OffTheDiagram) None))) (not_not twice)

item_agrees : (trail : List Item) (x : Item) → breach_next (all_happened trail) (Happened x) ≡ breach_at trail x
item_agrees trail (Committed i n s next) =
    ap (λ (ls : List LiveStart). first_false true (is_one_each ls) true
    (not (was_told_as i n (all_happened trail))) (may_follow (last_told i (all_happened trail)) n s)) (live_agrees trail)
    ∙ ap (λ (b : Bool). first_false true (is_one_each (live_starts trail)) true (not b)
    (may_follow (last_told i (all_happened trail)) n s)) (number_agrees i n trail)
    ∙ ap (λ (b : Bool). first_false true (is_one_each (live_starts trail)) true (not (was_numbered i n trail)) b)
    (ap (λ (o : Option LastTold). may_follow o n s) (last_agrees i trail) ∙ follow_agrees (last_of i trail) n s)
    ∙ committed_by (is_one_each (live_starts trail)) (was_numbered i n trail) (row_follows (last_of i trail) n s)
item_agrees trail (Held name launch i n s) =
    ap (λ (ls : List LiveStart). first_false true (is_one_each ls) (was_told i n s (all_happened trail)) true true)
    (live_agrees trail)
    ∙ ap (λ (b : Bool). first_false true (is_one_each (live_starts trail)) b true true) (row_agrees i n s trail)
item_agrees trail (Spawned c i run method revision command) =
    ap (λ (ls : List LiveStart). first_false true
    (is_one_each (live_behind (Spawned c i run method revision command) ls)) true true true) (live_agrees trail)
item_agrees trail (Emptied c) =
    ap (λ (ls : List LiveStart). first_false true (is_one_each (live_behind (Emptied c) ls)) true true true)
    (live_agrees trail)
item_agrees trail Boot = refl

-- ---- all items

after_agrees : (place : ℕ) (trail items : List Item)
    → breach_after place (all_happened trail) (all_happened items) ≡ breach_from place trail items
after_agrees place trail [] = refl
after_agrees place trail (x ∷ items) =
    ap (λ (r : Option Rule). breach_or r place
    (breach_after (place + 1) (all_happened (x ∷ trail)) (all_happened items))) (item_agrees trail x)
    ∙ ap (breach_or (breach_at trail x) place) (after_agrees (place + 1) (x ∷ trail) items)

breach_agrees : (items : List Item) → first_breach_told (all_happened items) ≡ first_breach items
unfolding first_breach_told first_breach
breach_agrees items = after_agrees 0 [] items

map_reversed : (items : List Item) → all_happened (reverse items) ≡ reverse (all_happened items)
map_reversed [] = refl
map_reversed (x ∷ items) =
    ap all_happened (reverse-append (x ∷ []) items)
    ∙ map-append (λ (y : Item). Happened y) (reverse items) (x ∷ [])
    ∙ ap (λ (l : List Entry). l ++ (Happened x ∷ [])) (map_reversed items)
    ∙ sym (reverse-append (Happened x ∷ []) (all_happened items))

-- the newest first, and back
turned_all : (items : List Item) → reverse (all_happened (reverse items)) ≡ all_happened items
turned_all items = ap reverse (map_reversed items) ∙ reverse-reverse (all_happened items)

pub agreed : (items : List Item) → AgreesOnTrails items
agreed items =
    let told = exact_told (all_happened (reverse items)) in
    let shown = exact (reverse items) in
    let same = breach_agrees (reverse items) in
    record {
      breach = breach_agrees items;
      safe = (
        λ safe. subst AllHold (reverse-reverse items)
            (shown.none.0 (sym same ∙ told.none.1 (subst IsSafeChronicle (sym (turned_all items)) safe))),
        λ all. subst IsSafeChronicle (turned_all items)
            (told.none.0 (same ∙ shown.none.1 (subst AllHold (sym (reverse-reverse items)) all))),
      );
    }
