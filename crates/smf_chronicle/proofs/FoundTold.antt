-- The first breach of a chronicle is where its rules first fail.
use Rattle.std.proofs.Common.{◌≡◌, ℕ, suc, ◌+◌, ◌<◌, List, [], ◌∷◌, ◌++◌, length, take, Bool, true, false, refl, sym, ap, ◌∙◌, subst, append_assoc, arith}
use Rattle.std.specs.Prelude.{Option, Some, None, reverse, unwrap_or}
use Rattle.std.proofs.lemmas.List.{append-nil, reverse-append}
use Rattle.std.proofs.lemmas.Bool.Decides.{not_from_Decides}
use Rattle.smf_chronicle.specs.declared.entry.Entry.{Entry}
use Rattle.smf_chronicle.specs.declared.rule.Rule.{Rule}
use Rattle.smf_chronicle.specs.declared.rule.Rule.TheVariants.{FoundLate, TwoLive, HeldUncommitted, CommittedTwice, OffTheDiagram}
use Rattle.smf_chronicle.specs.declared.rule.Breach.{Breach}
use Rattle.smf_chronicle.specs.Audit.{breach_or}
use Rattle.smf_chronicle.specs.Breaches.{Demands, IsExactTold, IsFirstBreachTold, breach_after, breach_next, first_breach_told, first_false, follows_the_diagram, has_one_live, is_found_first, is_held_told, is_numbered_once}
use Rattle.smf_chronicle.specs.Lives.{Always, IsSafeChronicle}
use Rattle.smf_chronicle.proofs.Demanded.{demand_decides, keeps}

-- ---- the rule that is told

pub record AreTrue (a b c d e : Bool) : Type 0 where
  pub found : a ≡ true
  pub one : b ≡ true
  pub held : c ≡ true
  pub once : d ≡ true
  pub diagram : e ≡ true

none_told : (a b c d e : Bool) → first_false a b c d e ≡ None → AreTrue a b c d e
none_told false b c d e h = absurd cc
none_told true false c d e h = absurd cc
none_told true true false d e h = absurd cc
none_told true true true false e h = absurd cc
none_told true true true true false h = absurd cc
none_told true true true true true h = record { found = refl; one = refl; held = refl; once = refl; diagram = refl }

abbrev test_of : Bool → Bool → Bool → Bool → Bool → Rule → Bool
test_of a b c d e FoundLate = a
test_of a b c d e TwoLive = b
test_of a b c d e HeldUncommitted = c
test_of a b c d e CommittedTwice = d
test_of a b c d e OffTheDiagram = e

same_rule : (a b : Rule) → Some a ≡ Some b → a ≡ b
same_rule a b e = ap (λ (o : Option Rule). unwrap_or o a) e

told_rule : (a b c d e : Bool) (rule : Rule) → first_false a b c d e ≡ Some rule → test_of a b c d e rule ≡ false
told_rule false b c d e rule h =
    let P : Rule → Type 0 = λ r. test_of false b c d e r ≡ false in subst P (same_rule FoundLate rule h) refl
told_rule true false c d e rule h =
    let P : Rule → Type 0 = λ r. test_of true false c d e r ≡ false in subst P (same_rule TwoLive rule h) refl
told_rule true true false d e rule h =
    let P : Rule → Type 0 = λ r. test_of true true false d e r ≡ false in
    subst P (same_rule HeldUncommitted rule h) refl
told_rule true true true false e rule h =
    let P : Rule → Type 0 = λ r. test_of true true true false e r ≡ false in
    subst P (same_rule CommittedTwice rule h) refl
told_rule true true true true false rule h =
    let P : Rule → Type 0 = λ r. test_of true true true true false r ≡ false in
    subst P (same_rule OffTheDiagram rule h) refl
told_rule true true true true true rule h = absurd cc

pub all_true : (told : List Entry) (entry : Entry) → breach_next told entry ≡ None
    → AreTrue (is_found_first told entry) (has_one_live told entry) (is_held_told told entry)
    (is_numbered_once told entry) (follows_the_diagram told entry)
all_true told entry h =
    none_told (is_found_first told entry) (has_one_live told entry) (is_held_told told entry)
    (is_numbered_once told entry) (follows_the_diagram told entry) h

-- ---- one entry

kept : (told : List Entry) (entry : Entry) → IsSafeChronicle told → breach_next told entry ≡ None
    → IsSafeChronicle (entry ∷ told)
kept told entry safe h =
    let t = all_true told entry h in
    record {
      found = ((demand_decides FoundLate told entry).0 t.found, safe.found);
      one = ((demand_decides TwoLive told entry).0 t.one, safe.one);
      held = ((demand_decides HeldUncommitted told entry).0 t.held, safe.held);
      once = ((demand_decides CommittedTwice told entry).0 t.once, safe.once);
      diagram = ((demand_decides OffTheDiagram told entry).0 t.diagram, safe.diagram);
    }

test_is : (told : List Entry) (entry : Entry) (rule : Rule)
    → test_of (is_found_first told entry) (has_one_live told entry) (is_held_told told entry)
    (is_numbered_once told entry) (follows_the_diagram told entry) rule ≡ false
    → keeps rule told entry ≡ false
test_is told entry FoundLate h = h
test_is told entry TwoLive h = h
test_is told entry HeldUncommitted h = h
test_is told entry CommittedTwice h = h
test_is told entry OffTheDiagram h = h

broken_here : (told : List Entry) (entry : Entry) (rule : Rule) → breach_next told entry ≡ Some rule
    → Demands rule told entry → ⊥
broken_here told entry rule h =
    not_from_Decides (keeps rule told entry) (demand_decides rule told entry)
    (test_is told entry rule
    (told_rule (is_found_first told entry) (has_one_live told entry) (is_held_told told entry)
    (is_numbered_once told entry) (follows_the_diagram told entry) rule h))

broken : (told : List Entry) (entry : Entry) (rule : Rule) → breach_next told entry ≡ Some rule
    → Always (Demands rule) (entry ∷ told) → ⊥
broken told entry rule h always = broken_here told entry rule h always.0

always_of : (rule : Rule) (told : List Entry) → IsSafeChronicle told → Always (Demands rule) told
always_of FoundLate told safe = safe.found
always_of TwoLive told safe = safe.one
always_of HeldUncommitted told safe = safe.held
always_of CommittedTwice told safe = safe.once
always_of OffTheDiagram told safe = safe.diagram

-- ---- what came before

behind_one : (told : List Entry) (entry : Entry) → IsSafeChronicle (entry ∷ told) → IsSafeChronicle told
behind_one told entry safe =
    record {
      found = safe.found.1;
      one = safe.one.1;
      held = safe.held.1;
      once = safe.once.1;
      diagram = safe.diagram.1;
    }

behind : (newer told : List Entry) → IsSafeChronicle (newer ++ told) → IsSafeChronicle told
behind [] told safe = safe
behind (entry ∷ newer) told safe = behind newer told (behind_one (newer ++ told) entry safe)

-- ---- all entries

turned : (entry : Entry) (entries told : List Entry)
    → reverse (entry ∷ entries) ++ told ≡ reverse entries ++ (entry ∷ told)
turned entry entries told =
    ap (λ (l : List Entry). l ++ told) (reverse-append (entry ∷ []) entries)
    ∙ append_assoc (reverse entries) (entry ∷ []) told

none_by : (told : List Entry) (entry : Entry) (r : Option Rule) → breach_next told entry ≡ r
    → IsSafeChronicle (entry ∷ told) → r ≡ None
none_by told entry None h safe = refl
none_by told entry (Some rule) h safe = absurd (broken told entry rule h (always_of rule (entry ∷ told) safe))

none_from : (place : ℕ) (told entries : List Entry) → IsSafeChronicle (reverse entries ++ told)
    → breach_after place told entries ≡ None
none_from place told [] safe = refl
none_from place told (entry ∷ entries) safe =
    let further : IsSafeChronicle (reverse entries ++ (entry ∷ told)) =
    subst IsSafeChronicle (turned entry entries told) safe in
    let here : breach_next told entry ≡ None =
    none_by told entry (breach_next told entry) refl (behind (reverse entries) (entry ∷ told) further) in
    ap (λ (r : Option Rule). breach_or r place (breach_after (place + 1) (entry ∷ told) entries)) here
    ∙ none_from (place + 1) (entry ∷ told) entries further

safe_by : (place : ℕ) (told : List Entry) (entry : Entry) (entries : List Entry) (r : Option Rule)
    → IsSafeChronicle told → breach_next told entry ≡ r
    → breach_or r place (breach_after (place + 1) (entry ∷ told) entries) ≡ None
    → (IsSafeChronicle (entry ∷ told) → breach_after (place + 1) (entry ∷ told) entries ≡ None
    → IsSafeChronicle (reverse entries ++ (entry ∷ told)))
    → IsSafeChronicle (reverse (entry ∷ entries) ++ told)
safe_by place told entry entries None safe here e more =
    subst IsSafeChronicle (sym (turned entry entries told)) (more (kept told entry safe here) e)
safe_by place told entry entries (Some rule) safe here e more = absurd cc

safe_from : (place : ℕ) (told entries : List Entry) → IsSafeChronicle told → breach_after place told entries ≡ None
    → IsSafeChronicle (reverse entries ++ told)
safe_from place told [] safe e = safe
safe_from place told (entry ∷ entries) safe e =
    safe_by place told entry entries (breach_next told entry) safe refl e
    (safe_from (place + 1) (entry ∷ told) entries)

-- the breach stands so many entries ahead
record IsAhead (place : ℕ) (told entries : List Entry) (b : Breach) : Type 0 where
  ahead : ℕ
  place_is : b.place ≡ place + ahead
  there : ahead < length entries
  before : IsSafeChronicle (reverse (take ahead entries) ++ told)
  broken : Always (Demands b.rule) (reverse (take (suc ahead) entries) ++ told) → ⊥

same_breach : (a b : Breach) → Some a ≡ Some b → a ≡ b
same_breach a b e = ap (λ (o : Option Breach). unwrap_or o a) e

ahead_here : (place : ℕ) (told : List Entry) (entry : Entry) (entries : List Entry) (rule : Rule)
    → IsSafeChronicle told → breach_next told entry ≡ Some rule
    → IsAhead place told (entry ∷ entries) (record { place = place; rule = rule })
ahead_here place told entry entries rule safe e =
    record {
      ahead = 0;
      place_is = omega arith;
      there = omega arith;
      before = safe;
      broken = broken told entry rule e;
    }

ahead_later : (place : ℕ) (told : List Entry) (entry : Entry) (entries : List Entry) (b : Breach)
    → IsAhead (place + 1) (entry ∷ told) entries b → IsAhead place told (entry ∷ entries) b
ahead_later place told entry entries b later =
    record {
      ahead = suc later.ahead;
      place_is = later.place_is ∙ omega arith;
      there = omega (arith, later.there);
      before = subst IsSafeChronicle (sym (turned entry (take later.ahead entries) told)) later.before;
      broken = λ holds. later.broken
          (subst (Always (Demands b.rule)) (turned entry (take (suc later.ahead) entries) told) holds);
    }

found_by : (place : ℕ) (told : List Entry) (entry : Entry) (entries : List Entry) (b : Breach) (r : Option Rule)
    → IsSafeChronicle told → breach_next told entry ≡ r
    → breach_or r place (breach_after (place + 1) (entry ∷ told) entries) ≡ Some b
    → (IsSafeChronicle (entry ∷ told) → breach_after (place + 1) (entry ∷ told) entries ≡ Some b
    → IsAhead (place + 1) (entry ∷ told) entries b)
    → IsAhead place told (entry ∷ entries) b
found_by place told entry entries b None safe here e more =
    ahead_later place told entry entries b (more (kept told entry safe here) e)
found_by place told entry entries b (Some rule) safe here e more =
    subst (IsAhead place told (entry ∷ entries)) (same_breach (record { place = place; rule = rule }) b e)
    (ahead_here place told entry entries rule safe here)

found_from : (place : ℕ) (told entries : List Entry) (b : Breach) → IsSafeChronicle told
    → breach_after place told entries ≡ Some b → IsAhead place told entries b
found_from place told [] b safe e = absurd cc
found_from place told (entry ∷ entries) b safe e =
    found_by place told entry entries b (breach_next told entry) safe refl e
    (found_from (place + 1) (entry ∷ told) entries b)

-- ---- the whole

nothing_told : IsSafeChronicle []
nothing_told = record { found = tt; one = tt; held = tt; once = tt; diagram = tt }

is_first : (entries : List Entry) (b : Breach) → IsAhead 0 [] entries b → IsFirstBreachTold entries b
is_first entries b a =
    let at : a.ahead ≡ b.place = omega (arith, a.place_is) in
    let past : suc a.ahead ≡ b.place + 1 = omega (arith, a.place_is) in
    record {
      there = omega (arith, a.place_is, a.there);
      before =
          (let P : ℕ → Type 0 = λ k. IsSafeChronicle (reverse (take k entries)) in
          subst P at (subst IsSafeChronicle (append-nil (reverse (take a.ahead entries))) a.before));
      broken = λ holds. a.broken
          (subst (Always (Demands b.rule)) (sym (append-nil (reverse (take (suc a.ahead) entries))))
          (let P : ℕ → Type 0 = λ k. Always (Demands b.rule) (reverse (take k entries)) in subst P (sym past) holds));
    }

pub exact_told : (entries : List Entry) → IsExactTold entries
unfolding first_breach_told
exact_told entries =
    record {
      none = (
        λ e. subst IsSafeChronicle (append-nil (reverse entries)) (safe_from 0 [] entries nothing_told e),
        λ safe. none_from 0 [] entries (subst IsSafeChronicle (sym (append-nil (reverse entries))) safe),
      );
      some = λ b e. is_first entries b (found_from 0 [] entries b nothing_told e);
    }
