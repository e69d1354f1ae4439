-- A pass over a chronicle: tables that know what came before a place, from which on the first breach is looked for.
use Rattle.std.proofs.Common.{◌≡◌, ℕ, suc, ◌+◌, ◌<◌, ◌≤◌, List, [], ◌∷◌, length, length-drop, drop, get_or, refl, sym, ap, ◌∙◌, add-one, drop-cons, arith}
use Rattle.std.specs.Prelude.{Option, Some, None}
use Rattle.smf_chronicle.specs.declared.rule.Rule.{Rule}
use Rattle.smf_chronicle.specs.declared.entry.Entry.{Entry}
use Rattle.smf_chronicle.specs.declared.tables.Tables.{Tables}
use Rattle.smf_chronicle.specs.Audit.{breach_or}
use Rattle.smf_chronicle.specs.Breaches.{breach_after, breach_next, first_breach_told}
use Rattle.smf_chronicle.specs.Tables.{Knows}

pub record IsPassed (t : Tables) (entries : List Entry) (place : ℕ) : Type 0 where
  pub told : List Entry
  pub knows : Knows t told
  pub count : length told ≡ place
  pub rest : breach_after place told (drop place entries) ≡ first_breach_told entries

pub none_passed : (t : Tables) (entries : List Entry) → Knows t [] → IsPassed t entries 0
unfolding first_breach_told
none_passed t entries k = record { told = []; knows = k; count = refl; rest = refl }

-- the entry at the place, and those behind it
ahead : (entries : List Entry) (place : ℕ) (x : Entry) → place < length entries → x ≡ get_or entries place x
    → drop place entries ≡ x ∷ drop (place + 1) entries
ahead entries place x there is =
    drop-cons entries place x there
    ∙ ap (λ (y : Entry). y ∷ drop (suc place) entries) (sym is)
    ∙ ap (λ (n : ℕ). x ∷ drop n entries) (sym (add-one place))

found_at : (t : Tables) (entries : List Entry) (place : ℕ) (x : Entry) (r : Option Rule) (p : IsPassed t entries place)
    → place < length entries → x ≡ get_or entries place x → r ≡ breach_next p.told x
    → breach_or r place (breach_after (place + 1) (x ∷ p.told) (drop (place + 1) entries)) ≡ first_breach_told entries
found_at t entries place x r p there is e =
    ap (λ (o : Option Rule). breach_or o place (breach_after (place + 1) (x ∷ p.told) (drop (place + 1) entries))) e
    ∙ ap (breach_after place p.told) (sym (ahead entries place x there is))
    ∙ p.rest

-- an entry that breaks a rule is the first
pub found : (t : Tables) (entries : List Entry) (place : ℕ) (x : Entry) (rule : Rule) (p : IsPassed t entries place)
    → place < length entries → x ≡ get_or entries place x → ((told : List Entry) → Knows t told → Some rule ≡ breach_next told x)
    → Some (record { place = place; rule = rule }) ≡ first_breach_told entries
found t entries place x rule p there is e = found_at t entries place x (Some rule) p there is (e p.told p.knows)

-- an entry that breaks none is passed
pub passed : (t new : Tables) (entries : List Entry) (place : ℕ) (x : Entry) (p : IsPassed t entries place)
    → place < length entries → x ≡ get_or entries place x → ((told : List Entry) → Knows t told → None ≡ breach_next told x)
    → ((told : List Entry) → Knows t told → length told ≡ place → breach_next told x ≡ None → Knows new (x ∷ told))
    → IsPassed new entries (place + 1)
passed t new entries place x p there is e more =
    record {
      told = x ∷ p.told;
      knows = more p.told p.knows p.count (sym (e p.told p.knows));
      count = omega (arith, p.count);
      rest = found_at t entries place x None p there is (e p.told p.knows);
    }

-- at the end no entry is left
all_passed : (entries left : List Entry) (place : ℕ) (told : List Entry) → length left ≡ 0
    → breach_after place told left ≡ first_breach_told entries → None ≡ first_breach_told entries
all_passed entries [] place told e rest = rest
all_passed entries (x ∷ left) place told e rest = absurd (omega (arith, e))

pub none_found : (t : Tables) (entries : List Entry) (place : ℕ) → IsPassed t entries place → length entries ≤ place
    → None ≡ first_breach_told entries
none_found t entries place p e =
    all_passed entries (drop place entries) place p.told (length-drop place entries ∙ omega (arith, e)) p.rest
