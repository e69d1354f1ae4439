-- Lines to which answers are added tell them all.
use Rattle.std.proofs.Common.{◌≡◌, ℕ, ◌+◌, ◌==◌, ◌⊎◌, List, [], ◌∷◌, ◌++◌, Bool, true, false, cond, Option, Some, None, refl, sym, ◌∙◌, ap, append_assoc, append-nil, eqb-true, inl, inr}
use Rattle.std.specs.Prelude.{replicate}
use Rattle.std.specs.List.{flat_map}
use Rattle.std.proofs.lemmas.List.{replicate-append-replicate}
use Rattle.std.proofs.lemmas.List.Concat.{flat_map-append}
use Rattle.smf_record.specs.Answers.{Seen}
use Rattle.smf_record.specs.Lines.{AddsBy, AreTold, IsAdded, each, line_of, runs_in, runs_line}
use Rattle.smf_record.specs.declared.answer.Answer.TheVariants as answers

-- one contract that runs
abbrev one : Seen
one = answers.Runs 1

-- the answers of a line of those that run
abbrev closing : ℕ → List Seen
closing runs = cond (runs == 0) [] (answers.Runs runs ∷ [])

closing_by : (v : Bool) (runs : ℕ)
    → cond v [] (line_of (answers.Runs runs)) ≡ flat_map line_of (cond v [] (answers.Runs runs ∷ []))
closing_by true runs = refl
closing_by false runs = sym (append-nil (line_of (answers.Runs runs)))

closing_text : (runs : ℕ) → runs_line runs ≡ flat_map line_of (closing runs)
closing_text runs = closing_by (runs == 0) runs

each_by : (v : Bool) (runs : ℕ) → (runs == 0) ≡ v
    → flat_map each (cond v [] (answers.Runs runs ∷ [])) ≡ replicate runs one
each_by true runs e = let none : runs ≡ 0 = eqb-true runs 0 e in rw none refl
each_by false runs e = append-nil (replicate runs one)

closing_each : (runs : ℕ) → flat_map each (closing runs) ≡ replicate runs one
closing_each runs = each_by (runs == 0) runs refl

-- the lines with that of those that run
closed_whole : (lines : List Seen) (text : List ℕ) (runs : ℕ) → text ≡ flat_map line_of lines
    → text ++ runs_line runs ≡ flat_map line_of (lines ++ closing runs)
closed_whole lines text runs h =
    ap (λ (t : List ℕ). t ++ runs_line runs) h
    ∙ ap (λ (t : List ℕ). flat_map line_of lines ++ t) (closing_text runs)
    ∙ sym (flat_map-append line_of lines (closing runs))

closed_told : (lines : List Seen) (runs : ℕ)
    → flat_map each (lines ++ closing runs) ≡ flat_map each lines ++ replicate runs one
closed_told lines runs =
    flat_map-append each lines (closing runs)
    ∙ ap (λ (l : List Seen). flat_map each lines ++ l) (closing_each runs)

pub none_told : AreTold [] [] 0
none_told = record { lines = []; whole = refl; told = refl }

pub taken_told : (past : List Seen) (text : List ℕ) (runs : ℕ) → AreTold past text runs
    → AreTold past (text ++ runs_line runs) 0
taken_told past text runs t =
    record {
      lines = t.lines ++ closing runs;
      whole = closed_whole t.lines text runs t.whole;
      told = append-nil (flat_map each (t.lines ++ closing runs)) ∙ closed_told t.lines runs ∙ t.told;
    }

more : (past : List Seen) (a : Seen) → flat_map each (past ++ a ∷ []) ≡ flat_map each past ++ each a
more past a = flat_map-append each past (a ∷ []) ∙ ap (λ (l : List Seen). flat_map each past ++ l) (append-nil (each a))

-- so many more run
runs_told : (past : List Seen) (n : ℕ) (text : List ℕ) (runs : ℕ) (longer : List ℕ) (left : ℕ) → AreTold past text runs
    → ((longer ≡ text) × (left ≡ runs + n)) ⊎ ((longer ≡ text ++ runs_line runs) × (left ≡ n))
    → AreTold (past ++ answers.Runs n ∷ []) longer left
runs_told past n text runs longer left t (inl h) =
    record {
      lines = t.lines;
      whole = h.0 ∙ t.whole;
      told =
          ap (λ (k : ℕ). flat_map each t.lines ++ replicate k one) h.1
          ∙ ap (λ (l : List Seen). flat_map each t.lines ++ l) (sym (replicate-append-replicate runs n one))
          ∙ sym (append_assoc (flat_map each t.lines) (replicate runs one) (replicate n one))
          ∙ ap (λ (l : List Seen). l ++ replicate n one) t.told
          ∙ sym (more past (answers.Runs n));
    }
runs_told past n text runs longer left t (inr h) =
    record {
      lines = t.lines ++ closing runs;
      whole = h.0 ∙ closed_whole t.lines text runs t.whole;
      told =
          ap (λ (k : ℕ). flat_map each (t.lines ++ closing runs) ++ replicate k one) h.1
          ∙ ap (λ (l : List Seen). l ++ replicate n one) (closed_told t.lines runs ∙ t.told)
          ∙ sym (more past (answers.Runs n));
    }

-- any other answer has a line of its own
line_told : (past : List Seen) (a : Seen) (text : List ℕ) (runs : ℕ) (longer : List ℕ) (left : ℕ) → each a ≡ a ∷ []
    → AreTold past text runs → (longer ≡ (text ++ runs_line runs) ++ line_of a) × (left ≡ 0)
    → AreTold (past ++ a ∷ []) longer left
line_told past a text runs longer left itself t h =
    record {
      lines = (t.lines ++ closing runs) ++ a ∷ [];
      whole =
          h.0
          ∙ ap (λ (l : List ℕ). l ++ line_of a) (closed_whole t.lines text runs t.whole)
          ∙ ap (λ (l : List ℕ). flat_map line_of (t.lines ++ closing runs) ++ l) (sym (append-nil (line_of a)))
          ∙ sym (flat_map-append line_of (t.lines ++ closing runs) (a ∷ []));
      told =
          ap (λ (k : ℕ). flat_map each ((t.lines ++ closing runs) ++ a ∷ []) ++ replicate k one) h.1
          ∙ append-nil (flat_map each ((t.lines ++ closing runs) ++ a ∷ []))
          ∙ more (t.lines ++ closing runs) a
          ∙ ap (λ (l : List Seen). l ++ each a) (closed_told t.lines runs ∙ t.told)
          ∙ sym (more past a);
    }

pub added_told : (past : List Seen) (a : Seen) (text : List ℕ) (runs : ℕ) (longer : List ℕ) (left : ℕ)
    → AreTold past text runs → IsAdded a text runs longer left → AreTold (past ++ a ∷ []) longer left
added_told past answers.Tick text runs longer left t h = line_told past answers.Tick text runs longer left refl t h
added_told past (answers.Request x) text runs longer left t h =
    line_told past (answers.Request x) text runs longer left refl t h
added_told past answers.End text runs longer left t h = line_told past answers.End text runs longer left refl t h
added_told past answers.Leave text runs longer left t h = line_told past answers.Leave text runs longer left refl t h
added_told past (answers.Replied x) text runs longer left t h =
    line_told past (answers.Replied x) text runs longer left refl t h
added_told past (answers.Time x) text runs longer left t h =
    line_told past (answers.Time x) text runs longer left refl t h
added_told past (answers.Start x) text runs longer left t h =
    line_told past (answers.Start x) text runs longer left refl t h
added_told past (answers.Runs n) text runs longer left t h = runs_told past n text runs longer left t h
added_told past (answers.Left x) text runs longer left t h =
    line_told past (answers.Left x) text runs longer left refl t h
added_told past (answers.Gone x) text runs longer left t h =
    line_told past (answers.Gone x) text runs longer left refl t h
added_told past answers.Lost text runs longer left t h = line_told past answers.Lost text runs longer left refl t h
added_told past (answers.Ends x) text runs longer left t h =
    line_told past (answers.Ends x) text runs longer left refl t h
