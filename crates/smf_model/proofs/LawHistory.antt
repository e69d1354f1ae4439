-- Histories: a refused command leaves them, and their values follow one another.
use Rattle.std.proofs.Common.{◌≡◌, ◌⊎◌, ℕ, ◌+◌, ◌≤◌, ◌==◌, not, Bool, true, false, cond, List, [], ◌∷◌, Some, None, refl, sym, ap, ◌∙◌, subst, inl, inr, arith}
use Rattle.std.specs.Prelude.{find, IsSome}
use Rattle.std.proofs.lemmas.Bool.Decides.{nat_tests}
use Rattle.smf_model.specs.declared.command.Command.{Command}
use Rattle.smf_model.specs.Contents.{Holdings}
use Rattle.smf_model.specs.Next.{next}
use Rattle.smf_model.specs.History.{History, holdings_after_commands, now, is_revised, history_if_revised, history_after, history, Entry, entries_of, entries, values_of, has_revision, value_at, newest, IsNext, AreInTurn}
use Rattle.smf_model.proofs.LawOutcomes.{one_revision}

differ : (m n : ℕ) → m ≡ n + 1 → not (m == n) ≡ false → ⊥
differ m n e f = grind (arith, nat_tests)

agree : (m n : ℕ) → m ≡ n → not (m == n) ≡ true → ⊥
agree m n e f = grind (arith, nat_tests)

left : (h k : Holdings) → (k ≡ h) ⊎ (k.revision ≡ h.revision + 1) → is_revised h k ≡ false → k ≡ h
left h k (inl e) f = e
left h k (inr e) f = absurd (differ k.revision h.revision e f)

raised : (h k : Holdings) → (k ≡ h) ⊎ (k.revision ≡ h.revision + 1) → is_revised h k ≡ true
    → k.revision ≡ h.revision + 1
raised h k (inl e) f = absurd (agree k.revision h.revision (ap (λ (l : Holdings). l.revision) e) f)
raised h k (inr e) f = e

-- ---- what the commands make

now_noted : (y : History) (c : Command) (b : Bool) → is_revised (now y) (next (now y) c).0 ≡ b
    → now (history_if_revised y c b) ≡ (next (now y) c).0
now_noted y c true e = refl
now_noted y c false e = sym (left (now y) (next (now y) c).0 (one_revision (now y) c) e)

now_told : (y : History) (c : Command) → now (history_after y c) ≡ (next (now y) c).0
unfolding history_after
now_told y c = now_noted y c (is_revised (now y) (next (now y) c).0) refl

pub now_made : (h : Holdings) (cs : List Command) → now (history h cs) ≡ holdings_after_commands h cs
now_made h [] = refl
now_made h (c ∷ cs) = now_told (history h cs) c ∙ ap (λ (k : Holdings). (next k c).0) (now_made h cs)

first_noted : (y : History) (c : Command) (b : Bool) → (history_if_revised y c b).first ≡ y.first
first_noted y c true = refl
first_noted y c false = refl

first_told : (y : History) (c : Command) → (history_after y c).first ≡ y.first
unfolding history_after
first_told y c = first_noted y c (is_revised (now y) (next (now y) c).0)

pub first_stays : (h : Holdings) (cs : List Command) → (history h cs).first ≡ h
first_stays h [] = refl
first_stays h (c ∷ cs) = first_told (history h cs) c ∙ first_stays h cs

-- ---- each value is made of the one before

newest_made : (h : Holdings) (cs : List Command) → newest h (entries_of h cs) ≡ holdings_after_commands h cs
newest_made h [] = refl
newest_made h (c ∷ cs) = refl

abbrev InTurn : History → Type 0
InTurn y = AreInTurn y.first (entries y)

turn_noted : (y : History) (c : Command) (b : Bool) → is_revised (now y) (next (now y) c).0 ≡ b → InTurn y
    → InTurn (history_if_revised y c b)
turn_noted y c true e t =
    let x : Entry = record { command = c; value = holdings_after_commands y.first (c ∷ y.past) } in
    let n : IsNext (now y) x =
    record { step = refl; revision = raised (now y) (next (now y) c).0 (one_revision (now y) c) e } in
    (subst (λ (k : Holdings). IsNext k x) (sym (newest_made y.first y.past)) n, t)
turn_noted y c false e t = t

turn_told : (y : History) (c : Command) → InTurn y → InTurn (history_after y c)
unfolding history_after
turn_told y c t = turn_noted y c (is_revised (now y) (next (now y) c).0) refl t

turn : (h : Holdings) (cs : List Command) → InTurn (history h cs)
turn h [] = tt
turn h (c ∷ cs) = turn_told (history h cs) c (turn h cs)

pub made_in_turn : (h : Holdings) (cs : List Command) → AreInTurn h (entries (history h cs))
made_in_turn h cs = subst (λ (k : Holdings). AreInTurn k (entries (history h cs))) (first_stays h cs) (turn h cs)

-- ---- each revision has its value

first_found : (h : Holdings) (n : ℕ) (b : Bool) → (h.revision == n) ≡ b → h.revision ≤ n → n ≤ h.revision
    → IsSome (cond b (Some h) None)
first_found h n true e low high = refl
first_found h n false e low high = absurd (no h.revision n e low high)
  where
    no : (m n : ℕ) → (m == n) ≡ false → m ≤ n → n ≤ m → ⊥
    no m n e low high = grind (arith, nat_tests)

below : (m n k : ℕ) → (m == n) ≡ false → m ≡ k + 1 → n ≤ m → n ≤ k
below m n k e f high = grind (arith, nat_tests)

found_in : (h : Holdings) (es : List Entry) (n : ℕ) → AreInTurn h es → h.revision ≤ n → n ≤ (newest h es).revision
    → IsSome (find (has_revision n) (values_of h es))
found_in h [] n t low high = first_found h n (h.revision == n) refl low high
found_in h (e ∷ es) n t low high = by (e.value.revision == n) refl (λ k. found_in h es n t.1 low k)
  where
    by : (b : Bool) → (e.value.revision == n) ≡ b
        → (n ≤ (newest h es).revision → IsSome (find (has_revision n) (values_of h es)))
        → IsSome (cond b (Some e.value) (find (has_revision n) (values_of h es)))
    by true f ih = refl
    by false f ih = ih (below e.value.revision n (newest h es).revision f t.0.revision high)

pub found_at : (h : Holdings) (cs : List Command) (n : ℕ) → h.revision ≤ n
    → n ≤ (holdings_after_commands h cs).revision → IsSome (value_at (history h cs) n)
found_at h cs n low high =
    let y : History = history h cs in
    let first : h.revision ≡ y.first.revision = ap (λ (k : Holdings). k.revision) (sym (first_stays h cs)) in
    let last : (holdings_after_commands h cs).revision ≡ (newest y.first (entries y)).revision =
    ap (λ (k : Holdings). k.revision) (sym (newest_made y.first y.past ∙ now_made h cs)) in
    found_in y.first (entries y) n (turn h cs) (subst (λ (m : ℕ). m ≤ n) first low) (subst (λ (m : ℕ). n ≤ m) last high)
