-- Answers: what is written is read, and what is read was written so.
use Rattle.std.proofs.Common.{◌≡◌, ℕ, ◌<◌, List, [], ◌∷◌, ◌++◌, Option, Some, None, Result, Ok, Err, refl, sym, ◌∙◌, ap, subst, append-nil}
use Rattle.std.specs.Fmt.{decimal}
use Rattle.smf_fmri.specs.Counts.{read_count}
use Rattle.smf_state.specs.Fields.{flag_text, next_field, read_flag}
use Rattle.smf_state.proofs.Lines.{behind, bind_ok, takes, took}
use Rattle.smf_state.proofs.Words.{flag, number}
use Rattle.smf_record.specs.Answers.{Seen}
use Rattle.smf_record.specs.Digits.{hex_text, read_hex}
use Rattle.smf_record.specs.Reading.{answer_behind, end_at, read_answer}
use Rattle.smf_record.specs.Texts.{IsAnswer, answer_parts, answer_text, spaced}
use Rattle.smf_record.specs.Words.{answer_word, end_answer_text, end_text, read_end, read_end_answer, read_nanoseconds, read_start_end, read_word, start_end_text, word_text}
use Rattle.smf_record.specs.declared.answer.Answer.TheVariants as answers
use Rattle.smf_record.specs.declared.word.Word.{Word}
use Rattle.smf_record.specs.declared.word.Word.TheVariants as words
use Rattle.smf_record.proofs.DigitFields.{bytes}
use Rattle.smf_record.proofs.WordFields.{end_answer, first_end, nanoseconds, start_end, word}

-- ---- parts, one after another

-- the rest of a line that these parts are
abbrev on : List (List ℕ) → Option (List ℕ)
on [] = None
on (part ∷ parts) = Some (part ++ behind (on parts))

spaced_on : (part : List ℕ) (parts : List (List ℕ)) → spaced part parts ≡ part ++ behind (on parts)
spaced_on part [] = sym (append-nil part)
spaced_on part (next ∷ parts) = ap (λ (l : List ℕ). part ++ 32 ∷ l) (spaced_on next parts)

joins : (s a b : Option (List ℕ)) (t : List ℕ) → s ≡ Some (t ++ behind a) → a ≡ b → s ≡ Some (t ++ behind b)
joins s a b t h k = h ∙ ap (λ (r : Option (List ℕ)). Some (t ++ behind r)) k

end_was : (s : Option (List ℕ)) (x : Unit {0}) → end_at s ≡ Ok x → s ≡ None
end_was None x h = refl
end_was (Some rest) x h = cc

-- ---- written is read

behind_word : (a : Seen) → IsAnswer a → answer_behind (answer_word a) (on (answer_parts a)) ≡ Ok a
unfolding answer_behind
behind_word answers.Tick h = refl
behind_word (answers.Request lines) h = rw (takes bytes lines h None) refl
behind_word answers.End h = refl
behind_word answers.Leave h = refl
behind_word (answers.Replied written) h = rw (takes flag written tt None) refl
behind_word (answers.Time moment) h =
    rw (
      takes number moment.seconds h.0 (on (decimal moment.nanoseconds ∷ [])),
      takes nanoseconds moment.nanoseconds h.1 None,
    ) refl
behind_word (answers.Start start) h =
    rw (
      takes number start.contract h.0 (on (decimal start.cookie ∷ start_end_text start.end ∷ [])),
      takes number start.cookie h.1 (on (start_end_text start.end ∷ [])),
      takes start_end start.end tt None,
    ) refl
behind_word (answers.Runs count) h = rw (takes number count h None) refl
behind_word (answers.Left end) h = rw (takes first_end end h None) refl
behind_word (answers.Gone end) h = rw (takes first_end end h None) refl
behind_word answers.Lost h = refl
behind_word (answers.Ends end) h = rw (takes end_answer end tt None) refl

pub answer_is_read : (a : Seen) → IsAnswer a → read_answer (answer_text a) ≡ Ok a
unfolding read_answer
answer_is_read a h =
    rw (
      spaced_on (word_text (answer_word a)) (answer_parts a),
      takes word (answer_word a) tt (on (answer_parts a)),
      behind_word a h,
    ) refl

-- ---- read was written

record IsAnswerOf (w : Word) (s : Option (List ℕ)) (a : Seen) : Type 0 where
  line : s ≡ on (answer_parts a)
  of : answer_word a ≡ w
  typed : IsAnswer a

ok_is : {X : Type 0} (x y : X) → ◌≡◌ {A = Result X ℕ} (Ok x) (Ok y) → x ≡ y
ok_is x y h = cc

tick_was : (s : Option (List ℕ)) (a : Seen) → answer_behind words.Tick s ≡ Ok a → IsAnswerOf words.Tick s a
unfolding answer_behind
tick_was s a h =
    let z = bind_ok (end_at s) _ _ h in
    subst (IsAnswerOf words.Tick s) (ok_is answers.Tick a z.2)
    (record { line = end_was s z.0 z.1; of = refl; typed = tt })

request_was : (s : Option (List ℕ)) (a : Seen) → answer_behind words.Request s ≡ Ok a → IsAnswerOf words.Request s a
unfolding answer_behind
request_was s a h =
    let b = bind_ok (next_field read_hex s) _ _ h in
    let z = bind_ok (end_at b.0.1) _ _ b.2 in
    let tb = took bytes s b.0.0 b.0.1 b.1 in
    let line : s ≡ on (hex_text b.0.0 ∷ []) =
    joins s b.0.1 _ (hex_text b.0.0) tb.line (end_was b.0.1 z.0 z.1) in
    subst (IsAnswerOf words.Request s) (ok_is (answers.Request b.0.0) a z.2)
    (record { line = line; of = refl; typed = tb.inside })

close_was : (s : Option (List ℕ)) (a : Seen) → answer_behind words.End s ≡ Ok a → IsAnswerOf words.End s a
unfolding answer_behind
close_was s a h =
    let z = bind_ok (end_at s) _ _ h in
    subst (IsAnswerOf words.End s) (ok_is answers.End a z.2)
    (record { line = end_was s z.0 z.1; of = refl; typed = tt })

leave_was : (s : Option (List ℕ)) (a : Seen) → answer_behind words.Leave s ≡ Ok a → IsAnswerOf words.Leave s a
unfolding answer_behind
leave_was s a h =
    let z = bind_ok (end_at s) _ _ h in
    subst (IsAnswerOf words.Leave s) (ok_is answers.Leave a z.2)
    (record { line = end_was s z.0 z.1; of = refl; typed = tt })

replied_was : (s : Option (List ℕ)) (a : Seen) → answer_behind words.Replied s ≡ Ok a → IsAnswerOf words.Replied s a
unfolding answer_behind
replied_was s a h =
    let b = bind_ok (next_field read_flag s) _ _ h in
    let z = bind_ok (end_at b.0.1) _ _ b.2 in
    let tb = took flag s b.0.0 b.0.1 b.1 in
    let line : s ≡ on (flag_text b.0.0 ∷ []) =
    joins s b.0.1 _ (flag_text b.0.0) tb.line (end_was b.0.1 z.0 z.1) in
    subst (IsAnswerOf words.Replied s) (ok_is (answers.Replied b.0.0) a z.2)
    (record { line = line; of = refl; typed = tt })

time_was : (s : Option (List ℕ)) (a : Seen) → answer_behind words.Time s ≡ Ok a → IsAnswerOf words.Time s a
unfolding answer_behind
time_was s a h =
    let b = bind_ok (next_field read_count s) _ _ h in
    let c = bind_ok (next_field read_nanoseconds b.0.1) _ _ b.2 in
    let z = bind_ok (end_at c.0.1) _ _ c.2 in
    let tb = took number s b.0.0 b.0.1 b.1 in
    let tc = took nanoseconds b.0.1 c.0.0 c.0.1 c.1 in
    let line : s ≡ on (decimal b.0.0 ∷ decimal c.0.0 ∷ []) =
    joins s b.0.1 _ (decimal b.0.0) tb.line
    (joins b.0.1 c.0.1 _ (decimal c.0.0) tc.line (end_was c.0.1 z.0 z.1)) in
    subst (IsAnswerOf words.Time s) (ok_is (answers.Time (record { seconds = b.0.0; nanoseconds = c.0.0 })) a z.2)
    (record { line = line; of = refl; typed = (tb.inside, tc.inside) })

start_was : (s : Option (List ℕ)) (a : Seen) → answer_behind words.Start s ≡ Ok a → IsAnswerOf words.Start s a
unfolding answer_behind
start_was s a h =
    let b = bind_ok (next_field read_count s) _ _ h in
    let c = bind_ok (next_field read_count b.0.1) _ _ b.2 in
    let d = bind_ok (next_field read_start_end c.0.1) _ _ c.2 in
    let z = bind_ok (end_at d.0.1) _ _ d.2 in
    let tb = took number s b.0.0 b.0.1 b.1 in
    let tc = took number b.0.1 c.0.0 c.0.1 c.1 in
    let td = took start_end c.0.1 d.0.0 d.0.1 d.1 in
    let line : s ≡ on (decimal b.0.0 ∷ decimal c.0.0 ∷ start_end_text d.0.0 ∷ []) =
    joins s b.0.1 _ (decimal b.0.0) tb.line
    (joins b.0.1 c.0.1 _ (decimal c.0.0) tc.line
    (joins c.0.1 d.0.1 _ (start_end_text d.0.0) td.line (end_was d.0.1 z.0 z.1))) in
    subst (IsAnswerOf words.Start s) (ok_is (answers.Start (record { contract = b.0.0; cookie = c.0.0; end = d.0.0 })) a z.2)
    (record { line = line; of = refl; typed = (tb.inside, tc.inside) })

runs_was : (s : Option (List ℕ)) (a : Seen) → answer_behind words.Runs s ≡ Ok a → IsAnswerOf words.Runs s a
unfolding answer_behind
runs_was s a h =
    let b = bind_ok (next_field read_count s) _ _ h in
    let z = bind_ok (end_at b.0.1) _ _ b.2 in
    let tb = took number s b.0.0 b.0.1 b.1 in
    let line : s ≡ on (decimal b.0.0 ∷ []) =
    joins s b.0.1 _ (decimal b.0.0) tb.line (end_was b.0.1 z.0 z.1) in
    subst (IsAnswerOf words.Runs s) (ok_is (answers.Runs b.0.0) a z.2)
    (record { line = line; of = refl; typed = tb.inside })

left_was : (s : Option (List ℕ)) (a : Seen) → answer_behind words.Left s ≡ Ok a → IsAnswerOf words.Left s a
unfolding answer_behind
left_was s a h =
    let b = bind_ok (next_field read_end s) _ _ h in
    let z = bind_ok (end_at b.0.1) _ _ b.2 in
    let tb = took first_end s b.0.0 b.0.1 b.1 in
    let line : s ≡ on (end_text b.0.0 ∷ []) =
    joins s b.0.1 _ (end_text b.0.0) tb.line (end_was b.0.1 z.0 z.1) in
    subst (IsAnswerOf words.Left s) (ok_is (answers.Left b.0.0) a z.2)
    (record { line = line; of = refl; typed = tb.inside })

gone_was : (s : Option (List ℕ)) (a : Seen) → answer_behind words.Gone s ≡ Ok a → IsAnswerOf words.Gone s a
unfolding answer_behind
gone_was s a h =
    let b = bind_ok (next_field read_end s) _ _ h in
    let z = bind_ok (end_at b.0.1) _ _ b.2 in
    let tb = took first_end s b.0.0 b.0.1 b.1 in
    let line : s ≡ on (end_text b.0.0 ∷ []) =
    joins s b.0.1 _ (end_text b.0.0) tb.line (end_was b.0.1 z.0 z.1) in
    subst (IsAnswerOf words.Gone s) (ok_is (answers.Gone b.0.0) a z.2)
    (record { line = line; of = refl; typed = tb.inside })

lost_was : (s : Option (List ℕ)) (a : Seen) → answer_behind words.Lost s ≡ Ok a → IsAnswerOf words.Lost s a
unfolding answer_behind
lost_was s a h =
    let z = bind_ok (end_at s) _ _ h in
    subst (IsAnswerOf words.Lost s) (ok_is answers.Lost a z.2)
    (record { line = end_was s z.0 z.1; of = refl; typed = tt })

ends_was : (s : Option (List ℕ)) (a : Seen) → answer_behind words.Ends s ≡ Ok a → IsAnswerOf words.Ends s a
unfolding answer_behind
ends_was s a h =
    let b = bind_ok (next_field read_end_answer s) _ _ h in
    let z = bind_ok (end_at b.0.1) _ _ b.2 in
    let tb = took end_answer s b.0.0 b.0.1 b.1 in
    let line : s ≡ on (end_answer_text b.0.0 ∷ []) =
    joins s b.0.1 _ (end_answer_text b.0.0) tb.line (end_was b.0.1 z.0 z.1) in
    subst (IsAnswerOf words.Ends s) (ok_is (answers.Ends b.0.0) a z.2)
    (record { line = line; of = refl; typed = tt })

behind_was : (w : Word) (s : Option (List ℕ)) (a : Seen) → answer_behind w s ≡ Ok a → IsAnswerOf w s a
behind_was words.Tick s a h = tick_was s a h
behind_was words.Request s a h = request_was s a h
behind_was words.End s a h = close_was s a h
behind_was words.Leave s a h = leave_was s a h
behind_was words.Replied s a h = replied_was s a h
behind_was words.Time s a h = time_was s a h
behind_was words.Start s a h = start_was s a h
behind_was words.Runs s a h = runs_was s a h
behind_was words.Left s a h = left_was s a h
behind_was words.Gone s a h = gone_was s a h
behind_was words.Lost s a h = lost_was s a h
behind_was words.Ends s a h = ends_was s a h

some_is : (a b : List ℕ) → ◌≡◌ {A = Option (List ℕ)} (Some a) (Some b) → a ≡ b
some_is a b h = cc

pub answer_was : (text : List ℕ) (a : Seen) → read_answer text ≡ Ok a → (text ≡ answer_text a) × IsAnswer a
unfolding read_answer
answer_was text a h =
    let b = bind_ok (next_field read_word (Some text)) _ _ h in
    let tb = took word (Some text) b.0.0 b.0.1 b.1 in
    let m = behind_was b.0.0 b.0.1 a b.2 in
    let whole : Some text ≡ Some (word_text (answer_word a) ++ behind (on (answer_parts a))) =
    joins (Some text) b.0.1 _ (word_text b.0.0) tb.line m.line
    ∙ ap (λ (w : Word). Some (word_text w ++ behind (on (answer_parts a)))) (sym m.of) in
    (some_is text _ whole ∙ sym (spaced_on (word_text (answer_word a)) (answer_parts a)), m.typed)
