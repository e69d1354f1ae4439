-- Entries: what is written is read, and what is read was written so.
use Rattle.std.proofs.Common.{◌≡◌, ℕ, List, [], ◌∷◌, ◌++◌, length, Bool, true, false, cond, Option, Some, None, Result, Ok, Err, refl, sym, ◌∙◌, ap, subst, append-nil}
use Rattle.std.specs.Fmt.{decimal}
use Rattle.std.specs.List.{list_all}
use Rattle.smf_fmri.specs.Counts.{read_count}
use Rattle.smf_fmri.specs.Patterns.{read_short}
use Rattle.smf_method.specs.Commands.{IsCommand, command_of}
use Rattle.smf_value.specs.Texts.{is_plain}
use Rattle.smf_state.specs.Fields.{next_field}
use Rattle.smf_state.specs.States.{read_state, state_text}
use Rattle.smf_state.proofs.Lines.{behind, bind_ok, takes, took}
use Rattle.smf_state.proofs.Words.{name, number, state}
use Rattle.smf_chronicle.specs.declared.entry.Entry.{Entry}
use Rattle.smf_chronicle.specs.declared.entry.Entry.TheVariants.{Happened, Life, Row, Living}
use Rattle.smf_world.specs.declared.item.Item.TheVariants.{Boot, Committed, Held, Spawned, Emptied}
use Rattle.smf_chronicle.specs.Reading.{command_at, command_in, end_at, entry_behind, read_entry}
use Rattle.smf_chronicle.specs.Texts.{IsEntry, entry_parts, entry_text, spaced}
use Rattle.smf_chronicle.specs.Words.{entry_word, read_method, read_next, read_word, word_text}
use Rattle.smf_method.specs.Tokens.{method_text}
use Rattle.smf_world.specs.TrailText.{next_text}
use Rattle.smf_chronicle.specs.declared.word.Word.{Word}
use Rattle.smf_chronicle.specs.declared.word.Word.TheVariants as words
use Rattle.smf_chronicle.proofs.WordFields.{method, next, word}

-- ---- parts, one after another

-- the rest of a line that these parts are
abbrev on : List (List ℕ) → Option (List ℕ)
on [] = None
on (part ∷ parts) = Some (part ++ behind (on parts))

spaced_on : (part : List ℕ) (parts : List (List ℕ)) → spaced part parts ≡ part ++ behind (on parts)
spaced_on part [] = sym (append-nil part)
spaced_on part (next ∷ parts) = ap (λ (l : List ℕ). part ++ 32 ∷ l) (spaced_on next parts)

joins : (s a b : Option (List ℕ)) (t : List ℕ) → s ≡ Some (t ++ behind a) → a ≡ b → s ≡ Some (t ++ behind b)
joins s a b t h k = h ∙ ap (λ (r : Option (List ℕ)). Some (t ++ behind r)) k

-- ---- commands

command_reads : (command : List ℕ) → IsCommand command → command_at (on (command ∷ [])) ≡ Ok command
command_reads command h =
    ap (λ (l : List ℕ). command_at (Some l)) (append-nil command)
    ∙ rw h.plain refl

record IsCommandOf (s : Option (List ℕ)) (command : List ℕ) : Type 0 where
  line : s ≡ on (command ∷ [])
  plain : IsCommand command

command_by : (p : Bool) (rest command : List ℕ) (left : ℕ) → list_all is_plain rest ≡ p
    → command_in left (cond p (Some rest) None) ≡ Ok command → IsCommandOf (Some rest) command
command_by true rest command left e h =
    let is : rest ≡ command = cc in
    record {
      line = ap (λ (l : List ℕ). Some l) (is ∙ sym (append-nil command));
      plain = record { plain = rw (← is) e };
    }
command_by false rest command left e h = cc

command_was : (s : Option (List ℕ)) (command : List ℕ) → command_at s ≡ Ok command → IsCommandOf s command
command_was None command h = cc
command_was (Some rest) command h = command_by (list_all is_plain rest) rest command (length rest) refl h

end_was : (s : Option (List ℕ)) (x : Unit {0}) → end_at s ≡ Ok x → s ≡ None
end_was None x h = refl
end_was (Some rest) x h = cc

-- ---- written is read

behind_word : (e : Entry) → IsEntry e → entry_behind (entry_word e) (on (entry_parts e)) ≡ Ok e
unfolding entry_behind
behind_word (Happened Boot) h = refl
behind_word (Happened (Committed i n s x)) h =
    rw (
      takes number i h.0 (on (decimal n ∷ state_text s ∷ next_text x ∷ [])),
      takes number n h.1 (on (state_text s ∷ next_text x ∷ [])),
      takes state s tt (on (next_text x ∷ [])),
      takes next x tt None,
    ) refl
behind_word (Happened (Held m launch i n s)) h =
    rw (
      takes name m h.0 (on (decimal launch ∷ decimal i ∷ decimal n ∷ state_text s ∷ [])),
      takes number launch h.1 (on (decimal i ∷ decimal n ∷ state_text s ∷ [])),
      takes number i h.2 (on (decimal n ∷ state_text s ∷ [])),
      takes number n h.3 (on (state_text s ∷ [])),
      takes state s tt None,
    ) refl
behind_word (Happened (Spawned c i run m revision command)) h =
    rw (
      takes number c h.0 (on (decimal i ∷ decimal run ∷ method_text m ∷ decimal revision ∷ command ∷ [])),
      takes number i h.1 (on (decimal run ∷ method_text m ∷ decimal revision ∷ command ∷ [])),
      takes number run h.2 (on (method_text m ∷ decimal revision ∷ command ∷ [])),
      takes method m tt (on (decimal revision ∷ command ∷ [])),
      takes number revision h.3 (on (command ∷ [])),
      command_reads command h.4,
    ) refl
behind_word (Happened (Emptied c)) h = rw (takes number c h None) refl
behind_word Life h = refl
behind_word (Row i n s) h =
    rw (
      takes number i h.0 (on (decimal n ∷ state_text s ∷ [])),
      takes number n h.1 (on (state_text s ∷ [])),
      takes state s tt None,
    ) refl
behind_word (Living c i) h = rw (takes number c h.0 (on (decimal i ∷ [])), takes number i h.1 None) refl

pub entry_is_read : (e : Entry) → IsEntry e → read_entry (entry_text e) ≡ Ok e
unfolding read_entry
entry_is_read e h =
    rw (
      spaced_on (word_text (entry_word e)) (entry_parts e),
      takes word (entry_word e) tt (on (entry_parts e)),
      behind_word e h,
    ) refl

-- ---- read was written

record IsEntryOf (w : Word) (s : Option (List ℕ)) (e : Entry) : Type 0 where
  line : s ≡ on (entry_parts e)
  of : entry_word e ≡ w
  typed : IsEntry e

ok_is : {X : Type 0} (x y : X) → ◌≡◌ {A = Result X ℕ} (Ok x) (Ok y) → x ≡ y
ok_is x y h = cc

boot_was : (s : Option (List ℕ)) (e : Entry) → entry_behind words.Boot s ≡ Ok e → IsEntryOf words.Boot s e
unfolding entry_behind
boot_was s e h =
    let a = bind_ok (end_at s) _ _ h in
    subst (IsEntryOf words.Boot s) (ok_is (Happened Boot) e a.2)
    (record { line = end_was s a.0 a.1; of = refl; typed = tt })

life_was : (s : Option (List ℕ)) (e : Entry) → entry_behind words.Life s ≡ Ok e → IsEntryOf words.Life s e
unfolding entry_behind
life_was s e h =
    let a = bind_ok (end_at s) _ _ h in
    subst (IsEntryOf words.Life s) (ok_is Life e a.2) (record { line = end_was s a.0 a.1; of = refl; typed = tt })

committed_was : (s : Option (List ℕ)) (e : Entry) → entry_behind words.Committed s ≡ Ok e
    → IsEntryOf words.Committed s e
unfolding entry_behind
committed_was s e h =
    let a = bind_ok (next_field read_count s) _ _ h in
    let b = bind_ok (next_field read_count a.0.1) _ _ a.2 in
    let c = bind_ok (next_field read_state b.0.1) _ _ b.2 in
    let d = bind_ok (next_field read_next c.0.1) _ _ c.2 in
    let z = bind_ok (end_at d.0.1) _ _ d.2 in
    let ta = took number s a.0.0 a.0.1 a.1 in
    let tb = took number a.0.1 b.0.0 b.0.1 b.1 in
    let tc = took state b.0.1 c.0.0 c.0.1 c.1 in
    let td = took next c.0.1 d.0.0 d.0.1 d.1 in
    let line : s ≡ on (decimal a.0.0 ∷ decimal b.0.0 ∷ state_text c.0.0 ∷ next_text d.0.0 ∷ []) =
    joins s a.0.1 _ (decimal a.0.0) ta.line
    (joins a.0.1 b.0.1 _ (decimal b.0.0) tb.line
    (joins b.0.1 c.0.1 _ (state_text c.0.0) tc.line
    (joins c.0.1 d.0.1 _ (next_text d.0.0) td.line (end_was d.0.1 z.0 z.1)))) in
    subst (IsEntryOf words.Committed s) (ok_is (Happened (Committed a.0.0 b.0.0 c.0.0 d.0.0)) e z.2)
    (record { line = line; of = refl; typed = (ta.inside, tb.inside) })

held_was : (s : Option (List ℕ)) (e : Entry) → entry_behind words.Held s ≡ Ok e → IsEntryOf words.Held s e
unfolding entry_behind
held_was s e h =
    let a = bind_ok (next_field read_short s) _ _ h in
    let b = bind_ok (next_field read_count a.0.1) _ _ a.2 in
    let c = bind_ok (next_field read_count b.0.1) _ _ b.2 in
    let d = bind_ok (next_field read_count c.0.1) _ _ c.2 in
    let f = bind_ok (next_field read_state d.0.1) _ _ d.2 in
    let z = bind_ok (end_at f.0.1) _ _ f.2 in
    let ta = took name s a.0.0 a.0.1 a.1 in
    let tb = took number a.0.1 b.0.0 b.0.1 b.1 in
    let tc = took number b.0.1 c.0.0 c.0.1 c.1 in
    let td = took number c.0.1 d.0.0 d.0.1 d.1 in
    let tf = took state d.0.1 f.0.0 f.0.1 f.1 in
    let line : s ≡ on (a.0.0 ∷ decimal b.0.0 ∷ decimal c.0.0 ∷ decimal d.0.0 ∷ state_text f.0.0 ∷ []) =
    joins s a.0.1 _ a.0.0 ta.line
    (joins a.0.1 b.0.1 _ (decimal b.0.0) tb.line
    (joins b.0.1 c.0.1 _ (decimal c.0.0) tc.line
    (joins c.0.1 d.0.1 _ (decimal d.0.0) td.line
    (joins d.0.1 f.0.1 _ (state_text f.0.0) tf.line (end_was f.0.1 z.0 z.1))))) in
    subst (IsEntryOf words.Held s) (ok_is (Happened (Held a.0.0 b.0.0 c.0.0 d.0.0 f.0.0)) e z.2)
    (record { line = line; of = refl; typed = (ta.inside, tb.inside, tc.inside, td.inside) })

spawned_was : (s : Option (List ℕ)) (e : Entry) → entry_behind words.Spawned s ≡ Ok e → IsEntryOf words.Spawned s e
unfolding entry_behind
spawned_was s e h =
    let a = bind_ok (next_field read_count s) _ _ h in
    let b = bind_ok (next_field read_count a.0.1) _ _ a.2 in
    let c = bind_ok (next_field read_count b.0.1) _ _ b.2 in
    let d = bind_ok (next_field read_method c.0.1) _ _ c.2 in
    let f = bind_ok (next_field read_count d.0.1) _ _ d.2 in
    let z = bind_ok (command_at f.0.1) _ _ f.2 in
    let ta = took number s a.0.0 a.0.1 a.1 in
    let tb = took number a.0.1 b.0.0 b.0.1 b.1 in
    let tc = took number b.0.1 c.0.0 c.0.1 c.1 in
    let td = took method c.0.1 d.0.0 d.0.1 d.1 in
    let tf = took number d.0.1 f.0.0 f.0.1 f.1 in
    let command = command_was f.0.1 z.0 z.1 in
    let line : s ≡ on (decimal a.0.0 ∷ decimal b.0.0 ∷ decimal c.0.0 ∷ method_text d.0.0 ∷ decimal f.0.0 ∷ z.0 ∷ []) =
    joins s a.0.1 _ (decimal a.0.0) ta.line
    (joins a.0.1 b.0.1 _ (decimal b.0.0) tb.line
    (joins b.0.1 c.0.1 _ (decimal c.0.0) tc.line
    (joins c.0.1 d.0.1 _ (method_text d.0.0) td.line
    (joins d.0.1 f.0.1 _ (decimal f.0.0) tf.line command.line)))) in
    subst (IsEntryOf words.Spawned s) (ok_is (Happened (Spawned a.0.0 b.0.0 c.0.0 d.0.0 f.0.0 z.0)) e z.2)
    (record { line = line; of = refl; typed = (ta.inside, tb.inside, tc.inside, tf.inside, command.plain) })

emptied_was : (s : Option (List ℕ)) (e : Entry) → entry_behind words.Emptied s ≡ Ok e → IsEntryOf words.Emptied s e
unfolding entry_behind
emptied_was s e h =
    let a = bind_ok (next_field read_count s) _ _ h in
    let z = bind_ok (end_at a.0.1) _ _ a.2 in
    let ta = took number s a.0.0 a.0.1 a.1 in
    subst (IsEntryOf words.Emptied s) (ok_is (Happened (Emptied a.0.0)) e z.2)
    (record {
      line = joins s a.0.1 _ (decimal a.0.0) ta.line (end_was a.0.1 z.0 z.1);
      of = refl;
      typed = ta.inside;
    })

row_was : (s : Option (List ℕ)) (e : Entry) → entry_behind words.Row s ≡ Ok e → IsEntryOf words.Row s e
unfolding entry_behind
row_was s e h =
    let a = bind_ok (next_field read_count s) _ _ h in
    let b = bind_ok (next_field read_count a.0.1) _ _ a.2 in
    let c = bind_ok (next_field read_state b.0.1) _ _ b.2 in
    let z = bind_ok (end_at c.0.1) _ _ c.2 in
    let ta = took number s a.0.0 a.0.1 a.1 in
    let tb = took number a.0.1 b.0.0 b.0.1 b.1 in
    let tc = took state b.0.1 c.0.0 c.0.1 c.1 in
    let line : s ≡ on (decimal a.0.0 ∷ decimal b.0.0 ∷ state_text c.0.0 ∷ []) =
    joins s a.0.1 _ (decimal a.0.0) ta.line
    (joins a.0.1 b.0.1 _ (decimal b.0.0) tb.line
    (joins b.0.1 c.0.1 _ (state_text c.0.0) tc.line (end_was c.0.1 z.0 z.1))) in
    subst (IsEntryOf words.Row s) (ok_is (Row a.0.0 b.0.0 c.0.0) e z.2)
    (record { line = line; of = refl; typed = (ta.inside, tb.inside) })

living_was : (s : Option (List ℕ)) (e : Entry) → entry_behind words.Living s ≡ Ok e → IsEntryOf words.Living s e
unfolding entry_behind
living_was s e h =
    let a = bind_ok (next_field read_count s) _ _ h in
    let b = bind_ok (next_field read_count a.0.1) _ _ a.2 in
    let z = bind_ok (end_at b.0.1) _ _ b.2 in
    let ta = took number s a.0.0 a.0.1 a.1 in
    let tb = took number a.0.1 b.0.0 b.0.1 b.1 in
    let line : s ≡ on (decimal a.0.0 ∷ decimal b.0.0 ∷ []) =
    joins s a.0.1 _ (decimal a.0.0) ta.line
    (joins a.0.1 b.0.1 _ (decimal b.0.0) tb.line (end_was b.0.1 z.0 z.1)) in
    subst (IsEntryOf words.Living s) (ok_is (Living a.0.0 b.0.0) e z.2)
    (record { line = line; of = refl; typed = (ta.inside, tb.inside) })

behind_was : (w : Word) (s : Option (List ℕ)) (e : Entry) → entry_behind w s ≡ Ok e → IsEntryOf w s e
behind_was words.Boot s e h = boot_was s e h
behind_was words.Committed s e h = committed_was s e h
behind_was words.Held s e h = held_was s e h
behind_was words.Spawned s e h = spawned_was s e h
behind_was words.Emptied s e h = emptied_was s e h
behind_was words.Life s e h = life_was s e h
behind_was words.Row s e h = row_was s e h
behind_was words.Living s e h = living_was s e h

some_is : (a b : List ℕ) → ◌≡◌ {A = Option (List ℕ)} (Some a) (Some b) → a ≡ b
some_is a b h = cc

pub entry_was : (text : List ℕ) (e : Entry) → read_entry text ≡ Ok e → (text ≡ entry_text e) × IsEntry e
unfolding read_entry
entry_was text e h =
    let a = bind_ok (next_field read_word (Some text)) _ _ h in
    let ta = took word (Some text) a.0.0 a.0.1 a.1 in
    let m = behind_was a.0.0 a.0.1 e a.2 in
    let whole : Some text ≡ Some (word_text (entry_word e) ++ behind (on (entry_parts e))) =
    joins (Some text) a.0.1 _ (word_text a.0.0) ta.line m.line
    ∙ ap (λ (w : Word). Some (word_text w ++ behind (on (entry_parts e)))) (sym m.of) in
    (some_is text _ whole ∙ sym (spaced_on (word_text (entry_word e)) (entry_parts e)), m.typed)
