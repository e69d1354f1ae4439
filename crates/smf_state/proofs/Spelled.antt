-- Rows and steps: one is read from its written text and from no other.
use Rattle.std.proofs.Common.{◌≡◌, ℕ, List, [], ◌∷◌, ◌++◌, Option, Some, None, Result, Ok, Err, refl, sym, ◌∙◌, ap, subst, append_assoc, append-nil, OnOk}
use Rattle.smf_fmri.specs.Counts.{read_count}
use Rattle.smf_fmri.specs.Patterns.{read_short}
use Rattle.smf_state.specs.declared.row.Row.{Row}
use Rattle.smf_state.specs.declared.step.Step.{Step}
use Rattle.smf_state.specs.declared.step.Step.TheVariants.{Move, Start, Stop, Refresh, End, Note}
use Rattle.smf_state.specs.declared.step.Verb.{Verb}
use Rattle.smf_state.specs.declared.step.Verb.TheVariants as verbs
use Rattle.smf_state.specs.Fields.{next_field, read_asks, read_ignore, read_flag, read_optional}
use Rattle.smf_state.specs.States.{read_state, read_cause, read_duration}
use Rattle.smf_state.specs.Rows.{fresh}
use Rattle.smf_state.specs.Texts.{first_part, second_part, third_part, row_onto, row_text, first_at, second_at, third_at, row_at, whole_row, read_row, IsFirst, IsSecond, IsThird, IsRow, verb_of, verb_text, read_verb, fields_onto, step_onto, step_text, fields_at, step_at, whole_step, read_step, IsStep}
use Rattle.smf_state.proofs.Lines.{behind, takes, takes_on, took, joined, bind_ok}
use Rattle.smf_state.proofs.Words.{number, name, state, cause, duration, verb, flag, asks, ignore, optional_number, optional_state, optional_cause, anything}

ok_is : {X E : Type 0} (x y : X) → ◌≡◌ {A = Result X E} (Ok x) (Ok y) → x ≡ y
ok_is x y h = cc

-- ---- rows: written is read

first_reads : (r : Row) (rest : Option (List ℕ)) → IsFirst r
    → first_at (Some (first_part r (behind rest)))
    ≡ Ok (
      record (fresh r.owner) {
        number = r.number;
        state = r.state;
        next = r.next;
        live = r.live;
        side = r.side;
        last = r.last;
      },
      rest,
    )
unfolding first_at
first_reads r rest h =
    rw (
      takes_on name r.owner h.owner,
      takes_on number r.number h.number,
      takes_on state r.state tt,
      takes_on optional_state r.next (anything r.next),
      takes_on optional_number r.live h.live,
      takes_on optional_number r.side h.side,
      takes number r.last h.last rest,
    ) refl

second_reads : (q r : Row) (rest : Option (List ℕ)) → IsSecond r
    → second_at q (Some (second_part r (behind rest)))
    ≡ Ok (
      record q {
        failed = r.failed;
        asks = r.asks;
        cause = r.cause;
        duration = r.duration;
        ignore = r.ignore;
        base = r.base;
        err = r.err;
      },
      rest,
    )
unfolding second_at
second_reads q r rest h =
    rw (
      takes_on number r.failed h.failed,
      takes_on asks r.asks h.asks,
      takes_on optional_cause r.cause (anything r.cause),
      takes_on duration r.duration tt,
      takes_on ignore r.ignore h.ignore,
      takes_on number r.base h.base,
      takes number r.err h.err rest,
    ) refl

third_reads : (q r : Row) (rest : Option (List ℕ)) → IsThird r
    → third_at q (Some (third_part r (behind rest)))
    ≡ Ok (
      record q {
        stop = r.stop;
        refresh = r.refresh;
        start = r.start;
        running = r.running;
        begun = r.begun;
        launch = r.launch;
        serial = r.serial;
      },
      rest,
    )
unfolding third_at
third_reads q r rest h =
    rw (
      takes_on number r.stop h.stop,
      takes_on number r.refresh h.refresh,
      takes_on number r.start h.start,
      takes_on optional_number r.running h.running,
      takes_on optional_number r.begun h.begun,
      takes_on number r.launch h.launch,
      takes number r.serial h.serial rest,
    ) refl

-- a row that is written first in a line is read from it
pub row_reads : (r : Row) (rest : Option (List ℕ)) → IsRow r → row_at (Some (row_onto r (behind rest))) ≡ Ok (r, rest)
unfolding row_at row_onto
row_reads r rest h =
    rw (
      first_reads r (Some (second_part r (32 ∷ third_part r (behind rest)))) h.first,
      second_reads _ r (Some (third_part r (behind rest))) h.second,
      third_reads _ r rest h.third,
    ) refl

pub row_is_read : (r : Row) → IsRow r → read_row (row_text r) ≡ Ok r
unfolding read_row
row_is_read r h = rw (row_reads r None h) refl

-- ---- rows: read was written

pub record IsFirstOf (s : Option (List ℕ)) (r : Row) (rest : Option (List ℕ)) : Type 0 where
  pub line : s ≡ Some (first_part r (behind rest))
  pub inside : IsFirst r

first_found : (s : Option (List ℕ)) (r : Row) (rest : Option (List ℕ)) → first_at s ≡ Ok (r, rest) → IsFirstOf s r rest
unfolding first_at
first_found s r rest h =
    let a = bind_ok (next_field read_short s) _ _ h in
    let b = bind_ok (next_field read_count a.0.1) _ _ a.2 in
    let c = bind_ok (next_field read_state b.0.1) _ _ b.2 in
    let d = bind_ok (next_field (read_optional read_state) c.0.1) _ _ c.2 in
    let e = bind_ok (next_field (read_optional read_count) d.0.1) _ _ d.2 in
    let f = bind_ok (next_field (read_optional read_count) e.0.1) _ _ e.2 in
    let g = bind_ok (next_field read_count f.0.1) _ _ f.2 in
    let ta = took name s a.0.0 a.0.1 a.1 in
    let tb = took number a.0.1 b.0.0 b.0.1 b.1 in
    let tc = took state b.0.1 c.0.0 c.0.1 c.1 in
    let td = took optional_state c.0.1 d.0.0 d.0.1 d.1 in
    let te = took optional_number d.0.1 e.0.0 e.0.1 e.1 in
    let tf = took optional_number e.0.1 f.0.0 f.0.1 f.1 in
    let tg = took number f.0.1 g.0.0 g.0.1 g.1 in
    let made : Row =
    record (fresh a.0.0) {
      number = b.0.0;
      state = c.0.0;
      next = d.0.0;
      live = e.0.0;
      side = f.0.0;
      last = g.0.0;
    } in
    let line : s ≡ Some (first_part made (behind g.0.1)) =
    joined _ _ _ _ ta.line
    (joined _ _ _ _ tb.line
    (joined _ _ _ _ tc.line
    (joined _ _ _ _ td.line
    (joined _ _ _ _ te.line
    (joined _ _ _ _ tf.line tg.line))))) in
    let is : ◌≡◌ {A = Row × Option (List ℕ)} (made, g.0.1) (r, rest) = ok_is _ _ g.2 in
    let found : IsFirstOf s made g.0.1 =
    record {
      line = line;
      inside = record {
        owner = ta.inside;
        number = tb.inside;
        live = te.inside;
        side = tf.inside;
        last = tg.inside;
      };
    } in
    subst (λ (x : Row × Option (List ℕ)). IsFirstOf s x.0 x.1) is found

pub record IsSecondOf (q : Row) (s : Option (List ℕ)) (r : Row) (rest : Option (List ℕ)) : Type 0 where
  pub line : s ≡ Some (second_part r (behind rest))
  pub inside : IsSecond r
  pub keeps : (tail : List ℕ) → first_part r tail ≡ first_part q tail

second_found : (q : Row) (s : Option (List ℕ)) (r : Row) (rest : Option (List ℕ)) → second_at q s ≡ Ok (r, rest)
    → IsSecondOf q s r rest
unfolding second_at
second_found q s r rest h =
    let a = bind_ok (next_field read_count s) _ _ h in
    let b = bind_ok (next_field read_asks a.0.1) _ _ a.2 in
    let c = bind_ok (next_field (read_optional read_cause) b.0.1) _ _ b.2 in
    let d = bind_ok (next_field read_duration c.0.1) _ _ c.2 in
    let e = bind_ok (next_field read_ignore d.0.1) _ _ d.2 in
    let f = bind_ok (next_field read_count e.0.1) _ _ e.2 in
    let g = bind_ok (next_field read_count f.0.1) _ _ f.2 in
    let ta = took number s a.0.0 a.0.1 a.1 in
    let tb = took asks a.0.1 b.0.0 b.0.1 b.1 in
    let tc = took optional_cause b.0.1 c.0.0 c.0.1 c.1 in
    let td = took duration c.0.1 d.0.0 d.0.1 d.1 in
    let te = took ignore d.0.1 e.0.0 e.0.1 e.1 in
    let tf = took number e.0.1 f.0.0 f.0.1 f.1 in
    let tg = took number f.0.1 g.0.0 g.0.1 g.1 in
    let made : Row =
    record q {
      failed = a.0.0;
      asks = b.0.0;
      cause = c.0.0;
      duration = d.0.0;
      ignore = e.0.0;
      base = f.0.0;
      err = g.0.0;
    } in
    let line : s ≡ Some (second_part made (behind g.0.1)) =
    joined _ _ _ _ ta.line
    (joined _ _ _ _ tb.line
    (joined _ _ _ _ tc.line
    (joined _ _ _ _ td.line
    (joined _ _ _ _ te.line
    (joined _ _ _ _ tf.line tg.line))))) in
    let is : ◌≡◌ {A = Row × Option (List ℕ)} (made, g.0.1) (r, rest) = ok_is _ _ g.2 in
    let found : IsSecondOf q s made g.0.1 =
    record {
      line = line;
      inside = record {
        failed = ta.inside;
        asks = tb.inside;
        ignore = te.inside;
        base = tf.inside;
        err = tg.inside;
      };
      keeps = λ tail. refl;
    } in
    subst (λ (x : Row × Option (List ℕ)). IsSecondOf q s x.0 x.1) is found

pub record IsThirdOf (q : Row) (s : Option (List ℕ)) (r : Row) (rest : Option (List ℕ)) : Type 0 where
  pub line : s ≡ Some (third_part r (behind rest))
  pub inside : IsThird r
  pub keeps_first : (tail : List ℕ) → first_part r tail ≡ first_part q tail
  pub keeps_second : (tail : List ℕ) → second_part r tail ≡ second_part q tail

third_found : (q : Row) (s : Option (List ℕ)) (r : Row) (rest : Option (List ℕ)) → third_at q s ≡ Ok (r, rest)
    → IsThirdOf q s r rest
unfolding third_at
third_found q s r rest h =
    let a = bind_ok (next_field read_count s) _ _ h in
    let b = bind_ok (next_field read_count a.0.1) _ _ a.2 in
    let c = bind_ok (next_field read_count b.0.1) _ _ b.2 in
    let d = bind_ok (next_field (read_optional read_count) c.0.1) _ _ c.2 in
    let e = bind_ok (next_field (read_optional read_count) d.0.1) _ _ d.2 in
    let f = bind_ok (next_field read_count e.0.1) _ _ e.2 in
    let g = bind_ok (next_field read_count f.0.1) _ _ f.2 in
    let ta = took number s a.0.0 a.0.1 a.1 in
    let tb = took number a.0.1 b.0.0 b.0.1 b.1 in
    let tc = took number b.0.1 c.0.0 c.0.1 c.1 in
    let td = took optional_number c.0.1 d.0.0 d.0.1 d.1 in
    let te = took optional_number d.0.1 e.0.0 e.0.1 e.1 in
    let tf = took number e.0.1 f.0.0 f.0.1 f.1 in
    let tg = took number f.0.1 g.0.0 g.0.1 g.1 in
    let made : Row =
    record q {
      stop = a.0.0;
      refresh = b.0.0;
      start = c.0.0;
      running = d.0.0;
      begun = e.0.0;
      launch = f.0.0;
      serial = g.0.0;
    } in
    let line : s ≡ Some (third_part made (behind g.0.1)) =
    joined _ _ _ _ ta.line
    (joined _ _ _ _ tb.line
    (joined _ _ _ _ tc.line
    (joined _ _ _ _ td.line
    (joined _ _ _ _ te.line
    (joined _ _ _ _ tf.line tg.line))))) in
    let is : ◌≡◌ {A = Row × Option (List ℕ)} (made, g.0.1) (r, rest) = ok_is _ _ g.2 in
    let found : IsThirdOf q s made g.0.1 =
    record {
      line = line;
      inside = record {
        stop = ta.inside;
        refresh = tb.inside;
        start = tc.inside;
        running = td.inside;
        begun = te.inside;
        launch = tf.inside;
        serial = tg.inside;
      };
      keeps_first = λ tail. refl;
      keeps_second = λ tail. refl;
    } in
    subst (λ (x : Row × Option (List ℕ)). IsThirdOf q s x.0 x.1) is found

-- one part after another
parted : (s a : Option (List ℕ)) (part : List ℕ → List ℕ) (u : List ℕ) → s ≡ Some (part (behind a)) → a ≡ Some u
    → s ≡ Some (part (32 ∷ u))
parted s a part u h k = h ∙ ap (λ r. Some (part (behind r))) k

-- a row that was read from a line was written in it
pub row_found : (s : Option (List ℕ)) (r : Row) (rest : Option (List ℕ)) → row_at s ≡ Ok (r, rest)
    → s ≡ Some (row_onto r (behind rest))
unfolding row_at row_onto
row_found s r rest h =
    let a = bind_ok (first_at s) _ _ h in
    let b = bind_ok (second_at a.0.0 a.0.1) _ _ a.2 in
    let first = first_found s a.0.0 a.0.1 a.1 in
    let second = second_found a.0.0 a.0.1 b.0.0 b.0.1 b.1 in
    let third = third_found b.0.0 b.0.1 r rest b.2 in
    let tail : List ℕ = 32 ∷ third_part r (behind rest) in
    let middle : a.0.1 ≡ Some (second_part b.0.0 tail) =
    parted a.0.1 b.0.1 (second_part b.0.0) (third_part r (behind rest)) second.line third.line in
    let line : s ≡ Some (first_part a.0.0 (32 ∷ second_part b.0.0 tail)) =
    parted s a.0.1 (first_part a.0.0) (second_part b.0.0 tail) first.line middle in
    line ∙ ap Some (sym (second.keeps (32 ∷ second_part b.0.0 tail))
    ∙ sym (third.keeps_first (32 ∷ second_part b.0.0 tail))
    ∙ ap (λ l. first_part r (32 ∷ l)) (sym (third.keeps_second tail)))

row_whole : (size : ℕ) (r : Row) (m : Result (Row × Option (List ℕ)) ℕ) → whole_row size m ≡ Ok r → m ≡ Ok (r, None)
row_whole size r (Ok (q, None)) h = let is : q ≡ r = cc in ap (λ x. Ok (x, None)) is
row_whole size r (Ok (q, Some rest)) h = cc
row_whole size r (Err left) h = cc

some_is : {X : Type 0} (x y : X) → ◌≡◌ {A = Option X} (Some x) (Some y) → x ≡ y
some_is x y h = cc

pub read_is_row : (text : List ℕ) (r : Row) → read_row text ≡ Ok r → text ≡ row_text r
unfolding read_row
read_is_row text r h = some_is _ _ (row_found (Some text) r None (row_whole _ r (row_at (Some text)) h))

-- ---- steps: written is read

fields_read : (s : Step) (rest : Option (List ℕ)) → IsStep s
    → fields_at (verb_of s) (Some (fields_onto s (behind rest))) ≡ Ok (s, rest)
unfolding fields_at
fields_read (Move to) rest h = rw (takes state to tt rest) refl
fields_read (Start run snapshot d i base) rest h =
    rw (
      takes_on number run h.0,
      takes_on number snapshot h.1,
      takes_on duration d tt,
      takes_on ignore i h.2,
      takes number base h.3 rest,
    ) refl
fields_read (Stop to c run) rest h =
    rw (takes_on state to tt, takes_on cause c tt, takes optional_number run h rest) refl
fields_read (Refresh run) rest h = rw (takes optional_number run h rest) refl
fields_read (End to keep failed c) rest h =
    rw (takes_on state to tt, takes_on flag keep tt, takes_on number failed h, takes cause c tt rest) refl
fields_read (Note bits keep) rest h = rw (takes_on asks bits h, takes flag keep tt rest) refl

-- a step that is written first in a line is read from it
pub step_reads : (s : Step) (rest : Option (List ℕ)) → IsStep s
    → step_at (Some (step_onto s (behind rest))) ≡ Ok (s, rest)
unfolding step_at step_onto
step_reads s rest h = rw (takes_on verb (verb_of s) tt, fields_read s rest h) refl

pub step_is_read : (s : Step) → IsStep s → read_step (step_text s) ≡ Ok s
unfolding read_step
step_is_read s h = rw (step_reads s None h) refl

-- ---- steps: read was written

pub record IsStepOf (v : Verb) (s : Option (List ℕ)) (step : Step) (rest : Option (List ℕ)) : Type 0 where
  pub line : s ≡ Some (fields_onto step (behind rest))
  pub of : verb_of step ≡ v

moved : {v : Verb} {s : Option (List ℕ)} (made step : Step) (left rest : Option (List ℕ))
    → ◌≡◌ {A = Result (Step × Option (List ℕ)) ℕ} (Ok (made, left)) (Ok (step, rest)) → IsStepOf v s made left
    → IsStepOf v s step rest
moved {v = v} {s = s} made step left rest h found =
    subst (λ (x : Step × Option (List ℕ)). IsStepOf v s x.0 x.1)
    (ok_is {X = Step × Option (List ℕ)} (made, left) (step, rest) h) found

fields_found : (v : Verb) (s : Option (List ℕ)) (step : Step) (rest : Option (List ℕ))
    → fields_at v s ≡ Ok (step, rest) → IsStepOf v s step rest
unfolding fields_at
fields_found verbs.Move s step rest h =
    let a = bind_ok (next_field read_state s) _ _ h in
    let ta = took state s a.0.0 a.0.1 a.1 in
    moved (Move a.0.0) step a.0.1 rest a.2 (record { line = ta.line; of = refl })
fields_found verbs.Start s step rest h =
    let a = bind_ok (next_field read_count s) _ _ h in
    let b = bind_ok (next_field read_count a.0.1) _ _ a.2 in
    let c = bind_ok (next_field read_duration b.0.1) _ _ b.2 in
    let d = bind_ok (next_field read_ignore c.0.1) _ _ c.2 in
    let e = bind_ok (next_field read_count d.0.1) _ _ d.2 in
    let ta = took number s a.0.0 a.0.1 a.1 in
    let tb = took number a.0.1 b.0.0 b.0.1 b.1 in
    let tc = took duration b.0.1 c.0.0 c.0.1 c.1 in
    let td = took ignore c.0.1 d.0.0 d.0.1 d.1 in
    let te = took number d.0.1 e.0.0 e.0.1 e.1 in
    moved (Start a.0.0 b.0.0 c.0.0 d.0.0 e.0.0) step e.0.1 rest e.2
    (record {
      line = joined _ _ _ _ ta.line
          (joined _ _ _ _ tb.line
          (joined _ _ _ _ tc.line
          (joined _ _ _ _ td.line te.line)));
      of = refl;
    })
fields_found verbs.Stop s step rest h =
    let a = bind_ok (next_field read_state s) _ _ h in
    let b = bind_ok (next_field read_cause a.0.1) _ _ a.2 in
    let c = bind_ok (next_field (read_optional read_count) b.0.1) _ _ b.2 in
    let ta = took state s a.0.0 a.0.1 a.1 in
    let tb = took cause a.0.1 b.0.0 b.0.1 b.1 in
    let tc = took optional_number b.0.1 c.0.0 c.0.1 c.1 in
    moved (Stop a.0.0 b.0.0 c.0.0) step c.0.1 rest c.2
    (record {
      line = joined _ _ _ _ ta.line
          (joined _ _ _ _ tb.line tc.line);
      of = refl;
    })
fields_found verbs.Refresh s step rest h =
    let a = bind_ok (next_field (read_optional read_count) s) _ _ h in
    let ta = took optional_number s a.0.0 a.0.1 a.1 in
    moved (Refresh a.0.0) step a.0.1 rest a.2 (record { line = ta.line; of = refl })
fields_found verbs.End s step rest h =
    let a = bind_ok (next_field read_state s) _ _ h in
    let b = bind_ok (next_field read_flag a.0.1) _ _ a.2 in
    let c = bind_ok (next_field read_count b.0.1) _ _ b.2 in
    let d = bind_ok (next_field read_cause c.0.1) _ _ c.2 in
    let ta = took state s a.0.0 a.0.1 a.1 in
    let tb = took flag a.0.1 b.0.0 b.0.1 b.1 in
    let tc = took number b.0.1 c.0.0 c.0.1 c.1 in
    let td = took cause c.0.1 d.0.0 d.0.1 d.1 in
    moved (End a.0.0 b.0.0 c.0.0 d.0.0) step d.0.1 rest d.2
    (record {
      line = joined _ _ _ _ ta.line
          (joined _ _ _ _ tb.line
          (joined _ _ _ _ tc.line td.line));
      of = refl;
    })
fields_found verbs.Note s step rest h =
    let a = bind_ok (next_field read_asks s) _ _ h in
    let b = bind_ok (next_field read_flag a.0.1) _ _ a.2 in
    let ta = took asks s a.0.0 a.0.1 a.1 in
    let tb = took flag a.0.1 b.0.0 b.0.1 b.1 in
    moved (Note a.0.0 b.0.0) step b.0.1 rest b.2 (record { line = joined _ _ _ _ ta.line tb.line; of = refl })

-- a step that was read from a line was written in it
pub step_found : (s : Option (List ℕ)) (step : Step) (rest : Option (List ℕ)) → step_at s ≡ Ok (step, rest)
    → s ≡ Some (step_onto step (behind rest))
unfolding step_at step_onto
step_found s step rest h =
    let a = bind_ok (next_field read_verb s) _ _ h in
    let t = took verb s a.0.0 a.0.1 a.1 in
    let f = fields_found a.0.0 a.0.1 step rest a.2 in
    joined s a.0.1 (verb_text a.0.0) (fields_onto step (behind rest)) t.line f.line
    ∙ ap (λ v. Some (verb_text v ++ 32 ∷ fields_onto step (behind rest))) (sym f.of)

step_whole : (size : ℕ) (s : Step) (m : Result (Step × Option (List ℕ)) ℕ) → whole_step size m ≡ Ok s → m ≡ Ok (s, None)
step_whole size s (Ok (q, None)) h = let is : q ≡ s = cc in ap (λ x. Ok (x, None)) is
step_whole size s (Ok (q, Some rest)) h = cc
step_whole size s (Err left) h = cc

pub read_is_step : (text : List ℕ) (s : Step) → read_step text ≡ Ok s → text ≡ step_text s
unfolding read_step
read_is_step text s h = some_is _ _ (step_found (Some text) s None (step_whole _ s (step_at (Some text)) h))

-- ---- printed in parts

first_tail : (r : Row) (tail : List ℕ) → first_part r [] ++ tail ≡ first_part r tail
first_tail r tail = simp (append_assoc, append-nil)

second_tail : (r : Row) (tail : List ℕ) → second_part r [] ++ tail ≡ second_part r tail
second_tail r tail = simp (append_assoc, append-nil)

regrouped : (out f s t : List ℕ) → ((((out ++ f) ++ 32 ∷ []) ++ s) ++ 32 ∷ []) ++ t ≡ out ++ (f ++ 32 ∷ (s ++ 32 ∷ t))
regrouped out f s t = simp append_assoc

pub parts_printed : (r : Row) (out a b c d e : List ℕ) → a ≡ out ++ first_part r [] → b ≡ a ++ 32 ∷ []
    → c ≡ b ++ second_part r [] → d ≡ c ++ 32 ∷ [] → e ≡ d ++ third_part r [] → e ≡ out ++ row_onto r []
unfolding row_onto
parts_printed r out a b c d e p q s t u =
    let third : e ≡ ((((out ++ first_part r []) ++ 32 ∷ []) ++ second_part r []) ++ 32 ∷ []) ++ third_part r [] =
    u ∙ ap (λ x. x ++ third_part r [])
    (t ∙ ap (λ x. x ++ 32 ∷ []) (s ∙ ap (λ x. x ++ second_part r []) (q ∙ ap (λ x. x ++ 32 ∷ []) p))) in
    third ∙ regrouped out (first_part r []) (second_part r []) (third_part r [])
    ∙ ap (λ l. out ++ (first_part r [] ++ 32 ∷ l)) (second_tail r (32 ∷ third_part r []))
    ∙ ap (λ l. out ++ l) (first_tail r (32 ∷ second_part r (32 ∷ third_part r [])))

pub on_ok : {X E : Type 0} {A B : Type 0} (r : Result X E) → (A → B) → OnOk r A → OnOk r B
on_ok (Ok x) f h = f h
on_ok (Err e) f h = tt
