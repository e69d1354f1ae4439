-- A step is wrong at the start of its first wrong field.
use Rattle.std.proofs.Common.{◌≡◌, ℕ, ◌-◌, List, [], ◌∷◌, ◌++◌, length, true, false, Option, Some, None, Result, Ok, Err, refl, sym, ap, ◌∙◌, subst, codes}
use Rattle.std.specs.Cmp.Lexicographic.{pointwise}
use Rattle.std.specs.Prelude.{nat_eq}
use Rattle.smf_fmri.specs.Counts.{read_count}
use Rattle.smf_fmri.proofs.Patterns.{same_text}
use Rattle.smf_state.specs.declared.fault.StepTextFault.{StepTextFault}
use Rattle.smf_state.specs.declared.fault.StepTextFault.TheVariants.{BadStep}
use Rattle.smf_state.specs.declared.step.Step.{Step}
use Rattle.smf_state.specs.declared.step.Step.TheVariants.{Move, Start, Stop, Refresh, End, Note}
use Rattle.smf_state.specs.declared.step.Verb.{Verb}
use Rattle.smf_state.specs.declared.step.Verb.TheVariants as verbs
use Rattle.smf_state.specs.Fields.{◌>>=◌, read_asks, read_flag, read_ignore, read_optional, next_field}
use Rattle.smf_state.specs.States.{read_cause, read_duration, read_state}
use Rattle.smf_state.specs.Texts.{IsStep, fields_at, read_step, read_verb, step_at, step_onto, verb_text, whole_step}
use Rattle.smf_state.proofs.Lines.{behind, bind_ok, took}
use Rattle.smf_state.proofs.Spelled.{step_found, step_reads}
use Rattle.smf_state.proofs.Words.{asks, ignore, number, optional_number, verb}
use Rattle.smf_meaning.specs.WrongFields.{AreFieldsOf, AreSpaceless, AreStepFields, IsStepFault, IsWrongField, line_of}
use Rattle.smf_meaning.proofs.Walks.{AreTested, GoesPast, Judges, Pass, StopsAt, Test, Walks, field_then, fields_of, fronted, passed_all, passes_on, readable, taken_first, walked, wrong_rest, wrong_stop}

-- ---- what each field has to be

abbrev is_verb : Verb → Test
is_verb v f = pointwise nat_eq f (verb_text v)

abbrev fields_tests : Verb → List Test
fields_tests verbs.Move = readable read_state ∷ []
fields_tests verbs.Start =
    readable read_count ∷ readable read_count ∷ readable read_duration ∷ readable read_ignore ∷ readable read_count ∷ []
fields_tests verbs.Stop = readable read_state ∷ readable read_cause ∷ readable (read_optional read_count) ∷ []
fields_tests verbs.Refresh = readable (read_optional read_count) ∷ []
fields_tests verbs.End = readable read_state ∷ readable read_flag ∷ readable read_count ∷ readable read_cause ∷ []
fields_tests verbs.Note = readable read_asks ∷ readable read_flag ∷ []

abbrev step_tests : Verb → List Test
step_tests v = is_verb v ∷ fields_tests v

fields_walk : (v : Verb) (rest : Option (List ℕ)) (fields : List (List ℕ)) → rest ≡ line_of fields
    → AreSpaceless fields → Walks (fields_tests v) fields (fields_at v rest)
unfolding fields_at
fields_walk verbs.Move rest fields e s =
    field_then read_state _ rest fields _ e s (λ a fa ea sa.
    walked (Move a.0) a.1 fa ea sa)
fields_walk verbs.Start rest fields e s =
    field_then read_count _ rest fields _ e s (λ a fa ea sa.
    field_then read_count _ a.1 fa _ ea sa (λ b fb eb sb.
    field_then read_duration _ b.1 fb _ eb sb (λ c fc ec sc.
    field_then read_ignore _ c.1 fc _ ec sc (λ d fd ed sd.
    field_then read_count _ d.1 fd _ ed sd (λ f ff ef sf.
    walked (Start a.0 b.0 c.0 d.0 f.0) f.1 ff ef sf)))))
fields_walk verbs.Stop rest fields e s =
    field_then read_state _ rest fields _ e s (λ a fa ea sa.
    field_then read_cause _ a.1 fa _ ea sa (λ b fb eb sb.
    field_then (read_optional read_count) _ b.1 fb _ eb sb (λ c fc ec sc.
    walked (Stop a.0 b.0 c.0) c.1 fc ec sc)))
fields_walk verbs.Refresh rest fields e s =
    field_then (read_optional read_count) _ rest fields _ e s (λ a fa ea sa.
    walked (Refresh a.0) a.1 fa ea sa)
fields_walk verbs.End rest fields e s =
    field_then read_state _ rest fields _ e s (λ a fa ea sa.
    field_then read_flag _ a.1 fa _ ea sa (λ b fb eb sb.
    field_then read_count _ b.1 fb _ eb sb (λ c fc ec sc.
    field_then read_cause _ c.1 fc _ ec sc (λ d fd ed sd.
    walked (End a.0 b.0 c.0 d.0) d.1 fd ed sd))))
fields_walk verbs.Note rest fields e s =
    field_then read_asks _ rest fields _ e s (λ a fa ea sa.
    field_then read_flag _ a.1 fa _ ea sa (λ b fb eb sb.
    walked (Note a.0 b.0) b.1 fb eb sb))

verb_said : (v : Verb) (f : List ℕ) → read_verb f ≡ Some v → is_verb v f ≡ true
verb_said v f e = (same_text f (verb_text v)).1 (verb.spelled f v e).0

verb_again : (v : Verb) (f : List ℕ) → is_verb v f ≡ true → read_verb f ≡ Some v
verb_again v f e = ap read_verb ((same_text f (verb_text v)).0 e) ∙ verb.reads v tt

step_walks : (v : Verb) (f : List ℕ) (fs : List (List ℕ)) → read_verb f ≡ Some v → AreSpaceless (f ∷ fs)
    → Walks (step_tests v) (f ∷ fs) (step_at (line_of (f ∷ fs)))
unfolding step_at
step_walks v f fs e s =
    let first : next_field read_verb (line_of (f ∷ fs)) ≡ Ok (v, line_of fs) = (taken_first read_verb f fs s.0).0 v e in
    let walk : Walks (step_tests v) (f ∷ fs) (fields_at v (line_of fs)) =
    fronted (is_verb v) (fields_tests v) f fs (fields_at v (line_of fs)) (verb_said v f e)
    (fields_walk v (line_of fs) fs refl s.1) in
    subst (λ (m : Result (Verb × Option (List ℕ)) ℕ). Walks (step_tests v) (f ∷ fs) (m >>= (λ w. fields_at w.0 w.1)))
    (sym first) walk

-- ---- what is read is a step

ok_is : {X E : Type 0} (x y : X) → ◌≡◌ {A = Result X E} (Ok x) (Ok y) → x ≡ y
ok_is x y h = cc

made_is : (made step : Step) (left rest : Option (List ℕ))
    → ◌≡◌ {A = Result (Step × Option (List ℕ)) ℕ} (Ok (made, left)) (Ok (step, rest)) → IsStep made → IsStep step
made_is made step left rest h inside =
    subst (λ (x : Step × Option (List ℕ)). IsStep x.0)
    (ok_is {X = Step × Option (List ℕ)} (made, left) (step, rest) h) inside

fields_inside : (v : Verb) (s : Option (List ℕ)) (step : Step) (rest : Option (List ℕ))
    → fields_at v s ≡ Ok (step, rest) → IsStep step
unfolding fields_at
fields_inside verbs.Move s step rest h =
    let a = bind_ok (next_field read_state s) _ _ h in
    made_is (Move a.0.0) step a.0.1 rest a.2 tt
fields_inside verbs.Start s step rest h =
    let a = bind_ok (next_field read_count s) _ _ h in
    let b = bind_ok (next_field read_count a.0.1) _ _ a.2 in
    let c = bind_ok (next_field read_duration b.0.1) _ _ b.2 in
    let d = bind_ok (next_field read_ignore c.0.1) _ _ c.2 in
    let e = bind_ok (next_field read_count d.0.1) _ _ d.2 in
    made_is (Start a.0.0 b.0.0 c.0.0 d.0.0 e.0.0) step e.0.1 rest e.2 (
      (took number s a.0.0 a.0.1 a.1).inside,
      (took number a.0.1 b.0.0 b.0.1 b.1).inside,
      (took ignore c.0.1 d.0.0 d.0.1 d.1).inside,
      (took number d.0.1 e.0.0 e.0.1 e.1).inside,
    )
fields_inside verbs.Stop s step rest h =
    let a = bind_ok (next_field read_state s) _ _ h in
    let b = bind_ok (next_field read_cause a.0.1) _ _ a.2 in
    let c = bind_ok (next_field (read_optional read_count) b.0.1) _ _ b.2 in
    made_is (Stop a.0.0 b.0.0 c.0.0) step c.0.1 rest c.2 (took optional_number b.0.1 c.0.0 c.0.1 c.1).inside
fields_inside verbs.Refresh s step rest h =
    let a = bind_ok (next_field (read_optional read_count) s) _ _ h in
    made_is (Refresh a.0.0) step a.0.1 rest a.2 (took optional_number s a.0.0 a.0.1 a.1).inside
fields_inside verbs.End s step rest h =
    let a = bind_ok (next_field read_state s) _ _ h in
    let b = bind_ok (next_field read_flag a.0.1) _ _ a.2 in
    let c = bind_ok (next_field read_count b.0.1) _ _ b.2 in
    let d = bind_ok (next_field read_cause c.0.1) _ _ c.2 in
    made_is (End a.0.0 b.0.0 c.0.0 d.0.0) step d.0.1 rest d.2 (took number b.0.1 c.0.0 c.0.1 c.1).inside
fields_inside verbs.Note s step rest h =
    let a = bind_ok (next_field read_asks s) _ _ h in
    let b = bind_ok (next_field read_flag a.0.1) _ _ a.2 in
    made_is (Note a.0.0 b.0.0) step b.0.1 rest b.2 (took asks s a.0.0 a.0.1 a.1).inside

step_inside : (s : Option (List ℕ)) (step : Step) (rest : Option (List ℕ)) → step_at s ≡ Ok (step, rest) → IsStep step
unfolding step_at
step_inside s step rest h =
    let a = bind_ok (next_field read_verb s) _ _ h in
    fields_inside a.0.0 a.0.1 step rest a.2

-- ---- steps and their fields

step_good : (v : Verb) (fields : List (List ℕ)) → Pass (step_tests v) fields → AreSpaceless fields
    → AreStepFields fields
step_good v [] p s = absurd p
step_good v (f ∷ fs) p s =
    let read = passes_on (step_tests v) (f ∷ fs) (step_at (line_of (f ∷ fs))) p
    (step_walks v f fs (verb_again v f p.0) s) in
    let line : line_of (f ∷ fs) ≡ Some (step_onto read.0 (behind None)) =
    step_found (line_of (f ∷ fs)) read.0 None read.1 in
    (read.0, step_inside (line_of (f ∷ fs)) read.0 None read.1, record { line = line; spaceless = s })

step_read : (fields : List (List ℕ)) → (g : AreStepFields fields) → step_at (line_of fields) ≡ Ok (g.0, None)
step_read fields g = ap step_at g.2.line ∙ step_reads g.0 None g.1

good_step : (v : Verb) (f : List ℕ) (fs : List (List ℕ)) → read_verb f ≡ Some v → AreStepFields (f ∷ fs)
    → Pass (step_tests v) (f ∷ fs)
good_step v f fs e g =
    passed_all (step_tests v) (f ∷ fs) (step_at (line_of (f ∷ fs))) g.0 (step_read (f ∷ fs) g)
    (step_walks v f fs e g.2.spaceless)

abbrev zero_text : List ℕ
zero_text = codes "0"

abbrev none_text : List ℕ
none_text = codes "-"

abbrev example_fields : Verb → List (List ℕ)
example_fields verbs.Move = codes "disabled" ∷ []
example_fields verbs.Start = zero_text ∷ zero_text ∷ codes "contract" ∷ zero_text ∷ zero_text ∷ []
example_fields verbs.Stop = codes "disabled" ∷ codes "admin" ∷ none_text ∷ []
example_fields verbs.Refresh = none_text ∷ []
example_fields verbs.End = codes "disabled" ∷ zero_text ∷ zero_text ∷ codes "admin" ∷ []
example_fields verbs.Note = zero_text ∷ zero_text ∷ []

abbrev example : Verb → List (List ℕ)
example v = verb_text v ∷ example_fields v

counted : readable read_count zero_text ≡ true
unfolding read_count
counted = refl

asked : readable read_asks zero_text ≡ true
unfolding read_count
asked = refl

ignored : readable read_ignore zero_text ≡ true
unfolding read_count
ignored = refl

fields_pass : (v : Verb) → Pass (fields_tests v) (example_fields v)
fields_pass verbs.Move = (refl, tt)
fields_pass verbs.Start = (counted, (counted, (refl, (ignored, (counted, tt)))))
fields_pass verbs.Stop = (refl, (refl, (refl, tt)))
fields_pass verbs.Refresh = (refl, tt)
fields_pass verbs.End = (refl, (refl, (counted, (refl, tt))))
fields_pass verbs.Note = (asked, (refl, tt))

fields_spaceless : (v : Verb) → AreSpaceless (example_fields v)
fields_spaceless verbs.Move = (refl, tt)
fields_spaceless verbs.Start = (refl, (refl, (refl, (refl, (refl, tt)))))
fields_spaceless verbs.Stop = (refl, (refl, (refl, tt)))
fields_spaceless verbs.Refresh = (refl, tt)
fields_spaceless verbs.End = (refl, (refl, (refl, (refl, tt))))
fields_spaceless verbs.Note = (refl, (refl, tt))

judges : (v : Verb) → Judges (step_tests v) AreStepFields (example v)
judges v =
    record {
      good = step_good v;
      example_passes = ((same_text (verb_text v) (verb_text v)).1 refl, fields_pass v);
      example_spaceless = (verb.spaceless v tt, fields_spaceless v);
    }

-- ---- faults

fault_is : (place : ℕ) (fault : StepTextFault) (text : List ℕ)
    → ◌≡◌ {A = Result Step StepTextFault} (Err (BadStep place)) (Err fault) → IsWrongField AreStepFields text place
    → IsStepFault text fault
fault_is place fault text e w = let same : BadStep place ≡ fault = cc in subst (IsStepFault text) same w

-- fields whose first is a verb
tested : (v : Verb) (f : List ℕ) (fs before after : List (List ℕ)) → read_verb f ≡ Some v → f ∷ fs ≡ before ++ after
    → (before ≡ [] → ⊥) → AreTested (step_tests v) AreStepFields before
tested v f fs [] after e split some = absurd (some refl)
tested v f fs (b ∷ bs) after e split some =
    let same : f ≡ b = cc in
    λ rest g. good_step v b (bs ++ rest) (ap read_verb (sym same) ∙ e) g

-- a verb that was read is no field that stops a reader
not_first : (v : Verb) (f : List ℕ) (fs : List (List ℕ)) (left : ℕ) → read_verb f ≡ Some v
    → (w : StopsAt (step_tests v) (f ∷ fs) left) → w.before ≡ [] → ⊥
not_first v f fs left e w none =
    by w.done w.next w.more w.after w.tests_are (subst (Pass w.done) none w.passed)
    (w.split ∙ ap (λ (l : List (List ℕ)). l ++ w.after) none) w.fails
  where
    by : (done : List Test) (next : Test) (more : List Test) (after : List (List ℕ))
        → step_tests v ≡ done ++ next ∷ more → Pass done []
        → f ∷ fs ≡ after → Rattle.smf_meaning.proofs.Walks.Fails next after → ⊥
    by [] next more after t p s fails =
        let first : is_verb v ≡ next = cc in
        let no_verb : next f ≡ false =
        subst (λ (l : List (List ℕ)). Rattle.smf_meaning.proofs.Walks.Fails next l) (sym s) fails in
        let is : is_verb v f ≡ true = verb_said v f e in
        let clash : true ≡ false = sym is ∙ ap (λ (t : Test). t f) first ∙ no_verb in
        cc
    by (d ∷ ds) next more after t p s fails = p

gone_past : (v : Verb) (fields : List (List ℕ)) (rest : Option (List ℕ)) → (w : GoesPast (step_tests v) fields rest)
    → w.before ≡ [] → ⊥
gone_past v fields rest w none = subst (Pass (step_tests v)) none w.passed

of_verb : (v : Verb) (text f : List ℕ) (fs : List (List ℕ)) (r : Result (Step × Option (List ℕ)) ℕ)
    (fault : StepTextFault) → read_verb f ≡ Some v → AreFieldsOf text (f ∷ fs)
    → Walks (step_tests v) (f ∷ fs) r → whole_step (length text) r ≡ Err fault → IsStepFault text fault
of_verb v text f fs (Ok (step, None)) fault e are w h = absurd cc
of_verb v text f fs (Ok (step, Some rest)) fault e are w h =
    fault_is (length text - length rest) fault text h
    (wrong_rest (step_tests v) AreStepFields (example v) text (f ∷ fs) rest (judges v) are w
    (tested v f fs w.before w.after e w.split (gone_past v (f ∷ fs) (Some rest) w)))
of_verb v text f fs (Err left) fault e are w h =
    fault_is (length text - left) fault text h
    (wrong_stop (step_tests v) AreStepFields (example v) text (f ∷ fs) left (judges v) are w
    (tested v f fs w.before w.after e w.split (not_first v f fs left e w)))

-- fields whose first is none
no_step : (f : List ℕ) (fs : List (List ℕ)) → read_verb f ≡ None → AreSpaceless (f ∷ fs)
    → (x : Step × Option (List ℕ)) → step_at (line_of (f ∷ fs)) ≡ Ok x → ⊥
unfolding step_at
no_step f fs e s x h =
    let a = bind_ok (next_field read_verb (line_of (f ∷ fs))) _ _ h in
    let none = (taken_first read_verb f fs s.0).1 e in
    let clash : Err (Rattle.smf_state.specs.Fields.left_of (line_of (f ∷ fs))) ≡ Ok a.0 = sym none ∙ a.1 in
    cc

of_none : (text f : List ℕ) (fs : List (List ℕ)) (fault : StepTextFault) → read_verb f ≡ None
    → AreFieldsOf text (f ∷ fs)
    → whole_step (length text) (step_at (Some text)) ≡ Err fault → IsStepFault text fault
unfolding step_at
of_none text f fs fault e are h =
    let none : next_field read_verb (Some text) ≡ Err (length text) =
    ap (next_field read_verb) (sym are.line) ∙ (taken_first read_verb f fs are.spaceless.0).1 e
    ∙ ap (λ o. Err (Rattle.smf_state.specs.Fields.left_of o)) are.line in
    let at : ◌≡◌ {A = Result Step StepTextFault} (Err (BadStep (length text - length text))) (Err fault) =
    sym (ap (λ (m : Result (Verb × Option (List ℕ)) ℕ). whole_step (length text) (m >>= (λ w. fields_at w.0 w.1)))
    none) ∙ h in
    fault_is (length text - length text) fault text at
    (record {
      fields = f ∷ fs;
      are_fields = are;
      before = [];
      after = f ∷ fs;
      first = record {
        split = refl;
        ending = example verbs.Move;
        goes_on = step_good verbs.Move (example verbs.Move) (judges verbs.Move).example_passes
            (judges verbs.Move).example_spaceless;
        stops = λ rest g. no_step f rest e g.2.spaceless (g.0, None) (step_read (f ∷ rest) g);
      };
      front = [];
      split = some_is (sym are.line);
      place_is = omega Rattle.std.proofs.Common.arith;
    })
  where
    some_is : {x y : List ℕ} → Some x ≡ Some y → x ≡ y
    some_is e = cc

step_by : (o : Option Verb) (text f : List ℕ) (fs : List (List ℕ)) (fault : StepTextFault) → read_verb f ≡ o
    → AreFieldsOf text (f ∷ fs)
    → whole_step (length text) (step_at (Some text)) ≡ Err fault → IsStepFault text fault
step_by None text f fs fault e are h = of_none text f fs fault e are h
step_by (Some v) text f fs fault e are h =
    let walks : Walks (step_tests v) (f ∷ fs) (step_at (Some text)) =
    subst (λ o. Walks (step_tests v) (f ∷ fs) (step_at o)) are.line (step_walks v f fs e are.spaceless) in
    of_verb v text f fs (step_at (Some text)) fault e are walks h

pub step_fault : (text : List ℕ) (fault : StepTextFault) → read_step text ≡ Err fault → IsStepFault text fault
unfolding read_step
step_fault text fault e =
    let f = fields_of text in
    step_by (read_verb f.0) text f.0 f.1 fault refl f.2 e
