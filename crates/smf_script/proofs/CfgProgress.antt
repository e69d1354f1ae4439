-- How a run goes on, line by line.
use Rattle.std.proofs.Common.{◌≡◌, ◌⊎◌, ◌≤◌, ◌<◌, ℕ, ◌+◌, ◌&&◌, List, [], ◌∷◌, ◌++◌, length, take, Bool, true, false, Option, Some, None, IfSome, inl, inr, refl, sym, ap, subst, ◌∙◌, arith, append_assoc, append-nil, length-append}
use Rattle.std.proofs.KnownBytes.{Appends-nil, Appends-trans}
use Rattle.std.specs.Io.KnownBytes.{Appends}
use Rattle.smf_model.specs.Contents.{Holdings}
use Rattle.smf_lines.specs.declared.fault.ReadFault.{ReadFault}
use Rattle.smf_lines.specs.Faults.{count_after}
use Rattle.smf_lines.specs.Faults as reads
use Rattle.smf_lines.specs.Lines.{IsLine, counts_of, lines_of, text_in}
use Rattle.smf_lines.proofs.Counts.{counts_both}
use Rattle.smf_lines.proofs.Kept.{text_kept}
use Rattle.smf_lines.proofs.Loops.{at_known, past_behind}
use Rattle.smf_svccfg.specs.declared.selection.Selection.{Selection}
use Rattle.smf_svccfg.specs.declared.selection.Selection.TheVariants.{Nothing}
use Rattle.smf_script.specs.declared.cfg_fault.RunFault.{RunFault}
use Rattle.smf_script.specs.declared.cfg_fault.RunFault.TheVariants.{Lines, Repo, Output, Errors}
use Rattle.smf_script.specs.declared.cfg_output.LineEnd.{LineEnd}
use Rattle.smf_script.specs.CfgRuns.{AreAllOf, AreFirstOf, Effect, Ends, HasRun, IsCut, IsPast, IsWithin, IsWritten, Stops, start_place, effect, effect_of, effect_sequence, line_on, lines_on, max_lines, run, silent, status_of}
use Rattle.smf_script.specs.CfgLines.{Place, at}

-- ---- one line more

effect_same : (p : Place) (line next : List ℕ) → text_in line ≡ text_in next → effect p line ≡ effect p next
unfolding effect
effect_same p line next same = ap (effect_of p) same

lines_both : (e : Effect) (ls ms : List (List ℕ)) → lines_on e (ls ++ ms) ≡ lines_on (lines_on e ls) ms
unfolding lines_on
lines_both e [] ms = refl
lines_both e (l ∷ ls) ms = lines_both (line_on e l) ls ms

-- a line after one that did not end the session
line_goes : (e : Effect) (l : List ℕ) → e.end.has_ended ≡ false → line_on e l ≡ effect_sequence e (effect e.left l)
line_goes e l going = rw going refl

-- lines after the end of the session
stays : (e : Effect) (ls : List (List ℕ)) → e.end.has_ended ≡ true → lines_on e ls ≡ e
unfolding lines_on
stays e [] over = refl
stays e (l ∷ ls) over = let same : line_on e l ≡ e = rw over refl in ap (λ x. lines_on x ls) same ∙ stays e ls over

run_more : (p : Place) (ls : List (List ℕ)) (l : List ℕ) → (run p ls).end.has_ended ≡ false
    → run p (ls ++ l ∷ []) ≡ effect_sequence (run p ls) (effect (run p ls).left l)
unfolding run lines_on
run_more p ls l going = lines_both (silent p) ls (l ∷ []) ∙ line_goes (lines_on (silent p) ls) l going

run_over : (p : Place) (ls ms : List (List ℕ)) → (run p ls).end.has_ended ≡ true → run p (ls ++ ms) ≡ run p ls
unfolding run
run_over p ls ms over = lines_both (silent p) ls ms ∙ stays (lines_on (silent p) ls) ms over

-- the lines that were read of the bytes
pub record AreRead (bytes : List ℕ) (lines : List (List ℕ)) (left : Option (List ℕ)) (turns : ℕ) : Type 0 where
  pub rest : List ℕ
  pub whole : lines_of bytes ≡ lines ++ lines_of rest
  pub is_left : left ≡ Some rest
  pub counted : max_lines ≡ turns + counts_of lines

-- so far these lines were done; so many may still be read, and `ended` is whether the session ended with the last
pub record Goes (start : Place) (input left : Option (List ℕ)) (turns may : ℕ) (out_old errors_old : Option (List ℕ))
    (now : Holdings) (selection : Selection) (out_new errors_new : Option (List ℕ)) (is_fine ended : Bool)
    : Type 0 where
  pub lines : List (List ℕ)
  pub few : length lines + may ≤ max_lines
  pub known : IfSome input (λ bytes. AreRead bytes lines left turns)
  pub place : (run start lines).left ≡ at now selection
  pub over : (run start lines).end.has_ended ≡ ended
  pub out : Appends out_old out_new (run start lines).out
  pub errors : Appends errors_old errors_new (run start lines).errors
  pub flag : is_fine ≡ (run start lines).end.is_fine

all_left : (input : Option (List ℕ)) (turns : ℕ) → turns ≡ max_lines
    → IfSome input (λ bytes. AreRead bytes [] input turns)
all_left None turns e = tt
all_left (Some bytes) turns e = record { rest = bytes; whole = refl; is_left = refl; counted = omega arith }

pub goes_first : (now : Holdings) (input : Option (List ℕ)) (turns may : ℕ) (out errors : Option (List ℕ))
    → turns ≡ max_lines → may ≡ max_lines
    → Goes (start_place now) input input turns may out errors now Nothing out errors true false
unfolding run lines_on
goes_first now input turns may out errors e most =
    record {
      lines = [];
      few = omega (arith, most);
      known = all_left input turns e;
      place = refl;
      over = refl;
      out = Appends-nil out;
      errors = Appends-nil errors;
      flag = refl;
    }

-- ---- a line

-- the first of the lines that are left, or what was read of it
record IsNext (input : Option (List ℕ)) (lines : List (List ℕ)) (left : Option (List ℕ)) (turns : ℕ)
    (line next : List ℕ) : Type 0 where
  pub same : text_in line ≡ text_in next
  pub known : IfSome input (λ bytes. AreRead bytes (lines ++ next ∷ []) left turns)

read_more : (bytes : List ℕ) (lines : List (List ℕ)) (left left' : Option (List ℕ)) (turns turns' : ℕ) (line : List ℕ)
    → (r : AreRead bytes lines left turns) → IsLine (Some line) r.rest left' turns turns'
    → (next : List ℕ) × (text_in line ≡ text_in next) × AreRead bytes (lines ++ next ∷ []) left' turns'
read_more bytes lines left left' turns turns' line r (first, rest, is, keeps, is_left, counts) = (
  first,
  ap text_in keeps ∙ text_kept first,
  record {
    rest = rest;
    whole = r.whole ∙ ap (λ ls. lines ++ ls) is ∙ sym (append_assoc lines (first ∷ []) (lines_of rest));
    is_left = is_left;
    counted = omega (arith, counts_both lines (first ∷ []), r.counted, counts);
  },
)

next_line : (input left left' : Option (List ℕ)) (lines : List (List ℕ)) (turns turns' : ℕ) (line : List ℕ)
    → IfSome input (λ bytes. AreRead bytes lines left turns)
    → IfSome left (λ rest. IsLine (Some line) rest left' turns turns')
    → (next : List ℕ) × IsNext input lines left' turns' line next
next_line None left left' lines turns turns' line known l = (line, record { same = refl; known = tt })
next_line (Some bytes) left left' lines turns turns' line known l =
    let more : (next : List ℕ) × (text_in line ≡ text_in next) × AreRead bytes (lines ++ next ∷ []) left' turns' =
    read_more bytes lines left left' turns turns' line known
    (at_known _ _ _ known.is_left l) in
    (more.0, record { same = more.1; known = more.2 })

-- the run with a line that is done as another
run_next : (start here : Place) (lines : List (List ℕ)) (line next : List ℕ) → (run start lines).left ≡ here
    → (run start lines).end.has_ended ≡ false → text_in line ≡ text_in next
    → run start (lines ++ next ∷ []) ≡ effect_sequence (run start lines) (effect here line)
run_next start here lines line next place going same =
    run_more start lines next going ∙ ap (λ p. effect_sequence (run start lines) (effect p next)) place
    ∙ ap (λ e. effect_sequence (run start lines) e) (sym (effect_same here line next same))

few_more : (lines : List (List ℕ)) (next : List ℕ) (may may' : ℕ) → length lines + may ≤ max_lines → may' < may
    → length (lines ++ next ∷ []) + may' ≤ max_lines
few_more lines next may may' few fewer = omega (arith, few, fewer, length-append lines (next ∷ []))

pub goes_on : (start : Place) (input left left' : Option (List ℕ)) (turns turns' may may' : ℕ)
    (out errors : Option (List ℕ)) (now now' : Holdings) (selection selection' : Selection)
    (out1 out2 errors1 errors2 : Option (List ℕ)) (is_fine : Bool) (end : LineEnd) (line : List ℕ)
    → Goes start input left turns may out errors now selection out1 errors1 is_fine false
    → IfSome left (λ rest. IsLine (Some line) rest left' turns turns') → may' < may
    → IsWritten (effect (at now selection) line) now' selection' out1 out2 errors1 errors2 end
    → Goes start input left' turns' may' out errors now' selection' out2 errors2 (is_fine && end.is_fine) end.has_ended
goes_on start input left left' turns turns' may may' out errors now now' selection selection' out1 out2 errors1 errors2
    is_fine end line g l fewer w =
    let next : (next : List ℕ) × IsNext input g.lines left' turns' line next =
    next_line input left left' g.lines turns turns' line g.known l in
    let more : run start (g.lines ++ next.0 ∷ [])
    ≡ effect_sequence (run start g.lines) (effect (at now selection) line) =
    run_next start (at now selection) g.lines line next.0 g.place g.over next.1.same in
    record {
      lines = g.lines ++ next.0 ∷ [];
      few = few_more g.lines next.0 may may' g.few fewer;
      known = next.1.known;
      place = ap (λ e. e.left) more ∙ w.left;
      over = ap (λ e. e.end.has_ended) more ∙ ap (λ e. e.has_ended) (sym w.flag);
      out = rw more (Appends-trans out out1 out2 _ _ g.out w.out);
      errors = rw more (Appends-trans errors errors1 errors2 _ _ g.errors w.errors);
      flag = rw (more, g.flag, w.flag) refl;
    }

-- ---- the end

-- all lines were done, and they count so much
pub record AreDone (start : Place) (bytes : List ℕ) (lines : List (List ℕ)) (turns : ℕ) : Type 0 where
  pub all : AreAllOf start bytes lines
  pub counted : max_lines ≡ turns + counts_of lines

no_lines : (xs : List ℕ) → xs ≡ [] → lines_of xs ≡ []
unfolding lines_of
no_lines xs e = ap lines_of e

-- nothing is left
done_by_reader : (start : Place) (input left : Option (List ℕ)) (lines : List (List ℕ)) (turns turns' : ℕ)
    → IfSome input (λ bytes. AreRead bytes lines left turns)
    → IfSome left (λ rest. (rest ≡ []) × (turns ≡ turns'))
    → IfSome input (λ bytes. AreDone start bytes lines turns')
done_by_reader start None left lines turns turns' known l = tt
done_by_reader start (Some bytes) left lines turns turns' known l =
    let none : (known.rest ≡ []) × (turns ≡ turns') = at_known _ _ _ known.is_left l in
    record {
      all = record { behind = lines_of known.rest; whole = known.whole; all = inl (no_lines known.rest none.0) };
      counted = omega (arith, known.counted, none.1);
    }

-- the session ended with the last
done_by_session : (start : Place) (input left : Option (List ℕ)) (lines : List (List ℕ)) (turns : ℕ)
    → IfSome input (λ bytes. AreRead bytes lines left turns) → (run start lines).end.has_ended ≡ true
    → IfSome input (λ bytes. AreDone start bytes lines turns)
done_by_session start None left lines turns known over = tt
done_by_session start (Some bytes) left lines turns known over =
    record {
      all = record { behind = lines_of known.rest; whole = known.whole; all = inr over };
      counted = known.counted;
    }

all_done : (start : Place) (input : Option (List ℕ)) (lines : List (List ℕ)) (turns : ℕ)
    → IfSome input (λ bytes. AreDone start bytes lines turns) → IfSome input (λ bytes. AreAllOf start bytes lines)
all_done start None lines turns done = tt
all_done start (Some bytes) lines turns done = done.all

goes_to_end : (start : Place) (input left : Option (List ℕ)) (turns turns' may : ℕ) (out errors : Option (List ℕ))
    (now : Holdings) (selection : Selection) (out1 errors1 : Option (List ℕ)) (is_fine ended : Bool) (status : ℕ)
    → (g : Goes start input left turns may out errors now selection out1 errors1 is_fine ended)
    → IfSome input (λ bytes. AreDone start bytes g.lines turns') → status ≡ status_of is_fine
    → HasRun start input now out out1 errors errors1 status
goes_to_end start input left turns turns' may out errors now selection out1 errors1 is_fine ended status g done is =
    record {
      lines = g.lines;
      few = omega (arith, g.few);
      known = all_done start input g.lines turns' done;
      ends = record {
        held = ap (λ p. p.held) (sym g.place);
        out = g.out;
        errors = g.errors;
        exit = is ∙ ap status_of g.flag;
      };
    }

few_lines : (start : Place) (input : Option (List ℕ)) (lines : List (List ℕ))
    (turns left_turns interrupted before after : ℕ) → IfSome input (λ bytes. AreDone start bytes lines turns)
    → turns ≡ left_turns + interrupted → after ≡ count_after before interrupted
    → IfSome input (λ bytes. IsWithin start (lines_of bytes) before after)
few_lines start None lines turns left_turns interrupted before after done sum heard = tt
few_lines start (Some bytes) lines turns left_turns interrupted before after done sum heard =
    record {
      first = lines;
      behind = done.all.behind;
      whole = done.all.whole;
      all = done.all.all;
      interrupted = interrupted;
      heard = heard;
      within = omega (arith, done.counted, sum);
    }

pub ends_by_reader : (start : Place) (input left : Option (List ℕ)) (turns turns' may : ℕ)
    (out errors : Option (List ℕ)) (now : Holdings) (selection : Selection) (out1 errors1 : Option (List ℕ))
    (is_fine ended : Bool) (status : ℕ)
    → Goes start input left turns may out errors now selection out1 errors1 is_fine ended
    → IfSome left (λ rest. (rest ≡ []) × (turns ≡ turns')) → status ≡ status_of is_fine
    → HasRun start input now out out1 errors errors1 status
ends_by_reader start input left turns turns' may out errors now selection out1 errors1 is_fine ended status g l is =
    goes_to_end start input left turns turns' may out errors now selection out1 errors1 is_fine ended status g
    (done_by_reader start input left g.lines turns turns' g.known l) is

pub few_by_reader : (start : Place) (input left : Option (List ℕ)) (turns turns' may : ℕ)
    (out errors : Option (List ℕ)) (now : Holdings) (selection : Selection) (out1 errors1 : Option (List ℕ))
    (is_fine ended : Bool) (left_turns interrupted before after : ℕ)
    → Goes start input left turns may out errors now selection out1 errors1 is_fine ended
    → IfSome left (λ rest. (rest ≡ []) × (turns ≡ turns')) → turns' ≡ left_turns + interrupted
    → after ≡ count_after before interrupted → IfSome input (λ bytes. IsWithin start (lines_of bytes) before after)
few_by_reader start input left turns turns' may out errors now selection out1 errors1 is_fine ended left_turns
    interrupted before after g l sum heard =
    few_lines start input g.lines turns' left_turns interrupted before after
    (done_by_reader start input left g.lines turns turns' g.known l) sum heard

pub ends_by_session : (start : Place) (input left : Option (List ℕ)) (turns may : ℕ) (out errors : Option (List ℕ))
    (now : Holdings) (selection : Selection) (out1 errors1 : Option (List ℕ)) (is_fine ended : Bool) (status : ℕ)
    → Goes start input left turns may out errors now selection out1 errors1 is_fine ended → ended ≡ true
    → status ≡ status_of is_fine → HasRun start input now out out1 errors errors1 status
ends_by_session start input left turns may out errors now selection out1 errors1 is_fine ended status g over is =
    goes_to_end start input left turns turns may out errors now selection out1 errors1 is_fine ended status g
    (done_by_session start input left g.lines turns g.known (g.over ∙ over)) is

pub few_by_session : (start : Place) (input left : Option (List ℕ)) (turns may : ℕ) (out errors : Option (List ℕ))
    (now : Holdings) (selection : Selection) (out1 errors1 : Option (List ℕ)) (is_fine ended : Bool)
    (left_turns interrupted before after : ℕ)
    → Goes start input left turns may out errors now selection out1 errors1 is_fine ended → ended ≡ true
    → turns ≡ left_turns + interrupted → after ≡ count_after before interrupted
    → IfSome input (λ bytes. IsWithin start (lines_of bytes) before after)
few_by_session start input left turns may out errors now selection out1 errors1 is_fine ended left_turns interrupted
    before after g over sum heard =
    few_lines start input g.lines turns left_turns interrupted before after
    (done_by_session start input left g.lines turns g.known (g.over ∙ over)) sum heard

-- ---- all lines of known bytes

-- lines after the end of the session do nothing
run_all : (start : Place) (bytes : List ℕ) (lines : List (List ℕ)) → (a : AreAllOf start bytes lines)
    → run start (lines_of bytes) ≡ run start lines
run_all start bytes lines a = ap (run start) a.whole ∙ by a.behind a.all
  where
    by : (behind : List (List ℕ)) → (behind ≡ []) ⊎ ((run start lines).end.has_ended ≡ true)
        → run start (lines ++ behind) ≡ run start lines
    by behind (inl none) = ap (run start) (ap (λ ls. lines ++ ls) none ∙ append-nil lines)
    by behind (inr over) = run_over start lines behind over

pub ends_of_all : (start : Place) (input : Option (List ℕ)) (after : Holdings)
    (out_old out_new errors_old errors_new : Option (List ℕ)) (status : ℕ)
    → HasRun start input after out_old out_new errors_old errors_new status
    → IfSome input (λ bytes. Ends (run start (lines_of bytes)) after out_old out_new errors_old errors_new status)
ends_of_all start None after out_old out_new errors_old errors_new status h = tt
ends_of_all start (Some bytes) after out_old out_new errors_old errors_new status h =
    subst (λ e. Ends e after out_old out_new errors_old errors_new status) (sym (run_all start bytes h.lines h.known))
    h.ends

-- ---- faults

-- no line could be read
unread_first : (fault : ReadFault) (input left : Option (List ℕ)) (lines : List (List ℕ)) (turns : ℕ)
    → IfSome input (λ bytes. AreRead bytes lines left turns)
    → IfSome left (λ rest. reads.IsPast fault turns (counts_of (take 1 (lines_of rest))))
    → IfSome input (λ bytes. AreFirstOf (Lines fault) bytes lines)
unread_first fault None left lines turns known past = tt
unread_first fault (Some bytes) left lines turns known past =
    let next : List (List ℕ) = take 1 (lines_of known.rest) in
    record {
      behind = lines_of known.rest;
      whole = known.whole;
      past = past_behind fault max_lines turns (counts_of lines) (counts_of next) (counts_of (lines ++ next))
          known.counted (counts_both lines next)
          (at_known _ _ _ known.is_left past);
    }

pub stops_reading : (fault : ReadFault) (start : Place) (input left : Option (List ℕ)) (turns may : ℕ)
    (out errors : Option (List ℕ)) (now : Holdings) (selection : Selection) (out1 errors1 : Option (List ℕ))
    (is_fine ended : Bool)
    → Goes start input left turns may out errors now selection out1 errors1 is_fine ended
    → IfSome left (λ rest. reads.IsPast fault turns (counts_of (take 1 (lines_of rest))))
    → Stops (Lines fault) start input now out out1 errors errors1
stops_reading fault start input left turns may out errors now selection out1 errors1 is_fine ended g past =
    record {
      lines = g.lines;
      few = omega (arith, g.few);
      known = unread_first fault input left g.lines turns g.known past;
      held = ap (λ p. p.held) (sym g.place);
      out = g.out;
      errors = g.errors;
    }

-- a fault of a line
first_lines : (fault : RunFault) (input left : Option (List ℕ)) (lines : List (List ℕ)) (turns : ℕ)
    → ((count : ℕ) → IsPast fault max_lines count) → IfSome input (λ bytes. AreRead bytes lines left turns)
    → IfSome input (λ bytes. AreFirstOf fault bytes lines)
first_lines fault None left lines turns past known = tt
first_lines fault (Some bytes) left lines turns past known =
    record {
      behind = lines_of known.rest;
      whole = known.whole;
      past = past (counts_of (lines ++ take 1 (lines_of known.rest)));
    }

-- a line could not be done, or not written
pub stops_doing : (fault : RunFault) (start : Place) (input left left' : Option (List ℕ)) (turns turns' may may' : ℕ)
    (out errors : Option (List ℕ)) (now now' : Holdings) (selection : Selection)
    (out1 out2 errors1 errors2 : Option (List ℕ)) (is_fine : Bool) (line : List ℕ)
    → Goes start input left turns may out errors now selection out1 errors1 is_fine false
    → IfSome left (λ rest. IsLine (Some line) rest left' turns turns') → may' < may
    → IsCut fault (effect (at now selection) line) now now' out1 out2 errors1 errors2
    → Stops fault start input now' out out2 errors errors2
stops_doing (Repo f) start input left left' turns turns' may may' out errors now now' selection out1 out2 errors1 errors2
    is_fine line g l fewer (same, out_same, errors_same) =
    record {
      lines = g.lines;
      few = omega (arith, g.few);
      known = first_lines (Repo f) input left g.lines turns (λ count. tt) g.known;
      held = same ∙ ap (λ p. p.held) (sym g.place);
      out = subst (λ o. Appends out o (run start g.lines).out) (sym out_same) g.out;
      errors = subst (λ o. Appends errors o (run start g.lines).errors) (sym errors_same) g.errors;
    }
stops_doing (Output f) start input left left' turns turns' may may' out errors now now' selection out1 out2 errors1
    errors2 is_fine line g l fewer (held, said) =
    let next : (next : List ℕ) × IsNext input g.lines left' turns' line next =
    next_line input left left' g.lines turns turns' line g.known l in
    let more : run start (g.lines ++ next.0 ∷ [])
    ≡ effect_sequence (run start g.lines) (effect (at now selection) line) =
    run_next start (at now selection) g.lines line next.0 g.place g.over next.1.same in
    record {
      lines = g.lines ++ next.0 ∷ [];
      few = omega (arith, few_more g.lines next.0 may may' g.few fewer);
      known = first_lines (Output f) input left' (g.lines ++ next.0 ∷ []) turns' (λ count. tt) next.1.known;
      held = held ∙ ap (λ e. e.left.held) (sym more);
      out = tt;
      errors = rw more (Appends-trans errors errors1 errors2 _ _ g.errors said);
    }
stops_doing (Errors f) start input left left' turns turns' may may' out errors now now' selection out1 out2 errors1
    errors2 is_fine line g l fewer (held, said) =
    let next : (next : List ℕ) × IsNext input g.lines left' turns' line next =
    next_line input left left' g.lines turns turns' line g.known l in
    let more : run start (g.lines ++ next.0 ∷ [])
    ≡ effect_sequence (run start g.lines) (effect (at now selection) line) =
    run_next start (at now selection) g.lines line next.0 g.place g.over next.1.same in
    record {
      lines = g.lines ++ next.0 ∷ [];
      few = omega (arith, few_more g.lines next.0 may may' g.few fewer);
      known = first_lines (Errors f) input left' (g.lines ++ next.0 ∷ []) turns' (λ count. tt) next.1.known;
      held = held ∙ ap (λ e. e.left.held) (sym more);
      out = rw more (Appends-trans out out1 out2 _ _ g.out said);
      errors = tt;
    }
stops_doing (Lines f) start input left left' turns turns' may may' out errors now now' selection out1 out2 errors1
    errors2 is_fine line g l fewer cut = absurd cut
