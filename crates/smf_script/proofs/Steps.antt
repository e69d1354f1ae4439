-- How a script goes on, line by line.
use Rattle.std.proofs.Common.{◌≡◌, inr, ℕ, ◌+◌, ◌&&◌, List, [], ◌∷◌, ◌++◌, take, Bool, true, Option, Some, None, IfSome, refl, sym, ap, subst, ◌∙◌, arith, append_assoc, append-nil}
use Rattle.std.proofs.KnownBytes.{Appends-nil, Appends-trans}
use Rattle.std.specs.Io.KnownBytes.{Appends}
use Rattle.std_io.specs.declared.io.error.Error.{Error}
use Rattle.smf_edge.specs.Answers.{Skills, Seen}
use Rattle.smf_lines.specs.declared.fault.ReadFault.{ReadFault}
use Rattle.smf_lines.specs.Faults.{count_after}
use Rattle.smf_lines.specs.Faults as reads
use Rattle.smf_lines.specs.Lines.{IsLine, counts_of, front_of_line, lines_of}
use Rattle.smf_lines.proofs.Counts.{counts_both}
use Rattle.smf_lines.proofs.Kept.{text_kept}
use Rattle.smf_lines.proofs.Loops.{past_behind}
use Rattle.smf_model.specs.declared.journal.RepoFault.{RepoFault}
use Rattle.smf_node.specs.declared.fault.NodeFault.{NodeFault}
use Rattle.smf_script.specs.LineFailures.{LineFails}
use Rattle.smf_script.specs.Lines.{HasDone, effect}
use Rattle.smf_script.specs.ScriptRuns.{HasRun, HasWritten, IsCut, IsSplit, Runs, Stops}
use Rattle.smf_script.specs.declared.fault.ScriptFault.{ScriptFault}
use Rattle.smf_script.specs.declared.fault.ScriptFault.TheVariants.{Node, Lines, Output}
use Rattle.smf_script.specs.Requests.{request_in, request_of}
use Rattle.smf_script.specs.Script.{IsWithin, first_session, effect_of_both, max_lines, silent, status_of}
use Rattle.smf_script.specs.Session.{Effect, Session}
use Rattle.smf_svccfg.specs.declared.selection.Selection.{Selection}
use Rattle.smf_svccfg.specs.declared.selection.Selection.TheVariants.{Nothing}
use Rattle.smf_world.specs.Schedule.{Progress}

-- ---- what is kept of a line asks for what the line asks for

request_kept : (line : List ℕ) → request_of (front_of_line line) ≡ request_of line
unfolding request_of
request_kept line = ap request_in (text_kept line)

asked_same : (line first : List ℕ) → line ≡ front_of_line first → request_of line ≡ request_of first
asked_same line first is = ap request_of is ∙ request_kept first

-- ---- one line more

runs_more : (k : Skills) (ls : List (List ℕ)) (line : List ℕ) (before e one : Effect) (old mid new : Seen)
    → Runs k ls before old mid e → HasDone k (request_of line) e.session mid new one
    → Runs k (ls ++ line ∷ []) before old new (effect_of_both e one)
runs_more k [] line before e one old mid new (is, same) d =
    let from : HasDone k (request_of line) before.session mid new one =
    subst (λ (x : Effect). HasDone k (request_of line) x.session mid new one) is d in
    let done : HasDone k (request_of line) before.session old new one =
    subst (λ x. HasDone k (request_of line) before.session x new one) same from in
    (one, new, done, (ap (λ x. effect_of_both x one) is, refl))
runs_more k (l ∷ ls) line before e one old mid new (first, next, d, more) done =
    (first, next, d, runs_more k ls line (effect_of_both before first) e one next mid new more done)

-- the lines that were read of the bytes
pub record AreRead (bytes : List ℕ) (lines : List (List ℕ)) (left : Option (List ℕ)) (turns : ℕ) : Type 0 where
  pub rest : List ℕ
  pub whole : lines_of bytes ≡ lines ++ lines_of rest
  pub is_left : left ≡ Some rest
  pub counted : max_lines ≡ turns + counts_of lines

-- so far: these lines were done
pub record Goes (k : Skills) (start : Session) (input left : Option (List ℕ)) (turns : ℕ) (old now : Seen)
    (was is : Option (List ℕ)) (progress : Progress) (selection : Selection) (fine : Bool) : Type 0 where
  pub lines : List (List ℕ)
  pub effect : Effect
  pub ran : Runs k lines (silent start) old now effect
  pub known : IfSome input (λ bytes. AreRead bytes lines left turns)
  pub session : effect.session ≡ record { progress = progress; selection = selection }
  pub text : Appends was is effect.text
  pub flag : fine ≡ effect.fine

all_left : (input : Option (List ℕ)) (turns : ℕ) → turns ≡ max_lines
    → IfSome input (λ bytes. AreRead bytes [] input turns)
all_left None turns e = tt
all_left (Some bytes) turns e = record { rest = bytes; whole = refl; is_left = refl; counted = omega arith }

pub goes_first : (k : Skills) (p : Progress) (input : Option (List ℕ)) (turns : ℕ) (old : Seen)
    (was : Option (List ℕ)) → turns ≡ max_lines
    → Goes k (first_session p) input input turns old old was was p Nothing true
goes_first k p input turns old was e =
    record {
      lines = [];
      effect = silent (first_session p);
      ran = (refl, refl);
      known = all_left input turns e;
      session = refl;
      text = Appends-nil was;
      flag = refl;
    }

-- the result of a read of known bytes, at those that are left
at_left : (bytes : List ℕ) (lines : List (List ℕ)) (left : Option (List ℕ)) (turns : ℕ) (P : List ℕ → Type 0)
    → (r : AreRead bytes lines left turns) → IfSome left P → P r.rest
at_left bytes lines None turns P r h = absurd (cc)
at_left bytes lines (Some xs) turns P r h = let same : xs ≡ r.rest = cc in subst P same h

-- ---- a line

-- the first of the lines that are left, or what was read of it
pub record IsNext (input : Option (List ℕ)) (lines : List (List ℕ)) (left : Option (List ℕ)) (turns : ℕ)
    (line next : List ℕ) : Type 0 where
  pub same : request_of line ≡ request_of next
  pub known : IfSome input (λ bytes. AreRead bytes (lines ++ next ∷ []) left turns)

read_more : (bytes : List ℕ) (lines : List (List ℕ)) (left left' : Option (List ℕ)) (turns turns' : ℕ) (line : List ℕ)
    → (r : AreRead bytes lines left turns) → IsLine (Some line) r.rest left' turns turns'
    → (first : List ℕ) × (request_of line ≡ request_of first) × AreRead bytes (lines ++ first ∷ []) left' turns'
read_more bytes lines left left' turns turns' line r (first, rest, is, keeps, is_left, count_after) = (
  first,
  asked_same line first keeps,
  record {
    rest = rest;
    whole = r.whole ∙ ap (λ ls. lines ++ ls) is ∙ sym (append_assoc lines (first ∷ []) (lines_of rest));
    is_left = is_left;
    counted = omega (arith, counts_both lines (first ∷ []), r.counted, count_after);
  },
)

next_line : (input left left' : Option (List ℕ)) (lines : List (List ℕ)) (turns turns' : ℕ) (line : List ℕ)
    → IfSome input (λ bytes. AreRead bytes lines left turns)
    → IfSome left (λ rest. IsLine (Some line) rest left' turns turns')
    → (next : List ℕ) × IsNext input lines left' turns' line next
next_line None left left' lines turns turns' line known l = (line, record { same = refl; known = tt })
next_line (Some bytes) left left' lines turns turns' line known l =
    let more : (first : List ℕ) × (request_of line ≡ request_of first)
    × AreRead bytes (lines ++ first ∷ []) left' turns' =
    read_more bytes lines left left' turns turns' line known
    (at_left bytes lines left turns (λ rest. IsLine (Some line) rest left' turns turns') known l) in
    (more.0, record { same = more.1; known = more.2 })

pub goes_on : (k : Skills) (start : Session) (input left left' : Option (List ℕ)) (turns turns' : ℕ)
    (old now new : Seen) (was mid is : Option (List ℕ)) (p q : Progress) (x y : Selection) (fine did : Bool)
    (line : List ℕ)
    → Goes k start input left turns old now was mid p x fine
    → IfSome left (λ rest. IsLine (Some line) rest left' turns turns')
    → HasWritten k line (record { progress = p; selection = x })
    (record { progress = q; selection = y }) now new mid is did
    → Goes k start input left' turns' old new was is q y (fine && did)
goes_on k start input left left' turns turns' old now new was mid is p q x y fine did line g l w =
    let next : (next : List ℕ) × IsNext input g.lines left' turns' line next =
    next_line input left left' g.lines turns turns' line g.known l in
    let one : Effect = effect (record { progress = q; selection = y }) did w.text in
    let done : HasDone k (request_of next.0) g.effect.session now new one =
    subst (λ r. HasDone k r g.effect.session now new one) next.1.same
    (subst (λ s. HasDone k (request_of line) s now new one) (sym g.session) w.did) in
    record {
      lines = g.lines ++ next.0 ∷ [];
      effect = effect_of_both g.effect one;
      ran = runs_more k g.lines next.0 (silent start) g.effect one old now new g.ran done;
      known = next.1.known;
      session = refl;
      text = Appends-trans was mid is g.effect.text w.text g.text w.put;
      flag = ap (λ b. b && did) g.flag;
    }

-- ---- the end

all_read : (input left : Option (List ℕ)) (lines : List (List ℕ)) (turns turns' : ℕ)
    → IfSome input (λ bytes. AreRead bytes lines left turns)
    → IfSome left (λ rest. (rest ≡ []) × (turns ≡ turns')) → IfSome input (λ bytes. lines ≡ lines_of bytes)
unfolding lines_of
all_read None left lines turns turns' known l = tt
all_read (Some bytes) left lines turns turns' known l =
    let none : known.rest ≡ [] = (at_left bytes lines left turns (λ rest. (rest ≡ []) × (turns ≡ turns')) known l).0 in
    sym (known.whole ∙ ap (λ xs. lines ++ lines_of xs) none ∙ append-nil lines)

pub goes_to_end : (k : Skills) (start : Session) (input left : Option (List ℕ)) (turns turns' : ℕ) (old now : Seen)
    (was is : Option (List ℕ)) (p : Progress) (x : Selection) (fine : Bool) (status : ℕ)
    → Goes k start input left turns old now was is p x fine → IfSome left (λ rest. (rest ≡ []) × (turns ≡ turns'))
    → status ≡ status_of fine
    → HasRun k start input old now p was is status
goes_to_end k start input left turns turns' old now was is p x fine status g l exit =
    record {
      lines = g.lines;
      effect = g.effect;
      ran = g.ran;
      known = all_read input left g.lines turns turns' g.known l;
      ends = record { node = ap (λ s. s.progress) (sym g.session); text = g.text; exit = exit ∙ ap status_of g.flag };
    }

pub few_lines : (k : Skills) (start : Session) (input left : Option (List ℕ))
    (turns turns' left_turns interrupted : ℕ) (old now : Seen) (was is : Option (List ℕ)) (p : Progress)
    (x : Selection) (fine : Bool) (before after : ℕ)
    → Goes k start input left turns old now was is p x fine → IfSome left (λ rest. (rest ≡ []) × (turns ≡ turns'))
    → turns' ≡ left_turns + interrupted → after ≡ count_after before interrupted
    → IfSome input (λ bytes. IsWithin (lines_of bytes) before after)
unfolding lines_of
few_lines k start None left turns turns' left_turns interrupted old now was is p x fine before after g l sum heard = tt
few_lines k start (Some bytes) left turns turns' left_turns interrupted old now was is p x fine before after g l sum
    heard =
    let at_end : (g.known.rest ≡ []) × (turns ≡ turns') =
    at_left bytes g.lines left turns (λ rest. (rest ≡ []) × (turns ≡ turns')) g.known l in
    let all : lines_of bytes ≡ g.lines = g.known.whole ∙ ap (λ xs. g.lines ++ lines_of xs) at_end.0
    ∙ append-nil g.lines in
    record { interrupted = interrupted; heard = heard; within = rw all (omega (arith, g.known.counted, sum, at_end.1)) }

-- ---- faults

-- no line could be read
unread_split : (input left : Option (List ℕ)) (lines : List (List ℕ)) (turns : ℕ) (fault : ReadFault)
    → IfSome input (λ bytes. AreRead bytes lines left turns)
    → IfSome left (λ rest. reads.IsPast fault turns (counts_of (take 1 (lines_of rest))))
    → (behind : List (List ℕ)) × IfSome input (λ bytes. IsSplit bytes lines behind (Lines fault))
unread_split None left lines turns fault known past = ([], tt)
unread_split (Some bytes) left lines turns fault known past =
    let next : List (List ℕ) = take 1 (lines_of known.rest) in
    let here : reads.IsPast fault turns (counts_of next) =
    at_left bytes lines left turns (λ rest. reads.IsPast fault turns (counts_of (take 1 (lines_of rest)))) known
    past in (
      lines_of known.rest,
      record {
        whole = known.whole;
        past = past_behind fault max_lines turns (counts_of lines) (counts_of next)
            (counts_of (lines ++ next)) known.counted (counts_both lines next) here;
      },
    )

pub stops_reading : (k : Skills) (stores : RepoFault → Type 0) (fault : ReadFault) (start : Session)
    (input left : Option (List ℕ)) (turns : ℕ) (old now : Seen) (was is : Option (List ℕ)) (p : Progress)
    (x : Selection) (fine : Bool)
    → Goes k start input left turns old now was is p x fine
    → IfSome left (λ rest. reads.IsPast fault turns (counts_of (take 1 (lines_of rest))))
    → Stops k stores (Lines fault) start input old now p was is
stops_reading k stores fault start input left turns old now was is p x fine g past =
    let split : (behind : List (List ℕ)) × IfSome input (λ bytes. IsSplit bytes g.lines behind (Lines fault)) =
    unread_split input left g.lines turns fault g.known past in
    record {
      lines = g.lines;
      behind = split.0;
      effect = g.effect;
      mid = now;
      ran = g.ran;
      left = (ap (λ s. s.progress) (sym g.session), refl);
      text = g.text;
      known = split.1;
    }

-- a line could not be done, or not written
split_more : (bytes : List ℕ) (lines : List (List ℕ)) (next : List ℕ) (left : Option (List ℕ)) (turns : ℕ)
    (fault : NodeFault) → (r : AreRead bytes (lines ++ next ∷ []) left turns)
    → IsSplit bytes lines (next ∷ lines_of r.rest) (Node fault)
split_more bytes lines next left turns fault r =
    record { whole = r.whole ∙ append_assoc lines (next ∷ []) (lines_of r.rest); past = tt }

cut_split : (input left : Option (List ℕ)) (lines : List (List ℕ)) (next : List ℕ) (turns : ℕ) (fault : NodeFault)
    → IfSome input (λ bytes. AreRead bytes (lines ++ next ∷ []) left turns)
    → (rest : List (List ℕ)) × IfSome input (λ bytes. IsSplit bytes lines (next ∷ rest) (Node fault))
cut_split None left lines next turns fault known = ([], tt)
cut_split (Some bytes) left lines next turns fault known =
    (lines_of known.rest, split_more bytes lines next left turns fault known)

written_split : (input left : Option (List ℕ)) (lines : List (List ℕ)) (turns : ℕ) (fault : Error)
    → IfSome input (λ bytes. AreRead bytes lines left turns)
    → (rest : List (List ℕ)) × IfSome input (λ bytes. IsSplit bytes lines rest (Output fault))
written_split None left lines turns fault known = ([], tt)
written_split (Some bytes) left lines turns fault known =
    (lines_of known.rest, record { whole = known.whole; past = tt })

pub stops_doing : (k : Skills) (stores : RepoFault → Type 0) (fault : ScriptFault) (start : Session)
    (input left left' : Option (List ℕ)) (turns turns' : ℕ) (old now new : Seen) (was mid is : Option (List ℕ))
    (p q : Progress) (x : Selection) (fine : Bool) (line : List ℕ)
    → Goes k start input left turns old now was mid p x fine
    → IfSome left (λ rest. IsLine (Some line) rest left' turns turns')
    → IsCut k stores fault line (record { progress = p; selection = x }) now new q mid is
    → Stops k stores fault start input old new q was is
stops_doing k stores (Node f) start input left left' turns turns' old now new was mid is p q x fine line g l cut =
    let next : (next : List ℕ) × IsNext input g.lines left' turns' line next =
    next_line input left left' g.lines turns turns' line g.known l in
    let split : (rest : List (List ℕ)) × IfSome input (λ bytes. IsSplit bytes g.lines (next.0 ∷ rest) (Node f)) =
    cut_split input left' g.lines next.0 turns' f next.1.known in
    let fails : LineFails k stores (request_of next.0) g.effect.session now new q f =
    subst (λ r. LineFails k stores r g.effect.session now new q f) next.1.same
    (subst (λ s. LineFails k stores (request_of line) s now new q f) (sym g.session) cut.0) in
    record {
      lines = g.lines;
      behind = next.0 ∷ split.0;
      effect = g.effect;
      mid = now;
      ran = g.ran;
      left = inr (next.0, split.0, refl, fails);
      text = rw cut.1 g.text;
      known = split.1;
    }
stops_doing k stores (Output f) start input left left' turns turns' old now new was mid is p q x fine line g l cut =
    let next : (next : List ℕ) × IsNext input g.lines left' turns' line next =
    next_line input left left' g.lines turns turns' line g.known l in
    let split : (rest : List (List ℕ))
    × IfSome input (λ bytes. IsSplit bytes (g.lines ++ next.0 ∷ []) rest (Output f)) =
    written_split input left' (g.lines ++ next.0 ∷ []) turns' f next.1.known in
    let done : HasDone k (request_of next.0) g.effect.session now new cut.effect =
    subst (λ r. HasDone k r g.effect.session now new cut.effect) next.1.same
    (subst (λ s. HasDone k (request_of line) s now new cut.effect) (sym g.session) cut.did) in
    record {
      lines = g.lines ++ next.0 ∷ [];
      behind = split.0;
      effect = effect_of_both g.effect cut.effect;
      mid = new;
      ran = runs_more k g.lines next.0 (silent start) g.effect cut.effect old now new g.ran done;
      left = (cut.left, refl);
      text = tt;
      known = split.1;
    }
stops_doing k stores (Lines f) start input left left' turns turns' old now new was mid is p q x fine line g l cut =
    absurd cut
