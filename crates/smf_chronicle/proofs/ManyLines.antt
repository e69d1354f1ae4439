-- Texts of many lines: what is read was written so, and what was written so is read.
use Rattle.std.proofs.Common.{◌≡◌, ℕ, ◌+◌, ◌<◌, ◌==◌, not, arith, eqb-true, length-append, List, [], ◌∷◌, ◌++◌, length, Bool, true, false, cond, Option, Some, None, Result, Ok, Err, refl, sym, ◌∙◌, ap, subst, append_assoc, append-nil, map, codes}
use Rattle.std.specs.Cmp.Lexicographic.{pointwise}
use Rattle.std.specs.List.{AllByRecursion}
use Rattle.std.specs.Prelude.{nat_eq}
use Rattle.std.proofs.lemmas.List.{map-append}
use Rattle.smf_fmri.proofs.Patterns.{same_text}
use Rattle.smf_chronicle.specs.declared.entry.Entry.{Entry}
use Rattle.smf_chronicle.specs.Lines.{AreRead, GivesFault, IsLink, IsReadTo, IsStamped, IsUnlinked, Stamped, behind_clock, behind_link, cut_at, entries_of, entry_or, fault_at, first_behind, first_line, is_clock, last_link, line_text, lines_text, link_behind, no_end, read_line, with_rest}
use Rattle.smf_chronicle.specs.Reading.{read_entry}
use Rattle.smf_chronicle.specs.Texts.{entry_text}
use Rattle.smf_chronicle.specs.declared.fault.LineFault.{LineFault}
use Rattle.smf_chronicle.specs.declared.fault.LineFault.TheVariants as lines
use Rattle.smf_chronicle.specs.declared.fault.ReadFault.{ReadFault}
use Rattle.smf_chronicle.specs.declared.fault.ReadFault.TheVariants.{Memory, Unreadable, Unlinked}
use Rattle.smf_chronicle.proofs.Cuts.{cut_again, cut_was}
use Rattle.smf_chronicle.proofs.Ends.{clock_free, clock_spaceless, entry_free, joined_free}
use Rattle.smf_chronicle.proofs.Entries.{entry_is_read, entry_was}

-- ---- one line

line_free : (link : Option (List ℕ)) (s : Stamped) → IsLink link → IsStamped s → no_end (line_text link s) ≡ true
line_free None s h k = entry_free s.entry k.entry
line_free (Some link) s h k =
    joined_free 10 link (32 ∷ (s.clock ++ 32 ∷ entry_text s.entry)) h.1
    (joined_free 10 s.clock (32 ∷ entry_text s.entry) (clock_free s.clock k.clock) (entry_free s.entry k.entry))

line_is_read : (link : Option (List ℕ)) (s : Stamped) → IsLink link → IsStamped s
    → read_line link (line_text link s) ≡ Ok s.entry
unfolding read_line
line_is_read None s h k = ap entry_or (entry_is_read s.entry k.entry)
line_is_read (Some link) s h k =
    let same : pointwise nat_eq link link ≡ true = (same_text link link).1 refl in
    ap (behind_link link) (cut_again 32 link (s.clock ++ 32 ∷ entry_text s.entry) h.0)
    ∙ rw same refl
    ∙ ap behind_clock (cut_again 32 s.clock (entry_text s.entry) (clock_spaceless s.clock k.clock))
    ∙ rw k.clock (ap entry_or (entry_is_read s.entry k.entry))

record IsLine (link : Option (List ℕ)) (line : List ℕ) (e : Entry) : Type 0 where
  stamped : Stamped
  typed : IsStamped stamped
  text : line ≡ line_text link stamped
  entry : stamped.entry ≡ e

entry_ok : (r : Result Entry ℕ) (e : Entry) → entry_or r ≡ Ok e → r ≡ Ok e
entry_ok (Ok x) e h = let is : x ≡ e = cc in ap (λ (y : Entry). Ok y) is
entry_ok (Err left) e h = cc

clock_by : (v : Bool) (clock text : List ℕ) (e : Entry) → is_clock clock ≡ v
    → cond v (entry_or (read_entry text)) (Err lines.Unreadable) ≡ Ok e
    → (is_clock clock ≡ true) × (read_entry text ≡ Ok e)
clock_by true clock text e is h = (is, entry_ok (read_entry text) e h)
clock_by false clock text e is h = cc

clock_was : (o : Option (List ℕ × List ℕ)) (link text : List ℕ) (e : Entry) → cut_at 32 text ≡ o
    → behind_clock o ≡ Ok e → IsLine (Some link) (link ++ 32 ∷ text) e
clock_was None link text e cut h = cc
clock_was (Some x) link text e cut h =
    let found = clock_by (is_clock x.0) x.0 x.1 e refl h in
    let was = entry_was x.1 e found.1 in
    record {
      stamped = record { clock = x.0; entry = e };
      typed = record { clock = found.0; entry = was.1 };
      text =
          ap (λ (t : List ℕ). link ++ 32 ∷ t) (cut_was 32 text x cut ∙ ap (λ (t : List ℕ). x.0 ++ 32 ∷ t) was.0);
      entry = refl;
    }

link_by : (v : Bool) (link : List ℕ) (x : List ℕ × List ℕ) (e : Entry) → pointwise nat_eq x.0 link ≡ v
    → cond v (behind_clock (cut_at 32 x.1)) (Err lines.Unlinked) ≡ Ok e
    → (x.0 ≡ link) × (behind_clock (cut_at 32 x.1) ≡ Ok e)
link_by true link x e is h = ((same_text x.0 link).0 is, h)
link_by false link x e is h = cc

link_was : (o : Option (List ℕ × List ℕ)) (link line : List ℕ) (e : Entry) → cut_at 32 line ≡ o
    → behind_link link o ≡ Ok e → IsLine (Some link) line e
link_was None link line e cut h = cc
link_was (Some x) link line e cut h =
    let found = link_by (pointwise nat_eq x.0 link) link x e refl h in
    let text : line ≡ link ++ 32 ∷ x.1 = cut_was 32 line x cut ∙ ap (λ (l : List ℕ). l ++ 32 ∷ x.1) found.0 in
    subst (λ (t : List ℕ). IsLine (Some link) t e) (sym text)
    (clock_was (cut_at 32 x.1) link x.1 e refl found.1)

line_was : (link : Option (List ℕ)) (line : List ℕ) (e : Entry) → read_line link line ≡ Ok e → IsLine link line e
unfolding read_line
line_was None line e h =
    let was = entry_was line e (entry_ok (read_entry line) e h) in
    record {
      stamped = record { clock = codes "0.000"; entry = e };
      typed = record { clock = refl; entry = was.1 };
      text = was.0;
      entry = refl;
    }
line_was (Some link) line e h = link_was (cut_at 32 line) link line e refl h

-- ---- the line at the front of a text

pub record IsFirst (link : Option (List ℕ)) (text : List ℕ) (e : Entry) (next : Option (List ℕ)) (rest : List ℕ)
    : Type 0 where
  pub line : List ℕ
  pub cut : cut_at 10 text ≡ Some (line, rest)
  pub read : read_line link line ≡ Ok e
  pub next_is : next ≡ link_behind link line

ok_is : {X : Type 0} (x y : X) → ◌≡◌ {A = Result X LineFault} (Ok x) (Ok y) → x ≡ y
ok_is x y h = cc

rest_by : (link : Option (List ℕ)) (text line after : List ℕ) (r : Result Entry LineFault) (e : Entry)
    (next : Option (List ℕ)) (rest : List ℕ) → cut_at 10 text ≡ Some (line, after) → read_line link line ≡ r
    → with_rest (link_behind link line) after r ≡ Ok (e, next, rest) → IsFirst link text e next rest
rest_by link text line after (Ok x) e next rest cut read h =
    let is = ok_is {X = Entry × Option (List ℕ) × List ℕ} (x, link_behind link line, after) (e, next, rest) h in
    record {
      line = line;
      cut = cut ∙ ap (λ (y : Entry × Option (List ℕ) × List ℕ). Some (line, y.2)) is;
      read = read ∙ ap (λ (y : Entry × Option (List ℕ) × List ℕ). Ok y.0) is;
      next_is = sym (ap (λ (y : Entry × Option (List ℕ) × List ℕ). y.1) is);
    }
rest_by link text line after (Err fault) e next rest cut read h = cc

first_by : (link : Option (List ℕ)) (text : List ℕ) (o : Option (List ℕ × List ℕ)) (e : Entry)
    (next : Option (List ℕ)) (rest : List ℕ) → cut_at 10 text ≡ o → first_behind link o ≡ Ok (e, next, rest)
    → IsFirst link text e next rest
first_by link text None e next rest cut h = cc
first_by link text (Some x) e next rest cut h = rest_by link text x.0 x.1 (read_line link x.0) e next rest cut refl h

pub first_was : (link : Option (List ℕ)) (text : List ℕ) (e : Entry) (next : Option (List ℕ)) (rest : List ℕ)
    → first_line link text ≡ Ok (e, next, rest) → IsFirst link text e next rest
unfolding first_line
first_was link text e next rest h = first_by link text (cut_at 10 text) e next rest refl h

-- lines that were written are read, the first of them first
first_is_read : (link : Option (List ℕ)) (s : Stamped) (ss : List Stamped) → IsLink link → IsStamped s
    → first_line link (lines_text link (s ∷ ss))
    ≡ Ok (s.entry, link_behind link (line_text link s), lines_text (link_behind link (line_text link s)) ss)
unfolding first_line
first_is_read link s ss h k =
    ap (first_behind link)
    (cut_again 10 (line_text link s) (lines_text (link_behind link (line_text link s)) ss) (line_free link s h k))
    ∙ ap (with_rest (link_behind link (line_text link s)) (lines_text (link_behind link (line_text link s)) ss))
    (line_is_read link s h k)

-- ---- more and more lines

lines_more : (link : Option (List ℕ)) (ss : List Stamped) (s : Stamped)
    → lines_text link (ss ++ s ∷ []) ≡ lines_text link ss ++ (line_text (last_link link ss) s ++ 10 ∷ [])
lines_more link [] s = refl
lines_more link (x ∷ ss) s =
    let next = link_behind link (line_text link x) in
    ap (λ (t : List ℕ). line_text link x ++ 10 ∷ t) (lines_more next ss s)
    ∙ sym (append_assoc (line_text link x) (10 ∷ lines_text next ss) (line_text (last_link next ss) s ++ 10 ∷ []))

last_more : (link : Option (List ℕ)) (ss : List Stamped) (s : Stamped)
    → last_link link (ss ++ s ∷ []) ≡ link_behind (last_link link ss) (line_text (last_link link ss) s)
last_more link [] s = refl
last_more link (x ∷ ss) s = last_more (link_behind link (line_text link x)) ss s

typed_more : (ss : List Stamped) (s : Stamped) → AllByRecursion IsStamped ss → IsStamped s
    → AllByRecursion IsStamped (ss ++ s ∷ [])
typed_more [] s h k = (k, tt)
typed_more (x ∷ ss) s h k = (h.0, typed_more ss s h.1 k)

-- what is left of lines of which some were read
pub record IsLeft (ss : List Stamped) (entries : List Entry) (last : Option (List ℕ)) (rest : List ℕ) : Type 0 where
  pub more : List Stamped
  pub typed : AllByRecursion IsStamped more
  pub there : rest ≡ lines_text last more
  pub told : entries_of ss ≡ entries ++ entries_of more

pub record IsReading (link : Option (List ℕ)) (text : List ℕ) (entries : List Entry) (last : Option (List ℕ))
    (rest : List ℕ) : Type 0 where
  pub so_far : IsReadTo link text entries last rest
  pub only : IsLink link → (ss : List Stamped) → AllByRecursion IsStamped ss → text ≡ lines_text link ss
      → IsLeft ss entries last rest
  pub linked : IsLink link → IsLink last

pub none_read : (link : Option (List ℕ)) (text : List ℕ) → IsReading link text [] link text
none_read link text =
    record {
      so_far = record { lines = []; typed = tt; whole = refl; told = refl; next = refl };
      only = λ h ss typed e. record { more = ss; typed = typed; there = e; told = refl };
      linked = λ h. h;
    }

read_on : (link : Option (List ℕ)) (text : List ℕ) (entries : List Entry) (last : Option (List ℕ)) (rest : List ℕ)
    (e : Entry) (next : Option (List ℕ)) (after : List ℕ) → IsReadTo link text entries last rest
    → IsFirst last rest e next after → IsReadTo link text (entries ++ e ∷ []) next after
read_on link text entries last rest e next after r f =
    let l = line_was last f.line e f.read in
    let s = l.stamped in
    let at_last : f.line ≡ line_text (last_link link r.lines) s =
    l.text ∙ ap (λ (o : Option (List ℕ)). line_text o s) r.next in
    let cut : rest ≡ f.line ++ 10 ∷ after = cut_was 10 rest (f.line, after) f.cut in
    let written : lines_text link (r.lines ++ s ∷ []) ≡ lines_text link r.lines ++ (f.line ++ 10 ∷ []) =
    lines_more link r.lines s ∙ ap (λ (t : List ℕ). lines_text link r.lines ++ (t ++ 10 ∷ [])) (sym at_last) in
    record {
      lines = r.lines ++ s ∷ [];
      typed = typed_more r.lines s r.typed l.typed;
      whole =
          r.whole ∙ ap (λ (t : List ℕ). lines_text link r.lines ++ t) cut
          ∙ ap (λ (t : List ℕ). lines_text link r.lines ++ t) (sym (append_assoc f.line (10 ∷ []) after))
          ∙ sym (append_assoc (lines_text link r.lines) (f.line ++ 10 ∷ []) after)
          ∙ ap (λ (t : List ℕ). t ++ after) (sym written);
      told =
          ap (λ (es : List Entry). es ++ e ∷ []) r.told
          ∙ ap (λ (x : Entry). entries_of r.lines ++ x ∷ []) (sym l.entry)
          ∙ sym (map-append (λ (x : Stamped). x.entry) r.lines (s ∷ []));
      next =
          f.next_is
          ∙ ap (link_behind last) at_last
          ∙ ap (λ (o : Option (List ℕ)). link_behind o (line_text (last_link link r.lines) s)) r.next
          ∙ sym (last_more link r.lines s);
    }

-- a text that has a first line is not that of no lines
none_first : (last : Option (List ℕ)) (rest line after : List ℕ) → rest ≡ [] → cut_at 10 rest ≡ Some (line, after) → ⊥
none_first last rest line after e h = let none : None ≡ Some (line, after) = sym (ap (cut_at 10) e) ∙ h in cc

left_on : (ss : List Stamped) (entries : List Entry) (last : Option (List ℕ)) (rest : List ℕ) (e : Entry)
    (next : Option (List ℕ)) (after : List ℕ) (more : List Stamped) → AllByRecursion IsStamped more
    → rest ≡ lines_text last more → entries_of ss ≡ entries ++ entries_of more → IsLink last
    → first_line last rest ≡ Ok (e, next, after) → IsLeft ss (entries ++ e ∷ []) next after
left_on ss entries last rest e next after [] typed there told h first =
    let f = first_was last rest e next after first in
    absurd (none_first last rest f.line after there f.cut)
left_on ss entries last rest e next after (s ∷ more) typed there told h first =
    let is = ok_is {X = Entry × Option (List ℕ) × List ℕ} _ _
    (sym (first_is_read last s more h typed.0) ∙ sym (ap (first_line last) there) ∙ first) in
    record {
      more = more;
      typed = typed.1;
      there =
          sym (ap (λ (y : Entry × Option (List ℕ) × List ℕ). y.2) is)
          ∙ ap (λ (y : Entry × Option (List ℕ) × List ℕ). lines_text y.1 more) is;
      told =
          told
          ∙ sym (append_assoc entries (s.entry ∷ []) (entries_of more))
          ∙ ap (λ (y : Entry × Option (List ℕ) × List ℕ). (entries ++ y.0 ∷ []) ++ entries_of more) is;
    }

pub one_more : (link : Option (List ℕ)) (text : List ℕ) (entries : List Entry) (last : Option (List ℕ))
    (rest : List ℕ) (e : Entry) (next : Option (List ℕ)) (after : List ℕ) → IsReading link text entries last rest
    → first_line last rest ≡ Ok (e, next, after) → (IsLink last → IsLink next)
    → IsReading link text (entries ++ e ∷ []) next after
one_more link text entries last rest e next after r first keeps =
    record {
      so_far = read_on link text entries last rest e next after r.so_far (first_was last rest e next after first);
      only = λ h ss typed whole.
          let l = r.only h ss typed whole in
          left_on ss entries last rest e next after l.more l.typed l.there l.told (r.linked h) first;
      linked = λ h. keeps (r.linked h);
    }

-- ---- the end, and a line that is not read

left_none : (more : List Stamped) (last : Option (List ℕ)) → [] ≡ lines_text last more → more ≡ []
left_none [] last h = refl
left_none (s ∷ more) last h = absurd (no_text (line_text last s) _ (sym h))
  where
    no_text : (xs ys : List ℕ) → xs ++ 10 ∷ ys ≡ [] → ⊥
    no_text [] ys e = cc
    no_text (x ∷ xs) ys e = cc

pub all_read : (link : Option (List ℕ)) (text : List ℕ) (entries : List Entry) (last : Option (List ℕ))
    → IsReading link text entries last [] → IsLink link → (ss : List Stamped) → AllByRecursion IsStamped ss
    → text ≡ lines_text link ss → entries ≡ entries_of ss
all_read link text entries last r h ss typed whole =
    let l = r.only h ss typed whole in
    sym (append-nil entries)
    ∙ ap (λ (m : List Stamped). entries ++ entries_of m) (sym (left_none l.more last l.there))
    ∙ sym l.told

not_left : (more : List Stamped) (last : Option (List ℕ)) (rest : List ℕ) (fault : LineFault)
    → AllByRecursion IsStamped more → rest ≡ lines_text last more → IsLink last → (rest ≡ [] → ⊥)
    → first_line last rest ≡ Err fault → ⊥
not_left [] last rest fault typed there h filled first = filled there
not_left (s ∷ more) last rest fault typed there h filled first =
    let ok = sym (first_is_read last s more h typed.0) ∙ sym (ap (first_line last) there) ∙ first in cc

-- a text with a line that is not read is no text of lines
pub none_written : (link : Option (List ℕ)) (text : List ℕ) (entries : List Entry) (last : Option (List ℕ))
    (rest : List ℕ) (fault : LineFault) → IsReading link text entries last rest → IsLink link → (rest ≡ [] → ⊥)
    → first_line last rest ≡ Err fault → (ss : List Stamped) → AllByRecursion IsStamped ss
    → text ≡ lines_text link ss → ⊥
none_written link text entries last rest fault r h filled first ss typed whole =
    let l = r.only h ss typed whole in
    not_left l.more last rest fault l.typed l.there (r.linked h) filled first

-- ---- a line that is not linked

entry_linked : (r : Result Entry ℕ) → entry_or r ≡ Err lines.Unlinked → ⊥
entry_linked (Ok x) h = cc
entry_linked (Err left) h = cc

clock_linked : (v : Bool) (text : List ℕ) → cond v (entry_or (read_entry text)) (Err lines.Unreadable) ≡ Err lines.Unlinked
    → ⊥
clock_linked true text h = entry_linked (read_entry text) h
clock_linked false text h = cc

behind_linked : (o : Option (List ℕ × List ℕ)) → behind_clock o ≡ Err lines.Unlinked → ⊥
behind_linked None h = cc
behind_linked (Some x) h = clock_linked (is_clock x.0) x.1 h

record IsOther (link line : List ℕ) : Type 0 where
  found : List ℕ
  behind : List ℕ
  text : line ≡ found ++ 32 ∷ behind
  other : found ≡ link → ⊥

other_by : (v : Bool) (link line : List ℕ) (x : List ℕ × List ℕ) → line ≡ x.0 ++ 32 ∷ x.1
    → pointwise nat_eq x.0 link ≡ v → cond v (behind_clock (cut_at 32 x.1)) (Err lines.Unlinked) ≡ Err lines.Unlinked
    → IsOther link line
other_by true link line x text is h = absurd (behind_linked (cut_at 32 x.1) h)
other_by false link line x text is h =
    record {
      found = x.0;
      behind = x.1;
      text = text;
      other = λ same. (let yes : pointwise nat_eq x.0 link ≡ true = (same_text x.0 link).1 same in absurd cc);
    }

other_link : (o : Option (List ℕ × List ℕ)) (link line : List ℕ) → cut_at 32 line ≡ o
    → behind_link link o ≡ Err lines.Unlinked → IsOther link line
other_link None link line cut h = absurd cc
other_link (Some x) link line cut h =
    other_by (pointwise nat_eq x.0 link) link line x (cut_was 32 line x cut) refl h

fault_is : (next : Option (List ℕ)) (after : List ℕ) (r : Result Entry LineFault) (fault : LineFault)
    → with_rest next after r ≡ Err fault → r ≡ Err fault
fault_is next after (Ok e) fault h = cc
fault_is next after (Err other) fault h = let is : other ≡ fault = cc in ap (λ (f : LineFault). Err f) is

unlinked_in : (link : Option (List ℕ)) (text : List ℕ) (entries : List Entry) (last : Option (List ℕ))
    (rest : List ℕ) (line : ℕ) (x : List ℕ × List ℕ) → IsReadTo link text entries last rest
    → line ≡ length entries + 1 → cut_at 10 rest ≡ Some x → read_line last x.0 ≡ Err lines.Unlinked
    → IsUnlinked link text line
unfolding read_line
unlinked_in link text entries None rest line x r place cut h = absurd (entry_linked (read_entry x.0) h)
unlinked_in link text entries (Some last) rest line x r place cut h =
    let o = other_link (cut_at 32 x.0) last x.0 refl h in
    let is : rest ≡ o.found ++ 32 ∷ (o.behind ++ 10 ∷ x.1) =
    cut_was 10 rest x cut
    ∙ ap (λ (t : List ℕ). t ++ 10 ∷ x.1) o.text
    ∙ append_assoc o.found (32 ∷ o.behind) (10 ∷ x.1) in
    record {
      entries = entries;
      last = last;
      found = o.found;
      behind = o.behind ++ 10 ∷ x.1;
      before = subst (λ (t : List ℕ). IsReadTo link text entries (Some last) t) is r;
      place = place;
      other = o.other;
    }

unlinked_by : (link : Option (List ℕ)) (text : List ℕ) (entries : List Entry) (last : Option (List ℕ))
    (rest : List ℕ) (line : ℕ) (o : Option (List ℕ × List ℕ)) → IsReadTo link text entries last rest
    → line ≡ length entries + 1 → cut_at 10 rest ≡ o → first_behind last o ≡ Err lines.Unlinked
    → IsUnlinked link text line
unlinked_by link text entries last rest line None r place cut h = absurd cc
unlinked_by link text entries last rest line (Some x) r place cut h =
    unlinked_in link text entries last rest line x r place cut
    (fault_is (link_behind last x.0) x.1 (read_line last x.0) lines.Unlinked h)

pub unlinked : (link : Option (List ℕ)) (text : List ℕ) (entries : List Entry) (last : Option (List ℕ))
    (rest : List ℕ) (line : ℕ) → IsReading link text entries last rest → line ≡ length entries + 1
    → first_line last rest ≡ Err lines.Unlinked → IsUnlinked link text line
unfolding first_line
unlinked link text entries last rest line r place h =
    unlinked_by link text entries last rest line (cut_at 10 rest) r.so_far place refl h

-- ---- what a loop over the lines shows

pub filled : (text : List ℕ) → not (length text == 0) ≡ true → text ≡ [] → ⊥
filled [] h = λ e. (let no : false ≡ true = h in absurd cc)
filled (b ∷ bs) h = λ e. absurd cc

over_by : (v : Bool) (text : List ℕ) → (length text == 0) ≡ v → not v ≡ false → text ≡ []
over_by true [] e h = refl
over_by true (b ∷ bs) e h = let none : length (b ∷ bs) ≡ 0 = eqb-true (length (b ∷ bs)) 0 e in absurd (omega arith)
over_by false text e h = absurd cc

pub over : (text : List ℕ) → not (length text == 0) ≡ false → text ≡ []
over text h = over_by (length text == 0) text refl h

pub shorter : (link : Option (List ℕ)) (text : List ℕ) (e : Entry) (next : Option (List ℕ)) (rest : List ℕ)
    → first_line link text ≡ Ok (e, next, rest) → length rest < length text
shorter link text e next rest h =
    let f = first_was link text e next rest h in
    let long : length text ≡ length f.line + length (10 ∷ rest) =
    ap (λ (l : List ℕ). length l) (cut_was 10 text (f.line, rest) f.cut) ∙ length-append f.line (10 ∷ rest) in
    omega (arith, long)

pub err_only : (link : Option (List ℕ)) (text : List ℕ) (entries : List Entry) (last : Option (List ℕ))
    (rest : List ℕ) (line : ℕ) (fault : LineFault) (told : ReadFault) → IsReading link text entries last rest
    → (rest ≡ [] → ⊥) → GivesFault fault (first_line last rest) → told ≡ fault_at line fault → IsLink link
    → (ss : List Stamped) → AllByRecursion IsStamped ss → text ≡ lines_text link ss → AreRead (Err told) ss
err_only link text entries last rest line lines.Memory told r more given e h ss typed whole =
    subst (λ (f : ReadFault). AreRead (Err f) ss) (sym e) tt
err_only link text entries last rest line lines.Unreadable told r more given e h ss typed whole =
    absurd (none_written link text entries last rest lines.Unreadable r h more given ss typed whole)
err_only link text entries last rest line lines.Unlinked told r more given e h ss typed whole =
    absurd (none_written link text entries last rest lines.Unlinked r h more given ss typed whole)

pub err_unlinked : (link : Option (List ℕ)) (text : List ℕ) (entries : List Entry) (last : Option (List ℕ))
    (rest : List ℕ) (line : ℕ) (fault : LineFault) (told : ReadFault) → IsReading link text entries last rest
    → line ≡ length entries + 1 → GivesFault fault (first_line last rest) → told ≡ fault_at line fault
    → (place : ℕ) → told ≡ Unlinked place → IsUnlinked link text place
err_unlinked link text entries last rest line lines.Memory told r at given e place is =
    absurd (let other : Memory ≡ Unlinked place = sym e ∙ is in cc)
err_unlinked link text entries last rest line lines.Unreadable told r at given e place is =
    absurd (let other : Unreadable line ≡ Unlinked place = sym e ∙ is in cc)
err_unlinked link text entries last rest line lines.Unlinked told r at given e place is =
    let other : Unlinked line ≡ Unlinked place = sym e ∙ is in
    let same : line ≡ place = cc in
    unlinked link text entries last rest place r (sym same ∙ at) given
