-- A row is wrong at the start of its first wrong field.
use Rattle.std.proofs.Common.{◌≡◌, ℕ, ◌-◌, List, [], ◌∷◌, ◌++◌, length, true, Option, Some, None, Result, Ok, Err, refl, sym, ap, ◌∙◌, subst, codes}
use Rattle.smf_fmri.specs.Counts.{read_count}
use Rattle.smf_fmri.specs.Patterns.{read_short}
use Rattle.smf_fmri.specs.Name.{name_of_text, strip}
use Rattle.smf_state.specs.declared.fault.RowFault.{RowFault}
use Rattle.smf_state.specs.declared.fault.RowFault.TheVariants.{BadRow}
use Rattle.smf_state.specs.declared.row.Row.{Row}
use Rattle.smf_state.specs.Fields.{read_asks, read_ignore, read_optional, next_field}
use Rattle.smf_state.specs.Rows.{fresh}
use Rattle.smf_state.specs.States.{read_cause, read_duration, read_state}
use Rattle.smf_state.specs.Texts.{IsFirst, IsRow, IsSecond, IsThird, first_at, read_row, row_at, row_onto, second_at, third_at, whole_row}
use Rattle.smf_state.proofs.Lines.{behind, bind_ok, took}
use Rattle.smf_state.proofs.Spelled.{row_found, row_reads}
use Rattle.smf_state.proofs.Words.{asks, ignore, name, number, optional_number}
use Rattle.smf_meaning.specs.WrongFields.{AreFieldsOf, AreRowFields, AreSpaceless, IsRowFault, IsWrongField, line_of}
use Rattle.smf_meaning.proofs.Walks.{AreTested, Judges, Pass, Test, Walks, field_then, fields_of, passed_all, passes_on, readable, walk_then, walked, wrong_rest, wrong_stop}

-- ---- what each field has to be

abbrev first_tests : List Test
first_tests =
    readable read_short ∷ readable read_count ∷ readable read_state ∷ readable (read_optional read_state)
    ∷ readable (read_optional read_count) ∷ readable (read_optional read_count) ∷ readable read_count ∷ []

abbrev second_tests : List Test
second_tests =
    readable read_count ∷ readable read_asks ∷ readable (read_optional read_cause) ∷ readable read_duration
    ∷ readable read_ignore ∷ readable read_count ∷ readable read_count ∷ []

abbrev third_tests : List Test
third_tests =
    readable read_count ∷ readable read_count ∷ readable read_count ∷ readable (read_optional read_count)
    ∷ readable (read_optional read_count) ∷ readable read_count ∷ readable read_count ∷ []

abbrev row_tests : List Test
row_tests = first_tests ++ (second_tests ++ third_tests)

first_walks : (rest : Option (List ℕ)) (fields : List (List ℕ)) → rest ≡ line_of fields → AreSpaceless fields
    → Walks first_tests fields (first_at rest)
unfolding first_at
first_walks rest fields e s =
    field_then read_short _ rest fields _ e s (λ a fa ea sa.
    field_then read_count _ a.1 fa _ ea sa (λ b fb eb sb.
    field_then read_state _ b.1 fb _ eb sb (λ c fc ec sc.
    field_then (read_optional read_state) _ c.1 fc _ ec sc (λ d fd ed sd.
    field_then (read_optional read_count) _ d.1 fd _ ed sd (λ f ff ef sf.
    field_then (read_optional read_count) _ f.1 ff _ ef sf (λ g fg eg sg.
    field_then read_count _ g.1 fg _ eg sg (λ h fh eh sh.
    walked (record (fresh a.0) { number = b.0; state = c.0; next = d.0; live = f.0; side = g.0; last = h.0 }) h.1 fh
    eh sh)))))))

second_walks : (r : Row) (rest : Option (List ℕ)) (fields : List (List ℕ)) → rest ≡ line_of fields
    → AreSpaceless fields → Walks second_tests fields (second_at r rest)
unfolding second_at
second_walks r rest fields e s =
    field_then read_count _ rest fields _ e s (λ a fa ea sa.
    field_then read_asks _ a.1 fa _ ea sa (λ b fb eb sb.
    field_then (read_optional read_cause) _ b.1 fb _ eb sb (λ c fc ec sc.
    field_then read_duration _ c.1 fc _ ec sc (λ d fd ed sd.
    field_then read_ignore _ d.1 fd _ ed sd (λ f ff ef sf.
    field_then read_count _ f.1 ff _ ef sf (λ g fg eg sg.
    field_then read_count _ g.1 fg _ eg sg (λ h fh eh sh.
    walked (record r { failed = a.0; asks = b.0; cause = c.0; duration = d.0; ignore = f.0; base = g.0; err = h.0 })
    h.1 fh eh sh)))))))

third_walks : (r : Row) (rest : Option (List ℕ)) (fields : List (List ℕ)) → rest ≡ line_of fields
    → AreSpaceless fields → Walks third_tests fields (third_at r rest)
unfolding third_at
third_walks r rest fields e s =
    field_then read_count _ rest fields _ e s (λ a fa ea sa.
    field_then read_count _ a.1 fa _ ea sa (λ b fb eb sb.
    field_then read_count _ b.1 fb _ eb sb (λ c fc ec sc.
    field_then (read_optional read_count) _ c.1 fc _ ec sc (λ d fd ed sd.
    field_then (read_optional read_count) _ d.1 fd _ ed sd (λ f ff ef sf.
    field_then read_count _ f.1 ff _ ef sf (λ g fg eg sg.
    field_then read_count _ g.1 fg _ eg sg (λ h fh eh sh.
    walked (record r {
      stop = a.0;
      refresh = b.0;
      start = c.0;
      running = d.0;
      begun = f.0;
      launch = g.0;
      serial = h.0;
    }) h.1 fh eh sh)))))))

row_walks : (rest : Option (List ℕ)) (fields : List (List ℕ)) → rest ≡ line_of fields → AreSpaceless fields
    → Walks row_tests fields (row_at rest)
unfolding row_at
row_walks rest fields e s =
    walk_then first_tests (second_tests ++ third_tests) fields (first_at rest) _ (first_walks rest fields e s)
    (λ a fa ea sa.
    walk_then second_tests third_tests fa (second_at a.0 a.1) _ (second_walks a.0 a.1 fa ea sa) (λ b fb eb sb.
    third_walks b.0 b.1 fb eb sb))

-- ---- what is read is a row

ok_is : {X E : Type 0} (x y : X) → ◌≡◌ {A = Result X E} (Ok x) (Ok y) → x ≡ y
ok_is x y h = cc

first_inside : (s : Option (List ℕ)) (r : Row) (rest : Option (List ℕ)) → first_at s ≡ Ok (r, rest) → IsFirst r
unfolding first_at
first_inside s r rest h =
    let a = bind_ok (next_field read_short s) _ _ h in
    let b = bind_ok (next_field read_count a.0.1) _ _ a.2 in
    let c = bind_ok (next_field read_state b.0.1) _ _ b.2 in
    let d = bind_ok (next_field (read_optional read_state) c.0.1) _ _ c.2 in
    let e = bind_ok (next_field (read_optional read_count) d.0.1) _ _ d.2 in
    let f = bind_ok (next_field (read_optional read_count) e.0.1) _ _ e.2 in
    let g = bind_ok (next_field read_count f.0.1) _ _ f.2 in
    let made : Row =
    record (fresh a.0.0) {
      number = b.0.0;
      state = c.0.0;
      next = d.0.0;
      live = e.0.0;
      side = f.0.0;
      last = g.0.0;
    } in
    let is : ◌≡◌ {A = Row × Option (List ℕ)} (made, g.0.1) (r, rest) = ok_is _ _ g.2 in
    let inside : IsFirst made = record {
      owner = (took name s a.0.0 a.0.1 a.1).inside;
      number = (took number a.0.1 b.0.0 b.0.1 b.1).inside;
      live = (took optional_number d.0.1 e.0.0 e.0.1 e.1).inside;
      side = (took optional_number e.0.1 f.0.0 f.0.1 f.1).inside;
      last = (took number f.0.1 g.0.0 g.0.1 g.1).inside;
    } in
    subst (λ (x : Row × Option (List ℕ)). IsFirst x.0) is inside

abbrev KeepsFirst : Row → Row → Type 0
KeepsFirst q r = IsFirst q → IsFirst r

second_inside : (q : Row) (s : Option (List ℕ)) (r : Row) (rest : Option (List ℕ)) → second_at q s ≡ Ok (r, rest)
    → KeepsFirst q r × IsSecond r
unfolding second_at
second_inside q s r rest h =
    let a = bind_ok (next_field read_count s) _ _ h in
    let b = bind_ok (next_field read_asks a.0.1) _ _ a.2 in
    let c = bind_ok (next_field (read_optional read_cause) b.0.1) _ _ b.2 in
    let d = bind_ok (next_field read_duration c.0.1) _ _ c.2 in
    let e = bind_ok (next_field read_ignore d.0.1) _ _ d.2 in
    let f = bind_ok (next_field read_count e.0.1) _ _ e.2 in
    let g = bind_ok (next_field read_count f.0.1) _ _ f.2 in
    let made : Row =
    record q {
      failed = a.0.0;
      asks = b.0.0;
      cause = c.0.0;
      duration = d.0.0;
      ignore = e.0.0;
      base = f.0.0;
      err = g.0.0;
    } in
    let is : ◌≡◌ {A = Row × Option (List ℕ)} (made, g.0.1) (r, rest) = ok_is _ _ g.2 in
    let inside : IsSecond made = record {
      failed = (took number s a.0.0 a.0.1 a.1).inside;
      asks = (took asks a.0.1 b.0.0 b.0.1 b.1).inside;
      ignore = (took ignore d.0.1 e.0.0 e.0.1 e.1).inside;
      base = (took number e.0.1 f.0.0 f.0.1 f.1).inside;
      err = (took number f.0.1 g.0.0 g.0.1 g.1).inside;
    } in
    let keeps : KeepsFirst q made =
    λ k. record { owner = k.owner; number = k.number; live = k.live; side = k.side; last = k.last } in
    subst (λ (x : Row × Option (List ℕ)). KeepsFirst q x.0 × IsSecond x.0) is (keeps, inside)

abbrev KeepsSecond : Row → Row → Type 0
KeepsSecond q r = IsSecond q → IsSecond r

third_inside : (q : Row) (s : Option (List ℕ)) (r : Row) (rest : Option (List ℕ)) → third_at q s ≡ Ok (r, rest)
    → KeepsFirst q r × KeepsSecond q r × IsThird r
unfolding third_at
third_inside q s r rest h =
    let a = bind_ok (next_field read_count s) _ _ h in
    let b = bind_ok (next_field read_count a.0.1) _ _ a.2 in
    let c = bind_ok (next_field read_count b.0.1) _ _ b.2 in
    let d = bind_ok (next_field (read_optional read_count) c.0.1) _ _ c.2 in
    let e = bind_ok (next_field (read_optional read_count) d.0.1) _ _ d.2 in
    let f = bind_ok (next_field read_count e.0.1) _ _ e.2 in
    let g = bind_ok (next_field read_count f.0.1) _ _ f.2 in
    let made : Row =
    record q {
      stop = a.0.0;
      refresh = b.0.0;
      start = c.0.0;
      running = d.0.0;
      begun = e.0.0;
      launch = f.0.0;
      serial = g.0.0;
    } in
    let is : ◌≡◌ {A = Row × Option (List ℕ)} (made, g.0.1) (r, rest) = ok_is _ _ g.2 in
    let inside : IsThird made = record {
      stop = (took number s a.0.0 a.0.1 a.1).inside;
      refresh = (took number a.0.1 b.0.0 b.0.1 b.1).inside;
      start = (took number b.0.1 c.0.0 c.0.1 c.1).inside;
      running = (took optional_number c.0.1 d.0.0 d.0.1 d.1).inside;
      begun = (took optional_number d.0.1 e.0.0 e.0.1 e.1).inside;
      launch = (took number e.0.1 f.0.0 f.0.1 f.1).inside;
      serial = (took number f.0.1 g.0.0 g.0.1 g.1).inside;
    } in
    let keeps : KeepsFirst q made =
    λ k. record { owner = k.owner; number = k.number; live = k.live; side = k.side; last = k.last } in
    let keeps_second : KeepsSecond q made =
    λ k. record { failed = k.failed; asks = k.asks; ignore = k.ignore; base = k.base; err = k.err } in
    subst (λ (x : Row × Option (List ℕ)). KeepsFirst q x.0 × KeepsSecond q x.0 × IsThird x.0) is
    (keeps, keeps_second, inside)

row_inside : (s : Option (List ℕ)) (r : Row) (rest : Option (List ℕ)) → row_at s ≡ Ok (r, rest) → IsRow r
unfolding row_at
row_inside s r rest h =
    let a = bind_ok (first_at s) _ _ h in
    let b = bind_ok (second_at a.0.0 a.0.1) _ _ a.2 in
    let first = first_inside s a.0.0 a.0.1 a.1 in
    let second = second_inside a.0.0 a.0.1 b.0.0 b.0.1 b.1 in
    let third = third_inside b.0.0 b.0.1 r rest b.2 in
    record { first = third.0 (second.0 first); second = third.1 second.1; third = third.2 }

-- ---- rows and their fields

row_good : (fields : List (List ℕ)) → Pass row_tests fields → AreSpaceless fields → AreRowFields fields
row_good fields p s =
    let name_of_text =
    passes_on row_tests fields (row_at (line_of fields)) p (row_walks (line_of fields) fields refl s) in
    let line : line_of fields ≡ Some (row_onto name_of_text.0 (behind None)) =
    row_found (line_of fields) name_of_text.0 None name_of_text.1 in (
      name_of_text.0,
      row_inside (line_of fields) name_of_text.0 None name_of_text.1,
      record { line = line; spaceless = s },
    )

good_row : (fields : List (List ℕ)) → AreRowFields fields → Pass row_tests fields
good_row fields g =
    let name_of_text : row_at (line_of fields) ≡ Ok (g.0, None) = ap row_at g.2.line ∙ row_reads g.0 None g.1 in
    passed_all row_tests fields (row_at (line_of fields)) g.0 name_of_text
    (row_walks (line_of fields) fields refl g.2.spaceless)

abbrev zero_text : List ℕ
zero_text = codes "0"

abbrev none_text : List ℕ
none_text = codes "-"

abbrev example : List (List ℕ)
example =
    codes "svc:/a:a" ∷ zero_text ∷ codes "disabled" ∷ none_text ∷ none_text ∷ none_text ∷ zero_text
    ∷ zero_text ∷ zero_text ∷ none_text ∷ codes "contract" ∷ zero_text ∷ zero_text ∷ zero_text
    ∷ zero_text ∷ zero_text ∷ zero_text ∷ none_text ∷ none_text ∷ zero_text ∷ zero_text ∷ []

named : readable read_short (codes "svc:/a:a") ≡ true
unfolding read_short name_of_text strip
named = refl

counted : readable read_count zero_text ≡ true
unfolding read_count
counted = refl

asked : readable read_asks zero_text ≡ true
unfolding read_count
asked = refl

ignored : readable read_ignore zero_text ≡ true
unfolding read_count
ignored = refl

example_passes : Pass row_tests example
example_passes = (
  named,
  (
    counted,
    (
      refl,
      (
        refl,
        (
          refl,
          (
            refl,
            (
              counted,
              (
                counted,
                (
                  asked,
                  (
                    refl,
                    (
                      refl,
                      (
                        ignored,
                        (
                          counted,
                          (
                            counted,
                            (counted, (counted, (counted, (refl, (refl, (counted, (counted, tt))))))),
                          ),
                        ),
                      ),
                    ),
                  ),
                ),
              ),
            ),
          ),
        ),
      ),
    ),
  ),
)

example_spaceless : AreSpaceless example
example_spaceless = (
  refl,
  (
    refl,
    (
      refl,
      (
        refl,
        (
          refl,
          (
            refl,
            (
              refl,
              (
                refl,
                (
                  refl,
                  (
                    refl,
                    (
                      refl,
                      (
                        refl,
                        (
                          refl,
                          (
                            refl,
                            (refl, (refl, (refl, (refl, (refl, (refl, (refl, tt))))))),
                          ),
                        ),
                      ),
                    ),
                  ),
                ),
              ),
            ),
          ),
        ),
      ),
    ),
  ),
)

judges : Judges row_tests AreRowFields example
judges = record { good = row_good; example_passes = example_passes; example_spaceless = example_spaceless }

tested : (before : List (List ℕ)) → AreTested row_tests AreRowFields before
tested before rest g = good_row (before ++ rest) g

fault_is : (place : ℕ) (fault : RowFault) (text : List ℕ)
    → ◌≡◌ {A = Result Row RowFault} (Err (BadRow place)) (Err fault) → IsWrongField AreRowFields text place
    → IsRowFault text fault
fault_is place fault text e w = let same : BadRow place ≡ fault = cc in subst (IsRowFault text) same w

wrong_by : (text : List ℕ) (fields : List (List ℕ)) (r : Result (Row × Option (List ℕ)) ℕ) (fault : RowFault)
    → AreFieldsOf text fields → Walks row_tests fields r
    → whole_row (length text) r ≡ Err fault → IsRowFault text fault
wrong_by text fields (Ok (row, None)) fault are w e = absurd cc
wrong_by text fields (Ok (row, Some rest)) fault are w e =
    fault_is (length text - length rest) fault text e
    (wrong_rest row_tests AreRowFields example text fields rest judges are w (tested w.before))
wrong_by text fields (Err left) fault are w e =
    fault_is (length text - left) fault text e
    (wrong_stop row_tests AreRowFields example text fields left judges are w (tested w.before))

pub row_fault : (text : List ℕ) (fault : RowFault) → read_row text ≡ Err fault → IsRowFault text fault
unfolding read_row
row_fault text fault e =
    let f = fields_of text in
    wrong_by text (f.0 ∷ f.1) (row_at (Some text)) fault f.2
    (row_walks (Some text) (f.0 ∷ f.1) (sym f.2.line) f.2.spaceless) e
