-- Messages: what is written is read, what is read was written so, and no line begins another.
use Rattle.std.proofs.Common.{◌≡◌, ℕ, List, [], ◌∷◌, ◌++◌, length, map, Bool, true, false, Option, Some, None, IfSome, Result, Ok, Err, refl, sym, ◌∙◌, ap, subst, codes, append_assoc}
use Rattle.std.specs.Fmt.{decimal}
use Rattle.std.specs.List.{AllByRecursion}
use Rattle.std.specs.Option.{option_to_list}
use Rattle.std.specs.Prelude.{is_some}
use Rattle.smf_fmri.specs.Counts.{read_count}
use Rattle.smf_fmri.specs.Patterns.{read_short}
use Rattle.smf_state.specs.declared.view.ChangedItem.{ChangedItem}
use Rattle.smf_state.specs.declared.view.View.{View}
use Rattle.smf_state.specs.Fields.{next_field}
use Rattle.smf_state.specs.Texts.{IsRow, row_at, row_text, step_at, step_text}
use Rattle.smf_state.specs.declared.row.Row.{Row}
use Rattle.smf_state.specs.declared.step.Proposal.{Proposal}
use Rattle.smf_state.specs.declared.view.ViewItem.{ViewItem}
use Rattle.smf_state.proofs.Lines.{IsTaken, behind, bind_ok, takes, took}
use Rattle.smf_state.proofs.Words.{name, number}
use Rattle.smf_wire.specs.Grammar.{Field, all_changed_at, all_known_at, changes_at, close_at, items_at, message_at, message_behind, nothing_behind, order_at, with_place_of_fault, proposal_at, read_close, read_line, row_if, view_at, what_at, whole_message}
use Rattle.smf_wire.specs.Lines.{HasBody, IsChanged, IsItem, IsMessage, IsSpelled, IsSpelledChange, changed_text, has_row, item_text, known_text, line_text, message_parts, message_text, what_text}
use Rattle.smf_wire.specs.Words.{message_word, message_word_text, read_message_word, read_why, why_text}
use Rattle.smf_wire.specs.declared.message.Message.{Message}
use Rattle.smf_wire.specs.declared.message.ViewChanges.{ViewChanges}
use Rattle.smf_wire.specs.declared.message.Message.TheVariants.{Join, Rows, Propose, Ack, Nack, AskView, View as Seen, AskChange, Changes, Order as Ordered}
use Rattle.smf_wire.specs.declared.order.Order.{Order}
use Rattle.smf_wire.specs.declared.word.MessageWord.{MessageWord}
use Rattle.smf_wire.specs.declared.word.MessageWord.TheVariants as words
use Rattle.smf_wire.proofs.InOrder.{IsWholeChange, IsWholeItem, all_found, all_reads, chain_rises, change_all, change_items, changed_number, item_number, known_all, known_items, known_number, rises_chain, view_all, view_items}
use Rattle.smf_wire.proofs.Methods.{what_is_read, what_was}
use Rattle.smf_wire.proofs.Parts.{as_text, found_as, joins, on, row_is_read, row_was, spaced_on, step_is_read, step_was}
use Rattle.smf_wire.proofs.WordFields as fields

-- ---- written is read

row_if_on : (is_there : Bool) (row : Option Row) → is_some row ≡ is_there → IfSome row IsRow
    → (rest : Option (List ℕ)) → row_if is_there (on (map row_text (option_to_list row)) rest) ≡ Ok (row, rest)
row_if_on false None e h rest = refl
row_if_on false (Some r) e h rest = cc
row_if_on true None e h rest = cc
row_if_on true (Some r) e h rest = rw (row_is_read r h rest) refl

whole_items : (xs : List ViewItem) → AllByRecursion IsItem xs → AllByRecursion HasBody xs
    → AllByRecursion IsWholeItem xs
whole_items [] h k = tt
whole_items (x ∷ xs) h k = (record { item = h.0; body = k.0 }, whole_items xs h.1 k.1)

whole_changes : (xs : List ChangedItem) → AllByRecursion IsChanged xs → AllByRecursion IsSpelledChange xs
    → AllByRecursion IsWholeChange xs
whole_changes [] h k = tt
whole_changes (x ∷ xs) h k = (record { changed = h.0; spelled = k.0 }, whole_changes xs h.1 k.1)

message_on : (m : Message) → IsMessage m → IsSpelled m → (rest : Option (List ℕ))
    → message_behind (message_word m) (on (message_parts m) rest) ≡ Ok (m, rest)
unfolding message_behind proposal_at order_at view_at changes_at
message_on (Join n launch) h k rest =
    rw (takes name n h.0 (on (decimal launch ∷ []) rest), takes number launch h.1 rest) refl
message_on (Rows n launch rows) h k rest =
    rw (
      takes name n h.0 (on (decimal launch ∷ decimal (length rows) ∷ map known_text rows) rest),
      takes number launch h.1 (on (decimal (length rows) ∷ map known_text rows) rest),
      takes number (length rows) h.2.count (on (map known_text rows) rest),
      all_reads known_all known_items None rows h.2.rows (rises_chain known_number rows k) rest,
    ) refl
message_on (Propose p) h k rest =
    rw (
      takes name p.proposer h.proposer
          (on (decimal p.launch ∷ decimal p.serial ∷ decimal p.instance ∷ decimal p.number ∷ step_text p.step ∷ [])
          rest),
      takes number p.launch h.launch
          (on (decimal p.serial ∷ decimal p.instance ∷ decimal p.number ∷ step_text p.step ∷ []) rest),
      takes number p.serial h.serial (on (decimal p.instance ∷ decimal p.number ∷ step_text p.step ∷ []) rest),
      takes number p.instance h.instance (on (decimal p.number ∷ step_text p.step ∷ []) rest),
      takes number p.number h.number (on (step_text p.step ∷ []) rest),
      step_is_read p.step h.step rest,
    ) refl
message_on (Ack n launch serial instance row) h k rest =
    rw (
      takes name n h.0.name (on (decimal launch ∷ decimal serial ∷ decimal instance ∷ row_text row ∷ []) rest),
      takes number launch h.0.launch (on (decimal serial ∷ decimal instance ∷ row_text row ∷ []) rest),
      takes number serial h.0.serial (on (decimal instance ∷ row_text row ∷ []) rest),
      takes number instance h.0.instance (on (row_text row ∷ []) rest),
      row_is_read row h.1 rest,
    ) refl
message_on (Nack n launch serial instance why row) h k rest =
    rw (
      takes name n h.0.name
          (on (decimal launch ∷ decimal serial ∷ decimal instance ∷ why_text why ∷ map row_text (option_to_list row))
          rest),
      takes number launch h.0.launch
          (on (decimal serial ∷ decimal instance ∷ why_text why ∷ map row_text (option_to_list row)) rest),
      takes number serial h.0.serial
          (on (decimal instance ∷ why_text why ∷ map row_text (option_to_list row)) rest),
      takes number instance h.0.instance (on (why_text why ∷ map row_text (option_to_list row)) rest),
      takes fields.why why tt (on (map row_text (option_to_list row)) rest),
      row_if_on (has_row why) row k h.1 rest,
    )
    refl
message_on AskView h k rest = refl
message_on (Seen v) h k rest =
    rw (
      takes number v.revision h.revision (on (decimal (length v.items) ∷ map item_text v.items) rest),
      takes number (length v.items) h.count (on (map item_text v.items) rest),
      all_reads view_all view_items None v.items (whole_items v.items h.items k.bodies)
          (rises_chain item_number v.items k.rises) rest,
    ) refl
message_on (AskChange revision) h k rest = rw (takes number revision h rest) refl
message_on (Changes c) h k rest =
    rw (
      takes number c.from h.from (on (decimal c.to ∷ decimal (length c.items) ∷ map changed_text c.items) rest),
      takes number c.to h.to (on (decimal (length c.items) ∷ map changed_text c.items) rest),
      takes number (length c.items) h.count (on (map changed_text c.items) rest),
      all_reads change_all change_items None c.items (whole_changes c.items h.items k.changes)
          (rises_chain changed_number c.items k.rises) rest,
    ) refl
message_on (Ordered o) h k rest =
    rw (
      takes name o.restarter h.restarter
          (on (decimal o.instance ∷ o.name ∷ decimal o.revision ∷ row_text o.row ∷ what_text o.what ∷ []) rest),
      takes number o.instance h.instance
          (on (o.name ∷ decimal o.revision ∷ row_text o.row ∷ what_text o.what ∷ []) rest),
      takes name o.name h.name (on (decimal o.revision ∷ row_text o.row ∷ what_text o.what ∷ []) rest),
      takes number o.revision h.revision (on (row_text o.row ∷ what_text o.what ∷ []) rest),
      row_is_read o.row h.row (on (what_text o.what ∷ []) rest),
      what_is_read o.what h.what rest,
    ) refl

message_at_on : (m : Message) → IsMessage m → IsSpelled m → (rest : Option (List ℕ))
    → message_at (on (message_word_text (message_word m) ∷ message_parts m) rest) ≡ Ok (m, rest)
unfolding message_at
message_at_on m h k rest =
    rw (takes fields.message_word (message_word m) tt (on (message_parts m) rest), message_on m h k rest) refl

-- a message that is written first in a line is read from it
message_is_read : (m : Message) → IsMessage m → IsSpelled m → (rest : Option (List ℕ))
    → message_at (Some (message_text m ++ behind rest)) ≡ Ok (m, rest)
message_is_read m h k rest =
    ap (λ (l : List ℕ). message_at (Some l)) (spaced_on (message_word_text (message_word m)) (message_parts m) rest)
    ∙ message_at_on m h k rest

closed_on : (rest : Option (List ℕ)) → close_at (Some (codes "." ++ behind rest)) ≡ nothing_behind rest
unfolding close_at
closed_on rest = rw (takes fields.close tt tt rest) refl

line_on : (m : Message) → IsMessage m → IsSpelled m → whole_message (line_text m) ≡ Ok m
unfolding whole_message
line_on m h k = rw (message_is_read m h k (Some (codes ".")), closed_on None) refl

pub line_is_read : (m : Message) → IsMessage m → IsSpelled m → read_line (line_text m) ≡ Ok m
unfolding read_line
line_is_read m h k = rw (line_on m h k) refl

-- ---- read was written

record IsRowOf (is_there : Bool) (s : Option (List ℕ)) (row : Option Row) (rest : Option (List ℕ)) : Type 0 where
  line : s ≡ on (map row_text (option_to_list row)) rest
  there : is_some row ≡ is_there

row_if_was : (is_there : Bool) (s : Option (List ℕ)) (row : Option Row) (rest : Option (List ℕ))
    → row_if is_there s ≡ Ok (row, rest) → IsRowOf is_there s row rest
row_if_was false s row rest h =
    found_as (λ x r. IsRowOf false s x r) None row s rest h (record { line = refl; there = refl })
row_if_was true s row rest h =
    let a = bind_ok (row_at s) _ _ h in
    found_as (λ x r. IsRowOf true s x r) (Some a.0.0) row a.0.1 rest a.2
    (record { line = row_was s a.0.0 a.0.1 a.1; there = refl })

record IsMessageOf (word : MessageWord) (s : Option (List ℕ)) (m : Message) (rest : Option (List ℕ)) : Type 0 where
  line : s ≡ on (message_parts m) rest
  of : message_word m ≡ word
  spelled : IsSpelled m

join_was : (s : Option (List ℕ)) (m : Message) (rest : Option (List ℕ)) → message_behind words.Join s ≡ Ok (m, rest)
    → IsMessageOf words.Join s m rest
unfolding message_behind
join_was s m rest h =
    let a = bind_ok (next_field read_short s) _ _ h in
    let b = bind_ok (next_field read_count a.0.1) _ _ a.2 in
    let ta = took name s a.0.0 a.0.1 a.1 in
    let tb = took number a.0.1 b.0.0 b.0.1 b.1 in
    found_as (λ x r. IsMessageOf words.Join s x r) (Join a.0.0 b.0.0) m b.0.1 rest b.2
    (record { line = joins s a.0.1 _ a.0.0 ta.line tb.line; of = refl; spelled = tt })

rows_was : (s : Option (List ℕ)) (m : Message) (rest : Option (List ℕ)) → message_behind words.Rows s ≡ Ok (m, rest)
    → IsMessageOf words.Rows s m rest
unfolding message_behind
rows_was s m rest h =
    let a = bind_ok (next_field read_short s) _ _ h in
    let b = bind_ok (next_field read_count a.0.1) _ _ a.2 in
    let c = bind_ok (next_field read_count b.0.1) _ _ b.2 in
    let d = bind_ok (all_known_at None c.0.0 c.0.1) _ _ c.2 in
    let ta = took name s a.0.0 a.0.1 a.1 in
    let tb = took number a.0.1 b.0.0 b.0.1 b.1 in
    let tc = took number b.0.1 c.0.0 c.0.1 c.1 in
    let rows = all_found known_all known_items c.0.0 None c.0.1 d.0.0 d.0.1 d.1 in
    let counted : s ≡ on (a.0.0 ∷ decimal b.0.0 ∷ decimal c.0.0 ∷ map known_text d.0.0) d.0.1 =
    joins s a.0.1 _ a.0.0 ta.line
    (joins a.0.1 b.0.1 _ (decimal b.0.0) tb.line (joins b.0.1 c.0.1 _ (decimal c.0.0) tc.line rows.line)) in
    let line : s ≡ on (a.0.0 ∷ decimal b.0.0 ∷ decimal (length d.0.0) ∷ map known_text d.0.0) d.0.1 =
    counted ∙ ap (λ (n : ℕ). on (a.0.0 ∷ decimal b.0.0 ∷ decimal n ∷ map known_text d.0.0) d.0.1)
    (sym rows.count) in
    found_as (λ x r. IsMessageOf words.Rows s x r) (Rows a.0.0 b.0.0 d.0.0) m d.0.1 rest d.2
    (record { line = line; of = refl; spelled = chain_rises known_number None d.0.0 rows.chain })

propose_was : (s : Option (List ℕ)) (m : Message) (rest : Option (List ℕ))
    → message_behind words.Propose s ≡ Ok (m, rest) → IsMessageOf words.Propose s m rest
unfolding message_behind proposal_at
propose_was s m rest h =
    let p = bind_ok (proposal_at s) _ _ h in
    let a = bind_ok (next_field read_short s) _ _ p.1 in
    let b = bind_ok (next_field read_count a.0.1) _ _ a.2 in
    let c = bind_ok (next_field read_count b.0.1) _ _ b.2 in
    let d = bind_ok (next_field read_count c.0.1) _ _ c.2 in
    let e = bind_ok (next_field read_count d.0.1) _ _ d.2 in
    let f = bind_ok (step_at e.0.1) _ _ e.2 in
    let ta = took name s a.0.0 a.0.1 a.1 in
    let tb = took number a.0.1 b.0.0 b.0.1 b.1 in
    let tc = took number b.0.1 c.0.0 c.0.1 c.1 in
    let td = took number c.0.1 d.0.0 d.0.1 d.1 in
    let te = took number d.0.1 e.0.0 e.0.1 e.1 in
    let lf = step_was e.0.1 f.0.0 f.0.1 f.1 in
    let line : s ≡ on (a.0.0 ∷ decimal b.0.0 ∷ decimal c.0.0 ∷ decimal d.0.0 ∷ decimal e.0.0 ∷ step_text f.0.0 ∷ [])
    f.0.1 = joins s a.0.1 _ a.0.0 ta.line
    (joins a.0.1 b.0.1 _ (decimal b.0.0) tb.line
    (joins b.0.1 c.0.1 _ (decimal c.0.0) tc.line
    (joins c.0.1 d.0.1 _ (decimal d.0.0) td.line (joins d.0.1 e.0.1 _ (decimal e.0.0) te.line lf)))) in
    let made : IsMessageOf words.Propose s (Propose p.0.0) p.0.1 =
    found_as (λ (x : Proposal) r. IsMessageOf words.Propose s (Propose x) r)
    (record { proposer = a.0.0; launch = b.0.0; serial = c.0.0; instance = d.0.0; number = e.0.0; step = f.0.0 })
    p.0.0 f.0.1 p.0.1 f.2 (record { line = line; of = refl; spelled = tt }) in
    found_as (λ x r. IsMessageOf words.Propose s x r) (Propose p.0.0) m p.0.1 rest p.2 made

ack_was : (s : Option (List ℕ)) (m : Message) (rest : Option (List ℕ)) → message_behind words.Ack s ≡ Ok (m, rest)
    → IsMessageOf words.Ack s m rest
unfolding message_behind
ack_was s m rest h =
    let a = bind_ok (next_field read_short s) _ _ h in
    let b = bind_ok (next_field read_count a.0.1) _ _ a.2 in
    let c = bind_ok (next_field read_count b.0.1) _ _ b.2 in
    let d = bind_ok (next_field read_count c.0.1) _ _ c.2 in
    let e = bind_ok (row_at d.0.1) _ _ d.2 in
    let ta = took name s a.0.0 a.0.1 a.1 in
    let tb = took number a.0.1 b.0.0 b.0.1 b.1 in
    let tc = took number b.0.1 c.0.0 c.0.1 c.1 in
    let td = took number c.0.1 d.0.0 d.0.1 d.1 in
    let le = row_was d.0.1 e.0.0 e.0.1 e.1 in
    let line : s ≡ on (a.0.0 ∷ decimal b.0.0 ∷ decimal c.0.0 ∷ decimal d.0.0 ∷ row_text e.0.0 ∷ []) e.0.1 =
    joins s a.0.1 _ a.0.0 ta.line
    (joins a.0.1 b.0.1 _ (decimal b.0.0) tb.line
    (joins b.0.1 c.0.1 _ (decimal c.0.0) tc.line (joins c.0.1 d.0.1 _ (decimal d.0.0) td.line le))) in
    found_as (λ x r. IsMessageOf words.Ack s x r) (Ack a.0.0 b.0.0 c.0.0 d.0.0 e.0.0) m e.0.1 rest e.2
    (record { line = line; of = refl; spelled = tt })

nack_was : (s : Option (List ℕ)) (m : Message) (rest : Option (List ℕ)) → message_behind words.Nack s ≡ Ok (m, rest)
    → IsMessageOf words.Nack s m rest
unfolding message_behind
nack_was s m rest h =
    let a = bind_ok (next_field read_short s) _ _ h in
    let b = bind_ok (next_field read_count a.0.1) _ _ a.2 in
    let c = bind_ok (next_field read_count b.0.1) _ _ b.2 in
    let d = bind_ok (next_field read_count c.0.1) _ _ c.2 in
    let e = bind_ok (next_field read_why d.0.1) _ _ d.2 in
    let f = bind_ok (row_if (has_row e.0.0) e.0.1) _ _ e.2 in
    let ta = took name s a.0.0 a.0.1 a.1 in
    let tb = took number a.0.1 b.0.0 b.0.1 b.1 in
    let tc = took number b.0.1 c.0.0 c.0.1 c.1 in
    let td = took number c.0.1 d.0.0 d.0.1 d.1 in
    let te = took fields.why d.0.1 e.0.0 e.0.1 e.1 in
    let row = row_if_was (has_row e.0.0) e.0.1 f.0.0 f.0.1 f.1 in
    let line : s ≡ on
    (a.0.0 ∷ decimal b.0.0 ∷ decimal c.0.0 ∷ decimal d.0.0 ∷ why_text e.0.0 ∷ map row_text (option_to_list f.0.0))
    f.0.1 = joins s a.0.1 _ a.0.0 ta.line
    (joins a.0.1 b.0.1 _ (decimal b.0.0) tb.line
    (joins b.0.1 c.0.1 _ (decimal c.0.0) tc.line
    (joins c.0.1 d.0.1 _ (decimal d.0.0) td.line (joins d.0.1 e.0.1 _ (why_text e.0.0) te.line row.line)))) in
    found_as (λ x r. IsMessageOf words.Nack s x r) (Nack a.0.0 b.0.0 c.0.0 d.0.0 e.0.0 f.0.0) m f.0.1 rest f.2
    (record { line = line; of = refl; spelled = row.there })

view_was : (s : Option (List ℕ)) (m : Message) (rest : Option (List ℕ)) → message_behind words.View s ≡ Ok (m, rest)
    → IsMessageOf words.View s m rest
unfolding message_behind view_at
view_was s m rest h =
    let p = bind_ok (view_at s) _ _ h in
    let a = bind_ok (next_field read_count s) _ _ p.1 in
    let b = bind_ok (next_field read_count a.0.1) _ _ a.2 in
    let c = bind_ok (items_at None b.0.0 b.0.1) _ _ b.2 in
    let ta = took number s a.0.0 a.0.1 a.1 in
    let tb = took number a.0.1 b.0.0 b.0.1 b.1 in
    let items = all_found view_all view_items b.0.0 None b.0.1 c.0.0 c.0.1 c.1 in
    let counted : s ≡ on (decimal a.0.0 ∷ decimal b.0.0 ∷ map item_text c.0.0) c.0.1 =
    joins s a.0.1 _ (decimal a.0.0) ta.line (joins a.0.1 b.0.1 _ (decimal b.0.0) tb.line items.line) in
    let line : s ≡ on (decimal a.0.0 ∷ decimal (length c.0.0) ∷ map item_text c.0.0) c.0.1 =
    counted ∙ ap (λ (n : ℕ). on (decimal a.0.0 ∷ decimal n ∷ map item_text c.0.0) c.0.1) (sym items.count) in
    let spelled : IsSpelled (Seen (record { revision = a.0.0; items = c.0.0 })) =
    record { rises = chain_rises item_number None c.0.0 items.chain; bodies = items.each } in
    let made : IsMessageOf words.View s (Seen p.0.0) p.0.1 =
    found_as (λ (x : View) r. IsMessageOf words.View s (Seen x) r)
    (record { revision = a.0.0; items = c.0.0 }) p.0.0 c.0.1 p.0.1 c.2
    (record { line = line; of = refl; spelled = spelled }) in
    found_as (λ x r. IsMessageOf words.View s x r) (Seen p.0.0) m p.0.1 rest p.2 made

ask_change_was : (s : Option (List ℕ)) (m : Message) (rest : Option (List ℕ))
    → message_behind words.AskChange s ≡ Ok (m, rest) → IsMessageOf words.AskChange s m rest
unfolding message_behind
ask_change_was s m rest h =
    let a = bind_ok (next_field read_count s) _ _ h in
    let ta = took number s a.0.0 a.0.1 a.1 in
    found_as (λ x r. IsMessageOf words.AskChange s x r) (AskChange a.0.0) m a.0.1 rest a.2
    (record { line = ta.line; of = refl; spelled = tt })

changes_was : (s : Option (List ℕ)) (m : Message) (rest : Option (List ℕ))
    → message_behind words.Changes s ≡ Ok (m, rest) → IsMessageOf words.Changes s m rest
unfolding message_behind changes_at
changes_was s m rest h =
    let p = bind_ok (changes_at s) _ _ h in
    let a = bind_ok (next_field read_count s) _ _ p.1 in
    let b = bind_ok (next_field read_count a.0.1) _ _ a.2 in
    let c = bind_ok (next_field read_count b.0.1) _ _ b.2 in
    let d = bind_ok (all_changed_at None c.0.0 c.0.1) _ _ c.2 in
    let ta = took number s a.0.0 a.0.1 a.1 in
    let tb = took number a.0.1 b.0.0 b.0.1 b.1 in
    let tc = took number b.0.1 c.0.0 c.0.1 c.1 in
    let items = all_found change_all change_items c.0.0 None c.0.1 d.0.0 d.0.1 d.1 in
    let counted : s ≡ on (decimal a.0.0 ∷ decimal b.0.0 ∷ decimal c.0.0 ∷ map changed_text d.0.0) d.0.1 =
    joins s a.0.1 _ (decimal a.0.0) ta.line
    (joins a.0.1 b.0.1 _ (decimal b.0.0) tb.line (joins b.0.1 c.0.1 _ (decimal c.0.0) tc.line items.line)) in
    let line : s ≡ on (decimal a.0.0 ∷ decimal b.0.0 ∷ decimal (length d.0.0) ∷ map changed_text d.0.0) d.0.1 =
    counted ∙ ap (λ (n : ℕ). on (decimal a.0.0 ∷ decimal b.0.0 ∷ decimal n ∷ map changed_text d.0.0) d.0.1)
    (sym items.count) in
    let spelled : IsSpelled (Changes (record { from = a.0.0; to = b.0.0; items = d.0.0 })) =
    record { rises = chain_rises changed_number None d.0.0 items.chain; changes = items.each } in
    let made : IsMessageOf words.Changes s (Changes p.0.0) p.0.1 =
    found_as (λ (x : ViewChanges) r. IsMessageOf words.Changes s (Changes x) r)
    (record { from = a.0.0; to = b.0.0; items = d.0.0 }) p.0.0 d.0.1 p.0.1 d.2
    (record { line = line; of = refl; spelled = spelled }) in
    found_as (λ x r. IsMessageOf words.Changes s x r) (Changes p.0.0) m p.0.1 rest p.2 made

order_was : (s : Option (List ℕ)) (m : Message) (rest : Option (List ℕ)) → message_behind words.Order s ≡ Ok (m, rest)
    → IsMessageOf words.Order s m rest
unfolding message_behind order_at
order_was s m rest h =
    let p = bind_ok (order_at s) _ _ h in
    let a = bind_ok (next_field read_short s) _ _ p.1 in
    let b = bind_ok (next_field read_count a.0.1) _ _ a.2 in
    let c = bind_ok (next_field read_short b.0.1) _ _ b.2 in
    let d = bind_ok (next_field read_count c.0.1) _ _ c.2 in
    let e = bind_ok (row_at d.0.1) _ _ d.2 in
    let f = bind_ok (what_at e.0.1) _ _ e.2 in
    let ta = took name s a.0.0 a.0.1 a.1 in
    let tb = took number a.0.1 b.0.0 b.0.1 b.1 in
    let tc = took name b.0.1 c.0.0 c.0.1 c.1 in
    let td = took number c.0.1 d.0.0 d.0.1 d.1 in
    let le = row_was d.0.1 e.0.0 e.0.1 e.1 in
    let lf = what_was e.0.1 f.0.0 f.0.1 f.1 in
    let line : s ≡ on (a.0.0 ∷ decimal b.0.0 ∷ c.0.0 ∷ decimal d.0.0 ∷ row_text e.0.0 ∷ what_text f.0.0 ∷ []) f.0.1 =
    joins s a.0.1 _ a.0.0 ta.line
    (joins a.0.1 b.0.1 _ (decimal b.0.0) tb.line
    (joins b.0.1 c.0.1 _ c.0.0 tc.line
    (joins c.0.1 d.0.1 _ (decimal d.0.0) td.line (joins d.0.1 e.0.1 _ (row_text e.0.0) le lf)))) in
    let made : IsMessageOf words.Order s (Ordered p.0.0) p.0.1 =
    found_as (λ (x : Order) r. IsMessageOf words.Order s (Ordered x) r)
    (record { restarter = a.0.0; instance = b.0.0; name = c.0.0; revision = d.0.0; row = e.0.0; what = f.0.0 })
    p.0.0 f.0.1 p.0.1 f.2 (record { line = line; of = refl; spelled = tt }) in
    found_as (λ x r. IsMessageOf words.Order s x r) (Ordered p.0.0) m p.0.1 rest p.2 made

message_found : (word : MessageWord) (s : Option (List ℕ)) (m : Message) (rest : Option (List ℕ))
    → message_behind word s ≡ Ok (m, rest) → IsMessageOf word s m rest
unfolding message_behind
message_found words.Join s m rest h = join_was s m rest h
message_found words.Rows s m rest h = rows_was s m rest h
message_found words.Propose s m rest h = propose_was s m rest h
message_found words.Ack s m rest h = ack_was s m rest h
message_found words.Nack s m rest h = nack_was s m rest h
message_found words.AskView s m rest h =
    found_as (λ x r. IsMessageOf words.AskView s x r) AskView m s rest h
    (record { line = refl; of = refl; spelled = tt })
message_found words.View s m rest h = view_was s m rest h
message_found words.AskChange s m rest h = ask_change_was s m rest h
message_found words.Changes s m rest h = changes_was s m rest h
message_found words.Order s m rest h = order_was s m rest h

message_was : (s : Option (List ℕ)) (m : Message) (rest : Option (List ℕ)) → message_at s ≡ Ok (m, rest)
    → IsTaken message_text IsSpelled s m rest
unfolding message_at
message_was s m rest h =
    let a = bind_ok (next_field read_message_word s) _ _ h in
    let t = took fields.message_word s a.0.0 a.0.1 a.1 in
    let f = message_found a.0.0 a.0.1 m rest a.2 in
    let line : s ≡ on (message_word_text a.0.0 ∷ message_parts m) rest =
    joins s a.0.1 (on (message_parts m) rest) (message_word_text a.0.0) t.line f.line in
    record {
      line = as_text s (message_word_text (message_word m)) (message_parts m) rest
          (line ∙ ap (λ (w : MessageWord). on (message_word_text w ∷ message_parts m) rest) (sym f.of));
      inside = f.spelled;
    }

nothing_was : (rest : Option (List ℕ)) (x : Unit {0}) → nothing_behind rest ≡ Ok x → rest ≡ None
nothing_was None x h = refl
nothing_was (Some rest) x h = cc

closed_was : (s : Option (List ℕ)) (x : Unit {0}) → close_at s ≡ Ok x → s ≡ Some (codes ".")
unfolding close_at
closed_was s x h =
    let a = bind_ok (next_field read_close s) _ _ h in
    let t = took fields.close s a.0.0 a.0.1 a.1 in
    t.line ∙ ap (λ (r : Option (List ℕ)). Some (codes "." ++ behind r)) (nothing_was a.0.1 x a.2)

some_is : {X : Type 0} (x y : X) → ◌≡◌ {A = Option X} (Some x) (Some y) → x ≡ y
some_is x y h = cc

record IsLineOf (line : List ℕ) (m : Message) : Type 0 where
  text : line ≡ line_text m
  spelled : IsSpelled m

message_is : (x y : Message) → ◌≡◌ {A = Result Message ℕ} (Ok x) (Ok y) → x ≡ y
message_is x y h = cc

whole_was : (line : List ℕ) (m : Message) → whole_message line ≡ Ok m → IsLineOf line m
unfolding whole_message
whole_was line m h =
    let a = bind_ok (message_at (Some line)) _ _ h in
    let b = bind_ok (close_at a.0.1) _ _ a.2 in
    let t = message_was (Some line) a.0.0 a.0.1 a.1 in
    let closed = closed_was a.0.1 b.0 b.1 in
    let P : Message → Type 0 = λ x. IsLineOf line x in
    subst P (message_is a.0.0 m b.2)
    (record {
      text = some_is line (line_text a.0.0)
          (t.line ∙ ap (λ (r : Option (List ℕ)). Some (message_text a.0.0 ++ behind r)) closed);
      spelled = t.inside;
    })

placed_ok : (size : ℕ) (r : Result Message ℕ) (m : Message) → with_place_of_fault size r ≡ Ok m → r ≡ Ok m
placed_ok size (Ok x) m h = let is : x ≡ m = cc in ap (λ (y : Message). Ok y) is
placed_ok size (Err e) m h = cc

line_was : (line : List ℕ) (m : Message) → read_line line ≡ Ok m → IsLineOf line m
unfolding read_line
line_was line m h = whole_was line m (placed_ok (length line) (whole_message line) m h)

pub line_text_was : (line : List ℕ) (m : Message) → read_line line ≡ Ok m → line ≡ line_text m
line_text_was line m h = (line_was line m h).text

pub line_spelled : (line : List ℕ) (m : Message) → read_line line ≡ Ok m → IsSpelled m
line_spelled line m h = (line_was line m h).spelled

-- ---- no line begins another

-- if a line goes on after the close, it is no close
ends_at : (tail : List ℕ) (x : Unit {0}) → close_at (Some (codes "." ++ tail)) ≡ Ok x → tail ≡ []
ends_at tail x h = let is : 46 ∷ tail ≡ 46 ∷ [] = some_is _ _ (closed_was (Some (codes "." ++ tail)) x h) in cc

whole_ends : (m n : Message) (tail : List ℕ) → IsMessage m → IsSpelled m → whole_message (line_text m ++ tail) ≡ Ok n
    → tail ≡ []
unfolding whole_message
whole_ends m n tail h k e =
    let line : line_text m ++ tail ≡ message_text m ++ behind (Some (codes "." ++ tail)) =
    append_assoc (message_text m) (codes " .") tail in
    let first : message_at (Some (line_text m ++ tail)) ≡ Ok (m, Some (codes "." ++ tail)) =
    ap (λ (l : List ℕ). message_at (Some l)) line ∙ message_is_read m h k (Some (codes "." ++ tail)) in
    let a = bind_ok (message_at (Some (line_text m ++ tail))) _ _ e in
    let b = bind_ok (close_at a.0.1) _ _ a.2 in
    let is : a.0.1 ≡ Some (codes "." ++ tail) = left_is a.0.0 m a.0.1 (Some (codes "." ++ tail)) (sym a.1 ∙ first) in
    ends_at tail b.0 (ap close_at (sym is) ∙ b.1)
  where
    left_is : (x y : Message) (r t : Option (List ℕ)) → ◌≡◌ {A = Field Message} (Ok (x, r)) (Ok (y, t)) → r ≡ t
    left_is x y r t q = found_as (λ z u. r ≡ u) x y r t q refl

pub no_line_goes_on : (m n : Message) (tail : List ℕ) → IsMessage m → IsSpelled m → IsMessage n → IsSpelled n
    → line_text n ≡ line_text m ++ tail → tail ≡ []
no_line_goes_on m n tail h k i j e = whole_ends m n tail h k (ap whole_message (sym e) ∙ line_on n i j)
