use Rattle.std.proofs.Common.{◌≡◌, List, ℕ, [], option_map, string_bytes, subst, sym, ◌∙◌, arith, rules}
use Rattle.smf_chronicle.specs.declared.entry.Entry.{Entry}
use Rattle.smf_chronicle.proofs.ManyLines.{IsReading, all_read, err_only, err_unlinked, filled, none_read, one_more, over, shorter}
use Rattle.smf_chronicle.proofs.lines.read_lines.Goals as goal

pub loop-rest-init : goal.loop-rest-init
loop-rest-init c =
    let P : List Entry → Type 0 = λ es.
    IsReading (option_map string_bytes c.args.link) c.args.text.now es (option_map string_bytes c.args.link)
    c.args.text.now in
    record {
      text = search rules;
      reading = subst P (sym c.new-entries.ensures.items) (none_read (option_map string_bytes c.args.link) c.args.text.now);
    }

pub loop-rest-preserved : goal.loop-rest-preserved
loop-rest-preserved c =
    let P : List Entry → Type 0 = λ es.
    IsReading (option_map string_bytes c.args.link) c.args.text.now es (option_map string_bytes c.in-Ok.first.1)
    c.in-Ok.first.2.now in
    record {
      text = search rules;
      reading = subst P (sym c.in_ok-push.ensures.items)
          (one_more (option_map string_bytes c.args.link) c.args.text.now c.loop-rest.entries.items
          (option_map string_bytes c.loop-rest.last) c.loop-rest.rest.now c.in-Ok.first.0
          (option_map string_bytes c.in-Ok.first.1) c.in-Ok.first.2.now c.loop-rest.invariant.reading
          c.in-Ok.ensures.first c.in-Ok.ensures.link);
    }

pub loop-rest-smaller : goal.loop-rest-smaller
loop-rest-smaller c =
    shorter (option_map string_bytes c.loop-rest.last) c.loop-rest.rest.now c.in-Ok.first.0
    (option_map string_bytes c.in-Ok.first.1) c.in-Ok.first.2.now c.in-Ok.ensures.first

pub returns-in-Err-clause-only : goal.returns-in-Err-clause-only
returns-in-Err-clause-only c =
    err_only (option_map string_bytes c.args.link) c.args.text.now c.loop-rest.entries.items
    (option_map string_bytes c.loop-rest.last) c.loop-rest.rest.now _ c.in-Err.fault c.fault_at.result
    c.loop-rest.invariant.reading (filled c.loop-rest.rest.now (sym c.has_more.ensures ∙ c.loop-rest-test.true))
    c.in-Err.ensures.first c.fault_at.ensures

pub returns-in-Err-clause-unlinked : goal.returns-in-Err-clause-unlinked
returns-in-Err-clause-unlinked c =
    err_unlinked (option_map string_bytes c.args.link) c.args.text.now c.loop-rest.entries.items
    (option_map string_bytes c.loop-rest.last) c.loop-rest.rest.now _ c.in-Err.fault c.fault_at.result
    c.loop-rest.invariant.reading (omega arith) c.in-Err.ensures.first c.fault_at.ensures

pub returns-clause-found : goal.returns-clause-found
returns-clause-found c =
    let P : List ℕ → Type 0 = λ rest.
    IsReading (option_map string_bytes c.args.link) c.args.text.now c.loop-rest.entries.items
    (option_map string_bytes c.loop-rest.last) rest in
    let r = subst P (over c.loop-rest.rest.now (sym c.has_more.ensures ∙ c.loop-rest-test.false))
    c.loop-rest.invariant.reading in
    r.so_far

pub returns-clause-only : goal.returns-clause-only
returns-clause-only c =
    let P : List ℕ → Type 0 = λ rest.
    IsReading (option_map string_bytes c.args.link) c.args.text.now c.loop-rest.entries.items
    (option_map string_bytes c.loop-rest.last) rest in
    all_read (option_map string_bytes c.args.link) c.args.text.now c.loop-rest.entries.items
    (option_map string_bytes c.loop-rest.last)
    (subst P (over c.loop-rest.rest.now (sym c.has_more.ensures ∙ c.loop-rest-test.false)) c.loop-rest.invariant.reading)
