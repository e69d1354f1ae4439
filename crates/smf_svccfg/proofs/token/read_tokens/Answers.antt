use Rattle.std.proofs.Common.{◌+◌, drop, get_or, refl}
use Rattle.std.proofs.lemmas.Result.{err_from_is_err_and}
use Rattle.smf_svccfg.specs.Tokens.{tokens_at_end, tokens_of}
use Rattle.smf_svccfg.proofs.TokenReads.{begin_read, fault_stops, finish_gives, next_in, nothing_in, read_ends, read_on, word_ends, word_is_text}
use Rattle.smf_svccfg.proofs.token.read_tokens.Goals as goal

pub loop-b-init : goal.loop-b-init
loop-b-init c = record { at_index = refl; read = rw c.new-reader.ensures (begin_read c.args.line.now c.utf8.line) }

pub step-requires : goal.step-requires
step-requires c = λ low.
    let line = c.args.line.now in
    let bytes = c.as_bytes-b-items.result.now in
    let i = c.loop-b.b-index in
    word_is_text line (drop i line) (drop (i + 1) line) c.loop-b.reader c.loop-b.at
    (get_or bytes i 0) c.loop-b.invariant.read
    (next_in bytes line i c.as_bytes-b-items.ensures.value c.loop-b-test.true) low

pub returns-in_err-step : goal.returns-in_err-step
returns-in_err-step c =
    let line = c.args.line.now in
    let bytes = c.as_bytes-b-items.result.now in
    let i = c.loop-b.b-index in
    let p = err_from_is_err_and c.from_residual.result c.from_residual.ensures.1 in
    rw (p.1, p.2)
    (fault_stops line (drop i line) (drop (i + 1) line) c.loop-b.reader c.loop-b.at
    (get_or bytes i 0) c.in_err-step.field-0.0 c.loop-b.invariant.read
    (next_in bytes line i c.as_bytes-b-items.ensures.value c.loop-b-test.true) c.in_err-step.ensures)

pub loop-b-preserved : goal.loop-b-preserved
loop-b-preserved c =
    let line = c.args.line.now in
    let bytes = c.as_bytes-b-items.result.now in
    let i = c.loop-b.b-index in
    record {
      at_index = rw c.loop-b.invariant.at_index refl;
      read = read_on line (drop i line) (drop (i + 1) line) c.loop-b.reader c.step.new.self c.loop-b.at
          (get_or bytes i 0) c.loop-b.invariant.read
          (next_in bytes line i c.as_bytes-b-items.ensures.value c.loop-b-test.true) c.in_ok-step.ensures;
    }

pub finish-requires : goal.finish-requires
finish-requires c =
    let line = c.args.line.now in
    let bytes = c.as_bytes-b-items.result.now in
    let i = c.loop-b.b-index in
    word_ends line (drop i line) c.loop-b.reader c.loop-b.at c.loop-b.invariant.read
    (nothing_in bytes line i c.as_bytes-b-items.ensures.value c.loop-b-test.false)

pub returns : goal.returns
returns c =
    let line = c.args.line.now in
    let bytes = c.as_bytes-b-items.result.now in
    let i = c.loop-b.b-index in
    finish_gives c.finish.result (tokens_at_end c.loop-b.reader) (tokens_of line) c.finish.ensures
    (read_ends line (drop i line) c.loop-b.reader c.loop-b.at c.loop-b.invariant.read
    (nothing_in bytes line i c.as_bytes-b-items.ensures.value c.loop-b-test.false))
