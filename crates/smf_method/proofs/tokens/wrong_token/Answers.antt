use Rattle.std.proofs.Common.{◌+◌, drop, get_or, refl, sym}
use Rattle.smf_method.proofs.TokenSteps.{next_byte, nothing_left, scan_ends, scan_on, scan_stops}
use Rattle.smf_method.proofs.tokens.wrong_token.Goals as goal

pub returns-in-Err : goal.returns-in-Err
returns-in-Err c =
    let bytes = c.args.bytes.now in
    let i = c.loop-b.b-index in
    scan_stops bytes (drop i bytes) (drop (i + 1) bytes) c.loop-b.percent c.loop-b.at
    (get_or bytes i 0) c.in-Err.place c.loop-b.invariant.scanned (next_byte bytes i c.loop-b-test.true)
    (sym c.in-Err.ensures)

pub loop-b-preserved : goal.loop-b-preserved
loop-b-preserved c =
    let bytes = c.args.bytes.now in
    let i = c.loop-b.b-index in
    record {
      at_index = rw c.loop-b.invariant.at_index refl;
      scanned = scan_on bytes (drop i bytes) (drop (i + 1) bytes) c.loop-b.percent c.in-Ok.next c.loop-b.at
          (get_or bytes i 0) c.loop-b.invariant.scanned (next_byte bytes i c.loop-b-test.true) (sym c.in-Ok.ensures);
    }

pub returns : goal.returns
returns c = scan_ends c.args.bytes.now (drop c.loop-b.b-index c.args.bytes.now) c.loop-b.percent c.loop-b.at
    c.loop-b.invariant.scanned (nothing_left _ _ c.loop-b-test.false)
