use Rattle.std.proofs.Common.{◌≡◌, ◌≤◌, ◌<◌, ◌+◌, ◌-◌, ◌*◌, take, sym, arith}
use Rattle.std.proofs.lemmas.Option.{IfSome_then}
use Rattle.std.proofs.lemmas.Result.{err_from_is_err_and}
use Rattle.smf_lines.specs.Lines.{counts_of, lines_of}
use Rattle.smf_lines.proofs.Heard.{heard, no_failure}
use Rattle.smf_lines.proofs.Partly.{counts_begun, counts_line, counts_past, counts_some, ends, ends_at_last, goes_on, nothing_left, past_more, waits}
use Rattle.smf_lines.proofs.lines.read_line.Goals as goal

pub loop-line-preserved-in-Continue-branch-3 : goal.loop-line-preserved-in-Continue-branch-3
loop-line-preserved-in-Continue-branch-3 g c =
    record {
      room = c.in_ok-interrupt-in-Interrupted.ensures.room;
      short = c.take_part.ensures.short;
      turns = omega (
        arith,
        c.in_ok-interrupt-in-Interrupted.ensures.left,
        c.in_ok-interrupt-in-Interrupted.ensures.interrupted,
      );
      left = omega (arith, c.in_ok-interrupt-in-Interrupted.ensures.left);
      known = IfSome_then (g.R.LineReader.remaining c.args.reader.now) c.loop-line.invariant.known
          (λ xs part. waits _ _ _ _ _ _ _ part (rw c.in-Interrupted.is at c.in_ok-take_part.ensures.exact));
      interrupted =
          λ base at. heard _ _ _ _ _ _ _ c.in-Interrupted.is c.in_ok-take_part.was c.take_part.ensures.interrupted
          (omega (arith, c.in_ok-interrupt-in-Interrupted.ensures.interrupted)) base
          (c.loop-line.invariant.interrupted base at);
      failed = no_failure _ _ _ _ _ c.in_ok-take_part.was c.take_part.ensures.failed c.loop-line.invariant.failed;
    }

pub returns-in_err-interrupt-in-Interrupted-clause-err : goal.returns-in_err-interrupt-in-Interrupted-clause-err
returns-in_err-interrupt-in-Interrupted-clause-err g c =
    let p = err_from_is_err_and c.from_residual-in_err-interrupt-in-Interrupted.result
    c.from_residual-in_err-interrupt-in-Interrupted.ensures.1 in
    rw (p.1, p.2) (IfSome_then (g.R.LineReader.remaining c.args.reader.now) c.loop-line.invariant.known
    (λ xs part. past_more _ _ _ _ _ (sym c.loop-line.invariant.turns)
    (counts_begun _ _ _ _ part) c.in_err-interrupt-in-Interrupted.ensures.err))

pub returns-then-len-eq0-clause-exact : goal.returns-then-len-eq0-clause-exact
returns-then-len-eq0-clause-exact g c =
    IfSome_then (g.R.LineReader.remaining c.args.reader.now) c.loop-line.invariant.known
    (λ xs part. (
      nothing_left _ _ _ _ _ _ _ part (rw c.in-End.is at c.in_ok-take_part.ensures.exact) (omega arith),
      sym c.loop-line.invariant.turns,
    ))

pub returns-in_err-count-in-End-clause-err : goal.returns-in_err-count-in-End-clause-err
returns-in_err-count-in-End-clause-err g c =
    let p = err_from_is_err_and c.from_residual-in_err-count-in-End.result
    c.from_residual-in_err-count-in-End.ensures.1 in
    rw (p.1, p.2) (IfSome_then (g.R.LineReader.remaining c.args.reader.now) c.loop-line.invariant.known
    (λ xs part. past_more _ _ _ _ _ (sym c.loop-line.invariant.turns)
    (counts_some _ _ _ _ part (omega arith)) c.in_err-count-in-End.ensures.err))

pub returns-in-End-clause-exact : goal.returns-in-End-clause-exact
returns-in-End-clause-exact g c =
    IfSome_then (g.R.LineReader.remaining c.args.reader.now) c.loop-line.invariant.known
    (λ xs part. ends_at_last _ _ _ _ _ _ _
    _ _ part (rw c.in-End.is at c.in_ok-take_part.ensures.exact) (omega arith)
    (omega (arith, c.in_ok-count-in-End.ensures.left, c.in_ok-count-in-End.ensures.interrupted)))

pub returns-in_err-count-in-Line-clause-err : goal.returns-in_err-count-in-Line-clause-err
returns-in_err-count-in-Line-clause-err g c =
    let p = err_from_is_err_and c.from_residual-in_err-count-in-Line.result
    c.from_residual-in_err-count-in-Line.ensures.1 in
    rw (p.1, p.2) (IfSome_then (g.R.LineReader.remaining c.args.reader.now) c.loop-line.invariant.known
    (λ xs part. past_more _ _ _ _ _ (sym c.loop-line.invariant.turns)
    (counts_line _ _ _ _ _ _ _
    _ part (rw c.in-Line.is at c.in_ok-take_part.ensures.exact))
    c.in_err-count-in-Line.ensures.err))

pub returns-in-Line-clause-exact : goal.returns-in-Line-clause-exact
returns-in-Line-clause-exact g c =
    IfSome_then (g.R.LineReader.remaining c.args.reader.now) c.loop-line.invariant.known
    (λ xs part. ends _ _ _ _ _ _ _
    _ _ _ part (rw c.in-Line.is at c.in_ok-take_part.ensures.exact)
    (omega (arith, c.in_ok-count-in-Line.ensures.left, c.in_ok-count-in-Line.ensures.interrupted)))

pub returns-in-Bytes-eq0-clause-err : goal.returns-in-Bytes-eq0-clause-err
returns-in-Bytes-eq0-clause-err g c =
    IfSome_then (g.R.LineReader.remaining c.args.reader.now) c.loop-line.invariant.known
    (λ xs part.
    let none : c.in-Bytes-eq0.field-0 ≡ 0 = omega arith in
    let room : 65536 * c.loop-line.turns.left ≤ c.loop-line.len + (c.room.result - c.loop-line.len) = omega arith in
    let past : c.loop-line.turns.left < counts_of (take 1 (lines_of xs)) =
    counts_past _ _ _ _ _ _ _
    _ _ part (rw c.in-Bytes-eq0.is at c.in_ok-take_part.ensures.exact) none room in
    omega (arith, c.loop-line.invariant.turns))

pub loop-line-preserved : goal.loop-line-preserved
loop-line-preserved g c =
    let within : c.in-Bytes.n ≤ c.room.result - c.loop-line.len =
    rw c.in-Bytes.is at c.in_ok-take_part.ensures.within in
    record {
      room = omega (arith, c.loop-line.invariant.room);
      short = c.take_part.ensures.short;
      turns = c.loop-line.invariant.turns;
      left = c.loop-line.invariant.left;
      known = IfSome_then (g.R.LineReader.remaining c.args.reader.now) c.loop-line.invariant.known
          (λ xs part. goes_on _ _ _ _ _ _ _
          _ part (rw c.in-Bytes.is at c.in_ok-take_part.ensures.exact));
      interrupted =
          λ base at. heard _ _ _ _ _ _ _ c.in-Bytes.is c.in_ok-take_part.was c.take_part.ensures.interrupted
          (omega arith) base (c.loop-line.invariant.interrupted base at);
      failed = no_failure _ _ _ _ _ c.in_ok-take_part.was c.take_part.ensures.failed c.loop-line.invariant.failed;
    }
