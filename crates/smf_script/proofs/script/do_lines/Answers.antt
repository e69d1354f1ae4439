use Rattle.std.proofs.Common.{refl}
use Rattle.std.proofs.lemmas.Result.{err_from_is_err_and}
use Rattle.smf_lines.proofs.Heard.{no_failure}
use Rattle.smf_script.proofs.Steps.{few_lines, goes_on, goes_to_end, stops_doing, stops_reading}
use Rattle.smf_world.proofs.LaterWorlds.{later_then}
use Rattle.smf_script.proofs.script.do_lines.Goals as goal

pub returns-in_err-read_line-clause-err : goal.returns-in_err-read_line-clause-err
returns-in_err-read_line-clause-err g c =
    let p = err_from_is_err_and c.from_residual.result c.from_residual.ensures.1 in
    rw (p.1, p.2)
    (stops_reading g.K.Kids.skills g.J.Journal.write_fails _ _ _ _ _ _ _
    _ _ _ _ _
    c.loop-selection.invariant.so_far c.in_err-read_line.ensures.err)

pub returns-in-None-clause-ran : goal.returns-in-None-clause-ran
returns-in-None-clause-ran g c =
    goes_to_end g.K.Kids.skills _ _ _ _ _ _ _
    _ _ _ _ _ _ c.loop-selection.invariant.so_far
    (rw c.in-None.is at c.in_ok-read_line.ensures.exact) c.status_of.ensures.value

pub returns-in-None-clause-few : goal.returns-in-None-clause-few
returns-in-None-clause-few g c =
    few_lines g.K.Kids.skills _ _ _ _ _ c.read_line.new.turns.left c.read_line.new.turns.interrupted _ _
    _ _ _ _ _ _ _
    c.loop-selection.invariant.so_far (rw c.in-None.is at c.in_ok-read_line.ensures.exact) refl
    (c.in_ok-read_line.ensures.interrupted _ c.loop-selection.invariant.interrupted)

pub returns-in_err-did-in-Some-clause-err : goal.returns-in_err-did-in-Some-clause-err
returns-in_err-did-in-Some-clause-err g c =
    let p = err_from_is_err_and c.from_residual-in_err-did-in-Some.result
    c.from_residual-in_err-did-in-Some.ensures.1 in
    rw (p.1, p.2)
    (stops_doing g.K.Kids.skills g.J.Journal.write_fails _ _ _ _ _ _ _
    _ _ _ _ _ _ _
    _ _ _ _
    c.loop-selection.invariant.so_far
    (rw c.in-Some.is at c.in_ok-read_line.ensures.exact) (rw c.deref.ensures.value at c.in_err-did-in-Some.ensures.err))

pub returns-in_err-did-in-Some-clause-later : goal.returns-in_err-did-in-Some-clause-later
returns-in_err-did-in-Some-clause-later g c =
    later_then _ _ _ c.loop-selection.invariant.later c.in_err-did-in-Some.ensures.later

pub loop-selection-preserved : goal.loop-selection-preserved
loop-selection-preserved g c =
    record {
      so_far = goes_on g.K.Kids.skills _ _ _ _ _ _ _
          _ _ _ _ _ _ _
          _ _ _ _ _ c.loop-selection.invariant.so_far
          (rw c.in-Some.is at c.in_ok-read_line.ensures.exact)
          (rw c.deref.ensures.value at c.in_ok-did-in-Some.ensures.exact);
      later = later_then _ _ _ c.loop-selection.invariant.later c.in_ok-did-in-Some.ensures.later;
      interrupted = c.in_ok-read_line.ensures.interrupted _ c.loop-selection.invariant.interrupted;
      failed = no_failure _ _ _ _ _ c.in_ok-read_line.was c.read_line.ensures.failed c.loop-selection.invariant.failed;
    }
