use Rattle.std.proofs.Common.{refl, sym, arith, rules}
use Rattle.std.proofs.lemmas.Result.{err_from_is_err_and}
use Rattle.smf_lines.proofs.Heard.{no_failure}
use Rattle.smf_model.proofs.Turns.{edited_none, edited_then}
use Rattle.smf_script.proofs.CfgProgress.{ends_by_reader, ends_by_session, few_by_reader, few_by_session, goes_first, goes_on, stops_doing, stops_reading}
use Rattle.smf_script.proofs.cfg_run.run_cfg.Goals as goal

pub loop-selection-init : goal.loop-selection-init
loop-selection-init g c =
    record {
      so_far = goes_first _ _ _ _ _ _ (omega arith) (omega arith);
      edits = edited_none _ _ _ _ refl;
      interrupted = search rules;
      failed = refl;
    }

pub returns-in_err-read_line-clause-err : goal.returns-in_err-read_line-clause-err
returns-in_err-read_line-clause-err g c =
    let p = err_from_is_err_and c.from_residual.result c.from_residual.ensures.1 in
    rw (p.1, p.2) (stops_reading _ _ _ _ _ _ _
    _ _ _ _ _ _ _
    c.loop-selection.invariant.so_far c.in_err-read_line.ensures.err)

pub returns-in-None-clause-ok : goal.returns-in-None-clause-ok
returns-in-None-clause-ok g c =
    ends_by_reader _ _ _ _ _ _ _
    _ _ _ _ _ _ _
    _ c.loop-selection.invariant.so_far (rw c.in-None.is at c.in_ok-read_line.ensures.exact) c.status_of.ensures

pub returns-in-None-clause-few : goal.returns-in-None-clause-few
returns-in-None-clause-few g c =
    few_by_reader _ _ _ _ _ _ _
    _ _ _ _ _ _ _
    _ _ _ _ c.loop-selection.invariant.so_far
    (rw c.in-None.is at c.in_ok-read_line.ensures.exact) refl
    (c.in_ok-read_line.ensures.interrupted _ c.loop-selection.invariant.interrupted)

pub returns-in_err-end-in-Some-clause-err : goal.returns-in_err-end-in-Some-clause-err
returns-in_err-end-in-Some-clause-err g c =
    let p = err_from_is_err_and c.from_residual-in_err-end-in-Some.result
    c.from_residual-in_err-end-in-Some.ensures.1 in
    rw (p.1, p.2) (stops_doing _ _ _ _ _ _ _
    _ _ _ _ _ _ _
    _ _ _ _ _ _
    c.loop-selection.invariant.so_far (rw c.in-Some.is at c.in_ok-read_line.ensures.exact)
    (rw c.in-Some.is at c.in_ok-read_line.ensures.fewer refl)
    (rw c.deref.ensures.value at c.in_err-end-in-Some.ensures.err))

pub returns-in_err-end-in-Some-clause-edits : goal.returns-in_err-end-in-Some-clause-edits
returns-in_err-end-in-Some-clause-edits g c =
    edited_then _ _ _ _ _ c.loop-selection.invariant.edits c.in_err-end-in-Some.ensures.edits

pub returns-then-end-clause-ok : goal.returns-then-end-clause-ok
returns-then-end-clause-ok g c =
    ends_by_session _ _ _ _ _ _ _
    _ _ _ _ _ _ _
    (goes_on _ _ _ _ _ _ _
    _ _ _ _ _ _ _
    _ _ _ _ _ _
    _ c.loop-selection.invariant.so_far (rw c.in-Some.is at c.in_ok-read_line.ensures.exact)
    (rw c.in-Some.is at c.in_ok-read_line.ensures.fewer refl)
    (rw c.deref.ensures.value at c.in_ok-end-in-Some.ensures.ok))
    c.if-end.true c.status_of-then-end.ensures

pub returns-then-end-clause-few : goal.returns-then-end-clause-few
returns-then-end-clause-few g c =
    few_by_session _ _ _ _ _ _ _
    _ _ _ _ _ _ _
    _ _ _
    (goes_on _ _ _ _ _ _ _
    _ _ _ _ _ _ _
    _ _ _ _ _ _
    _ c.loop-selection.invariant.so_far (rw c.in-Some.is at c.in_ok-read_line.ensures.exact)
    (rw c.in-Some.is at c.in_ok-read_line.ensures.fewer refl)
    (rw c.deref.ensures.value at c.in_ok-end-in-Some.ensures.ok))
    c.if-end.true refl (c.in_ok-read_line.ensures.interrupted _ c.loop-selection.invariant.interrupted)

pub returns-then-end-clause-edits : goal.returns-then-end-clause-edits
returns-then-end-clause-edits g c =
    edited_then _ _ _ _ _ c.loop-selection.invariant.edits c.in_ok-end-in-Some.ensures.edits

pub loop-selection-preserved : goal.loop-selection-preserved
loop-selection-preserved g c =
    record {
      so_far = rw (sym c.if-end.false) (goes_on _ _ _ _ _ _ _
          _ _ _ _ _ _ _
          _ _ _ _ _ _
          _ c.loop-selection.invariant.so_far (rw c.in-Some.is at c.in_ok-read_line.ensures.exact)
          (rw c.in-Some.is at c.in_ok-read_line.ensures.fewer refl)
          (rw c.deref.ensures.value at c.in_ok-end-in-Some.ensures.ok));
      edits = edited_then _ _ _ _ _ c.loop-selection.invariant.edits c.in_ok-end-in-Some.ensures.edits;
      interrupted = c.in_ok-read_line.ensures.interrupted _ c.loop-selection.invariant.interrupted;
      failed = no_failure _ _ _ _ _ c.in_ok-read_line.was c.read_line.ensures.failed c.loop-selection.invariant.failed;
    }
