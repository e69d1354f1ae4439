use Rattle.std.proofs.Common.{◌≤◌, ℕ, refl, subst, sym}
use Rattle.smf_model.specs.Contents.{Holdings}
use Rattle.smf_script.specs.Agrees.{nothing_before}
use Rattle.smf_runs.specs.Runs.IsCutOff.{unbooted}
use Rattle.smf_safety.proofs.Safely.{safe_later}
use Rattle.smf_runs.proofs.Ended.{cut_off, ran_over, still_ends}
use Rattle.smf_runs.proofs.script.run_over.Goals as goal

pub returns-in-Err-clause-cut : goal.returns-in-Err-clause-cut
returns-in-Err-clause-cut g c =
    unbooted c.in-Err.fault refl
    (record {
      why = c.in-Err.ensures.fault;
      stands_so = subst (λ (h : Holdings). g.J.Journal.stands c.into_journal.result h) c.in-Err.ensures.err
          c.into_journal.ensures.stands;
      unasked = refl;
      silent = refl;
    })

pub returns-clause-ran : goal.returns-clause-ran
returns-clause-ran g c =
    rw (sym c.end_of.ensures) at
    (ran_over _ (g.J.Journal.stands c.into_journal-journal.result) c.args.repository.held c.in-Ok.node
    c.run_script-end.new.node _ _ _ _ _ _ c.run_script-end.result c.end_all-left.result
    c.in-Ok.ensures.ok c.run_script-end.ensures.ran c.end_all-left.ensures
    (safe_later c.in-Ok.node.world c.run_script-end.new.node.world c.in-Ok.ensures.reached
    c.run_script-end.ensures.later)
    (subst (λ (h : Holdings). g.J.Journal.stands c.into_journal-journal.result h) c.into_repository.ensures
    c.into_journal-journal.ensures.stands)
    (c.run_script-end.ensures.agrees nothing_before))

pub returns-clause-exit : goal.returns-clause-exit
returns-clause-exit g c =
    rw (sym c.end_of.ensures) at
    (still_ends (λ (status : ℕ). status ≤ 1) c.run_script-end.result c.end_all-left.result c.run_script-end.ensures.exit)

pub returns-clause-cut : goal.returns-clause-cut
returns-clause-cut g c =
    rw (sym c.end_of.ensures) at
    (cut_off _ g.J.Journal.write_fails (g.J.Journal.stands c.into_journal-journal.result) g.R.LineReader.read_fails
    g.W.TextWriter.write_fails c.args.repository.held
    c.in-Ok.node c.run_script-end.new.node _ _ _ _ _ _ c.run_script-end.result c.end_all-left.result c.in-Ok.ensures.ok
    c.run_script-end.ensures.ran c.run_script-end.ensures.err c.run_script-end.ensures.fault c.end_all-left.ensures
    (safe_later c.in-Ok.node.world c.run_script-end.new.node.world c.in-Ok.ensures.reached
    c.run_script-end.ensures.later)
    (subst (λ (h : Holdings). g.J.Journal.stands c.into_journal-journal.result h) c.into_repository.ensures
    c.into_journal-journal.ensures.stands)
    (c.run_script-end.ensures.agrees nothing_before) (c.run_script-end.ensures.dropped nothing_before))
