use Rattle.std.proofs.Common.{◌++◌, ◌∙◌, List, ℕ, ap, map}
use Rattle.smf_engine.specs.Coverage.{number_put}
use Rattle.smf_engine.proofs.Coverage.{covered_with, items_with, shown_with}
use Rattle.smf_engine.proofs.looked.Looked.with.Goals as goal

pub judge_all-requires-clause-shown : goal.judge_all-requires-clause-shown
judge_all-requires-clause-shown c =
    shown_with c.self.inside.view c.patch.new.self c.self.inside.graph c.update.new.self c.args.changes.now c.args.to
    c.self.invariant.shown c.in_ok-patch.ensures.ok c.in_ok-update.ensures.shown

pub judge_all-requires-clause-others : goal.judge_all-requires-clause-others
judge_all-requires-clause-others c =
    covered_with c.self.inside.view c.patch.new.self c.self.inside.graph c.update.new.self c.args.changes.now
    c.args.to c.in_ok-update.field-0 c.deref.result.now c.self.inside.decided c.self.invariant
    c.in_ok-patch.ensures.ok
    (shown_with c.self.inside.view c.patch.new.self c.self.inside.graph c.update.new.self c.args.changes.now c.args.to
    c.self.invariant.shown c.in_ok-patch.ensures.ok c.in_ok-update.ensures.shown)
    c.in_ok-update.ensures.others
    (c.deref.ensures.value ∙ c.in_ok-push_numbers.ensures
    ∙ ap (λ (l : List ℕ). l ++ map number_put c.args.changes.now) c.into_vec-touched.ensures)

pub invariant_of-result : goal.invariant_of-result
invariant_of-result c = record {
  shown = shown_with c.self.inside.view c.patch.new.self c.self.inside.graph c.update.new.self c.args.changes.now
      c.args.to c.self.invariant.shown c.in_ok-patch.ensures.ok c.in_ok-update.ensures.shown;
  covered = c.in_ok-judge_all.ensures;
}

pub returns-clause-items : goal.returns-clause-items
returns-clause-items c =
    items_with c.self.inside.view c.patch.new.self c.args.self.items c.args.changes.now c.args.to
    c.in_ok-patch.ensures.ok (ap (λ l. l.items) c.self.view_is)
