use Rattle.std.proofs.Common.{◌≡◌, List, [], sym, subst, ap, ◌∙◌}
use Rattle.smf_model.specs.declared.change.Change.{Change}
use Rattle.smf_model.specs.Contents.{Holdings}
use Rattle.smf_model.specs.Look.{holdings_after_changes}
use Rattle.smf_changes.specs.ChangeRecord.{IsKept, put_by_all}
use Rattle.smf_changes.specs.Owned.{AreTold}
use Rattle.smf_changes.specs.Recorded.{next_lists, old_items}
use Rattle.smf_changes.proofs.Records.{kept_then, lists_then, nothing_made, nothing_recorded, not_empty}
use Rattle.smf_changes.proofs.repository.commit.Goals as goal

pub returns-then-is_empty-clause-kept : goal.returns-then-is_empty-clause-kept
returns-then-is_empty-clause-kept g c =
    let P : Holdings → Type 0 = λ h. IsKept c.args.kept.now h in
    let none : c.args.changes ≡ [] = c.is_empty.ensures.0 c.if-is_empty.true in
    subst P (sym (nothing_made c.args.plain.now.held c.commit.new.self.held c.args.changes none c.commit.result
    c.commit.ensures.ok c.commit.ensures.err)) c.requires.kept

pub returns-then-is_empty-clause-recent : goal.returns-then-is_empty-clause-recent
returns-then-is_empty-clause-recent g c =
    let none : c.args.changes ≡ [] = c.is_empty.ensures.0 c.if-is_empty.true in
    nothing_recorded c.args.kept.now c.args.plain.now.held c.commit.new.self.held c.args.changes none c.commit.result
    (nothing_made c.args.plain.now.held c.commit.new.self.held c.args.changes none c.commit.result c.commit.ensures.ok
    c.commit.ensures.err)

pub returns-clause-kept : goal.returns-clause-kept
returns-clause-kept g c =
    kept_then c.prepare.new.self c.args.plain.now.held c.commit-2.new.self.held c.args.changes c.in_ok-olds.olds
    c.put_by_all-top.result
    (c.put_by_all-top.ensures ∙ ap (put_by_all c.prepare.new.self.greatest_running) c.as_slice-2.ensures)
    (subst (λ (cs : List Change). AreTold c.prepare.new.self.owners
    (holdings_after_changes c.args.plain.now.held cs).instances) c.as_slice.ensures c.in_ok-olds.ensures.told)
    c.see_standing.ensures.numbered c.requires.numbered c.in_ok-commit.ensures.ok
    (c.in_ok-olds.ensures.olds ∙ ap (old_items c.args.plain.now.held) c.as_slice.ensures) c.in_ok-olds.ensures.settled
    c.prepare.ensures.kept

pub returns-clause-recent : goal.returns-clause-recent
returns-clause-recent g c =
    let some = not_empty c.args.changes c.is_empty.result c.is_empty.ensures.1 c.if-is_empty.false in
    lists_then c.prepare.new.self c.args.plain.now.held c.commit-2.new.self.held c.args.changes c.in_ok-olds.olds
    c.put_by_all-top.result c.see_standing.ensures.numbered some c.in_ok-commit.ensures.ok
    (c.in_ok-olds.ensures.olds ∙ ap (old_items c.args.plain.now.held) c.as_slice.ensures) c.in_ok-olds.ensures.settled
    ∙ ap (next_lists c.args.plain.now.held c.args.changes) c.prepare.ensures.lists
