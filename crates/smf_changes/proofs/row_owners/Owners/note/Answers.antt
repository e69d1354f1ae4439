use Rattle.std.proofs.Common.{List, ℕ, Option, subst}
use Rattle.smf_changes.proofs.Owned.{IsAfter, noted_before, noted_then}
use Rattle.smf_changes.proofs.row_owners.Owners.note.Goals as goal

pub returns-clause-before : goal.returns-clause-before
returns-clause-before c =
    noted_before c.args.self.now _ _ c.args.changes.now c.puts_numbered_all-self.ensures
    (subst (λ (o : Option (List (List ℕ))). IsAfter c.args.changes.now o c.after.result) c.take.ensures.value
    c.after.ensures)

pub returns-clause-then : goal.returns-clause-then
returns-clause-then c =
    noted_then c.args.self.now _ _ c.args.changes.now c.puts_numbered_all-self.ensures
    (subst (λ (o : Option (List (List ℕ))). IsAfter c.args.changes.now o c.after.result) c.take.ensures.value
    c.after.ensures)
