use Rattle.smf_server.proofs.turns.find.Goals as goal

pub returns-clause-numbers : goal.returns-clause-numbers
returns-clause-numbers g c =
    rw c.trail-trail.ensures.shown at rw c.repository-repository.ensures at c.in_ok-found.ensures.numbers

pub returns-clause-remedies : goal.returns-clause-remedies
returns-clause-remedies g c =
    rw (rw c.trail-trail.ensures.shown at rw c.repository-repository.ensures at c.in_ok-found.ensures.numbers) at
    rw c.trail-trail.ensures.shown at rw c.repository-repository.ensures at rw c.table-table.ensures at c.in_ok-found.ensures.remedies

pub returns-clause-looked : goal.returns-clause-looked
returns-clause-looked g c = rw c.trail-trail.ensures.shown at c.in_ok-found.ensures.looked

pub returns-clause-kept : goal.returns-clause-kept
returns-clause-kept g c =
    rw (rw c.trail-trail.ensures.shown at rw c.repository-repository.ensures at c.in_ok-found.ensures.numbers) at
    rw c.trail-trail.ensures.shown at rw c.repository-repository.ensures at rw c.table-table.ensures at c.in_ok-found.ensures.kept
