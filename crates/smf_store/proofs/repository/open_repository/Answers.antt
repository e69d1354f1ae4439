use Rattle.std.proofs.Common.{sym, subst}
use Rattle.smf_model.specs.Contents.{Holdings}
use Rattle.smf_store.specs.Opens.{IsOpenedAs}
use Rattle.smf_store.proofs.repository.open_repository.Goals as goal

pub returns-in-Ok-clause-opened : goal.returns-in-Ok-clause-opened
returns-in-Ok-clause-opened g c =
    subst (λ (h : Holdings). IsOpenedAs g.S.Store c.args.conn h) (sym c.over.ensures.held)
    (record { opened = c.in-Ok.store.conn; found = c.in-Ok.ensures.found; crash = c.in-Ok.ensures.crash })

pub returns-in-Ok-clause-found : goal.returns-in-Ok-clause-found
returns-in-Ok-clause-found g c = rw (c.over.ensures.held, c.over.ensures.journal) c.in-Ok.ensures.found

pub returns-in-Ok-clause-consistent : goal.returns-in-Ok-clause-consistent
returns-in-Ok-clause-consistent g c = rw (c.over.ensures.held, c.over.ensures.journal) c.in-Ok.ensures.consistent
