use Rattle.std.proofs.Common.{arith}
use Rattle.smf_export.proofs.Tried.{asked_of, not_asked_of}
use Rattle.smf_export.proofs.rehearsal.asked_by.Goals as goal

pub returns-in-Ok-clause-made : goal.returns-in-Ok-clause-made
returns-in-Ok-clause-made g c =
    asked_of _ _ _ _ _ _ _ _ c.serve_cfg-status.result c.new-repository.ensures.held
    (c.serve_cfg-status.ensures.ok (λ three. absurd (omega (arith, three, c.if-status-ne0.false)))) c.if-status-ne0.false
    c.in-Ok.ensures.exact

pub returns-then-status-ne0-clause-refused : goal.returns-then-status-ne0-clause-refused
returns-then-status-ne0-clause-refused g c =
    λ one. not_asked_of _ _ _ _ _ _ _ c.serve_cfg-status.result c.new-repository.ensures.held
    (c.serve_cfg-status.ensures.ok (λ three. absurd (omega (arith, three, one)))) one
