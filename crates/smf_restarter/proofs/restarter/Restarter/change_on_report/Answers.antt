use Rattle.std.proofs.Common.{sym, subst}
use Rattle.smf_restarter.specs.declared.reply.KnowledgeChange.{KnowledgeChange}
use Rattle.smf_restarter.specs.Room.{HasPlace}
use Rattle.smf_restarter.proofs.Rooms.{reported_place}
use Rattle.smf_restarter.proofs.restarter.Restarter.change_on_report.Goals as goal

pub returns-clause-room : goal.returns-clause-room
returns-clause-room c =
    subst (λ (x : KnowledgeChange). HasPlace x 0 1) (sym c.change_on_report.ensures) (reported_place _ _)
