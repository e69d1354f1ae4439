use Rattle.std.proofs.Common.{rules}
use Rattle.smf_edge.specs.Books.{ledger_of}
use Rattle.smf_edge.specs.Phases.{posts}
use Rattle.smf_edge.proofs.Preservation.{kept_empty}
use Rattle.smf_edge.proofs.followed.FollowedKids.new.Goals as goal

pub invariant_of-result : goal.invariant_of-result
invariant_of-result g c = kept_empty (ledger_of c.new.result) (posts c.new-2.result.items) c.new.ensures (search rules)
