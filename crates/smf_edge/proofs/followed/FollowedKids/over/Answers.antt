use Rattle.smf_edge.specs.Books.{ledger_of}
use Rattle.smf_edge.specs.Phases.{posts}
use Rattle.smf_edge.proofs.FollowedBeginnings.{kept_over}
use Rattle.smf_edge.proofs.followed.FollowedKids.over.Goals as goal

pub invariant_of-result : goal.invariant_of-result
invariant_of-result g c =
    kept_over (ledger_of c.over.result) c.args.table.table (posts c.args.kids.items) c.over.ensures c.requires.ordered
    c.requires.held c.requires.followed
