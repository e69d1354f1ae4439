use Rattle.std.proofs.lemmas.List.{drop_all}
use Rattle.smf_runs.proofs.Asked.{rises_refreshed}
use Rattle.smf_runs.proofs.configured.all_refreshed.Goals as goal

pub from_vec-requires : goal.from_vec-requires
from_vec-requires g c =
    let items = c.args.items.now in
    rises_refreshed c.args.repository.now.held items c.loop-item.all.items c.loop-item.item-index
    (drop_all c.loop-item.item-index items c.loop-item-test.false) c.loop-item.invariant c.requires
