use Rattle.std.proofs.Common.{◌≡◌, map, take}
use Rattle.smf_contract.specs.Laws.{Ascends}
use Rattle.smf_edge.specs.FollowedBeginnings.{found_posts}
use Rattle.smf_edge.specs.Phases.{posts}
use Rattle.smf_keeper.proofs.begin.children_of.Given as goal

abbrev pub invariant-loop-one : goal.invariant-loop-one
invariant-loop-one g l = record {
  ascend : Ascends 0 (map (λ f. f.id) l.children.found.items) l.children.last;
  kids : posts l.children.kids.items ≡ found_posts l.children.found.items;
  found : l.children.found.items ≡ map (λ o. o.contract) (take l.one-index l.ones);
}
