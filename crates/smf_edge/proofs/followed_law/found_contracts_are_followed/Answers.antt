use Rattle.smf_edge.proofs.FollowedBeginnings.{found_followed}
use Rattle.smf_edge.proofs.followed_law.found_contracts_are_followed.Goals as goal

pub returns : goal.returns
returns c = found_followed
