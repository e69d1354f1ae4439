use Rattle.std.proofs.Common.{◌≡◌, [], drop, map}
use Rattle.smf_fmri.specs.ByKey.{put_all}
use Rattle.smf_show.specs.Chosen.{by_configured, running_of}
use Rattle.smf_show.proofs.chosen.running_by_name.Given as goal

abbrev pub invariant-loop-item : goal.invariant-loop-item
invariant-loop-item g l =
    put_all by_configured (map (running_of l.repository.held) (drop l.item-index l.items)) l.all
    ≡ put_all by_configured (map (running_of l.repository.held) l.items) []
