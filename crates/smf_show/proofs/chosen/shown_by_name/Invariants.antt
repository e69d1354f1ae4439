use Rattle.std.proofs.Common.{◌≡◌, [], drop, map}
use Rattle.smf_fmri.specs.ByKey.{put_all}
use Rattle.smf_show.specs.Chosen.{by_shown, shown_of}
use Rattle.smf_show.proofs.chosen.shown_by_name.Given as goal

abbrev pub invariant-loop-item : goal.invariant-loop-item
invariant-loop-item l =
    put_all by_shown (map shown_of (drop l.item-index l.items)) l.all ≡ put_all by_shown (map shown_of l.items) []
