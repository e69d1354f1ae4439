use Rattle.std.proofs.Common.{◌<◌, ◌∙◌, length, ap, arith, length-set}
use Rattle.smf_links.proofs.FlagChanges.{cleared_all, cleared_more}
use Rattle.smf_links.proofs.kept.clear.Goals as goal

pub loop-place-preserved : goal.loop-place-preserved
loop-place-preserved c =
    let put = c.put_stamp.ensures.stamps in
    let lt : c.loop-place.place < length c.loop-place.stamps = let size = c.loop-place.invariant.size in omega arith in
    record {
      size = ap length put ∙ length-set c.loop-place.stamps c.loop-place.place 0 ∙ c.loop-place.invariant.size;
      none = cleared_more c.loop-place.stamps c.put_stamp.new.stamps c.loop-place.place lt put
          c.loop-place.invariant.none;
      tallied = c.put_stamp.ensures.tallied;
    }

pub returns-clause-none : goal.returns-clause-none
returns-clause-none c =
    cleared_all c.loop-place.stamps c.loop-place.place
    (let size = c.loop-place.invariant.size in omega arith) c.loop-place.invariant.none
