use Rattle.std.proofs.Common.{◌≡◌, ◌+◌, ◌≤◌, length}
use Rattle.std.specs.Vec.Iter.{into_iter_items}
use Rattle.smf_fmri.specs.ByKey.{put_all}
use Rattle.smf_restarter.specs.Knowledge.{by_run}
use Rattle.smf_restarter.specs.Watched.{IsWatched}
use Rattle.smf_restarter.proofs.restarter.put_listed.Given as goal

abbrev pub invariant-loop-run : goal.invariant-loop-run
invariant-loop-run l =
    let rest = into_iter_items l.run-iterator in
    record {
      items : put_all by_run rest l.runs.items ≡ put_all by_run l.fn.all l.fn.runs.items;
      room : length rest ≤ l.runs.room;
      left : length rest + l.fn.runs.room ≤ l.runs.room + length l.fn.all;
      touched : length rest ≤ l.restless.room;
      left_touched : length rest + l.fn.restless.room ≤ l.restless.room + length l.fn.all;
      watched : IsWatched l.restless.items l.instances.items l.runs.items;
    }
