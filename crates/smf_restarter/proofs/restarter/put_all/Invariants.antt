use Rattle.std.proofs.Common.{◌≡◌, ◌+◌, ◌≤◌, length}
use Rattle.std.specs.Vec.Iter.{into_iter_items}
use Rattle.smf_fmri.specs.ByKey.{put_all}
use Rattle.smf_restarter.specs.Knowledge.{by_instance}
use Rattle.smf_restarter.specs.Watched.{IsWatched}
use Rattle.smf_restarter.proofs.restarter.put_all.Given as goal

abbrev pub invariant-loop-known : goal.invariant-loop-known
invariant-loop-known l =
    let rest = into_iter_items l.known-iterator in
    record {
      items : put_all by_instance rest l.instances.items ≡ put_all by_instance l.fn.all l.fn.instances.items;
      room : length rest ≤ l.instances.room;
      touched : length rest ≤ l.restless.room;
      left : length rest + l.fn.restless.room ≤ l.restless.room + length l.fn.all;
      watched : IsWatched l.restless.items l.instances.items l.runs.items;
    }
