use Rattle.std.proofs.Common.{◌≡◌, ◌++◌, [], string_bytes}
use Rattle.std.specs.Vec.Iter.{into_iter_items}
use Rattle.smf_script.specs.Session.{IsDeed, asked_all, success_deed}
use Rattle.smf_world.specs.Reached.{IsLater}
use Rattle.smf_script.proofs.session.asked_all.Given as goal

abbrev pub invariant-loop-one : goal.invariant-loop-one
invariant-loop-one g l =
    record {
      split : l.fn.all ≡ l.yielded ++ into_iter_items l.one-iterator;
      so_far : IsDeed (asked_all (success_deed l.fn.node []) l.yielded) l.node (string_bytes l.fn.out)
          (string_bytes l.out) l.fine;
      later : IsLater l.fn.node.world l.node.world;
    }
