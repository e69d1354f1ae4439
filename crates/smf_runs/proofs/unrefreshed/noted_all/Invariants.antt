use Rattle.std.proofs.Common.{◌≡◌, ◌++◌, drop}
use Rattle.std.specs.List.{AllZip}
use Rattle.std.specs.Vec.Iter.{into_iter_items}
use Rattle.smf_reasons.specs.Reasons.{IsTold}
use Rattle.smf_runs.specs.Unrefreshed.{noted_all}
use Rattle.smf_runs.proofs.unrefreshed.noted_all.Given as goal

abbrev pub invariant-loop-item : goal.invariant-loop-item
invariant-loop-item g l =
    record {
      so_far : l.with ++ noted_all l.repository.held (drop l.item-index l.items) (into_iter_items l.rest)
          ≡ noted_all l.repository.held l.items l.fn.all;
      kept : AllZip (IsTold l.view) (drop l.item-index l.items) (into_iter_items l.rest);
    }
