use Rattle.std.proofs.Common.{◌≡◌, [], drop}
use Rattle.std.specs.Prelude.{map}
use Rattle.smf_fmri.specs.ByKey.{put_all}
use Rattle.smf_world.specs.Schedule.{by_name}
use Rattle.smf_node.proofs.name_order.names.Given as goal

abbrev pub invariant-loop-restarter : goal.invariant-loop-restarter
invariant-loop-restarter l =
    put_all by_name (map (λ k. k.name) (map (λ k. k.known) (drop l.restarter-index l.restarters))) l.names
    ≡ put_all by_name (map (λ k. k.name) (map (λ k. k.known) l.restarters)) []
