use Rattle.std.proofs.Common.{◌≡◌, [], drop}
use Rattle.std.specs.Prelude.{map}
use Rattle.smf_fmri.specs.ByKey.{put_all}
use Rattle.smf_world.specs.Schedule.{by_name}
use Rattle.smf_node.proofs.name_order.owners.Given as goal

abbrev pub invariant-loop-instance : goal.invariant-loop-instance
invariant-loop-instance l = put_all by_name (map (λ i. i.row.owner) (drop l.instance-index l.instances)) l.names
    ≡ put_all by_name (map (λ i. i.row.owner) l.instances) []
