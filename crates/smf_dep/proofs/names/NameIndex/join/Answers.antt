use Rattle.smf_dep.specs.Names.{instance_name, service_name}
use Rattle.smf_dep.proofs.NamedPlaces.{at_joined}
use Rattle.smf_dep.proofs.names.NameIndex.join.Goals as goal

pub returns : goal.returns
returns c = λ ms size h. (
  at_joined instance_name c.args.self.now.instances c.note_instances.new.found ms c.args.arrivals.now c.args.count size
      c.in_ok-note_instances.ensures h.0,
  at_joined service_name c.args.self.now.services c.note_services.new.found ms c.args.arrivals.now c.args.count size
      c.in_ok-note_services.ensures h.1,
)
