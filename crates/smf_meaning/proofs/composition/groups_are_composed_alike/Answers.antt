use Rattle.smf_model.specs.declared.held.Owner.TheVariants as owners
use Rattle.smf_model.specs.Look.{groups_of}
use Rattle.smf_model.specs.GeneralGroup.{service_owner}
use Rattle.smf_meaning.proofs.Composed.{alike, in_snapshot, put_over}
use Rattle.smf_meaning.proofs.composition.groups_are_composed_alike.Goals as goal

pub returns-clause-snapshot : goal.returns-clause-snapshot
returns-clause-snapshot c = in_snapshot

pub returns-clause-graph : goal.returns-clause-graph
returns-clause-graph c = λ s rises. put_over s.instance s.service rises

pub returns-clause-repository : goal.returns-clause-repository
returns-clause-repository c =
    λ h i rises. put_over (groups_of h (owners.Instance i.number)) (groups_of h (service_owner i)) rises

pub returns-clause-listed : goal.returns-clause-listed
returns-clause-listed c = λ s rises. put_over s.instance_groups s.service_groups rises

pub returns-clause-alike : goal.returns-clause-alike
returns-clause-alike c = alike
