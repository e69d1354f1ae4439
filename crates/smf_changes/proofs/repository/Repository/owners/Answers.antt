use Rattle.std.proofs.Common.{ap, subst}
use Rattle.std.specs.Option.{option_copied}
use Rattle.std.specs.Prelude.{IfSome}
use Rattle.smf_model.specs.Contents.{Holdings}
use Rattle.smf_changes.specs.Owned.{HasOwnersAmong}
use Rattle.smf_changes.proofs.Owned.{has_owners}
use Rattle.smf_changes.proofs.repository.Repository.owners.Goals as goal

pub returns : goal.returns
returns g c =
    subst (λ (h : Holdings). IfSome (option_copied c.owner_names.result) (λ names. HasOwnersAmong names h))
    (ap (λ r. r.held) c.self.view_is)
    (has_owners c.self.inside.kept.owners c.self.inside.plain.held
    (option_copied c.owner_names.result) c.owner_names.ensures.names c.owner_names.ensures.numbered
    c.self.invariant.told)
