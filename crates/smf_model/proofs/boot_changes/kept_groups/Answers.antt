use Rattle.std.proofs.Common.{◌≡◌, ◌∙◌, ap, rules}
use Rattle.std.proofs.lemmas.Fn.{filter_same}
use Rattle.smf_model.specs.Next.{kept_groups}
use Rattle.smf_model.proofs.boot_changes.kept_groups.Goals as goal

pub returns : goal.returns
returns c =
    let same : c.in_ok-kept.kept ≡ c.args.groups.now = search rules in
    filter_same _ _ _ (λ x b f' k. search rules) _ _ c.retain.ensures.filtered ∙ ap kept_groups same
