use Rattle.std.proofs.Common.{◌≡◌, ℕ, List, ap, ◌∙◌}
use Rattle.std.specs.Option.{option_copied}
use Rattle.smf_model.specs.Contents.{Holdings}
use Rattle.smf_model.specs.Look.{group_in}
use Rattle.smf_model.specs.OwnerChanges.{general_after, instance_with_previous, owners_reverted}
use Rattle.smf_model.specs.GeneralGroup.{general, service_fmri}
use Rattle.smf_model.proofs.planner.Planner.owners_reverted.Goals as goal

pub returns : goal.returns
unfolding owners_reverted
returns c =
    let h = c.args.self.now in
    let i = c.args.instance.now in
    let ss = c.args.service_groups.now in
    let gs = c.args.instance_groups.now in
    let after : c.in_ok-after.after ≡ instance_with_previous h i = c.in_ok-after.ensures in
    let service : c.in_ok-service.service ≡ service_fmri i.name = c.in_ok-service.ensures in
    let g : option_copied c.general_after-services_own.result ≡ general_after h (service_fmri i.name) ss =
    c.general_after-services_own.ensures ∙ ap (λ (s : List ℕ). general_after h s ss) service in
    let own : option_copied c.get_text-own.result ≡ group_in gs general = c.get_text-own.ensures in
    let all : c.entries.result.now ≡ h.instances = c.entries.ensures.all
    ∙ ap (λ (k : Holdings). k.instances) c.self.view_is in
    rw (service, g, after, own, all) at c.owners_beside.ensures
