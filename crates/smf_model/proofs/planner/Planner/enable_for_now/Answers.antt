use Rattle.std.proofs.Common.{◌≡◌, true, ◌∙◌, ap}
use Rattle.smf_model.specs.Next.{group_or_new}
use Rattle.smf_model.specs.GeneralGroup.{general_ovr}
use Rattle.smf_model.proofs.planner.Planner.enable_for_now.Goals as goal

pub returns : goal.returns
returns c =
    let g : c.in_ok-present.present ≡ group_or_new c.args.self.now c.args.number general_ovr true =
    c.in_ok-present.ensures ∙ ap (λ n. group_or_new c.args.self.now c.args.number n true) c.in_ok-name.ensures in
    rw (← g) c.write_for_now.ensures
