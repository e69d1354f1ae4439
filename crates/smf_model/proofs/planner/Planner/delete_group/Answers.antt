use Rattle.std.proofs.Common.{◌≡◌, None, ap, refl, sym, ◌∙◌}
use Rattle.std.specs.Option.{option_copied}
use Rattle.smf_model.specs.Look.{group}
use Rattle.smf_model.specs.Next.{deleted_group, if_general}
use Rattle.smf_model.proofs.OwnersPut.{absent_refused, group_absent, made_refused}
use Rattle.smf_model.proofs.planner.Planner.delete_group.Goals as goal

pub returns-then-not-is_there : goal.returns-then-not-is_there
returns-then-not-is_there c =
    let h = c.args.self.now in
    let owner = c.args.owner.now in
    let name = c.args.name.now in
    rw (absent_refused h (if_general owner name) owner name (deleted_group h owner name (group h owner name))
    (sym c.is_there.ensures ∙ c.if-not-is_there.true)) at c.refusal_with.ensures

pub returns-then-is_made : goal.returns-then-is_made
returns-then-is_made c =
    let h = c.args.self.now in
    let owner = c.args.owner.now in
    let name = c.args.name.now in
    rw (made_refused h (if_general owner name) owner name (deleted_group h owner name (group h owner name))
    (sym c.is_there.ensures ∙ c.if-not-is_there.false) (sym c.is_made.ensures ∙ c.if-is_made.true)) at
    c.refusal_with-then-is_made.ensures

pub returns-in_default : goal.returns-in_default
returns-in_default c =
    let h = c.args.self.now in
    let owner = c.args.owner.now in
    let name = c.args.name.now in
    let none : group h owner name ≡ None = ap (group h owner) (sym c.as_str.ensures.value)
    ∙ (sym c.group_of.ensures ∙ ap option_copied c.in_default.is) in
    rw (group_absent h owner name (if_general owner name) (deleted_group h owner name) (group h owner name)
    (sym c.is_there.ensures ∙ c.if-not-is_there.false) (sym c.is_made.ensures ∙ c.if-is_made.false) refl none) at
    c.refusal_with-in_default.ensures
