use Rattle.std.proofs.Common.{◌≡◌, ◌∙◌, Bool, false, None, IfOk, subst, sym}
use Rattle.smf_world.specs.Spelled.{AreSpelled}
use Rattle.smf_world.specs.Worked.{sent_at}
use Rattle.smf_world.specs.World.{World}
use Rattle.smf_machine.specs.Done.{changes_in}
use Rattle.smf_machine.proofs.Delivered.{none_of, spelled_part}
use Rattle.smf_machine.proofs.parts.System.take_changes.Goals as goal

pub take_changes_at-requires : goal.take_changes_at-requires
take_changes_at-requires g c =
    spelled_part c.self.inside.repository.held c.self.inside.parts c.in-Some.place
    (subst AreSpelled (sym c.self.view_is) c.requires)

pub returns-in-Some-clause-none : goal.returns-in-Some-clause-none
returns-in-Some-clause-none g c =
    none_of c.args.self.now c.args.event.now c.in-Some.place c.take_changes_at.result
    (sym c.delivered_place.ensures ∙ c.in-Some.is)
    (subst (λ (w : World). IfOk c.take_changes_at.result
    (λ (b : Bool). b ≡ false → changes_in (sent_at w c.in-Some.place) ≡ None)) c.self.view_is
    (c.take_changes_at.ensures.none c.self.inside.repository.held))
