use Rattle.std.proofs.Common.{◌≡◌, ◌∙◌, ℕ, List, Option, subst}
use Rattle.std.specs.Prelude.{IfSome}
use Rattle.std.proofs.lemmas.Result.{on_ok_weaker}
use Rattle.smf_dep.specs.declared.member.GraphMember.{GraphMember}
use Rattle.smf_dep.specs.Departures.{HasTaken, shown}
use Rattle.smf_dep.specs.Updates.{with_members}
use Rattle.smf_dep.proofs.OfItems.{shown as shown_with}
use Rattle.smf_dep.proofs.graph.Graph.update.Goals as goal

pub returns-in-Some-clause-shown : goal.returns-in-Some-clause-shown
returns-in-Some-clause-shown c =
    let cs = c.args.changes.now in
    let inside = c.self.inside in
    let placed = c.take_in_place.new.placed in
    let roll = c.take_in_place.new.roll in
    let P : Option (List ℕ) → Type 0 =
    λ o. IfSome o (λ touched. HasTaken cs inside.placed inside.roll.gone placed roll.numbers roll.gone touched) in
    let taken = subst P c.in-Some.is c.in_ok-touched.ensures.taken in
    λ items e. shown_with cs (shown inside.roll.gone inside.placed) (shown roll.gone placed) taken.with items
    (c.self.view_is ∙ e)

pub returns-in-None-clause-shown : goal.returns-in-None-clause-shown
returns-in-None-clause-shown c =
    let cs = c.args.changes.now in
    let inside = c.self.inside in
    let placed = c.take_in_place.new.placed in
    let roll = c.take_in_place.new.roll in
    let same = c.in_ok-touched.ensures.none c.in-None.is in
    let before : List GraphMember = shown roll.gone placed in
    let was : before ≡ c.args.self.now = (λ i. shown (same.gone i) (same.placed i)) ∙ c.self.view_is in
    on_ok_weaker c.update_all.result
    (λ (e : c.update_all.new.self ≡ with_members cs before). λ items f.
    shown_with cs before c.update_all.new.self e items (was ∙ f)) c.update_all.ensures.with
