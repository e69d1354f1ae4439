use Rattle.std.proofs.Common.{◌∙◌, ◌++◌, List, ap, map, subst, sym}
use Rattle.smf_fmri.specs.ByKey.{Rises}
use Rattle.smf_dep.specs.declared.member.GraphMember.{GraphMember}
use Rattle.smf_dep.specs.Departures.{shown}
use Rattle.smf_dep.specs.Members.{by_member}
use Rattle.smf_dep.specs.Updates.{OthersStay, number}
use Rattle.smf_dep.proofs.Departed.{rises_shown}
use Rattle.smf_dep.proofs.Updates.{all_named}
use Rattle.smf_dep.proofs.graph.Graph.update_all.Goals as goal

pub changed_members-requires : goal.changed_members-requires
changed_members-requires c =
    let inside = c.self.inside in
    let P : List GraphMember → Type 0 = Rises by_member in
    subst P (sym (c.in_ok-there.ensures ∙ ap (shown inside.roll.gone) c.members.ensures.all))
    (rises_shown inside.roll.gone inside.placed c.self.invariant.rises)

pub returns-clause-others : goal.returns-clause-others
returns-clause-others c =
    let inside = c.self.inside in
    let was : List GraphMember = shown inside.roll.gone inside.placed in
    let now = c.in_ok-members.members.items in
    let touched = c.in_ok-touched.touched in
    let view : List GraphMember = shown c.drop.inside.roll.gone c.drop.inside.placed in
    let P : List GraphMember → Type 0 = λ l. OthersStay l view touched in
    let Q : List GraphMember → Type 0 = λ l. OthersStay was l touched in
    subst P c.self.view_is
    (subst Q (sym (c.drop.view_is ∙ c.in_ok-self-inside.ensures ∙ c.in_ok-placed.ensures))
    (all_named was now touched
    (c.in_ok-touched.ensures
    ∙ (λ i. map number (c.as_slice.ensures.value i) ++ (c.as_slice-numbers.ensures.all ∙ c.self.invariant.there) i))))
