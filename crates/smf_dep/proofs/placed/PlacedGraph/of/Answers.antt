use Rattle.std.proofs.Common.{◌∙◌, List, subst, sym}
use Rattle.smf_fmri.specs.ByKey.{Rises}
use Rattle.smf_dep.specs.declared.member.GraphMember.{GraphMember}
use Rattle.smf_dep.specs.Members.{by_member}
use Rattle.smf_dep.proofs.OfItems.{rises_of}
use Rattle.smf_dep.proofs.placed.PlacedGraph.of.Goals as goal

pub of_members-requires : goal.of_members-requires
of_members-requires c =
    let P : List GraphMember → Type 0 = Rises by_member in
    subst P (sym (c.into_vec.ensures ∙ c.in_ok-all.ensures)) (rises_of c.args.items.now c.requires)
