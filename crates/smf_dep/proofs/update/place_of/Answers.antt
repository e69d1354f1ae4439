use Rattle.std.proofs.Common.{ℕ, ap, subst}
use Rattle.smf_fmri.specs.ByKey.{BelongsAt, StandsAt}
use Rattle.smf_dep.specs.declared.member.GraphMember.{GraphMember}
use Rattle.smf_dep.specs.Members.{by_member}
use Rattle.smf_dep.proofs.Updates.{is_found, same_place}
use Rattle.smf_dep.proofs.update.place_of.Goals as goal

pub unreachable-requires : goal.unreachable-requires
unreachable-requires c =
    let P : ℕ → Type 0 = λ n. BelongsAt by_member n c.in-Err.field-0 c.args.members.now in
    is_found c.args.member.now c.args.members.now c.in-Err.field-0 c.requires.rises c.requires.fits
    (subst P (ap (λ (z : GraphMember). z.instance) c.member.ensures) c.in-Err.ensures.absent)

pub returns : goal.returns
returns c =
    let P : ℕ → Type 0 = λ n. StandsAt by_member n c.in-Ok.place c.args.members.now in
    same_place c.args.member.now c.args.members.now c.in-Ok.place c.requires.rises c.requires.fits
    (subst P (ap (λ (z : GraphMember). z.instance) c.member.ensures) c.in-Ok.ensures.found)
