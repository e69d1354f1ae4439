use Rattle.std.proofs.Common.{◌≡◌, ℕ, sym, ◌∙◌, ap, subst}
use Rattle.smf_fmri.specs.ByKey.{IsAbove}
use Rattle.smf_dep.specs.declared.member.GraphMember.{GraphMember}
use Rattle.smf_dep.specs.Members.{by_member}
use Rattle.smf_dep.proofs.OfItems.{same_number}
use Rattle.smf_dep.proofs.change.arrival_of.Goals as goal

pub returns : goal.returns
returns c =
    let number : c.args.item.now.instance ≡ c.in_ok-member.member.instance =
    sym (ap (λ (z : GraphMember). z.instance) c.in_ok-member.ensures ∙ same_number c.args.item.now) in
    let P : ℕ → Type 0 = λ n. IsAbove by_member n c.args.members.now in
    let Q : ℕ → Type 0 = λ n. IsAbove by_member n c.args.arrivals.now in (
      c.in_ok-member.ensures,
      subst P number (c.is_above_last.ensures c.if-not-is_above_last.false),
      subst Q number (c.is_above.ensures c.if-not-is_above.false),
    )
