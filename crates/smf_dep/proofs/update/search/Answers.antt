use Rattle.std.proofs.Common.{rules}
use Rattle.std.proofs.lemmas.Fn.{always_returns_same}
use Rattle.std.specs.Ordering.{nat_cmp}
use Rattle.smf_fmri.proofs.Places.{search_is_placed}
use Rattle.smf_dep.specs.declared.member.GraphMember.{GraphMember}
use Rattle.smf_dep.specs.Members.{by_member}
use Rattle.smf_dep.proofs.update.search.Goals as goal

-- the closure compares an instance's number
pub returns : goal.returns
returns c =
    let facts = c.binary_search_by.ensures in
    let compared =
    facts.position (λ (m : GraphMember). nat_cmp m.instance c.args.instance)
    (always_returns_same _ _ _ (λ a r f' called. search rules)) in
    search_is_placed by_member c.args.instance _ c.requires _ facts.bound compared
