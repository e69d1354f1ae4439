use Rattle.std.proofs.Common.{◌≡◌, ◌++◌, map, drop}
use Rattle.std.specs.Prelude.{filter}
use Rattle.smf_dep.specs.Verdicts.{is_cited}
use Rattle.smf_reasons.specs.Reasons.{standing_of_member}
use Rattle.smf_reasons.proofs.entity_states.standings_of_entity.Given as goal

abbrev pub invariant-loop-member : goal.invariant-loop-member
invariant-loop-member l = l.all ++ map standing_of_member (filter (is_cited l.entity) (drop l.member-index l.members))
    ≡ map standing_of_member (filter (is_cited l.entity) l.members)
