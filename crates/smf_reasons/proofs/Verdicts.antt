-- A verdict says if a dependency is met.
use Rattle.std.proofs.Common.{◌≡◌, List, Bool, true, false, refl, sym, subst}
use Rattle.smf_dep.specs.declared.dependency.Dependency.{Dependency}
use Rattle.smf_dep.specs.declared.graph.Verdict.{Verdict}
use Rattle.smf_dep.specs.declared.member.GraphMember.{GraphMember}
use Rattle.smf_dep.specs.Verdicts.{is_blocked, is_met, is_parked, verdict, verdict_by}
use Rattle.smf_reasons.specs.Reasons.{says_met}

by : (met blocked : Bool) → says_met (verdict_by met blocked) ≡ met
by true blocked = refl
by false true = refl
by false false = refl

pub met_is : (ms : List GraphMember) (d : Dependency) (v : Verdict) → v ≡ verdict ms d → says_met v ≡ is_met ms d
unfolding verdict
met_is ms d v e = subst (λ w. says_met w ≡ is_met ms d) (sym e) (by (is_met ms d) (is_blocked (is_parked ms) ms d))
