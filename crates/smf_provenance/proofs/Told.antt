-- What a group and a restarter ask for, by how they are read.
use Rattle.std.proofs.Common.{◌≡◌, ℕ, List, [], ◌∷◌, ◌++◌, Bool, true, false, Some, None, refl, ap, sym, subst, ◌∙◌, append-nil}
use Rattle.std.specs.Prelude.{map, Ok, Err}
use Rattle.smf_value.specs.Groups.{GroupRecord}
use Rattle.smf_dep.specs.declared.dependency.Dependency.{Dependency}
use Rattle.smf_dep.specs.declared.fault.DependencyFault.{DependencyFault}
use Rattle.smf_dep.specs.declared.graph.Verdict.{Verdict}
use Rattle.smf_dep.specs.declared.member.GraphMember.{GraphMember}
use Rattle.smf_dep.specs.Members.{implicit}
use Rattle.smf_dep.specs.Requirements.{read_groups}
use Rattle.smf_dep.specs.Verdicts.{is_blocked, is_met, is_parked, verdict, verdict_by}
use Rattle.smf_provenance.specs.declared.evidence.GroupEvidence.{GroupEvidence}
use Rattle.smf_provenance.specs.Groups.{group_read, group_told, of_group, of_restarter, says_met}

by : (met blocked : Bool) → says_met (verdict_by met blocked) ≡ met
by true blocked = refl
by false true = refl
by false false = refl

-- a verdict says if a dependency is met
pub met_is : (ms : List GraphMember) (d : Dependency) (v : Verdict) → v ≡ verdict ms d → says_met v ≡ is_met ms d
unfolding verdict
met_is ms d v e = subst (λ w. says_met w ≡ is_met ms d) (sym e) (by (is_met ms d) (is_blocked (is_parked ms) ms d))

pub group_asked : (ms : List GraphMember) (g : GroupRecord) (ds : List Dependency) → read_groups (g ∷ []) ≡ Ok ds
    → of_group ms g ≡ map (group_told ms (Some g.name)) ds
unfolding of_group
group_asked ms g ds e = ap (group_read ms g.name) e

pub group_unread : (ms : List GraphMember) (g : GroupRecord) (fault : DependencyFault) (all : List GroupEvidence)
    → read_groups (g ∷ []) ≡ Err fault → all ≡ all ++ of_group ms g
unfolding of_group
group_unread ms g fault all e = sym (ap (λ r. all ++ group_read ms g.name r) e ∙ append-nil all)

pub unwanted : (ms : List GraphMember) (owner : List ℕ) (all : List GroupEvidence) → [] ≡ implicit owner
    → all ≡ all ++ of_restarter ms owner
unfolding of_restarter
unwanted ms owner all e = sym (ap (λ ds. all ++ map (group_told ms None) ds) (sym e) ∙ append-nil all)

pub wanted : (ms : List GraphMember) (owner : List ℕ) (d : Dependency) → d ∷ [] ≡ implicit owner
    → of_restarter ms owner ≡ group_told ms None d ∷ []
unfolding of_restarter
wanted ms owner d e = ap (map (group_told ms None)) (sym e)
