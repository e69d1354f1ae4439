-- Evidence by what a view has of an instance.
use Rattle.std.proofs.Common.{◌≡◌, ◌==◌, ℕ, Bool, true, false, Option, Some, None, refl, ap, sym, ◌∙◌, arith}
use Rattle.std.specs.Prelude.{find, if◌then◌else◌}
use Rattle.std.proofs.lemmas.Bool.Decides.{nat_tests}
use Rattle.smf_state.specs.declared.state.Cause.{Cause}
use Rattle.smf_state.specs.declared.state.State.{State}
use Rattle.smf_state.specs.declared.view.View.{View}
use Rattle.smf_state.specs.declared.view.ViewItem.{ViewItem}
use Rattle.smf_dep.specs.declared.member.GraphMember.{GraphMember}
use Rattle.smf_dep.specs.Members.{member_of, members}
use Rattle.smf_engine.specs.Orders.{is_about}
use Rattle.smf_provenance.specs.declared.evidence.StopEvidence.{StopEvidence}
use Rattle.smf_provenance.specs.Started.{by_item, by_member, start_evidence}
use Rattle.smf_provenance.specs.Stopped.{stop_by_item, stop_by_view, stop_reason}

same : (m n : ℕ) → m ≡ n → (m == n) ≡ true
same m n e = grind (arith, nat_tests)

other : (m n : ℕ) → (m ≡ n → ⊥) → (m == n) ≡ false
other m n e = grind (arith, nat_tests)

-- ---- starts

pub other_start : (v : View) (n revision : ℕ) → (v.revision ≡ revision → ⊥) → start_evidence v n revision ≡ None
unfolding start_evidence
other_start v n revision e =
    ap (λ b. if b then by_item revision (members v.items) (find (is_about n) v.items) else None)
    (other v.revision revision e)

seen_start : (v : View) (n revision : ℕ) → v.revision ≡ revision
    → start_evidence v n revision ≡ by_item revision (members v.items) (find (is_about n) v.items)
unfolding start_evidence
seen_start v n revision e =
    ap (λ b. if b then by_item revision (members v.items) (find (is_about n) v.items) else None)
    (same v.revision revision e)

pub no_start : (v : View) (n revision : ℕ) → v.revision ≡ revision → find (is_about n) v.items ≡ None
    → start_evidence v n revision ≡ None
no_start v n revision e f = seen_start v n revision e ∙ ap (by_item revision (members v.items)) f

pub that_start : (v : View) (n revision : ℕ) (i : ViewItem) (m : GraphMember) → v.revision ≡ revision
    → find (is_about n) v.items ≡ Some i → m ≡ member_of i
    → start_evidence v n revision ≡ by_member revision (members v.items) i m
that_start v n revision i m e f g =
    seen_start v n revision e ∙ ap (by_item revision (members v.items)) f
    ∙ ap (by_member revision (members v.items) i) (sym g)

-- ---- stops

pub other_stop : (v : View) (n revision : ℕ) (to : State) (cause : Cause) → (v.revision ≡ revision → ⊥)
    → stop_by_view v revision n to cause ≡ None
unfolding stop_by_view
other_stop v n revision to cause e =
    ap (λ b. if b
    then stop_by_item revision (members v.items) to cause (find (is_about n) v.items)
    else None) (other v.revision revision e)

seen_stop : (v : View) (n revision : ℕ) (to : State) (cause : Cause) → v.revision ≡ revision
    → stop_by_view v revision n to cause
    ≡ stop_by_item revision (members v.items) to cause (find (is_about n) v.items)
unfolding stop_by_view
seen_stop v n revision to cause e =
    ap (λ b. if b
    then stop_by_item revision (members v.items) to cause (find (is_about n) v.items)
    else None) (same v.revision revision e)

pub no_stop : (v : View) (n revision : ℕ) (to : State) (cause : Cause) → v.revision ≡ revision
    → find (is_about n) v.items ≡ None → stop_by_view v revision n to cause ≡ None
no_stop v n revision to cause e f =
    seen_stop v n revision to cause e ∙ ap (stop_by_item revision (members v.items) to cause) f

abbrev pub told : View → ℕ → State → Cause → ViewItem → GraphMember → StopEvidence
told v revision to cause i m =
    record {
      instance = i.instance;
      name = i.name;
      revision = revision;
      to = to;
      cause = cause;
      reason = stop_reason (members v.items) i m to;
    }

pub that_stop : (v : View) (n revision : ℕ) (to : State) (cause : Cause) (i : ViewItem) (m : GraphMember)
    → v.revision ≡ revision → find (is_about n) v.items ≡ Some i → m ≡ member_of i
    → stop_by_view v revision n to cause ≡ Some (told v revision to cause i m)
that_stop v n revision to cause i m e f g =
    seen_stop v n revision to cause e ∙ ap (stop_by_item revision (members v.items) to cause) f
    ∙ ap (λ x. Some (told v revision to cause i x)) (sym g)
