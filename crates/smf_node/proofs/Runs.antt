-- Events one after another.
use Rattle.std.proofs.Common.{◌≡◌, List, [], ◌∷◌, ◌++◌, None, refl, sym, ap, ◌∙◌, subst, append_assoc, append-nil}
use Rattle.smf_model.specs.declared.journal.RepoFault.{RepoFault}
use Rattle.smf_node.specs.declared.fault.NodeFault.{NodeFault}
use Rattle.smf_node.specs.Faults.{IsFault, event_refusal}
use Rattle.smf_node.specs.Runs.{RunsAll, RunsUntilFault}
use Rattle.smf_world.specs.declared.event.Event.{Event}
use Rattle.smf_world.specs.Schedule.{Progress, on}

abbrev Fails : Type 1
Fails = RepoFault → Type 0

abbrev Takes : Event → Progress → Progress → Type 0
Takes e q p = (event_refusal p.world e ≡ None) × (q ≡ on p e)

runs_more : (es : List Event) (p q r : Progress) (e : Event) → RunsAll p es q → event_refusal q.world e ≡ None
    → r ≡ on q e → RunsAll p (es ++ e ∷ []) r
runs_more [] p q r e g taken made = subst (Takes e r) g (taken, made)
runs_more (d ∷ ds) p q r e g taken made = (g.0, runs_more ds (on p d) q r e g.1 taken made)

-- some of the events happened, and the rest is left
pub record RanTo (before : Progress) (all rest : List Event) (after : Progress) : Type 0 where
  pub first : List Event
  pub whole : all ≡ first ++ rest
  pub went : RunsAll before first after

pub ran_to_none : (p : Progress) (es rest : List Event) → rest ≡ es → RanTo p es rest p
ran_to_none p es rest e = record { first = []; whole = sym e; went = refl }

pub ran_to_more : (p q r : Progress) (all rest es : List Event) (e : Event) → RanTo p all rest q → rest ≡ e ∷ es
    → event_refusal q.world e ≡ None → r ≡ on q e → RanTo p all es r
ran_to_more p q r all rest es e u is taken made =
    record {
      first = u.first ++ e ∷ [];
      whole = u.whole ∙ ap (λ (l : List Event). u.first ++ l) is ∙ sym (append_assoc u.first (e ∷ []) es);
      went = runs_more u.first p q r e u.went taken made;
    }

pub ran_to_all : (p q : Progress) (all rest : List Event) → RanTo p all rest q → rest ≡ [] → RunsAll p all q
ran_to_all p q all rest u is =
    subst (λ (es : List Event). RunsAll p es q)
    (sym (u.whole ∙ ap (λ (l : List Event). u.first ++ l) is ∙ append-nil u.first)) u.went

pub ran_to_fault : (fails : Fails) (p q r : Progress) (all rest es : List Event) (event : Event) (e : NodeFault)
    → RanTo p all rest q → rest ≡ event ∷ es → r ≡ q → IsFault fails q.world event e → RunsUntilFault fails p all r e
ran_to_fault fails p q r all rest es event e u is same f =
    record {
      first = u.first;
      failed = event;
      rest = es;
      whole = u.whole ∙ ap (λ (l : List Event). u.first ++ l) is;
      went = subst (λ (s : Progress). RunsAll p u.first s) (sym same) u.went;
      fault = subst (λ (s : Progress). IsFault fails s.world event e) (sym same) f;
    }
