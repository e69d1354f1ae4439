-- An edit changes a node as it changes the repository.
use Rattle.std.proofs.Common.{◌≡◌, ◌⊎◌, inl, inr, List, [], ◌∷◌, Result, Ok, Err, refl, sym, ap, ◌∙◌}
use Rattle.smf_model.specs.declared.command.Command.TheVariants as commands
use Rattle.smf_model.specs.declared.command.Edit.{Edit}
use Rattle.smf_model.specs.declared.command.CommandReply.{CommandReply}
use Rattle.smf_model.specs.declared.journal.RepoFault.{RepoFault}
use Rattle.smf_model.specs.declared.journal.RepoFault.TheVariants as journals
use Rattle.smf_model.specs.Contents.{Holdings}
use Rattle.smf_model.specs.Next.{next}
use Rattle.smf_node.specs.Clients.{IsEditOf, IsEnd, fault_by, held_by}
use Rattle.smf_node.specs.declared.fault.NodeFault.{NodeFault}
use Rattle.smf_node.specs.declared.fault.NodeFault.TheVariants as faults
use Rattle.smf_node.specs.Faults.{IsLack}
use Rattle.smf_model.specs.Clients.{AreGiven, Given, IsEditedAlone}
use Rattle.smf_world.specs.declared.event.Event.TheVariants as events
use Rattle.smf_world.specs.Happens.{world_after, happens}
use Rattle.smf_world.specs.Reached.{IsLater}
use Rattle.smf_world.specs.Schedule.{Progress, on}
use Rattle.smf_world.specs.Worked.{work_of_command, work_of_event}
use Rattle.smf_world.proofs.LaterWorlds.{later_by, later_same, later_then}

abbrev pair : Holdings → CommandReply → Holdings × CommandReply
pair h r = (h, r)

both : (h h' : Holdings) (r r' : CommandReply) → h ≡ h' → r ≡ r' → pair h r ≡ pair h' r'
both h h' r r' e f = λ j. (e j, f j)

first_is : (r r' : CommandReply) → r ∷ [] ≡ r' ∷ [] → r ≡ r'
first_is r r' e = cc

pub edit_exact : (p q : Progress) (edit : Edit) (r : CommandReply) → q ≡ on p (events.Client edit)
    → (work_of_event p.world (events.Client edit)).reply ≡ r ∷ []
    → next (held_by p) (commands.Edit edit) ≡ (held_by q, r)
unfolding next work_of_event work_of_command happens world_after
edit_exact p q edit r made said = both _ _ _ _ (sym (ap held_by made)) (first_is _ _ said)

-- the node's faults that an edit may end with
pub lacks : (fails : RepoFault → Type 0) (p : Progress) (edit : Edit) (e : NodeFault)
    → IsLack fails p.world (events.Client edit) e → (e ≡ faults.Memory) ⊎ (e ≡ faults.Database)
lacks fails p edit e (inl is) = inl is
lacks fails p edit e (inr h) = inr h.0

pub fails_by : (fails : RepoFault → Type 0) (p : Progress) (edit : Edit) (f : RepoFault) (e : NodeFault)
    → fault_by f ≡ e → IsLack fails p.world (events.Client edit) e → (f ≡ journals.Memory) ⊎ fails f
fails_by fails p edit journals.Memory e is h = inl refl
fails_by fails p edit journals.Database e is (inl memory) = let no_way : faults.Database ≡ faults.Memory =
    is ∙ memory in absurd cc
fails_by fails p edit journals.Database e is (inr h) = inr h.1

-- ---- edits alone

later_edit : (fails : RepoFault → Type 0) (p q : Progress) (edit : Edit) (end : Result CommandReply RepoFault)
    → IsEnd fails p edit end q → IsLater p.world q.world
later_edit fails p q edit (Ok reply) h = later_by p.world q.world (events.Client edit) (ap (λ x. x.world) h.0)
later_edit fails p q edit (Err fault) h = later_same p.world q.world (ap (λ x. x.world) h.0)

later_given : (fails : RepoFault → Type 0) (p q : Progress) (all : List Given)
    → AreGiven held_by (λ old edit end new. IsEditOf fails old edit end new) p all q → IsLater p.world q.world
later_given fails p q [] same = later_same p.world q.world (ap (λ x. x.world) same)
later_given fails p q (g ∷ gs) (middle, is, rest) =
    later_then p.world middle.world q.world (later_edit fails p middle g.edit g.end is.behind.end_is)
    (later_given fails middle q gs rest)

pub later_edited : (fails : RepoFault → Type 0) (p q : Progress)
    → IsEditedAlone held_by (λ old edit end new. IsEditOf fails old edit end new) p q → IsLater p.world q.world
later_edited fails p q (all, are) = later_given fails p q all are
