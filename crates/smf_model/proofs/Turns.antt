-- Edits that are given in turn.
use Rattle.std.proofs.Common.{◌≡◌, List, [], ◌∷◌, ◌++◌, refl, sym, ap, subst, Result, Ok, Err, IfOk, OnErr}
use Rattle.smf_model.specs.declared.command.Command.TheVariants as commands
use Rattle.smf_model.specs.declared.command.Edit.{Edit}
use Rattle.smf_model.specs.declared.command.CommandReply.{CommandReply}
use Rattle.smf_model.specs.declared.journal.RepoFault.{RepoFault}
use Rattle.smf_model.specs.Contents.{Holdings}
use Rattle.smf_model.specs.Next.{next}
use Rattle.smf_model.specs.Clients.{AreGiven, Given, IsEditedAlone, IsGiven}

pub edited_none : {C : Type 0} (held : C → Holdings) (follows : C → Edit → Result CommandReply RepoFault → C → Type 0)
    (before after : C) → after ≡ before → IsEditedAlone held follows before after
edited_none held follows before after same = ([], same)

pub edited_once : {C : Type 0} (held : C → Holdings) (follows : C → Edit → Result CommandReply RepoFault → C → Type 0)
    (before : C) (g : Given) (after : C) → IsGiven held follows before g after → IsEditedAlone held follows before after
edited_once held follows before g after is = (g ∷ [], (after, is, refl))

given_both : {C : Type 0} (held : C → Holdings) (follows : C → Edit → Result CommandReply RepoFault → C → Type 0)
    (first middle last : C) (all more : List Given)
    → AreGiven held follows first all middle → AreGiven held follows middle more last
    → AreGiven held follows first (all ++ more) last
given_both held follows first middle last [] more same rest = subst (λ c. AreGiven held follows c more last) same rest
given_both held follows first middle last (g ∷ gs) more (c, is, on) rest =
    (c, is, given_both held follows c middle last gs more on rest)

pub edited_then : {C : Type 0} (held : C → Holdings) (follows : C → Edit → Result CommandReply RepoFault → C → Type 0)
    (first middle last : C) → IsEditedAlone held follows first middle → IsEditedAlone held follows middle last
    → IsEditedAlone held follows first last
edited_then held follows first middle last (all, are) (more, on) =
    (all ++ more, given_both held follows first middle last all more are on)

-- an edit that was given, by what is known of how it ended
pub edited_by : {C : Type 0} (held : C → Holdings) (follows : C → Edit → Result CommandReply RepoFault → C → Type 0)
    (before : C) (edit : Edit) (end : Result CommandReply RepoFault) (after : C)
    → IfOk end (λ reply. next (held before) (commands.Edit edit) ≡ (held after, reply))
    → OnErr end (held after ≡ held before) → follows before edit end after → IsEditedAlone held follows before after
edited_by held follows before edit (Ok reply) after exact err behind =
    edited_once held follows before (record { edit = edit; end = Ok reply }) after
    (record { left = sym (ap (λ r. r.0) exact); behind = behind })
edited_by held follows before edit (Err fault) after exact err behind =
    edited_once held follows before (record { edit = edit; end = Err fault }) after
    (record { left = err; behind = behind })
