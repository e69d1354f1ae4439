-- Marks, retries and looks at the trail, in which children have no part.
use Rattle.std.proofs.Common.{◌≡◌, ℕ, List, [], ◌∷◌, Option, sym, ap, ◌∙◌, subst}
use Rattle.std.specs.declared.time.Duration.{Duration}
use Rattle.smf_script.specs.Agrees.{AgreesSince, Before}
use Rattle.smf_script.proofs.Agreement.{IsQuiet, agree_quiet, quiet_nothing}
use Rattle.smf_edge.specs.Ledgers.{Ledger}
use Rattle.smf_model.specs.declared.command.Edit.{Edit}
use Rattle.smf_model.specs.declared.journal.RepoFault.{RepoFault}
use Rattle.smf_node.specs.declared.fault.NodeFault.{NodeFault}
use Rattle.smf_node.specs.Rounds.{Course}
use Rattle.smf_watch.specs.declared.remedies.Remedy.{Remedy}
use Rattle.smf_watch.specs.declared.size.Size.{Size}
use Rattle.smf_watch.specs.Remedies.{StopsAtOne, edit_of, event_of, remedied}
use Rattle.smf_watch.specs.Troubles.{Noticed}
use Rattle.smf_server.specs.Turns.{Between, LookFails, LooksIf, wants_look}
use Rattle.smf_world.specs.declared.event.Event.TheVariants.{Client}
use Rattle.smf_world.specs.Schedule.{Progress, on}
use Rattle.smf_world.specs.Worked.{work_of_command, work_of_event}
use Rattle.smf_world.specs.World.{World}
use Rattle.smf_world.proofs.Scheduled.{on_world}

-- ---- children have no part in it

quiet_client : (w : World) (edit : Edit) → IsQuiet w.table (work_of_event w (Client edit)).call
unfolding work_of_event work_of_command
quiet_client w edit = quiet_nothing w.table

all_agree : {b : Before} (rs : List Remedy) (p : Progress) (l : Ledger) → AgreesSince b p.world l
    → AgreesSince b (remedied rs p).world l
all_agree {b} [] p l a = a
all_agree {b} (r ∷ rs) p l a =
    all_agree rs (on p (event_of r)) l
    (agree_quiet p.world (on p (event_of r)).world (event_of r) l (on_world p (event_of r))
    (quiet_client p.world (edit_of r)) a)

pub remedied_agree : {b : Before} (rs : List Remedy) (p q : Progress) (l : Ledger) → q ≡ remedied rs p
    → AgreesSince b p.world l → AgreesSince b q.world l
remedied_agree {b} rs p q l is a = subst (λ (x : Progress). AgreesSince b x.world l) (sym is) (all_agree rs p l a)

pub some_agree : {b : Before} (stores : RepoFault → Type 0) (rs : List Remedy) (p q : Progress) (l : Ledger) (e : NodeFault)
    → StopsAtOne stores rs p q e → AgreesSince b p.world l → AgreesSince b q.world l
some_agree {b} stores rs p q l e h a = remedied_agree h.first p q l h.are a

-- ---- a look at the trail

-- what was passed keeps what was noticed and what is noted
same_but_standing : (s m : Between) → m.looked ≡ s.looked → m.noticed ≡ s.noticed → m.noted ≡ s.noted
    → m ≡ record s { standing = m.standing }
same_but_standing s m looked noticed noted =
    ap (λ (n : ℕ). record m { looked = n }) looked
    ∙ ap (λ (x : Noticed). record m { looked = s.looked; noticed = x }) noticed
    ∙ ap (λ (o : Option Size). record m { looked = s.looked; noticed = s.noticed; noted = o }) noted

pub looks_after : (clock : Duration → Type 0) (s m t : Between) (lines : List (List ℕ)) → m.looked ≡ s.looked
    → m.noticed ≡ s.noticed → m.noted ≡ s.noted → LooksIf (wants_look m) clock m t lines
    → LooksIf (wants_look (record s { standing = m.standing })) clock (record s { standing = m.standing }) t lines
looks_after clock s m t lines looked noticed noted h =
    subst (λ (x : Between). LooksIf (wants_look x) clock x t lines) (same_but_standing s m looked noticed noted) h

pub look_fails_after : (clock : Duration → Type 0) (stores : RepoFault → Type 0) (s m : Between) (d : Course)
    (e : NodeFault) → m.looked ≡ s.looked → m.noticed ≡ s.noticed → m.noted ≡ s.noted → LookFails clock stores m d e
    → LookFails clock stores (record s { standing = m.standing }) d e
look_fails_after clock stores s m d e looked noticed noted h =
    subst (λ (x : Between). LookFails clock stores x d e) (same_but_standing s m looked noticed noted) h
