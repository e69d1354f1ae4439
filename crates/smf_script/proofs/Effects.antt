-- The effect of a line, by the deed for its request.
use Rattle.std.proofs.Common.{◌≡◌, ◌∙◌, inl, ℕ, List, Bool, true, false, None, Result, Ok, Err, IfOk, OnOk, refl, subst, sym}
use Rattle.smf_edge.specs.Answers.{Seen, Skills}
use Rattle.smf_edge.specs.Ledgers.{Ledger}
use Rattle.smf_script.specs.Moves.{Moves}
use Rattle.smf_model.specs.declared.journal.RepoFault.{RepoFault}
use Rattle.smf_node.specs.declared.fault.NodeFault.{NodeFault}
use Rattle.smf_node.specs.declared.fault.NodeFault.TheVariants.{Memory}
use Rattle.smf_node.specs.Faults.{event_refusal}
use Rattle.smf_script.specs.Asks.{HasAsked, to_reboot}
use Rattle.smf_script.specs.LineFailures.{LineFails}
use Rattle.smf_script.specs.Lines.{DoesWith, HasBooted, HasDone, HasPut, deed_of_boot, deed, effect}
use Rattle.smf_script.specs.declared.request.ChildRequest.{ChildRequest}
use Rattle.smf_script.specs.declared.request.ChildRequest.TheVariants as requests
use Rattle.smf_script.specs.declared.request.Request.{Request}
use Rattle.smf_script.specs.declared.request.Request.TheVariants.{Children, Node}
use Rattle.smf_script.proofs.May.{may_memory}
use Rattle.smf_script.specs.Session.{Session}
use Rattle.smf_world.specs.declared.event.Event.TheVariants as events
use Rattle.smf_world.specs.Schedule.{Progress}
use Rattle.smf_world.specs.World.{World}

-- a boot that can happen if children dropped all that they had
pub could_boot : (r : Result Bool NodeFault) (P : Type 0) → OnOk r P → IfOk r (λ fine. fine ≡ true → P)
could_boot (Ok fine) P h = λ e. h
could_boot (Err e) P h = tt

pub kept_on : (r : Result Bool NodeFault) (P : Type 0) → IfOk r (λ fine. fine ≡ false)
    → IfOk r (λ fine. fine ≡ true → P)
kept_on (Ok fine) P h = λ e. (let no : true ≡ false = sym e ∙ h in absurd cc)
kept_on (Err e) P h = tt

booted_by : (k : Skills) (p : Progress) (old new : Seen) (q : Progress) (b b' : List ℕ) (r : Result Bool NodeFault)
    → IfOk r (λ fine. HasPut (λ text. HasAsked k to_reboot (deed_of_boot p) old new (deed q fine text)) b b')
    → IfOk r (λ fine. fine ≡ true → event_refusal p.world events.Boot ≡ None)
    → IfOk r (λ fine. HasPut (λ text. HasBooted k p old new (deed q fine text)) b b')
booted_by k p old new q b b' (Ok fine) h taken =
    record { text = h.text; put = h.put; is = record { asked = h.is; taken = taken } }
booted_by k p old new q b b' (Err e) h taken = tt

-- the deed of a boot
pub boot_done : (k : Skills) (request : ChildRequest) (p : Progress) (old new : Seen) (q : Progress) (b b' : List ℕ)
    (r : Result Bool NodeFault) → request ≡ requests.Boot
    → IfOk r (λ fine. HasPut (λ text. HasAsked k to_reboot (deed_of_boot p) old new (deed q fine text)) b b')
    → IfOk r (λ fine. fine ≡ true → event_refusal p.world events.Boot ≡ None)
    → IfOk r (λ fine. HasPut (λ text. DoesWith k request p old new (deed q fine text)) b b')
boot_done k request p old new q b b' r is h taken =
    subst (λ x. IfOk r (λ fine. HasPut (λ text. DoesWith k x p old new (deed q fine text)) b b')) (sym is)
    (booted_by k p old new q b b' r h taken)

with_children : (k : Skills) (child : ChildRequest) (s : Session) (old new : Seen) (q : Progress) (b b' : List ℕ)
    (r : Result Bool NodeFault)
    → IfOk r (λ fine. HasPut (λ text. DoesWith k child s.progress old new (deed q fine text)) b b')
    → IfOk r (λ fine. HasPut
    (λ text. HasDone k (Children child) s old new (effect (record { progress = q; selection = s.selection }) fine text))
    b b')
with_children k child s old new q b b' (Ok fine) h = record { text = h.text; put = h.put; is = (refl, h.is) }
with_children k child s old new q b b' (Err e) h = tt

-- the effect of a line that asks something of children
pub effect_with : (k : Skills) (request : Request) (child : ChildRequest) (s : Session) (old new : Seen) (q : Progress)
    (b b' : List ℕ) (r : Result Bool NodeFault) → request ≡ Children child
    → IfOk r (λ fine. HasPut (λ text. DoesWith k child s.progress old new (deed q fine text)) b b')
    → IfOk r (λ fine. HasPut
    (λ text. HasDone k request s old new (effect (record { progress = q; selection = s.selection }) fine text)) b b')
effect_with k request child s old new q b b' r is h =
    subst (λ x. IfOk r (λ fine. HasPut
    (λ text. HasDone k x s old new (effect (record { progress = q; selection = s.selection }) fine text)) b b'))
    (sym is) (with_children k child s old new q b b' r h)

-- no move was made
stays_so : (w : World) (l : Ledger) → Moves w w l l
stays_so w l = (0, (refl, refl))

-- nothing of a line was done
pub unread : (k : Skills) (stores : RepoFault → Type 0) (request : Request) (s : Session) (old : Seen) (e : NodeFault)
    → e ≡ Memory → LineFails k stores request s old old s.progress e
unread k stores (Node request) s old e is = (record { may = may_memory stores _ e is; left = inl refl }, refl)
unread k stores (Children (requests.Process word what)) s old e is = (is, refl, refl)
unread k stores (Children (requests.Join word)) s old e is = (is, refl, refl)
unread k stores (Children (requests.Settle rounds)) s old e is =
    (inl (is, refl, refl), stays_so s.progress.world old.ledger)
unread k stores (Children requests.Boot) s old e is = (inl is, refl, inl refl)
