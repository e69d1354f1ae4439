-- A boot of what was found, and what an event of a world that is reached installs.
use Rattle.std.proofs.Common.{◌≡◌, inl, inr, List, [], ◌∷◌, Bool, true, false, refl, subst, sym, ap, ◌∙◌, None, Result, Ok, Err}
use Rattle.std.specs.Prelude.{nat_lt, ◌+◌, ◌++◌, if◌then◌else◌, IfErr}
use Rattle.smf_model.specs.declared.change.Change.TheVariants.{SetRevision}
use Rattle.smf_model.specs.declared.command.Command.TheVariants as commands
use Rattle.smf_model.specs.declared.command.CommandReply.{CommandReply}
use Rattle.smf_model.specs.declared.command.CommandReply.TheVariants.{Made, Granted, Done, NoSuch, InUse, NotInState, Exists, Denied, Limit, Stale}
use Rattle.smf_model.specs.declared.journal.RepoFault.{RepoFault}
use Rattle.smf_model.specs.Contents.{Holdings}
use Rattle.smf_model.specs.Laws.{IsNumbered}
use Rattle.smf_model.specs.Next.{outcome_of_command, asked_boot, changes_for_boot, greatest, may_not_boot, next, refusal_with}
use Rattle.smf_world.specs.declared.event.Event.{Event}
use Rattle.smf_world.specs.declared.event.Event.TheVariants as events
use Rattle.smf_world.specs.declared.work.Work.{Work}
use Rattle.smf_past.specs.Begun.{IsBegun}
use Rattle.smf_world.specs.Worked.{booted_as, work_of_command, work_of_event}
use Rattle.smf_world.specs.World.{World}
use Rattle.smf_machine.proofs.EventWorks.{can_install}
use Rattle.smf_machine.proofs.WorldLaws.{reached_installs}
use Rattle.smf_machine.specs.declared.fault.MachineFault.{MachineFault}
use Rattle.smf_machine.specs.declared.fault.MachineFault.TheVariants as faults
use Rattle.smf_machine.specs.Done.{changes_of}
use Rattle.smf_machine.specs.Faults.{IsUnbooted, IsUndone}
use Rattle.smf_machine.specs.Given.{is_done}
use Rattle.smf_machine.specs.Install.{CanInstall}
use Rattle.smf_machine.specs.Lists.{NoTwins}
use Rattle.std.specs.Result.{IsErrAnd}

pub installs_worked : (w : World) (e : Event) (k : Work) → IsBegun w → changes_of w e ≡ None → k ≡ work_of_event w e
    → CanInstall w.now w.restarters k
installs_worked w e k r none is = subst (λ x. CanInstall w.now w.restarters x) (sym is) (reached_installs w e r none)

pub installs_boot : (w : World) (k : Work) → IsNumbered w.now → NoTwins w.restarters → k ≡ work_of_event w events.Boot
    → CanInstall w.now w.restarters k
installs_boot w k n apart is =
    subst (λ x. CanInstall w.now w.restarters x) (sym is) (can_install w events.Boot n apart refl)

-- a boot changes and replies what the repository does
kept : (k : Work) (rs : List CommandReply) → ((booted_as k rs).changes ≡ k.changes) × ((booted_as k rs).reply ≡ k.reply)
kept k [] = (refl, refl)
kept k (Made n ∷ rs) = (refl, refl)
kept k (Granted row ∷ rs) = (refl, refl)
kept k (Done ∷ rs) = (refl, refl)
kept k (NoSuch ∷ rs) = (refl, refl)
kept k (InUse ∷ rs) = (refl, refl)
kept k (NotInState ∷ rs) = (refl, refl)
kept k (Exists ∷ rs) = (refl, refl)
kept k (Denied fault ∷ rs) = (refl, refl)
kept k (Limit ∷ rs) = (refl, refl)
kept k (Stale why row ∷ rs) = (refl, refl)

pub boot_changes : (w : World) (k : Work) → k ≡ work_of_event w events.Boot
    → k.changes ≡ (outcome_of_command w.now commands.Boot).changes
unfolding work_of_event work_of_command
boot_changes w k is = ap (λ x. x.changes) is
    ∙ (kept (work_of_command w commands.Boot) (work_of_command w commands.Boot).reply).0

pub boot_reply : (w : World) (k : Work) → k ≡ work_of_event w events.Boot
    → k.reply ≡ (outcome_of_command w.now commands.Boot).reply ∷ []
unfolding work_of_event work_of_command
boot_reply w k is = ap (λ x. x.reply) is
    ∙ (kept (work_of_command w commands.Boot) (work_of_command w commands.Boot).reply).1

done_one : (r : CommandReply) → is_done (r ∷ []) ≡ true → r ≡ Done
done_one (Made n) e = absurd cc
done_one (Granted row) e = absurd cc
done_one Done e = refl
done_one NoSuch e = absurd cc
done_one InUse e = absurd cc
done_one NotInState e = absurd cc
done_one Exists e = absurd cc
done_one (Denied fault) e = absurd cc
done_one Limit e = absurd cc
done_one (Stale why row) e = absurd cc

pub boot_accepted : (w : World) (k : Work) → k ≡ work_of_event w events.Boot → is_done k.reply ≡ true
    → (next w.now commands.Boot).1 ≡ Done
unfolding next
boot_accepted w k is e =
    done_one (outcome_of_command w.now commands.Boot).reply (ap is_done (sym (boot_reply w k is)) ∙ e)

limit_by : (h : Holdings) (last left : Bool)
    → is_done ((if last then refusal_with Limit else if left
    then (record { changes = changes_for_boot h ++ SetRevision (h.revision + 1) ∷ []; reply = Done })
    else refusal_with Limit).reply ∷ []) ≡ false
    → (if last then refusal_with Limit else if left
    then (record { changes = changes_for_boot h ++ SetRevision (h.revision + 1) ∷ []; reply = Done })
    else refusal_with Limit).reply ≡ Limit
limit_by h true left e = refl
limit_by h false true e = absurd cc
limit_by h false false e = refl

boot_limit : (h : Holdings) → is_done ((outcome_of_command h commands.Boot).reply ∷ []) ≡ false
    → (outcome_of_command h commands.Boot).reply ≡ Limit
unfolding outcome_of_command asked_boot
boot_limit h e = limit_by h (may_not_boot h) (nat_lt h.revision greatest) e

pub boot_refused : (w : World) (k : Work) (fails : RepoFault → Type 0) → k ≡ work_of_event w events.Boot
    → is_done k.reply ≡ false → IsUnbooted fails w.now faults.Limit
boot_refused w k fails is e = inr (refl, boot_limit w.now (ap is_done (sym (boot_reply w k is)) ∙ e))

pub boot_undone : (w : World) (k : Work) (fails : RepoFault → Type 0) (e : MachineFault)
    → k ≡ work_of_event w events.Boot → IsUndone fails k.changes e → IsUnbooted fails w.now e
boot_undone w k fails e is h = inl (subst (λ xs. IsUndone fails xs e) (boot_changes w k is) h)

-- a fault that a `?` passes on keeps what holds of it
pub passed_on : {X : Type 0} (r : Result X MachineFault) (e : MachineFault) (P : MachineFault → Type 0)
    → IsErrAnd r (λ y. y ≡ e) → P e → IfErr r P
passed_on (Ok x) e P q p = tt
passed_on (Err y) e P q p = subst P (sym q) p
