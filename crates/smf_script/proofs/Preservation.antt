-- Agreement stays after events in which children have no part, and after a boot at which they drop all that they had.
-- It also stays if something happened to them and is not told yet.
use Rattle.std.proofs.Common.{◌≡◌, ◌⊎◌, ◌&&◌, not, nat_lt, inl, inr, ℕ, Bool, true, false, if◌then◌else◌, List, [], ◌∷◌, ◌++◌, map, reverse, Option, Some, None, refl, sym, ap, ◌∙◌, subst, append-nil}
use Rattle.std.specs.Prelude.{flat_map}
use Rattle.smf_contract.specs.declared.call.ContractCall.TheVariants as calls
use Rattle.smf_contract.specs.declared.contract.Contract.{Contract}
use Rattle.smf_contract.specs.declared.contract.Holder.TheVariants.{Inherited, Abandoned}
use Rattle.smf_contract.specs.Called.{table_after_contract_call}
use Rattle.smf_contract.specs.Calls.{activity, activity_after_end, ended_one_with, ended_with, given_up, table_without_actor, is_held_by, table_after_reboot}
use Rattle.smf_contract.specs.Entries.{Activity, Contracts}
use Rattle.smf_edge.specs.declared.deed.Happening.{Happening}
use Rattle.smf_edge.specs.Ledgers.{Ledger, record_of}
use Rattle.smf_edge.specs.Steps.{ledger_with_member_event, ledger_after_boot}
use Rattle.smf_model.specs.declared.change.Change.{Change}
use Rattle.smf_model.specs.declared.command.Command.TheVariants as commands
use Rattle.smf_model.specs.declared.command.CommandReply.{CommandReply}
use Rattle.smf_model.specs.declared.command.CommandReply.TheVariants as replies
use Rattle.smf_model.specs.Contents.{Holdings}
use Rattle.smf_model.specs.Next.{Asked, acceptance_with, outcome_of_command, asked_boot, changes_for_boot, greatest, may_not_boot, refusal_with as refusal}
use Rattle.smf_node.specs.declared.fault.NodeFault.{NodeFault}
use Rattle.smf_node.specs.declared.fault.NodeFault.TheVariants.{Limit}
use Rattle.smf_node.specs.Faults.{is_limit, event_refusal}
use Rattle.smf_restarter.specs.Knowledge.{Knowledge}
use Rattle.smf_world.specs.declared.event.Event.{Event}
use Rattle.smf_world.specs.declared.event.Event.TheVariants as events
use Rattle.smf_world.specs.declared.work.Work.{Work}
use Rattle.smf_world.specs.Happens.{happens}
use Rattle.smf_world.specs.Runs.{run}
use Rattle.smf_world.specs.Schedule.{Progress, on}
use Rattle.smf_world.specs.Worked.{booted_as, work_of_call, work_of_command, work_of_crash, restarter, work_of_event}
use Rattle.smf_world.specs.World.{World}
use Rattle.smf_world.proofs.LiveLists.{Each}
use Rattle.smf_world.proofs.Scheduled.{on_world}
use Rattle.smf_world.proofs.TablesInherit.{AllInherit, Inherits, happens_inherits, run_inherits}
use Rattle.smf_script.specs.Agrees.{AgreesSince, AreAlike, AreMade, Before, IsNoted, bond_by, bond_of, passages_in, passages_of, contract_without_holder}
use Rattle.smf_script.specs.Moves.{Moves, is_alone}
use Rattle.smf_script.proofs.Agreement.{IsQuiet, agree_quiet, call_alone, not_run, ordered_by, other_call, quiet_as, quiet_nothing, table_of}
use Rattle.smf_script.proofs.Moves.{driven_moved}
use Rattle.smf_script.proofs.Starts.{no_starts, starts}

-- ---- a crash

unheld_given : (actor : ℕ) (c : Contract) → contract_without_holder (given_up actor c) ≡ contract_without_holder c
unheld_given actor c = by (is_held_by actor c.holder)
  where
    by : (b : Bool)
        → contract_without_holder
        (if b then record c { holder = (if c.terms.inherit then Inherited else Abandoned) } else c)
        ≡ contract_without_holder c
    by true = refl
    by false = refl

unheld_gone : (actor : ℕ) (cs : List Contract)
    → map contract_without_holder (map (given_up actor) cs) ≡ map contract_without_holder cs
unheld_gone actor [] = refl
unheld_gone actor (c ∷ cs) = λ j. unheld_given actor c j ∷ unheld_gone actor cs j

-- a contract that waits to be adopted is not ended
none_ends : (actor : ℕ) (c : Contract) (a : Activity) → Inherits c → ended_one_with actor c a ≡ a
none_ends actor c a p = by (is_held_by actor c.holder) c.terms.inherit c.terms.noorphan p
  where
    by : (h i n : Bool) → i ≡ true → (if h && not i && n then activity_after_end c.id a else a) ≡ a
    by true true n e = refl
    by false true n e = refl
    by true false n e = absurd cc
    by false false n e = absurd cc

none_end : (actor : ℕ) (cs : List Contract) (a : Activity) → Each Inherits cs → ended_with actor cs a ≡ a
none_end actor [] a p = refl
none_end actor (c ∷ cs) a p = ap (ended_with actor cs) (none_ends actor c a p.0) ∙ none_end actor cs a p.1

alike_gone : (t u : Contracts) (actor : ℕ) → AllInherit t → AreAlike t u
    → AreAlike (table_after_contract_call t (calls.Gone actor)) u
unfolding table_after_contract_call table_without_actor
alike_gone t u actor i a =
    let none : ended_with actor t.contracts (activity t) ≡ activity t = none_end actor t.contracts (activity t) i in
    record {
      contracts = unheld_gone actor t.contracts ∙ a.contracts;
      members = ap (λ (x : Activity). x.members) none ∙ a.members;
      events = ap (λ (x : Activity). x.events) none ∙ a.events;
      last_contract = a.last_contract;
      last_process = a.last_process;
    }

quiet_gone : (t : Contracts) (actor : ℕ) → AllInherit t → IsQuiet t (calls.Gone actor)
quiet_gone t actor i =
    record { no_run = other_call (calls.Gone actor) (λ x. x); alike = λ u a. alike_gone t u actor i a }

call_crashed : (w : World) (k : Knowledge) → (work_of_crash w (Some k)).call ≡ calls.Gone k.actor
unfolding work_of_call
call_crashed w k = refl

quiet_crashed : (w : World) (o : Option Knowledge) → AllInherit w.table → IsQuiet w.table (work_of_crash w o).call
quiet_crashed w None i = quiet_nothing w.table
quiet_crashed w (Some k) i =
    quiet_as w.table (work_of_crash w (Some k)).call (calls.Gone k.actor) (call_crashed w k)
    (quiet_gone w.table k.actor i)

-- ---- events in which children have no part, also a client's command and a crash

abbrev pub is_apart : Event → Bool
is_apart (events.Tick name n spawn) = false
is_apart (events.Process p what) = false
is_apart events.Boot = false
is_apart _ = true

abbrev pub AllApart : List Event → Type 0
AllApart [] = Unit {0}
AllApart (e ∷ es) = (is_apart e ≡ true) × AllApart es

-- a list of such events makes the second world of the first
abbrev pub IsApart : World → World → Type 0
IsApart w v = (es : List Event) × AllApart es × (run es w ≡ v)

quiet_alone : (w : World) (e : Event) → is_alone e ≡ true → IsQuiet w.table (work_of_event w e).call
quiet_alone w e a = quiet_as w.table (work_of_event w e).call calls.Nothing (call_alone w e a) (quiet_nothing w.table)

quiet_apart : (w : World) (e : Event) → AllInherit w.table → is_apart e ≡ true
    → IsQuiet w.table (work_of_event w e).call
unfolding work_of_event work_of_command
quiet_apart w (events.Client edit) i a = quiet_nothing w.table
quiet_apart w (events.Crash name) i a = quiet_crashed w (restarter w name) i
quiet_apart w (events.Tick name n spawn) i a = absurd cc
quiet_apart w (events.Process p what) i a = absurd cc
quiet_apart w events.Boot i a = absurd cc
quiet_apart w (events.Deliver place) i a = quiet_alone w (events.Deliver place) refl
quiet_apart w events.Ask i a = quiet_alone w events.Ask refl
quiet_apart w events.Orders i a = quiet_alone w events.Orders refl
quiet_apart w (events.OwnTick name) i a = quiet_alone w (events.OwnTick name) refl
quiet_apart w (events.Report c n) i a = quiet_alone w (events.Report c n) refl
quiet_apart w (events.Timeout name n) i a = quiet_alone w (events.Timeout name n) refl
quiet_apart w (events.Launch name) i a = quiet_alone w (events.Launch name) refl

agree_all : {b : Before} (es : List Event) (w : World) (l : Ledger) → AllApart es → AllInherit w.table → AgreesSince b w l
    → AgreesSince b (run es w) l
agree_all [] w l p i a = a
agree_all (e ∷ es) w l p i a =
    agree_all es (happens w e) l p.1 (happens_inherits w e i)
    (agree_quiet w (happens w e) e l refl (quiet_apart w e i p.0) a)

pub agree_apart : {b : Before} (w v : World) (l : Ledger) → IsApart w v → AllInherit w.table → AgreesSince b w l → AgreesSince b v l
agree_apart {b} w v l p i a = subst (λ (x : World). AgreesSince b x l) p.2 (agree_all p.0 w l p.1 i a)

pub apart_inherits : (w v : World) → IsApart w v → AllInherit w.table → AllInherit v.table
apart_inherits w v p i = subst (λ (x : World). AllInherit x.table) p.2 (run_inherits p.0 w i)

pub moves_inherits : (w v : World) (l m : Ledger) → Moves w v l m → AllInherit w.table → AllInherit v.table
moves_inherits w v l m h i =
    let d = driven_moved w v l m h in
    subst (λ (x : World). AllInherit x.table) d.2 (run_inherits d.0 w i)

run_both : (es fs : List Event) (w : World) → run (es ++ fs) w ≡ run fs (run es w)
run_both [] fs w = refl
run_both (e ∷ es) fs w = run_both es fs (happens w e)

all_both : (es fs : List Event) → AllApart es → AllApart fs → AllApart (es ++ fs)
all_both [] fs a b = b
all_both (e ∷ es) fs a b = (a.0, all_both es fs a.1 b)

pub apart_self : (w : World) → IsApart w w
apart_self w = ([], tt, refl)

pub apart_then : (u v w : World) → IsApart u v → IsApart v w → IsApart u w
apart_then u v w a b = (a.0 ++ b.0, all_both a.0 b.0 a.1 b.1, run_both a.0 b.0 u ∙ ap (run b.0) a.2 ∙ b.2)

pub apart_on : (p : Progress) (e : Event) → is_apart e ≡ true → IsApart p.world (on p e).world
apart_on p e a = (e ∷ [], (a, tt), sym (on_world p e))

-- ---- what happened to children, and is not told yet

pub agree_pending : {b : Before} (w : World) (l m : Ledger) (id : ℕ) (h : Happening) → m ≡ ledger_with_member_event l id h
    → AgreesSince b w l → AgreesSince b w m
agree_pending {b} w l m id h is a =
    let there : AgreesSince b w (ledger_with_member_event l id h) =
    record {
      starts = a.starts;
      made = a.made;
      counted = a.counted;
      alike = a.alike;
      noted = a.noted;
      past = a.past;
      ordered = a.ordered;
    } in
    subst (λ (k : Ledger). AgreesSince b w k) (sym is) there

-- ---- a boot that can happen

boot_reply : (h : Holdings) → ((asked_boot h).reply ≡ replies.Done) ⊎ ((asked_boot h).reply ≡ replies.Limit)
unfolding asked_boot
boot_reply h = by (may_not_boot h)
  where
    fits : (b : Bool) (cs : List Change) (c : Change) (a : Asked)
        → a ≡ (if b then (record { changes = cs ++ c ∷ []; reply = replies.Done }) else refusal replies.Limit)
        → (a.reply ≡ replies.Done) ⊎ (a.reply ≡ replies.Limit)
    fits true cs c a e = inl (ap (λ (x : Asked). x.reply) e)
    fits false cs c a e = inr (ap (λ (x : Asked). x.reply) e)

    by : (b : Bool)
        → ((if b then refusal replies.Limit else acceptance_with h (changes_for_boot h) replies.Done).reply
        ≡ replies.Done)
        ⊎ ((if b then refusal replies.Limit else acceptance_with h (changes_for_boot h) replies.Done).reply
        ≡ replies.Limit)
    by true = inr refl
    by false = fits (nat_lt h.revision greatest) (changes_for_boot h) _
        (acceptance_with h (changes_for_boot h) replies.Done) refl

asked_reply : (h : Holdings) → ((outcome_of_command h commands.Boot).reply ≡ replies.Done)
    ⊎ ((outcome_of_command h commands.Boot).reply ≡ replies.Limit)
unfolding outcome_of_command
asked_reply h = boot_reply h

abbrev refused_if : Bool → Option NodeFault
refused_if b = if b then Some Limit else None

not_limited : (r : CommandReply) → (r ≡ replies.Done) ⊎ (r ≡ replies.Limit) → refused_if (is_limit r) ≡ None
    → r ≡ replies.Done
not_limited r (inl done) e = done
not_limited r (inr limit) e =
    let no : refused_if (is_limit replies.Limit) ≡ None =
    subst (λ (x : CommandReply). refused_if (is_limit x) ≡ None) limit e in
    absurd cc

call_booted : (k : Work) (rs : List CommandReply) → rs ≡ replies.Done ∷ [] → (booted_as k rs).call ≡ calls.Reboot
call_booted k rs e = ap (λ (x : List CommandReply). (booted_as k x).call) e

boot_calls : (w : World) → event_refusal w events.Boot ≡ None → (work_of_event w events.Boot).call ≡ calls.Reboot
unfolding work_of_event work_of_command
boot_calls w taken =
    call_booted (work_of_command w commands.Boot) ((outcome_of_command w.now commands.Boot).reply ∷ [])
    (ap (λ (r : CommandReply). r ∷ [])
    (not_limited (outcome_of_command w.now commands.Boot).reply (asked_reply w.now) taken))

reboot_called : (t : Contracts) → table_after_contract_call t calls.Reboot ≡ table_after_reboot t
unfolding table_after_contract_call
reboot_called t = refl

-- a boot at which children dropped all that they had
pub agree_boot : {b : Before} (w v : World) (l m : Ledger) → event_refusal w events.Boot ≡ None → v ≡ happens w events.Boot
    → m ≡ ledger_after_boot l → AgreesSince b w l → AgreesSince b v m
agree_boot {b} w v l m taken is same a =
    let call = boot_calls w taken in
    let table : v.table ≡ table_after_reboot w.table =
    ap (λ (x : World). x.table) is ∙ table_of w events.Boot ∙ ap (table_after_contract_call w.table) call
    ∙ reboot_called w.table in
    let Made : Contracts → Type 0 = λ t. AreMade b.table.contracts (record_of l.notes).runs t.contracts in
    let Alike : Contracts → Type 0 = λ t. AreAlike t (table_after_reboot l.table) in
    let Noted : Contracts → Type 0 = λ t. IsNoted b.table.events l.notes t.events in
    let there : AgreesSince b v (ledger_after_boot l) = record {
      starts = ap (λ (x : World). b.starts ++ starts (reverse x.trail)) is
          ∙ ap (λ xs. b.starts ++ xs)
          (no_starts w events.Boot (not_run (work_of_event w events.Boot).call calls.Reboot call (λ x. x)))
          ∙ a.starts;
      made = subst Made (sym table) (
        map bond_of b.table.contracts ++ map bond_by (record_of l.notes).runs,
        sym (append-nil (map bond_of b.table.contracts ++ map bond_by (record_of l.notes).runs)),
      );
      counted = ap (λ (t : Contracts). t.last_process) table ∙ a.counted;
      alike = subst Alike (sym table)
          (record {
            contracts = refl;
            members = refl;
            events = refl;
            last_contract = a.alike.last_contract;
            last_process = a.alike.last_process;
          });
      noted = subst Noted (sym table) (
        flat_map passages_in b.table.events ++ flat_map passages_of l.notes,
        sym (append-nil (flat_map passages_in b.table.events ++ flat_map passages_of l.notes)),
      );
      past = tt;
      ordered = ordered_by l.table (table_after_reboot l.table) calls.Reboot (sym (reboot_called l.table)) a.ordered;
    } in
    subst (λ (k : Ledger). AgreesSince b v k) (sym same) there
