-- A start that lives after an event is the live run of its instance's row.
use Rattle.std.proofs.Common.{◌≡◌, ◌⊎◌, ℕ, true, List, [], ◌∷◌, inl, inr, refl, sym, subst}
use Rattle.std.specs.List.{filter_map}
use Rattle.smf_state.specs.declared.step.Proposal.{Proposal}
use Rattle.smf_model.specs.declared.change.Change.{Change}
use Rattle.smf_model.specs.declared.command.Command.{Command}
use Rattle.smf_model.specs.declared.command.Command.TheVariants as commands
use Rattle.smf_model.specs.Contents.{Holdings}
use Rattle.smf_model.specs.Look.{holdings_after_changes}
use Rattle.smf_model.specs.Next.{outcome_of_command, next}
use Rattle.smf_wire.specs.declared.message.Message.{Message}
use Rattle.smf_wire.specs.declared.message.Message.TheVariants as messages
use Rattle.smf_restarter.specs.Knowledge.{Knowledge}
use Rattle.smf_world.specs.declared.event.Event.{Event}
use Rattle.smf_world.specs.declared.item.Item.{Item}
use Rattle.smf_world.specs.declared.item.Item.TheVariants.{Boot}
use Rattle.smf_world.specs.declared.work.Work.{Work}
use Rattle.smf_world.specs.Happens.{world_after, happens}
use Rattle.smf_world.specs.Items.{change_item, items_of}
use Rattle.smf_world.specs.Safe.{OneLive}
use Rattle.smf_world.specs.Worked.{work_of_event}
use Rattle.smf_world.specs.World.{World}
use Rattle.smf_world.proofs.ItemsMade.{AreMade}
use Rattle.smf_safety.proofs.KnowEvents.{AreInformedOf}
use Rattle.smf_safety.proofs.KnowStarts.{Stands, has_orders, owed_fresh, owed_well}
use Rattle.smf_safety.proofs.KnowWalked.{IsKnowing, answers, begins, boots, edits, idles, is_edit, knowing, leaves, steps}
use Rattle.smf_safety.proofs.LiveClauses.{AllFreeTheOver, FreesTheOver, IsAmong, IsOver, LiveInRows, Lives}
use Rattle.smf_world.proofs.LiveEach.{each_in, each_later}
use Rattle.smf_safety.proofs.LiveEvents.{IsStartOf, lives_event}
use Rattle.smf_safety.proofs.LiveItems.{rows_live}
use Rattle.smf_safety.proofs.LiveOverOpen.{owed_of}
use Rattle.smf_safety.proofs.LiveRows.{GivesTheOver, all_free_commanded, live_commanded}
use Rattle.smf_safety.proofs.LiveStarts.{live_kept}
use Rattle.smf_world.proofs.TrailItems.{noted, noted_more}
use Rattle.smf_safety.proofs.RowEvents.{IsAskedOf, asked_of, asks, still}
use Rattle.smf_safety.proofs.RowMade.{moves}
use Rattle.smf_safety.proofs.SaidEvents.{AreRowsOf}
use Rattle.smf_world.proofs.TablesWalked.{change_rows, tabled}

-- ---- what is over stays over

pub over_later : (w : World) (e : Event) (n run : ℕ) → AreInformedOf w → IsOver w.restarters w.trail n run
    → Lives n run (happens w e).trail → ⊥
over_later w e n run f over l = by (lives_event w e n run l)
  where
    by : Lives n run w.trail ⊎ IsStartOf w.restarters n run → ⊥
    by (inl x) = over.dead x
    by (inr s) = over.unowed (owed_of w.history w.now w.sent w.trail w.restarters n run f.informed s)

over_at : (h : Holdings) (ks : List Knowledge) (t u : List Item) (m : Message)
    → ((n run : ℕ) → IsOver ks t n run → Lives n run u → ⊥) → FreesTheOver h ks t m → FreesTheOver h ks u m
over_at h ks t u (messages.Propose q) later over = λ o run f live. (
    let x : IsOver ks t q.instance run = over o run f live in
    record { dead = later q.instance run x; unowed = x.unowed }
    )
over_at h ks t u (messages.Join name launch) later over = tt
over_at h ks t u (messages.Rows name launch rows) later over = tt
over_at h ks t u (messages.Ack name launch serial n row) later over = tt
over_at h ks t u (messages.Nack name launch serial n why row) later over = tt
over_at h ks t u messages.AskView later over = tt
over_at h ks t u (messages.AskChange since) later over = tt
over_at h ks t u (messages.View v) later over = tt
over_at h ks t u (messages.Changes news) later over = tt
over_at h ks t u (messages.Order o) later over = tt

-- the proposals that were said before an event free only runs that are over after its items
pub free_at : (w : World) (e : Event) → AreInformedOf w → AllFreeTheOver w.now w.restarters w.trail w.sent
    → AllFreeTheOver w.now w.restarters (happens w e).trail w.sent
free_at w e f over =
    each_later (FreesTheOver w.now w.restarters w.trail) (FreesTheOver w.now w.restarters (happens w e).trail)
    (λ m x. over_at w.now w.restarters w.trail (happens w e).trail m (λ n run. over_later w e n run f) x) w.sent over

-- ---- and behind its command

abbrev FreeBehind : World → List Item → List Change → Type 0
FreeBehind w t cs = AllFreeTheOver (holdings_after_changes w.now cs) w.restarters t w.sent

free_unmade : (w : World) (t : List Item) → AllFreeTheOver w.now w.restarters t w.sent → FreeBehind w t []
unfolding holdings_after_changes
free_unmade w t over = over

free_made : (w : World) (t : List Item) (c : Command) → AreRowsOf w → AreMade (outcome_of_command w.now c).changes
    → AllFreeTheOver w.now w.restarters t w.sent → FreeBehind w t (outcome_of_command w.now c).changes
unfolding next
free_made w t c r made over =
    all_free_commanded w.now (next w.now c).0 c w.restarters t w.sent w.sent
    (moves w.now c r.numbered made) r.said.each over

free_by : (w : World) (t : List Item) (cs : List Change) (past : List Command) → IsAskedOf w.now w.sent cs past
    → AreRowsOf w → AllFreeTheOver w.now w.restarters t w.sent → FreeBehind w t cs
free_by w t cs past (still e d) r over = subst (FreeBehind w t) (sym e) (free_unmade w t over)
free_by w t cs past (asks c e d a) r over =
    subst (FreeBehind w t) (sym e) (by (outcome_of_command w.now c).changes refl)
  where
    by : (xs : List Change) → (outcome_of_command w.now c).changes ≡ xs → FreeBehind w t xs
    by [] f = free_unmade w t over
    by (x ∷ xs) f = subst (FreeBehind w t) f (free_made w t c r (subst AreMade (sym f) tt) over)

pub free_olds : (w : World) (e : Event) → Stands w → AllFreeTheOver w.now w.restarters w.trail w.sent
    → AllFreeTheOver (happens w e).now w.restarters (happens w e).trail w.sent
unfolding happens world_after
free_olds w e s over =
    free_by w (noted (work_of_event w e).items w.trail) (work_of_event w e).changes (work_of_event w e).command
    (asked_of w e) s.rows (free_at w e s.informed over)

-- ---- live rows

abbrev LiveBehind : World → List Item → List Change → Type 0
LiveBehind w t cs = LiveInRows (holdings_after_changes w.now cs) t

live_unmade : (w : World) (t : List Item) → LiveInRows w.now t → LiveBehind w t []
unfolding holdings_after_changes
live_unmade w t live = live

live_made : (w : World) (t : List Item) (c : Command) → AreRowsOf w → AreMade (outcome_of_command w.now c).changes
    → (c ≡ commands.Boot → ⊥) → GivesTheOver w.now w.restarters t c → LiveInRows w.now t
    → LiveBehind w t (outcome_of_command w.now c).changes
unfolding next
live_made w t c r made no_boot over live =
    live_commanded w.now (next w.now c).0 c w.restarters t (moves w.now c r.numbered made) no_boot over live

live_asked : (w : World) (t : List Item) (c : Command) → AreRowsOf w → (c ≡ commands.Boot → ⊥)
    → GivesTheOver w.now w.restarters t c → LiveInRows w.now t → LiveBehind w t (outcome_of_command w.now c).changes
live_asked w t c r no_boot over live = by (outcome_of_command w.now c).changes refl
  where
    by : (xs : List Change) → (outcome_of_command w.now c).changes ≡ xs → LiveBehind w t xs
    by [] f = live_unmade w t live
    by (x ∷ xs) f = subst (LiveBehind w t) f (live_made w t c r (subst AreMade (sym f) tt) no_boot over live)

edit_no_boot : (c : Command) → is_edit c ≡ true → c ≡ commands.Boot → ⊥
edit_no_boot c e f = let g : is_edit commands.Boot ≡ true = subst (λ (x : Command). is_edit x ≡ true) f e in cc

edit_no_proposal : (c : Command) (p : Proposal) → is_edit c ≡ true → c ≡ commands.Propose p → ⊥
edit_no_proposal c p e f = let g : is_edit (commands.Propose p) ≡ true =
    subst (λ (x : Command). is_edit x ≡ true) f e in cc

launch_no_boot : (name : List ℕ) → commands.Launch name ≡ commands.Boot → ⊥
launch_no_boot name e = cc

launch_no_proposal : (name : List ℕ) (p : Proposal) → commands.Launch name ≡ commands.Propose p → ⊥
launch_no_proposal name p e = cc

propose_no_boot : (p : Proposal) → commands.Propose p ≡ commands.Boot → ⊥
propose_no_boot p e = cc

one_proposal : (p q : Proposal) → commands.Propose p ≡ commands.Propose q → p ≡ q
one_proposal p q e = cc

-- nothing lives after a boot
boot_lives : (h : Holdings) (xs : List Change) (x : Change) (t : List Item) (n run : ℕ)
    → Lives n run (noted (items_of h commands.Boot (x ∷ xs)) t) → ⊥
unfolding items_of
boot_lives h xs x t n run l =
    let rows : List Item = filter_map (change_item h) (x ∷ xs) in
    let behind : Lives n run (noted rows (Boot ∷ t)) = subst (Lives n run) (noted_more Boot rows t) l in
    subst (IsAmong n run) (rows_live rows (Boot ∷ t) (change_rows h (x ∷ xs))) behind

boot_behind : (w : World) (items : List Item) (cs : List Change) → items ≡ items_of w.now commands.Boot cs
    → LiveInRows w.now (noted items w.trail) → LiveBehind w (noted items w.trail) cs
boot_behind w items [] e live = live_unmade w (noted items w.trail) live
boot_behind w items (x ∷ xs) e live =
    λ n run l. absurd
    (boot_lives w.now xs x w.trail n run (subst (λ (zs : List Item). Lives n run (noted zs w.trail)) e l))

live_behind : (w : World) (k : Work) → IsKnowing w k → AreRowsOf w
    → AllFreeTheOver w.now w.restarters (noted k.items w.trail) w.sent → LiveInRows w.now (noted k.items w.trail)
    → LiveBehind w (noted k.items w.trail) k.changes
live_behind w k (steps l d s) r over live =
    subst (LiveBehind w (noted k.items w.trail)) (sym s.changes) (live_unmade w (noted k.items w.trail) live)
live_behind w k (idles i b) r over live =
    subst (LiveBehind w (noted k.items w.trail)) (sym i.changes) (live_unmade w (noted k.items w.trail) live)
live_behind w k (leaves name i b) r over live =
    subst (LiveBehind w (noted k.items w.trail)) (sym i.changes) (live_unmade w (noted k.items w.trail) live)
live_behind w k (edits c e x m b) r over live =
    subst (LiveBehind w (noted k.items w.trail)) (sym x.changes)
    (live_asked w (noted k.items w.trail) c r (edit_no_boot c e) (λ p f. absurd (edit_no_proposal c p e f)) live)
live_behind w k (answers p was x m b) r over live =
    let t : List Item = noted k.items w.trail in
    let frees : FreesTheOver w.now w.restarters t (messages.Propose p) =
    each_in (FreesTheOver w.now w.restarters t) (messages.Propose p) w.sent over was in
    subst (LiveBehind w t) (sym x.changes)
    (live_asked w t (commands.Propose p) r (propose_no_boot p)
    (λ q e. subst (λ (z : Proposal). FreesTheOver w.now w.restarters t (messages.Propose z))
    (one_proposal p q e) frees) live)
live_behind w k (begins name none x m b) r over live =
    subst (LiveBehind w (noted k.items w.trail)) (sym x.changes)
    (live_asked w (noted k.items w.trail) (commands.Launch name) r (launch_no_boot name)
    (λ p f. absurd (launch_no_proposal name p f)) live)
live_behind w k (boots x m b) r over live =
    subst (LiveBehind w (noted k.items w.trail)) (sym x.changes)
    (boot_behind w k.items (outcome_of_command w.now commands.Boot).changes x.items live)

-- a start that lives is the live run of its row, after each event
pub live_event : (w : World) (e : Event) → Stands w → AllFreeTheOver w.now w.restarters w.trail w.sent
    → LiveInRows w.now w.trail → OneLive w.trail → LiveInRows (happens w e).now (happens w e).trail
unfolding happens world_after
live_event w e s over live one =
    live_behind w (work_of_event w e) (knowing w e (has_orders w s)) s.rows (free_at w e s.informed over)
    (live_kept w.history w.now w.restarters w.table (work_of_event w e).items (work_of_event w e).call w.trail
    (tabled w e) (owed_fresh w s) (owed_well w s) (record { live = live; once = s.once; one = one })).live
