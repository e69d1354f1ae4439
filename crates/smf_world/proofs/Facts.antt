-- Each event keeps a fact that each accepted command keeps.
use Rattle.std.proofs.Common.{◌≡◌, List, [], ◌∷◌, ◌++◌, refl, sym, ap, ◌∙◌, subst}
use Rattle.smf_model.specs.declared.change.Change.{Change}
use Rattle.smf_model.specs.declared.command.Command.{Command}
use Rattle.smf_model.specs.declared.command.Command.TheVariants as commands
use Rattle.smf_model.specs.declared.command.CommandReply.{CommandReply}
use Rattle.smf_model.specs.declared.command.CommandReply.TheVariants as replies
use Rattle.smf_model.specs.History.{History}
use Rattle.smf_model.specs.Contents.{Holdings}
use Rattle.smf_model.specs.Laws.{IsNumbered}
use Rattle.smf_model.specs.Look.{holdings_after_changes}
use Rattle.smf_model.specs.Next.{outcome_of_command, next}
use Rattle.smf_world.specs.declared.event.Event.{Event}
use Rattle.smf_world.specs.declared.event.Event.TheVariants as events
use Rattle.smf_world.specs.declared.item.Item.{Item}
use Rattle.smf_world.specs.declared.work.Work.{Work}
use Rattle.smf_world.specs.Happens.{world_after, happens}
use Rattle.smf_world.specs.Items.{items_of}
use Rattle.smf_world.specs.Runs.{run}
use Rattle.smf_world.specs.Safe.{commits, made_items}
use Rattle.smf_world.specs.Worked.{accepted_command, booted_as, work_of_command, work_of_event}
use Rattle.smf_world.specs.World.{World}
use Rattle.smf_world.proofs.ItemsMade.{AreMade, items_made, no_items}
use Rattle.smf_world.proofs.TrailItems.{commits_noted, made_commit, noted, others_noted}
use Rattle.smf_world.proofs.Walked.{IsWalked, gives, still, walked}

-- a fact of the history, of what is held, and of the commits of the trail
abbrev pub Fact : Type 1
Fact = History → Holdings → List Item → Type 0

abbrev pub Of : Fact → World → Type 0
Of P w = P w.history w.now (commits w.trail)

-- the fact after one command more, which made a revision
abbrev pub Behind : Fact → History → Holdings → Command → List Item → Type 0
Behind P y h c t = P (record y { past = c ∷ y.past }) (next h c).0 (noted (made_items c h (next h c).0) t)

-- it speaks of values that are numbered, and each command that makes changes keeps it
pub record IsKept (P : Fact) : Type 0 where
  pub numbered : (y : History) (h : Holdings) (t : List Item) → P y h t → IsNumbered h
  pub kept : (y : History) (h : Holdings) (c : Command) (t : List Item) → AreMade (outcome_of_command h c).changes
      → P y h t → Behind P y h c t

-- the fact after these changes, commands and items
abbrev pub After : Fact → World → List Change → List Command → List Item → Type 0
After P w cs past items =
    P (record w.history { past = past ++ w.history.past }) (holdings_after_changes w.now cs)
    (commits (noted items w.trail))

of_still : (P : Fact) (w : World) (items : List Item) → commits (noted items w.trail) ≡ commits w.trail → Of P w
    → After P w [] [] items
unfolding holdings_after_changes
of_still P w items e f = subst (P w.history w.now) (sym e) f

-- a command that is accepted
pub of_made : (P : Fact) (w : World) (c : Command) → IsNumbered w.now → AreMade (outcome_of_command w.now c).changes
    → Behind P w.history w.now c (commits w.trail)
    → After P w (outcome_of_command w.now c).changes (accepted_command c (outcome_of_command w.now c).changes)
    (items_of w.now c (outcome_of_command w.now c).changes)
unfolding next
of_made P w c numbered m f =
    let cs : List Change = (outcome_of_command w.now c).changes in
    let shows : commits (noted (items_of w.now c cs) w.trail)
    ≡ noted (made_items c w.now (next w.now c).0) (commits w.trail) =
    ap (λ (xs : List Item). commits (noted xs w.trail)) (items_made w.now c numbered m)
    ∙ commits_noted (made_items c w.now (next w.now c).0) w.trail (made_commit c w.now (next w.now c).0) in
    subst (λ (past : List Command). P (record w.history { past = past ++ w.history.past })
    (holdings_after_changes w.now cs) (commits (noted (items_of w.now c cs) w.trail))) (sym (taken cs m))
    (subst (P (record w.history { past = c ∷ w.history.past }) (holdings_after_changes w.now cs)) (sym shows) f)
  where
    taken : (cs : List Change) → AreMade cs → accepted_command c cs ≡ c ∷ []
    taken [] m = absurd m
    taken (x ∷ xs) m = refl

-- a command
pub of_command : (P : Fact) → IsKept P → (w : World) (c : Command) → Of P w
    → After P w (outcome_of_command w.now c).changes (accepted_command c (outcome_of_command w.now c).changes)
    (items_of w.now c (outcome_of_command w.now c).changes)
of_command P k w c f = by (outcome_of_command w.now c).changes refl
  where
    made : AreMade (outcome_of_command w.now c).changes
        → After P w (outcome_of_command w.now c).changes (accepted_command c (outcome_of_command w.now c).changes)
        (items_of w.now c (outcome_of_command w.now c).changes)
    made m = of_made P w c (k.numbered w.history w.now (commits w.trail) f) m
        (k.kept w.history w.now c (commits w.trail) m f)

    by : (cs : List Change) → (outcome_of_command w.now c).changes ≡ cs
        → After P w cs (accepted_command c cs) (items_of w.now c cs)
    by [] e = of_still P w (items_of w.now c [])
        (ap (λ (xs : List Item). commits (noted xs w.trail)) (no_items w.now c)) f
    by (x ∷ xs) e =
        subst (λ (cs : List Change). After P w cs (accepted_command c cs) (items_of w.now c cs)) e
        (made (subst AreMade (sym e) tt))

of_walk : (P : Fact) → IsKept P → (w : World) (cs : List Change) (past : List Command) (items : List Item)
    → IsWalked w.now cs past items → Of P w → After P w cs past items
of_walk P k w cs past items (still e d a) f =
    subst (λ (xs : List Change). After P w xs past items) (sym e)
    (subst (λ (xs : List Command). After P w [] xs items) (sym d) (of_still P w items (others_noted items w.trail a) f))
of_walk P k w cs past items (gives c e d a) f =
    subst (λ (xs : List Change). After P w xs past items) (sym e)
    (subst (λ (xs : List Command). After P w (outcome_of_command w.now c).changes xs items) (sym d)
    (subst (λ (xs : List Item). After P w (outcome_of_command w.now c).changes
    (accepted_command c (outcome_of_command w.now c).changes) xs) (sym a) (of_command P k w c f)))

pub of_event : (P : Fact) → IsKept P → (w : World) (e : Event) → Of P w → Of P (happens w e)
unfolding happens world_after
of_event P k w e f =
    of_walk P k w (work_of_event w e).changes (work_of_event w e).command (work_of_event w e).items (walked w e) f

pub of_run : (P : Fact) → IsKept P → (es : List Event) (w : World) → Of P w → Of P (run es w)
of_run P k [] w f = f
of_run P k (e ∷ es) w f = of_run P k es (happens w e) (of_event P k w e f)

-- ---- a boot that is accepted

of_booted : (P : Fact) (w : World) (k : Work) (rs : List CommandReply) → After P w k.changes k.command k.items
    → Of P (world_after w (booted_as k rs))
unfolding world_after
of_booted P w k [] f = f
of_booted P w k (replies.Done ∷ rs) f = f
of_booted P w k (r ∷ rs) f = f

pub of_boot : (P : Fact) (w : World) → IsNumbered w.now → AreMade (outcome_of_command w.now commands.Boot).changes
    → Behind P w.history w.now commands.Boot (commits w.trail) → Of P (happens w events.Boot)
unfolding happens work_of_event work_of_command
of_boot P w numbered m f =
    of_booted P w (work_of_command w commands.Boot) (work_of_command w commands.Boot).reply
    (of_made P w commands.Boot numbered m f)
