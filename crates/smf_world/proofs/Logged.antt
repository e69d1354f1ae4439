-- The commits that the trail shows are the history, and an event changes only the parts that its work names.
use Rattle.std.proofs.Common.{◌≡◌, List, [], refl, sym, ap, ◌∙◌, subst}
use Rattle.smf_model.specs.declared.change.Change.{Change}
use Rattle.smf_model.specs.declared.command.Command.{Command}
use Rattle.smf_model.specs.History.{holdings_after_commands}
use Rattle.smf_model.specs.Contents.{Holdings}
use Rattle.smf_model.specs.Laws.{IsNumbered}
use Rattle.smf_model.specs.Look.{holdings_after_changes}
use Rattle.smf_model.specs.Next.{outcome_of_command, next}
use Rattle.smf_model.proofs.LawNumbers.{stays_numbered}
use Rattle.smf_world.specs.declared.event.Event.{Event}
use Rattle.smf_world.specs.declared.item.Item.{Item}
use Rattle.smf_world.specs.Happens.{world_after, happens}
use Rattle.smf_world.specs.Runs.{run}
use Rattle.smf_world.specs.Safe.{CommitsFollowHistory, commits_of, made_items}
use Rattle.smf_world.specs.Worked.{work_of_event}
use Rattle.smf_world.specs.World.{World, initial_world}
use Rattle.smf_world.proofs.Facts.{Fact, IsKept, Of, of_event, of_run}
use Rattle.smf_world.proofs.TrailItems.{noted}
use Rattle.smf_world.proofs.Walked.{IsWalked, gives, still, walked}

-- ---- numbers

numbered_none : (h : Holdings) → IsNumbered h → IsNumbered (holdings_after_changes h [])
unfolding holdings_after_changes
numbered_none h n = n

numbered_next : (h : Holdings) (c : Command) → IsNumbered h
    → IsNumbered (holdings_after_changes h (outcome_of_command h c).changes)
unfolding next
numbered_next h c n = stays_numbered h c n

numbered_by : (h : Holdings) (cs : List Change) (past : List Command) (items : List Item) → IsWalked h cs past items
    → IsNumbered h → IsNumbered (holdings_after_changes h cs)
numbered_by h cs past items (still e d a) n =
    subst (λ (xs : List Change). IsNumbered (holdings_after_changes h xs)) (sym e) (numbered_none h n)
numbered_by h cs past items (gives c e d a) n =
    subst (λ (xs : List Change). IsNumbered (holdings_after_changes h xs)) (sym e) (numbered_next h c n)

pub changes_numbered : (w : World) (e : Event) → IsNumbered w.now
    → IsNumbered (holdings_after_changes w.now (work_of_event w e).changes)
changes_numbered w e n =
    numbered_by w.now (work_of_event w e).changes (work_of_event w e).command (work_of_event w e).items (walked w e) n

pub changes_made : (w : World) (e : Event)
    → (happens w e).now ≡ holdings_after_changes w.now (work_of_event w e).changes
unfolding happens world_after
changes_made w e = refl

pub numbered : (w : World) (e : Event) → IsNumbered w.now → IsNumbered (happens w e).now
unfolding happens world_after
numbered w e n = changes_numbered w e n

-- ---- commits

abbrev Logged : Fact
Logged y h t = IsNumbered h × (h ≡ holdings_after_commands y.first y.past) × (t ≡ commits_of y.first y.past)

logged_kept : IsKept Logged
logged_kept =
    record {
      numbered = λ y h t l. l.0;
      kept = λ y h c t m l. (
        stays_numbered h c l.0,
        ap (λ (k : Holdings). (next k c).0) l.1,
        ap (noted (made_items c h (next h c).0)) l.2
            ∙ ap (λ (k : Holdings). noted (made_items c k (next k c).0) (commits_of y.first y.past)) l.1,
      );
    }

follows : (w : World) → Of Logged w → CommitsFollowHistory w
follows w l = record { newest = l.1; commits = l.2 }

pub event_follows : (w : World) (e : Event) → IsNumbered w.now → CommitsFollowHistory w
    → CommitsFollowHistory (happens w e)
event_follows w e n f = follows (happens w e) (of_event Logged logged_kept w e (n, f.newest, f.commits))

pub run_follows : (h : Holdings) (es : List Event) → IsNumbered h → CommitsFollowHistory (run es (initial_world h))
run_follows h es n = follows (run es (initial_world h)) (of_run Logged logged_kept es (initial_world h) (n, refl, refl))
