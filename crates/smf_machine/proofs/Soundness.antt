-- A machine's world stays one that is reached, with what is formed and spelled.
use Rattle.std.proofs.Common.{◌≡◌, ◌∙◌, List, true, ap, subst, sym, Result, Ok, Err, IfOk, OnErr}
use Rattle.smf_model.specs.declared.command.Command.TheVariants as commands
use Rattle.smf_model.specs.declared.command.CommandReply.{CommandReply}
use Rattle.smf_model.specs.declared.command.CommandReply.TheVariants.{Done}
use Rattle.smf_model.specs.Contents.{Holdings}
use Rattle.smf_model.specs.Laws.{IsNumbered}
use Rattle.smf_model.specs.Next.{next}
use Rattle.smf_world.specs.declared.event.Event.{Event}
use Rattle.smf_world.specs.declared.event.Event.TheVariants as events
use Rattle.smf_world.specs.Formed.{IsFormed}
use Rattle.smf_world.specs.Happens.{happens}
use Rattle.smf_past.specs.Begun.{IsBegun}
use Rattle.smf_world.specs.Spelled.{AreSpelled, IsFormedEvent}
use Rattle.smf_world.specs.Reached.{IsReached}
use Rattle.smf_world.specs.Safe.{IsSafe}
use Rattle.smf_world.specs.World.{World, initial_world}
use Rattle.smf_world.proofs.LaterWorlds.{reached_first as world_first}
use Rattle.smf_safety.proofs.Safely.{reached_safe}
use Rattle.smf_past.specs.Forgotten.{IsCaughtUp}
use Rattle.smf_past.specs.Lived.{continued}
use Rattle.smf_past.specs.Remains.{remains}
use Rattle.smf_past.proofs.BegunWorlds.{begun_found}
use Rattle.smf_past.proofs.RemainingWorlds.{begun_remains}
use Rattle.smf_contract.specs.Entries.{Contracts}
use Rattle.smf_contract.specs.Laws.{IsOrdered}
use Rattle.std.specs.List.{AllByRecursion}
use Rattle.smf_world.proofs.SpelledRuns.{formed_event, spelled_event}
use Rattle.smf_machine.proofs.WorldLaws.{reached_first, reached_next, reached_numbered}
use Rattle.smf_machine.specs.declared.parts.Parts.{Parts}
use Rattle.smf_machine.specs.Done.{IsDone}
use Rattle.smf_machine.specs.Parts.{world_of}
use Rattle.smf_machine.specs.Sound.{IsSound}

-- ---- one event more

pub sound_next : (w v : World) (e : Event) → v ≡ happens w e → IsFormedEvent e → IsSound w → IsSound v
sound_next w v e is formed s =
    let n : IsNumbered w.now = reached_numbered w s.reached in
    record {
      reached = reached_next w v e is s.reached;
      formed = subst (λ (u : World). IsFormed u.now) (sym is) (formed_event w e n s.formed formed);
      spelled = subst AreSpelled (sym is) (spelled_event w e n s.formed formed s.spelled);
    }

pub sound_same : (w v : World) → v ≡ w → IsSound w → IsSound v
sound_same w v is s = subst IsSound (sym is) s

pub sound_after : {E : Type 0} (w v : World) (e : Event) (r : Result (List CommandReply) E) → IsSound w
    → IsFormedEvent e → IfOk r (λ x. IsDone w e v x) → OnErr r (v ≡ w) → IsSound v
sound_after w v e (Ok x) s formed done same = sound_next w v e done.made formed s
sound_after w v e (Err f) s formed done same = sound_same w v same s

-- ---- what was found

pub now_same : (h k : Holdings) (p q : Parts) → world_of k q ≡ world_of h p → k ≡ h
unfolding world_of
now_same h k p q e = ap (λ w. w.now) e

-- its boot was accepted
reached_new : (h : Holdings) (w v : World) → w ≡ initial_world h → IsNumbered h → (next w.now commands.Boot).1 ≡ Done
    → v ≡ happens w events.Boot → IsBegun v
reached_new h w v is n accepted made =
    reached_first h v n (subst (λ (u : World). (next u.now commands.Boot).1 ≡ Done) is accepted)
    (made ∙ ap (λ (u : World). happens u events.Boot) is)

pub sound_new : (h : Holdings) (w v : World) → w ≡ initial_world h → IsNumbered h → IsFormed h
    → (next w.now commands.Boot).1 ≡ Done → v ≡ happens w events.Boot → IsSound v
sound_new h w v is n formed accepted made =
    let first : happens (initial_world h) events.Boot ≡ v = sym (made ∙ ap (λ (u : World). happens u events.Boot) is) in
    record {
      reached = reached_new h w v is n accepted made;
      formed = subst (λ (u : World). IsFormed u.now) first (formed_event (initial_world h) events.Boot n formed tt);
      spelled = subst AreSpelled first (spelled_event (initial_world h) events.Boot n formed tt tt);
    }

pub world_reached : (h : Holdings) (w v : World) → w ≡ initial_world h → IsNumbered h
    → (next w.now commands.Boot).1 ≡ Done → v ≡ happens w events.Boot → IsReached v
world_reached h w v is n accepted made =
    world_first h v n (subst (λ (u : World). (next u.now commands.Boot).1 ≡ Done) is accepted)
    (made ∙ ap (λ (u : World). happens u events.Boot) is)

-- the boot of what was found leaves it safe
pub safe_new : (h : Holdings) (w v : World) → w ≡ initial_world h → IsNumbered h → (next w.now commands.Boot).1 ≡ Done
    → v ≡ happens w events.Boot → IsSafe v
safe_new h w v is n accepted made =
    reached_safe v (world_first h v n (subst (λ (u : World). (next u.now commands.Boot).1 ≡ Done) is accepted)
    (made ∙ ap (λ (u : World). happens u events.Boot) is))

-- what a new process found
pub sound_continued : (h : Holdings) (t : Contracts) (v : World) → IsNumbered h → IsFormed h → IsOrdered t
    → AllByRecursion (λ c. c.terms.inherit ≡ true) t.contracts → v ≡ continued h t → IsSound v
sound_continued h t v n formed o i is =
    record {
      reached = begun_found h t v n o i is;
      formed = subst (λ (u : World). IsFormed u.now) (sym is) formed;
      spelled = subst AreSpelled (sym is) tt;
    }

-- what remains when the past goes
pub sound_remaining : (w v : World) → IsSound w → IsCaughtUp w → v ≡ remains w → IsSound v
sound_remaining w v s up is =
    subst IsSound (sym is) (record { reached = begun_remains w s.reached up; formed = s.formed; spelled = tt })
