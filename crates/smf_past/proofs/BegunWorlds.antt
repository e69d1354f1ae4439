-- What stands of the worlds that come of a beginning.
use Rattle.std.proofs.Common.{◌≡◌, List, [], ◌∷◌, ◌++◌, true, sym, subst}
use Rattle.std.specs.List.{AllByRecursion}
use Rattle.smf_contract.specs.Entries.{Contracts}
use Rattle.smf_contract.specs.Laws.{IsOrdered}
use Rattle.smf_model.specs.declared.command.Command.TheVariants as commands
use Rattle.smf_model.specs.declared.command.CommandReply.TheVariants as answers
use Rattle.smf_model.specs.Contents.{Holdings}
use Rattle.smf_model.specs.Laws.{IsNumbered}
use Rattle.smf_model.specs.Next.{next}
use Rattle.smf_world.specs.declared.event.Event.{Event}
use Rattle.smf_world.specs.declared.event.Event.TheVariants as events
use Rattle.smf_world.specs.Happens.{happens}
use Rattle.smf_world.specs.Reached.{IsLater}
use Rattle.smf_world.specs.World.{World, initial_world}
use Rattle.smf_world.proofs.LaterWorlds.{later_by}
use Rattle.smf_past.specs.Begun.{IsBeginning, IsBegun, IsSafeFrom, IsSafeSince, booted, found}
use Rattle.smf_past.specs.Forgotten.{IsCaughtUp, forgotten}
use Rattle.smf_past.specs.Lives.{GoesOn}
use Rattle.smf_past.specs.Lived.{HasPast, continued}
use Rattle.smf_past.specs.Losses.{Comes, IsLess}
use Rattle.smf_past.specs.Stands.{DoesStand}
use Rattle.smf_past.proofs.ComeWorlds.{comes_by, comes_later, comes_less, comes_self, comes_then}
use Rattle.smf_past.proofs.LivedWorlds.{past_booted}
use Rattle.smf_past.proofs.StandingWorlds.{all_safe, going_stands}
use Rattle.smf_contract.proofs.After.{calls_order}

pub goes_later : (us : List World) (base w v : World) → GoesOn base us w → Comes w v → GoesOn base us v
goes_later [] base w v m c = comes_then base w v m c
goes_later (u ∷ us) base w v m c = (m.0, m.1, goes_later us (forgotten u) w v m.2 c)

pub goes_forgotten : (us : List World) (base w : World) → GoesOn base us w → IsCaughtUp w
    → GoesOn base (us ++ w ∷ []) (forgotten w)
goes_forgotten [] base w m up = (m, up, comes_self (forgotten w))
goes_forgotten (u ∷ us) base w m up = (m.0, m.1, goes_forgotten us (forgotten u) w m.2 up)

goes_before : (us : List World) (x base w : World) → Comes x base → GoesOn base us w → GoesOn x us w
goes_before [] x base w c m = comes_then x base w c m
goes_before (u ∷ us) x base w c m = (comes_then x base u c m.0, m.1, m.2)

pub begun_on : (w v : World) → IsBegun w → Comes w v → IsBegun v
begun_on w v b c =
    record {
      base = b.base;
      beginning = b.beginning;
      lives = b.lives;
      since = goes_later b.lives b.base w v b.since c;
    }

pub begun_later : (w v : World) → IsBegun w → IsLater w v → IsBegun v
begun_later w v b l = begun_on w v b (comes_later w v l)

pub begun_less : (w v : World) → IsBegun w → IsLess v w → IsBegun v
begun_less w v b l = begun_on w v b (comes_less w v l)

pub begun_forgotten : (w : World) → IsBegun w → IsCaughtUp w → IsBegun (forgotten w)
begun_forgotten w b up =
    record {
      base = b.base;
      beginning = b.beginning;
      lives = b.lives ++ w ∷ [];
      since = goes_forgotten b.lives b.base w b.since up;
    }

pub begun_next : (w v : World) (e : Event) → v ≡ happens w e → IsBegun w → IsBegun v
begun_next w v e is b = begun_later w v b (later_by w v e is)

pub begun_booted : (h : Holdings) (v : World) → IsNumbered h → (next h commands.Boot).1 ≡ answers.Done
    → v ≡ happens (initial_world h) events.Boot → IsBegun v
begun_booted h v n done is =
    record { base = v; beginning = booted h n done is; lives = []; since = comes_self v }

pub begun_found : (h : Holdings) (t : Contracts) (v : World) → IsNumbered h → IsOrdered t
    → AllByRecursion (λ c. c.terms.inherit ≡ true) t.contracts → v ≡ continued h t → IsBegun v
begun_found h t v n o i is =
    record { base = v; beginning = found h t n o i is; lives = []; since = comes_self v }

safe_from : (base : World) (us : List World) (w : World) (b : IsBeginning base) → GoesOn base us w
    → IsSafeFrom base us w b
safe_from base us w (booted h n done is) m =
    all_safe us (initial_world h) base w
    (subst (HasPast (initial_world h)) (sym is) (past_booted h n done)) m
safe_from base us w (found h t n o i is) m = λ p has. all_safe us p base w has m

pub begun_safe : (w : World) → IsBegun w → IsSafeSince w
begun_safe w b =
    record {
      base = b.base;
      beginning = b.beginning;
      lives = b.lives;
      since = b.since;
      safe = safe_from b.base b.lives w b.beginning b.since;
    }

stands_from : (base : World) (us : List World) (w : World) → IsBeginning base → GoesOn base us w → DoesStand w
stands_from base us w (booted h n done is) m =
    going_stands h (initial_world h).table us w n (calls_order []) tt
    (goes_before us (initial_world h) base w (comes_by (initial_world h) base events.Boot (sym is)) m)
stands_from base us w (found h t n o i is) m =
    going_stands h t us w n o i (subst (λ (b : World). GoesOn b us w) is m)

pub stands_since : (w : World) → IsBegun w → DoesStand w
stands_since w b = stands_from b.base b.lives w b.beginning b.since
