-- What remains of a world may go on.
use Rattle.std.proofs.Common.{◌≡◌, inl, inr, List, [], ◌∷◌, ◌++◌, map, refl, subst, sym}
use Rattle.smf_restarter.specs.Forgotten.{without_past_runs}
use Rattle.smf_restarter.specs.Knowledge.{Knowledge}
use Rattle.smf_restarter.proofs.PastRuns.{left_were_known, living_stay}
use Rattle.smf_world.specs.Reached.{IsLater}
use Rattle.smf_world.specs.World.{World}
use Rattle.smf_past.specs.Begun.{IsBegun}
use Rattle.smf_past.specs.Forgotten.{IsCaughtUp, forgotten, glue}
use Rattle.smf_past.specs.Lived.{HasPast}
use Rattle.smf_past.specs.Lives.{LeadsTo}
use Rattle.smf_past.specs.Losses.{AllKnowLess, IsLess, KnowsLess, know_less}
use Rattle.smf_past.specs.Remains.{remains}
use Rattle.smf_past.proofs.BegunWorlds.{begun_forgotten, begun_less, goes_forgotten, goes_later}
use Rattle.smf_past.proofs.ComeWorlds.{comes_later, comes_less, comes_self}
use Rattle.smf_past.proofs.LivedWorlds.{past_again, past_less}

knows_less : (k : Knowledge) → KnowsLess (without_past_runs k) k
knows_less k =
    record {
      name = refl;
      actor = refl;
      launch = refl;
      serial = refl;
      stage = refl;
      instances = refl;
      runs = left_were_known k;
      living = living_stay k;
    }

all_know_less : (ks : List Knowledge) → AllKnowLess (map without_past_runs ks) ks
all_know_less [] = tt
all_know_less (k ∷ ks) = (knows_less k, all_know_less ks)

remains_less : (w : World) → IsLess (remains w) (forgotten w)
remains_less w =
    record {
      history = refl;
      now = refl;
      sent = refl;
      trail = refl;
      restarters = know_less (all_know_less w.restarters);
      seen = inl refl;
      table = inr (inl refl);
    }

pub begun_remains : (w : World) → IsBegun w → IsCaughtUp w → IsBegun (remains w)
begun_remains w b up = begun_less (forgotten w) (remains w) (begun_forgotten w b up) (remains_less w)

pub past_remains : (p w : World) → HasPast p w → IsCaughtUp w → HasPast (glue p w) (remains w)
past_remains p w l up = past_less (glue p w) (forgotten w) (remains w) (past_again p w l up) (remains_less w)

-- ---- from one world to another

pub leads_self : (w : World) → LeadsTo w w
leads_self w = record { lives = []; since = comes_self w }

pub leads_later : (w v u : World) → LeadsTo w v → IsLater v u → LeadsTo w u
leads_later w v u l later =
    record { lives = l.lives; since = goes_later l.lives w v u l.since (comes_later v u later) }

pub leads_remains : (w v u : World) → LeadsTo w v → IsCaughtUp v → u ≡ remains v → LeadsTo w u
leads_remains w v u l up is =
    subst (LeadsTo w) (sym is)
    (record {
      lives = l.lives ++ v ∷ [];
      since = goes_later (l.lives ++ v ∷ []) w (forgotten v) (remains v) (goes_forgotten l.lives w v l.since up)
          (comes_less (forgotten v) (remains v) (remains_less v));
    })
