-- How often it was looked which methods run.
use Rattle.std.proofs.Common.{◌≡◌, ℕ, zero, suc, List, refl, subst}
use Rattle.std.specs.declared.time.Duration.{Duration}
use Rattle.smf_server.specs.Turns.{Standing, StillWatches, Watches}
use Rattle.smf_watch.specs.declared.watch.Due.{Due}
use Rattle.smf_watch.specs.Watched.{watched_by}
use Rattle.smf_world.specs.Reached.{IsLater}
use Rattle.smf_world.specs.World.{World}
use Rattle.smf_world.proofs.LaterWorlds.{later_self, later_then}

watches_from : (clock : Duration → Type 0) (n : ℕ) (u w v : World) (old new : List Due) → IsLater u w
    → Watches clock n w v old new → Watches clock n u v old new
watches_from clock zero u w v old new first h = (later_then u w v first h.0, h.1)
watches_from clock (suc n) u w v old new first h = (h.0, h.1, later_then u w h.0 first h.2, h.3, h.4)

watches_on : (clock : Duration → Type 0) (n m : ℕ) (u w v : World) (old mid new : List Due)
    → Watches clock n u w old mid → Watches clock m w v mid new → (k : ℕ) × Watches clock k u v old new
watches_on clock zero m u w v old mid new h g = (
  m,
  subst (λ (x : List Due). Watches clock m u v x new) h.1 (watches_from clock m u w v mid new h.0 g),
)
watches_on clock (suc n) m u w v old mid new h g =
    let rest : (k : ℕ) × Watches clock k h.0 v (watched_by h.1 h.0 old) new =
    watches_on clock n m h.0 w v (watched_by h.1 h.0 old) mid new h.4 g in
    (suc rest.0, (h.0, h.1, h.2, h.3, rest.1))

-- not at all
pub still_same : (clock : Duration → Type 0) (w v : World) (old new : List Due) → IsLater w v → new ≡ old
    → (times : ℕ) × Watches clock times w v old new
still_same clock w v old new later same = (zero, (later, same))

pub still_self : (clock : Duration → Type 0) (s : Standing) → StillWatches clock s s
still_self clock s =
    still_same clock s.course.progress.world s.course.progress.world s.watched s.watched
    (later_self s.course.progress.world) refl

-- once, at last
pub still_once : (clock : Duration → Type 0) (w v : World) (old new : List Due) (now : Duration) → IsLater w v → clock now
    → new ≡ watched_by now v old → (times : ℕ) × Watches clock times w v old new
still_once clock w v old new now later read is = (suc zero, (v, now, later, read, (later_self v, is)))

pub still_then : (clock : Duration → Type 0) (s m t : Standing) → StillWatches clock s m → StillWatches clock m t
    → StillWatches clock s t
still_then clock s m t h g =
    watches_on clock h.0 g.0 s.course.progress.world m.course.progress.world t.course.progress.world s.watched m.watched
    t.watched h.1 g.1
