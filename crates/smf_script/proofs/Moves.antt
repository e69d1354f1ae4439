-- Moves, one after another.
use Rattle.std.proofs.Common.{◌≡◌, ℕ, zero, suc, ◌+◌, true, Option, Some, None, refl, subst, arith}
use Rattle.smf_edge.specs.Ledgers.{Ledger}
use Rattle.smf_world.specs.declared.event.Event.{Event}
use Rattle.smf_world.specs.declared.event.Event.TheVariants as events
use Rattle.smf_world.specs.World.{World}
use Rattle.smf_machine.specs.declared.polls.News.{News}
use Rattle.smf_script.specs.Drives.{IsDriven, is_driven}
use Rattle.smf_machine.specs.Children.{world_after_news, news_of}
use Rattle.smf_script.specs.Moves.{AreMoves, IsMove, Moves, is_alone}
use Rattle.smf_script.specs.Moves.IsMove.{alone, unmade, spawned, killed, polled}
use Rattle.smf_script.proofs.Events.{driven_by, driven_same, driven_then}

pub moves_none : (w : World) (l : Ledger) → Moves w w l l
moves_none w l = (zero, (refl, refl))

pub one_move : (w v : World) (l m : Ledger) → IsMove w v l m → Moves w v l m
one_move w v l m h = (suc zero, (v, m, h, (refl, refl)))

then_by : (j i : ℕ) (u v w : World) (k l m : Ledger) → AreMoves j u v k l → AreMoves i v w l m
    → AreMoves (j + i) u w k m
then_by zero i u v w k l m a b =
    let P : World → Ledger → Type 0 = λ x y. AreMoves i x w y m in
    let here : AreMoves i u w k m = subst (λ y. P u y) a.1 (subst (λ x. P x l) a.0 b) in
    let none : i ≡ 0 + i = omega arith in
    subst (λ n. AreMoves n u w k m) none here
then_by (suc j) i u v w k l m a b =
    let next : suc (j + i) ≡ suc j + i = omega arith in
    subst (λ n. AreMoves n u w k m) next (a.0, a.1, a.2, then_by j i a.0 v w a.1 l m a.3 b)

pub moves_then : (u v w : World) (k l m : Ledger) → Moves u v k l → Moves v w l m → Moves u w k m
moves_then u v w k l m a b = (a.0 + b.0, then_by a.0 b.0 u v w k l m a.1 b.1)

-- ---- without children

driven_alone : (e : Event) → is_alone e ≡ true → is_driven e ≡ true
driven_alone (events.Deliver place) a = refl
driven_alone (events.Client edit) a = absurd cc
driven_alone events.Ask a = refl
driven_alone events.Orders a = refl
driven_alone (events.OwnTick name) a = refl
driven_alone (events.Tick name n spawn) a = absurd cc
driven_alone (events.Process p what) a = absurd cc
driven_alone (events.Report c n) a = refl
driven_alone (events.Timeout name n) a = refl
driven_alone (events.Crash name) a = absurd cc
driven_alone (events.Launch name) a = refl
driven_alone events.Boot a = absurd cc

driven_happened : (o : Option News) (w v : World) → v ≡ world_after_news o w → IsDriven w v
driven_happened None w v is = driven_same w v is
driven_happened (Some n) w v is = driven_by w v (events.Process n.process n.what) refl is

driven_move : (w v : World) (l m : Ledger) → IsMove w v l m → IsDriven w v
driven_move w v l m (alone e a is same) = driven_by w v e (driven_alone e a) is
driven_move w v l m (unmade name n a u is same) = driven_by w v (events.Tick name n a) refl is
driven_move w v l m (spawned name n wanted asks made is) = driven_by w v _ refl is
driven_move w v l m (killed name n id asks made is) = driven_by w v _ refl is
driven_move w v l m (polled e found is) = driven_happened (news_of w.table e) w v is

driven_moves : (k : ℕ) (w v : World) (l m : Ledger) → AreMoves k w v l m → IsDriven w v
driven_moves zero w v l m a = driven_same w v a.0
driven_moves (suc k) w v l m a = driven_then w a.0 v (driven_move w a.0 l a.1 a.2) (driven_moves k a.0 v a.1 m a.3)

-- moves reach a world by events that are no client's command, crash or boot
pub driven_moved : (w v : World) (l m : Ledger) → Moves w v l m → IsDriven w v
driven_moved w v l m h = driven_moves h.0 w v l m h.1
