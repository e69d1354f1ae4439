-- Lists of events that are no client's command, no crash and no boot.
use Rattle.std.proofs.Common.{◌≡◌, List, [], ◌∷◌, ◌++◌, true, refl, sym, ap, ◌∙◌}
use Rattle.smf_world.specs.declared.event.Event.{Event}
use Rattle.smf_world.specs.Happens.{happens}
use Rattle.smf_world.specs.Reached.{IsLater}
use Rattle.smf_world.specs.Runs.{run}
use Rattle.smf_world.specs.World.{World}
use Rattle.smf_script.specs.Drives.{AreDriven, IsDriven, is_driven}

run_both : (es fs : List Event) (w : World) → run (es ++ fs) w ≡ run fs (run es w)
run_both [] fs w = refl
run_both (e ∷ es) fs w = run_both es fs (happens w e)

all_driven : (es fs : List Event) → AreDriven es → AreDriven fs → AreDriven (es ++ fs)
all_driven [] fs a b = b
all_driven (e ∷ es) fs a b = (a.0, all_driven es fs a.1 b)

pub driven_self : (w : World) → IsDriven w w
driven_self w = ([], tt, refl)

pub driven_same : (w v : World) → v ≡ w → IsDriven w v
driven_same w v e = ([], tt, sym e)

pub driven_by : (w v : World) (e : Event) → is_driven e ≡ true → v ≡ happens w e → IsDriven w v
driven_by w v e d h = (e ∷ [], (d, tt), sym h)

pub driven_then : (u v w : World) → IsDriven u v → IsDriven v w → IsDriven u w
driven_then u v w a b = (a.0 ++ b.0, all_driven a.0 b.0 a.1 b.1, run_both a.0 b.0 u ∙ ap (run b.0) a.2 ∙ b.2)

pub later_driven : (w v : World) → IsDriven w v → IsLater w v
later_driven w v d = (d.0, d.2)
