-- The plan of a stop: batches of instances, and for how many seconds they may take.
use Rattle.std.specs.Prelude.{ℕ, max, List, map, fold, Option, Some, None}
use Rattle.smf_fmri.specs.ByKey.{lookup}
use Rattle.smf_state.specs.Patched.{by_item}
use Rattle.smf_state.specs.declared.view.View.{View}
use Rattle.smf_state.specs.declared.view.ViewItem.{ViewItem}
use Rattle.smf_dep.specs.declared.member.GraphMember.{GraphMember}
use Rattle.smf_dep.specs.Members.{members}
use Rattle.smf_stops.specs.declared.seconds.StopLimits.{StopLimits}
use Rattle.smf_stops.specs.declared.plan.Stop.{Stop}
use Rattle.smf_stops.specs.declared.plan.StopBatch.{StopBatch}
use Rattle.smf_stops.specs.declared.plan.StopPlan.{StopPlan}
use Rattle.smf_stops.specs.Seconds.{plus, stop_seconds}
use Rattle.smf_stops.specs.Stops.{batches}

-- by the restarter of its item
abbrev pub seconds_in : StopLimits → GraphMember → Option ViewItem → Option ℕ
seconds_in l m None = None
seconds_in l m (Some i) = stop_seconds l i.row.owner m

abbrev pub stop_of : StopLimits → View → GraphMember → Stop
stop_of l v m = record { name = m.name; seconds = seconds_in l m (lookup by_item v.items m.instance) }

abbrev pub longer : Option ℕ → Option ℕ → Option ℕ
longer None b = None
longer (Some a) None = None
longer (Some a) (Some b) = Some (max a b)

-- all at once: the seconds of the one that may take longest
abbrev pub most_seconds : List Stop → Option ℕ
most_seconds stops = fold (λ seconds s. longer seconds s.seconds) (Some 0) stops

abbrev pub batch_with : List Stop → StopBatch
batch_with stops = record { stops = stops; seconds = most_seconds stops }

abbrev pub batch_of : StopLimits → View → List GraphMember → StopBatch
batch_of l v ms = batch_with (map (stop_of l v) ms)

abbrev pub added : Option ℕ → Option ℕ → Option ℕ
added seconds None = None
added seconds (Some more) = plus seconds more

-- one after the other
abbrev pub all_seconds : List StopBatch → Option ℕ
all_seconds bs = fold (λ seconds b. added seconds b.seconds) (Some 0) bs

abbrev pub plan_with : List StopBatch → StopPlan
plan_with bs = record { batches = bs; seconds = all_seconds bs }

unfoldable pub plan_of : StopLimits → View → StopPlan
plan_of l v = plan_with (map (batch_of l v) (batches (members v.items)))
