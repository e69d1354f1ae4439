-- Events that children told, and methods that took too long.
use Rattle.std.specs.Prelude.{◌≡◌, ◌⊎◌, ℕ, ◌+◌, ◌*◌, ◌==◌, ◌&&◌, ◌||◌, not, nat_lt, List, [], ◌∷◌, ◌++◌, Bool, true, false, if◌then◌else◌, Option, Some, None, option_map}
use Rattle.std.specs.Duration.{as_nanos}
use Rattle.std.specs.List.{list_any}
use Rattle.std.specs.declared.time.Duration.{Duration}
use Rattle.smf_edge.specs.Answers.{Skills}
use Rattle.smf_machine.specs.Runners.{rules_of}
use Rattle.smf_model.specs.declared.journal.RepoFault.{RepoFault}
use Rattle.smf_node.specs.declared.fault.NodeFault.{NodeFault}
use Rattle.smf_node.specs.declared.fault.NodeFault.TheVariants.{Memory}
use Rattle.smf_node.specs.Faults.{IsFault}
use Rattle.smf_node.specs.Partly.{LacksMemory}
use Rattle.smf_node.specs.Rounds.{AreGiven, Course, HasLearned}
use Rattle.smf_restarter.specs.Answers.{same_method}
use Rattle.smf_restarter.specs.declared.known.KnownInstance.{KnownInstance}
use Rattle.smf_restarter.specs.declared.known.Phase.{Phase}
use Rattle.smf_restarter.specs.declared.known.Phase.TheVariants.{Running}
use Rattle.smf_restarter.specs.Knowledge.{Knowledge}
use Rattle.smf_watch.specs.declared.watch.Due.{Due}
use Rattle.smf_watch.specs.declared.watch.Timed.{Timed}
use Rattle.smf_world.specs.declared.event.Event.{Event}
use Rattle.smf_world.specs.declared.event.Event.TheVariants as events
use Rattle.smf_world.specs.Schedule.{Progress, launched_names, on}
use Rattle.smf_world.specs.Worked.{restarter}
use Rattle.smf_world.specs.World.{World}

-- ---- children

-- children told what happened, until they had no more to tell; this is whether they told anything
pub record HasHeard (k : Skills) (c d : Course) (any : Bool) : Type 0 where
  pub learned : HasLearned (rules_of k) c d
  pub told : any ≡ nat_lt 0 learned.count

-- children told some events, each of which happened, and then memory ran out
abbrev pub StopsHearing : Skills → Course → Course → NodeFault → Type 0
StopsHearing k c d e = (count : ℕ) × (mid : Course) × AreGiven (rules_of k) count c mid × LacksMemory mid d e

-- ---- methods that run

-- the run, the method and the time-out of the method that runs for an instance, if it has a time-out
abbrev pub timed_method : Phase → Option Timed
timed_method (Running m) =
    option_map (λ seconds. record { run = m.run; method = m.method; timeout = seconds }) m.timeout
timed_method _ = None

-- it is the method that is due
abbrev pub is_timed : Due → Option Timed → Bool
is_timed d None = false
is_timed d (Some t) = t.run == d.run && same_method t.method d.method

abbrev pub runs_due : Due → KnownInstance → Bool
runs_due d k = k.instance == d.instance && is_timed d (timed_method k.phase)

abbrev pub runs_in : Due → Option Knowledge → Bool
runs_in d None = false
runs_in d (Some known) = list_any (runs_due d) known.instances

-- the method that is due runs still
abbrev pub runs_still : Due → World → Bool
runs_still d w = runs_in d (restarter w d.restarter)

-- ---- what is watched

-- it is due for this run of a method
abbrev pub is_due : ℕ → Timed → Due → Bool
is_due n t d = d.instance == n && d.run == t.run && same_method d.method t.method

abbrev pub when_due : List Due → ℕ → Timed → Option ℕ
when_due [] n t = None
when_due (d ∷ ds) n t = if is_due n t d then Some d.at else when_due ds n t

-- a method that is seen first has its time from now on; else it is due when it was
abbrev pub due_at : Duration → Timed → Option ℕ → ℕ
due_at now t None = as_nanos now + t.timeout * 1_000_000_000
due_at now t (Some at) = at

abbrev pub dues_by : Duration → List Due → List ℕ → ℕ → Option Timed → List Due
dues_by now old name n None = []
dues_by now old name n (Some t) =
    record {
      restarter = name;
      instance = n;
      run = t.run;
      method = t.method;
      at = due_at now t (when_due old n t);
    }
    ∷ []

abbrev pub dues_of : Duration → List Due → List ℕ → List KnownInstance → List Due
dues_of now old name [] = []
dues_of now old name (k ∷ ks) = dues_by now old name k.instance (timed_method k.phase) ++ dues_of now old name ks

abbrev pub dues_in : Duration → List Due → List ℕ → Option Knowledge → List Due
dues_in now old name None = []
dues_in now old name (Some known) = dues_of now old name known.instances

abbrev pub dues_among : Duration → List Due → World → List (List ℕ) → List Due
dues_among now old w [] = []
dues_among now old w (name ∷ names) = dues_in now old name (restarter w name) ++ dues_among now old w names

-- the methods of launched restarters that run and have a time-out, each with the time at which it is over
abbrev pub watched_by : Duration → World → List Due → List Due
watched_by now w old = dues_among now old w (launched_names w)

-- ---- methods that took too long

abbrev pub is_over : Duration → Due → Bool
is_over now d = not (nat_lt (as_nanos now) d.at)

-- its time is over, and it runs still
abbrev pub times_out : Duration → Due → World → Bool
times_out now d w = is_over now d && runs_still d w

abbrev pub timeout_of : Due → Event
timeout_of d = events.Timeout d.restarter d.instance

abbrev pub late_if : Bool → Due → Progress → Progress
late_if true d p = on p (timeout_of d)
late_if false d p = p

-- each of these that is over times out, in their order
abbrev pub time_outs : Duration → List Due → Progress → Progress
time_outs now [] p = p
time_outs now (d ∷ ds) p = time_outs now ds (late_if (times_out now d p.world) d p)

-- true if one of them does, or if one before them did
abbrev pub any_late : Bool → Duration → List Due → Progress → Bool
any_late any now [] p = any
any_late any now (d ∷ ds) p =
    any_late (any || times_out now d p.world) now ds (late_if (times_out now d p.world) d p)

-- those of the methods that are watched timed out whose time is over by this clock; this is whether any did
pub record HaveTimedOut (now : Duration) (dues : List Due) (p q : Progress) (any : Bool) : Type 0 where
  pub are : q ≡ time_outs now dues p
  pub told : any ≡ any_late false now dues p

-- a time-out was due, and memory ran out or the event could not happen
pub record IsUntimed (stores : RepoFault → Type 0) (now : Duration) (d : Due) (w : World) (e : NodeFault) : Type 0 where
  pub late : times_out now d w ≡ true
  pub why : (e ≡ Memory) ⊎ IsFault stores w (timeout_of d) e

-- the first of them timed out, and the next one so failed
pub record StopsTiming (stores : RepoFault → Type 0) (now : Duration) (dues : List Due) (p q : Progress)
    (e : NodeFault) : Type 0 where
  pub first : List Due
  pub failed : Due
  pub rest : List Due
  pub whole : dues ≡ first ++ failed ∷ rest
  pub are : q ≡ time_outs now first p
  pub fault : IsUntimed stores now failed q.world e
