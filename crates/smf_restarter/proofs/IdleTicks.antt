-- A tick of an instance that rests does nothing.
use Rattle.std.proofs.Common.{◌≡◌, ℕ, Bool, true, false, Option, Some, None, refl}
use Rattle.std.specs.Prelude.{◌&&◌, is_none}
use Rattle.smf_restarter.specs.declared.known.KnownInstance.{KnownInstance}
use Rattle.smf_restarter.specs.declared.known.KnownRun.{KnownRun}
use Rattle.smf_restarter.specs.declared.known.Phase.{Phase}
use Rattle.smf_restarter.specs.declared.known.Phase.TheVariants.{Idle, Waiting, Owes, Running, Ending as Ends}
use Rattle.smf_restarter.specs.Changes.{nothing}
use Rattle.smf_restarter.specs.Knowledge.{Knowledge}
use Rattle.smf_restarter.specs.Runs.{known_run, orphan}
use Rattle.smf_restarter.specs.Ticks.{adopting_or, note_due, noted_by, rests, rests_in, ticked_in}

pub both : (a b : Bool) → (a && b) ≡ true → (a ≡ true) × (b ≡ true)
both true true e = (refl, refl)
both true false e = cc
both false b e = cc

pub none_if : {X : Type 0} (o : Option X) → is_none o ≡ true → o ≡ None
none_if None e = refl
none_if (Some x) e = cc

idle_rests : (k : Knowledge) (i : KnownInstance) (o : Option KnownRun) (due : Option ℕ) → o ≡ None → due ≡ None
    → adopting_or o (noted_by k i (known_run k i.instance i.row.live) due) ≡ nothing
idle_rests k i None None a b = refl
idle_rests k i None (Some bits) a b = cc
idle_rests k i (Some r) due a b = cc

pub rested_in : (k : Knowledge) (i : KnownInstance) (p : Phase) → rests_in k i p ≡ true → ticked_in k i p ≡ nothing
rested_in k i (Waiting p after) e = cc
rested_in k i (Owes o) e = cc
rested_in k i (Running m) e = refl
rested_in k i (Ends x) e = cc
rested_in k i Idle e =
    let two = both (is_none (orphan k i.instance)) (is_none (note_due i.row (known_run k i.instance i.row.live))) e in
    idle_rests k i (orphan k i.instance) (note_due i.row (known_run k i.instance i.row.live))
    (none_if (orphan k i.instance) two.0) (none_if (note_due i.row (known_run k i.instance i.row.live)) two.1)

pub rested : (k : Knowledge) (i : KnownInstance) → rests k i ≡ true → ticked_in k i i.phase ≡ nothing
rested k i e = rested_in k i i.phase e
