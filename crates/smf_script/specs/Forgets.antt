-- A node and its children forget what was told and what is over.
use Rattle.std.specs.Prelude.{◌≡◌, Bool, true, false}
use Rattle.smf_edge.specs.Ledgers.{Ledger, remaining}
use Rattle.smf_node.specs.Marks.{MayForget, remaining_progress}
use Rattle.smf_world.specs.Schedule.{Progress}
use Rattle.smf_world.specs.World.{World}
use Rattle.smf_script.specs.Agrees.{AgreesSince, Before}

-- the node might forget, and what remains of both is left
pub record HasForgotten (p q : Progress) (l m : Ledger) : Type 0 where
  pub may : MayForget p
  pub node : q ≡ remaining_progress p
  pub kids : m ≡ remaining l

-- that is done, or nothing
abbrev pub ForgetsIf : Bool → Progress → Progress → Ledger → Ledger → Type 0
ForgetsIf true p q l m = HasForgotten p q l m
ForgetsIf false p q l m = (q ≡ p) × (m ≡ l)

-- they agree, whatever was there before
pub record AgreesAnew (w : World) (l : Ledger) : Type 0 where
  pub before : Before
  pub agrees : AgreesSince before w l
