-- The node's world and the ledger of children agree, or nearly, after a script.
use Rattle.std.specs.Prelude.{◌≡◌, ◌⊎◌, []}
use Rattle.smf_contract.specs.Entries.{empty}
use Rattle.smf_script.specs.Agrees.{AgreesSince, Before, nothing_before}
use Rattle.smf_edge.specs.Ledgers.{Ledger}
use Rattle.smf_edge.specs.Steps.{ledger_after_boot}
use Rattle.smf_world.specs.World.{World}

-- the ledger of children that were asked nothing yet
abbrev pub empty_ledger : Ledger
empty_ledger = record { notes = []; table = empty; due = []; pending = [] }

-- children dropped all that they had, and the node did not boot after that
abbrev pub HasDroppedSince : Before → World → Ledger → Type 0
HasDroppedSince b w l = (k : Ledger) × AgreesSince b w k × (l ≡ ledger_after_boot k)

-- they agree, or a boot went no further than that
abbrev pub AgreesOrDroppedSince : Before → World → Ledger → Type 0
AgreesOrDroppedSince b w l = AgreesSince b w l ⊎ HasDroppedSince b w l

-- there was nothing before
abbrev pub AgreesOrDropped : World → Ledger → Type 0
AgreesOrDropped w l = AgreesOrDroppedSince nothing_before w l
