-- A fault of an open that is told is told.
use Rattle.std.proofs.Common.{ℕ, List, Option, inl, inr}
use Rattle.std_io.specs.declared.io.error.Error.{Error}
use Rattle.smf_runs.specs.Reasons.{IsExcused}
use Rattle.smf_runs.specs.FaultTexts.{IsOpenTold, no_memory, open_text, version_text}
use Rattle.smf_store.specs.declared.refusal.OpenFault.{OpenFault}
use Rattle.smf_store.specs.declared.refusal.OpenFault.TheVariants as opens

pub open_excused : (fails : Error → Type 0) (old new : Option (List ℕ)) (fault : OpenFault)
    → IsOpenTold fails old new fault → IsExcused fails old new
open_excused fails old new (opens.Version n) (inl h) = record { text = version_text n; said = h }
open_excused fails old new (opens.Version n) (inr h) = record { text = no_memory; said = h }
open_excused fails old new opens.Memory h = record { text = open_text opens.Memory; said = h }
open_excused fails old new opens.Database h = record { text = open_text opens.Database; said = h }
open_excused fails old new (opens.Damaged table) h = record { text = open_text (opens.Damaged table); said = h }
open_excused fails old new opens.TooManyInstances h = record { text = open_text opens.TooManyInstances; said = h }
