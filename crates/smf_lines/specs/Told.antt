-- What is told of a fault that ends a run.
use Rattle.std.specs.Prelude.{◌⊎◌, ℕ, List, [], ◌∷◌, ◌++◌, codes, Option}
use Rattle.std.specs.Io.KnownBytes.{Appends}
use Rattle.std_io.specs.declared.io.error.Error.{Error}
use Rattle.smf_lines.specs.declared.fault.ReadFault.{ReadFault}
use Rattle.smf_lines.specs.declared.fault.ReadFault.TheVariants as reads

abbrev pub read_text : ReadFault → List ℕ
read_text reads.Memory = codes "smf: no memory"
read_text (reads.Input fault) = codes "smf: input failed"
read_text (reads.TooManyLines interrupted) = codes "smf: too many lines"

-- this line was written, or a write of it failed
abbrev pub IsTold : (Error → Type 0) → Option (List ℕ) → Option (List ℕ) → List ℕ → Type 0
IsTold fails old new text = Appends old new (text ++ 10 ∷ []) ⊎ ((e : Error) × fails e)
