-- The text on standard error if a database was not opened.
use Rattle.std.specs.Prelude.{◌⊎◌, ℕ, ℤ, List, ◌++◌, codes, Option}
use Rattle.std.specs.Fmt.{signed_decimal}
use Rattle.std_io.specs.declared.io.error.Error.{Error}
use Rattle.smf_lines.specs.Told.{IsTold}
use Rattle.smf_store.specs.declared.refusal.OpenFault.{OpenFault}
use Rattle.smf_store.specs.declared.refusal.OpenFault.TheVariants as opens
use Rattle.smf_store.specs.declared.refusal.StoreTable.{StoreTable}
use Rattle.smf_store.specs.declared.refusal.StoreTable.TheVariants.{Meta, Service, Instance, Group, Snapshot, Restarter}

abbrev pub no_memory : List ℕ
no_memory = codes "smf: no memory"

-- a table by the name that it has in a database
abbrev pub table_text : StoreTable → List ℕ
table_text Meta = codes "smf: store: damaged meta"
table_text Service = codes "smf: store: damaged service"
table_text Instance = codes "smf: store: damaged instance"
table_text Group = codes "smf: store: damaged grp"
table_text Snapshot = codes "smf: store: damaged snap"
table_text Restarter = codes "smf: store: damaged restarter"

abbrev pub version_text : ℤ → List ℕ
version_text n = codes "smf: store: version " ++ signed_decimal n

-- why a store was not opened
abbrev pub open_text : OpenFault → List ℕ
open_text opens.Memory = no_memory
open_text opens.Database = codes "smf: store: database failed"
open_text (opens.Version n) = version_text n
open_text (opens.Damaged table) = table_text table
open_text opens.TooManyInstances = codes "smf: store: too many instances"

-- it was told; of a version its text had to be made, so memory may have run out for that, and that was told
abbrev pub IsOpenTold : (Error → Type 0) → Option (List ℕ) → Option (List ℕ) → OpenFault → Type 0
IsOpenTold fails old new (opens.Version n) = IsTold fails old new (version_text n) ⊎ IsTold fails old new no_memory
IsOpenTold fails old new fault = IsTold fails old new (open_text fault)
