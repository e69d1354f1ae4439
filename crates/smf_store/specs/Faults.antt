-- The fault that a caller gets for each lower fault: want of memory stands apart, and every other failure is alike.
use Rattle.sqlite.specs.declared.error.Error.{Error}
use Rattle.sqlite.specs.declared.error.Error.TheVariants.{SqliteFailure}
use Rattle.sqlite.specs.declared.error.ErrorCode.TheVariants as code
use Rattle.smf_model.specs.declared.journal.RepoFault.{RepoFault}
use Rattle.smf_model.specs.declared.journal.RepoFault.TheVariants as repository
use Rattle.smf_store.specs.declared.fault.WriteFault.{WriteFault}
use Rattle.smf_store.specs.declared.fault.WriteFault.TheVariants.{Memory, Database}
use Rattle.smf_store.specs.declared.refusal.OpenFault.{OpenFault}
use Rattle.smf_store.specs.declared.refusal.OpenFault.TheVariants as opening

abbrev pub fault_of : Error → WriteFault
fault_of (SqliteFailure code.OutOfMemory) = Memory
fault_of _ = Database

-- the same as a repository tells it, and as an open does
abbrev pub repository_fault : WriteFault → RepoFault
repository_fault Memory = repository.Memory
repository_fault Database = repository.Database

abbrev pub open_fault : WriteFault → OpenFault
open_fault Memory = opening.Memory
open_fault Database = opening.Database
