-- With which faults an event may end.
use Rattle.std.specs.Prelude.{◌≡◌, ◌⊎◌, ◌<◌, List, length}
use Rattle.smf_model.specs.declared.change.Change.{Change}
use Rattle.smf_model.specs.declared.command.CommandReply.TheVariants as replies
use Rattle.smf_model.specs.declared.command.Command.TheVariants as commands
use Rattle.smf_model.specs.declared.journal.RepoFault.{RepoFault}
use Rattle.smf_model.specs.declared.journal.RepoFault.TheVariants as journals
use Rattle.smf_model.specs.Contents.{Holdings}
use Rattle.smf_model.specs.Next.{outcome_of_command}
use Rattle.smf_machine.specs.declared.fault.MachineFault.{MachineFault}
use Rattle.smf_machine.specs.declared.fault.MachineFault.TheVariants.{Memory, Database, Limit}

-- the machine's fault for a fault of the repository
abbrev pub fault_of : RepoFault → MachineFault
fault_of journals.Memory = Memory
fault_of journals.Database = Database

-- memory ran out, or there were changes that the journal could not write
abbrev pub IsUndone : (RepoFault → Type 0) → List Change → MachineFault → Type 0
IsUndone fails changes e = (e ≡ Memory) ⊎ ((e ≡ Database) × fails journals.Database × (0 < length changes))

-- a boot ended so, or was refused at a limit
abbrev pub IsUnbooted : (RepoFault → Type 0) → Holdings → MachineFault → Type 0
IsUnbooted fails h e =
    IsUndone fails (outcome_of_command h commands.Boot).changes e
    ⊎ ((e ≡ Limit) × ((outcome_of_command h commands.Boot).reply ≡ replies.Limit))
