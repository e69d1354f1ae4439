-- The whole value, as it is read.
use Rattle.std.specs.Prelude.{List, map}
use Rattle.smf_model.specs.declared.change.Change.{Change}
use Rattle.smf_model.specs.declared.change.Change.TheVariants.{PutInstance}
use Rattle.smf_model.specs.declared.held.InstanceEntry.{InstanceEntry}
use Rattle.smf_model.specs.Contents.{Holdings}
use Rattle.smf_model.specs.Look.{groups_of}
use Rattle.smf_model.specs.GeneralGroup.{Groups, current}

-- an instance as it is read, with its groups
abbrev pub read_entry : Groups → InstanceEntry → InstanceEntry
read_entry gs e = record e { instance = current gs e.instance }

-- the held value, with each instance as it is read
unfoldable pub holdings_as_read : Holdings → Holdings
holdings_as_read h = record h { instances = map (read_entry (groups_of h)) h.instances }

-- the changes that write each instance as it is read
abbrev pub reads_written : Groups → List InstanceEntry → List Change
reads_written gs es = map (λ e. PutInstance (current gs e.instance)) es
