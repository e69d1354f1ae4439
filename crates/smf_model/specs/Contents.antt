-- The contents of a repository.
use Rattle.std.specs.Prelude.{ℕ, List}
use Rattle.smf_model.specs.declared.held.InstanceEntry.{InstanceEntry}
use Rattle.smf_model.specs.declared.held.InstanceName.{InstanceName}
use Rattle.smf_model.specs.declared.held.Launch.{Launch}
use Rattle.smf_model.specs.declared.held.Service.{Service}
use Rattle.smf_model.specs.declared.held.Snapshot.{Snapshot}

-- services by name and instances by number, each with its groups by name. The numbers of instances stand by their
-- names, snapshots by number, and launches by restarter. The numbers that come next were never given
pub record Holdings : Type 0 where
  pub revision : ℕ
  pub services : List Service
  pub instances : List InstanceEntry
  pub names : List InstanceName
  pub snapshots : List Snapshot
  pub launches : List Launch
  pub next_instance : ℕ
  pub next_snapshot : ℕ
