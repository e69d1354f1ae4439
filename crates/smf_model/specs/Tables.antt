-- The lists in memory, seen as what is held, and the room that is left in them.
use Rattle.std.specs.Prelude.{ℕ, ◌≤◌}
use Rattle.smf_model.specs.declared.tables.Lists.{Lists}
use Rattle.smf_model.specs.Contents.{Holdings}

abbrev pub held_in : Lists → Holdings
held_in t =
    record {
      revision = t.revision;
      services = t.services.items;
      instances = t.instances.items;
      names = t.names.items;
      snapshots = t.snapshots.items;
      launches = t.launches.items;
      next_instance = t.next_instance;
      next_snapshot = t.next_snapshot;
    }

-- there is room for so many changes
pub record HasRoom (t : Lists) (n : ℕ) : Type 0 where
  pub services : n ≤ t.services.room
  pub instances : n ≤ t.instances.room
  pub names : n ≤ t.names.room
  pub snapshots : n ≤ t.snapshots.room
  pub launches : n ≤ t.launches.room
