-- The value with which the reading of a store begins.
use Rattle.smf_model.specs.Contents.{Holdings}
use Rattle.smf_model.specs.Look.{empty}
use Rattle.smf_store.specs.declared.counter_rows.Counters.{Counters}

-- nothing held, with these counters
abbrev pub empty_with_counters : Counters → Holdings
empty_with_counters c =
    record empty { revision = c.revision; next_instance = c.next_instance; next_snapshot = c.next_snapshot }
