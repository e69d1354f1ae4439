-- How often an instance may end, and when it is tried again.
use Rattle.std.specs.Prelude.{ℕ, ◌==◌, ◌*◌, Bool, Option, Some, None, find, unwrap_or, codes}
use Rattle.smf_model.specs.declared.held.InstanceEntry.{InstanceEntry}
use Rattle.smf_model.specs.Contents.{Holdings}
use Rattle.smf_model.specs.Next.{named_snapshot}
use Rattle.smf_value.specs.Groups.{GroupRecord, PropertyRecord, property_of}
use Rattle.smf_watch.specs.declared.bounds.Bounds.{Bounds}
use Rattle.smf_watch.specs.declared.bounds.TheConstants.{MOST_ENDS, PERIOD, RETRY_MOST}
use Rattle.smf_watch.specs.Terms.{composed_in, count_in}

abbrev pub count_or : Option PropertyRecord → ℕ → ℕ
count_or p otherwise = unwrap_or (count_in p) otherwise

-- by the group `startd`: what is not one count says nothing
abbrev pub bounds_in : Option GroupRecord → Bounds
bounds_in None = record { ends = MOST_ENDS; period = PERIOD; first = 0; most = RETRY_MOST; tries = 0 }
bounds_in (Some g) =
    record {
      ends = count_or (property_of (codes "critical_failure_count") g) MOST_ENDS;
      period = count_or (property_of (codes "critical_failure_period") g) PERIOD;
      first = count_or (property_of (codes "retry_seconds") g) 0;
      most = count_or (property_of (codes "retry_most") g) RETRY_MOST;
      tries = count_or (property_of (codes "retry_count") g) 0;
    }

abbrev pub is_entry : ℕ → InstanceEntry → Bool
is_entry n e = e.instance.number == n

-- by its running snapshot
abbrev pub bounds_by : Holdings → Option InstanceEntry → Bounds
bounds_by h None = bounds_in None
bounds_by h (Some e) = bounds_in (composed_in (codes "startd") (named_snapshot h e.instance.row.running))

-- the bounds of an instance
unfoldable pub bounds_of : Holdings → ℕ → Bounds
bounds_of h n = bounds_by h (find (is_entry n) h.instances)

abbrev pub nanoseconds_in : ℕ → ℕ
nanoseconds_in seconds = seconds * 1000000000
