-- What a server notices of instances that fail, look by look.
use Rattle.std.specs.Prelude.{ℕ, List, [], ◌∷◌, drop, filter, find}
use Rattle.std.specs.declared.time.Duration.{Duration}
use Rattle.smf_contract.specs.Entries.{Contracts}
use Rattle.smf_fmri.specs.ByKey.{list_with_item, lookup}
use Rattle.smf_model.specs.Contents.{Holdings}
use Rattle.smf_watch.specs.Bounds.{bounds_of}
use Rattle.smf_watch.specs.Causes.{by_instance, known_after}
use Rattle.smf_watch.specs.LastStart.{failed_for_good}
use Rattle.smf_watch.specs.Loops.{is_kept, seen_by}
use Rattle.smf_watch.specs.Retries.{is_retry_of, retry_after, tried, with_marks, with_retry}
use Rattle.smf_watch.specs.declared.causes.KnownRow.{KnownRow}
use Rattle.smf_watch.specs.declared.causes.ShownRow.{ShownRow}
use Rattle.smf_watch.specs.declared.ends.End.{End}
use Rattle.smf_watch.specs.declared.retries.Retry.{Retry}
use Rattle.smf_watch.specs.declared.troubles.Tracked.{Tracked as AnyTracked}
use Rattle.smf_watch.specs.declared.troubles.Troubles.{Troubles}
use Rattle.smf_world.specs.declared.item.Item.{Item}
use Rattle.smf_world.specs.declared.item.Item.TheVariants.{Committed}

-- the ends that were seen lately, the newest row of each instance, and the instances that are tried again
pub record Noticed : Type 0 where
  pub ends : List End
  pub known : List KnownRow
  pub retries : List Retry

abbrev pub noticed : Troubles → Noticed
noticed t = record { ends = t.ends.items; known = t.known; retries = t.retries.items }

-- before anything was looked at, if these are tried again
abbrev pub noticed_at_first : List Retry → Noticed
noticed_at_first retries = record { ends = []; known = []; retries = retries }

-- ---- rows

pub record Tracked : Type 0 where
  pub known : List KnownRow
  pub retries : List Retry

abbrev pub tracked : AnyTracked → Tracked
tracked t = record { known = t.known; retries = t.retries.items }

abbrev pub tracked_of : Noticed → Tracked
tracked_of n = record { known = n.known; retries = n.retries }

abbrev pub tracked_known : Holdings → Contracts → Duration → ℕ → KnownRow → Tracked → Tracked
tracked_known h t now n k s =
    record {
      known = list_with_item by_instance k s.known;
      retries = with_retry n
          (retry_after (bounds_of h n) now (failed_for_good t n) (find (is_retry_of n) s.retries) k) s.retries;
    }

-- a row that was seen now
abbrev pub tracked_row : Holdings → Contracts → Duration → ℕ → ShownRow → Tracked → Tracked
tracked_row h t now n r s = tracked_known h t now n (known_after (lookup by_instance s.known n) n r) s

abbrev pub tracked_item : Holdings → Contracts → Duration → Item → Tracked → Tracked
tracked_item h t now (Committed n number state next) s =
    tracked_row h t now n (record { number = number; state = state; next = next }) s
tracked_item h t now _ s = s

abbrev pub tracked_items : Holdings → Contracts → Duration → List Item → Tracked → Tracked
tracked_items h t now [] s = s
tracked_items h t now (x ∷ xs) s = tracked_items h t now xs (tracked_item h t now x s)

-- ---- a look

-- the instances that are tried again, by the new items of a trail, and by the marks of those that ended too often
abbrev pub retries_marked : Holdings → Contracts → Duration → List ℕ → List Item → Noticed → List Retry
retries_marked h t now numbers xs n =
    with_marks h now numbers (tracked_items h t now xs (tracked_of n)).retries

-- the ends of those that ended too often are forgotten, and those that are owed a retry are tried
abbrev pub noticed_after : Holdings → Contracts → Duration → List ℕ → List Item → ℕ → Noticed → Noticed
noticed_after h t now numbers shown looked n =
    record {
      ends = filter (is_kept numbers) (seen_by h now shown looked n.ends);
      known = (tracked_items h t now (drop looked shown) (tracked_of n)).known;
      retries = tried h now (retries_marked h t now numbers (drop looked shown) n);
    }
