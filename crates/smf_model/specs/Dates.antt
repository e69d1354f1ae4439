-- The revisions that rows keep of the last events.
use Rattle.std.specs.Prelude.{◌≡◌, ◌≤◌, ℕ, Some}
use Rattle.smf_state.specs.declared.row.Row.{Row}
use Rattle.smf_model.specs.declared.held.Instance.{Instance}
use Rattle.smf_model.specs.Contents.{Holdings}
use Rattle.smf_model.specs.Look.{instance}

-- a stop by an error, any other stop, a refresh of an instance that runs, and a start that succeeded
pub data EventKind : Type 0 where
  ErrorStop : EventKind
  OtherStop : EventKind
  Refreshed : EventKind
  Started : EventKind

-- the revision that a row keeps of the last event of a kind
abbrev pub revision_of : EventKind → Row → ℕ
revision_of ErrorStop row = row.err
revision_of OtherStop row = row.stop
revision_of Refreshed row = row.refresh
revision_of Started row = row.start

-- no row keeps a revision that is still to come
abbrev pub IsDated : Holdings → Type 0
IsDated h = (n : ℕ) (i : Instance) (kind : EventKind) → instance h n ≡ Some i → revision_of kind i.row ≤ h.revision
