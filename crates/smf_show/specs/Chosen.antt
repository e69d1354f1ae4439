-- Which instances are shown, and what of them.
use Rattle.std.specs.Prelude.{ℕ, ◌==◌, ◌||◌, List, [], length, filter, map, Bool, Option, Some, None, unwrap_or}
use Rattle.smf_admin.specs.Output.{is_named, patterns_of}
use Rattle.smf_fmri.specs.ByKey.{By, by_text, put_all}
use Rattle.smf_model.specs.declared.held.Snapshot.{Snapshot}
use Rattle.smf_model.specs.Contents.{Holdings}
use Rattle.smf_model.specs.Next.{named_snapshot}
use Rattle.smf_model.specs.Shown.{composed_groups, rows}
use Rattle.smf_snap.specs.Composed.{composition}
use Rattle.smf_state.specs.declared.view.ViewItem.{ViewItem}
use Rattle.smf_value.specs.Groups.{GroupRecord}
use Rattle.smf_show.specs.declared.shown.Shown.{Shown}
use Rattle.smf_show.specs.declared.shown.Configured.{Configured}

-- true without words, else if one of the patterns matches
abbrev pub is_meant_by : Bool → List (List ℕ) → List ℕ → Bool
is_meant_by all patterns name = all || is_named patterns name

abbrev pub items_by : Bool → List (List ℕ) → List ViewItem → List ViewItem
items_by all patterns items = filter (λ i. is_meant_by all patterns i.name) items

-- the instances that one of the words matches, as svcs takes words, or all without words
abbrev pub meant_items : Holdings → List (List ℕ) → List ViewItem
meant_items h words = items_by (length words == 0) (patterns_of words) (rows h)

-- ---- how they stand

abbrev pub by_shown : By Shown (List ℕ)
by_shown = by_text (λ s. s.name)

abbrev pub shown_of : ViewItem → Shown
shown_of i =
    record { name = i.name; enabled = i.enabled; state = i.row.state; next = i.row.next; restarter = i.row.owner }

-- those that the words mean, in the byte order of their names
unfoldable pub shown_instances : Holdings → List (List ℕ) → List Shown
shown_instances h words = put_all by_shown (map shown_of (meant_items h words)) []

-- ---- what they have configured

abbrev pub by_configured : By Configured (List ℕ)
by_configured = by_text (λ c. c.shown.name)

-- the groups that an instance has by its number
abbrev pub groups_at : Holdings → ℕ → List GroupRecord
groups_at h n = unwrap_or (composed_groups h n) []

abbrev pub configured_of : Holdings → ViewItem → Configured
configured_of h i = record { shown = shown_of i; groups = groups_at h i.instance }

-- those that the words mean, in the byte order of their names
unfoldable pub configured_instances : Holdings → List (List ℕ) → List Configured
configured_instances h words = put_all by_configured (map (configured_of h) (meant_items h words)) []

-- ---- what they run with

-- the groups that a snapshot keeps, by name those of the instance, else those of the service
abbrev pub groups_in : Option Snapshot → List GroupRecord
groups_in None = []
groups_in (Some s) = composition s.instance_groups s.service_groups

abbrev pub running_of : Holdings → ViewItem → Configured
running_of h i = record { shown = shown_of i; groups = groups_in (named_snapshot h i.row.running) }

-- those that the words mean, with the groups of their snapshots `running`
unfoldable pub running_instances : Holdings → List (List ℕ) → List Configured
running_instances h words = put_all by_configured (map (running_of h) (meant_items h words)) []
