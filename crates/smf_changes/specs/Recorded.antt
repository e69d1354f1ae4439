-- The repository with the record of its newest changes.
use Rattle.std.specs.Prelude.{◌≡◌, ℕ, List, [], ◌∷◌, map, filter, take, not, Bool, Option, Some, None, option_map}
use Rattle.std.specs.Option.{option_eq}
use Rattle.smf_fmri.specs.ByKey.{put_all}
use Rattle.smf_state.specs.declared.view.ChangedItem.{ChangedItem}
use Rattle.smf_state.specs.declared.view.View.{View}
use Rattle.smf_state.specs.Patched.{view_after_changes}
use Rattle.smf_model.specs.declared.change.Change.{Change}
use Rattle.smf_model.specs.Contents.{Holdings}
use Rattle.smf_model.specs.Look.{holdings_after_changes}
use Rattle.smf_model.specs.Shown.{view}
use Rattle.smf_changes.specs.Candidates.{candidates}
use Rattle.smf_changes.specs.Changes.{as_it_is, by_itself, item, most_recent, touched_numbers}
use Rattle.smf_changes.specs.Same.{same_item}

-- the holdings, their journal, and the numbers that each of the newest commits touched, newest first
pub record Recorded (J : Type 0) : Type 0 where
  pub held : Holdings
  pub journal : J
  pub recent : List (List ℕ)

-- the lists after changes: if there are none nothing is recorded
abbrev pub next_lists : Holdings → List Change → List (List ℕ) → List (List ℕ)
next_lists h [] nss = nss
next_lists h (c ∷ cs) nss = take most_recent (touched_numbers h (holdings_after_changes h (c ∷ cs)) ∷ nss)

-- ---- what is kept

-- the items, as they are, of all that changes may touch
unfoldable pub old_items : Holdings → List Change → List ChangedItem
old_items h cs = map (as_it_is h) (put_all by_itself (candidates h cs) [])

-- an item is no longer as it was
abbrev pub differs : Holdings → ChangedItem → Bool
differs h c = not (option_eq same_item c.item (item h c.instance))

-- the numbers of the items that are no longer as they were
abbrev pub touched_by : Holdings → List ChangedItem → List ℕ
touched_by h olds = map (λ c. c.instance) (filter (differs h) olds)

-- the lists, with the newest if it is still to be worked out
abbrev pub with_stale : Option (List ℕ) → List (List ℕ) → List (List ℕ)
with_stale None nss = nss
with_stale (Some ns) nss = take most_recent (ns ∷ nss)

abbrev pub newest : Holdings → Option (List ChangedItem) → Option (List ℕ)
newest h stale = option_map (touched_by h) stale

-- a view that is kept is that of what is held, or becomes it with the items of the newest list
abbrev pub IsShown : Option View → Option (List ℕ) → Holdings → Type 0
IsShown None ns h = Unit {0}
IsShown (Some v) None h = v ≡ view h
IsShown (Some v) (Some ns) h = view_after_changes v h.revision (map (as_it_is h) ns) ≡ view h

-- the view that is kept, if nothing is still to be worked out
abbrev pub settled_view : Option (List ChangedItem) → Option View → Option View
settled_view None shown = shown
settled_view (Some olds) shown = None
