-- The changes of a view from one value of a repository to a newer one.
use Rattle.std.specs.Prelude.{◌≡◌, ◌⊎◌, ℕ, ◌+◌, ◌-◌, ◌<◌, ◌||◌, not, nat_lt, List, [], ◌∷◌, length, map, filter, take}
use Rattle.std.specs.Prelude.{Bool, true, false, if◌then◌else◌, Option, Some, None}
use Rattle.std.specs.Option.{option_eq}
use Rattle.smf_fmri.specs.declared.limits.TheConstants.{MOST_RECENT}
use Rattle.smf_fmri.specs.ByKey.{By, by_number, lookup, put_all}
use Rattle.smf_state.specs.declared.view.ChangedItem.{ChangedItem}
use Rattle.smf_state.specs.declared.view.ViewItem.{ViewItem}
use Rattle.smf_state.specs.Patched.{by_item, view_after_changes}
use Rattle.smf_model.specs.declared.command.Command.{Command}
use Rattle.smf_model.specs.History.{is_revised, holdings_after_commands}
use Rattle.smf_model.specs.Contents.{Holdings}
use Rattle.smf_model.specs.Look.{instances}
use Rattle.smf_model.specs.Shown.{view, view_item}
use Rattle.smf_changes.specs.Same.{same_item}

-- ---- items by number

abbrev pub by_itself : By ℕ ℕ
by_itself = by_number (λ n. n)

abbrev pub items : Holdings → List ViewItem
items h = map (view_item h) (instances h)

-- the view item of a number
abbrev pub item : Holdings → ℕ → Option ViewItem
item h n = lookup by_item (items h) n

abbrev pub numbers : Holdings → List ℕ
numbers h = map (λ i. i.number) (instances h)

-- ---- numbers that are touched

abbrev pub has_changed : Holdings → Holdings → ℕ → Bool
has_changed h k n = not (option_eq same_item (item h n) (item k n))

-- the numbers, rising, whose view items differ: made, changed or gone
unfoldable pub touched_numbers : Holdings → Holdings → List ℕ
touched_numbers h k = filter (has_changed h k) (put_all by_itself (numbers h) (numbers k))

-- the newest lists alone are kept
abbrev pub most_recent : ℕ
most_recent = MOST_RECENT

abbrev pub with_newest : Bool → List ℕ → List (List ℕ) → List (List ℕ)
with_newest true ns nss = take most_recent (ns ∷ nss)
with_newest false ns nss = nss

-- the numbers that each accepted command touched, newest first
unfoldable pub recent : Holdings → List Command → List (List ℕ)
recent h [] = []
recent h (c ∷ cs) =
    with_newest (is_revised (holdings_after_commands h cs) (holdings_after_commands h (c ∷ cs)))
    (touched_numbers (holdings_after_commands h cs) (holdings_after_commands h (c ∷ cs))) (recent h cs)

-- ---- the changes since a revision

-- the numbers of all lists, rising, each once
abbrev pub together : List (List ℕ) → List ℕ
together [] = []
together (ns ∷ nss) = put_all by_itself ns (together nss)

abbrev pub as_it_is : Holdings → ℕ → ChangedItem
as_it_is h n = record { instance = n; item = item h n }

-- no list is kept for a revision that is to come, or that is too old
abbrev pub is_beyond : List (List ℕ) → Holdings → ℕ → Bool
is_beyond nss h from = nat_lt h.revision from || nat_lt (length nss) (h.revision - from)

-- the revision of a value, and the items of today of all that was touched since another
unfoldable pub changes_since : List (List ℕ) → Holdings → ℕ → Option (ℕ × List ChangedItem)
changes_since nss h from =
    if is_beyond nss h from then None
    else Some (h.revision, map (as_it_is h) (together (take (h.revision - from) nss)))

-- ---- laws

-- with the changes since its revision, the view of one value is that of a newer one
abbrev pub IsPatched : List (List ℕ) → Holdings → Holdings → ℕ → List ChangedItem → Type 0
IsPatched nss v u to cs =
    changes_since nss u v.revision ≡ Some (to, cs) → (to ≡ u.revision) × (view_after_changes (view v) to cs ≡ view u)

-- a revision is to come, or too old, or before the first value
abbrev pub IsBeyond : Holdings → Holdings → ℕ → Type 0
IsBeyond first now from = (now.revision < from) ⊎ (from + most_recent < now.revision) ⊎ (from < first.revision)
