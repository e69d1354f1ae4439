-- The output of svcs.
use Rattle.std.specs.Prelude.{◌≡◌, ◌≢◌, ℕ, ◌-◌, ◌==◌, ◌||◌, ◌++◌, not, List, [], ◌∷◌, length, map, filter, replicate, reverse, Bool, true, false, codes, if◌then◌else◌, Option, is_some, Result, Ok, Err}
use Rattle.std.specs.List.{AllPairs, flat_map, list_any}
use Rattle.std.specs.List.Sorted.{IsPermutation}
use Rattle.smf_dep.specs.declared.member.GraphMember.{GraphMember}
use Rattle.smf_dep.specs.Members.{members}
use Rattle.smf_fmri.specs.declared.fault.FmriFault.{FmriFault}
use Rattle.smf_fmri.specs.ByKey.{By, Rises, by_text, lookup, put_all}
use Rattle.smf_fmri.specs.Patterns.{matches}
use Rattle.smf_fmri.specs.Name.{read_pattern}
use Rattle.smf_state.specs.declared.state.State.{State}
use Rattle.smf_state.specs.declared.view.ViewItem.{ViewItem}
use Rattle.smf_state.specs.States.{runs, state_text}
use Rattle.smf_admin.specs.declared.list_options.Chosen.{Chosen}
use Rattle.smf_admin.specs.declared.list_options.Chosen.TheVariants.{Listed, All, Named, Related}
use Rattle.smf_admin.specs.declared.list_options.Options.{Options}
use Rattle.smf_admin.specs.declared.list_options.Relation.{Relation}
use Rattle.smf_admin.specs.declared.output.Entry.{Entry}
use Rattle.smf_admin.specs.declared.output.Listing.{Listing}
use Rattle.smf_admin.specs.Relations.{is_related}
use Rattle.smf_admin.specs.Messages.{line_end, no_match_text}

-- ---- patterns

-- a list of none or one
abbrev pub pattern_in : Result (List ℕ) FmriFault → List (List ℕ)
pattern_in (Ok pattern) = pattern ∷ []
pattern_in (Err fault) = []

abbrev pub pattern_of : List ℕ → List (List ℕ)
pattern_of word = pattern_in (read_pattern word)

-- the words that are patterns
abbrev pub patterns_of : List (List ℕ) → List (List ℕ)
patterns_of words = flat_map pattern_of words

-- one of the patterns matches
abbrev pub is_named : List (List ℕ) → List ℕ → Bool
is_named patterns name = list_any (λ p. matches p name) patterns

-- a word that is no pattern matches nothing
abbrev pub is_matched : List ViewItem → List ℕ → Bool
is_matched view word = list_any (λ i. is_named (pattern_of word) i.name) view

abbrev pub unmatched_words : List ViewItem → List (List ℕ) → List (List ℕ)
unmatched_words view words = filter (λ word. not (is_matched view word)) words

-- ---- which instances, and in which order

abbrev pub is_listed : ViewItem → Bool
is_listed i = i.enabled || runs i.row.state

abbrev pub is_chosen : Chosen → List (List ℕ) → ViewItem → Bool
is_chosen Listed patterns i = is_listed i
is_chosen All patterns i = true
is_chosen Named patterns i = is_named patterns i.name
is_chosen (Related relation) patterns i = is_named patterns i.name

abbrev pub entry_of : List ℕ → State → Option State → Entry
entry_of name state next = record { name = name; state = state; in_transition = is_some next }

abbrev pub item_entries : List ViewItem → List Entry
item_entries items = map (λ i. entry_of i.name i.row.state i.row.next) items

abbrev pub member_entries : List GraphMember → List Entry
member_entries ms = map (λ m. entry_of m.name m.state m.next) ms

abbrev pub items_by_choice : Chosen → List (List ℕ) → List ViewItem → List ViewItem
items_by_choice c patterns view = filter (is_chosen c patterns) view

-- all that stand so to one of those named
abbrev pub entries_by_relation : Relation → List (List ℕ) → List ViewItem → List Entry
entries_by_relation r patterns view =
    member_entries (filter (is_related r (members (items_by_choice (Related r) patterns view))) (members view))

abbrev pub shown_by : Chosen → List (List ℕ) → List ViewItem → List Entry
shown_by (Related r) patterns view = entries_by_relation r patterns view
shown_by c patterns view = item_entries (items_by_choice c patterns view)

abbrev pub unsorted_entries : List ViewItem → Options → List Entry
unsorted_entries view options = shown_by options.chosen (patterns_of options.patterns) view

-- entries are told apart and put in order by their names
abbrev pub by_entry : By Entry (List ℕ)
by_entry = by_text (λ e. e.name)

-- entries in the byte order of their names
abbrev pub sorted_entries : List Entry → List Entry
sorted_entries es = put_all by_entry es []

unfoldable pub entries : List ViewItem → Options → List Entry
entries view options = sorted_entries (unsorted_entries view options)

-- ---- what the entries are

-- no two instances have one name
abbrev pub HaveNamesApart : List ViewItem → Type 0
HaveNamesApart view = AllPairs (λ i j. i.name ≢ j.name) view

-- the entries of the instances that are shown, in the byte order of their names, and of several of one name the last.
-- If no two instances have one name, these are the entries of all that are shown, each once
pub record IsListing (view : List ViewItem) (all es : List Entry) : Type 0 where
  pub shown : (name : List ℕ) → lookup by_entry es name ≡ lookup by_entry (reverse all) name
  pub same : HaveNamesApart view → IsPermutation all es
  pub in_order : Rises by_entry es

-- ---- the text

-- the state, with a star if a transition is under way
abbrev pub state_words : Entry → List ℕ
state_words e = state_text e.state ++ (if e.in_transition then codes "*" else [])

-- padded to 14 places
abbrev pub padded_text : List ℕ → List ℕ
padded_text text = text ++ replicate (14 - length text) 32

abbrev pub entry_text : Entry → List ℕ
entry_text e = padded_text (state_words e) ++ codes " " ++ e.name ++ line_end

abbrev pub header_text : Bool → List ℕ
header_text true = codes "STATE          FMRI" ++ line_end
header_text false = []

abbrev pub unmatched_text : List ℕ → List ℕ
unmatched_text word = no_match_text (codes "svcs") word

abbrev pub listing_text : List (List ℕ) → Bool → List Entry → List ℕ
listing_text words header es = flat_map unmatched_text words ++ header_text header ++ flat_map entry_text es

-- the words without a match, then the header and the instances
unfoldable pub svcs_text : List ViewItem → Options → Listing
svcs_text view options =
    let words = unmatched_words view options.patterns in
    record { text = listing_text words options.header (entries view options); all_matched = length words == 0 }
