-- Instances that end again and again, and what a server does then.
use Rattle.std.specs.Prelude.{ℕ, zero, suc, ◌+◌, ◌-◌, ◌==◌, ◌&&◌, not, nat_lt, List, [], ◌∷◌, ◌++◌, length, filter, count_by, Bool, true, false, Option, Some, None, is_none, slice_get, codes}
use Rattle.std.specs.Duration.{as_nanos}
use Rattle.std.specs.declared.time.Duration.{Duration}
use Rattle.std.specs.List.{list_any}
use Rattle.smf_model.specs.declared.held.Instance.{Instance}
use Rattle.smf_model.specs.Contents.{Holdings}
use Rattle.smf_model.specs.Next.{current_instance}
use Rattle.smf_watch.specs.declared.ends.End.{End}
use Rattle.smf_watch.specs.Bounds.{bounds_of, nanoseconds_in}
use Rattle.smf_state.specs.declared.state.State.{State}
use Rattle.smf_state.specs.Rows.{same_state}
use Rattle.smf_state.specs.States.{runs}
use Rattle.smf_world.specs.declared.item.Item.{Item}
use Rattle.smf_world.specs.declared.item.Item.TheVariants.{Committed}

-- ---- ends that nobody asked for

abbrev pub steady_if : Bool → Bool → Option Bool
steady_if true steady = Some steady
steady_if false steady = None

-- true if a row is in a state, with nothing under way; none if the item shows no row of the instance
abbrev pub steady_in : ℕ → State → Item → Option Bool
steady_in n s (Committed i number state next) = steady_if (i == n) (same_state state s && is_none next)
steady_in n s _ = None

abbrev pub steady_by : ℕ → State → Option Item → Option Bool
steady_by n s None = None
steady_by n s (Some item) = steady_in n s item

abbrev pub steady_at : List Item → ℕ → State → ℕ → Option Bool
steady_at shown n s place = steady_by n s (slice_get shown place)

abbrev pub steady_or : Option Bool → Bool → Bool
steady_or None before = before
steady_or (Some steady) before = steady

-- true if the newest row of an instance among the first items of a trail is in a state, with nothing under way
abbrev pub was_steady : List Item → ℕ → State → ℕ → Bool
was_steady shown n s zero = false
was_steady shown n s (suc k) = steady_or (steady_at shown n s k) (was_steady shown n s k)

abbrev pub end_if : Bool → ℕ → Option ℕ
end_if true n = Some n
end_if false n = None

-- a restarter noted that what it ran ended: it committed the row again, in the state in which the instance ran with
-- nothing under way. A stop that was ordered, and a start that fails, are no such ends
abbrev pub end_in : List Item → ℕ → Item → Option ℕ
end_in shown place (Committed i number state next) =
    end_if (runs state && is_none next && was_steady shown i state place) i
end_in shown place _ = None

abbrev pub end_by : List Item → ℕ → Option Item → Option ℕ
end_by shown place None = None
end_by shown place (Some item) = end_in shown place item

-- the instance of which the item at a place of a trail says that it ended
unfoldable pub end_at : List Item → ℕ → Option ℕ
end_at shown place = end_by shown place (slice_get shown place)

-- ---- ends that were seen

abbrev pub ended_now : Duration → Option ℕ → List End
ended_now at None = []
ended_now at (Some n) = record { instance = n; at = at } ∷ []

-- ends, and those of which so many items of a trail tell, from a first one on
abbrev pub ends_after_items : List End → List Item → Duration → ℕ → ℕ → List End
ends_after_items ends shown at first zero = ends
ends_after_items ends shown at first (suc k) =
    ends_after_items ends shown at first k ++ ended_now at (end_at shown (first + k))

-- it is within the period of its instance
abbrev pub is_recent : Holdings → Duration → End → Bool
is_recent h now e = nat_lt (as_nanos now - as_nanos e.at) (nanoseconds_in (bounds_of h e.instance).period)

-- those of the last periods, with those of which a trail tells past the items that were looked at
abbrev pub seen_by : Holdings → Duration → List Item → ℕ → List End → List End
seen_by h now shown looked ends =
    ends_after_items (filter (is_recent h now) ends) shown now looked (length shown - looked)

-- ---- instances that ended too often

abbrev pub is_end_of : ℕ → End → Bool
is_end_of n e = e.instance == n

abbrev pub is_number : ℕ → ℕ → Bool
is_number n m = m == n

-- 0 is no bound
abbrev pub is_many : ℕ → ℕ → Bool
is_many most count = nat_lt 0 most && nat_lt most count

abbrev pub is_hasty : Holdings → List End → ℕ → Bool
is_hasty h ends n = is_many (bounds_of h n).ends (count_by (is_end_of n) ends)

abbrev pub number_if : Bool → List ℕ → ℕ → List ℕ
number_if true numbers n = numbers ++ n ∷ []
number_if false numbers n = numbers

abbrev pub with_hasty : Holdings → List End → List ℕ → End → List ℕ
with_hasty h ends numbers e =
    number_if (is_hasty h ends e.instance && not (list_any (is_number e.instance) numbers)) numbers e.instance

abbrev pub hasty_among : Holdings → List End → List ℕ → List End → List ℕ
hasty_among h ends numbers [] = numbers
hasty_among h ends numbers (e ∷ es) = hasty_among h ends (with_hasty h ends numbers e) es

-- the instances that ended too often, each once, in the order of their first ends
abbrev pub hasty : Holdings → List End → List ℕ
hasty h ends = hasty_among h ends [] ends

abbrev pub is_kept : List ℕ → End → Bool
is_kept numbers e = not (list_any (is_number e.instance) numbers)

-- ---- what is told of them

unfoldable pub loop_text : List ℕ → List ℕ
loop_text name = codes "smf: " ++ name ++ codes ": restarting too quickly, marked for maintenance"

abbrev pub line_of : Option Instance → List (List ℕ)
line_of None = []
line_of (Some i) = loop_text i.name ∷ []

-- a line for each of these instances that is there
abbrev pub lines_of : Holdings → List ℕ → List (List ℕ)
lines_of h [] = []
lines_of h (n ∷ ns) = line_of (current_instance h n) ++ lines_of h ns
