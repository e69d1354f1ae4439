-- The order in which services stop: none before those that require it, but in a circle.
use Rattle.std.proofs.Common.{◌≡◌, List, [], ◌∷◌, Bool, true, false, not, ◌&&◌, ◌||◌, refl, sym, subst, ◌∙◌, arith}
use Rattle.std.specs.Prelude.{filter, All, Contains}
use Rattle.std.specs.List.{list_all, list_any}
use Rattle.std.proofs.lemmas.Bool.{and_from, and_parts, both_ways, false≢true}
use Rattle.std.proofs.lemmas.List.Elements.{All-append, All-contains, All-contains_itself, All-filter, All-map, filter_agree, filter_passes}
use Rattle.smf_dep.specs.declared.member.GraphMember.{GraphMember}
use Rattle.smf_stops.specs.Laws.{AreDisabled, IsCircle, IsCircleOf}
use Rattle.smf_stops.specs.Stops.{all_held, asked, free, going, is_enabled, is_free, is_going, is_held, is_waiting, name_of, next_stops, requires}
use Rattle.smf_stops.proofs.Kept.{all_are, any_filtered, any_has, none_kept}

-- ---- which are free

pub free_goes : (ms : List GraphMember) (m : GraphMember) → is_free ms m ≡ true → is_going m ≡ true
unfolding is_free
free_goes ms m e = (and_parts (is_going m) (all_held ms || not (is_held ms m)) e).0

held_free : (held circle goes : Bool) → held ≡ true → (goes && (circle || not held)) ≡ true → circle ≡ true
held_free true true goes e f = refl
held_free true false true e f = absurd (false≢true f)
held_free true false false e f = absurd (false≢true f)
held_free false circle goes e f = absurd (false≢true e)

-- one that is free and held is so in a circle
pub is_circle : (ms : List GraphMember) (m : GraphMember) → is_held ms m ≡ true → is_free ms m ≡ true
    → all_held ms ≡ true
unfolding is_free
is_circle ms m held is = held_free (is_held ms m) (all_held ms) (is_going m) held is

pub holds : (ms : List GraphMember) (x y : GraphMember) → Contains ms y → is_going y ≡ true → requires y x ≡ true
    → is_held ms x ≡ true
unfolding is_held
holds ms x y has goes requires_it =
    any_has (λ other. is_going other && requires other x) ms y has
    (and_from (is_going y) (requires y x) goes requires_it)

-- ---- a circle

all_free : (circle goes held : Bool) → circle ≡ true → (goes && (circle || not held)) ≡ goes
all_free true true held e = refl
all_free true false held e = refl
all_free false goes held e = absurd (false≢true e)

free_is : (ms : List GraphMember) → all_held ms ≡ true → (m : GraphMember) → is_free ms m ≡ is_going m
unfolding is_free
free_is ms e m = all_free (all_held ms) (is_going m) (is_held ms m) e

held_by_going : (ms : List GraphMember) (m : GraphMember) → is_held (going ms) m ≡ is_held ms m
unfolding is_held
held_by_going ms m = any_filtered is_going (λ other. requires other m) ms

if_goes : (goes held : Bool) → goes ≡ true → (not goes || held) ≡ true → held ≡ true
if_goes true held e f = f
if_goes false held e f = absurd (false≢true e)

each_held : (ms : List GraphMember) → all_held ms ≡ true → All (λ m. (not (is_going m) || is_held ms m) ≡ true) ms
unfolding all_held
each_held ms e = all_are (λ m. not (is_going m) || is_held ms m) ms e

all_circle : (ms : List GraphMember) → all_held ms ≡ true → IsCircle (going ms)
all_circle ms e =
    let goes = filter_passes is_going ms in
    let held = All-filter is_going (λ m. (not (is_going m) || is_held ms m) ≡ true) ms (each_held ms e) in
    λ k d within_it. held_by_going ms _ ∙ if_goes _ _ (goes k d within_it) (held k d within_it)

pub circle_of : (ms : List GraphMember) → all_held ms ≡ true → IsCircleOf ms
circle_of ms e =
    record {
      all = filter_agree (is_free ms) is_going (free_is ms e) ms;
      circle = all_circle ms e;
    }

pub ordered : (ms : List GraphMember) (x y : GraphMember) → Contains (free ms) x → Contains ms y → is_going y ≡ true
    → requires y x ≡ true → IsCircleOf ms
ordered ms x y is_free_one has goes requires_it =
    circle_of ms
    (is_circle ms x (holds ms x y has goes requires_it)
    (All-contains (λ m. is_free ms m ≡ true) (free ms) x (filter_passes (is_free ms) ms) is_free_one))

-- ---- some are free

unheld : (g h : GraphMember → Bool) (xs : List GraphMember) → list_all (λ m. not (g m) || h m) xs ≡ false
    → list_any (λ m. g m && (false || not (h m))) xs ≡ true
unheld g h [] e = absurd (false≢true (sym e))
unheld g h (x ∷ xs) e = grind (arith, unheld g h xs)

free_unless : (ms : List GraphMember) (b : Bool) → all_held ms ≡ b → free ms ≡ [] → going ms ≡ []
unfolding is_free all_held
free_unless ms true e none = sym (circle_of ms e).all ∙ none
free_unless ms false e none =
    absurd (none_kept (λ m. is_going m && (false || not (is_held ms m))) ms
    (subst (λ b. filter (λ m. is_going m && (b || not (is_held ms m))) ms ≡ []) e none)
    (unheld is_going (is_held ms) ms e))

pub some_free : (ms : List GraphMember) → free ms ≡ [] → going ms ≡ []
some_free ms none = free_unless ms (all_held ms) refl none

-- ---- what is asked

waits_enabled : (enabled goes : Bool) → (enabled && not goes) ≡ true → enabled ≡ true
waits_enabled true goes e = refl
waits_enabled false goes e = absurd (false≢true e)

waiting_enabled : (m : GraphMember) → is_waiting m ≡ true → m.enabled ≡ true
unfolding is_waiting
waiting_enabled m e = waits_enabled m.enabled (is_going m) e

pub all_enabled : (ms : List GraphMember) → All (λ m. m.enabled ≡ true) (asked ms)
all_enabled ms =
    All-append (λ m. m.enabled ≡ true) (filter is_waiting ms) (filter is_enabled (free ms))
    (λ k d within_it. waiting_enabled _ (filter_passes is_waiting ms k d within_it))
    (filter_passes is_enabled (free ms))

within_all : (ms : List GraphMember) → All (Contains ms) (asked ms)
within_all ms =
    All-append (Contains ms) (filter is_waiting ms) (filter is_enabled (free ms))
    (All-filter is_waiting (Contains ms) ms (All-contains_itself ms))
    (All-filter is_enabled (Contains ms) (free ms) (All-filter (is_free ms) (Contains ms) ms (All-contains_itself ms)))

pub asked_once : (before after : List GraphMember) → AreDisabled (next_stops before) after
    → All (λ name. Contains (next_stops before) name → ⊥) (next_stops after)
asked_once before after disabled =
    All-map (λ name. Contains (next_stops before) name → ⊥) name_of (asked after)
    (λ k d within_it named.
    let off = All-contains (λ m. Contains (next_stops before) m.name → m.enabled ≡ false) after _ disabled
    (within_all after k d within_it) in
    both_ways _ (off named) (all_enabled after k d within_it))
