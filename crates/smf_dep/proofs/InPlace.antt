-- Changes by which no instance comes or goes, and the answers of a graph by the places of its numbers.
use Rattle.std.proofs.Common.{◌≡◌, ℕ, ◌<◌, List, [], ◌∷◌, get_or, length, map, true, false, Option, Some, None, Result, Ok, Err, refl, sym, ap, ◌∙◌}
use Rattle.std.specs.Prelude.{IfOk, IfSome, option_map, slice_get}
use Rattle.std.proofs.lemmas.Option.{slice_get-get_or}
use Rattle.smf_fmri.specs.ByKey.{Rises, lookup}
use Rattle.smf_links.specs.Blockage.{IsOut}
use Rattle.smf_state.specs.declared.view.ChangedItem.{ChangedItem}
use Rattle.smf_state.specs.declared.view.ViewItem.{ViewItem}
use Rattle.smf_dep.specs.declared.graph.Finding.{Finding}
use Rattle.smf_dep.specs.declared.member.GraphMember.{GraphMember}
use Rattle.smf_dep.specs.Departures.{AllStayAway, AreGone, AreThere, HasTaken, IsRollAfter, IsRolled, IsTaken, IsThere, StaysAway, all_gone, by_itself, has_number, leaver, leavers, shown, with_departure, with_departures, with_gone, with_number, with_numbers}
use Rattle.smf_dep.specs.Members.{by_member}
use Rattle.smf_dep.specs.Places.{finding_of}
use Rattle.smf_dep.specs.Updates.{OthersStay, number, with_member, with_members}
use Rattle.smf_dep.proofs.ByNumber.{found_at}
use Rattle.smf_dep.proofs.Departed.{found_shown, rises_shown, shown_none}
use Rattle.smf_dep.proofs.Rolled.{put_again, rises_numbers, some_at}
use Rattle.smf_dep.proofs.ShownChanges.{has_taken, shown_found}

-- ---- items of instances that are there

module _ (numbers gone : List ℕ) where
  none_left : (n : ℕ) (o : Option ViewItem) (ns : List ℕ) (k : ℕ) → IsThere o numbers gone → IsOut k ns
      → IsOut k (leaver n o ns)
  none_left n None ns k there out = absurd there
  none_left n (Some x) ns k there out = out

  none_leaves : (cs : List ChangedItem) (k : ℕ) → AreThere cs numbers gone → IsOut k (leavers cs)
  none_leaves [] k there = tt
  none_leaves (c ∷ cs) k there =
      none_left c.instance c.item (leavers cs) k there.0 (none_leaves cs k there.1)

  one_departure : (n : ℕ) (o : Option ViewItem) (ms : List GraphMember) → IsThere o numbers gone
      → with_departure n o ms ≡ with_member n o ms
  one_departure n None ms there = absurd there
  one_departure n (Some x) ms there = refl

  same_departures : (cs : List ChangedItem) (ms : List GraphMember) → AreThere cs numbers gone
      → with_departures cs ms ≡ with_members cs ms
  same_departures [] ms there = refl
  same_departures (c ∷ cs) ms there =
      ap (with_departures cs) (one_departure c.instance c.item ms there.0)
      ∙ same_departures cs (with_member c.instance c.item ms) there.1

  one_stays : (n : ℕ) (o : Option ViewItem) → IsThere o numbers gone → with_gone n o gone ≡ gone
  one_stays n None there = absurd there
  one_stays n (Some x) there = refl

  all_stay : (cs : List ChangedItem) → AreThere cs numbers gone → all_gone cs gone ≡ gone
  all_stay [] there = refl
  all_stay (c ∷ cs) there = ap (all_gone cs) (one_stays c.instance c.item there.0) ∙ all_stay cs there.1

  one_away : (o : Option ViewItem) → IsThere o numbers gone → StaysAway o gone
  one_away None there = tt
  one_away (Some x) there = there.1

  each_away : (cs : List ChangedItem) → AreThere cs numbers gone → AllStayAway cs gone
  each_away [] there = tt
  each_away (c ∷ cs) there = (one_away c.item there.0, each_away cs there.1)

  module _ (rises : Rises by_itself numbers) where
    one_again : (n : ℕ) (o : Option ViewItem) → IsThere o numbers gone → with_number n o numbers ≡ numbers
    one_again n None there = absurd there
    one_again n (Some x) there = put_again x.instance numbers rises there.0

    all_again : (cs : List ChangedItem) → AreThere cs numbers gone → with_numbers cs numbers ≡ numbers
    all_again [] there = refl
    all_again (c ∷ cs) there =
        ap (with_numbers cs) (one_again c.instance c.item there.0) ∙ all_again cs there.1

pub taken_there : (cs : List ChangedItem) (before after : List GraphMember) (numbers gone touched : List ℕ)
    → AreThere cs numbers gone → after ≡ with_members cs before → OthersStay before after touched
    → IsTaken cs before after touched
taken_there cs before after numbers gone touched there with others =
    record {
      with = with ∙ sym (same_departures numbers gone cs before there);
      others = others;
      left = λ n out. none_leaves numbers gone cs n there;
    }

roll_there : (cs : List ChangedItem) (ms : List GraphMember) (numbers gone : List ℕ) → IsRolled ms numbers gone
    → AreThere cs numbers gone → IsRollAfter cs numbers gone numbers gone
roll_there cs ms numbers gone rolled there =
    let rises : Rises by_itself numbers =
    rises_numbers (shown gone ms) numbers rolled.there (rises_shown gone ms rolled.rises) in
    record {
      there = sym (all_again numbers gone rises cs there);
      left = sym (all_stay numbers gone cs there);
      away = each_away numbers gone cs there;
    }

pub has_taken_there : (cs : List ChangedItem) (before : List GraphMember) (numbers gone : List ℕ)
    (after : List GraphMember) (touched : List ℕ) → IsRolled before numbers gone → AreThere cs numbers gone
    → IsTaken cs before after touched → HasTaken cs before gone after numbers gone touched
has_taken_there cs before numbers gone after touched rolled there taken =
    has_taken cs before numbers gone after numbers gone touched rolled (roll_there cs before numbers gone rolled there)
    taken

-- ---- the instance at a place, by its number

pub got_number : (xs numbers : List ℕ) (place n : ℕ) → place < length xs → n ≡ get_or xs place n → xs ≡ numbers
    → slice_get numbers place ≡ Some n
got_number xs numbers place n lt is e =
    ap (λ l. slice_get l place) (sym e) ∙ slice_get-get_or xs place n lt ∙ ap (λ k. Some k) (sym is)

pub at_number : (ms : List GraphMember) (numbers gone : List ℕ) (place n : ℕ) → IsRolled ms numbers gone
    → slice_get numbers place ≡ Some n → lookup by_member ms n ≡ slice_get (shown gone ms) place
at_number ms numbers gone place n rolled at =
    let found = some_at (shown gone ms) numbers place n rolled.there at in
    let rises : Rises by_member (shown gone ms) = rises_shown gone ms rolled.rises in
    let here : lookup by_member ms found.0.instance ≡ Some found.0 =
    shown_found gone ms found.0.instance found.0 rolled.rises
    (found_at by_member (shown gone ms) place found.0 rises found.1) in
    ap (lookup by_member ms) (sym found.2) ∙ here ∙ sym found.1

finding_there : (ms : List GraphMember) (numbers gone : List ℕ) (o : Option GraphMember) → IsRolled ms numbers gone
    → option_map (finding_of ms) o ≡ option_map (finding_of (shown gone ms)) o
finding_there ms numbers gone None rolled = refl
finding_there ms numbers gone (Some m) rolled =
    ap (λ (f : Finding). Some f) (sym (found_shown gone ms m rolled.left))

-- and its finding among those that are there
pub finding_at_number : (ms : List GraphMember) (numbers gone : List ℕ) (place n : ℕ) → IsRolled ms numbers gone
    → slice_get numbers place ≡ Some n
    → option_map (finding_of ms) (lookup by_member ms n)
    ≡ option_map (finding_of (shown gone ms)) (slice_get (shown gone ms) place)
finding_at_number ms numbers gone place n rolled at =
    finding_there ms numbers gone (lookup by_member ms n) rolled
    ∙ ap (option_map (finding_of (shown gone ms))) (at_number ms numbers gone place n rolled at)

-- ---- a graph of instances of which none went

none_gone : (ms : List GraphMember) (gone : List ℕ) → gone ≡ [] → AreGone gone ms
none_gone ms gone e a m at went = absurd (apart (sym (ap (λ l. has_number l m.instance) e) ∙ went))
  where
    apart : false ≡ true → ⊥
    apart f = cc

pub shown_whole : (ms : List GraphMember) (gone : List ℕ) → gone ≡ [] → shown gone ms ≡ ms
shown_whole ms gone e = ap (λ l. shown l ms) e ∙ shown_none ms

pub rolled_anew : (ms : List GraphMember) (numbers gone : List ℕ) → Rises by_member ms → numbers ≡ map number ms
    → gone ≡ [] → IsRolled ms numbers gone
rolled_anew ms numbers gone rises e g =
    record { left = none_gone ms gone g; there = e ∙ ap (map number) (sym (shown_whole ms gone g)); rises = rises }

-- ---- the result of a call

pub if_taken : {E : Type 0} (P Q : List ℕ → Type 0) → ((touched : List ℕ) → P touched → Q touched)
    → (r : Result (Option (List ℕ)) E) → IfOk r (λ o. IfSome o P) → IfOk r (λ o. IfSome o Q)
if_taken P Q weaker (Ok None) h = tt
if_taken P Q weaker (Ok (Some touched)) h = weaker touched h
if_taken P Q weaker (Err e) h = tt
