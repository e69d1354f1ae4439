-- The tests of a trail decide what is safe.
use Rattle.std.proofs.Common.{◌≡◌, ℕ, ◌+◌, ◌==◌, ◌&&◌, not, List, [], ◌∷◌, Bool, true, false, refl, subst}
use Rattle.std.specs.Bool.{Decides}
use Rattle.std.proofs.lemmas.Bool.Decides.{Decides-and, Decides-eqb, Decides-like, Decides-not, Decides-or}
use Rattle.std.specs.Prelude.{Option, Some, None}
use Rattle.smf_state.specs.declared.state.State.{State}
use Rattle.smf_state.specs.declared.state.State.TheVariants.{Uninitialized, Disabled, Offline, Online, Degraded, Maintenance}
use Rattle.smf_state.specs.Rows.{same_state}
use Rattle.smf_state.specs.States.{edge}
use Rattle.smf_world.specs.declared.item.Item.{Item}
use Rattle.smf_world.specs.declared.item.Item.TheVariants.{Boot, Committed, Held, Spawned, Emptied}
use Rattle.smf_world.specs.Safe.{IsLiveIn, Last, LiveStart, OneEach, RowFollows, StateFollows, WasCommitted, WasNumbered}
use Rattle.smf_chronicle.specs.Audit.{is_live_in, is_one_each, row_follows, state_follows, was_committed, was_numbered}

-- ---- states

same_is : (a b : State) → same_state a b ≡ true → a ≡ b
same_is Uninitialized Uninitialized e = refl
same_is Disabled Disabled e = refl
same_is Offline Offline e = refl
same_is Online Online e = refl
same_is Degraded Degraded e = refl
same_is Maintenance Maintenance e = refl
same_is _ _ e = cc

same_itself : (a : State) → same_state a a ≡ true
same_itself Uninitialized = refl
same_itself Disabled = refl
same_itself Offline = refl
same_itself Online = refl
same_itself Degraded = refl
same_itself Maintenance = refl

pub state_decides : (a b : State) → Decides (same_state a b) (a ≡ b)
state_decides a b = (same_is a b, λ e. let P : State → Type 0 = λ s. same_state a s ≡ true in subst P e (same_itself a))

pub follow_decides : (booted : Bool) (before after : State)
    → Decides (state_follows booted before after) (StateFollows booted before after)
follow_decides true before after = state_decides after Uninitialized
follow_decides false before after =
    Decides-or (same_state after before) (edge before after) (state_decides after before) (λ e. e, λ e. e)

pub row_decides : (last : Option Last) (number : ℕ) (state : State)
    → Decides (row_follows last number state) (RowFollows last number state)
row_decides None number state = state_decides state Uninitialized
row_decides (Some l) number state =
    Decides-and (number == l.number + 1) (state_follows l.booted l.state state)
    (Decides-eqb number (l.number + 1)) (follow_decides l.booted l.state state)

-- ---- live starts

pub false_decides : Decides false ⊥
false_decides = (λ e. cc, λ z. absurd z)

pub live_decides : (i : ℕ) (ls : List LiveStart) → Decides (is_live_in i ls) (IsLiveIn i ls)
live_decides i [] = false_decides
live_decides i (l ∷ ls) =
    Decides-or (l.instance == i) (is_live_in i ls) (Decides-eqb l.instance i) (live_decides i ls)

pub each_decides : (ls : List LiveStart) → Decides (is_one_each ls) (OneEach ls)
each_decides [] = (λ e. tt, λ t. refl)
each_decides (l ∷ ls) =
    Decides-and (not (is_live_in l.instance ls)) (is_one_each ls)
    (Decides-not (is_live_in l.instance ls) (live_decides l.instance ls)) (each_decides ls)

-- ---- rows

pub numbered_decides : (i number : ℕ) (trail : List Item)
    → Decides (was_numbered i number trail) (WasNumbered i number trail)
numbered_decides i number [] = false_decides
numbered_decides i number (Committed j n s next ∷ trail) =
    Decides-or (j == i && n == number) (was_numbered i number trail)
    (Decides-and (j == i) (n == number) (Decides-eqb j i) (Decides-eqb n number)) (numbered_decides i number trail)
numbered_decides i number (Held name launch j n s ∷ trail) = numbered_decides i number trail
numbered_decides i number (Spawned c j run method revision command ∷ trail) = numbered_decides i number trail
numbered_decides i number (Emptied c ∷ trail) = numbered_decides i number trail
numbered_decides i number (Boot ∷ trail) = numbered_decides i number trail

row_is : (i number : ℕ) (state : State) (j n : ℕ) (s : State)
    → Decides (j == i && n == number && same_state s state) ((j ≡ i) × (n ≡ number) × (s ≡ state))
row_is i number state j n s =
    Decides-like (j == i && n == number && same_state s state) (λ h. (h.0.0, h.0.1, h.1)) (λ h. ((h.0, h.1), h.2))
    (Decides-and (j == i && n == number) (same_state s state)
    (Decides-and (j == i) (n == number) (Decides-eqb j i) (Decides-eqb n number)) (state_decides s state))

pub committed_decides : (i number : ℕ) (state : State) (trail : List Item)
    → Decides (was_committed i number state trail) (WasCommitted i number state trail)
committed_decides i number state [] = false_decides
committed_decides i number state (Committed j n s next ∷ trail) =
    Decides-or (j == i && n == number && same_state s state) (was_committed i number state trail)
    (row_is i number state j n s) (committed_decides i number state trail)
committed_decides i number state (Held name launch j n s ∷ trail) = committed_decides i number state trail
committed_decides i number state (Spawned c j run method revision command ∷ trail) =
    committed_decides i number state trail
committed_decides i number state (Emptied c ∷ trail) = committed_decides i number state trail
committed_decides i number state (Boot ∷ trail) = committed_decides i number state trail
