-- The life of a server, from its boot to its end.
use Rattle.std.specs.Prelude.{◌≡◌, ℕ, List, [], ◌∷◌, ◌++◌, length, ◌&&◌, not, Bool, true, false, Option, Some, None, Result}
use Rattle.std.specs.declared.alloc.AllocError.{AllocError}
use Rattle.std.specs.declared.time.Duration.{Duration}
use Rattle.smf_script.specs.Agrees.{AgreesSince, Before}
use Rattle.smf_script.specs.Forgets.{AgreesAnew}
use Rattle.smf_edge.specs.Answers.{Seen, Skills}
use Rattle.smf_contract.specs.Begun.{table_of_found}
use Rattle.smf_contract.specs.declared.contract.Holder.TheVariants.{Inherited}
use Rattle.smf_contract.specs.declared.found.Found.{Found}
use Rattle.smf_edge.specs.Starts.{log_with}
use Rattle.smf_model.specs.declared.journal.RepoFault.{RepoFault}
use Rattle.smf_model.specs.Contents.{Holdings}
use Rattle.smf_node.specs.Rounds.{course}
use Rattle.smf_past.specs.Begun.{IsSafeSince}
use Rattle.smf_past.specs.Lived.{continued}
use Rattle.smf_past.specs.Lives.{LeadsTo}
use Rattle.smf_script.specs.Ends.{HasEndedAll}
use Rattle.smf_script.specs.declared.ends.Leftover.{Leftover}
use Rattle.smf_script.specs.declared.fault.ScriptFault.{ScriptFault}
use Rattle.smf_script.specs.FaultTexts.{fault_text}
use Rattle.smf_world.specs.declared.event.Event.TheVariants as events
use Rattle.smf_world.specs.declared.item.Item.{Item}
use Rattle.smf_world.specs.Schedule.{begun_at}
use Rattle.smf_world.specs.Happens.{happens}
use Rattle.smf_world.specs.World.{World, initial_world}
use Rattle.smf_watch.specs.Traffic.{Passed, Closed, Left}
use Rattle.smf_watch.specs.Troubles.{noticed_at_first}
use Rattle.smf_server.specs.Turns.{Between, Failed, IsServed, MayHaveForgotten, RequestFailed, Turn, all_shown, all_told, noting, terms_told, told_anew, trail_of_state}
use Rattle.smf_watch.specs.declared.retries.Retry.{Retry}
use Rattle.smf_watch.specs.declared.terms.Term.{Term}
use Rattle.smf_watch.specs.declared.ask.Onward.{Onward}
use Rattle.smf_watch.specs.declared.ask.Onward.TheVariants.{Goes, Ends, Leaves}

-- ---- turns

-- if node and children agreed at first, they agree at last, whatever was there before
abbrev pub KeepsAgreement : Between → Between → Type 0
KeepsAgreement s t =
    (b : Before) → AgreesSince b s.standing.course.progress.world s.standing.course.seen.ledger
    → AgreesAnew t.standing.course.progress.world t.standing.course.seen.ledger

abbrev pub is_cut : Turn → Bool
is_cut (Failed (RequestFailed fault a) items terms) = true
is_cut _ = false

-- no request was ended by a fault
abbrev pub is_uncut : List Turn → Bool
is_uncut [] = true
is_uncut (turn ∷ before) = not (is_cut turn) && is_uncut before

-- no more was asked, or the most turns were taken
abbrev pub IsOver : ℕ → Onward → ℕ → Option (List Passed) → Option (List Passed) → Type 0
IsOver most Ends count now is = is ≡ log_with (Closed ∷ []) now
IsOver most Leaves count now is = is ≡ log_with (Left ∷ []) now
IsOver most Goes count now is = (count ≡ most) × (is ≡ now)

-- at the ask that is a server's last it is told as at others how contracts are kept, if there is memory for it
abbrev pub HasClosed : Onward → Bool → Between → Between → Type 0
HasClosed Goes tells s t = (tells ≡ false) × (t ≡ s)
HasClosed _ tells s t = t ≡ noting tells s

-- Turns were taken, whatever failed, until no more was asked, or the most that a server takes. What the trail showed at
-- first was told, and then each item that a turn added, once and in their order. Before each turn it was told how contracts
-- are kept, if anything happened since that was told. Node and children still agree, unless a request was ended by a fault.
pub record HasStayed (k : Skills) (clock : Duration → Type 0) (stores : RepoFault → Type 0) (most : ℕ) (how : Onward)
    (was is : Option (List Passed)) (told_was told_is : Option (List Item)) (terms_was terms_is : Option (List (List Term)))
    (s t : Between) : Type 0 where
  pub now : Option (List Passed)
  pub still : Between
  pub served : IsServed k clock stores was now s still
  pub over : IsOver most how (length served.turns) now is
  pub told : told_is ≡ log_with (trail_of_state s ++ all_shown served.turns) told_was
  pub tells : Bool
  pub terms : terms_is ≡ log_with (all_told served.turns ++ terms_told tells still) terms_was
  pub closed : HasClosed how tells still t
  pub agrees : is_uncut served.turns ≡ true → KeepsAgreement s t

-- ---- after a turn

-- after a turn that was taken what is over may be forgotten, and after one that failed its fault is told, if it was not
-- told last. The words of the fault are kept
abbrev pub HasConcluded : Option ScriptFault → Option (List ℕ) → Option (List ℕ) → Option (List Passed)
    → Option (List Passed) → Between → Between → Type 0
HasConcluded None last next was is s t = (next ≡ None) × (is ≡ was) × MayHaveForgotten s t
HasConcluded (Some fault) last next was is s t =
    (next ≡ Some (fault_text fault)) × (is ≡ log_with (told_anew last (Some (fault_text fault))) was) × (t ≡ s)

-- ---- from its begin to its end

-- before the first turn
abbrev pub state_at_first : World → Seen → List Retry → Between
state_at_first w seen retries =
    record {
      standing = record {
        course = course (begun_at w) seen;
        busy = true;
        watched = [];
      };
      looked = 0;
      noticed = noticed_at_first retries;
      noted = None;
    }

-- after the boot of what was held
abbrev pub state_after_boot : Holdings → Seen → Between
state_after_boot h seen = state_at_first (happens (initial_world h) events.Boot) seen []

-- over what was held and the contracts that were found, with the last id that was given, and the instances that are tried
-- again
abbrev pub state_after_find : Holdings → ℕ → List Found → Seen → List Retry → Between
state_after_find h last found seen retries =
    state_at_first (continued h (table_of_found Inherited last found)) seen retries

-- children that were left were asked to end, and it is said whether all have; if the services go on, nothing was asked
abbrev pub EndsOrLeaves : Skills → Onward → Option (Result Leftover AllocError) → Seen → Seen → Type 0
EndsOrLeaves k Leaves left old new = (left ≡ None) × (new ≡ old)
EndsOrLeaves k _ left old new =
    (ended : Result Leftover AllocError) × (left ≡ Some ended) × HasEndedAll k ended old new

-- Turns were taken, and then the children that were left were asked to end, unless the services go on. The value after
-- the last turn stands in the journal. The trail after the last turn is safe, with all that was forgotten before it.
pub record HasLived {J : Type 0} (k : Skills) (clock : Duration → Type 0) (stores : RepoFault → Type 0)
    (stands : J → Holdings → Type 0)
    (most : ℕ) (how : Onward) (journal : J) (was is : Option (List Passed)) (told_was told_is : Option (List Item))
    (terms_was terms_is : Option (List (List Term))) (left : Option (Result Leftover AllocError)) (first : Between)
    (new : Seen) : Type 0 where
  pub last : Between
  pub stayed : HasStayed k clock stores most how was is told_was told_is terms_was terms_is first last
  pub kept : stands journal last.standing.course.progress.world.now
  pub safe : IsSafeSince last.standing.course.progress.world
  pub leads : LeadsTo first.standing.course.progress.world last.standing.course.progress.world
  pub ends : EndsOrLeaves k how left last.standing.course.seen new

-- there was no node, and nothing was done
pub record IsUntouched {J : Type 0} (stands : J → Holdings → Type 0) (h : Holdings) (journal : J)
    (was is : Option (List Passed)) (told_was told_is : Option (List Item))
    (terms_was terms_is : Option (List (List Term))) (old new : Seen) : Type 0 where
  pub kept : stands journal h
  pub passed : is ≡ was
  pub told : told_is ≡ told_was
  pub terms : terms_is ≡ terms_was
  pub left : new ≡ old
