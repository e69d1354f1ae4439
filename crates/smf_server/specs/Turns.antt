-- The state of a server, turn by turn.
use Rattle.std.specs.Prelude.{◌≡◌, ◌⊎◌, ℕ, zero, suc, nat_lt, nat_eq, ◌||◌, ◌&&◌, not, List, [], ◌∷◌, ◌++◌, length, drop, filter, map, reverse, Bool, true, false, Option, Some, None}
use Rattle.std.specs.Cmp.Lexicographic.{pointwise}
use Rattle.std.specs.declared.time.Duration.{Duration}
use Rattle.smf_script.specs.Agrees.{AgreesSince, Before}
use Rattle.smf_script.specs.Forgets.{HasForgotten as Forgot}
use Rattle.smf_edge.specs.Answers.{Skills, children_state}
use Rattle.smf_edge.specs.Ledgers.{Ledger}
use Rattle.smf_edge.specs.Starts.{log_with}
use Rattle.smf_machine.specs.Runners.{rules_of}
use Rattle.smf_model.specs.declared.journal.RepoFault.{RepoFault}
use Rattle.smf_model.specs.Contents.{Holdings}
use Rattle.smf_node.specs.declared.fault.NodeFault.{NodeFault}
use Rattle.smf_node.specs.declared.fault.NodeFault.TheVariants.{Memory}
use Rattle.smf_node.specs.Partly.{SettleFails}
use Rattle.smf_node.specs.Rounds.{Course, HasSettled, at, course}
use Rattle.smf_script.specs.Agreed.{AgreesOrDroppedSince}
use Rattle.smf_script.specs.ScriptRuns.{HasRun, Stops}
use Rattle.smf_script.specs.declared.fault.ScriptFault.{ScriptFault}
use Rattle.smf_script.specs.declared.fault.ScriptFault.TheVariants.{Node}
use Rattle.smf_script.specs.Script.{first_session}
use Rattle.smf_server.specs.declared.server.Server.{Server}
use Rattle.smf_script.specs.FaultTexts.{fault_text}
use Rattle.smf_server.specs.FaultTexts.{fault_line}
use Rattle.smf_contract.specs.Entries.{Contracts}
use Rattle.smf_watch.specs.Loops.{hasty, lines_of, seen_by}
use Rattle.smf_watch.specs.Remedies.{StopsAtOne, clears_of, marks_of, remedied}
use Rattle.smf_watch.specs.Retries.{any_waits, owed}
use Rattle.smf_watch.specs.Troubles.{Noticed, noticed, noticed_after, retries_marked}
use Rattle.smf_watch.specs.Sizes.{size_of, is_same}
use Rattle.smf_watch.specs.Terms.{is_new, terms_of}
use Rattle.smf_watch.specs.Traffic.{Passed, Asked, Closed, Left, Told, reply_in}
use Rattle.smf_watch.specs.Watched.{HasHeard, HaveTimedOut, StopsHearing, StopsTiming, watched_by}
use Rattle.smf_watch.specs.declared.ask.Onward.{Onward}
use Rattle.smf_watch.specs.declared.ask.Onward.TheVariants.{Goes, Ends, Leaves}
use Rattle.smf_watch.specs.declared.ends.End.{End}
use Rattle.smf_watch.specs.declared.remedies.Remedy.{Remedy}
use Rattle.smf_watch.specs.declared.size.Size.{Size}
use Rattle.smf_watch.specs.declared.terms.Term.{Term}
use Rattle.smf_watch.specs.declared.watch.Due.{Due}
use Rattle.smf_world.specs.declared.item.Item.{Item}
use Rattle.smf_world.specs.declared.schedule.Settled.{Settled}
use Rattle.smf_world.specs.declared.schedule.Settled.TheVariants.{Quiet, Busy}
use Rattle.smf_world.specs.Schedule.{Progress}
use Rattle.smf_world.specs.Reached.{IsLater}
use Rattle.smf_world.specs.World.{World}

-- ---- what stands between turns

-- a node, what is seen of its children, whether more rounds are wanted, and the methods that are watched
pub record Standing : Type 0 where
  pub course : Course
  pub busy : Bool
  pub watched : List Due

-- And with them what was noticed of instances that fail, and how much of the trail was looked at for it. And by what it is
-- seen whether anything happened since it was told how contracts are kept
pub record Between : Type 0 where
  pub standing : Standing
  pub looked : ℕ
  pub noticed : Noticed
  pub noted : Option Size

abbrev pub between : {J K : Type 0} → (K → Ledger) → (K → ℕ) → Server J K → Between
between ledger failures server =
    record {
      standing = record {
        course = course server.node (children_state (ledger server.kids) (failures server.kids));
        busy = server.busy;
        watched = server.watch.dues;
      };
      looked = server.troubles.looked;
      noticed = noticed server.troubles;
      noted = server.noted.size;
    }

-- ---- rounds

-- the most rounds before it is looked what comes next
abbrev pub max_rounds : ℕ
max_rounds = 20

abbrev pub is_busy : Settled → Bool
is_busy Quiet = false
is_busy Busy = true

-- At most so many rounds were made, and more are wanted if their number ended them. Then the clock was read, and the
-- methods that run are watched: one that was watched before keeps its time
pub record HasGone (k : Skills) (clock : Duration → Type 0) (rounds : ℕ) (s t : Standing) : Type 0 where
  pub how : Settled
  pub made : HasSettled (rules_of k) rounds s.course t.course how
  pub left : t.busy ≡ is_busy how
  pub now : Duration
  pub read : clock now
  pub watched : t.watched ≡ watched_by now t.course.progress.world s.watched

-- rounds were made, or nothing was done
abbrev pub GoesIf : Bool → Skills → (Duration → Type 0) → Standing → Standing → Type 0
GoesIf true k clock s t = HasGone k clock max_rounds s t
GoesIf false k clock s t = t ≡ s

-- more rounds are wanted, and what was done came to anything. Else the next round would not either: a kill is owed that is
-- not done yet
abbrev pub wants_more : Standing → Standing → Bool
wants_more s t = t.busy && not (is_same (size_of s.course.progress.world) (size_of t.course.progress.world))

-- one round was made, and more if they are wanted and it came to anything
pub record HasTried (k : Skills) (clock : Duration → Type 0) (s t : Standing) : Type 0 where
  pub one : Standing
  pub first : HasGone k clock 1 s one
  pub more : GoesIf (wants_more s one) k clock one t

-- rounds were made if anything happened; if more were wanted, one at first
abbrev pub GoesBy : Bool → Bool → Skills → (Duration → Type 0) → Standing → Standing → Type 0
GoesBy true busy k clock s t = HasGone k clock max_rounds s t
GoesBy false true k clock s t = HasTried k clock s t
GoesBy false false k clock s t = t ≡ s

-- ---- a tick

-- Those of the watched methods timed out whose time is over by the clock that was read, and rounds were made if children had
-- told anything or there was anything of this, or if more were wanted
pub record HasTimed (k : Skills) (clock : Duration → Type 0) (any : Bool) (s t : Standing) : Type 0 where
  pub now : Duration
  pub read : clock now
  pub timed : Progress
  pub late : Bool
  pub times : HaveTimedOut now s.watched s.course.progress timed late
  pub goes : GoesBy (any || late) s.busy k clock (record s { course = course timed s.course.seen }) t

-- children told what happened, and then methods timed out and rounds were made
pub record HasPassed (k : Skills) (clock : Duration → Type 0) (s t : Standing) : Type 0 where
  pub heard : Course
  pub any : Bool
  pub hears : HasHeard k s.course heard any
  pub times : HasTimed k clock any (record s { course = heard }) t

-- ---- instances that end again and again

-- the trail, the first first
abbrev pub shown_of : World → List Item
shown_of w = reverse w.trail

abbrev pub trail_of_state : Between → List Item
trail_of_state s = shown_of s.standing.course.progress.world

-- what the trail shows more than before
abbrev pub shown_since : Between → Between → List Item
shown_since s t = drop (length (trail_of_state s)) (trail_of_state t)

-- true if the trail shows anything that was not looked at
abbrev pub has_more : Between → Bool
has_more s = nat_lt s.looked (length (trail_of_state s))

-- true if it is to be looked at the trail: it shows anything new, or an instance waits for a retry
abbrev pub wants_look : Between → Bool
wants_look s = has_more s || any_waits s.noticed.retries

abbrev pub held_of : Between → Holdings
held_of s = s.standing.course.progress.world.now

abbrev pub table_of : Between → Contracts
table_of s = s.standing.course.progress.world.table

-- the ends of the last periods, with those of which the trail tells anew
abbrev pub ends_by : Duration → Between → List End
ends_by now s = seen_by (held_of s) now (trail_of_state s) s.looked s.noticed.ends

-- the instances that ended too often
abbrev pub hasty_at : Duration → Between → List ℕ
hasty_at now s = hasty (held_of s) (ends_by now s)

-- the instances that are owed a retry
abbrev pub owed_at : Duration → Between → List ℕ
owed_at now s =
    owed (held_of s) now
    (retries_marked (held_of s) (table_of s) now (hasty_at now s) (drop s.looked (trail_of_state s)) s.noticed)

-- the first are marked, and then the others are cleared
abbrev pub remedies_at : Duration → Between → List Remedy
remedies_at now s = marks_of (hasty_at now s) ++ clears_of (owed_at now s)

-- what is noticed then
abbrev pub noticed_at : Duration → Between → Noticed
noticed_at now s = noticed_after (held_of s) (table_of s) now (hasty_at now s) (trail_of_state s) s.looked s.noticed

-- The clock was read. The instances that ended too often were marked for maintenance, each once, and exactly those that were
-- owed a retry were cleared. Of the first this is told, and their ends are forgotten. Rounds are wanted then
pub record HasLooked (clock : Duration → Type 0) (s t : Between) (lines : List (List ℕ)) : Type 0 where
  pub now : Duration
  pub read : clock now
  pub done : t.standing.course ≡ at s.standing.course (remedied (remedies_at now s) s.standing.course.progress)
  pub busy : t.standing.busy ≡ (s.standing.busy || nat_lt 0 (length (remedies_at now s)))
  pub looked : t.looked ≡ length (trail_of_state s)
  pub kept : t.noticed ≡ noticed_at now s
  pub told : lines ≡ lines_of (held_of s) (hasty_at now s)
  pub watched : t.standing.watched ≡ s.standing.watched
  pub noted : t.noted ≡ s.noted

-- that is done if it is wanted, else nothing
abbrev pub LooksIf : Bool → (Duration → Type 0) → Between → Between → List (List ℕ) → Type 0
LooksIf true clock s t lines = HasLooked clock s t lines
LooksIf false clock s t lines = (t ≡ s) × (lines ≡ [])

-- time has passed: what happened was done, and then the trail was looked at
pub record IsTick (k : Skills) (clock : Duration → Type 0) (s t : Between) (lines : List (List ℕ)) : Type 0 where
  pub gone : Standing
  pub passes : HasPassed k clock s.standing gone
  pub looks : LooksIf (wants_look (record s { standing = gone })) clock (record s { standing = gone }) t lines

-- ---- a request

-- the reply to a request, whether its text could be written, and what the repository held when it went out
pub record Answer : Type 0 where
  pub request : List ℕ
  pub text : List ℕ
  pub status : ℕ
  pub written : Bool
  pub held : Holdings

-- the lines of a request were done, and this was said to them when the repository held what they had come to
abbrev pub HasAnswered : Skills → Answer → Course → Course → Type 0
HasAnswered k a c d =
    HasRun k (first_session c.progress) (Some a.request) c.seen d.seen d.progress (Some []) (Some a.text) a.status
    × (a.held ≡ d.progress.world.now)

-- and then rounds were made, at least if anything came of them
pub record IsAnswer (k : Skills) (clock : Duration → Type 0) (a : Answer) (s t : Between) : Type 0 where
  pub done : Course
  pub ran : HasAnswered k a s.standing.course done
  pub wanted : Bool
  pub needed : is_same (size_of s.standing.course.progress.world) (size_of done.progress.world) ≡ false → wanted ≡ true
  pub goes : GoesIf wanted k clock (record s.standing { course = done }) t.standing
  pub looked : t.looked ≡ s.looked
  pub noticed : t.noticed ≡ s.noticed
  pub noted : t.noted ≡ s.noted

-- ---- turns that are taken

-- a turn is a tick, which tells these lines, or answers a request
pub data Doing : Type 0 where
  Ticked : List (List ℕ) → Doing
  Answered : Answer → Doing

abbrev pub Step : Skills → (Duration → Type 0) → Doing → Between → Between → Type 0
Step k clock (Ticked lines) s t = IsTick k clock s t lines
Step k clock (Answered a) s t = IsAnswer k clock a s t

-- a request came in, and its reply went out
abbrev pub replied : Answer → List Passed
replied a = Asked a.request ∷ reply_in a.written a.text a.status a.held ∷ []

abbrev pub passed_in : Doing → List Passed
passed_in (Ticked lines) = map Told lines
passed_in (Answered a) = replied a

-- a turn was taken: one request came in and its reply went out, or lines were told
pub record IsTurn (k : Skills) (clock : Duration → Type 0) (was is : Option (List Passed))
    (s t : Between) : Type 0 where
  pub one : Doing
  pub step : Step k clock one s t
  pub passed : is ≡ log_with (passed_in one) was

-- ---- turns that fail

-- a turn failed at a tick; a request was ended by a fault, and got this reply; or it was answered, and then the node
-- failed
pub data Failure : Type 0 where
  TickFailed : NodeFault → Failure
  RequestFailed : ScriptFault → Answer → Failure
  RoundsFailed : NodeFault → Answer → Failure

abbrev pub fault_of : Failure → ScriptFault
fault_of (TickFailed e) = Node e
fault_of (RequestFailed fault a) = fault
fault_of (RoundsFailed e a) = Node e

-- nothing passes at a tick that fails
abbrev pub passed_at : Failure → List Passed
passed_at (TickFailed e) = []
passed_at (RequestFailed fault a) = replied a
passed_at (RoundsFailed e a) = replied a

-- the words of a fault after a text, or alone if there was no memory for both
abbrev pub SaysFault : ScriptFault → List ℕ → List ℕ → Type 0
SaysFault fault text said = (said ≡ text ++ fault_line fault) ⊎ (said ≡ fault_text fault)

-- a reply went out that has the words of a fault and the status 3, when the repository held this
pub record IsToldOf (fault : ScriptFault) (text : List ℕ) (held : Holdings) (was is : Option (List Passed))
    : Type 0 where
  pub said : List ℕ
  pub says : SaysFault fault text said
  pub written : Bool
  pub passed : is ≡ log_with (reply_in written said 3 held ∷ []) was

-- A request was ended by a fault. Its reply has the words of the fault after what its lines wrote, and the status 3, and
-- went out when the repository held what they had come to
pub record IsCut (k : Skills) (stores : RepoFault → Type 0) (fault : ScriptFault) (a : Answer) (s t : Course) : Type 0 where
  pub text : List ℕ
  pub stops : Stops k stores fault (first_session s.progress) (Some a.request) s.seen t.seen t.progress (Some [])
      (Some text)
  pub said : SaysFault fault text a.text
  pub status : a.status ≡ 3
  pub stood : a.held ≡ t.progress.world.now

-- ---- why a turn fails, and where

-- the rounds failed, by their own reason; or memory ran out after them, before it was seen which methods run
abbrev pub GoFails : Skills → (RepoFault → Type 0) → ℕ → Course → Course → NodeFault → Type 0
GoFails k stores rounds c d e =
    SettleFails (rules_of k) stores rounds c d e
    ⊎ ((how : Settled) × HasSettled (rules_of k) rounds c d how × (e ≡ Memory))

-- the first round failed, or those after it
abbrev pub TryFails : Skills → (Duration → Type 0) → (RepoFault → Type 0) → Standing → Course → NodeFault → Type 0
TryFails k clock stores s d e =
    GoFails k stores 1 s.course d e
    ⊎ ((one : Standing) × HasGone k clock 1 s one × (wants_more s one ≡ true)
    × GoFails k stores max_rounds one.course d e)

abbrev pub GoingFails : Bool → Bool → Skills → (Duration → Type 0) → (RepoFault → Type 0) → Standing → Course
    → NodeFault → Type 0
GoingFails true busy k clock stores s d e = GoFails k stores max_rounds s.course d e
GoingFails false true k clock stores s d e = TryFails k clock stores s d e
GoingFails false false k clock stores s d e = ⊥

-- a method that was due did not time out, or the rounds after that failed
abbrev pub TimingFails : Skills → (Duration → Type 0) → (RepoFault → Type 0) → Bool → Standing → Course → NodeFault
    → Type 0
TimingFails k clock stores any s d e =
    (now : Duration) × clock now
    × ((StopsTiming stores now s.watched s.course.progress d.progress e × (d.seen ≡ s.course.seen))
    ⊎ ((timed : Progress) × (late : Bool) × HaveTimedOut now s.watched s.course.progress timed late
    × GoingFails (any || late) s.busy k clock stores (record s { course = course timed s.course.seen }) d e))

-- memory ran out while children told what happened, or it failed after that
abbrev pub PassFails : Skills → (Duration → Type 0) → (RepoFault → Type 0) → Standing → Course → NodeFault → Type 0
PassFails k clock stores s d e =
    StopsHearing k s.course d e
    ⊎ ((heard : Course) × (any : Bool) × HasHeard k s.course heard any
    × TimingFails k clock stores any (record s { course = heard }) d e)

-- memory ran out at the look at the trail, or an instance could not be marked or cleared
abbrev pub LookFails : (Duration → Type 0) → (RepoFault → Type 0) → Between → Course → NodeFault → Type 0
LookFails clock stores s d e =
    ((e ≡ Memory) × (d ≡ s.standing.course))
    ⊎ ((now : Duration) × clock now
    × StopsAtOne stores (remedies_at now s) s.standing.course.progress d.progress e
    × (d.seen ≡ s.standing.course.seen))

-- time did not pass, or then the trail was not looked at
abbrev pub TickFails : Skills → (Duration → Type 0) → (RepoFault → Type 0) → Between → Course → NodeFault → Type 0
TickFails k clock stores s d e =
    PassFails k clock stores s.standing d e
    ⊎ ((gone : Standing) × HasPassed k clock s.standing gone
    × LookFails clock stores (record s { standing = gone }) d e)

-- there was no memory for the turn, and nothing was done
abbrev pub IsPassedOver : Between → Course → NodeFault → Type 0
IsPassedOver s d e = (e ≡ Memory) × (d ≡ s.standing.course)

-- so often it was looked meanwhile which methods run, by the clock: one that was watched before keeps its time
abbrev pub Watches : (Duration → Type 0) → ℕ → World → World → List Due → List Due → Type 0
Watches clock zero w v old new = IsLater w v × (new ≡ old)
Watches clock (suc n) w v old new =
    (mid : World) × (now : Duration) × IsLater w mid × clock now × Watches clock n mid v (watched_by now mid old) new

abbrev pub StillWatches : (Duration → Type 0) → Standing → Standing → Type 0
StillWatches clock s t =
    (times : ℕ) × Watches clock times s.course.progress.world t.course.progress.world s.watched t.watched

-- however far a turn came, events lead there, and what was noticed is kept for the next turn
pub record HasComeOn (clock : Duration → Type 0) (s t : Between) : Type 0 where
  pub later : IsLater s.standing.course.progress.world t.standing.course.progress.world
  pub watches : StillWatches clock s.standing t.standing
  pub looked : t.looked ≡ s.looked
  pub noticed : t.noticed ≡ s.noticed
  pub noted : t.noted ≡ s.noted

-- if node and children agreed, they agree
abbrev pub StillAgrees : Between → Between → Type 0
StillAgrees s t =
    (b : Before) → AgreesSince b s.standing.course.progress.world s.standing.course.seen.ledger
    → AgreesSince b t.standing.course.progress.world t.standing.course.seen.ledger

-- or children have dropped all that they had, for a boot that failed then
abbrev pub AgreesOrDrops : Between → Between → Type 0
AgreesOrDrops s t =
    (b : Before) → AgreesSince b s.standing.course.progress.world s.standing.course.seen.ledger
    → AgreesOrDroppedSince b t.standing.course.progress.world t.standing.course.seen.ledger

abbrev pub Fails : Skills → (Duration → Type 0) → (RepoFault → Type 0) → Failure → Between → Between → Type 0
Fails k clock stores (TickFailed e) s t =
    (TickFails k clock stores s t.standing.course e ⊎ IsPassedOver s t.standing.course e)
    × HasComeOn clock s t × StillAgrees s t
Fails k clock stores (RequestFailed fault a) s t =
    IsCut k stores fault a s.standing.course t.standing.course × HasComeOn clock s t × AgreesOrDrops s t
Fails k clock stores (RoundsFailed e a) s t =
    ((done : Course) × HasAnswered k a s.standing.course done
    × GoFails k stores max_rounds done t.standing.course e)
    × HasComeOn clock s t × StillAgrees s t

-- a turn failed with this fault
pub record IsFailed (k : Skills) (clock : Duration → Type 0) (stores : RepoFault → Type 0) (fault : ScriptFault)
    (was is : Option (List Passed)) (s t : Between) : Type 0 where
  pub how : Failure
  pub named : fault ≡ fault_of how
  pub fails : Fails k clock stores how s t
  pub passed : is ≡ log_with (passed_at how) was

-- ---- a turn

-- a turn was taken; one failed, and rounds are wanted; or no more was asked, and nothing was done
abbrev pub HasTurned : Skills → (Duration → Type 0) → (RepoFault → Type 0) → Onward → Option ScriptFault
    → Option (List Passed) → Option (List Passed) → Between → Between → Type 0
HasTurned k clock stores Goes None was is s t = IsTurn k clock was is s t
HasTurned k clock stores Goes (Some fault) was is s t =
    IsFailed k clock stores fault was is s t × (t.standing.busy ≡ true)
HasTurned k clock stores Ends fault was is s t = (t ≡ s) × (is ≡ log_with (Closed ∷ []) was)
HasTurned k clock stores Leaves fault was is s t = (t ≡ s) × (is ≡ log_with (Left ∷ []) was)

-- ---- how contracts are kept

-- it is told how all are ended, if anything happened since that was told
abbrev pub lists_if : Bool → List Term → List (List Term)
lists_if true terms = terms ∷ []
lists_if false terms = []

abbrev pub terms_told : Bool → Between → List (List Term)
terms_told false s = []
terms_told true s =
    lists_if (is_new s.noted (size_of s.standing.course.progress.world)) (terms_of s.standing.course.progress.world.now)

abbrev pub noted_by : Bool → Between → Option Size
noted_by false s = s.noted
noted_by true s = Some (size_of s.standing.course.progress.world)

abbrev pub noting : Bool → Between → Between
noting tells s = record s { noted = noted_by tells s }

-- First it was told how contracts are kept, and then the turn was taken. If memory ran out before that could
-- be told, nothing is done of the turn but to say so
pub record HasTakenTurn (k : Skills) (clock : Duration → Type 0) (stores : RepoFault → Type 0) (onward : Onward)
    (fault : Option ScriptFault) (was is : Option (List Passed)) (terms_was terms_is : Option (List (List Term)))
    (s t : Between) : Type 0 where
  pub tells : Bool
  pub told : terms_is ≡ log_with (terms_told tells s) terms_was
  pub turned : HasTurned k clock stores onward fault was is (noting tells s) t
  pub over : tells ≡ false → fault ≡ Some (Node Memory)

-- ---- what goes between turns

-- nothing was under way, and the whole trail was looked at. The node and the children forgot what was told and what is
-- over
pub record HasForgotten (s t : Between) : Type 0 where
  pub idle : s.standing.busy ≡ false
  pub looked : has_more s ≡ false
  pub both : Forgot s.standing.course.progress t.standing.course.progress s.standing.course.seen.ledger
      t.standing.course.seen.ledger
  pub failures : t.standing.course.seen.failures ≡ s.standing.course.seen.failures
  pub busy : t.standing.busy ≡ s.standing.busy
  pub watched : t.standing.watched ≡ s.standing.watched
  pub anew : t.looked ≡ 0
  pub noticed : t.noticed ≡ s.noticed
  pub noted : t.noted ≡ s.noted

-- one more round is wanted
abbrev pub wanting : Between → Between
wanting s = record s { standing = record s.standing { busy = true } }

-- that was done, or nothing; or one more round is wanted, by which the graph sees what is held
abbrev pub MayHaveForgotten : Between → Between → Type 0
MayHaveForgotten s t = (t ≡ s) ⊎ ((t ≡ wanting s) ⊎ HasForgotten s t)

-- ---- turn after turn

-- with the items that it added to the trail, and what was told before it of how contracts are kept
pub data Turn : Type 0 where
  Taken : Doing → List Item → List (List Term) → Turn
  Failed : Failure → List Item → List (List Term) → Turn

-- the words of the fault, if a turn failed
abbrev pub words_of : Turn → Option (List ℕ)
words_of (Taken one items terms) = None
words_of (Failed how items terms) = Some (fault_text (fault_of how))

-- and of the last of these turns, which comes first
abbrev pub last_words : List Turn → Option (List ℕ)
last_words [] = None
last_words (turn ∷ before) = words_of turn

abbrev pub is_told : Option (List ℕ) → List ℕ → Bool
is_told None words = false
is_told (Some last) words = pointwise nat_eq last words

abbrev pub told_if : Bool → List ℕ → List Passed
told_if true words = Told words ∷ []
told_if false words = []

-- the words of a fault are told, unless the turn before failed with the same
abbrev pub told_anew : Option (List ℕ) → Option (List ℕ) → List Passed
told_anew last None = []
told_anew last (Some words) = told_if (not (is_told last words)) words

-- memory ran out before it could be told how contracts are kept: so the turn failed
abbrev pub MayTell : Bool → Failure → Type 0
MayTell true how = Unit {0}
MayTell false how = fault_of how ≡ Node Memory

-- after a turn that was taken what is over may be forgotten; after one that failed rounds are wanted
abbrev pub TurnStep : Skills → (Duration → Type 0) → (RepoFault → Type 0) → Turn → Between → Between → Type 0
TurnStep k clock stores (Taken one items terms) s t =
    (mid : Between) × Step k clock one (noting true s) mid × (items ≡ shown_since s mid) × (terms ≡ terms_told true s)
    × MayHaveForgotten mid t
TurnStep k clock stores (Failed how items terms) s t =
    (tells : Bool) × MayTell tells how × Fails k clock stores how (noting tells s) t × (items ≡ shown_since s t)
    × (terms ≡ terms_told tells s) × (t.standing.busy ≡ true)

-- turns, the last first, each on what all before it left
abbrev pub Steps : Skills → (Duration → Type 0) → (RepoFault → Type 0) → List Turn → Between → Between → Type 0
Steps k clock stores [] s t = t ≡ s
Steps k clock stores (turn ∷ before) s t =
    (mid : Between) × Steps k clock stores before s mid × TurnStep k clock stores turn mid t

abbrev pub passed_by : Turn → List Passed
passed_by (Taken one items terms) = passed_in one
passed_by (Failed how items terms) = passed_at how

abbrev pub all_passed : List Turn → List Passed
all_passed [] = []
all_passed (turn ∷ before) =
    all_passed before ++ (passed_by turn ++ told_anew (last_words before) (words_of turn))

abbrev pub shown_by : Turn → List Item
shown_by (Taken one items terms) = items
shown_by (Failed how items terms) = items

-- all that they added to the trail, the first first
abbrev pub all_shown : List Turn → List Item
all_shown [] = []
all_shown (turn ∷ before) = all_shown before ++ shown_by turn

abbrev pub told_by : Turn → List (List Term)
told_by (Taken one items terms) = terms
told_by (Failed how items terms) = terms

-- all that was told of how contracts are kept
abbrev pub all_told : List Turn → List (List Term)
all_told [] = []
all_told (turn ∷ before) = all_told before ++ told_by turn

-- requests came in and were replied to in their order, each done on what all turns before it left; a fault was told once
pub record IsServed (k : Skills) (clock : Duration → Type 0) (stores : RepoFault → Type 0) (was is : Option (List Passed))
    (s t : Between) : Type 0 where
  pub turns : List Turn
  pub steps : Steps k clock stores turns s t
  pub passed : is ≡ log_with (all_passed turns) was

-- that is so before the first turn, and each turn keeps it so: one that is taken, and one that fails
abbrev pub TurnsFollow : Skills → (Duration → Type 0) → (RepoFault → Type 0) → Type 0
TurnsFollow k clock stores =
    (was now is : Option (List Passed)) (s mid t : Between) (fault : ScriptFault) (tells : Bool)
    → IsServed k clock stores was was s s
    × (IsServed k clock stores was now s mid → IsTurn k clock now is (noting true mid) t
    → IsServed k clock stores was is s t)
    × ((served : IsServed k clock stores was now s mid)
    → (failed : IsFailed k clock stores fault now is (noting tells mid) t) → MayTell tells failed.how
    → t.standing.busy ≡ true
    → IsServed k clock stores was
    (log_with (told_anew (last_words served.turns) (Some (fault_text fault))) is) s t)
