-- The turn of a restarter for one instance, and the answer to what it asks for, leave every other instance at rest that was.
use Rattle.std.proofs.Common.{◌≡◌, ◌==◌, ℕ, List, [], ◌∷◌, Bool, true, false, cond, not, find, Option, Some, None, Result, Ok, Err, if◌then◌else◌, refl, sym, ap, subst, ◌∙◌}
use Rattle.std.specs.Prelude.{◌+◌, ◌&&◌, is_none, is_some, nat_lt}
use Rattle.std.specs.Ordering.{is_eq, nat_cmp}
use Rattle.std.specs.declared.cmp.Ordering.{Ordering}
use Rattle.std.specs.declared.cmp.Ordering.TheVariants.{Less, Equal, Greater}
use Rattle.smf_fmri.specs.ByKey.{Rises, amend, has_key, lookup, list_with_item, put_by}
use Rattle.smf_fmri.proofs.Lookups.{equal_from_test, lookup_amend, lookup_put, same_key, with_answer_other}
use Rattle.smf_fmri.proofs.Places.{equal_first, none_above}
use Rattle.smf_fmri.proofs.KeyOrder.{rises_amend, rises_put}
use Rattle.smf_fmri.proofs.SameLists.{found_key}
use Rattle.smf_contract.specs.declared.cookie.CookieFault.{CookieFault}
use Rattle.smf_contract.specs.Cookies.{bits_of_cookie}
use Rattle.smf_method.specs.declared.command.Builtin.{Builtin}
use Rattle.smf_method.specs.declared.command.Builtin.TheVariants as builtins
use Rattle.smf_method.specs.Commands.{builtin}
use Rattle.smf_state.specs.declared.row.Row.{Row}
use Rattle.smf_state.specs.declared.state.Duration.{Duration}
use Rattle.smf_state.specs.declared.state.Duration.TheVariants.{Contract, Transient, Child}
use Rattle.smf_state.specs.declared.step.Step.{Step}
use Rattle.smf_state.specs.Rows.{is_steady}
use Rattle.smf_restarter.specs.declared.known.After.{After}
use Rattle.smf_restarter.specs.declared.known.After.TheVariants as afters
use Rattle.smf_restarter.specs.declared.known.Drain.{Drain}
use Rattle.smf_restarter.specs.declared.known.Drain.TheVariants as drains
use Rattle.smf_restarter.specs.declared.known.Ending.{Ending}
use Rattle.smf_restarter.specs.declared.known.KnownInstance.{KnownInstance}
use Rattle.smf_restarter.specs.declared.known.KnownRun.{KnownRun}
use Rattle.smf_restarter.specs.declared.known.Owed.{Owed}
use Rattle.smf_restarter.specs.declared.known.Phase.{Phase}
use Rattle.smf_restarter.specs.declared.known.Phase.TheVariants.{Idle, Waiting, Owes, Running, Ending as Ends}
use Rattle.smf_restarter.specs.declared.known.RunKey.{RunKey}
use Rattle.smf_restarter.specs.declared.known.Stage.{Stage}
use Rattle.smf_restarter.specs.declared.known.Stage.TheVariants.{Joining, Listing, Up}
use Rattle.smf_restarter.specs.declared.reply.Answer.{Answer}
use Rattle.smf_restarter.specs.declared.reply.Answer.TheVariants as answers
use Rattle.smf_restarter.specs.declared.reply.Call.{Call}
use Rattle.smf_restarter.specs.declared.reply.Call.TheVariants as calls
use Rattle.smf_restarter.specs.declared.reply.Course.{Course}
use Rattle.smf_restarter.specs.declared.reply.Reply.{Reply}
use Rattle.smf_restarter.specs.Answers.{adopted_run, change_on_answer, answered_in, answered_known, answered_owed, is_of_contract}
use Rattle.smf_restarter.specs.Changes.{knowledge_after, nothing, change_of_run, on_course, change_of_instance, change_of_course, no_change}
use Rattle.smf_restarter.specs.Knowledge.{Knowledge, by_instance, by_run, known_instance, run_cmp}
use Rattle.smf_restarter.specs.Left.{IsAtRest, IsNoList, LeavesOthers}
use Rattle.smf_restarter.specs.Orders.{greatest_serial, greatest_word, proposal, reply_with_proposal, proposing_if, waiting_instance}
use Rattle.smf_restarter.specs.Runs.{is_orphan, known_run, orphan}
use Rattle.smf_restarter.specs.Ticks.{adopting_or, begun_by, built_in, drain_call, ending_by, first_call, kill_of, note_bits, note_due, noted_by, rests, rests_in, spawning_by, reply_to_tick, ticked_in, ticked_known, ticked_up}
use Rattle.smf_restarter.specs.Watched.{among}
use Rattle.smf_restarter.proofs.Judgments.{other_rests}
use Rattle.smf_restarter.proofs.IdleTicks.{both, none_if, rested}
use Rattle.smf_restarter.proofs.RestlessList.{same_rests}

-- ---- numbers

apart : (a n m : ℕ) → a ≡ n → (n ≡ m → ⊥) → is_eq (nat_cmp a m) ≡ false
apart a n m same other = by (is_eq (nat_cmp a m)) refl
  where
    by : (b : Bool) → is_eq (nat_cmp a m) ≡ b → is_eq (nat_cmp a m) ≡ false
    by true e = absurd (other (sym same ∙ by_instance.exact a m (equal_from_test (nat_cmp a m) e)))
    by false e = e

-- ---- a change whose instances and runs leave another as it is

left_by : (k l : Knowledge) (m : ℕ) → known_instance l m ≡ known_instance k m
    → ((i : KnownInstance) → i.instance ≡ m → rests (among k.runs) i ≡ true → rests (among l.runs) i ≡ true)
    → IsAtRest k m → IsAtRest l m
left_by k l m same step h i e =
    sym (same_rests l i) ∙ step i (found_key by_instance m l.instances i e) (same_rests k i ∙ h i (sym same ∙ e))

still : (rs : List KnownRun) (m : ℕ) (i : KnownInstance) → i.instance ≡ m → rests (among rs) i ≡ true
    → rests (among rs) i ≡ true
still rs m i e h = h

left_none : (k : Knowledge) (n : ℕ) → LeavesOthers k n no_change
unfolding knowledge_after
left_none k n m other ordered h = (ordered, h)

left_put : (k : Knowledge) (n s : ℕ) (j : KnownInstance) → j.instance ≡ n
    → LeavesOthers k n (record (change_of_instance j) { serial = Some s })
unfolding knowledge_after
left_put k n s j own m other ordered h = (
  (rises_put by_instance j k.instances ordered.0, ordered.1),
  left_by k (knowledge_after k (record (change_of_instance j) { serial = Some s })) m
      (lookup_put by_instance j k.instances m
      ∙ with_answer_other by_instance (lookup by_instance k.instances) j.instance (Some j) m
      (apart j.instance n m own other))
      (still k.runs m) h,
)

turned_same : (k : Knowledge) (a n m : ℕ) (c : Course) → a ≡ n → (n ≡ m → ⊥)
    → lookup by_instance (amend by_instance a (on_course c) k.instances) m ≡ lookup by_instance k.instances m
turned_same k a n m c own other =
    lookup_amend by_instance a (on_course c) k.instances m (λ i. refl)
    ∙ with_answer_other by_instance (lookup by_instance k.instances) a _ m (apart a n m own other)

left_turn : (k : Knowledge) (n a : ℕ) (c : Course) → a ≡ n → LeavesOthers k n (change_of_course a c)
unfolding knowledge_after
left_turn k n a c own m other ordered h = (
  (rises_amend by_instance a (on_course c) k.instances (λ i. refl) ordered.0, ordered.1),
  left_by k (knowledge_after k (change_of_course a c)) m (turned_same k a n m c own other) (still k.runs m) h,
)

run_left : (r : KnownRun) (rs : List KnownRun) (n m : ℕ) → r.key.instance ≡ n → (n ≡ m → ⊥) → (i : KnownInstance)
    → i.instance ≡ m → rests (among rs) i ≡ true → rests (among (list_with_item by_run r rs)) i ≡ true
run_left r rs n m own other i at h =
    other_rests r rs i
    (subst (λ (x : ℕ). is_eq (nat_cmp r.key.instance x) ≡ false) (sym at) (apart r.key.instance n m own other)) ∙ h

left_begun : (k : Knowledge) (n a : ℕ) (c : Course) (r : KnownRun) → a ≡ n → r.key.instance ≡ n
    → LeavesOthers k n (record (change_of_course a c) { run = Some r })
unfolding knowledge_after
left_begun k n a c r own own_run m other ordered h = (
  (rises_amend by_instance a (on_course c) k.instances (λ i. refl) ordered.0, rises_put by_run r k.runs ordered.1),
  left_by k (knowledge_after k (record (change_of_course a c) { run = Some r })) m (turned_same k a n m c own other)
      (run_left r k.runs n m own_run other) h,
)

-- ---- a run that is held from now on, of whatever instance

abbrev held : KnownRun → KnownRun
held r = record r { held = true }

split_none : {X : Type 0} (b : Bool) (x : X) (o : Option X) → cond b (Some x) o ≡ None → (b ≡ false) × (o ≡ None)
split_none true x o e = absurd cc
split_none false x o e = (refl, e)

passed : (n : ℕ) (r : KnownRun) (rs : List KnownRun) → is_orphan n r ≡ false → find (is_orphan n) rs ≡ None
    → find (is_orphan n) (r ∷ rs) ≡ None
passed n r rs e h = rw e h

no_orphan_put : (n : ℕ) (x : KnownRun) (rs : List KnownRun) → is_orphan n x ≡ false → find (is_orphan n) rs ≡ None
    → find (is_orphan n) (list_with_item by_run x rs) ≡ None
no_orphan_put n x [] e h = passed n x [] e refl
no_orphan_put n x (s ∷ ss) e h =
    let two = split_none (is_orphan n s) s (find (is_orphan n) ss) h in
    by (run_cmp s.key x.key) two.0 two.1 (no_orphan_put n x ss e two.1)
  where
    by : (o : Ordering) → is_orphan n s ≡ false → find (is_orphan n) ss ≡ None
        → find (is_orphan n) (list_with_item by_run x ss) ≡ None
        → find (is_orphan n) (put_by o x s ss (list_with_item by_run x ss)) ≡ None
    by Less f g rest = passed n s (list_with_item by_run x ss) f rest
    by Equal f g rest = passed n x ss e g
    by Greater f g rest = passed n x (s ∷ ss) e (passed n s ss f g)

and_false : (b : Bool) → (b && false) ≡ false
and_false true = refl
and_false false = refl

held_no_orphan : (n : ℕ) (r : KnownRun) → is_orphan n (held r) ≡ false
held_no_orphan n r = and_false ((r.key.instance == n) && not r.empty)

found_itself : (p : KnownRun → Bool) (rs : List KnownRun) (r : KnownRun) → Rises by_run rs → find p rs ≡ Some r
    → lookup by_run rs r.key ≡ Some r
found_itself p [] r rises e = absurd cc
found_itself p (s ∷ ss) r rises e = by (p s) e (found_itself p ss r rises.1)
  where
    first : (b : Bool) → has_key by_run r.key s ≡ b → lookup by_run ss r.key ≡ Some r
        → cond b (Some s) (lookup by_run ss r.key) ≡ Some r
    first true f g =
        let none : lookup by_run ss r.key ≡ None =
        none_above by_run r.key ss (equal_first by_run s.key r.key ss (equal_from_test _ f) rises.0) rises.1 in
        absurd cc
    first false f g = g

    by : (b : Bool) → cond b (Some s) (find p ss) ≡ Some r → (find p ss ≡ Some r → lookup by_run ss r.key ≡ Some r)
        → lookup by_run (s ∷ ss) r.key ≡ Some r
    by true f rest =
        let same : s ≡ r = cc in
        let here : lookup by_run (s ∷ ss) s.key ≡ Some s = rw (same_key by_run s.key) refl in
        subst (λ (x : KnownRun). lookup by_run (s ∷ ss) x.key ≡ Some x) same here
    by false f rest = first (has_key by_run r.key s) refl (rest f)

same_bits : (d : Duration) (r : KnownRun) → note_bits d (Some (held r)) ≡ note_bits d (Some r)
same_bits Contract r = refl
same_bits Transient r = refl
same_bits Child r = refl

same_note : (row : Row) (r : KnownRun) → note_due row (Some (held r)) ≡ note_due row (Some r)
same_note row r =
    ap (λ (o : Option ℕ). if is_steady row && is_some row.live then o else None) (same_bits row.duration r)

held_run : (rs : List KnownRun) (r : KnownRun) → lookup by_run rs r.key ≡ Some r
    → (row : Row) (n : ℕ) (run : Option ℕ)
    → note_due row (known_run (among (list_with_item by_run (held r) rs)) n run)
    ≡ note_due row (known_run (among rs) n run)
held_run rs r there row n None = refl
held_run rs r there row n (Some run) =
    ap (λ (o : Option KnownRun). note_due row o) (lookup_put by_run (held r) rs (record { instance = n; run = run }))
    ∙ by (is_eq (run_cmp r.key (record { instance = n; run = run }))) refl
  where
    by : (b : Bool) → is_eq (run_cmp r.key (record { instance = n; run = run })) ≡ b
        → note_due row (if b then Some (held r) else lookup by_run rs (record { instance = n; run = run }))
        ≡ note_due row (lookup by_run rs (record { instance = n; run = run }))
    by true e =
        same_note row r
        ∙ ap (λ (o : Option KnownRun). note_due row o)
        (sym there ∙ ap (λ (key : RunKey). lookup by_run rs key)
        (by_run.exact r.key (record { instance = n; run = run }) (equal_from_test _ e)))
    by false e = refl

adopted_rests : (rs : List KnownRun) (r : KnownRun) → lookup by_run rs r.key ≡ Some r → (i : KnownInstance)
    → rests (among rs) i ≡ true → rests (among (list_with_item by_run (held r) rs)) i ≡ true
adopted_rests rs r there i h = by i.phase h
  where
    by : (p : Phase) → rests_in (among rs) i p ≡ true → rests_in (among (list_with_item by_run (held r) rs)) i p ≡ true
    by Idle e =
        let two = both (is_none (orphan (among rs) i.instance))
        (is_none (note_due i.row (known_run (among rs) i.instance i.row.live))) e in
        rw (
          no_orphan_put i.instance (held r) rs (held_no_orphan i.instance r)
              (none_if (orphan (among rs) i.instance) two.0),
          held_run rs r there i.row i.instance i.row.live,
        ) two.1
    by (Running m) e = refl
    by (Waiting p after) e = absurd cc
    by (Owes o) e = absurd cc
    by (Ends x) e = absurd cc

left_adopted : (k : Knowledge) (n : ℕ) (o : Option KnownRun) (p : KnownRun → Bool) → find p k.runs ≡ o
    → LeavesOthers k n (adopted_run o)
unfolding knowledge_after
left_adopted k n None p e m other ordered h = left_none k n m other ordered h
left_adopted k n (Some r) p e m other ordered h = (
  (ordered.0, rises_put by_run (held r) k.runs ordered.1),
  left_by k (knowledge_after k (change_of_run (held r))) m refl
      (λ i at g. adopted_rests k.runs r (found_itself p k.runs r ordered.1 e) i g) h,
)

-- ---- what a tick changes and asks for

abbrev LeavesReply : Knowledge → ℕ → Reply → Type 0
LeavesReply k n r = LeavesOthers k n r.change × IsNoList r.call

reply_none : (k : Knowledge) (n : ℕ) → LeavesReply k n nothing
reply_none k n = (left_none k n, tt)

reply_proposing : (k : Knowledge) (n : ℕ) (i : KnownInstance) (step : Step) (after : After) → i.instance ≡ n
    → LeavesReply k n (reply_with_proposal k i step after [])
reply_proposing k n i step after own = by (nat_lt k.serial greatest_serial && nat_lt i.row.number greatest_word)
  where
    by : (b : Bool) → LeavesReply k n (proposing_if b k i step after [])
    by true = (left_put k n (k.serial + 1) (waiting_instance i (proposal k i step) after) own, tt)
    by false = reply_none k n

no_list_kill : (o : Option KnownRun) → IsNoList (kill_of o)
no_list_kill None = tt
no_list_kill (Some r) = by r.empty
  where
    by : (b : Bool) → IsNoList (if b then calls.Nothing else calls.Kill r.contract)
    by true = tt
    by false = tt

no_list_first : (a b : Call) → IsNoList a → IsNoList b → IsNoList (first_call a b)
no_list_first calls.Nothing b p q = q
no_list_first calls.List b p q = absurd p
no_list_first (calls.Adopt c) b p q = tt
no_list_first (calls.Spawn cookie terms) b p q = tt
no_list_first (calls.Kill c) b p q = tt

no_list_drain : (k : Knowledge) (i : KnownInstance) (d : Drain) → IsNoList (drain_call k i d)
no_list_drain k i drains.Nothing = tt
no_list_drain k i drains.Live = no_list_kill (known_run k i.instance i.row.live)
no_list_drain k i drains.Side = no_list_kill (known_run k i.instance i.row.side)
no_list_drain k i drains.Both =
    no_list_first (kill_of (known_run k i.instance i.row.live)) (kill_of (known_run k i.instance i.row.side))
    (no_list_kill (known_run k i.instance i.row.live)) (no_list_kill (known_run k i.instance i.row.side))

reply_built_in : (k : Knowledge) (n : ℕ) (i : KnownInstance) (o : Owed) (call : Call) → i.instance ≡ n → IsNoList call
    → LeavesReply k n (built_in i o call)
reply_built_in k n i o call own p = (left_turn k n i.instance _ own, p)

reply_spawning : (k : Knowledge) (n : ℕ) (i : KnownInstance) (o : Owed) (r : Result ℕ CookieFault)
    → LeavesReply k n (spawning_by i o r)
reply_spawning k n i o (Ok cookie) = (left_none k n, tt)
reply_spawning k n i o (Err e) = reply_none k n

reply_begun : (k : Knowledge) (n : ℕ) (i : KnownInstance) (o : Owed) (b : Option Builtin) → i.instance ≡ n
    → LeavesReply k n (begun_by k i o b)
reply_begun k n i o None own =
    reply_spawning k n i o (bits_of_cookie (record { instance = i.instance; run = o.run; method = o.method }))
reply_begun k n i o (Some builtins.True) own = reply_built_in k n i o calls.Nothing own tt
reply_begun k n i o (Some builtins.Kill) own =
    reply_built_in k n i o (kill_of (known_run k i.instance i.row.live)) own
    (no_list_kill (known_run k i.instance i.row.live))

reply_ending : (k : Knowledge) (n : ℕ) (i : KnownInstance) (e : Ending) (call : Call) → i.instance ≡ n → IsNoList call
    → LeavesReply k n (ending_by k i e call)
reply_ending k n i e calls.Nothing own p = reply_proposing k n i _ afters.Idle own
reply_ending k n i e calls.List own p = absurd p
reply_ending k n i e (calls.Adopt c) own p = (left_none k n, tt)
reply_ending k n i e (calls.Spawn cookie terms) own p = (left_none k n, tt)
reply_ending k n i e (calls.Kill c) own p = (left_none k n, tt)

reply_noted : (k : Knowledge) (n : ℕ) (i : KnownInstance) (live : Option KnownRun) (o : Option ℕ) → i.instance ≡ n
    → LeavesReply k n (noted_by k i live o)
reply_noted k n i live None own = reply_none k n
reply_noted k n i live (Some bits) own = reply_proposing k n i _ afters.Idle own

reply_adopting : (k : Knowledge) (n : ℕ) (o : Option KnownRun) (r : Reply) → LeavesReply k n r
    → LeavesReply k n (adopting_or o r)
reply_adopting k n None r h = h
reply_adopting k n (Some x) r h = (left_none k n, tt)

reply_in : (k : Knowledge) (n : ℕ) (i : KnownInstance) (p : Phase) → i.instance ≡ n → LeavesReply k n (ticked_in k i p)
reply_in k n i (Waiting p after) own = (left_none k n, tt)
reply_in k n i (Running m) own = reply_none k n
reply_in k n i (Owes o) own =
    reply_adopting k n (orphan k i.instance) _ (reply_begun k n i o (builtin o.call.command) own)
reply_in k n i (Ends e) own =
    reply_adopting k n (orphan k i.instance) _
    (reply_ending k n i e (drain_call k i e.drain) own (no_list_drain k i e.drain))
reply_in k n i Idle own =
    reply_adopting k n (orphan k i.instance) _
    (reply_noted k n i (known_run k i.instance i.row.live) (note_due i.row (known_run k i.instance i.row.live)) own)

reply_known : (k : Knowledge) (n : ℕ) (o : Option KnownInstance) → ((i : KnownInstance) → o ≡ Some i → i.instance ≡ n)
    → LeavesReply k n (ticked_known k o)
reply_known k n None own = reply_none k n
reply_known k n (Some i) own = reply_in k n i i.phase (own i refl)

reply_up : (k : Knowledge) (n : ℕ) (s : Stage) → LeavesReply k n (ticked_up k n s)
reply_up k n Joining = reply_none k n
reply_up k n Listing = reply_none k n
reply_up k n Up = reply_known k n (known_instance k n) (λ i e. found_key by_instance n k.instances i e)

reply_ticked : (k : Knowledge) (n : ℕ) → LeavesReply k n (reply_to_tick k n)
unfolding reply_to_tick
reply_ticked k n = reply_up k n k.stage

-- a tick of an instance leaves the others, and asks for no list of the contracts
pub ticked_leaves : (k : Knowledge) (n : ℕ) → LeavesOthers k n (reply_to_tick k n).change
ticked_leaves k n = (reply_ticked k n).0

pub ticked_no_list : (k : Knowledge) (n : ℕ) → IsNoList (reply_to_tick k n).call
ticked_no_list k n = (reply_ticked k n).1

-- ---- what an answer changes

answered_owed_leaves : (k : Knowledge) (n : ℕ) (i : KnownInstance) (o : Owed) (a : Answer) → i.instance ≡ n
    → LeavesOthers k n (answered_owed i o a)
answered_owed_leaves k n i o (answers.Spawned c) own = left_begun k n i.instance _ _ own own
answered_owed_leaves k n i o answers.Refused own = left_turn k n i.instance _ own
answered_owed_leaves k n i o answers.NotFollowed own = left_turn k n i.instance _ own
answered_owed_leaves k n i o answers.Nothing own = left_none k n
answered_owed_leaves k n i o (answers.Adopted c) own = left_none k n

answered_in_leaves : (k : Knowledge) (n : ℕ) (i : KnownInstance) (a : Answer) (p : Phase) → i.instance ≡ n
    → LeavesOthers k n (answered_in i a p)
answered_in_leaves k n i a (Owes o) own = answered_owed_leaves k n i o a own
answered_in_leaves k n i a Idle own = left_none k n
answered_in_leaves k n i a (Waiting p after) own = left_none k n
answered_in_leaves k n i a (Running m) own = left_none k n
answered_in_leaves k n i a (Ends e) own = left_none k n

answered_known_leaves : (k : Knowledge) (n : ℕ) (a : Answer) (o : Option KnownInstance)
    → ((i : KnownInstance) → o ≡ Some i → i.instance ≡ n) → LeavesOthers k n (answered_known a o)
answered_known_leaves k n a None own = left_none k n
answered_known_leaves k n a (Some i) own = answered_in_leaves k n i a i.phase (own i refl)

-- so does the answer to what it asked for
pub answered_leaves : (k : Knowledge) (n : ℕ) (a : Answer) → LeavesOthers k n (change_on_answer k n a)
unfolding change_on_answer
answered_leaves k n (answers.Adopted c) = left_adopted k n (find (is_of_contract c) k.runs) (is_of_contract c) refl
answered_leaves k n answers.Nothing =
    answered_known_leaves k n answers.Nothing (known_instance k n) (λ i e. found_key by_instance n k.instances i e)
answered_leaves k n (answers.Spawned c) =
    answered_known_leaves k n (answers.Spawned c) (known_instance k n) (λ i e. found_key by_instance n k.instances i e)
answered_leaves k n answers.Refused =
    answered_known_leaves k n answers.Refused (known_instance k n) (λ i e. found_key by_instance n k.instances i e)
answered_leaves k n answers.NotFollowed =
    answered_known_leaves k n answers.NotFollowed (known_instance k n) (λ i e. found_key by_instance n k.instances i e)

-- ---- at rest

-- a tick of an instance at rest does nothing
pub rest_ticked : (k : Knowledge) (n : ℕ) → IsAtRest k n → reply_to_tick k n ≡ nothing
unfolding reply_to_tick
rest_ticked k n h = by k.stage
  where
    known_by : (o : Option KnownInstance) → ((i : KnownInstance) → o ≡ Some i → rests k i ≡ true)
        → ticked_known k o ≡ nothing
    known_by None f = refl
    known_by (Some i) f = rested k i (f i refl)

    by : (s : Stage) → ticked_up k n s ≡ nothing
    by Joining = refl
    by Listing = refl
    by Up = known_by (known_instance k n) h
