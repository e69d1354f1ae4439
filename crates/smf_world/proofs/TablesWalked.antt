-- The work of an event on the contract table, and the items that the trail shows of it. It is of one of three kinds:
-- rows alone and no call; a call; or a boot. Before a call at most one method is begun; after it come the contracts
-- that it empties.
use Rattle.std.proofs.Common.{◌≡◌, ◌⊎◌, ◌==◌, ◌&&◌, nat_lt, ℕ, Bool, true, false, cond, if◌then◌else◌, List, [], ◌∷◌, ◌++◌, Option, Some, None, Result, Ok, Err, inl, inr, refl, sym, ap, ◌∙◌, subst}
use Rattle.std.specs.Prelude.{find}
use Rattle.std.specs.List.{cons_option, filter_map}
use Rattle.smf_contract.specs.declared.call.ContractCall.{ContractCall}
use Rattle.smf_contract.specs.declared.call.ContractCall.TheVariants as calls
use Rattle.smf_contract.specs.declared.contract.Report.{Report}
use Rattle.smf_contract.specs.declared.cookie.CookieFault.{CookieFault}
use Rattle.smf_contract.specs.declared.terms.Terms.{Terms}
use Rattle.smf_contract.specs.Calls.{next_contract}
use Rattle.smf_contract.specs.Cookies.{bits_of_cookie}
use Rattle.smf_contract.specs.Entries.{Contracts, report_of_event as report_at}
use Rattle.smf_method.specs.declared.command.Builtin.{Builtin}
use Rattle.smf_method.specs.declared.command.Builtin.TheVariants as builtins
use Rattle.smf_method.specs.Commands.{builtin}
use Rattle.smf_state.specs.declared.step.Step.{Step}
use Rattle.smf_model.specs.declared.change.Change.{Change}
use Rattle.smf_model.specs.declared.change.Change.TheVariants as changes
use Rattle.smf_model.specs.declared.command.Command.{Command}
use Rattle.smf_model.specs.declared.command.Command.TheVariants as commands
use Rattle.smf_model.specs.declared.command.CommandReply.{CommandReply}
use Rattle.smf_model.specs.declared.command.CommandReply.TheVariants as replies
use Rattle.smf_model.specs.declared.held.Instance.{Instance}
use Rattle.smf_model.specs.Contents.{Holdings}
use Rattle.smf_model.specs.Look.{instance, launch_of}
use Rattle.smf_model.specs.Next.{Asked, acceptance_with, outcome_of_command, asked_boot, changes_for_boot, greatest, may_not_boot, refusal_with}
use Rattle.smf_wire.specs.declared.message.Known.{Known}
use Rattle.smf_wire.specs.declared.message.Message.{Message}
use Rattle.smf_wire.specs.declared.message.Message.TheVariants as messages
use Rattle.smf_restarter.specs.declared.known.After.{After}
use Rattle.smf_restarter.specs.declared.known.Drain.{Drain}
use Rattle.smf_restarter.specs.declared.known.Drain.TheVariants as drains
use Rattle.smf_restarter.specs.declared.known.Ending.{Ending}
use Rattle.smf_restarter.specs.declared.known.KnownInstance.{KnownInstance}
use Rattle.smf_restarter.specs.declared.known.KnownRun.{KnownRun}
use Rattle.smf_restarter.specs.declared.known.Owed.{Owed}
use Rattle.smf_restarter.specs.declared.known.Phase.{Phase}
use Rattle.smf_restarter.specs.declared.known.Phase.TheVariants.{Idle, Waiting, Owes, Running, Ending as Ends}
use Rattle.smf_restarter.specs.declared.known.Stage.{Stage}
use Rattle.smf_restarter.specs.declared.known.Stage.TheVariants.{Joining, Listing, Up}
use Rattle.smf_restarter.specs.declared.reply.Begun.{Begun}
use Rattle.smf_restarter.specs.declared.reply.Call.{Call}
use Rattle.smf_restarter.specs.declared.reply.Call.TheVariants as asks
use Rattle.smf_restarter.specs.declared.reply.Reply.{Reply}
use Rattle.smf_restarter.specs.Knowledge.{Knowledge, known_instance}
use Rattle.smf_restarter.specs.Orders.{greatest_serial, greatest_word, reply_with_proposal, proposing_if}
use Rattle.smf_restarter.specs.Replies.{reply_to_message}
use Rattle.smf_restarter.specs.Runs.{known_run, orphan}
use Rattle.smf_restarter.specs.Ticks.{adopting_or, begun_by, begun_of, drain_call, ending_by, first_call, kill_of, live_call, noted_by, own_tick, side_call, spawning_by, reply_to_tick, ticked_in, ticked_known, ticked_up}
use Rattle.smf_world.specs.declared.event.Event.{Event}
use Rattle.smf_world.specs.declared.event.Event.TheVariants as events
use Rattle.smf_world.specs.declared.event.ProcessEvent.{ProcessEvent}
use Rattle.smf_world.specs.declared.event.ProcessEvent.TheVariants as processes
use Rattle.smf_world.specs.declared.event.SpawnAnswer.{SpawnAnswer}
use Rattle.smf_world.specs.declared.event.SpawnAnswer.TheVariants as spawns
use Rattle.smf_world.specs.declared.item.Item.{Item}
use Rattle.smf_world.specs.declared.item.Item.TheVariants.{Boot, Committed, Held, Spawned}
use Rattle.smf_world.specs.declared.work.Work.{Work}
use Rattle.smf_world.specs.Items.{change_item, items_of, row_if, row_over}
use Rattle.smf_world.specs.Worked.{work_of_turn, answer_of, begun_in, begun_items, booted_as, call_of, work_of_call, work_of_command, work_of_crash, work_of_delivery, delivered_if, emptied_items, heard_by, held_items, holder, is_launched, is_named, work_of_join, launched_if, own_ticked, process_call, reported_by, reported_to, restarter, sent_at, spawn_answer, ticked_for, work_of_timeout, work_on_message, work_of_event}
use Rattle.smf_world.specs.World.{World}
use Rattle.smf_world.proofs.ItemsMade.{AreMade}
use Rattle.smf_world.proofs.LiveLists.{Each, IsIn}

-- ---- what is done

-- a row that was committed, or taken
abbrev pub IsRow : Item → Type 0
IsRow (Committed i n state next) = Unit {0}
IsRow (Held name launch i n state) = Unit {0}
IsRow _ = ⊥

-- a row that was taken
abbrev pub IsHeld : Item → Type 0
IsHeld (Held name launch i n state) = Unit {0}
IsHeld _ = ⊥

abbrev pub IsPlain : ContractCall → Type 0
IsPlain (calls.Spawn actor cookie terms) = ⊥
IsPlain calls.Reboot = ⊥
IsPlain _ = Unit {0}

-- a method that a launched restarter owes, being up
pub record IsOwing (ks : List Knowledge) : Type 0 where
  pub restarter : Knowledge
  pub instance : ℕ
  pub of : KnownInstance
  pub owed : Owed
  pub is_launched : IsIn restarter ks
  pub up : restarter.stage ≡ Up
  pub is_known : known_instance restarter instance ≡ Some of
  pub owes : of.phase ≡ Owes owed

abbrev pub begun_as : ℕ → KnownInstance → Owed → Item
begun_as c i o = Spawned c i.instance o.run o.method o.revision o.call.command

-- the method that is begun with a call: none, a built-in, or one in a contract of its own
pub data IsBegun (ks : List Knowledge) (t : Contracts) (call : ContractCall) (items : List Item) : Type 0 where
  nothing : IsPlain call → items ≡ [] → IsBegun ks t call items
  at_once : (s : IsOwing ks) → IsPlain call → items ≡ begun_as 0 s.of s.owed ∷ [] → IsBegun ks t call items
  spawned : (s : IsOwing ks) (c cookie : ℕ) (terms : Terms) → next_contract t ≡ Some c
      → bits_of_cookie (record { instance = s.of.instance; run = s.owed.run; method = s.owed.method }) ≡ Ok cookie
      → call ≡ calls.Spawn s.restarter.actor cookie terms → items ≡ begun_as c s.of s.owed ∷ []
      → IsBegun ks t call items

pub data IsTabled (ks : List Knowledge) (t : Contracts) (items : List Item) (call : ContractCall) : Type 0 where
  passes : call ≡ calls.Nothing → Each IsRow items → IsTabled ks t items call
  acts : (rows begun : List Item) → Each IsHeld rows → IsBegun ks t call begun
      → items ≡ rows ++ begun ++ emptied_items t call → IsTabled ks t items call
  boots : (rows : List Item) → Each IsRow rows → items ≡ Boot ∷ rows → call ≡ calls.Reboot → IsTabled ks t items call

abbrev pub Tabled : World → Work → Type 0
Tabled w k = IsTabled w.restarters w.table k.items k.call

-- ---- rows

abbrev MayBeRow : Option Item → Type 0
MayBeRow None = Unit {0}
MayBeRow (Some x) = IsRow x

over_row : (o : Option Instance) (i : Instance) → MayBeRow (row_over o i)
over_row None i = tt
over_row (Some before) i = by (i.row.number == before.row.number)
  where
    by : (b : Bool) → MayBeRow (row_if b i)
    by true = tt
    by false = tt

change_row : (h : Holdings) (c : Change) → MayBeRow (change_item h c)
change_row h (changes.AddInstance e) = tt
change_row h (changes.PutInstance i) = over_row (instance h i.number) i
change_row h _ = tt

cons_rows : (o : Option Item) (xs : List Item) → MayBeRow o → Each IsRow xs → Each IsRow (cons_option o xs)
cons_rows None xs a b = b
cons_rows (Some x) xs a b = (a, b)

pub change_rows : (h : Holdings) (cs : List Change) → Each IsRow (filter_map (change_item h) cs)
change_rows h [] = tt
change_rows h (c ∷ cs) = cons_rows (change_item h c) (filter_map (change_item h) cs) (change_row h c) (change_rows h cs)

held_rows : (k : Knowledge) (xs : List Known) → Each IsRow (held_items k xs)
held_rows k [] = tt
held_rows k (x ∷ xs) = (tt, held_rows k xs)

held_held : (k : Knowledge) (xs : List Known) → Each IsHeld (held_items k xs)
held_held k [] = tt
held_held k (x ∷ xs) = (tt, held_held k xs)

-- a command that is no boot
abbrev IsNoBoot : Command → Type 0
IsNoBoot commands.Boot = ⊥
IsNoBoot _ = Unit {0}

command_items : (h : Holdings) (c : Command) (cs : List Change) → IsNoBoot c → Each IsRow (items_of h c cs)
unfolding items_of
command_items h (commands.Edit e) cs a = change_rows h cs
command_items h (commands.Propose p) cs a = change_rows h cs
command_items h (commands.Launch name) cs a = change_rows h cs
command_items h commands.Boot cs a = absurd a

command_tabled : (w : World) (c : Command) → IsNoBoot c → Tabled w (work_of_command w c)
unfolding work_of_command
command_tabled w c a = passes refl (command_items w.now c (outcome_of_command w.now c).changes a)

-- ---- what a restarter asks for in its turn

abbrev BegunBy : List Knowledge → Knowledge → List Begun → Type 0
BegunBy ks k bs = (s : IsOwing ks) × (s.restarter ≡ k) × (bs ≡ begun_of s.of s.owed ∷ [])

-- the methods that are begun with the call that is asked for
abbrev IsAsked : List Knowledge → Knowledge → Call → List Begun → Type 0
IsAsked ks k (asks.Spawn cookie terms) bs =
    (s : IsOwing ks) × (s.restarter ≡ k) × (bs ≡ begun_of s.of s.owed ∷ [])
    × (bits_of_cookie (record { instance = s.of.instance; run = s.owed.run; method = s.owed.method }) ≡ Ok cookie)
IsAsked ks k _ bs = (bs ≡ []) ⊎ BegunBy ks k bs

abbrev Asks : List Knowledge → Knowledge → Reply → Type 0
Asks ks k r = IsAsked ks k r.call r.begun

proposes : (ks : List Knowledge) (k : Knowledge) (i : KnownInstance) (step : Step) (after : After)
    (taken : List Known) → Asks ks k (reply_with_proposal k i step after taken)
proposes ks k i step after taken = by (nat_lt k.serial greatest_serial && nat_lt i.row.number greatest_word)
  where
    by : (b : Bool) → Asks ks k (proposing_if b k i step after taken)
    by true = inl refl
    by false = inl refl

abbrev IsKill : Call → Type 0
IsKill asks.Nothing = Unit {0}
IsKill (asks.Kill c) = Unit {0}
IsKill _ = ⊥

kills : (o : Option KnownRun) → IsKill (kill_of o)
kills None = tt
kills (Some r) = by r.empty
  where
    by : (b : Bool) → IsKill (if b then asks.Nothing else asks.Kill r.contract)
    by true = tt
    by false = tt

first_kills : (a b : Call) → IsKill a → IsKill b → IsKill (first_call a b)
first_kills asks.Nothing b p q = q
first_kills asks.List b p q = absurd p
first_kills (asks.Adopt c) b p q = absurd p
first_kills (asks.Spawn cookie terms) b p q = absurd p
first_kills (asks.Kill c) b p q = p

drains_kill : (k : Knowledge) (i : KnownInstance) (d : Drain) → IsKill (drain_call k i d)
drains_kill k i drains.Nothing = tt
drains_kill k i drains.Live = kills (known_run k i.instance i.row.live)
drains_kill k i drains.Side = kills (known_run k i.instance i.row.side)
drains_kill k i drains.Both =
    first_kills (live_call k i) (side_call k i) (kills (known_run k i.instance i.row.live))
    (kills (known_run k i.instance i.row.side))

kill_asked : (ks : List Knowledge) (k : Knowledge) (call : Call) (bs : List Begun) → IsKill call
    → (bs ≡ []) ⊎ BegunBy ks k bs → IsAsked ks k call bs
kill_asked ks k asks.Nothing bs p b = b
kill_asked ks k (asks.Kill c) bs p b = b
kill_asked ks k asks.List bs p b = absurd p
kill_asked ks k (asks.Adopt c) bs p b = absurd p
kill_asked ks k (asks.Spawn cookie terms) bs p b = absurd p

ends : (ks : List Knowledge) (k : Knowledge) (i : KnownInstance) (e : Ending) (call : Call) → IsKill call
    → Asks ks k (ending_by k i e call)
ends ks k i e asks.Nothing p = proposes ks k i _ _ []
ends ks k i e (asks.Kill c) p = inl refl
ends ks k i e asks.List p = absurd p
ends ks k i e (asks.Adopt c) p = absurd p
ends ks k i e (asks.Spawn cookie terms) p = absurd p

notes : (ks : List Knowledge) (k : Knowledge) (i : KnownInstance) (live : Option KnownRun) (o : Option ℕ)
    → Asks ks k (noted_by k i live o)
notes ks k i live None = inl refl
notes ks k i live (Some bits) = proposes ks k i _ _ []

adopts : (ks : List Knowledge) (k : Knowledge) (o : Option KnownRun) (r : Reply) → Asks ks k r
    → Asks ks k (adopting_or o r)
adopts ks k None r a = a
adopts ks k (Some run) r a = inl refl

spawns_by : (ks : List Knowledge) (s : IsOwing ks) (r : Result ℕ CookieFault)
    → bits_of_cookie (record { instance = s.of.instance; run = s.owed.run; method = s.owed.method }) ≡ r
    → Asks ks s.restarter (spawning_by s.of s.owed r)
spawns_by ks s (Err e) p = inl refl
spawns_by ks s (Ok cookie) p = (s, refl, refl, p)

begins : (ks : List Knowledge) (s : IsOwing ks) (b : Option Builtin)
    → Asks ks s.restarter (begun_by s.restarter s.of s.owed b)
begins ks s None =
    spawns_by ks s (bits_of_cookie (record { instance = s.of.instance; run = s.owed.run; method = s.owed.method })) refl
begins ks s (Some builtins.True) = inr (s, refl, refl)
begins ks s (Some builtins.Kill) =
    kill_asked ks s.restarter (kill_of (known_run s.restarter s.of.instance s.of.row.live)) _
    (kills (known_run s.restarter s.of.instance s.of.row.live)) (inr (s, refl, refl))

in_phase : (ks : List Knowledge) (k : Knowledge) (n : ℕ) (i : KnownInstance) (p : Phase) → IsIn k ks → k.stage ≡ Up
    → known_instance k n ≡ Some i → i.phase ≡ p → Asks ks k (ticked_in k i p)
in_phase ks k n i (Waiting p after) l u e f = inl refl
in_phase ks k n i (Running m) l u e f = inl refl
in_phase ks k n i (Owes o) l u e f =
    let s : IsOwing ks =
    record { restarter = k; instance = n; of = i; owed = o; is_launched = l; up = u; is_known = e; owes = f } in
    adopts ks k (orphan k i.instance) _ (begins ks s (builtin o.call.command))
in_phase ks k n i (Ends e) l u g f =
    adopts ks k (orphan k i.instance) _ (ends ks k i e (drain_call k i e.drain) (drains_kill k i e.drain))
in_phase ks k n i Idle l u e f =
    adopts ks k (orphan k i.instance) _ (notes ks k i (known_run k i.instance i.row.live) _)

tick_known : (ks : List Knowledge) (k : Knowledge) (n : ℕ) (o : Option KnownInstance) → IsIn k ks → k.stage ≡ Up
    → known_instance k n ≡ o → Asks ks k (ticked_known k o)
tick_known ks k n None l u e = inl refl
tick_known ks k n (Some i) l u e = in_phase ks k n i i.phase l u e refl

tick_up : (ks : List Knowledge) (k : Knowledge) (n : ℕ) (s : Stage) → IsIn k ks → k.stage ≡ s
    → Asks ks k (ticked_up k n s)
tick_up ks k n Up l u = tick_known ks k n (known_instance k n) l u refl
tick_up ks k n Joining l u = inl refl
tick_up ks k n Listing l u = inl refl

tick_asks : (ks : List Knowledge) (k : Knowledge) (n : ℕ) → IsIn k ks → Asks ks k (reply_to_tick k n)
unfolding reply_to_tick
tick_asks ks k n l = tick_up ks k n k.stage l refl

own_asks : (ks : List Knowledge) (k : Knowledge) (s : Stage) → Asks ks k (own_tick k s)
unfolding own_tick
own_asks ks k Joining = inl refl
own_asks ks k Listing = inl refl
own_asks ks k Up = inl refl

-- ---- what comes of it

-- the methods that are begun besides a call that is no spawn
begun_plain : (ks : List Knowledge) (t : Contracts) (k : Knowledge) (call : ContractCall) (bs : List Begun)
    → IsPlain call → (bs ≡ []) ⊎ BegunBy ks k bs → IsBegun ks t call (begun_items (Some 0) bs)
begun_plain ks t k call bs p (inl e) = nothing p (ap (begun_items (Some 0)) e)
begun_plain ks t k call bs p (inr (s, f, e)) = at_once s p (ap (begun_items (Some 0)) e)

-- the methods that are begun with a spawn, by its answer
begun_spawn : (ks : List Knowledge) (t : Contracts) (k : Knowledge) (cookie : ℕ) (terms : Terms) (bs : List Begun)
    (spawn : SpawnAnswer) (next : Option ℕ) → next_contract t ≡ next → IsAsked ks k (asks.Spawn cookie terms) bs
    → IsBegun ks t (call_of k.actor (asks.Spawn cookie terms) (spawn_answer spawn next))
    (begun_items (begun_in (asks.Spawn cookie terms) (spawn_answer spawn next)) bs)
unfolding call_of
begun_spawn ks t k cookie terms bs spawns.Made (Some c) e (s, f, b, p) =
    spawned s c cookie terms e p (ap (λ (x : Knowledge). calls.Spawn x.actor cookie terms) (sym f))
    (ap (begun_items (Some c)) b)
begun_spawn ks t k cookie terms bs spawns.Made None e a = nothing tt refl
begun_spawn ks t k cookie terms bs spawns.Refused next e a = nothing tt refl
begun_spawn ks t k cookie terms bs spawns.NotFollowed next e a = nothing tt refl

begun_of_call : (ks : List Knowledge) (t : Contracts) (k : Knowledge) (call : Call) (bs : List Begun)
    (spawn : SpawnAnswer) → IsAsked ks k call bs
    → IsBegun ks t (call_of k.actor call (answer_of t k.actor spawn call))
    (begun_items (begun_in call (answer_of t k.actor spawn call)) bs)
unfolding call_of answer_of
begun_of_call ks t k asks.Nothing bs spawn a = begun_plain ks t k _ bs tt a
begun_of_call ks t k asks.List bs spawn a = begun_plain ks t k _ bs tt a
begun_of_call ks t k (asks.Adopt c) bs spawn a = begun_plain ks t k _ bs tt a
begun_of_call ks t k (asks.Kill c) bs spawn a = begun_plain ks t k _ bs tt a
begun_of_call ks t k (asks.Spawn cookie terms) bs spawn a =
    begun_spawn ks t k cookie terms bs spawn (next_contract t) refl a

acted_tabled : (w : World) (k : Knowledge) (n : ℕ) (spawn : SpawnAnswer) (r : Reply) → Asks w.restarters k r
    → Tabled w (work_of_turn w k n spawn r)
unfolding work_of_turn
acted_tabled w k n spawn r a =
    acts (held_items k r.taken) (begun_items (begun_in r.call (answer_of w.table k.actor spawn r.call)) r.begun)
    (held_held k r.taken) (begun_of_call w.restarters w.table k r.call r.begun spawn a) refl

calling_tabled : (w : World) (call : ContractCall) → IsPlain call → Tabled w (work_of_call w.table call)
unfolding work_of_call
calling_tabled w call p = acts [] [] tt (nothing p refl) refl

-- ---- a boot

made_behind : (cs : List Change) (c : Change) → AreMade (cs ++ c ∷ [])
made_behind [] c = tt
made_behind (d ∷ ds) c = tt

-- a boot is done, with changes, or it is refused
data IsBootOf (cs : List Change) (r : CommandReply) : Type 0 where
  done : AreMade cs → r ≡ replies.Done → IsBootOf cs r
  limited : cs ≡ [] → r ≡ replies.Limit → IsBootOf cs r

boot_asked : (h : Holdings) → IsBootOf (asked_boot h).changes (asked_boot h).reply
unfolding asked_boot
boot_asked h = by (may_not_boot h)
  where
    fits : (b : Bool) (cs : List Change) (c : Change) (a : Asked)
        → a ≡ (if b then (record { changes = cs ++ c ∷ []; reply = replies.Done }) else refusal_with replies.Limit)
        → IsBootOf a.changes a.reply
    fits true cs c a e =
        done (subst AreMade (ap (λ (x : Asked). x.changes) (sym e)) (made_behind cs c)) (ap (λ (x : Asked). x.reply) e)
    fits false cs c a e = limited (ap (λ (x : Asked). x.changes) e) (ap (λ (x : Asked). x.reply) e)

    by : (b : Bool)
        → IsBootOf (if b then refusal_with replies.Limit
        else acceptance_with h (changes_for_boot h) replies.Done).changes
        (if b then refusal_with replies.Limit else acceptance_with h (changes_for_boot h) replies.Done).reply
    by true = limited refl refl
    by false = fits (nat_lt h.revision greatest) (changes_for_boot h) _
        (acceptance_with h (changes_for_boot h) replies.Done) refl

boot_made : (h : Holdings) (cs : List Change) → AreMade cs
    → items_of h commands.Boot cs ≡ Boot ∷ filter_map (change_item h) cs
unfolding items_of
boot_made h [] m = absurd m
boot_made h (c ∷ cs) m = refl

boot_unmade : (h : Holdings) → Each IsRow (items_of h commands.Boot [])
unfolding items_of
boot_unmade h = tt

boot_by : (w : World) (rs : List CommandReply)
    → IsBootOf (outcome_of_command w.now commands.Boot).changes (outcome_of_command w.now commands.Boot).reply
    → rs ≡ (outcome_of_command w.now commands.Boot).reply ∷ []
    → Tabled w (booted_as (work_of_command w commands.Boot) rs)
unfolding work_of_command
boot_by w rs (done m r) e =
    let cs : List Change = (outcome_of_command w.now commands.Boot).changes in
    let is : rs ≡ replies.Done ∷ [] = e ∙ ap (λ (x : CommandReply). x ∷ []) r in
    subst (λ (x : List CommandReply). Tabled w (booted_as (work_of_command w commands.Boot) x)) (sym is)
    (boots (filter_map (change_item w.now) cs) (change_rows w.now cs) (boot_made w.now cs m) refl)
boot_by w rs (limited m r) e =
    let cs : List Change = (outcome_of_command w.now commands.Boot).changes in
    let is : rs ≡ replies.Limit ∷ [] = e ∙ ap (λ (x : CommandReply). x ∷ []) r in
    subst (λ (x : List CommandReply). Tabled w (booted_as (work_of_command w commands.Boot) x)) (sym is)
    (passes refl (subst (λ (x : List Change). Each IsRow (items_of w.now commands.Boot x)) (sym m) (boot_unmade w.now)))

boot_of : (h : Holdings)
    → IsBootOf (outcome_of_command h commands.Boot).changes (outcome_of_command h commands.Boot).reply
unfolding outcome_of_command
boot_of h = boot_asked h

boot_tabled : (w : World)
    → Tabled w (booted_as (work_of_command w commands.Boot) (work_of_command w commands.Boot).reply)
unfolding work_of_command
boot_tabled w = boot_by w ((outcome_of_command w.now commands.Boot).reply ∷ []) (boot_of w.now) refl

-- ---- events

still : (w : World) (items : List Item) → Each IsRow items → IsTabled w.restarters w.table items calls.Nothing
still w items a = passes refl a

heard_tabled : (w : World) (k : Knowledge) (r : Reply) → Tabled w (heard_by k r)
unfolding heard_by
heard_tabled w k r = passes refl (held_rows k r.taken)

told_tabled : (w : World) (m : Message) (o : Option Knowledge) → Tabled w (work_on_message m o)
told_tabled w m None = passes refl tt
told_tabled w m (Some k) = heard_tabled w k (reply_to_message k m)

joined_tabled : (w : World) (name : List ℕ) (launch : ℕ) (b : Bool) → Tabled w (work_of_join w name launch b)
joined_tabled w name launch true = passes refl tt
joined_tabled w name launch false = passes refl tt

delivered_tabled : (w : World) (m : Message) → Tabled w (work_of_delivery w m)
unfolding work_of_delivery
delivered_tabled w (messages.Join name launch) = joined_tabled w name launch (launch == launch_of w.now name)
delivered_tabled w (messages.Rows name launch rows) = told_tabled w (messages.Rows name launch rows) (restarter w name)
delivered_tabled w (messages.Propose p) = command_tabled w (commands.Propose p) tt
delivered_tabled w (messages.Ack name launch serial i row) =
    told_tabled w (messages.Ack name launch serial i row) (restarter w name)
delivered_tabled w (messages.Nack name launch serial i why row) =
    told_tabled w (messages.Nack name launch serial i why row) (restarter w name)
delivered_tabled w messages.AskView = passes refl tt
delivered_tabled w (messages.AskChange since) = passes refl tt
delivered_tabled w (messages.View v) = passes refl tt
delivered_tabled w (messages.Changes news) = passes refl tt
delivered_tabled w (messages.Order o) = told_tabled w (messages.Order o) (restarter w o.restarter)

sent_tabled : (w : World) (o : Option Message) → Tabled w (delivered_if w o)
sent_tabled w None = passes refl tt
sent_tabled w (Some m) = delivered_tabled w m

pub find_in : {X : Type 0} (test : X → Bool) (xs : List X) (x : X) → find test xs ≡ Some x → IsIn x xs
find_in test [] x e = absurd cc
find_in test (y ∷ ys) x e = by (test y) e (find_in test ys x)
  where
    by : (b : Bool) → cond b (Some y) (find test ys) ≡ Some x → (find test ys ≡ Some x → IsIn x ys) → IsIn x (y ∷ ys)
    by true f ih = let one : y ≡ x = cc in inl one
    by false f ih = inr (ih f)

own_tabled : (w : World) (o : Option Knowledge) → Tabled w (own_ticked w o)
own_tabled w None = passes refl tt
own_tabled w (Some k) = acted_tabled w k 0 spawns.Made (own_tick k k.stage) (own_asks w.restarters k k.stage)

ticked_tabled : (w : World) (n : ℕ) (spawn : SpawnAnswer) (o : Option Knowledge)
    → ((k : Knowledge) → o ≡ Some k → IsIn k w.restarters) → Tabled w (ticked_for w n spawn o)
ticked_tabled w n spawn None l = passes refl tt
ticked_tabled w n spawn (Some k) l =
    acted_tabled w k n spawn (reply_to_tick k n) (tick_asks w.restarters k n (l k refl))

process_plain : (p : ℕ) (e : ProcessEvent) → IsPlain (process_call p e)
process_plain p processes.Fork = tt
process_plain p (processes.Exit exit) = tt
process_plain p (processes.Fail failure) = tt

reported_by_tabled : (w : World) (r : Report) (o : Option Knowledge) → Tabled w (reported_by r o)
reported_by_tabled w r None = passes refl tt
reported_by_tabled w r (Some k) = passes refl tt

reported_tabled : (w : World) (o : Option Report) → Tabled w (reported_to w o)
reported_tabled w None = passes refl tt
reported_tabled w (Some r) = reported_by_tabled w r (holder w r.contract.holder)

timed_tabled : (w : World) (n : ℕ) (o : Option Knowledge) → Tabled w (work_of_timeout n o)
timed_tabled w n None = passes refl tt
timed_tabled w n (Some k) = passes refl tt

crashed_tabled : (w : World) (o : Option Knowledge) → Tabled w (work_of_crash w o)
crashed_tabled w None = passes refl tt
crashed_tabled w (Some k) = calling_tabled w (calls.Gone k.actor) tt

launched_tabled : (w : World) (name : List ℕ) (b : Bool) → Tabled w (launched_if w name b)
launched_tabled w name true = passes refl tt
launched_tabled w name false = command_tabled w (commands.Launch name) tt

pub tabled : (w : World) (e : Event) → Tabled w (work_of_event w e)
unfolding work_of_event
tabled w (events.Deliver place) = sent_tabled w (sent_at w place)
tabled w (events.Client edit) = command_tabled w (commands.Edit edit) tt
tabled w events.Ask = passes refl tt
tabled w events.Orders = passes refl tt
tabled w (events.OwnTick name) = own_tabled w (restarter w name)
tabled w (events.Tick name n spawn) =
    ticked_tabled w n spawn (restarter w name) (λ k e. find_in (is_named name) w.restarters k e)
tabled w (events.Process process what) = calling_tabled w (process_call process what) (process_plain process what)
tabled w (events.Report contract number) = reported_tabled w (report_at w.table contract number)
tabled w (events.Timeout name n) = timed_tabled w n (restarter w name)
tabled w (events.Crash name) = crashed_tabled w (restarter w name)
tabled w (events.Launch name) = launched_tabled w name (is_launched w name)
tabled w events.Boot = boot_tabled w
