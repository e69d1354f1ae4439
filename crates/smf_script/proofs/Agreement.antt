-- Moves keep what children keep and what the node's world says in agreement.
use Rattle.std.proofs.Common.{◌≡◌, ◌⊎◌, ℕ, zero, suc, ◌+◌, ◌==◌, inl, inr, Bool, true, false, cond, List, [], ◌∷◌, ◌++◌, map, filter, length, reverse, Option, Some, None, IfSome, is_some, option_map, Result, Ok, Err, refl, sym, ap, ◌∙◌, subst, arith, append_assoc, eq-eqb}
use Rattle.std.specs.Prelude.{find, flat_map}
use Rattle.std.proofs.lemmas.Grind.{flat_map-append}
use Rattle.std.proofs.lemmas.List.{append-nil, map_push}
use Rattle.smf_contract.specs.declared.call.ContractCall.{ContractCall}
use Rattle.smf_contract.specs.declared.call.ContractCall.TheVariants as calls
use Rattle.smf_contract.specs.declared.contract.Contract.{Contract}
use Rattle.smf_contract.specs.declared.contract.Member.{Member}
use Rattle.smf_contract.specs.declared.contract.Report.{Report}
use Rattle.smf_contract.specs.declared.event.ContractEvent.{ContractEvent}
use Rattle.smf_contract.specs.declared.event.EventKind.{EventKind}
use Rattle.smf_contract.specs.declared.event.EventKind.TheVariants as kinds
use Rattle.smf_contract.specs.declared.event.Failure.{Failure}
use Rattle.smf_contract.specs.declared.event.Failure.TheVariants.{Core, Signal, Hwerr}
use Rattle.smf_contract.specs.declared.fault.ContractFault.{ContractFault}
use Rattle.smf_contract.specs.declared.table.Made.{Made}
use Rattle.smf_contract.specs.declared.terms.Terms.{Terms}
use Rattle.smf_contract.specs.Called.{table_after_contract_call, left_by, left_by_making}
use Rattle.smf_contract.specs.Calls.{new_contract, failure_kind, result_of_fork, forked_in, result_of_kill, with_new_contract, next_contract, next_number, result_of_spawn, spawned_as}
use Rattle.smf_contract.specs.Cookies.{bits_of_cookie}
use Rattle.smf_contract.specs.Entries.{Contracts, contract, empty, first_member, home, is_in, is_process, report_of_event as report_at}
use Rattle.smf_contract.specs.Laws.{Asked, IsOrdered}
use Rattle.smf_contract.proofs.After.{call_keeps, calls_order}
use Rattle.smf_contract.proofs.Ordered.{next_is}
use Rattle.smf_model.specs.declared.command.Command.TheVariants as commands
use Rattle.smf_model.specs.declared.command.CommandReply.{CommandReply}
use Rattle.smf_model.specs.declared.command.CommandReply.TheVariants as replies
use Rattle.smf_model.specs.Contents.{Holdings}
use Rattle.smf_restarter.specs.declared.known.KnownInstance.{KnownInstance}
use Rattle.smf_restarter.specs.declared.known.Stage.{Stage}
use Rattle.smf_restarter.specs.declared.known.Stage.TheVariants.{Joining, Listing, Up}
use Rattle.smf_restarter.specs.declared.reply.Begun.{Begun}
use Rattle.smf_restarter.specs.declared.reply.Call.{Call}
use Rattle.smf_restarter.specs.declared.reply.Call.TheVariants as asks
use Rattle.smf_restarter.specs.declared.reply.Reply.{Reply}
use Rattle.smf_restarter.specs.Knowledge.{Knowledge}
use Rattle.smf_restarter.specs.Ticks.{own_tick, reply_to_tick}
use Rattle.smf_wire.specs.declared.message.Message.{Message}
use Rattle.smf_wire.specs.declared.message.Message.TheVariants as messages
use Rattle.smf_edge.specs.declared.deed.Happening.{Happening}
use Rattle.smf_edge.specs.declared.deed.Happening.TheVariants as happenings
use Rattle.smf_edge.specs.declared.note.Note.{Note}
use Rattle.smf_edge.specs.declared.note.Note.TheVariants as notes
use Rattle.smf_edge.specs.declared.note.Run.{Run}
use Rattle.smf_edge.specs.declared.start.Start.{Start as MethodStart}
use Rattle.smf_edge.specs.Ledgers.{Ledger, call_of as call_for, forks_by, is_other_event, record_of, run_of, runs_of}
use Rattle.smf_edge.specs.Steps.{IsFound, IsGiven, IsKilled, IsPolled, IsSpawned}
use Rattle.smf_edge.proofs.Firsts.{found_is}
use Rattle.smf_edge.proofs.Members.{home_of_first}
use Rattle.smf_world.specs.declared.event.Event.{Event}
use Rattle.smf_world.specs.declared.event.Event.TheVariants as events
use Rattle.smf_world.specs.declared.event.ProcessEvent.{ProcessEvent}
use Rattle.smf_world.specs.declared.event.ProcessEvent.TheVariants as processes
use Rattle.smf_world.specs.declared.event.SpawnAnswer.{SpawnAnswer}
use Rattle.smf_world.specs.declared.event.SpawnAnswer.TheVariants as spawns
use Rattle.smf_world.specs.declared.work.Work.{Work}
use Rattle.smf_world.specs.Happens.{world_after, happens}
use Rattle.smf_world.specs.Worked.{work_of_turn, answer_of, begun_in, begun_item, begun_items, booted_as, call_of, work_of_call, work_of_command, work_of_delivery, delivered_if, emptied_items, heard_by, held_items, holder, is_launched, work_of_join, launched_if, own_ticked, process_call, reported_by, reported_to, restarter, sent_at, spawn_answer, ticked_for, work_of_timeout, work_on_message, work_of_event}
use Rattle.smf_world.specs.World.{World, initial_world}
use Rattle.smf_machine.specs.declared.requests.MethodRequest.TheVariants.{Spawn, Kill}
use Rattle.smf_machine.specs.declared.polls.News.{News}
use Rattle.smf_script.specs.Agrees.{Agrees, AgreesSince, AreAlike, AreMade, ArePast, Before, IsNoted, IsPast, Start, start_by, start_if}
use Rattle.smf_machine.specs.Requests.{request_of_turn, asked_by, asked_of, first_of, is_held_by, is_instance, kill_if, spawn_request, wanted_in}
use Rattle.smf_machine.specs.Children.{world_after_news, news, news_if, news_in, news_of, news_of_kind as told_of}
use Rattle.smf_script.specs.Moves.{AreMoves, IsMove, IsUnmade, Moves, is_alone}
use Rattle.smf_script.specs.Moves.IsMove.{alone, unmade, spawned as spawns_run, killed as kills, polled}
use Rattle.smf_script.proofs.Alikeness.{alike_adopt, alike_back, alike_exit, alike_fail, alike_fork, alike_kill, alike_nothing, alike_spawn, killed_all, killed_shape, not_killed}
use Rattle.smf_script.proofs.Bonds.{counted_more, found_given, given, made_alike, made_more, made_to, runs_made, runs_stay}
use Rattle.smf_script.proofs.Passages.{KindOf, fewer_past, home_at, killed_later, noted_found, noted_kill, noted_run, spawned_later, still_past, telling}
use Rattle.smf_script.proofs.Starts.{between, emptied_none, first_starts, held_none, no_starts, numbered, starts}

-- ---- calls that make no run, and change nothing that children know of

abbrev pub IsSpawn : ContractCall → Type 0
IsSpawn (calls.Spawn actor cookie terms) = Unit {0}
IsSpawn _ = ⊥

pub record IsQuiet (t : Contracts) (call : ContractCall) : Type 0 where
  pub no_run : (actor cookie : ℕ) (terms : Terms) → call ≡ calls.Spawn actor cookie terms → ⊥
  pub alike : (u : Contracts) → AreAlike t u → AreAlike (table_after_contract_call t call) u

pub other_call : (call : ContractCall) → (IsSpawn call → ⊥) → (actor cookie : ℕ) (terms : Terms)
    → call ≡ calls.Spawn actor cookie terms → ⊥
other_call call other actor cookie terms e = other (let P : ContractCall → Type 0 = IsSpawn in subst P (sym e) tt)

pub quiet_nothing : (t : Contracts) → IsQuiet t calls.Nothing
quiet_nothing t = record { no_run = other_call calls.Nothing (λ x. x); alike = alike_nothing t }

quiet_adopt : (t : Contracts) (actor id : ℕ) → IsQuiet t (calls.Adopt actor id)
quiet_adopt t actor id =
    record { no_run = other_call (calls.Adopt actor id) (λ x. x); alike = λ u a. alike_adopt t u actor id a }

quiet_kill : (t : Contracts) (actor id : ℕ) → is_held_by actor (contract t id) ≡ false → IsQuiet t (calls.Kill actor id)
quiet_kill t actor id other =
    record {
      no_run = other_call (calls.Kill actor id) (λ x. x);
      alike = λ u a. (let P : Contracts → Type 0 = λ x. AreAlike x u in subst P (sym (not_killed t actor id other)) a);
    }

pub quiet_as : (t : Contracts) (a b : ContractCall) → a ≡ b → IsQuiet t b → IsQuiet t a
quiet_as t a b e q = let P : ContractCall → Type 0 = IsQuiet t in subst P (sym e) q

-- ---- an event

pub table_of : (w : World) (e : Event) → (happens w e).table
    ≡ table_after_contract_call w.table (work_of_event w e).call
unfolding happens world_after
table_of w e = refl

noted_to : (gs : List ContractEvent) (ns : List Note) (es fs : List ContractEvent) → es ≡ fs → IsNoted gs ns es
    → IsNoted gs ns fs
noted_to gs ns es fs e h = let P : List ContractEvent → Type 0 = λ xs. IsNoted gs ns xs in subst P e h

world_alike : (w v : World) (e : Event) (u : Contracts) → v ≡ happens w e
    → AreAlike (table_after_contract_call w.table (work_of_event w e).call) u → AreAlike v.table u
world_alike w v e u is a =
    let P : Contracts → Type 0 = λ x. AreAlike x u in
    subst P (sym (ap (λ x. x.table) is ∙ table_of w e)) a

made_back : (fs : List Contract) (runs : List Run) (t u : Contracts) → AreAlike t u → AreMade fs runs u.contracts
    → AreMade fs runs t.contracts
made_back fs runs t u a h = made_alike fs runs u t (alike_back t u a) h

made_both : (fs : List Contract) (runs : List Run) (t v u : Contracts) → AreAlike t u → AreAlike v u
    → AreMade fs runs t.contracts → AreMade fs runs v.contracts
made_both fs runs t v u a b h = made_back fs runs v u b (made_alike fs runs t u a h)

-- nothing changes of what children know of
pub agree_quiet : {b : Before} (w v : World) (e : Event) (l : Ledger) → v ≡ happens w e → IsQuiet w.table (work_of_event w e).call
    → AgreesSince b w l → AgreesSince b v l
agree_quiet {b} w v e l is q a =
    let alike : AreAlike v.table l.table = world_alike w v e l.table is (q.alike l.table a.alike) in
    record {
      starts = ap (λ x. b.starts ++ starts (reverse x.trail)) is ∙ ap (λ xs. b.starts ++ xs) (no_starts w e q.no_run)
          ∙ a.starts;
      made = made_both b.table.contracts (record_of l.notes).runs w.table v.table l.table a.alike alike a.made;
      counted = alike.last_process ∙ sym a.alike.last_process ∙ a.counted;
      alike = alike;
      noted = noted_to b.table.events l.notes w.table.events v.table.events (a.alike.events ∙ sym alike.events) a.noted;
      past = a.past;
      ordered = a.ordered;
    }

none_more : (n : ℕ) → n ≡ n + 0
none_more n = omega arith

-- ---- events in which children have no part

call_told : (m : Message) (o : Option Knowledge) → (work_on_message m o).call ≡ calls.Nothing
unfolding heard_by
call_told m None = refl
call_told m (Some k) = refl

call_joined : (w : World) (name : List ℕ) (launch : ℕ) (b : Bool) → (work_of_join w name launch b).call ≡ calls.Nothing
call_joined w name launch true = refl
call_joined w name launch false = refl

call_delivered : (w : World) (m : Message) → (work_of_delivery w m).call ≡ calls.Nothing
unfolding work_of_delivery work_of_command
call_delivered w (messages.Join name launch) = call_joined w name launch _
call_delivered w (messages.Rows name launch rows) = call_told (messages.Rows name launch rows) (restarter w name)
call_delivered w (messages.Propose p) = refl
call_delivered w (messages.Ack name launch serial i row) =
    call_told (messages.Ack name launch serial i row) (restarter w name)
call_delivered w (messages.Nack name launch serial i why row) =
    call_told (messages.Nack name launch serial i why row) (restarter w name)
call_delivered w messages.AskView = refl
call_delivered w (messages.View v) = refl
call_delivered w (messages.AskChange from) = refl
call_delivered w (messages.Changes c) = refl
call_delivered w (messages.Order o) = call_told (messages.Order o) (restarter w o.restarter)

call_sent : (w : World) (o : Option Message) → (delivered_if w o).call ≡ calls.Nothing
call_sent w None = refl
call_sent w (Some m) = call_delivered w m

call_staged : (w : World) (k : Knowledge) (s : Stage)
    → (work_of_turn w k 0 spawns.Made (own_tick k s)).call ≡ calls.Nothing
unfolding work_of_turn answer_of call_of own_tick
call_staged w k Joining = refl
call_staged w k Listing = refl
call_staged w k Up = refl

call_own : (w : World) (o : Option Knowledge) → (own_ticked w o).call ≡ calls.Nothing
call_own w None = refl
call_own w (Some k) = call_staged w k k.stage

call_reported_by : (r : Report) (o : Option Knowledge) → (reported_by r o).call ≡ calls.Nothing
call_reported_by r None = refl
call_reported_by r (Some k) = refl

call_reported : (w : World) (o : Option Report) → (reported_to w o).call ≡ calls.Nothing
call_reported w None = refl
call_reported w (Some r) = call_reported_by r (holder w r.contract.holder)

call_timed : (n : ℕ) (o : Option Knowledge) → (work_of_timeout n o).call ≡ calls.Nothing
call_timed n None = refl
call_timed n (Some k) = refl

call_launched : (w : World) (name : List ℕ) (b : Bool) → (launched_if w name b).call ≡ calls.Nothing
unfolding work_of_command
call_launched w name true = refl
call_launched w name false = refl

pub call_alone : (w : World) (e : Event) → is_alone e ≡ true → (work_of_event w e).call ≡ calls.Nothing
unfolding work_of_event
call_alone w (events.Deliver place) a = call_sent w (sent_at w place)
call_alone w (events.Client edit) a = absurd cc
call_alone w events.Ask a = refl
call_alone w events.Orders a = refl
call_alone w (events.OwnTick name) a = call_own w (restarter w name)
call_alone w (events.Tick name n spawn) a = absurd cc
call_alone w (events.Process p what) a = absurd cc
call_alone w (events.Report c n) a = call_reported w (report_at w.table c n)
call_alone w (events.Timeout name n) a = call_timed n (restarter w name)
call_alone w (events.Crash name) a = absurd cc
call_alone w (events.Launch name) a = call_launched w name (is_launched w name)
call_alone w events.Boot a = absurd cc

-- ---- turns for instances

call_ticked : (w : World) (k : Knowledge) (n : ℕ) (a : SpawnAnswer)
    → (ticked_for w n a (Some k)).call
    ≡ call_of k.actor (reply_to_tick k n).call (answer_of w.table k.actor a (reply_to_tick k n).call)
unfolding work_of_turn
call_ticked w k n a = refl

no_made : (name : List ℕ) (c cookie : ℕ) (terms : Terms) (i : Option KnownInstance) (b : Option Begun)
    → IsUnmade (spawn_request name c cookie terms i b) spawns.Made → ⊥
no_made name c cookie terms (Some i) (Some b) u = u
no_made name c cookie terms None (Some b) u = u
no_made name c cookie terms None None u = u
no_made name c cookie terms (Some i) None u = u

no_made_in : (name : List ℕ) (c : Option ℕ) (cookie : ℕ) (terms : Terms) (i : Option KnownInstance)
    (b : Option Begun) → IsUnmade (wanted_in name c cookie terms i b) spawns.Made → ⊥
no_made_in name (Some c) cookie terms i b u = no_made name c cookie terms i b u
no_made_in name None cookie terms i b u = u

unmade_kill : (b : Bool) (t : Contracts) (actor id : ℕ) (a : SpawnAnswer) → is_held_by actor (contract t id) ≡ b
    → IsUnmade (kill_if b id) a → IsQuiet t (calls.Kill actor id)
unmade_kill true t actor id a e u = absurd u
unmade_kill false t actor id a e u = quiet_kill t actor id e

unmade_in : (t : Contracts) (k : Knowledge) (n : ℕ) (b : Option Begun) (c : Call) (a : SpawnAnswer)
    → IsUnmade (asked_by t k n b c) a → IsQuiet t (call_of k.actor c (answer_of t k.actor a c))
unfolding call_of answer_of
unmade_in t k n b asks.Nothing a u = quiet_nothing t
unmade_in t k n b asks.List a u = quiet_nothing t
unmade_in t k n b (asks.Adopt c) a u = quiet_adopt t k.actor c
unmade_in t k n b (asks.Spawn cookie terms) spawns.Made u =
    absurd (no_made_in k.name (next_contract t) cookie terms (find (is_instance n) k.instances) b u)
unmade_in t k n b (asks.Spawn cookie terms) spawns.Refused u = quiet_nothing t
unmade_in t k n b (asks.Spawn cookie terms) spawns.NotFollowed u = quiet_nothing t
unmade_in t k n b (asks.Kill c) a u = unmade_kill (is_held_by k.actor (contract t c)) t k.actor c a refl u

unmade_of : (w : World) (o : Option Knowledge) (n : ℕ) (a : SpawnAnswer) → IsUnmade (asked_of w.table o n) a
    → IsQuiet w.table (ticked_for w n a o).call
unmade_of w None n a u = quiet_nothing w.table
unmade_of w (Some k) n a u =
    quiet_as w.table (ticked_for w n a (Some k)).call
    (call_of k.actor (reply_to_tick k n).call (answer_of w.table k.actor a (reply_to_tick k n).call))
    (call_ticked w k n a)
    (unmade_in w.table k n (first_of (reply_to_tick k n).begun) (reply_to_tick k n).call a u)

quiet_unmade : (w : World) (name : List ℕ) (n : ℕ) (a : SpawnAnswer) → IsUnmade (request_of_turn w name n) a
    → IsQuiet w.table (work_of_event w (events.Tick name n a)).call
unfolding request_of_turn work_of_event
quiet_unmade w name n a u = unmade_of w (restarter w name) n a u

-- ---- a spawn that is made

-- the first run that is begun is the wanted one
record Wants (t : Contracts) (c : Call) (bs : List Begun) (want : MethodStart) : Type 0 where
  first : Begun
  rest : List Begun
  begun : bs ≡ first ∷ rest
  next : next_contract t ≡ Some want.contract
  call : c ≡ asks.Spawn want.cookie want.terms
  command : want.command ≡ first.command

wants_by : (name : List ℕ) (t : Contracts) (o : Option ℕ) (cookie : ℕ) (terms : Terms) (i : Option KnownInstance)
    (bs : List Begun) (want : MethodStart) → next_contract t ≡ o → wanted_in name o cookie terms i (first_of bs) ≡ Spawn want
    → Wants t (asks.Spawn cookie terms) bs want
wants_by name t None cookie terms i bs want e h = absurd cc
wants_by name t (Some c) cookie terms None [] want e h = absurd cc
wants_by name t (Some c) cookie terms None (b ∷ bs) want e h = absurd cc
wants_by name t (Some c) cookie terms (Some i) [] want e h = absurd cc
wants_by name t (Some c) cookie terms (Some i) (b ∷ bs) want e h =
    let with_new_contract : MethodStart =
    record {
      contract = c;
      cookie = cookie;
      style = i.row.duration;
      terms = terms;
      command = b.command;
      method = b.method;
      instance = i.name;
      restarter = name;
    } in
    let same : with_new_contract ≡ want = cc in
    record {
      first = b;
      rest = bs;
      begun = refl;
      next = e ∙ ap (λ x. Some x.contract) same;
      call = ap (λ x. asks.Spawn x.cookie x.terms) same;
      command = ap (λ x. x.command) (sym same);
    }

no_run_for : (b : Bool) (id : ℕ) (want : MethodStart) → kill_if b id ≡ Spawn want → ⊥
no_run_for true id want h = absurd cc
no_run_for false id want h = absurd cc

wants_in : (t : Contracts) (k : Knowledge) (n : ℕ) (bs : List Begun) (c : Call) (want : MethodStart)
    → asked_by t k n (first_of bs) c ≡ Spawn want → Wants t c bs want
wants_in t k n bs (asks.Spawn cookie terms) want h =
    wants_by k.name t (next_contract t) cookie terms (find (is_instance n) k.instances) bs want refl h
wants_in t k n bs (asks.Kill c) want h = absurd (no_run_for (is_held_by k.actor (contract t c)) c want h)
wants_in t k n bs asks.Nothing want h = absurd cc
wants_in t k n bs asks.List want h = absurd cc
wants_in t k n bs (asks.Adopt c) want h = absurd cc

made_answer : (t : Contracts) (actor id cookie : ℕ) (terms : Terms) (c : Call) → c ≡ asks.Spawn cookie terms
    → next_contract t ≡ Some id → answer_of t actor spawns.Made c ≡ spawn_answer spawns.Made (Some id)
unfolding answer_of
made_answer t actor id cookie terms c is next = ap (answer_of t actor spawns.Made) is
    ∙ ap (spawn_answer spawns.Made) next

made_call : (t : Contracts) (actor id cookie : ℕ) (terms : Terms) (c : Call) → c ≡ asks.Spawn cookie terms
    → next_contract t ≡ Some id → call_of actor c (answer_of t actor spawns.Made c) ≡ calls.Spawn actor cookie terms
unfolding call_of
made_call t actor id cookie terms c is next =
    ap (λ x. call_of actor x (answer_of t actor spawns.Made c)) is
    ∙ ap (λ x. call_of actor (asks.Spawn cookie terms) x) (made_answer t actor id cookie terms c is next)

-- the run that is shown
abbrev first_start : ℕ → Begun → List Start
first_start id b =
    start_if (id == 0)
    (record {
      contract = id;
      cookie = bits_of_cookie (record { instance = b.instance; run = b.run; method = b.method });
      command = b.command;
    })

begun_is : (t : Contracts) (actor id cookie : ℕ) (terms : Terms) (c : Call) (bs rest : List Begun) (b : Begun)
    → c ≡ asks.Spawn cookie terms → next_contract t ≡ Some id → bs ≡ b ∷ rest
    → begun_items (begun_in c (answer_of t actor spawns.Made c)) bs ≡ map (begun_item id) (b ∷ rest)
begun_is t actor id cookie terms c bs rest b call next is =
    ap (λ x. begun_items (begun_in x (answer_of t actor spawns.Made c)) bs) call
    ∙ ap (λ x. begun_items (begun_in (asks.Spawn cookie terms) x) bs) (made_answer t actor id cookie terms c call next)
    ∙ ap (map (begun_item id)) is

made_items : (w : World) (k : Knowledge) (n id cookie : ℕ) (terms : Terms) (r : Reply) (b : Begun) (rest : List Begun)
    → r.call ≡ asks.Spawn cookie terms → next_contract w.table ≡ Some id → r.begun ≡ b ∷ rest
    → starts (work_of_turn w k n spawns.Made r).items ≡ first_start id b ++ starts (map (begun_item id) rest)
unfolding work_of_turn
made_items w k n id cookie terms r b rest is_call next is =
    let answer = answer_of w.table k.actor spawns.Made r.call in
    let call = call_of k.actor r.call answer in
    between (held_items k r.taken) (begun_items (begun_in r.call answer) r.begun) (emptied_items w.table call)
    (held_none k r.taken) (emptied_none w.table call)
    ∙ ap starts (begun_is w.table k.actor id cookie terms r.call r.begun rest b is_call next is)

-- the event asks the table for the wanted run, and its items show that run first
record IsRun (w : World) (e : Event) (want : MethodStart) : Type 0 where
  actor : ℕ
  first : Begun
  rest : List Start
  call : (work_of_event w e).call ≡ calls.Spawn actor want.cookie want.terms
  items : starts (work_of_event w e).items ≡ first_start want.contract first ++ rest
  some : (want.contract == 0) ≡ false
  command : want.command ≡ first.command

record IsRunOf (w : World) (o : Option Knowledge) (n : ℕ) (want : MethodStart) : Type 0 where
  actor : ℕ
  first : Begun
  rest : List Start
  call : (ticked_for w n spawns.Made o).call ≡ calls.Spawn actor want.cookie want.terms
  items : starts (ticked_for w n spawns.Made o).items ≡ first_start want.contract first ++ rest
  some : (want.contract == 0) ≡ false
  command : want.command ≡ first.command

run_asked : (w : World) (o : Option Knowledge) (n : ℕ) (want : MethodStart) → asked_of w.table o n ≡ Spawn want
    → IsRunOf w o n want
run_asked w None n want h = absurd cc
run_asked w (Some k) n want h =
    let r : Reply = reply_to_tick k n in
    let wants = wants_in w.table k n r.begun r.call want h in
    record {
      actor = k.actor;
      first = wants.first;
      rest = starts (map (begun_item want.contract) wants.rest);
      call = call_ticked w k n spawns.Made
          ∙ made_call w.table k.actor want.contract want.cookie want.terms r.call wants.call wants.next;
      items = made_items w k n want.contract want.cookie want.terms r wants.first wants.rest wants.call wants.next
          wants.begun;
      some = numbered w.table want.contract wants.next;
      command = wants.command;
    }

run_is : (w : World) (name : List ℕ) (n : ℕ) (want : MethodStart) → request_of_turn w name n ≡ Spawn want
    → IsRun w (events.Tick name n spawns.Made) want
unfolding request_of_turn work_of_event
run_is w name n want h =
    let r = run_asked w (restarter w name) n want h in
    record {
      actor = r.actor;
      first = r.first;
      rest = r.rest;
      call = r.call;
      items = r.items;
      some = r.some;
      command = r.command;
    }

-- ---- runs that are noted

runs_more : (ns : List Note) (run : Run)
    → map start_by (record_of (ns ++ notes.Made run ∷ [])).runs ≡ map start_by (record_of ns).runs ++ start_by run ∷ []
runs_more ns run = ap (map start_by) (flat_map-append runs_of ns (notes.Made run ∷ []))
    ∙ map_push start_by (record_of ns).runs run

no_runs : (ns ms : List Note) → flat_map runs_of ms ≡ []
    → map start_by (record_of (ns ++ ms)).runs ≡ map start_by (record_of ns).runs
no_runs ns ms none =
    ap (map start_by) (flat_map-append runs_of ns ms ∙ ap (λ xs. flat_map runs_of ns ++ xs) none
    ∙ append-nil (flat_map runs_of ns))

found_no_runs : (es : List ContractEvent) → flat_map runs_of (map notes.Found es) ≡ []
found_no_runs [] = refl
found_no_runs (e ∷ es) = found_no_runs es

-- the contract and the process that a spawn makes
record IsShape (t u : Contracts) (cookie : ℕ) (terms : Terms) (m : Made) : Type 0 where
  id : ℕ
  process : ℕ
  is : u ≡ with_new_contract t 0 cookie terms id process
  number : process ≡ t.last_process + 1
  contract_is : m.contract ≡ id

spawn_parts : (t u : Contracts) (cookie : ℕ) (terms : Terms) (m : Made) (o n : Option ℕ)
    → n ≡ next_number t.last_process → spawned_as t 0 cookie terms o n ≡ Ok (u, m) → IsShape t u cookie terms m
spawn_parts t u cookie terms m None n e h = absurd cc
spawn_parts t u cookie terms m (Some id) None e h = absurd cc
spawn_parts t u cookie terms m (Some id) (Some q) e h =
    let P : Option ℕ → Type 0 = λ x. IfSome x (λ k. k ≡ t.last_process + 1) in
    let contract_at : Result (Contracts × Made) ContractFault → ℕ = contract_made in
    record {
      id = id;
      process = q;
      is = sym (ap (left_by_making t) h);
      number = subst P (sym e) (next_is t.last_process);
      contract_is = sym (ap contract_at h);
    }
  where
    contract_made : Result (Contracts × Made) ContractFault → ℕ
    contract_made (Ok x) = x.1.contract
    contract_made (Err f) = 0

spawn_shape : (t u : Contracts) (cookie : ℕ) (terms : Terms) (m : Made) → result_of_spawn t 0 cookie terms ≡ Ok (u, m)
    → IsShape t u cookie terms m
unfolding result_of_spawn
spawn_shape t u cookie terms m h =
    spawn_parts t u cookie terms m (next_number t.last_contract) (next_number t.last_process) refl h

pub ordered_by : (t u : Contracts) (call : ContractCall) → u ≡ table_after_contract_call t call → IsOrdered t
    → IsOrdered u
ordered_by t u call is o = let P : Contracts → Type 0 = IsOrdered in
    subst P (sym is) ((call_keeps t (Asked call)).ordered o)

spawn_called : (t u : Contracts) (cookie : ℕ) (terms : Terms) (m : Made)
    → result_of_spawn t 0 cookie terms ≡ Ok (u, m) → u ≡ table_after_contract_call t (calls.Spawn 0 cookie terms)
unfolding table_after_contract_call
spawn_called t u cookie terms m h = sym (ap (left_by_making t) h)

kill_called : (t u : Contracts) (id : ℕ) → result_of_kill t 0 id ≡ Ok u
    → u ≡ table_after_contract_call t (calls.Kill 0 id)
unfolding table_after_contract_call
kill_called t u id h = sym (ap (left_by t) h)

agree_spawned : {b : Before} (w v : World) (name : List ℕ) (n : ℕ) (want : MethodStart) (l m : Ledger)
    → request_of_turn w name n ≡ Spawn want → IsSpawned (run_of want) l m
    → v ≡ happens w (events.Tick name n spawns.Made) → AgreesSince b w l → AgreesSince b v m
agree_spawned {b} w v name n want l m asks s is a =
    let e : Event = events.Tick name n spawns.Made in
    let r = run_is w name n want asks in
    let run : Run = run_of want in
    let notes_are : m.notes ≡ l.notes ++ notes.Made run ∷ [] = ap (λ x. x.notes) s.is in
    let due : m.due ≡ l.due = ap (λ x. x.due) s.is in
    let given_back : Made = record { contract = run.contract; process = m.table.last_process } in
    let shape : IsShape l.table m.table want.cookie want.terms given_back =
    spawn_shape l.table m.table want.cookie want.terms given_back s.made in
    let bond : Contract = new_contract shape.id 0 want.cookie want.terms shape.process in
    let P : ContractCall → Type 0 = λ c. AreAlike (table_after_contract_call w.table c) m.table in
    let alike : AreAlike v.table m.table =
    world_alike w v e m.table is
    (subst P (sym r.call) (alike_spawn w.table l.table m.table r.actor want.cookie want.terms _ a.alike s.made)) in
    let Q : List Note → Type 0 = λ ns. IsNoted b.table.events ns l.table.events in
    let R : List ContractEvent → Type 0 = λ es. ArePast m.table es in
    record {
      starts = ap (λ x. b.starts ++ starts (reverse x.trail)) is
          ∙ ap (λ xs. b.starts ++ xs)
          (first_starts w e r.first want.contract r.actor want.cookie want.terms r.rest r.call r.items r.some)
          ∙ sym (append_assoc b.starts (starts (reverse w.trail))
          (record { contract = want.contract; cookie = Ok want.cookie; command = r.first.command } ∷ []))
          ∙ ap (λ xs. xs ++ record { contract = want.contract; cookie = Ok want.cookie; command = r.first.command }
          ∷ []) a.starts
          ∙ ap (λ c. map start_by (record_of l.notes).runs
          ++ record { contract = want.contract; cookie = Ok want.cookie; command = c } ∷ []) (sym r.command)
          ∙ sym (ap (λ ns. map start_by (record_of ns).runs) notes_are ∙ runs_more l.notes run);
      made = made_back b.table.contracts (record_of m.notes).runs v.table m.table alike
          (made_to b.table.contracts ((record_of l.notes).runs ++ run ∷ []) (record_of m.notes).runs
          (l.table.contracts ++ bond ∷ []) m.table.contracts
          (ap (λ ns. (record_of ns).runs) notes_are ∙ runs_made l.notes run)
          (ap (λ t. t.contracts) shape.is)
          (made_more b.table.contracts (record_of l.notes).runs run l.table.contracts bond
          (ap (λ c. record { contract = c; cookie = want.cookie; terms = want.terms }) shape.contract_is)
          (made_alike b.table.contracts (record_of l.notes).runs w.table l.table a.alike a.made)));
      counted = alike.last_process
          ∙ counted_more b.table.last_process l.notes (notes.Made run ∷ []) l.table.last_process m.table.last_process 1
          (sym a.alike.last_process ∙ a.counted) (ap (λ t. t.last_process) shape.is ∙ shape.number) refl
          ∙ ap (λ ns. b.table.last_process + given ns) (sym notes_are);
      alike = alike;
      noted = noted_to b.table.events m.notes l.table.events v.table.events (sym (alike.events ∙ ap (λ t. t.events) shape.is))
          (subst Q (sym notes_are)
          (noted_run b.table.events l.notes run l.table.events
          (noted_to b.table.events l.notes w.table.events l.table.events a.alike.events a.noted)));
      past = subst R (sym due)
          (still_past l.table m.table l.due
          (spawned_later l.table m.table shape.id shape.process (ap (λ t. t.members) shape.is)
          (ap (λ t. t.last_process) shape.is) shape.number) a.past);
      ordered = ordered_by l.table m.table (calls.Spawn 0 want.cookie want.terms)
          (spawn_called l.table m.table want.cookie want.terms _ s.made) a.ordered;
    }

-- ---- a kill that is carried out

record Kills (t : Contracts) (actor id : ℕ) (c : Call) : Type 0 where
  call : c ≡ asks.Kill id
  mine : is_held_by actor (contract t id) ≡ true

no_kill_for : (name : List ℕ) (c cookie : ℕ) (terms : Terms) (i : Option KnownInstance) (b : Option Begun) (id : ℕ)
    → spawn_request name c cookie terms i b ≡ Kill id → ⊥
no_kill_for name c cookie terms (Some i) (Some b) id h = absurd cc
no_kill_for name c cookie terms None (Some b) id h = absurd cc
no_kill_for name c cookie terms None None id h = absurd cc
no_kill_for name c cookie terms (Some i) None id h = absurd cc

no_kill_in : (name : List ℕ) (o : Option ℕ) (cookie : ℕ) (terms : Terms) (i : Option KnownInstance) (b : Option Begun)
    (id : ℕ) → wanted_in name o cookie terms i b ≡ Kill id → ⊥
no_kill_in name (Some c) cookie terms i b id h = no_kill_for name c cookie terms i b id h
no_kill_in name None cookie terms i b id h = absurd cc

kills_by : (b : Bool) (t : Contracts) (actor c id : ℕ) → is_held_by actor (contract t c) ≡ b → kill_if b c ≡ Kill id
    → Kills t actor id (asks.Kill c)
kills_by true t actor c id e h =
    let same : c ≡ id = cc in
    record { call = ap asks.Kill same; mine = ap (λ x. is_held_by actor (contract t x)) (sym same) ∙ e }
kills_by false t actor c id e h = absurd cc

kills_in : (t : Contracts) (k : Knowledge) (n : ℕ) (b : Option Begun) (c : Call) (id : ℕ)
    → asked_by t k n b c ≡ Kill id → Kills t k.actor id c
kills_in t k n b (asks.Spawn cookie terms) id h =
    absurd (no_kill_in k.name (next_contract t) cookie terms (find (is_instance n) k.instances) b id h)
kills_in t k n b (asks.Kill c) id h = kills_by (is_held_by k.actor (contract t c)) t k.actor c id refl h
kills_in t k n b asks.Nothing id h = absurd cc
kills_in t k n b asks.List id h = absurd cc
kills_in t k n b (asks.Adopt c) id h = absurd cc

kill_call : (t : Contracts) (actor id : ℕ) (c : Call) → c ≡ asks.Kill id
    → call_of actor c (answer_of t actor spawns.Made c) ≡ calls.Kill actor id
unfolding call_of
kill_call t actor id c asks = ap (λ x. call_of actor x (answer_of t actor spawns.Made x)) asks

record IsKillOf (t : Contracts) (id : ℕ) (call : ContractCall) : Type 0 where
  actor : ℕ
  is : call ≡ calls.Kill actor id
  mine : is_held_by actor (contract t id) ≡ true

kill_of : (w : World) (o : Option Knowledge) (n id : ℕ) → asked_of w.table o n ≡ Kill id
    → IsKillOf w.table id (ticked_for w n spawns.Made o).call
kill_of w None n id h = absurd cc
kill_of w (Some k) n id h =
    let r : Reply = reply_to_tick k n in
    let kills = kills_in w.table k n (first_of r.begun) r.call id h in
    record {
      actor = k.actor;
      is = call_ticked w k n spawns.Made ∙ kill_call w.table k.actor id r.call kills.call;
      mine = kills.mine;
    }

kill_is : (w : World) (name : List ℕ) (n id : ℕ) → request_of_turn w name n ≡ Kill id
    → IsKillOf w.table id (work_of_event w (events.Tick name n spawns.Made)).call
unfolding request_of_turn work_of_event
kill_is w name n id h = kill_of w (restarter w name) n id h

pub not_run : (a b : ContractCall) → a ≡ b → (IsSpawn b → ⊥) → (actor cookie : ℕ) (terms : Terms)
    → a ≡ calls.Spawn actor cookie terms → ⊥
not_run a b same other = other_call a (λ x. other (let P : ContractCall → Type 0 = IsSpawn in subst P same x))

agree_killed : {b : Before} (w v : World) (name : List ℕ) (n id : ℕ) (l m : Ledger) → request_of_turn w name n ≡ Kill id
    → IsKilled id l m → v ≡ happens w (events.Tick name n spawns.Made) → AgreesSince b w l → AgreesSince b v m
agree_killed {b} w v name n id l m asks s is a =
    let e : Event = events.Tick name n spawns.Made in
    let r = kill_is w name n id asks in
    let kill : Note = notes.Killed (record { contract = id; ends = _ }) in
    let notes_are : m.notes ≡ l.notes ++ kill ∷ [] = ap (λ x. x.notes) s.is in
    let due : m.due ≡ filter (is_other_event id) l.due = ap (λ x. x.due) s.is in
    let table : m.table ≡ killed_all l.table id = killed_shape l.table m.table 0 id s.killed in
    let P : ContractCall → Type 0 = λ c. AreAlike (table_after_contract_call w.table c) m.table in
    let alike : AreAlike v.table m.table =
    world_alike w v e m.table is
    (subst P (sym r.is) (alike_kill w.table l.table m.table r.actor id a.alike r.mine s.killed)) in
    let Q : List Note → Type 0 = λ ns. IsNoted b.table.events ns (killed_all l.table id).events in
    let R : List ContractEvent → Type 0 = λ es. ArePast m.table es in
    let S : Contracts → Type 0 = λ t. ArePast t (filter (is_other_event id) l.due) in
    record {
      starts = ap (λ x. b.starts ++ starts (reverse x.trail)) is
          ∙ ap (λ xs. b.starts ++ xs)
          (no_starts w e (not_run (work_of_event w e).call (calls.Kill r.actor id) r.is (λ x. x)))
          ∙ a.starts
          ∙ sym (ap (λ ns. map start_by (record_of ns).runs) notes_are ∙ no_runs l.notes (kill ∷ []) refl);
      made = made_back b.table.contracts (record_of m.notes).runs v.table m.table alike
          (made_to b.table.contracts (record_of l.notes).runs (record_of m.notes).runs l.table.contracts m.table.contracts
          (ap (λ ns. (record_of ns).runs) notes_are ∙ runs_stay l.notes (kill ∷ []) refl)
          (ap (λ t. t.contracts) table)
          (made_alike b.table.contracts (record_of l.notes).runs w.table l.table a.alike a.made));
      counted = alike.last_process
          ∙ counted_more b.table.last_process l.notes (kill ∷ []) l.table.last_process m.table.last_process 0
          (sym a.alike.last_process ∙ a.counted)
          (ap (λ t. t.last_process) table ∙ none_more l.table.last_process) refl
          ∙ ap (λ ns. b.table.last_process + given ns) (sym notes_are);
      alike = alike;
      noted = noted_to b.table.events m.notes (killed_all l.table id).events v.table.events
          (sym (alike.events ∙ ap (λ t. t.events) table))
          (subst Q (sym notes_are)
          (noted_kill b.table.events l.notes l.table id (noted_to b.table.events l.notes w.table.events l.table.events a.alike.events a.noted)));
      past = subst R (sym due)
          (subst S (sym table)
          (still_past l.table (killed_all l.table id) (filter (is_other_event id) l.due) (killed_later l.table id)
          (fewer_past l.table (is_other_event id) l.due a.past)));
      ordered = ordered_by l.table m.table (calls.Kill 0 id) (kill_called l.table m.table id s.killed) a.ordered;
    }

-- ---- an event that was found before

gone_news : (b : Option ℕ) (n : News) → b ≡ None → news_if (is_some b) n ≡ None
gone_news None n e = refl
gone_news (Some id) n e = absurd cc

past_news : (t u : Contracts) (id : ℕ) (kind : EventKind) → t.members ≡ u.members → IsPast u kind
    → news_in t (told_of t id kind) ≡ None
past_news t u id kinds.Empty same h = refl
past_news t u id (kinds.Exit p exit) same h = gone_news (home t.members p) _ (ap (λ ms. home ms p) same ∙ h.1)
past_news t u id (kinds.Fork p) same h = absurd h
past_news t u id (kinds.Core p) same h = absurd h
past_news t u id (kinds.Signal p) same h = absurd h
past_news t u id (kinds.Hwerr p) same h = absurd h

no_news : (t u : Contracts) (e : ContractEvent) → t.members ≡ u.members → IsPast u e.kind → news_of t e ≡ None
unfolding news_of
no_news t u e same h = past_news t u e.contract e.kind same h

agree_given : {b : Before} (w v : World) (e : ContractEvent) (l m : Ledger) → IsGiven e l m
    → v ≡ world_after_news (news_of w.table e) w → AgreesSince b w l → AgreesSince b v m
agree_given {b} w v e l m g is a =
    let P : List ContractEvent → Type 0 = λ es. ArePast l.table es in
    let past : ArePast l.table (e ∷ m.due) = subst P g.next a.past in
    let none : news_of w.table e ≡ None = no_news w.table l.table e a.alike.members past.0 in
    let world : v ≡ w = is ∙ ap (λ o. world_after_news o w) none in
    let Q : World → Type 0 = λ x. AgreesSince b x m in
    let table : m.table ≡ l.table = ap (λ k. k.table) g.is in
    let S : Contracts → Type 0 = λ t. ArePast t m.due in
    let same : AgreesSince b w (record l { due = m.due }) =
    record {
      starts = a.starts;
      made = a.made;
      counted = a.counted;
      alike = a.alike;
      noted = a.noted;
      past = past.1;
      ordered = a.ordered;
    } in
    let T : Ledger → Type 0 = λ k. AgreesSince b w k in
    subst Q (sym world) (subst T (sym g.is) same)

-- ---- an event that is found

first_of_home : (id p : ℕ) (ms : List Member) → option_map (λ m. m.contract) (find (is_process p) ms) ≡ Some id
    → (q : ℕ) × (option_map (λ m. m.process) (find (is_in id) ms) ≡ Some q)
first_of_home id p [] h = absurd cc
first_of_home id p (m ∷ ms) h = by (m.contract == id) refl (first_of_home id p ms)
  where
    Deeper : Type 0
    Deeper = option_map (λ x. x.contract) (find (is_process p) ms) ≡ Some id
        → (q : ℕ) × (option_map (λ x. x.process) (find (is_in id) ms) ≡ Some q)

    rest : (b : Bool) → (m.process == p) ≡ b → (m.contract == id) ≡ false → Deeper
        → option_map (λ x. x.contract) (cond b (Some m) (find (is_process p) ms)) ≡ Some id
        → (q : ℕ) × (option_map (λ x. x.process) (find (is_in id) ms) ≡ Some q)
    rest true e other deeper there = let same : m.contract ≡ id = cc in let no : true ≡ false =
        sym (eq-eqb m.contract id same) ∙ other in absurd cc
    rest false e other deeper there = deeper there

    by : (b : Bool) → (m.contract == id) ≡ b → Deeper → (q : ℕ)
        × (option_map (λ x. x.process) (cond b (Some m) (find (is_in id) ms)) ≡ Some q)
    by true e deeper = (m.process, refl)
    by false e deeper = rest (m.process == p) refl e deeper h

first_there : (id p : ℕ) (ms : List Member) → home ms p ≡ Some id → (q : ℕ) × (first_member id ms ≡ Some q)
first_there id p ms h =
    let r = first_of_home id p ms (sym (home_at ms p) ∙ h) in
    (r.0, ap (option_map (λ m. m.process)) (found_is (is_in id) ms) ∙ r.1)

there_news : (o : Option ℕ) (id : ℕ) (n : News) → o ≡ Some id → news_if (is_some o) n ≡ Some n
there_news None id n e = absurd cc
there_news (Some x) id n e = refl

-- to whom it happens in the node's world, and what
record IsSaid (t u : Contracts) (h : Happening) (p : ℕ) (e : ContractEvent) : Type 0 where
  process : ℕ
  what : ProcessEvent
  said : news_of t e ≡ Some (news what process)
  same : table_after_contract_call u (process_call process what) ≡ table_after_contract_call u (call_for p h)
  alike : AreAlike (table_after_contract_call t (process_call process what))
      (table_after_contract_call u (process_call process what))
  plain : IsSpawn (process_call process what) → ⊥

forks_alike : (t : Contracts) (id p q : ℕ) → home t.members p ≡ Some id → home t.members q ≡ Some id
    → table_after_contract_call t (calls.Fork q) ≡ table_after_contract_call t (calls.Fork p)
unfolding table_after_contract_call result_of_fork
forks_alike t id p q a b = ap (λ o. left_by_making t (forked_in t o (next_number t.last_process))) (b ∙ sym a)

news_told : (t : Contracts) (e : ContractEvent) (n : News) (id : ℕ) → told_of t e.contract e.kind ≡ Some n
    → home t.members n.process ≡ Some id → news_of t e ≡ Some n
unfolding news_of
news_told t e n id work_on_message there = ap (news_in t) work_on_message
    ∙ there_news (home t.members n.process) id n there

fork_told : (t : Contracts) (id child q : ℕ) (kind : EventKind) → kind ≡ kinds.Fork child
    → first_member id t.members ≡ Some q → told_of t id kind ≡ Some (news processes.Fork q)
fork_told t id child q kind is first = ap (told_of t id) is ∙ ap (option_map (news processes.Fork)) first

fail_told : (t : Contracts) (id p : ℕ) (f : Failure) (kind : EventKind) → kind ≡ failure_kind f p
    → told_of t id kind ≡ Some (news (processes.Fail f) p)
fail_told t id p Core kind is = ap (told_of t id) is
fail_told t id p Signal kind is = ap (told_of t id) is
fail_told t id p Hwerr kind is = ap (told_of t id) is

said_by : (t u : Contracts) (h : Happening) (p : ℕ) (e : ContractEvent) → AreAlike t u → IsOrdered u
    → home u.members p ≡ Some e.contract → KindOf h p e.kind → IsSaid t u h p e
said_by t u happenings.Fork p e a o member kind =
    let first = first_there e.contract p u.members member in
    let q : ℕ = first.0 in
    let there : home u.members q ≡ Some e.contract =
    home_of_first e.contract q u.last_process u.members o.members_ascend first.1 in
    let first_t : first_member e.contract t.members ≡ Some q =
    ap (λ ms. first_member e.contract ms) a.members ∙ first.1 in
    record {
      process = q;
      what = processes.Fork;
      said = news_told t e (news processes.Fork q) e.contract (fork_told t e.contract kind.0 q e.kind kind.1 first_t)
          (ap (λ ms. home ms q) a.members ∙ there);
      same = forks_alike u e.contract p q member there;
      alike = alike_fork t u q a;
      plain = λ x. x;
    }
said_by t u (happenings.Exit exit) p e a o member kind =
    record {
      process = p;
      what = processes.Exit exit;
      said = news_told t e (news (processes.Exit exit) p) e.contract (ap (told_of t e.contract) kind)
          (ap (λ ms. home ms p) a.members ∙ member);
      same = refl;
      alike = alike_exit t u p exit a;
      plain = λ x. x;
    }
said_by t u (happenings.Fail f) p e a o member kind =
    record {
      process = p;
      what = processes.Fail f;
      said = news_told t e (news (processes.Fail f) p) e.contract (fail_told t e.contract p f e.kind kind)
          (ap (λ ms. home ms p) a.members ∙ member);
      same = refl;
      alike = alike_fail t u p f a;
      plain = λ x. x;
    }

call_process : (w : World) (p : ℕ) (what : ProcessEvent)
    → (work_of_event w (events.Process p what)).call ≡ process_call p what
unfolding work_of_event work_of_call
call_process w p what = refl

agree_found : {b : Before} (w v : World) (e : ContractEvent) (l m : Ledger) → IsFound e l m
    → v ≡ world_after_news (news_of w.table e) w → AgreesSince b w l → AgreesSince b v m
agree_found {b} w v e l m f is a =
    let tells = telling l.table m.table e.contract f.process f.happening e m.due a.ordered f.member f.table f.brought in
    let s = said_by w.table l.table f.happening f.process e a.alike a.ordered f.member tells.kind in
    let event : Event = events.Process s.process s.what in
    let call : (work_of_event w event).call ≡ process_call s.process s.what = call_process w s.process s.what in
    let world : v ≡ happens w event = is ∙ ap (λ o. world_after_news o w) s.said in
    let notes_are : m.notes ≡ l.notes ++ map notes.Found (e ∷ m.due) = ap (λ x. x.notes) f.is in
    let P : ContractCall → Type 0 = λ c. AreAlike (table_after_contract_call w.table c) m.table in
    let Q : Contracts → Type 0 = λ t. AreAlike (table_after_contract_call w.table (process_call s.process s.what)) t in
    let alike : AreAlike v.table m.table =
    world_alike w v event m.table world (subst P (sym call) (subst Q (s.same ∙ sym f.table) s.alike)) in
    let R : List Note → Type 0 = λ ns. IsNoted b.table.events ns (l.table.events ++ e ∷ m.due) in
    record {
      starts = ap (λ x. b.starts ++ starts (reverse x.trail)) world
          ∙ ap (λ xs. b.starts ++ xs)
          (no_starts w event (not_run (work_of_event w event).call (process_call s.process s.what) call s.plain))
          ∙ a.starts
          ∙ sym (ap (λ ns. map start_by (record_of ns).runs) notes_are
          ∙ no_runs l.notes (map notes.Found (e ∷ m.due)) (found_no_runs (e ∷ m.due)));
      made = made_back b.table.contracts (record_of m.notes).runs v.table m.table alike
          (made_to b.table.contracts (record_of l.notes).runs (record_of m.notes).runs l.table.contracts m.table.contracts
          (ap (λ ns. (record_of ns).runs) notes_are
          ∙ runs_stay l.notes (map notes.Found (e ∷ m.due)) (found_no_runs (e ∷ m.due)))
          tells.contracts
          (made_alike b.table.contracts (record_of l.notes).runs w.table l.table a.alike a.made));
      counted = alike.last_process
          ∙ counted_more b.table.last_process l.notes (map notes.Found (e ∷ m.due)) l.table.last_process m.table.last_process
          (length (forks_by e.contract e.kind))
          (sym a.alike.last_process ∙ a.counted) tells.last (found_given m.table e m.due tells.past)
          ∙ ap (λ ns. b.table.last_process + given ns) (sym notes_are);
      alike = alike;
      noted = noted_to b.table.events m.notes (l.table.events ++ e ∷ m.due) v.table.events (sym (alike.events ∙ tells.events))
          (subst R (sym notes_are)
          (noted_found b.table.events l.notes l.table.events (e ∷ m.due)
          (noted_to b.table.events l.notes w.table.events l.table.events a.alike.events a.noted)));
      past = tells.past;
      ordered = ordered_by l.table m.table (call_for f.process f.happening) f.table a.ordered;
    }

-- ---- moves

pub agree_as : {b : Before} (v : World) (l m : Ledger) → m ≡ l → AgreesSince b v l → AgreesSince b v m
agree_as {b} v l m e a = let P : Ledger → Type 0 = λ k. AgreesSince b v k in subst P (sym e) a

agree_polled : {b : Before} (w v : World) (e : ContractEvent) (l m : Ledger) → IsPolled (Some e) l m
    → v ≡ world_after_news (news_of w.table e) w → AgreesSince b w l → AgreesSince b v m
agree_polled w v e l m (inl g) is a = agree_given w v e l m g is a
agree_polled w v e l m (inr f) is a = agree_found w v e l m f is a

agree_move : {b : Before} (w v : World) (l m : Ledger) → IsMove w v l m → AgreesSince b w l → AgreesSince b v m
agree_move w v l m (alone e part is same) a =
    agree_as v l m same
    (agree_quiet w v e l is
    (quiet_as w.table (work_of_event w e).call calls.Nothing (call_alone w e part) (quiet_nothing w.table)) a)
agree_move w v l m (unmade name n s u is same) a =
    agree_as v l m same (agree_quiet w v (events.Tick name n s) l is (quiet_unmade w name n s u) a)
agree_move w v l m (spawns_run name n want asks with_new_contract is) a =
    agree_spawned w v name n want l m asks with_new_contract is a
agree_move w v l m (kills name n id asks with_new_contract is) a =
    agree_killed w v name n id l m asks with_new_contract is a
agree_move w v l m (polled e initial_world is) a = agree_polled w v e l m initial_world is a

agree_by : {b : Before} (k : ℕ) (w v : World) (l m : Ledger) → AreMoves k w v l m → AgreesSince b w l → AgreesSince b v m
agree_by {b} zero w v l m h a = let P : World → Type 0 = λ x. AgreesSince b x m in subst P (sym h.0) (agree_as w l m h.1 a)
agree_by {b} (suc k) w v l m h a = agree_by k h.0 v h.1 m h.3 (agree_move w h.0 l h.1 h.2 a)

pub agree_moves : {b : Before} (w v : World) (l m : Ledger) → Moves w v l m → AgreesSince b w l → AgreesSince b v m
agree_moves {b} w v l m h a = agree_by h.0 w v l m h.1 a

-- ---- a first boot

first_call : (w : World) (k : Work) (rs : List CommandReply) → k.call ≡ calls.Nothing
    → (booted_as k rs).call ≡ calls.Nothing ⊎ (booted_as k rs).call ≡ calls.Reboot
first_call w k [] none = inl none
first_call w k (replies.Done ∷ rs) none = inr refl
first_call w k (r ∷ rs) none = inl none

fresh_by : (call : ContractCall) → (call ≡ calls.Nothing) ⊎ (call ≡ calls.Reboot)
    → (table_after_contract_call empty call ≡ empty) × (IsSpawn call → ⊥)
unfolding table_after_contract_call
fresh_by call (inl is) =
    (ap (table_after_contract_call empty) is, λ x. (let P : ContractCall → Type 0 = IsSpawn in subst P is x))
fresh_by call (inr is) =
    (ap (table_after_contract_call empty) is, λ x. (let P : ContractCall → Type 0 = IsSpawn in subst P is x))

boot_call : (w : World) → ((work_of_event w events.Boot).call ≡ calls.Nothing)
    ⊎ ((work_of_event w events.Boot).call ≡ calls.Reboot)
unfolding work_of_event work_of_command
boot_call w = first_call w (work_of_command w commands.Boot) (work_of_command w commands.Boot).reply refl

-- the ledger of children that were asked nothing yet
abbrev pub fresh : Ledger
fresh = record { notes = []; table = empty; due = []; pending = [] }

pub agree_first : (h : Holdings) → Agrees (happens (initial_world h) events.Boot) fresh
agree_first h =
    let w : World = initial_world h in
    let parts = fresh_by (work_of_event w events.Boot).call (boot_call w) in
    let table : (happens w events.Boot).table ≡ empty = table_of w events.Boot ∙ parts.0 in
    let P : Contracts → Type 0 = λ t. AreAlike t empty in
    let Q : Contracts → Type 0 = λ t. IsNoted [] [] t.events in
    let R : Contracts → Type 0 = λ t. AreMade [] [] t.contracts in
    record {
      starts = no_starts w events.Boot (other_call (work_of_event w events.Boot).call parts.1);
      made = subst R (sym table) ([], refl);
      counted = ap (λ t. t.last_process) table;
      alike = subst P (sym table)
          (record { contracts = refl; members = refl; events = refl; last_contract = refl; last_process = refl });
      noted = subst Q (sym table) ([], refl);
      past = tt;
      ordered = calls_order [];
    }
