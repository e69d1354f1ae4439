-- The replies of a restarter to messages.
use Rattle.std.specs.Prelude.{ℕ, ◌==◌, ◌&&◌, nat_lt, List, [], ◌∷◌, map, Bool, true, false, if◌then◌else◌, Option, Some, None, option_map}
use Rattle.smf_state.specs.declared.row.Row.{Row}
use Rattle.smf_state.specs.declared.step.Proposal.{Proposal}
use Rattle.smf_state.specs.declared.step.Step.{Step}
use Rattle.smf_state.specs.declared.step.Step.TheVariants as steps
use Rattle.smf_state.specs.declared.refusal.Why.{Why}
use Rattle.smf_state.specs.declared.refusal.Why.TheVariants as whys
use Rattle.smf_wire.specs.declared.message.Known.{Known}
use Rattle.smf_wire.specs.declared.message.Message.{Message}
use Rattle.smf_wire.specs.declared.message.Message.TheVariants as messages
use Rattle.smf_wire.specs.declared.order.Order.{Order}
use Rattle.smf_restarter.specs.declared.known.After.{After}
use Rattle.smf_restarter.specs.declared.known.After.TheVariants as afters
use Rattle.smf_restarter.specs.declared.known.KnownInstance.{KnownInstance}
use Rattle.smf_restarter.specs.declared.known.KnownRun.{KnownRun}
use Rattle.smf_restarter.specs.declared.known.Phase.{Phase}
use Rattle.smf_restarter.specs.declared.known.Phase.TheVariants.{Idle, Waiting, Owes, Ending as Ends}
use Rattle.smf_restarter.specs.declared.known.Stage.{Stage}
use Rattle.smf_restarter.specs.declared.known.Stage.TheVariants.{Joining, Listing, Up}
use Rattle.smf_restarter.specs.declared.reply.Reply.{Reply}
use Rattle.smf_restarter.specs.Changes.{change_to_forget, nothing, change_of_instance, reply_with_rows, no_change}
use Rattle.smf_restarter.specs.Knowledge.{Knowledge, known_instance}
use Rattle.smf_restarter.specs.Orders.{reply_to_order}
use Rattle.smf_restarter.specs.Runs.{known_run}

-- ---- orders

abbrev pub instance_of_order : Order → Known
instance_of_order o = record { instance = o.instance; name = o.name; row = o.row }

abbrev pub idle : Known → KnownInstance
idle x = record { instance = x.instance; name = x.name; row = x.row; phase = Idle }

abbrev pub anew : KnownInstance → Order → KnownInstance
anew i o = record i { row = o.row; phase = Idle }

-- an order that tells the row anew
abbrev pub ordered_anew : Knowledge → KnownInstance → Order → Reply
ordered_anew k i o = reply_to_order k (anew i o) o (instance_of_order o ∷ [])

-- an idle instance takes the row of an order with a greater number
abbrev pub ordered_by : Bool → Bool → Knowledge → KnownInstance → Order → Reply
ordered_by true greater k i o = reply_to_order k i o []
ordered_by false true k i o = ordered_anew k i o
ordered_by false false k i o = nothing

abbrev pub ordered_idle : Knowledge → KnownInstance → Order → Reply
ordered_idle k i o = ordered_by (o.row.number == i.row.number) (nat_lt i.row.number o.row.number) k i o

abbrev pub ordered_in : Knowledge → KnownInstance → Order → Phase → Reply
ordered_in k i o Idle = ordered_idle k i o
ordered_in k i o _ = nothing

-- an order for an instance that is not known: its row is taken first
abbrev pub ordered_first : Knowledge → Order → Reply
ordered_first k o = reply_to_order k (idle (instance_of_order o)) o (instance_of_order o ∷ [])

abbrev pub ordered_known : Knowledge → Order → Option KnownInstance → Reply
ordered_known k o None = ordered_first k o
ordered_known k o (Some i) = ordered_in k i o i.phase

abbrev pub heard_order : Knowledge → Order → Stage → Reply
heard_order k o Up = ordered_known k o (known_instance k o.instance)
heard_order k o _ = nothing

-- ---- rows

abbrev pub heard_rows : Knowledge → ℕ → List Known → Stage → Reply
heard_rows k launch rows Joining =
    if launch == k.launch then reply_with_rows rows (record no_change { stage = Some Listing; put = map idle rows })
    else nothing
heard_rows k launch rows _ = nothing

-- ---- answers to proposals

abbrev pub phase_after : After → Phase
phase_after afters.Idle = Idle
phase_after (afters.Owes owed) = Owes owed
phase_after (afters.Ending ending) = Ends ending

-- an answer is to a proposal of the same launch and serial
abbrev pub is_answer : ℕ → ℕ → Proposal → Bool
is_answer launch serial p = (p.launch == launch) && (p.serial == serial)

-- a proposal that is awaited, and what follows it
pub record Awaited : Type 0 where
  pub proposal : Proposal
  pub after : After

abbrev pub awaited_proposal : ℕ → ℕ → Phase → Option Awaited
awaited_proposal launch serial (Waiting p after) =
    if is_answer launch serial p then Some (record { proposal = p; after = after }) else None
awaited_proposal launch serial _ = None

-- the row is taken, and the instance goes on to a phase
abbrev pub taken_row : KnownInstance → Row → Known
taken_row i row = record { instance = i.instance; name = i.name; row = row }

abbrev pub taking_row : KnownInstance → Row → Phase → Option KnownRun → Reply
taking_row i row phase run =
    reply_with_rows (taken_row i row ∷ [])
    (record (change_of_instance (record i { row = row; phase = phase })) { run = run })

abbrev pub without_failure : KnownRun → KnownRun
without_failure r = record r { failed = false }

-- the note of a failure was taken: the run that was live is marked no more
abbrev pub run_after_note : Knowledge → KnownInstance → Step → Option KnownRun
run_after_note k i (steps.Note bits keep) = option_map without_failure (known_run k i.instance i.row.live)
run_after_note k i _ = None

abbrev pub acked_by : Knowledge → Row → KnownInstance → Option Awaited → Reply
acked_by k row i None = nothing
acked_by k row i (Some a) = taking_row i row (phase_after a.after) (run_after_note k i a.proposal.step)

abbrev pub reply_to_ack : Knowledge → ℕ → ℕ → Row → Option KnownInstance → Reply
reply_to_ack k launch serial row None = nothing
reply_to_ack k launch serial row (Some i) = acked_by k row i (awaited_proposal launch serial i.phase)

-- an instance that is gone, or that another restarter owns, is forgotten
abbrev pub refused_by : KnownInstance → Why → Option Row → Reply
refused_by i whys.Owner row = record nothing { change = change_to_forget i.instance }
refused_by i why None = record nothing { change = change_to_forget i.instance }
refused_by i why (Some row) = taking_row i row Idle None

abbrev pub nacked_by : Why → Option Row → KnownInstance → Option Awaited → Reply
nacked_by why row i None = nothing
nacked_by why row i (Some a) = refused_by i why row

abbrev pub reply_to_nack : ℕ → ℕ → Why → Option Row → Option KnownInstance → Reply
reply_to_nack launch serial why row None = nothing
reply_to_nack launch serial why row (Some i) = nacked_by why row i (awaited_proposal launch serial i.phase)

-- a message that came
unfoldable pub reply_to_message : Knowledge → Message → Reply
reply_to_message k (messages.Rows name launch rows) = heard_rows k launch rows k.stage
reply_to_message k (messages.Order o) = heard_order k o k.stage
reply_to_message k (messages.Ack name launch serial instance row) =
    reply_to_ack k launch serial row (known_instance k instance)
reply_to_message k (messages.Nack name launch serial instance why row) =
    reply_to_nack launch serial why row (known_instance k instance)
reply_to_message k _ = nothing
