-- The proposals of a restarter.
use Rattle.std.specs.Prelude.{ℕ, ◌+◌, ◌&&◌, nat_lt, List, [], ◌∷◌, Bool, true, false, if◌then◌else◌, Option, Some, None, unwrap_or}
use Rattle.smf_fmri.specs.declared.limits.TheConstants.{MAX_COUNT}
use Rattle.smf_state.specs.declared.row.Row.{Row}
use Rattle.smf_state.specs.declared.state.State.{State}
use Rattle.smf_state.specs.declared.state.State.TheVariants.{Maintenance}
use Rattle.smf_state.specs.declared.state.Cause.{Cause}
use Rattle.smf_state.specs.declared.state.Duration.{Duration}
use Rattle.smf_state.specs.declared.step.Proposal.{Proposal}
use Rattle.smf_state.specs.declared.step.Step.{Step}
use Rattle.smf_state.specs.declared.step.Step.TheVariants as steps
use Rattle.smf_state.specs.Rows.{greatest_run}
use Rattle.smf_contract.specs.declared.cookie.Method.{Method}
use Rattle.smf_contract.specs.declared.cookie.Method.TheVariants as methods
use Rattle.smf_method.specs.declared.call.MethodCall.{MethodCall}
use Rattle.smf_wire.specs.declared.message.Known.{Known}
use Rattle.smf_wire.specs.declared.message.Message.TheVariants as messages
use Rattle.smf_wire.specs.declared.order.Order.{Order}
use Rattle.smf_wire.specs.declared.order.What.{What}
use Rattle.smf_wire.specs.declared.order.What.TheVariants as whats
use Rattle.smf_restarter.specs.declared.known.After.{After}
use Rattle.smf_restarter.specs.declared.known.After.TheVariants as afters
use Rattle.smf_restarter.specs.declared.known.KnownInstance.{KnownInstance}
use Rattle.smf_restarter.specs.declared.known.Phase.TheVariants.{Waiting}
use Rattle.smf_restarter.specs.declared.reply.Reply.{Reply}
use Rattle.smf_restarter.specs.Changes.{nothing, change_of_instance}
use Rattle.smf_restarter.specs.Ends.{ended_refresh, end_of_stop}
use Rattle.smf_restarter.specs.Knowledge.{Knowledge}

-- the greatest serial
abbrev pub greatest_serial : ℕ
greatest_serial = MAX_COUNT

-- the greatest number that a row can have
abbrev pub greatest_word : ℕ
greatest_word = 0xffff_ffff_ffff_ffff

abbrev pub proposal : Knowledge → KnownInstance → Step → Proposal
proposal k i step =
    record {
      proposer = k.name;
      launch = k.launch;
      serial = k.serial + 1;
      instance = i.instance;
      number = i.row.number + 1;
      step = step;
    }

abbrev pub waiting_instance : KnownInstance → Proposal → After → KnownInstance
waiting_instance i p after = record i { phase = Waiting p after }

-- a step of an instance is proposed under the next serial and the next number, if these are left
abbrev pub proposing_if : Bool → Knowledge → KnownInstance → Step → After → List Known → Reply
proposing_if true k i step after taken =
    record nothing {
      change = record (change_of_instance (waiting_instance i (proposal k i step) after))
          { serial = Some (k.serial + 1) };
      messages = messages.Propose (proposal k i step) ∷ [];
      taken = taken;
    }
proposing_if false k i step after taken = nothing

abbrev pub reply_with_proposal : Knowledge → KnownInstance → Step → After → List Known → Reply
reply_with_proposal k i step after taken =
    proposing_if (nat_lt k.serial greatest_serial && nat_lt i.row.number greatest_word) k i step after taken

-- ---- orders

-- a method that is to be begun for an order
abbrev pub owed_by : Order → Method → ℕ → MethodCall → After
owed_by o method run call = afters.Owes (record { method = method; run = run; revision = o.revision; call = call })

abbrev pub start_step : Order → ℕ → Duration → ℕ → Step
start_step o run duration ignore = steps.Start run (unwrap_or o.row.running 0) duration ignore o.revision

-- a start past the last run leads to maintenance
abbrev pub starting_if : Bool → Knowledge → KnownInstance → Order → List Known → MethodCall → Duration → ℕ → Reply
starting_if true k i o taken call duration ignore =
    let run = i.row.last + 1 in
    reply_with_proposal k i (start_step o run duration ignore) (owed_by o methods.Start run call) taken
starting_if false k i o taken call duration ignore = reply_with_proposal k i (steps.Move Maintenance) afters.Idle taken

abbrev pub reply_to_start : Knowledge → KnownInstance → Order → List Known → MethodCall → Duration → ℕ → Reply
reply_to_start k i = starting_if (nat_lt i.row.last greatest_run) k i

-- the method of a stop or a refresh, if a run is left for it
abbrev pub call_with_run : Row → Option MethodCall → Option MethodCall
call_with_run r None = None
call_with_run r (Some call) = if nat_lt r.last greatest_run then Some call else None

abbrev pub stopping_by : Knowledge → KnownInstance → Order → List Known → State → Cause → Option MethodCall → Reply
stopping_by k i o taken to cause (Some call) =
    reply_with_proposal k i (steps.Stop to cause (Some (i.row.last + 1)))
    (owed_by o methods.Stop (i.row.last + 1) call) taken
stopping_by k i o taken to cause None =
    reply_with_proposal k i (steps.Stop to cause None) (afters.Ending (end_of_stop to cause)) taken

abbrev pub reply_to_stop : Knowledge → KnownInstance → Order → List Known → State → Cause → Option MethodCall → Reply
reply_to_stop k i o taken to cause call = stopping_by k i o taken to cause (call_with_run i.row call)

abbrev pub refreshing_by : Knowledge → KnownInstance → Order → List Known → Option MethodCall → Reply
refreshing_by k i o taken (Some call) =
    reply_with_proposal k i (steps.Refresh (Some (i.row.last + 1)))
    (owed_by o methods.Refresh (i.row.last + 1) call) taken
refreshing_by k i o taken None =
    reply_with_proposal k i (steps.Refresh None) (afters.Ending (ended_refresh i.row)) taken

abbrev pub reply_to_refresh : Knowledge → KnownInstance → Order → List Known → Option MethodCall → Reply
reply_to_refresh k i o taken call = refreshing_by k i o taken (call_with_run i.row call)

abbrev pub ordered_what : Knowledge → KnownInstance → Order → List Known → What → Reply
ordered_what k i o taken (whats.To state) = reply_with_proposal k i (steps.Move state) afters.Idle taken
ordered_what k i o taken (whats.Start call duration ignore) = reply_to_start k i o taken call duration ignore
ordered_what k i o taken (whats.Stop to cause call) = reply_to_stop k i o taken to cause call
ordered_what k i o taken (whats.Refresh call) = reply_to_refresh k i o taken call

-- an order for an instance with which nothing is being done
abbrev pub reply_to_order : Knowledge → KnownInstance → Order → List Known → Reply
reply_to_order k i o taken = ordered_what k i o taken o.what
