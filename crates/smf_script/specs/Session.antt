-- The effect of each line.
use Rattle.std.specs.Prelude.{◌≡◌, ℕ, ◌==◌, List, [], ◌∷◌, ◌++◌, ◌&&◌, not, nat_lt, position, reverse, codes, Bool, true, false, if◌then◌else◌, is_none, is_ok, is_some, Option, Some, None, Result, Ok, Err}
use Rattle.std.specs.List.{list_any}
use Rattle.smf_admin.specs.Requests.{commands_of}
use Rattle.smf_admin.specs.ListOptions.{needs_bodies, options_of}
use Rattle.smf_admin.specs.Output.{svcs_text}
use Rattle.smf_admin.specs.Messages.{no_match_text, several_text, svcadm_usage, svcs_usage}
use Rattle.smf_admin.specs.declared.list_options.Options.{Options}
use Rattle.smf_admin.specs.declared.output.Listing.{Listing}
use Rattle.smf_admin.specs.declared.requests.Asked.{Asked}
use Rattle.smf_admin.specs.declared.requests.Asked.TheVariants as asks
use Rattle.smf_model.specs.Contents.{Holdings}
use Rattle.smf_model.specs.Shown.{rows, view}
use Rattle.smf_admin.specs.declared.instances.Found.{Found}
use Rattle.smf_admin.specs.declared.instances.Found.TheVariants as finds
use Rattle.smf_admin.specs.Instances.{found_of}
use Rattle.smf_contract.specs.declared.contract.Contract.{Contract}
use Rattle.smf_contract.specs.declared.cookie.Cookie.{Cookie}
use Rattle.smf_contract.specs.Cookies.{cookie_of_bits}
use Rattle.smf_contract.specs.Entries.{Contracts, found_at, has_members}
use Rattle.smf_fmri.specs.declared.fault.FmriFault.{FmriFault}
use Rattle.smf_fmri.specs.Patterns.{named_instance}
use Rattle.smf_fmri.specs.Name.{name_of_text}
use Rattle.smf_model.specs.declared.held.Instance.{Instance}
use Rattle.smf_model.specs.Next.{current_instance as instance_found}
use Rattle.smf_node.specs.Marks.{last_delivered}
use Rattle.smf_model.specs.declared.command.Edit.{Edit}
use Rattle.smf_model.specs.declared.command.CommandReply.{CommandReply}
use Rattle.smf_model.specs.Refusals.{refusal}
use Rattle.smf_world.specs.TrailText.{line_end, trail_text}
use Rattle.smf_script.specs.declared.request.NodeRequest.{NodeRequest}
use Rattle.smf_script.specs.declared.request.NodeRequest.TheVariants as requests
use Rattle.smf_script.specs.CfgRuns.{failure_text}
use Rattle.smf_script.specs.CfgLines.{Done, at, ran}
use Rattle.smf_script.specs.declared.cfg_fault.SessionFault.{SessionFault}
use Rattle.smf_script.specs.declared.cfg_output.Output.{Output}
use Rattle.smf_svccfg.specs.Judged.{judgement_of}
use Rattle.smf_svccfg.specs.declared.fault.CfgFault.{CfgFault}
use Rattle.smf_svccfg.specs.declared.selection.Judged.{Judged}
use Rattle.smf_svccfg.specs.declared.selection.Judged.TheVariants as judgements
use Rattle.smf_svccfg.specs.declared.selection.Selection.{Selection}
use Rattle.smf_world.specs.Schedule.{Progress, delivered_again, progress_with_loss, on, progress_with_refusals}
use Rattle.smf_world.specs.Worked.{is_launched, work_of_event}
use Rattle.smf_world.specs.declared.event.Event.TheVariants as events
use Rattle.smf_world.specs.declared.schedule.Settled.{Settled}
use Rattle.smf_world.specs.declared.schedule.Settled.TheVariants.{Quiet, Busy}

-- ---- what is done to the node

-- the node after something that is done, the text that this gives, and whether nothing failed
pub record Deed : Type 0 where
  pub progress : Progress
  pub text : List ℕ
  pub fine : Bool

abbrev pub success_deed : Progress → List ℕ → Deed
success_deed p text = record { progress = p; text = text; fine = true }

abbrev pub failure_deed : Progress → List ℕ → Deed
failure_deed p text = record { progress = p; text = text; fine = false }

-- ---- edits

-- a refusal is told after the name of the program
abbrev pub told_text : List ℕ → Option (List ℕ) → List ℕ
told_text program None = []
told_text program (Some words) = program ++ words ++ line_end

-- the deed of an edit, by the reply to it
abbrev pub deed_of_reply : List ℕ → Progress → List CommandReply → Deed
deed_of_reply program p [] = success_deed p []
deed_of_reply program p (r ∷ rs) =
    record { progress = p; text = told_text program (refusal r); fine = is_none (refusal r) }

-- an edit is given to the repository
unfoldable pub deed_of_edit : List ℕ → Progress → Edit → Deed
deed_of_edit program p edit =
    deed_of_reply program (on p (events.Client edit)) (work_of_event p.world (events.Client edit)).reply

-- ---- svcadm

abbrev pub svcadm_name : List ℕ
svcadm_name = codes "svcadm: "

unfoldable pub deed_of_command : Progress → Asked → Deed
deed_of_command p (asks.Edit edit) = deed_of_edit svcadm_name p edit
deed_of_command p (asks.NoMatch word) = failure_deed p (no_match_text (codes "svcadm") word)
deed_of_command p (asks.Several word count) = failure_deed p (several_text (codes "svcadm") word count)

-- one deed, and another on what it left
abbrev pub behind : Deed → Deed → Deed
behind d e = record { progress = e.progress; text = d.text ++ e.text; fine = d.fine && e.fine }

-- all of them in turn, each on what the one before left, also if one is refused
unfoldable pub asked_all : Deed → List Asked → Deed
asked_all d [] = d
asked_all d (one ∷ more) = asked_all (behind d (deed_of_command d.progress one)) more

abbrev pub svcadm_by : Progress → Option (List Asked) → Deed
svcadm_by p None = failure_deed p svcadm_usage
svcadm_by p (Some all) = asked_all (success_deed p []) all

-- all words are looked up before the first is done
unfoldable pub svcadm : Progress → List (List ℕ) → Deed
svcadm p words = svcadm_by p (commands_of p.world.now.names words)

-- ---- svcs

-- the output of svcs; the bodies of snapshots are looked at only if dependencies are asked for
abbrev pub listing_of : Holdings → Options → Listing
listing_of h options = if needs_bodies options.chosen then svcs_text (view h).items options
    else svcs_text (rows h) options

abbrev pub deed_of_svcs : Progress → Listing → Deed
deed_of_svcs p listing = record { progress = p; text = listing.text; fine = listing.all_matched }

abbrev pub svcs_by : Progress → Option Options → Deed
svcs_by p None = failure_deed p svcs_usage
svcs_by p (Some options) = deed_of_svcs p (listing_of p.world.now options)

unfoldable pub svcs : Progress → List (List ℕ) → Deed
svcs p words = svcs_by p (options_of words)

-- ---- settle

abbrev pub settled_text : Settled → List ℕ
settled_text Quiet = codes "quiet" ++ line_end
settled_text Busy = codes "busy" ++ line_end

-- ---- what is asked of the schedule

-- the last messages that were delivered are delivered again, in their order
unfoldable pub progress_after_repeat : ℕ → Progress → Progress
progress_after_repeat count p = delivered_again (last_delivered count p) p

-- ---- processes

abbrev pub script_name : List ℕ
script_name = codes "smf"

abbrev pub no_member : List ℕ
no_member = codes "smf: no member" ++ line_end

abbrev pub no_restarter : List ℕ
no_restarter = codes "smf: no such restarter" ++ line_end

abbrev pub not_here : List ℕ
not_here = codes "smf: not here" ++ line_end

-- the run of an instance that a cookie names
abbrev pub run_of : ℕ → Option Cookie → Option ℕ
run_of n None = None
run_of n (Some c) = if c.instance == n then Some c.run else None

-- the run of an instance that a contract with members is of
abbrev pub run_in : Contracts → ℕ → Contract → Option ℕ
run_in t n c = if has_members c.id t.members then run_of n (cookie_of_bits c.cookie) else None

abbrev pub is_above : Option ℕ → Option ℕ → Bool
is_above (Some a) (Some b) = nat_lt b a
is_above _ _ = false

abbrev pub is_later_run : Contracts → ℕ → Option ℕ → Contract → Bool
is_later_run t n run c = is_above (run_in t n c) run

-- the contract is of some run of the instance, and none is of a later one
abbrev pub is_latest : Contracts → ℕ → Contract → Bool
is_latest t n c = is_some (run_in t n c) && not (list_any (is_later_run t n (run_in t n c)) t.contracts)

-- the contract of an instance that has members, of its latest run
abbrev pub latest : Contracts → ℕ → Option Contract
latest t n = found_at t.contracts (position (is_latest t n) t.contracts)

-- ---- restarters

abbrev pub timeout_if : Bool → Progress → ℕ → List ℕ → Deed
timeout_if true p n restarter = success_deed (on p (events.Timeout restarter n)) []
timeout_if false p n restarter = failure_deed p no_restarter

abbrev pub timeout_in : Progress → Option Instance → Deed
timeout_in p None = failure_deed p no_restarter
timeout_in p (Some i) = timeout_if (is_launched p.world i.row.owner) p i.number i.row.owner

abbrev pub timeout_on : Progress → Found → Deed
timeout_on p (finds.One n) = timeout_in p (instance_found p.world.now n)
timeout_on p (finds.NoMatch word) = failure_deed p (no_match_text script_name word)
timeout_on p (finds.Several word count) = failure_deed p (several_text script_name word count)

-- the method that runs for the instance that a word stands for takes too long
unfoldable pub timed_out : Progress → List ℕ → Deed
timed_out p word = timeout_on p (found_of p.world.now.names word)

-- the name of a restarter that a word is, in any form of a name
abbrev pub restarter_in : Result (List ℕ) FmriFault → Option (List ℕ)
restarter_in (Ok name) = named_instance name
restarter_in (Err fault) = None

abbrev pub crash_if : Bool → Progress → List ℕ → Deed
crash_if true p name = success_deed (on p (events.Crash name)) []
crash_if false p name = failure_deed p no_restarter

abbrev pub crash_in : Progress → Option (List ℕ) → Deed
crash_in p None = failure_deed p no_restarter
crash_in p (Some name) = crash_if (is_launched p.world name) p name

-- a restarter crashes
unfoldable pub deed_of_crash : Progress → List ℕ → Deed
deed_of_crash p word = crash_in p (restarter_in (name_of_text word))

-- ---- sessions

-- the node, and what svccfg has selected
pub record Session : Type 0 where
  pub progress : Progress
  pub selection : Selection

-- the session after a line, the text that the line gives, and whether it did not fail
pub record Effect : Type 0 where
  pub session : Session
  pub text : List ℕ
  pub fine : Bool

-- the effect of a deed, with this selection
abbrev pub with_selection : Selection → Deed → Effect
with_selection s d = record { session = record { progress = d.progress; selection = s }; text = d.text; fine = d.fine }

-- ---- svccfg

-- the node after a line that is judged so: an edit is an event of it
abbrev pub progress_behind : Progress → Result Judged CfgFault → Progress
progress_behind p (Ok (judgements.Edit edit after)) = on p (events.Client edit)
progress_behind p _ = p

-- what a line gave, or why it failed
abbrev pub given_text : Result Output SessionFault → List ℕ
given_text (Ok output) = output.text
given_text (Err fault) = failure_text fault

-- what svccfg makes of a line, with this node after it
abbrev pub effect_of_done : Progress → Done → Effect
effect_of_done p d = record {
  session = record { progress = p; selection = d.left.selection };
  text = given_text d.given;
  fine = is_ok d.given;
}

-- the line is done by svccfg over the node, as over any client
unfoldable pub svccfg : Session → List ℕ → Effect
svccfg s line =
    effect_of_done (progress_behind s.progress (judgement_of s.progress.world.now s.selection line))
    (ran (at s.progress.world.now s.selection) line)

-- ---- the line

abbrev pub bad_line : List ℕ
bad_line = codes "smf: bad line" ++ line_end

-- the effect of a line that asks something of the node alone
unfoldable pub effect_of : Session → NodeRequest → Effect
effect_of s requests.Nothing = with_selection s.selection (success_deed s.progress [])
effect_of s (requests.Svccfg line) = svccfg s line
effect_of s (requests.Svcadm words) = with_selection s.selection (svcadm s.progress words)
effect_of s (requests.Svcs words) = with_selection s.selection (svcs s.progress words)
effect_of s (requests.Refuse count) =
    with_selection s.selection (success_deed (progress_with_refusals count s.progress) [])
effect_of s (requests.Lose count) = with_selection s.selection (success_deed (progress_with_loss count s.progress) [])
effect_of s (requests.Again count) =
    with_selection s.selection (success_deed (progress_after_repeat count s.progress) [])
effect_of s (requests.Timeout word) = with_selection s.selection (timed_out s.progress word)
effect_of s (requests.Crash word) = with_selection s.selection (deed_of_crash s.progress word)
effect_of s requests.Trail =
    with_selection s.selection (success_deed s.progress (trail_text (reverse s.progress.world.trail)))
effect_of s requests.Bad = with_selection s.selection (failure_deed s.progress bad_line)

-- ---- how calls do it

-- a deed left this node, and put its text after what was there
pub record IsDeed (d : Deed) (progress : Progress) (old new : List ℕ) (no_fault : Bool) : Type 0 where
  pub node : progress ≡ d.progress
  pub texts : new ≡ old ++ d.text
  pub flag : no_fault ≡ d.fine

-- a line left this node and this selection, and put its text after what was there
pub record IsEffect (e : Effect) (progress : Progress) (selection : Selection) (old new : List ℕ)
    (no_fault : Bool) : Type 0 where
  pub node : progress ≡ e.session.progress
  pub chosen : selection ≡ e.session.selection
  pub texts : new ≡ old ++ e.text
  pub flag : no_fault ≡ e.fine
