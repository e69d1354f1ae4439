-- Lines that ask something of the node alone act by events in which children have no part.
use Rattle.std.proofs.Common.{◌≡◌, ◌⊎◌, inl, inr, ℕ, Bool, true, false, List, [], ◌∷◌, Option, Some, None, Result, Ok, Err, refl, sym, subst}
use Rattle.smf_admin.specs.declared.requests.Asked.{Asked}
use Rattle.smf_admin.specs.declared.requests.Asked.TheVariants as asks
use Rattle.smf_admin.specs.declared.list_options.Options.{Options}
use Rattle.smf_admin.specs.declared.instances.Found.{Found}
use Rattle.smf_admin.specs.declared.instances.Found.TheVariants as finds
use Rattle.smf_admin.specs.Requests.{commands_of}
use Rattle.smf_admin.specs.ListOptions.{options_of}
use Rattle.smf_admin.specs.Instances.{found_of}
use Rattle.smf_script.proofs.Preservation.{IsApart, apart_on, apart_self, apart_then}
use Rattle.smf_fmri.specs.Name.{name_of_text}
use Rattle.smf_model.specs.declared.command.Edit.{Edit}
use Rattle.smf_model.specs.declared.command.CommandReply.{CommandReply}
use Rattle.smf_model.specs.declared.held.Instance.{Instance}
use Rattle.smf_model.specs.declared.journal.RepoFault.{RepoFault}
use Rattle.smf_model.specs.Next.{current_instance as instance_found}
use Rattle.smf_node.specs.declared.fault.NodeFault.{NodeFault}
use Rattle.smf_node.specs.Marks.{last_delivered}
use Rattle.smf_script.specs.declared.request.NodeRequest.{NodeRequest}
use Rattle.smf_script.specs.declared.request.NodeRequest.TheVariants as requests
use Rattle.smf_script.specs.Failures.{Leaves, RequestFails}
use Rattle.smf_script.specs.Session.{Deed, Session, deed_of_command, asked_all, behind, crash_if, crash_in, deed_of_crash, success_deed, effect_of, deed_of_edit, progress_after_repeat, progress_behind, deed_of_reply, restarter_in, svcadm, svcadm_by, svcadm_name, svccfg, svcs, svcs_by, timed_out, timeout_if, timeout_in, timeout_on}
use Rattle.smf_svccfg.specs.Judged.{judgement_of}
use Rattle.smf_svccfg.specs.declared.fault.CfgFault.{CfgFault}
use Rattle.smf_svccfg.specs.declared.selection.Judged.{Judged}
use Rattle.smf_svccfg.specs.declared.selection.Judged.TheVariants as judgements
use Rattle.smf_world.specs.declared.event.Event.TheVariants as events
use Rattle.smf_world.specs.Schedule.{Progress, delivered_again, progress_with_loss, on, progress_with_refusals}
use Rattle.smf_world.specs.Worked.{is_launched, work_of_event}

abbrev pub Apart : Progress → Progress → Type 0
Apart p q = IsApart p.world q.world

self : (p : Progress) → Apart p p
self p = apart_self p.world

apart_to : (p q r : Progress) → Apart p q → r ≡ q → Apart p r
apart_to p q r a is = subst (λ (x : Progress). Apart p x) (sym is) a

-- ---- edits

replied_apart : (program : List ℕ) (p q : Progress) (rs : List CommandReply) → Apart p q
    → Apart p (deed_of_reply program q rs).progress
replied_apart program p q [] a = a
replied_apart program p q (r ∷ rs) a = a

given_apart : (program : List ℕ) (p : Progress) (edit : Edit) → Apart p (deed_of_edit program p edit).progress
unfolding deed_of_edit
given_apart program p edit =
    replied_apart program p (on p (events.Client edit)) (work_of_event p.world (events.Client edit)).reply
    (apart_on p (events.Client edit) refl)

asked_apart : (p : Progress) (one : Asked) → Apart p (deed_of_command p one).progress
unfolding deed_of_command
asked_apart p (asks.Edit edit) = given_apart svcadm_name p edit
asked_apart p (asks.NoMatch word) = self p
asked_apart p (asks.Several word count) = self p

all_apart : (p : Progress) (d : Deed) (all : List Asked) → Apart p d.progress → Apart p (asked_all d all).progress
unfolding asked_all
all_apart p d [] a = a
all_apart p d (one ∷ more) a =
    all_apart p (behind d (deed_of_command d.progress one)) more
    (apart_then p.world d.progress.world (deed_of_command d.progress one).progress.world a
    (asked_apart d.progress one))

svcadm_apart_by : (p : Progress) (o : Option (List Asked)) → Apart p (svcadm_by p o).progress
svcadm_apart_by p None = self p
svcadm_apart_by p (Some all) = all_apart p (success_deed p []) all (self p)

svcadm_apart : (p : Progress) (words : List (List ℕ)) → Apart p (svcadm p words).progress
unfolding svcadm
svcadm_apart p words = svcadm_apart_by p (commands_of p.world.now.names words)

judged_apart : (p : Progress) (r : Result Judged CfgFault) → Apart p (progress_behind p r)
judged_apart p (Ok judgements.Nothing) = self p
judged_apart p (Ok (judgements.Select found)) = self p
judged_apart p (Ok (judgements.Edit edit after)) = apart_on p (events.Client edit) refl
judged_apart p (Ok (judgements.Print text)) = self p
judged_apart p (Ok judgements.End) = self p
judged_apart p (Err fault) = self p

svccfg_apart : (s : Session) (line : List ℕ) → Apart s.progress (svccfg s line).session.progress
unfolding svccfg
svccfg_apart s line = judged_apart s.progress (judgement_of s.progress.world.now s.selection line)

-- ---- what is shown

svcs_apart_by : (p : Progress) (o : Option Options) → Apart p (svcs_by p o).progress
svcs_apart_by p None = self p
svcs_apart_by p (Some options) = self p

svcs_apart : (p : Progress) (words : List (List ℕ)) → Apart p (svcs p words).progress
unfolding svcs
svcs_apart p words = svcs_apart_by p (options_of words)

-- ---- restarters

timeout_apart_if : (b : Bool) (p : Progress) (n : ℕ) (name : List ℕ) → Apart p (timeout_if b p n name).progress
timeout_apart_if true p n name = apart_on p (events.Timeout name n) refl
timeout_apart_if false p n name = self p

timeout_apart_in : (p : Progress) (o : Option Instance) → Apart p (timeout_in p o).progress
timeout_apart_in p None = self p
timeout_apart_in p (Some i) = timeout_apart_if (is_launched p.world i.row.owner) p i.number i.row.owner

timeout_apart_on : (p : Progress) (found : Found) → Apart p (timeout_on p found).progress
timeout_apart_on p (finds.One n) = timeout_apart_in p (instance_found p.world.now n)
timeout_apart_on p (finds.NoMatch word) = self p
timeout_apart_on p (finds.Several word count) = self p

timeout_apart : (p : Progress) (word : List ℕ) → Apart p (timed_out p word).progress
unfolding timed_out
timeout_apart p word = timeout_apart_on p (found_of p.world.now.names word)

crash_apart_if : (b : Bool) (p : Progress) (name : List ℕ) → Apart p (crash_if b p name).progress
crash_apart_if true p name = apart_on p (events.Crash name) refl
crash_apart_if false p name = self p

crash_apart_in : (p : Progress) (o : Option (List ℕ)) → Apart p (crash_in p o).progress
crash_apart_in p None = self p
crash_apart_in p (Some name) = crash_apart_if (is_launched p.world name) p name

crash_apart : (p : Progress) (word : List ℕ) → Apart p (deed_of_crash p word).progress
unfolding deed_of_crash
crash_apart p word = crash_apart_in p (restarter_in (name_of_text word))

-- ---- messages that come again

again_apart : (p q : Progress) (places : List ℕ) → Apart p q → Apart p (delivered_again places q)
again_apart p q [] a = a
again_apart p q (place ∷ places) a =
    again_apart p (on q (events.Deliver place)) places
    (apart_then p.world q.world (on q (events.Deliver place)).world a (apart_on q (events.Deliver place) refl))

repeated_apart : (count : ℕ) (p : Progress) → Apart p (progress_after_repeat count p)
unfolding progress_after_repeat
repeated_apart count p = again_apart p p (last_delivered count p) (self p)

refusing_apart : (count : ℕ) (p : Progress) → Apart p (progress_with_refusals count p)
unfolding progress_with_refusals
refusing_apart count p = self p

losing_apart : (count : ℕ) (p : Progress) → Apart p (progress_with_loss count p)
unfolding progress_with_loss
losing_apart count p = self p

-- ---- lines

pub effect_apart : (s : Session) (request : NodeRequest) → Apart s.progress (effect_of s request).session.progress
unfolding effect_of
effect_apart s requests.Nothing = self s.progress
effect_apart s (requests.Svccfg line) = svccfg_apart s line
effect_apart s (requests.Svcadm words) = svcadm_apart s.progress words
effect_apart s (requests.Svcs words) = svcs_apart s.progress words
effect_apart s (requests.Refuse count) = refusing_apart count s.progress
effect_apart s (requests.Lose count) = losing_apart count s.progress
effect_apart s (requests.Again count) = repeated_apart count s.progress
effect_apart s (requests.Timeout word) = timeout_apart s.progress word
effect_apart s (requests.Crash word) = crash_apart s.progress word
effect_apart s requests.Trail = self s.progress
effect_apart s requests.Bad = self s.progress

leaves_apart : (stores : RepoFault → Type 0) (s : Session) (request : NodeRequest) (after : Progress) (e : NodeFault)
    → Leaves stores s request after e → Apart s.progress after
leaves_apart stores s (requests.Svcadm words) after e m =
    apart_to s.progress (asked_all (success_deed s.progress []) m.some.first).progress after
    (all_apart s.progress (success_deed s.progress []) m.some.first (self s.progress)) m.some.left
leaves_apart stores s (requests.Again count) after e m =
    apart_to s.progress (delivered_again m.first s.progress) after
    (again_apart s.progress s.progress m.first (self s.progress)) m.went
leaves_apart stores s _ after e m = absurd m

-- the node after a line that ended in mid-course
pub fails_apart : (stores : RepoFault → Type 0) (s : Session) (request : NodeRequest) (after : Progress) (e : NodeFault)
    → RequestFails stores s request after e → Apart s.progress after
fails_apart stores s request after e h = by h.left
  where
    by : (after ≡ s.progress) ⊎ (after ≡ (effect_of s request).session.progress) ⊎ Leaves stores s request after e
        → Apart s.progress after
    by (inl same) = apart_to s.progress s.progress after (self s.progress) same
    by (inr (inl all)) = apart_to s.progress (effect_of s request).session.progress after (effect_apart s request) all
    by (inr (inr m)) = leaves_apart stores s request after e m
