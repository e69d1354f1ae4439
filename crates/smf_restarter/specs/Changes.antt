-- The changes of a restarter's knowledge, and the replies, each by what it does.
use Rattle.std.specs.Prelude.{ℕ, List, [], ◌∷◌, Option, Some, None, unwrap_or, option_to_list}
use Rattle.smf_fmri.specs.ByKey.{amend, put_all, without}
use Rattle.smf_wire.specs.declared.message.Known.{Known}
use Rattle.smf_wire.specs.declared.message.Message.{Message}
use Rattle.smf_restarter.specs.declared.known.KnownInstance.{KnownInstance}
use Rattle.smf_restarter.specs.declared.known.KnownRun.{KnownRun}
use Rattle.smf_restarter.specs.declared.known.Phase.{Phase}
use Rattle.smf_restarter.specs.declared.known.Phase.TheVariants as phases
use Rattle.smf_restarter.specs.declared.reply.Begun.{Begun}
use Rattle.smf_restarter.specs.declared.reply.Call.{Call}
use Rattle.smf_restarter.specs.declared.reply.Call.TheVariants as calls
use Rattle.smf_restarter.specs.declared.reply.KnowledgeChange.{KnowledgeChange}
use Rattle.smf_restarter.specs.declared.reply.Course.{Course}
use Rattle.smf_restarter.specs.declared.reply.Course.TheVariants as courses
use Rattle.smf_restarter.specs.declared.reply.Reply.{Reply}
use Rattle.smf_restarter.specs.declared.reply.CourseChange.{CourseChange}
use Rattle.smf_restarter.specs.Knowledge.{Knowledge, by_instance, by_run}

-- ---- changes

abbrev pub phase_on : Course → Phase
phase_on (courses.Running m) = phases.Running m
phase_on (courses.Ending e) = phases.Ending e

abbrev pub on_course : Course → KnownInstance → KnownInstance
on_course c i = record i { phase = phase_on c }

abbrev pub instances_after_turn : Option CourseChange → List KnownInstance → List KnownInstance
instances_after_turn None is = is
instances_after_turn (Some t) is = amend by_instance t.instance (on_course t.course) is

abbrev pub instances_without : Option ℕ → List KnownInstance → List KnownInstance
instances_without None is = is
instances_without (Some n) is = without by_instance n is

unfoldable pub knowledge_after : Knowledge → KnowledgeChange → Knowledge
knowledge_after k c =
    record k {
      stage = unwrap_or c.stage k.stage;
      serial = unwrap_or c.serial k.serial;
      instances = instances_without c.forget (instances_after_turn c.turn (put_all by_instance c.put k.instances));
      runs = put_all by_run (option_to_list c.run) (put_all by_run c.listed k.runs);
    }

abbrev pub no_change : KnowledgeChange
no_change = record { stage = None; serial = None; put = []; turn = None; forget = None; listed = []; run = None }

abbrev pub change_of_instance : KnownInstance → KnowledgeChange
change_of_instance i = record no_change { put = i ∷ [] }

abbrev pub change_of_course : ℕ → Course → KnowledgeChange
change_of_course n course = record no_change { turn = Some (record { instance = n; course = course }) }

abbrev pub change_to_forget : ℕ → KnowledgeChange
change_to_forget n = record no_change { forget = Some n }

abbrev pub change_of_run : KnownRun → KnowledgeChange
change_of_run r = record no_change { run = Some r }

-- ---- replies

abbrev pub nothing : Reply
nothing = record { change = no_change; messages = []; taken = []; begun = []; call = calls.Nothing }

abbrev pub reply_with_message : Message → Reply
reply_with_message m = record nothing { messages = m ∷ [] }

abbrev pub reply_with_call : Call → Reply
reply_with_call c = record nothing { call = c }

abbrev pub reply_with_method : Begun → Call → KnowledgeChange → Reply
reply_with_method b c change = record nothing { change = change; begun = b ∷ []; call = c }

abbrev pub reply_with_rows : List Known → KnowledgeChange → Reply
reply_with_rows rows change = record nothing { change = change; taken = rows }
