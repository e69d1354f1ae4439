-- What whoever keeps contracts is told of an instance: how what its start method began is ended, if the stop method is
-- `:kill`, when its log is renamed, and which of its methods name no time-out.
use Rattle.std.specs.Prelude.{ℕ, ◌&&◌, not, nat_eq, List, [], ◌∷◌, ◌++◌, Bool, true, false, Option, Some, None, is_none, is_some, option_map, codes, if◌then◌else◌}
use Rattle.std.specs.Cmp.Lexicographic.{pointwise}
use Rattle.smf_fmri.specs.Name.{strip}
use Rattle.smf_method.specs.Commands.{is_signal}
use Rattle.smf_method.specs.Properties.{timeout_in}
use Rattle.smf_model.specs.declared.held.Instance.{Instance}
use Rattle.smf_model.specs.declared.held.InstanceEntry.{InstanceEntry}
use Rattle.smf_model.specs.declared.held.Snapshot.{Snapshot}
use Rattle.smf_model.specs.Contents.{Holdings}
use Rattle.smf_model.specs.Next.{named_snapshot}
use Rattle.smf_snap.specs.Composed.{composed_group}
use Rattle.smf_state.specs.declared.state.Duration.{Duration}
use Rattle.smf_state.specs.declared.state.Duration.TheVariants.{Child, Contract, Transient}
use Rattle.smf_value.specs.Groups.{GroupRecord, PropertyRecord, property_of, text_in}
use Rattle.smf_value.specs.declared.value.Value.{Value}
use Rattle.smf_value.specs.declared.value.Value.TheVariants.{Count}
use Rattle.smf_watch.specs.declared.terms.Term.{Term}
use Rattle.smf_watch.specs.declared.terms.Term.TheVariants.{Stops, Logs, Untimed}
use Rattle.smf_watch.specs.Sizes.{is_same}
use Rattle.smf_watch.specs.declared.size.Size.{Size}

-- ---- how one is ended

abbrev pub is_child : Duration → Bool
is_child Child = true
is_child Contract = false
is_child Transient = false

abbrev pub timed_stop : Instance → List ℕ → Option (Option ℕ) → List Term
timed_stop i signal None = []
timed_stop i signal (Some timeout) =
    Stops (record { instance = i.name; signal = signal; timeout = timeout; child = is_child i.row.duration }) ∷ []

-- a signal that is named
abbrev pub named_stop : Instance → Option (List ℕ) → Option (Option ℕ) → List Term
named_stop i None timeout = []
named_stop i (Some signal) timeout = if is_signal signal then timed_stop i signal timeout else []

-- `:kill` stands for `:kill -TERM`, and another command ends nothing so
abbrev pub stop_by : Instance → Option (List ℕ) → Option (Option ℕ) → List Term
stop_by i None timeout = []
stop_by i (Some exec) timeout =
    if pointwise nat_eq exec (codes ":kill") then timed_stop i (codes "TERM") timeout
    else named_stop i (strip (codes ":kill -") exec) timeout

-- by the group `stop`: the signal that its command names, and its own time-out
abbrev pub stop_in : Instance → Option GroupRecord → List Term
stop_in i None = []
stop_in i (Some g) =
    stop_by i (text_in (property_of (codes "exec") g)) (timeout_in (property_of (codes "timeout_seconds") g))

abbrev pub composed_in : List ℕ → Option Snapshot → Option GroupRecord
composed_in name None = None
composed_in name (Some s) = composed_group s.instance_groups s.service_groups name

-- ---- when a log is renamed

-- one count
abbrev pub count_by : List Value → Option ℕ
count_by (Count n ∷ []) = Some n
count_by _ = None

abbrev pub count_in : Option PropertyRecord → Option ℕ
count_in None = None
count_in (Some p) = count_by p.values

abbrev pub log_by : Instance → Option ℕ → Option ℕ → Term
log_by i most kept = Logs (record { instance = i.name; most = most; kept = kept })

-- by the group `startd`: the most bytes of its log, and how many older ones are kept
abbrev pub log_in : Instance → Option GroupRecord → List Term
log_in i None = []
log_in i (Some g) =
    log_by i (count_in (property_of (codes "log_max") g)) (count_in (property_of (codes "log_keep") g)) ∷ []

-- ---- a method that names no time-out

-- it has a command; a time-out of 0, which is none, is named
abbrev pub is_untimed : Option GroupRecord → Bool
is_untimed None = false
is_untimed (Some g) =
    is_some (text_in (property_of (codes "exec") g)) && is_none (property_of (codes "timeout_seconds") g)

-- each method by its group; the start of a child service has succeeded when its process is there
abbrev pub untimed_in : Instance → Option Snapshot → Term
untimed_in i s =
    Untimed (record {
      instance = i.name;
      start = not (is_child i.row.duration) && is_untimed (composed_in (codes "start") s);
      stop = is_untimed (composed_in (codes "stop") s);
      refresh = is_untimed (composed_in (codes "refresh") s);
    })

-- ---- all instances

abbrev pub terms_by : Instance → Option Snapshot → List Term
terms_by i s =
    (stop_in i (composed_in (codes "stop") s) ++ log_in i (composed_in (codes "startd") s)) ++ untimed_in i s ∷ []

-- each by its running snapshot
abbrev pub terms_among : Holdings → List InstanceEntry → List Term
terms_among h [] = []
terms_among h (e ∷ es) = terms_by e.instance (named_snapshot h e.instance.row.running) ++ terms_among h es

abbrev pub terms_of : Holdings → List Term
terms_of h = terms_among h h.instances

-- ---- what is told

-- true if anything happened since it was told
abbrev pub is_new : Option Size → Size → Bool
is_new None now = true
is_new (Some before) now = not (is_same before now)

-- these were told after what was told before, if that is known
abbrev pub term_lists_if : Bool → List Term → Option (List (List Term)) → Option (List (List Term))
term_lists_if true terms was = option_map (λ first. first ++ terms ∷ []) was
term_lists_if false terms was = was
