-- The commands that the words of svcadm ask for.
use Rattle.std.specs.Prelude.{ℕ, List, [], ◌∷◌, map, length, ◌==◌, ◌&&◌, not, nat_eq, Bool, true, false, codes, if◌then◌else◌, Option, Some, None, option_map}
use Rattle.std.specs.Cmp.Lexicographic.{pointwise}
use Rattle.clap.specs.Words.{Row}
use Rattle.smf_model.specs.declared.held.InstanceName.{InstanceName}
use Rattle.smf_model.specs.declared.command.Edit.{Edit}
use Rattle.smf_model.specs.declared.command.Edit.TheVariants as edits
use Rattle.smf_model.specs.declared.command.Mark.{Mark}
use Rattle.smf_model.specs.declared.command.Mark.TheVariants as marks
use Rattle.smf_admin.specs.declared.requests.AdminCommand.{AdminCommand}
use Rattle.smf_admin.specs.declared.requests.AdminCommand.TheVariants as commands
use Rattle.smf_admin.specs.declared.requests.AdminFlags.{AdminFlags}
use Rattle.smf_admin.specs.declared.requests.AdminWords.{AdminWords}
use Rattle.smf_admin.specs.declared.requests.Asked.{Asked}
use Rattle.smf_admin.specs.declared.requests.Asked.TheVariants as answers
use Rattle.smf_admin.specs.declared.requests.Verb.{Verb}
use Rattle.smf_admin.specs.declared.requests.Verb.TheVariants as verbs
use Rattle.smf_admin.specs.declared.instances.Found.{Found}
use Rattle.smf_admin.specs.declared.instances.Found.TheVariants as finds
use Rattle.smf_admin.specs.Instances.{found_of}
use Rattle.smf_admin.specs.Words.{is_set, operands_of, clap_matches, svcadm_app}

-- ---- the command

abbrev pub verb_of : List ℕ → Option Verb
verb_of word =
    if pointwise nat_eq word (codes "enable") then Some verbs.Enable
    else if pointwise nat_eq word (codes "disable") then Some verbs.Disable
    else if pointwise nat_eq word (codes "restart") then Some verbs.Restart
    else if pointwise nat_eq word (codes "refresh") then Some verbs.Refresh
    else if pointwise nat_eq word (codes "clear") then Some verbs.Clear
    else if pointwise nat_eq word (codes "mark") then Some verbs.Mark
    else None

-- `-I` and `-t`
abbrev pub flags_of : List Row → AdminFlags
flags_of rows = record { at_once = is_set (codes "I") rows; temporary = is_set (codes "t") rows }

-- enable and disable take `-t`, mark both, the others none
abbrev pub is_taken : Verb → AdminFlags → Bool
is_taken verbs.Enable flags = not flags.at_once
is_taken verbs.Disable flags = not flags.at_once
is_taken verbs.Mark flags = true
is_taken _ flags = not flags.at_once && not flags.temporary

abbrev pub maintenance : Bool → Mark
maintenance at_once = if at_once then marks.MaintenanceNow else marks.Maintenance

-- degraded is never at once
abbrev pub mark_of : List ℕ → Bool → Option Mark
mark_of state at_once =
    if pointwise nat_eq state (codes "degraded") then Some marks.Degraded
    else if pointwise nat_eq state (codes "maintenance") then Some (maintenance at_once)
    else None

-- mark has the name of a state before the others
abbrev pub command_of_mark : Bool → List (List ℕ) → Option AdminCommand
command_of_mark at_once [] = None
command_of_mark at_once (state ∷ names) = option_map commands.Mark (mark_of state at_once)

-- `-t` of mark is without effect
abbrev pub command_of : Verb → AdminFlags → List (List ℕ) → Option AdminCommand
command_of verbs.Enable flags operands = Some (commands.Enable flags.temporary)
command_of verbs.Disable flags operands = Some (commands.Disable flags.temporary)
command_of verbs.Restart flags operands = Some commands.Restart
command_of verbs.Refresh flags operands = Some commands.Refresh
command_of verbs.Clear flags operands = Some commands.Clear
command_of verbs.Mark flags operands = command_of_mark flags.at_once operands

abbrev pub names_in : Verb → List (List ℕ) → List (List ℕ)
names_in verbs.Mark (state ∷ names) = names
names_in verb operands = operands

-- with one word or more that stands for an instance
abbrev pub with_names : Bool → List (List ℕ) → AdminCommand → Option AdminWords
with_names taken names command =
    if length names == 0 then None
    else if taken then Some (record { command = command; names = names })
    else None

abbrev pub words_with : Bool → List (List ℕ) → Option AdminCommand → Option AdminWords
words_with taken names None = None
words_with taken names (Some command) = with_names taken names command

abbrev pub admin_words : Verb → AdminFlags → List (List ℕ) → Option AdminWords
admin_words verb flags operands =
    words_with (is_taken verb flags) (names_in verb operands) (command_of verb flags operands)

abbrev pub read_rows : Verb → Option (List Row) → Option AdminWords
read_rows verb None = None
read_rows verb (Some rows) = admin_words verb (flags_of rows) (operands_of rows)

abbrev pub read_behind : Verb → List (List ℕ) → Option AdminWords
read_behind verb words = read_rows verb (clap_matches svcadm_app words)

abbrev pub read_by : Option Verb → List (List ℕ) → Option AdminWords
read_by None words = None
read_by (Some verb) words = read_behind verb words

-- the command and the words that stand for instances; none is bad usage
unfoldable pub read_words : List (List ℕ) → Option AdminWords
read_words [] = None
read_words (word ∷ words) = read_by (verb_of word) words

-- ---- what is asked of each instance

abbrev pub edit_of : AdminCommand → ℕ → Edit
edit_of (commands.Enable temporary) n = edits.Enable n true temporary
edit_of (commands.Disable temporary) n = edits.Enable n false temporary
edit_of commands.Restart n = edits.Restart n
edit_of commands.Refresh n = edits.Refresh n
edit_of commands.Clear n = edits.Clear n
edit_of (commands.Mark mark) n = edits.Mark n mark

abbrev pub asked_by : AdminCommand → Found → Asked
asked_by command (finds.One n) = answers.Edit (edit_of command n)
asked_by command (finds.NoMatch word) = answers.NoMatch word
asked_by command (finds.Several word count) = answers.Several word count

abbrev pub asked_of : List InstanceName → AdminCommand → List ℕ → Asked
asked_of view command word = asked_by command (found_of view word)

abbrev pub asked_all : List InstanceName → AdminWords → List Asked
asked_all view read = map (asked_of view read.command) read.names

-- an edit for each word after svcadm that stands for an instance, or why there is none; None is bad usage
unfoldable pub commands_of : List InstanceName → List (List ℕ) → Option (List Asked)
commands_of view words = option_map (asked_all view) (read_words words)
