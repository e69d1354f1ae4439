-- Reasons as lines.
use Rattle.std.specs.Prelude.{ℕ, List, [], ◌∷◌, ◌++◌, flat_map, Option, Some, None, codes}
use Rattle.std.specs.Fmt.{decimal}
use Rattle.smf_state.specs.declared.state.State.{State}
use Rattle.smf_state.specs.States.{state_text}
use Rattle.smf_method.specs.declared.fault.MethodFault.{MethodFault}
use Rattle.smf_method.specs.declared.fault.MethodFault.TheVariants as method_faults
use Rattle.smf_method.specs.Tokens.{method_text}
use Rattle.smf_links.specs.declared.grouping.Grouping.{Grouping}
use Rattle.smf_links.specs.declared.grouping.Grouping.TheVariants.{RequireAll, RequireAny, OptionalAll, ExcludeAll}
use Rattle.smf_dep.specs.declared.fault.DependencyFault.{DependencyFault}
use Rattle.smf_dep.specs.declared.fault.DependencyFault.TheVariants.{Memory, BadGrouping, BadRestartOn, PathType, BadEntity}
use Rattle.smf_reasons.specs.declared.reason.Reason.{Reason}
use Rattle.smf_reasons.specs.declared.reason.Reason.TheVariants as reasons
use Rattle.smf_reasons.specs.declared.reason.Standing.{Standing}
use Rattle.smf_reasons.specs.declared.reason.Told.{Told}

abbrev pub grouping_text : Grouping → List ℕ
grouping_text RequireAll = codes "require_all"
grouping_text RequireAny = codes "require_any"
grouping_text OptionalAll = codes "optional_all"
grouping_text ExcludeAll = codes "exclude_all"

-- the property that can't be read
abbrev pub property_text : DependencyFault → List ℕ
property_text Memory = codes "memory"
property_text BadGrouping = codes "grouping"
property_text BadRestartOn = codes "restart_on"
property_text PathType = codes "type"
property_text BadEntity = codes "entities"

-- the part of a method that can't be read
abbrev pub part_text : MethodFault → List ℕ
part_text method_faults.Memory = codes "memory"
part_text method_faults.NoExec = codes "exec"
part_text method_faults.BadTimeout = codes "timeout_seconds"
part_text (method_faults.BadToken place) = codes "exec, token at " ++ decimal place
part_text method_faults.BadDuration = codes "startd/duration"
part_text method_faults.BadIgnore = codes "startd/ignore_error"

-- the state that it is in, or that it is absent
abbrev pub state_or_absent : Option State → List ℕ
state_or_absent None = codes "absent"
state_or_absent (Some state) = state_text state

abbrev pub standing_text : Standing → List ℕ
standing_text s = s.name ++ codes " is " ++ state_or_absent s.state

abbrev pub later_standing : Standing → List ℕ
later_standing s = codes ", " ++ standing_text s

abbrev pub standings_text : List Standing → List ℕ
standings_text [] = codes "on nothing is never met"
standings_text (s ∷ ss) = standing_text s ++ flat_map later_standing ss

abbrev pub later_name : List ℕ → List ℕ
later_name name = codes ", " ++ name

abbrev pub names_text : List (List ℕ) → List ℕ
names_text [] = []
names_text (name ∷ names) = name ++ flat_map later_name names

-- the words of a reason
abbrev pub words : Reason → List ℕ
words (reasons.UnderWay next) = codes "Transition to " ++ state_text next ++ codes " is under way."
words (reasons.Ordered to) = codes "Transition to " ++ state_text to ++ codes " is due."
words (reasons.Maintenance instance row) =
    codes "In maintenance until it is cleared (instance " ++ decimal instance ++ codes ", row " ++ decimal row
    ++ codes ")."
words reasons.UnreadableRestarter = codes "Property general/restarter can't be read."
words reasons.UnreadableSnapshot = codes "Snapshot running can't be read."
words (reasons.UnreadableGroup group fault) =
    codes "Dependency group " ++ group ++ codes " can't be read (" ++ property_text fault ++ codes ")."
words (reasons.NotMet group grouping standings) =
    codes "Dependency " ++ standings_text standings ++ codes " (group " ++ group ++ codes ", "
    ++ grouping_text grouping ++ codes ")."
words (reasons.NamesNothing group grouping standings) =
    codes "Dependency " ++ standings_text standings ++ codes " (group " ++ group ++ codes ", "
    ++ grouping_text grouping ++ codes ")."
words (reasons.RestarterIsOff standings) = codes "Restarter " ++ standings_text standings ++ codes "."
words reasons.NoStartMethod = codes "Method start is missing."
words (reasons.UnreadableMethod method fault) =
    codes "Method " ++ method_text method ++ codes " can't be read (" ++ part_text fault ++ codes ")."
words (reasons.OnCycle names) = codes "It depends on itself (" ++ names_text names ++ codes ")."
words reasons.Unrefreshed =
    codes "Its configuration was changed after it was last refreshed; svcadm refresh takes it up."

abbrev pub line_end : List ℕ
line_end = 10 ∷ []

abbrev pub reason_line : Reason → List ℕ
reason_line r = codes "Reason: " ++ words r ++ line_end

-- the block of an instance, with an empty line after it
abbrev pub block : Told → List ℕ
block t = t.name ++ line_end ++ codes " State: " ++ state_text t.state ++ line_end ++ flat_map reason_line t.reasons
    ++ line_end

abbrev pub block_if : Told → List Reason → List ℕ
block_if t [] = []
block_if t (r ∷ rs) = block t

-- nothing is said of an instance without a reason
unfoldable pub told_text : Told → List ℕ
told_text t = block_if t t.reasons

abbrev pub text_of : List Told → List ℕ
text_of all = flat_map told_text all

-- ---- flaws

-- the block of an instance that was checked, whose state says nothing
abbrev pub check_block : Told → List ℕ
check_block t = t.name ++ line_end ++ flat_map reason_line t.reasons ++ line_end

abbrev pub check_block_if : Told → List Reason → List ℕ
check_block_if t [] = []
check_block_if t (r ∷ rs) = check_block t

unfoldable pub checked_text : Told → List ℕ
checked_text t = check_block_if t t.reasons

abbrev pub check_text_of : List Told → List ℕ
check_text_of all = flat_map checked_text all
