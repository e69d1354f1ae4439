-- The request of a line.
use Rattle.std.specs.Prelude.{ℕ, nat_eq, nat_lt, List, [], ◌∷◌, codes, if◌then◌else◌, Option, Some, None}
use Rattle.std.specs.Cmp.Lexicographic.{pointwise}
use Rattle.std.specs.Option.{option_map_or}
use Rattle.smf_fmri.specs.Counts.{read_count}
use Rattle.smf_fmri.specs.Name.{strip}
use Rattle.smf_lines.specs.Lines.{text_in}
use Rattle.smf_svccfg.specs.Lines.{is_comment}
use Rattle.smf_svccfg.specs.Words.{is_blank, words}
use Rattle.smf_contract.specs.declared.event.Exit.TheVariants.{Code}
use Rattle.smf_contract.specs.declared.event.Failure.TheVariants.{Core, Signal, Hwerr}
use Rattle.smf_world.specs.declared.event.ProcessEvent.{ProcessEvent}
use Rattle.smf_world.specs.declared.event.ProcessEvent.TheVariants as processes
use Rattle.smf_script.specs.declared.request.ChildRequest.TheVariants as children
use Rattle.smf_script.specs.declared.request.NodeRequest.TheVariants as nodes
use Rattle.smf_script.specs.declared.request.Request.{Request}
use Rattle.smf_script.specs.declared.request.Request.TheVariants.{Children, Node}

-- ---- what stands after the first word

abbrev pub behind_blank : List ℕ → Option (List ℕ)
behind_blank [] = None
behind_blank (b ∷ bs) = if is_blank b then Some bs else None

-- a text without the blanks in front
unfoldable pub front : List ℕ → List ℕ
front [] = []
front (b ∷ bs) = if is_blank b then front bs else b ∷ bs

abbrev pub behind_one_blank : List ℕ → List ℕ
behind_one_blank text = option_map_or (λ behind. behind) (behind_blank text) []

-- the text after the blanks in front, a word and one blank
abbrev pub behind_word : List ℕ → List ℕ → List ℕ
behind_word word text = option_map_or behind_one_blank (strip word (front text)) []

-- ---- what stands after them

-- the count that stands alone
abbrev pub count_in : List (List ℕ) → Option ℕ
count_in (word ∷ []) = read_count word
count_in _ = None

-- the word that stands alone
abbrev pub word_in : List (List ℕ) → Option (List ℕ)
word_in (word ∷ []) = Some word
word_in _ = None

-- ---- lines with a count

abbrev pub settle_by : Option ℕ → Request
settle_by (Some rounds) = Children (children.Settle rounds)
settle_by None = Node nodes.Bad

abbrev pub refuse_by : Option ℕ → Request
refuse_by (Some count) = Node (nodes.Refuse count)
refuse_by None = Node nodes.Bad

abbrev pub lose_by : Option ℕ → Request
lose_by (Some count) = Node (nodes.Lose count)
lose_by None = Node nodes.Bad

abbrev pub again_by : Option ℕ → Request
again_by (Some count) = Node (nodes.Again count)
again_by None = Node nodes.Bad

-- ---- lines without arguments

abbrev pub trail_line : List (List ℕ) → Request
trail_line [] = Node nodes.Trail
trail_line _ = Node nodes.Bad

abbrev pub boot_line : List (List ℕ) → Request
boot_line [] = Children children.Boot
boot_line _ = Node nodes.Bad

-- ---- lines with the word of an instance or a restarter

abbrev pub timeout_by : Option (List ℕ) → Request
timeout_by (Some word) = Node (nodes.Timeout word)
timeout_by None = Node nodes.Bad

abbrev pub join_by : Option (List ℕ) → Request
join_by (Some word) = Children (children.Join word)
join_by None = Node nodes.Bad

abbrev pub crash_by : Option (List ℕ) → Request
crash_by (Some word) = Node (nodes.Crash word)
crash_by None = Node nodes.Bad

abbrev pub process_by : ProcessEvent → Option (List ℕ) → Request
process_by what (Some word) = Children (children.Process word what)
process_by what None = Node nodes.Bad

-- ---- exit FMRI CODE: a code is a byte

abbrev pub exit_of : Option ℕ → Option ProcessEvent
exit_of (Some code) = if nat_lt code 256 then Some (processes.Exit (Code code)) else None
exit_of None = None

abbrev pub exit_by : List ℕ → Option ProcessEvent → Request
exit_by word (Some what) = Children (children.Process word what)
exit_by word None = Node nodes.Bad

abbrev pub exit_line : List (List ℕ) → Request
exit_line (word ∷ code ∷ []) = exit_by word (exit_of (read_count code))
exit_line _ = Node nodes.Bad

-- ---- the line by its first word

-- a request in which something happens to processes, restarters or the machine
abbrev pub incident_request : List ℕ → List (List ℕ) → Request
incident_request first arguments =
    if pointwise nat_eq first (codes "exit") then exit_line arguments
    else if pointwise nat_eq first (codes "fork") then process_by processes.Fork (word_in arguments)
    else if pointwise nat_eq first (codes "core") then process_by (processes.Fail Core) (word_in arguments)
    else if pointwise nat_eq first (codes "signal") then process_by (processes.Fail Signal) (word_in arguments)
    else if pointwise nat_eq first (codes "hwerr") then process_by (processes.Fail Hwerr) (word_in arguments)
    else if pointwise nat_eq first (codes "timeout") then timeout_by (word_in arguments)
    else if pointwise nat_eq first (codes "join") then join_by (word_in arguments)
    else if pointwise nat_eq first (codes "crash") then crash_by (word_in arguments)
    else if pointwise nat_eq first (codes "boot") then boot_line arguments
    else Node nodes.Bad

-- a request to the schedule, or for its trail
abbrev pub schedule_request : List ℕ → List (List ℕ) → Request
schedule_request first arguments =
    if pointwise nat_eq first (codes "settle") then settle_by (count_in arguments)
    else if pointwise nat_eq first (codes "refuse") then refuse_by (count_in arguments)
    else if pointwise nat_eq first (codes "lose") then lose_by (count_in arguments)
    else if pointwise nat_eq first (codes "again") then again_by (count_in arguments)
    else if pointwise nat_eq first (codes "trail") then trail_line arguments
    else incident_request first arguments

abbrev pub asked_by : List ℕ → List (List ℕ) → Request
asked_by text [] = Node nodes.Nothing
asked_by text (first ∷ arguments) =
    if pointwise nat_eq first (codes "svccfg") then Node (nodes.Svccfg (behind_word (codes "svccfg") text))
    else if pointwise nat_eq first (codes "svcadm") then Node (nodes.Svcadm arguments)
    else if pointwise nat_eq first (codes "svcs") then Node (nodes.Svcs arguments)
    else schedule_request first arguments

-- the request of a text; a comment has its sign as the first byte
unfoldable pub asked_of : List ℕ → Request
asked_of text = if is_comment text then Node nodes.Nothing else asked_by text (words text)

-- ---- the line

abbrev pub request_in : Option (List ℕ) → Request
request_in None = Node nodes.Bad
request_in (Some text) = asked_of text

-- the request of a line, which stands without its end; one that is too long or no text is a bad one
unfoldable pub request_of : List ℕ → Request
request_of line = request_in (text_in line)
