-- The command that a line asks for.
use Rattle.std.specs.Prelude.{◌≡◌, ◌++◌, ℕ, ◌==◌, ◌&&◌, List, [], ◌∷◌, length, map, not, nat_eq, nat_lt, Bool, true, false, codes, if◌then◌else◌, Option, Some, None, option_map, Result, Ok, Err}
use Rattle.std.specs.Char.{is_ascii_alphanumeric}
use Rattle.std.specs.Cmp.Lexicographic.{pointwise}
use Rattle.std.specs.List.{position_or_len, before_first, after_first, ends_with}
use Rattle.smf_fmri.specs.Name.{is_word_byte}
use Rattle.smf_model.specs.declared.command.PropertyChange.{PropertyChange}
use Rattle.smf_model.specs.declared.command.PropertyChange.TheVariants as properties
use Rattle.smf_value.specs.declared.fault.NameFault.{NameFault}
use Rattle.smf_value.specs.declared.kind.Kind.{Kind}
use Rattle.smf_value.specs.declared.kind.Kind.TheVariants as kinds
use Rattle.smf_value.specs.Kinds.{kind_text}
use Rattle.smf_value.specs.Names.{IsNameText, read_name}
use Rattle.smf_svccfg.specs.declared.command.CfgCommand.{CfgCommand}
use Rattle.smf_svccfg.specs.declared.command.CfgCommand.TheVariants as commands
use Rattle.smf_svccfg.specs.declared.fault.LineFault.{LineFault}
use Rattle.smf_svccfg.specs.declared.fault.LineFault.TheVariants.{Unknown, Usage}
use Rattle.smf_svccfg.specs.declared.line.Line.{Line}
use Rattle.smf_svccfg.specs.declared.line.Line.TheVariants as lines
use Rattle.smf_svccfg.specs.declared.arguments.Target.{Target}
use Rattle.smf_svccfg.specs.declared.token.Token.{Token}
use Rattle.smf_svccfg.specs.declared.token.Token.TheVariants as tokens
use Rattle.smf_svccfg.specs.Tokens.{tokens_of, text_of_tokens}

-- ---- commands

abbrev pub command_text : CfgCommand → List ℕ
command_text commands.Select = codes "select"
command_text commands.Delete = codes "delete"
command_text commands.Unselect = codes "unselect"
command_text commands.List = codes "list"
command_text commands.ListGroups = codes "listpg"
command_text commands.ListProperties = codes "listprop"
command_text commands.ListSnapshots = codes "listsnap"
command_text commands.Add = codes "add"
command_text commands.AddGroup = codes "addpg"
command_text commands.DeleteGroup = codes "delpg"
command_text commands.DeleteProperty = codes "delprop"
command_text commands.SetProperty = codes "setprop"
command_text commands.AddValue = codes "addpropvalue"
command_text commands.DeleteValue = codes "delpropvalue"
command_text commands.SelectSnapshot = codes "selectsnap"
command_text commands.Revert = codes "revert"
command_text commands.End = codes "end"
command_text commands.Exit = codes "exit"
command_text commands.Quit = codes "quit"

-- the command of a word
abbrev pub command_from : List ℕ → Option CfgCommand
command_from word =
    if pointwise nat_eq word (codes "select") then Some commands.Select
    else if pointwise nat_eq word (codes "delete") then Some commands.Delete
    else if pointwise nat_eq word (codes "unselect") then Some commands.Unselect
    else if pointwise nat_eq word (codes "list") then Some commands.List
    else if pointwise nat_eq word (codes "listpg") then Some commands.ListGroups
    else if pointwise nat_eq word (codes "listprop") then Some commands.ListProperties
    else if pointwise nat_eq word (codes "listsnap") then Some commands.ListSnapshots
    else if pointwise nat_eq word (codes "add") then Some commands.Add
    else if pointwise nat_eq word (codes "addpg") then Some commands.AddGroup
    else if pointwise nat_eq word (codes "delpg") then Some commands.DeleteGroup
    else if pointwise nat_eq word (codes "delprop") then Some commands.DeleteProperty
    else if pointwise nat_eq word (codes "setprop") then Some commands.SetProperty
    else if pointwise nat_eq word (codes "addpropvalue") then Some commands.AddValue
    else if pointwise nat_eq word (codes "delpropvalue") then Some commands.DeleteValue
    else if pointwise nat_eq word (codes "selectsnap") then Some commands.SelectSnapshot
    else if pointwise nat_eq word (codes "revert") then Some commands.Revert
    else if pointwise nat_eq word (codes "end") then Some commands.End
    else if pointwise nat_eq word (codes "exit") then Some commands.Exit
    else if pointwise nat_eq word (codes "quit") then Some commands.Quit
    else None

-- ---- what words name

abbrev pub name_by : Result (List ℕ) NameFault → Option (List ℕ)
name_by (Ok name) = Some name
name_by (Err e) = None

-- the name that a word is
abbrev pub name_in : List ℕ → Option (List ℕ)
name_in word = name_by (read_name word)

-- the kind that a word names with a colon at its end
abbrev pub kind_in : List ℕ → Option Kind
kind_in word =
    if pointwise nat_eq word (codes "boolean:") then Some kinds.Boolean
    else if pointwise nat_eq word (codes "count:") then Some kinds.Count
    else if pointwise nat_eq word (codes "integer:") then Some kinds.Integer
    else if pointwise nat_eq word (codes "time:") then Some kinds.Time
    else if pointwise nat_eq word (codes "astring:") then Some kinds.Astring
    else if pointwise nat_eq word (codes "ustring:") then Some kinds.Ustring
    else if pointwise nat_eq word (codes "fmri:") then Some kinds.Fmri
    else None

-- 47 is '/'
abbrev pub is_slash : ℕ → Bool
is_slash b = b == 47

-- the parts before the first slash and after it
abbrev pub parts_at_slash : List ℕ → Option (List ℕ × List ℕ)
parts_at_slash word =
    if nat_lt (position_or_len is_slash word) (length word)
    then Some (before_first is_slash word, after_first is_slash word)
    else None

abbrev pub target_of : Option (List ℕ) → Option (List ℕ) → Option Target
target_of (Some group) (Some property) = Some (record { group = group; property = property })
target_of _ _ = None

abbrev pub target_at : Option (List ℕ × List ℕ) → Option Target
target_at None = None
target_at (Some parts) = target_of (name_in parts.0) (name_in parts.1)

-- the group and the property of a word GROUP/PROPERTY
abbrev pub target_in : List ℕ → Option Target
target_in word = target_at (parts_at_slash word)

-- true if a component begins after a byte of a service's name, or none if the byte cannot stand there
abbrev pub component_behind : Bool → ℕ → Option Bool
component_behind true b = if is_ascii_alphanumeric b then Some false else None
component_behind false b = if is_slash b then Some true else if is_word_byte b then Some false else None

abbrev pub components_by : (Bool → Bool) → Option Bool → Bool
components_by rest None = false
components_by rest (Some begins) = rest begins

-- true if a text goes on as components with slashes between them, of which one may just begin
abbrev pub are_components : Bool → List ℕ → Bool
are_components begins [] = not begins
are_components begins (b ∷ bs) = components_by (λ next. are_components next bs) (component_behind begins b)

-- one or more components with slashes between them, of any length
abbrev pub is_service_text : List ℕ → Bool
is_service_text word = are_components true word

-- ---- tokens

-- the text of a word, bare or quoted
abbrev pub text_in : Token → Option (List ℕ)
text_in tokens.Open = None
text_in tokens.Close = None
text_in (tokens.Bare word) = Some word
text_in (tokens.Quoted word) = Some word

abbrev pub no_tokens : List Token → Bool
no_tokens [] = true
no_tokens (t ∷ ts) = false

-- one word and nothing else
abbrev pub one_word : List Token → Option (List ℕ)
one_word (t ∷ []) = text_in t
one_word _ = None

-- one word, or none
abbrev pub word_or_none : List Token → Option (Option (List ℕ))
word_or_none [] = Some None
word_or_none (t ∷ []) = option_map (λ word. Some word) (text_in t)
word_or_none _ = None

abbrev pub onto : Option (List ℕ) → Option (List (List ℕ)) → Option (List (List ℕ))
onto (Some word) (Some others) = Some (word ∷ others)
onto _ _ = None

-- words up to a closing parenthesis, which is the last token
abbrev pub words_before_close : List Token → Option (List (List ℕ))
words_before_close [] = None
words_before_close (tokens.Close ∷ ts) = if no_tokens ts then Some [] else None
words_before_close (t ∷ ts) = onto (text_in t) (words_before_close ts)

-- one word, or words in parentheses
abbrev pub values_in : List Token → Option (List (List ℕ))
values_in (tokens.Open ∷ ts) = words_before_close ts
values_in ts = option_map (λ word. word ∷ []) (one_word ts)

abbrev pub ends_in_colon : List ℕ → Bool
ends_in_colon word = ends_with nat_eq word (codes ":")

abbrev pub with_kind : Option Kind → List Token → Option (Option Kind × List Token)
with_kind None ts = None
with_kind (Some kind) ts = Some (Some kind, ts)

-- a word that has to name a kind, as it ends in a colon and values follow
abbrev pub names_kind : List ℕ → List Token → Bool
names_kind word ts = ends_in_colon word && not (no_tokens ts)

-- the values after a command, and the kind before them. A first bare word that ends in a colon has to name a kind, if
-- more follows
abbrev pub kind_and_values : List Token → Option (Option Kind × List Token)
kind_and_values (tokens.Bare word ∷ ts) =
    if names_kind word ts then with_kind (kind_in word) ts else Some (None, tokens.Bare word ∷ ts)
kind_and_values ts = Some (None, ts)

-- ---- the tokens behind each command

abbrev pub line_or_usage : CfgCommand → Option Line → Result Line LineFault
line_or_usage command None = Err (Usage command)
line_or_usage command (Some line) = Ok line

-- a command with nothing after it
abbrev pub alone : Line → List Token → Option Line
alone line [] = Some line
alone line _ = None

abbrev pub add_by : Option (List ℕ) → Option Line
add_by None = None
add_by (Some word) = if is_service_text word then Some (lines.Add word) else None

abbrev pub delete_group_by : Option (List ℕ) → Option Line
delete_group_by None = None
delete_group_by (Some word) = option_map (λ name. lines.DeleteGroup name) (name_in word)

abbrev pub new_group : Option (List ℕ) → Option (List ℕ) → Bool → Option Line
new_group (Some name) (Some group_type) p = Some (lines.AddGroup name group_type p)
new_group _ _ p = None

abbrev pub group_by : Option (List ℕ) → Option (List ℕ) → Bool → Option Line
group_by (Some name) (Some group_type) p = new_group (name_in name) (name_in group_type) p
group_by _ _ p = None

-- 80 is 'P'
abbrev pub is_flag : Option (List ℕ) → Bool
is_flag None = false
is_flag (Some word) = pointwise nat_eq word (codes "P")

abbrev pub add_group : List Token → Option Line
add_group (name ∷ group_type ∷ []) = group_by (text_in name) (text_in group_type) false
add_group (name ∷ group_type ∷ flag ∷ []) =
    if is_flag (text_in flag) then group_by (text_in name) (text_in group_type) true else None
add_group _ = None

-- the group and the property of a token
abbrev pub target_by : Option (List ℕ) → Option Target
target_by None = None
target_by (Some word) = target_in word

abbrev pub change_of : List ℕ → PropertyChange → Line
change_of group change = lines.Property group change

abbrev pub delete_property_by : Option Target → Option Line
delete_property_by None = None
delete_property_by (Some target) = Some (change_of target.group (properties.Delete target.property))

abbrev pub delete_property : Option (List ℕ) → Option Line
delete_property word = delete_property_by (target_by word)

abbrev pub delete_value_by : Option Target → Option (List ℕ) → Option Line
delete_value_by (Some target) (Some value) =
    Some (change_of target.group (properties.DeleteValue target.property value))
delete_value_by _ _ = None

abbrev pub delete_value : List Token → Option Line
delete_value (target ∷ value ∷ []) = delete_value_by (target_by (text_in target)) (text_in value)
delete_value _ = None

abbrev pub add_value_by : Option Target → Option Kind → Option (List ℕ) → Option Line
add_value_by (Some target) kind (Some value) =
    Some (change_of target.group (properties.AddValue target.property kind value))
add_value_by _ kind _ = None

abbrev pub add_values : Option Target → Option (Option Kind × List Token) → Option Line
add_values target None = None
add_values target (Some values) = add_value_by target values.0 (one_word values.1)

abbrev pub add_value : List Token → Option Line
add_value (target ∷ ts) = add_values (target_by (text_in target)) (kind_and_values ts)
add_value _ = None

abbrev pub is_equals : Option (List ℕ) → Bool
is_equals None = false
is_equals (Some word) = pointwise nat_eq word (codes "=")

abbrev pub set_by : Option Target → Option Kind → Option (List (List ℕ)) → Option Line
set_by (Some target) kind (Some values) = Some (change_of target.group (properties.Set target.property kind values))
set_by _ kind _ = None

abbrev pub set_values : Option Target → Option (Option Kind × List Token) → Option Line
set_values target None = None
set_values target (Some values) = set_by target values.0 (values_in values.1)

abbrev pub set_property : List Token → Option Line
set_property (target ∷ sign ∷ ts) =
    if is_equals (text_in sign) then set_values (target_by (text_in target)) (kind_and_values ts) else None
set_property _ = None

-- the line of a command with these tokens after it; none if it cannot be used so
abbrev pub line_of_command : CfgCommand → List Token → Option Line
line_of_command commands.Select ts = option_map (λ word. lines.Select word) (one_word ts)
line_of_command commands.Delete ts = option_map (λ word. lines.Delete word) (one_word ts)
line_of_command commands.Unselect ts = alone lines.Unselect ts
line_of_command commands.List ts = alone lines.List ts
line_of_command commands.ListGroups ts = alone lines.ListGroups ts
line_of_command commands.ListProperties ts = alone lines.ListProperties ts
line_of_command commands.ListSnapshots ts = alone lines.ListSnapshots ts
line_of_command commands.Add ts = add_by (one_word ts)
line_of_command commands.AddGroup ts = add_group ts
line_of_command commands.DeleteGroup ts = delete_group_by (one_word ts)
line_of_command commands.DeleteProperty ts = delete_property (one_word ts)
line_of_command commands.SetProperty ts = set_property ts
line_of_command commands.AddValue ts = add_value ts
line_of_command commands.DeleteValue ts = delete_value ts
line_of_command commands.SelectSnapshot ts = option_map (λ word. lines.SelectSnapshot word) (word_or_none ts)
line_of_command commands.Revert ts = option_map (λ word. lines.Revert word) (word_or_none ts)
line_of_command commands.End ts = alone lines.End ts
line_of_command commands.Exit ts = alone lines.End ts
line_of_command commands.Quit ts = alone lines.End ts

-- ---- the line

-- 35 is '#'
abbrev pub is_comment : List ℕ → Bool
is_comment [] = false
is_comment (b ∷ bs) = b == 35

abbrev pub command_by : Option (List ℕ) → Option CfgCommand
command_by None = None
command_by (Some word) = command_from word

abbrev pub command_line : Option CfgCommand → List Token → Result Line LineFault
command_line None ts = Err Unknown
command_line (Some command) ts = line_or_usage command (line_of_command command ts)

abbrev pub line_in : List Token → Result Line LineFault
line_in [] = Ok lines.Nothing
line_in (first ∷ ts) = command_line (command_by (text_in first)) ts

abbrev pub line_by : Result (List Token) LineFault → Result Line LineFault
line_by (Err e) = Err e
line_by (Ok ts) = line_in ts

-- the command of a line; a comment and a blank line ask for nothing
unfoldable pub line_of : List ℕ → Result Line LineFault
line_of text = if is_comment text then Ok lines.Nothing else line_by (tokens_of text)

-- ---- how a line is written

abbrev pub command_token : CfgCommand → Token
command_token command = tokens.Bare (command_text command)

abbrev pub quoted_all : List (List ℕ) → List Token
quoted_all words = map (λ word. tokens.Quoted word) words

abbrev pub word_tokens : Option (List ℕ) → List Token
word_tokens None = []
word_tokens (Some word) = tokens.Quoted word ∷ []

abbrev pub flag_tokens : Bool → List Token
flag_tokens true = tokens.Bare (codes "P") ∷ []
flag_tokens false = []

-- 58 is ':'
abbrev pub kind_tokens : Option Kind → List Token
kind_tokens None = []
kind_tokens (Some kind) = tokens.Bare (kind_text kind ++ 58 ∷ []) ∷ []

abbrev pub target_token : List ℕ → List ℕ → Token
target_token group property = tokens.Quoted (group ++ 47 ∷ property)

abbrev pub change_tokens : List ℕ → PropertyChange → List Token
change_tokens group (properties.Set name kind values) =
    command_token commands.SetProperty ∷ target_token group name ∷ tokens.Bare (codes "=")
    ∷ (kind_tokens kind ++ tokens.Open ∷ (quoted_all values ++ tokens.Close ∷ []))
change_tokens group (properties.AddValue name kind value) =
    command_token commands.AddValue ∷ target_token group name ∷ (kind_tokens kind ++ tokens.Quoted value ∷ [])
change_tokens group (properties.DeleteValue name value) =
    command_token commands.DeleteValue ∷ target_token group name ∷ tokens.Quoted value ∷ []
change_tokens group (properties.Delete name) = command_token commands.DeleteProperty ∷ target_token group name ∷ []

abbrev pub tokens_for : Line → List Token
tokens_for lines.Nothing = []
tokens_for (lines.Select word) = command_token commands.Select ∷ tokens.Quoted word ∷ []
tokens_for (lines.Delete word) = command_token commands.Delete ∷ tokens.Quoted word ∷ []
tokens_for lines.Unselect = command_token commands.Unselect ∷ []
tokens_for lines.List = command_token commands.List ∷ []
tokens_for lines.ListGroups = command_token commands.ListGroups ∷ []
tokens_for lines.ListProperties = command_token commands.ListProperties ∷ []
tokens_for lines.ListSnapshots = command_token commands.ListSnapshots ∷ []
tokens_for (lines.Add word) = command_token commands.Add ∷ tokens.Quoted word ∷ []
tokens_for (lines.AddGroup name group_type p) =
    command_token commands.AddGroup ∷ tokens.Quoted name ∷ tokens.Quoted group_type ∷ flag_tokens p
tokens_for (lines.DeleteGroup name) = command_token commands.DeleteGroup ∷ tokens.Quoted name ∷ []
tokens_for (lines.Property group change) = change_tokens group change
tokens_for (lines.SelectSnapshot word) = command_token commands.SelectSnapshot ∷ word_tokens word
tokens_for (lines.Revert word) = command_token commands.Revert ∷ word_tokens word
tokens_for lines.End = command_token commands.End ∷ []

-- a line as it is written
abbrev pub line_text : Line → List ℕ
line_text l = text_of_tokens (tokens_for l)

abbrev pub IsChange : PropertyChange → Type 0
IsChange (properties.Set name kind values) = IsNameText name
IsChange (properties.AddValue name kind value) = IsNameText name
IsChange (properties.DeleteValue name value) = IsNameText name
IsChange (properties.Delete name) = IsNameText name

-- a line whose names are names
abbrev pub IsWritable : Line → Type 0
IsWritable (lines.Add word) = is_service_text word ≡ true
IsWritable (lines.AddGroup name group_type p) = IsNameText name × IsNameText group_type
IsWritable (lines.DeleteGroup name) = IsNameText name
IsWritable (lines.Property group change) = IsNameText group × IsChange change
IsWritable _ = Unit {0}
