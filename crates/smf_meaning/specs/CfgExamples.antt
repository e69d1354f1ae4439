-- How lines of svccfg are read, one example for each rule.
use Rattle.std.specs.Prelude.{◌≡◌, ℕ, List, [], ◌∷◌, true, codes, Option, Some, None, Ok, Err}
use Rattle.smf_model.specs.declared.command.PropertyChange.TheVariants.{Set}
use Rattle.smf_value.specs.declared.kind.Kind.{Kind}
use Rattle.smf_value.specs.declared.kind.Kind.TheVariants.{Astring, Count}
use Rattle.smf_svccfg.specs.declared.command.CfgCommand.TheVariants as commands
use Rattle.smf_svccfg.specs.declared.fault.LineFault.TheVariants.{Quote, Unknown, Usage}
use Rattle.smf_svccfg.specs.declared.line.Line.{Line}
use Rattle.smf_svccfg.specs.declared.line.Line.TheVariants as lines
use Rattle.smf_svccfg.specs.Lines.{line_of}

-- a blank line and a comment ask for nothing; a comment has its sign as the first byte
abbrev pub NothingIsAsked : Type 0
NothingIsAsked =
    (line_of (codes "") ≡ Ok lines.Nothing) × (line_of (codes "  ") ≡ Ok lines.Nothing)
    × (line_of (codes "# list") ≡ Ok lines.Nothing) × (line_of (codes " # list") ≡ Err Unknown)

-- any number of blanks stands before words, between them and after them
abbrev pub BlanksPartWords : Type 0
BlanksPartWords = line_of (codes "  select   web ") ≡ Ok (lines.Select (codes "web"))

abbrev pub port : Option Kind → List (List ℕ) → Line
port kind values = lines.Property (codes "web") (Set (codes "port") kind values)

-- one value stands alone, several in parentheses, which need no blanks
abbrev pub ValuesAreRead : Type 0
ValuesAreRead =
    (line_of (codes "setprop web/port = 80") ≡ Ok (port None (codes "80" ∷ [])))
    × (line_of (codes "setprop web/port = count: (80 8080)") ≡ Ok (port (Some Count) (codes "80" ∷ codes "8080" ∷ [])))
    × (line_of (codes "setprop web/port = count: ()") ≡ Ok (port (Some Count) []))

-- what stands in quotes is one word, with its blanks; a backslash takes the next byte as it is
abbrev pub QuotesKeepBlanks : Type 0
QuotesKeepBlanks =
    (line_of (codes "setprop web/port = astring: \"a  \\\"b\"") ≡ Ok (port (Some Astring) (codes "a  \"b" ∷ [])))
    × (line_of (codes "select \"web") ≡ Err (Quote 7))

-- a word with a colon at its end names a kind if values follow; alone it is a value
abbrev pub KindsAreNamed : Type 0
KindsAreNamed =
    (line_of (codes "setprop web/port = number: 80") ≡ Err (Usage commands.SetProperty))
    × (line_of (codes "setprop web/port = number:") ≡ Ok (port None (codes "number:" ∷ [])))

-- a group that is not kept has the flag P
abbrev pub GroupsMayNotStay : Type 0
GroupsMayNotStay =
    (line_of (codes "addpg run framework P") ≡ Ok (lines.AddGroup (codes "run") (codes "framework") true))
    × (line_of (codes "addpg run framework p") ≡ Err (Usage commands.AddGroup))

-- a component of a name begins with a letter or a digit
abbrev pub ComponentsBegin : Type 0
ComponentsBegin =
    (line_of (codes "add site/web") ≡ Ok (lines.Add (codes "site/web")))
    × (line_of (codes "add site//web") ≡ Err (Usage commands.Add))

-- three words end a session, and each stands alone
abbrev pub SessionsEnd : Type 0
SessionsEnd =
    (line_of (codes "end") ≡ Ok lines.End) × (line_of (codes "exit") ≡ Ok lines.End) × (line_of (codes "quit") ≡ Ok lines.End)
    × (line_of (codes "end now") ≡ Err (Usage commands.End))
