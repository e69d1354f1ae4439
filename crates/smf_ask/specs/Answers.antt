-- Which lines of an answer say what is refused.
use Rattle.std.specs.Prelude.{ℕ, ◌++◌, List, [], ◌∷◌, Bool, true, false, not, ◌||◌, if◌then◌else◌, is_some, codes, flat_map}
use Rattle.std.specs.Str.Lines.{lines}
use Rattle.smf_fmri.specs.Name.{strip}

-- a line that a program says by its name
abbrev pub is_of : List ℕ → List ℕ → Bool
is_of program line = is_some (strip program line)

-- a line that one of the programs says by its name
abbrev pub is_refusal : List ℕ → Bool
is_refusal line = is_of (codes "smf: ") line || is_of (codes "svcs: ") line || is_of (codes "svcadm: ") line || is_of (codes "svccfg: ") line

-- whether a line is meant, if those are that say what is refused, or if all others are
abbrev pub is_meant : Bool → Bool → Bool
is_meant true is_refused = is_refused
is_meant false is_refused = not is_refused

-- a line with its end, if it is meant
abbrev pub line_if : Bool → List ℕ → List ℕ
line_if refused line = if is_meant refused (is_refusal line) then line ++ 10 ∷ [] else []

-- those lines of a text that say what is refused, or all others
unfoldable pub lines_if : Bool → List ℕ → List ℕ
lines_if refused text = flat_map (line_if refused) (lines text)
