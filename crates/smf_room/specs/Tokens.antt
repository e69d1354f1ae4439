-- The tokens of a contract, and the names of their files.
use Rattle.std.specs.Prelude.{ℕ, ◌<◌, ◌^◌, List, ◌++◌, codes, nat_eq, if◌then◌else◌, Option, Some, None, option_map}
use Rattle.std.specs.Cmp.Lexicographic.{pointwise}
use Rattle.std.specs.Fmt.{decimal}
use Rattle.smf_fmri.specs.Counts.{read_count}
use Rattle.smf_fmri.specs.Name.{strip}
use Rattle.smf_room.specs.declared.token.Token.{Token}
use Rattle.smf_room.specs.declared.token.Token.TheVariants.{Go, Void, Begun, Ended, Over}

abbrev pub token_name : Token → List ℕ
token_name Go = codes "go"
token_name Void = codes "void"
token_name Begun = codes "begun"
token_name (Ended status) = codes "ended-" ++ decimal status
token_name (Over (Some status)) = codes "over-" ++ decimal status
token_name (Over None) = codes "over-x"

-- a status that a name can be read for
abbrev pub IsReadable : Token → Type 0
IsReadable (Ended status) = status < 2 ^ 64
IsReadable (Over (Some status)) = status < 2 ^ 64
IsReadable t = Unit {0}

abbrev pub read_ended : List ℕ → Option Token
read_ended text = option_map (λ status. Ended status) (read_count text)

abbrev pub read_over : List ℕ → Option Token
read_over text =
    if pointwise nat_eq text (codes "x") then Some (Over None)
    else option_map (λ status. Over (Some status)) (read_count text)

abbrev pub read_rest : Option (List ℕ) → Option (List ℕ) → Option Token
read_rest (Some ended) over = read_ended ended
read_rest None (Some over) = read_over over
read_rest None None = None

abbrev pub read_token : List ℕ → Option Token
read_token name =
    if pointwise nat_eq name (codes "go") then Some Go
    else if pointwise nat_eq name (codes "void") then Some Void
    else if pointwise nat_eq name (codes "begun") then Some Begun
    else read_rest (strip (codes "ended-") name) (strip (codes "over-") name)
