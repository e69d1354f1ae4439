-- The words of svcadm and svcs, as clap reads those of a simple command.
use Rattle.std.specs.Prelude.{◌==◌, ℕ, List, [], ◌∷◌, length, Bool, true, false, codes, if◌then◌else◌, Option, Some, None, option_map, unwrap_or}
use Rattle.std.specs.Option.{option_map_or}
use Rattle.std.specs.Str.{bytes_eq}
use Rattle.clap.specs.Words.{App, Row, Rule, all_of, fault_of, first_of, found_of, matches_of, new_app, new_rule, rows_of, with_rule}
use Rattle.clap.specs.Simple.{on_top}
use Rattle.clap.specs.declared.builder.ArgAction.TheVariants.{Append, SetTrue}
use Rattle.clap.specs.declared.parser.matches.ArgMatches.{ArgMatches}

-- ---- what clap is told

-- a flag of one letter, which may stand once
abbrev pub flag : List ℕ → ℕ → Rule
flag id letter = record (new_rule id) { short = Some letter; action = Some SetTrue }

-- the words that are no flags, as many as there are
abbrev pub operands : Rule
operands = record (new_rule (codes "operand")) { action = Some Append }

-- no word stands for the program
abbrev pub no_flags : List ℕ → App
no_flags name = on_top (λ s. record s { no_binary_name = true }) (new_app name)

-- in the order in which they were added
abbrev pub with_rules : App → List Rule → App
with_rules app [] = app
with_rules app (r ∷ rs) = with_rules (with_rule app r) rs

-- the words after any command of svcadm: `[-I] [-t] [OPERAND ..]`
unfoldable pub svcadm_app : App
svcadm_app = with_rules (no_flags (codes "svcadm")) (flag (codes "I") 73 ∷ flag (codes "t") 116 ∷ operands ∷ [])

-- `[-H] [-a] [-d] [-D] [OPERAND ..]`
unfoldable pub svcs_app : App
svcs_app =
    with_rules (no_flags (codes "svcs"))
    (flag (codes "H") 72 ∷ flag (codes "a") 97 ∷ flag (codes "d") 100 ∷ flag (codes "D") 68 ∷ operands ∷ [])

-- ---- what clap reads

-- the rows that it found, of each flag and of the operands
abbrev pub rows_in : ArgMatches → List Row
rows_in m = rows_of (found_of m)

abbrev pub rows_if : Option ArgMatches → Option (List Row)
rows_if m = option_map rows_in m

-- the rows that it finds, if it takes the words; it takes none that ask for help
abbrev pub clap_matches : App → List (List ℕ) → Option (List Row)
clap_matches app words = if length (fault_of app words) == 0 then Some (matches_of app words) else None

abbrev pub is_set : List ℕ → List Row → Bool
is_set id rows = option_map_or (λ text. bytes_eq text (codes "true")) (first_of id rows) false

abbrev pub operands_of : List Row → List (List ℕ)
operands_of rows = unwrap_or (all_of (codes "operand") rows) []
