-- The messages of svcadm and svcs.
use Rattle.std.specs.Prelude.{ℕ, ◌++◌, List, [], ◌∷◌, codes}
use Rattle.std.specs.Fmt.{decimal}

abbrev pub line_end : List ℕ
line_end = 10 ∷ []

-- a program says it of a word
unfoldable pub no_match_text : List ℕ → List ℕ → List ℕ
no_match_text program word = program ++ codes ": no instance matches " ++ word ++ line_end

unfoldable pub several_text : List ℕ → List ℕ → ℕ → List ℕ
several_text program word n = program ++ codes ": " ++ decimal n ++ codes " instances match " ++ word ++ line_end

abbrev pub svcadm_usage : List ℕ
svcadm_usage = codes "svcadm: bad usage" ++ line_end

abbrev pub svcs_usage : List ℕ
svcs_usage = codes "svcs: bad usage" ++ line_end
