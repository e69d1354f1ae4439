-- Pieces of lines and of commands.
use Rattle.std.specs.Prelude.{ℕ, ℤ, ◌==◌, List, [], ◌∷◌, ◌++◌, Bool, true, false, Option, Some, None, codes, if◌then◌else◌}
use Rattle.std.specs.Fmt.{decimal, signed_decimal}
use Rattle.std.specs.String.{string_bytes}
use Rattle.smf_toml.specs.declared.site.Words.{Words}
use Rattle.std.specs.declared.vec.Vec.{Vec}
use Rattle.std.specs.declared.alloc.Global.{Global}

abbrev pub text_of : Words → List ℕ
text_of w = string_bytes w.text

-- ---- words for a shell

-- a byte of a word in quotes: 39 is "'", 92 is a backslash, and 37 is "%", which would begin a token of a method
abbrev pub shell_byte : ℕ → List ℕ
shell_byte b = if b == 39 then 39 ∷ 92 ∷ 39 ∷ 39 ∷ [] else if b == 37 then 37 ∷ 37 ∷ [] else b ∷ []

abbrev pub shell_text : List ℕ → List ℕ
shell_text [] = []
shell_text (b ∷ bs) = shell_byte b ++ shell_text bs

-- the same of a script, whose tokens count
abbrev pub script_byte : ℕ → List ℕ
script_byte b = if b == 39 then 39 ∷ 92 ∷ 39 ∷ 39 ∷ [] else b ∷ []

abbrev pub script_text : List ℕ → List ℕ
script_text [] = []
script_text (b ∷ bs) = script_byte b ++ script_text bs

-- ---- options of a command, each with a blank behind it

abbrev pub text_option : List ℕ → Option (List ℕ) → List ℕ
text_option word None = []
text_option word (Some text) = word ++ codes " '" ++ shell_text text ++ codes "' "

abbrev pub number_option : List ℕ → Option ℕ → List ℕ
number_option word None = []
number_option word (Some n) = word ++ codes " " ++ decimal n ++ codes " "

abbrev pub signed_option : List ℕ → Option ℤ → List ℕ
signed_option word None = []
signed_option word (Some n) = word ++ codes " " ++ signed_decimal n ++ codes " "

abbrev pub flag_option : List ℕ → Option Bool → List ℕ
flag_option word (Some true) = word ++ codes " "
flag_option word _ = []

-- one for each
abbrev pub text_options : List ℕ → List Words → List ℕ
text_options word [] = []
text_options word (t ∷ ts) = text_option word (Some (text_of t)) ++ text_options word ts

abbrev pub texts_in : Option (Vec Words Global) → List Words
texts_in None = []
texts_in (Some v) = v.items
