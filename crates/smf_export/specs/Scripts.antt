-- Lines of svccfg as a script that also refreshes the instances that they touch.
use Rattle.std.specs.Prelude.{ℕ, nat_eq, List, [], ◌∷◌, ◌++◌, ◌==◌, Bool, true, false, not, codes, if◌then◌else◌, Option, Some, None, option_map}
use Rattle.std.specs.Cmp.Lexicographic.{pointwise}
use Rattle.smf_model.specs.declared.held.InstanceName.{InstanceName}
use Rattle.smf_model.specs.Contents.{Holdings}
use Rattle.smf_model.specs.Shown.{composed_groups}
use Rattle.smf_value.specs.Body.{bytes_of_groups}
use Rattle.smf_export.specs.Turns.{held_after}

-- ---- lines

-- what stands in front of a byte: the word of a script, where a line begins
abbrev pub word_before : Bool → List ℕ
word_before true = codes "svccfg "
word_before false = []

-- each line of a text for svccfg
abbrev pub for_svccfg : Bool → List ℕ → List ℕ
for_svccfg begins [] = []
for_svccfg begins (b ∷ bs) = word_before begins ++ b ∷ for_svccfg (b == 10) bs

-- ---- instances that lines touch

-- the bytes of the groups that an instance has composed, if it is there
abbrev pub composed_bytes : Holdings → ℕ → Option (List ℕ)
composed_bytes h n = option_map bytes_of_groups (composed_groups h n)

abbrev pub are_same_bytes : Option (List ℕ) → Option (List ℕ) → Bool
are_same_bytes None None = true
are_same_bytes (Some xs) (Some ys) = pointwise nat_eq xs ys
are_same_bytes _ _ = false

-- it is there in one of two repositories only, or has other groups in the other
unfoldable pub is_touched : Holdings → Holdings → ℕ → Bool
is_touched before after n = not (are_same_bytes (composed_bytes before n) (composed_bytes after n))

abbrev pub refresh_line : List ℕ → List ℕ
refresh_line name = codes "svcadm refresh " ++ name ++ codes "\n"

abbrev pub refresh_if : Bool → List ℕ → List ℕ
refresh_if true name = refresh_line name
refresh_if false name = []

-- a refresh of each of these instances that is touched
abbrev pub refreshes : Holdings → Holdings → List InstanceName → List ℕ
refreshes before after [] = []
refreshes before after (e ∷ es) = refresh_if (is_touched before after e.number) e.name ++ refreshes before after es

-- ---- the script

-- the lines, and then a refresh of each instance that they add, or whose composed groups they change
abbrev pub script_of : Holdings → List ℕ → List ℕ
script_of before lines =
    for_svccfg true lines ++ refreshes before (held_after before lines) (held_after before lines).names
