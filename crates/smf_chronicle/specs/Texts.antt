-- The text of an entry, as the trail of a script has it for an item.
use Rattle.std.specs.Prelude.{◌<◌, ◌^◌, ℕ, List, [], ◌∷◌, ◌++◌}
use Rattle.std.specs.Fmt.{decimal}
use Rattle.smf_chronicle.specs.declared.entry.Entry.{Entry}
use Rattle.smf_chronicle.specs.declared.entry.Entry.TheVariants.{Happened, Life, Row, Living}
use Rattle.smf_chronicle.specs.Words.{entry_word, word_text}
use Rattle.smf_method.specs.Tokens.{method_text}
use Rattle.smf_world.specs.TrailText.{next_text}
use Rattle.smf_fmri.specs.Patterns.{IsInstanceName}
use Rattle.smf_method.specs.Commands.{IsCommand}
use Rattle.smf_state.specs.States.{state_text}
use Rattle.smf_state.specs.Texts.{IsSmall}
use Rattle.smf_world.specs.declared.item.Item.{Item}
use Rattle.smf_world.specs.declared.item.Item.TheVariants.{Boot, Committed, Held, Spawned, Emptied}

-- parts with one blank between: 32 is ' '
abbrev pub spaced : List ℕ → List (List ℕ) → List ℕ
spaced part [] = part
spaced part (next ∷ parts) = part ++ 32 ∷ spaced next parts

abbrev pub item_parts : Item → List (List ℕ)
item_parts Boot = []
item_parts (Committed i n s next) = decimal i ∷ decimal n ∷ state_text s ∷ next_text next ∷ []
item_parts (Held name launch i n s) = name ∷ decimal launch ∷ decimal i ∷ decimal n ∷ state_text s ∷ []
item_parts (Spawned c i run method revision command) =
    decimal c ∷ decimal i ∷ decimal run ∷ method_text method ∷ decimal revision ∷ command ∷ []
item_parts (Emptied c) = decimal c ∷ []

-- what stands behind the word of an entry
abbrev pub entry_parts : Entry → List (List ℕ)
entry_parts (Happened item) = item_parts item
entry_parts Life = []
entry_parts (Row i n s) = decimal i ∷ decimal n ∷ state_text s ∷ []
entry_parts (Living c i) = decimal c ∷ decimal i ∷ []

abbrev pub entry_text : Entry → List ℕ
entry_text entry = spaced (word_text (entry_word entry)) (entry_parts entry)

-- ---- what every entry that the types allow keeps to

abbrev pub IsItem : Item → Type 0
IsItem Boot = Unit {0}
IsItem (Committed i n s next) = IsSmall i × IsSmall n
IsItem (Held name launch i n s) = IsInstanceName name × IsSmall launch × IsSmall i × IsSmall n
IsItem (Spawned c i run method revision command) =
    IsSmall c × IsSmall i × IsSmall run × IsSmall revision × IsCommand command
IsItem (Emptied c) = IsSmall c

abbrev pub IsEntry : Entry → Type 0
IsEntry (Happened item) = IsItem item
IsEntry Life = Unit {0}
IsEntry (Row i n s) = IsSmall i × IsSmall n
IsEntry (Living c i) = IsSmall c × IsSmall i
