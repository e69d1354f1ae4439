-- The words of entries.
use Rattle.std.specs.Prelude.{ℕ, List, nat_eq, codes, if◌then◌else◌, Option, Some, None, option_map}
use Rattle.std.specs.Cmp.Lexicographic.{pointwise}
use Rattle.smf_chronicle.specs.declared.entry.Entry.{Entry}
use Rattle.smf_chronicle.specs.declared.entry.Entry.TheVariants as entries
use Rattle.smf_chronicle.specs.declared.word.Word.{Word}
use Rattle.smf_chronicle.specs.declared.word.Word.TheVariants as words
use Rattle.smf_contract.specs.declared.cookie.Method.{Method}
use Rattle.smf_contract.specs.declared.cookie.Method.TheVariants.{Start, Stop, Refresh}
use Rattle.smf_state.specs.declared.state.State.{State}
use Rattle.smf_state.specs.States.{read_state}
use Rattle.smf_world.specs.declared.item.Item.{Item}
use Rattle.smf_world.specs.declared.item.Item.TheVariants as items

-- ---- the word that an entry begins with

abbrev pub item_word : Item → Word
item_word items.Boot = words.Boot
item_word (items.Committed i n s next) = words.Committed
item_word (items.Held name launch i n s) = words.Held
item_word (items.Spawned c i run method revision command) = words.Spawned
item_word (items.Emptied c) = words.Emptied

abbrev pub entry_word : Entry → Word
entry_word (entries.Happened item) = item_word item
entry_word entries.Life = words.Life
entry_word (entries.Row i n s) = words.Row
entry_word (entries.Living c i) = words.Living

abbrev pub word_text : Word → List ℕ
word_text words.Boot = codes "boot"
word_text words.Committed = codes "committed"
word_text words.Held = codes "held"
word_text words.Spawned = codes "spawned"
word_text words.Emptied = codes "emptied"
word_text words.Life = codes "life"
word_text words.Row = codes "row"
word_text words.Living = codes "living"

abbrev pub read_word : List ℕ → Option Word
read_word text =
    if pointwise nat_eq text (codes "boot") then Some words.Boot
    else if pointwise nat_eq text (codes "committed") then Some words.Committed
    else if pointwise nat_eq text (codes "held") then Some words.Held
    else if pointwise nat_eq text (codes "spawned") then Some words.Spawned
    else if pointwise nat_eq text (codes "emptied") then Some words.Emptied
    else if pointwise nat_eq text (codes "life") then Some words.Life
    else if pointwise nat_eq text (codes "row") then Some words.Row
    else if pointwise nat_eq text (codes "living") then Some words.Living
    else None

-- ---- the state to which a transition leads

abbrev pub read_next : List ℕ → Option (Option State)
read_next text = if pointwise nat_eq text (codes "none") then Some None else option_map Some (read_state text)

-- ---- methods

abbrev pub read_method : List ℕ → Option Method
read_method text =
    if pointwise nat_eq text (codes "start") then Some Start
    else if pointwise nat_eq text (codes "stop") then Some Stop
    else if pointwise nat_eq text (codes "refresh") then Some Refresh
    else None
