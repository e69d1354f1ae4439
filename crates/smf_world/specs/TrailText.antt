-- The text of the trail.
use Rattle.std.specs.Prelude.{ℕ, List, [], ◌∷◌, ◌++◌, codes, Option, Some, None}
use Rattle.std.specs.List.{flat_map}
use Rattle.std.specs.Fmt.{decimal}
use Rattle.smf_method.specs.Tokens.{method_text}
use Rattle.smf_state.specs.declared.state.State.{State}
use Rattle.smf_state.specs.States.{state_text}
use Rattle.smf_world.specs.declared.item.Item.{Item}
use Rattle.smf_world.specs.declared.item.Item.TheVariants.{Boot, Committed, Held, Spawned, Emptied}

abbrev pub next_text : Option State → List ℕ
next_text None = codes "none"
next_text (Some state) = state_text state

abbrev pub blank : List ℕ
blank = codes " "

abbrev pub line_end : List ℕ
line_end = 10 ∷ []

abbrev pub item_text : Item → List ℕ
item_text Boot = codes "boot"
item_text (Emptied contract) = codes "emptied " ++ decimal contract
item_text (Committed instance number state next) =
    codes "committed " ++ decimal instance ++ blank ++ decimal number ++ blank ++ state_text state ++ blank
    ++ next_text next
item_text (Held name launch instance number state) =
    codes "held " ++ name ++ blank ++ decimal launch ++ blank ++ decimal instance ++ blank ++ decimal number ++ blank
    ++ state_text state
item_text (Spawned contract instance run method revision command) =
    codes "spawned " ++ decimal contract ++ blank ++ decimal instance ++ blank ++ decimal run ++ blank
    ++ method_text method ++ blank ++ decimal revision ++ blank ++ command

abbrev pub item_line : Item → List ℕ
item_line item = item_text item ++ line_end

-- a line an item, the first first
unfoldable pub trail_text : List Item → List ℕ
trail_text items = flat_map item_line items
