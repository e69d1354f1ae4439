-- The items that the trail shows of the changes of a command.
use Rattle.std.specs.Prelude.{◌==◌, List, [], ◌∷◌, ◌++◌, Bool, true, false, Option, Some, None}
use Rattle.std.specs.List.{filter_map}
use Rattle.smf_model.specs.declared.change.Change.{Change}
use Rattle.smf_model.specs.declared.change.Change.TheVariants as changes
use Rattle.smf_model.specs.declared.command.Command.{Command}
use Rattle.smf_model.specs.declared.command.Command.TheVariants as commands
use Rattle.smf_model.specs.declared.held.Instance.{Instance}
use Rattle.smf_model.specs.Contents.{Holdings}
use Rattle.smf_model.specs.Look.{instance}
use Rattle.smf_world.specs.declared.item.Item.{Item}
use Rattle.smf_world.specs.declared.item.Item.TheVariants.{Boot, Committed}

abbrev pub row_item : Instance → Item
row_item i = Committed i.number i.row.number i.row.state i.row.next

abbrev pub row_if : Bool → Instance → Option Item
row_if true i = None
row_if false i = Some (row_item i)

-- a row in place of another is shown if its number is another
abbrev pub row_over : Option Instance → Instance → Option Item
row_over None i = Some (row_item i)
row_over (Some before) i = row_if (i.row.number == before.row.number) i

abbrev pub change_item : Holdings → Change → Option Item
change_item h (changes.AddInstance e) = Some (row_item e.instance)
change_item h (changes.PutInstance i) = row_over (instance h i.number) i
change_item h _ = None

abbrev pub boot_items : Command → List Change → List Item
boot_items commands.Boot (x ∷ xs) = Boot ∷ []
boot_items _ _ = []

-- a boot that is accepted, and then the rows that are new or have another number
unfoldable pub items_of : Holdings → Command → List Change → List Item
items_of h c xs = boot_items c xs ++ filter_map (change_item h) xs
