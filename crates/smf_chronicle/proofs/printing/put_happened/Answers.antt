use Rattle.smf_chronicle.proofs.ItemTexts.{item_is_entry}
use Rattle.smf_chronicle.proofs.printing.put_happened.Goals as goal

pub returns : goal.returns
returns c = rw (item_is_entry c.args.item.now) c.put_item.ensures
