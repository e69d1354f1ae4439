use Rattle.std.proofs.Common.{◌≡◌, drop}
use Rattle.std.specs.Prelude.{filter}
use Rattle.smf_fmri.specs.ByKey.{put_all}
use Rattle.smf_admin.specs.Output.{by_entry, is_chosen, item_entries, sorted_entries}
use Rattle.smf_admin.proofs.output.chosen_entries.Given as goal

abbrev pub invariant-loop-item : goal.invariant-loop-item
invariant-loop-item l =
    put_all by_entry (item_entries (filter (is_chosen l.chosen l.patterns) (drop l.item-index l.view))) l.entries
    ≡ sorted_entries (item_entries (filter (is_chosen l.chosen l.patterns) l.view))
