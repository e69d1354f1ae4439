use Rattle.std.proofs.Common.{◌≡◌, [], drop, map}
use Rattle.smf_fmri.specs.ByKey.{put_all}
use Rattle.smf_show.specs.TableRows.{by_row, row_of_item}
use Rattle.smf_show.proofs.chosen.rows_by_name.Given as goal

abbrev pub invariant-loop-item : goal.invariant-loop-item
invariant-loop-item l = put_all by_row (map (row_of_item l.chronicle) (drop l.item-index l.items)) l.all
    ≡ put_all by_row (map (row_of_item l.chronicle) l.items) []
