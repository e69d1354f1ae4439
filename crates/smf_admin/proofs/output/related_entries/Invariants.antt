use Rattle.std.proofs.Common.{◌≡◌, drop}
use Rattle.std.specs.Prelude.{filter}
use Rattle.smf_fmri.specs.ByKey.{put_all}
use Rattle.smf_admin.specs.Output.{by_entry, sorted_entries, member_entries}
use Rattle.smf_admin.specs.Relations.{is_related}
use Rattle.smf_admin.proofs.output.related_entries.Given as goal

abbrev pub invariant-loop-member : goal.invariant-loop-member
invariant-loop-member l =
    put_all by_entry (member_entries (filter (is_related l.relation l.chosen) (drop l.member-index l.all))) l.entries
    ≡ sorted_entries (member_entries (filter (is_related l.relation l.chosen) l.all))
