use Rattle.std.proofs.Common.{[], sym, ap, ◌∙◌}
use Rattle.std.specs.Prelude.{flat_map}
use Rattle.smf_fmri.specs.ByKey.{put_all}
use Rattle.smf_changes.specs.Candidates.{candidates, named_by, running_by}
use Rattle.smf_changes.specs.Changes.{by_itself}
use Rattle.smf_changes.proofs.Merges.{put_all_append}
use Rattle.smf_changes.proofs.candidates.all_candidates.Goals as goal

pub returns : goal.returns
unfolding candidates
returns g c =
    let h = c.args.plain.now.held in
    let cs = c.args.changes.now in
    c.in_ok-put_running.ensures
    ∙ ap (put_all by_itself (flat_map (running_by h) cs))
    (c.in_ok-put_named.ensures ∙ ap (put_all by_itself (flat_map (named_by h) cs)) c.new-all.ensures)
    ∙ sym (put_all_append by_itself (flat_map (named_by h) cs) (flat_map (running_by h) cs) [])
