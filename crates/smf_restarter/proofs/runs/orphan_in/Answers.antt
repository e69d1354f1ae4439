use Rattle.std.proofs.Common.{◌∙◌, List, find, ap, subst, sym}
use Rattle.std.specs.List.Sorted.{IsNonDecreasingBy}
use Rattle.std.proofs.lemmas.List.Sorted.{IsNonDecreasingBy-drop}
use Rattle.smf_fmri.specs.ByKey.{Rises}
use Rattle.smf_restarter.specs.declared.known.KnownRun.{KnownRun}
use Rattle.smf_restarter.specs.Knowledge.{by_run}
use Rattle.smf_restarter.specs.Runs.{instance_of, is_orphan}
use Rattle.smf_restarter.proofs.RunPlaces.{found_after, found_before, rising}
use Rattle.smf_restarter.proofs.runs.orphan_in.Goals as goal

pub count_below-requires : goal.count_below-requires
count_below-requires c =
    rising c.as_slice-all.result.now
    (subst (Rises by_run) (sym c.as_slice-all.ensures.all) c.as_slice-all.ensures.rises)

pub count_up_to-requires : goal.count_up_to-requires
count_up_to-requires c =
    subst (IsNonDecreasingBy instance_of) (sym c.split_at.ensures.back)
    (IsNonDecreasingBy-drop instance_of c.count_below.result c.as_slice-all.result.now
    (rising c.as_slice-all.result.now
    (subst (Rises by_run) (sym c.as_slice-all.ensures.all) c.as_slice-all.ensures.rises)))

pub returns : goal.returns
returns c =
    let n = c.args.instance in
    let looked : List KnownRun → _ = find (is_orphan n) in
    c.orphan_among.ensures ∙ ap looked c.split_at-2.ensures.front
    ∙ found_before n c.split_at.result.1.now c.count_up_to.result c.count_up_to.ensures.above
    ∙ ap looked c.split_at.ensures.back
    ∙ found_after n c.as_slice-all.result.now c.count_below.result c.count_below.ensures.below
    ∙ ap looked c.as_slice-all.ensures.all
