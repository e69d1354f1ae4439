use Rattle.std.proofs.Common.{◌≤◌, ◌<◌, ℕ, List, Option, length, take, sym, ap, subst, ◌∙◌, arith}
use Rattle.smf_fmri.specs.ByKey.{put_all}
use Rattle.smf_changes.specs.Changes.{by_itself, together}
use Rattle.smf_changes.specs.Recorded.{with_stale}
use Rattle.smf_changes.proofs.Records.{enough, newest_taken}
use Rattle.smf_changes.proofs.lists.newest_together.Goals as goal

pub slice_bounds-together-length : goal.slice_bounds-together-length
slice_bounds-together-length c =
    let P : Option (List ℕ) → Type 0 = λ o. c.args.count ≤ length (with_stale o c.args.older.now) in
    enough c.args.count c.in-Some.newest c.args.older.now (subst P c.in-Some.is c.requires)

pub returns : goal.returns
returns c =
    let P : Option (List ℕ) → Type 0 = λ o. c.args.count ≤ length (with_stale o c.args.older.now) in
    let some : 0 < c.args.count = omega arith in
    c.in_ok-put_numbers.ensures
    ∙ (λ j. put_all by_itself (c.as_slice.ensures j) (c.in_ok-all.ensures j))
    ∙ newest_taken c.args.count c.in-Some.newest c.args.older.now some (subst P c.in-Some.is c.requires)
    ∙ ap (λ (o : Option (List ℕ)). together (take c.args.count (with_stale o c.args.older.now))) (sym c.in-Some.is)
