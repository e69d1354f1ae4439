use Rattle.std.proofs.Common.{◌∙◌, ◌++◌, ◌∷◌, [], sym, ap, subst, take, take_all, Option, ℤ}
use Rattle.std.proofs.lemmas.List.{take_more}
use Rattle.smf_store.specs.CounterRows.{SoFar}
use Rattle.smf_store.specs.Judged.{value_of}
use Rattle.smf_store.specs.RowValues.{◌>>=◌}
use Rattle.smf_store.proofs.Adds.{look_more, look_none, look_end}
use Rattle.smf_store.proofs.Counts.{so_far_more}
use Rattle.smf_store.proofs.Known.{so_found}
use Rattle.smf_store.proofs.counter_rows.value_of.Goals as goal

abbrev whole : Option (Option ℤ) → Option ℤ
whole o = o >>= (λ found. found)

pub loop-row-preserved : goal.loop-row-preserved
loop-row-preserved c =
    let all = c.args.rows.now in
    let at = c.loop-row.row-index in
    let is = take_more all at c.row-item.result c.loop-row-test.true
    ∙ ap (λ r. take at all ++ r ∷ []) (sym c.row-item.is) in
    record {
      found = subst (SoFar c.args.key.now c.in-Some.more) (sym is)
          (so_far_more c.args.key.now c.row-item.result c.loop-row.found c.in-Some.more
          (take at all) c.in-Some.ensures.looks c.loop-row.invariant.found);
      exact = look_more c.args.key.now all c.loop-row.found c.in-Some.more at c.row-item.result c.loop-row-test.true
          c.row-item.is c.loop-row.invariant.exact (sym c.in-Some.ensures.exact);
    }

pub returns-in_default-clause-exact : goal.returns-in_default-clause-exact
unfolding value_of
returns-in_default-clause-exact c =
    sym (ap whole
    (look_none c.args.key.now c.args.rows.now c.loop-row.found c.loop-row.row-index c.row-item.result
    c.loop-row-test.true c.row-item.is c.loop-row.invariant.exact (sym c.in_default.ensures.exact)))

pub returns-clause-exact : goal.returns-clause-exact
unfolding value_of
returns-clause-exact c =
    sym (ap whole
    (look_end c.args.key.now c.args.rows.now c.loop-row.found c.loop-row.row-index c.loop-row-test.false
    c.loop-row.invariant.exact))

pub returns-clause-found : goal.returns-clause-found
returns-clause-found c =
    so_found c.args.key.now c.loop-row.found c.args.rows.now
    (subst (SoFar c.args.key.now c.loop-row.found) (take_all _ _ c.loop-row-test.false) c.loop-row.invariant.found)
