use Rattle.std.proofs.Common.{◌∙◌, ◌++◌, ◌∷◌, [], sym, ap, subst, take, take_all}
use Rattle.std.proofs.lemmas.List.{take_more}
use Rattle.smf_store.specs.Gathered.{AreRead, GathersGroups}
use Rattle.smf_store.specs.Judged.{Takes, add_group}
use Rattle.smf_store.proofs.Adds.{add_more, add_none, add_end}
use Rattle.smf_store.proofs.additions.gather_groups.Goals as goal

pub loop-row-preserved : goal.loop-row-preserved
loop-row-preserved c = record {
  exact = add_more add_group c.args.rows.now c.args.tables.now c.loop-row.tables c.add_group.new.tables
      c.loop-row.row-index c.row-item.result c.loop-row-test.true c.row-item.is c.loop-row.invariant.exact
      (subst (λ b. Takes b (add_group c.loop-row.tables c.row-item.result) c.add_group.new.tables)
      c.if-not-taken.false c.in_ok-taken.ensures.exact);
  gathered = λ rows none a.
      let all = c.args.rows.now in
      let at = c.loop-row.row-index in
      let one = c.in_ok-taken.ensures.added c.if-not-taken.false (record rows { groups = take at all })
      (c.loop-row.invariant.gathered rows none a) in
      let is = take_more all at c.row-item.result c.loop-row-test.true
      ∙ ap (λ r. take at all ++ r ∷ []) (sym c.row-item.is) in
      subst (λ l. AreRead (record rows { groups = l }) c.add_group.new.tables) (sym is) one;
}

pub returns-then-not-taken-clause-exact : goal.returns-then-not-taken-clause-exact
returns-then-not-taken-clause-exact c =
    add_none add_group c.args.rows.now c.args.tables.now c.loop-row.tables c.loop-row.row-index c.row-item.result
    c.loop-row-test.true c.row-item.is c.loop-row.invariant.exact
    (subst (λ b. Takes b (add_group c.loop-row.tables c.row-item.result) c.add_group.new.tables) c.if-not-taken.true
    c.in_ok-taken.ensures.exact)

pub returns-clause-exact : goal.returns-clause-exact
returns-clause-exact c =
    add_end add_group c.args.rows.now c.args.tables.now c.loop-row.tables c.loop-row.row-index c.loop-row-test.false
    c.loop-row.invariant.exact

pub returns-clause-gathered : goal.returns-clause-gathered
returns-clause-gathered c =
    λ _. subst (λ l. GathersGroups l c.args.tables.now c.loop-row.tables)
    (take_all _ _ c.loop-row-test.false) c.loop-row.invariant.gathered
