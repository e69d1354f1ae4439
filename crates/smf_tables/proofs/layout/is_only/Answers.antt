use Rattle.std.proofs.Common.{refl, rules, arith, ◌≡◌, sym, ◌∙◌}
use Rattle.smf_tables.proofs.Sizes.{single_is}
use Rattle.smf_tables.proofs.layout.is_only.Goals as goal

pub returns : goal.returns
returns c = (
  λ _.
      let same : c.as_slice.result.now ≡ c.args.unique.now = search rules in
      single_is c.args.uniques.now c.only-item.result c.args.unique.now (omega arith) (omega arith)
      (sym c.only-item.is ∙ sym c.as_slice.ensures ∙ same),
  λ _. refl,
)
