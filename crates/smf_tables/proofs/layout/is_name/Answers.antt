use Rattle.std.proofs.Common.{refl, rules, arith, ◌≡◌, sym, ◌∙◌}
use Rattle.smf_tables.proofs.Sizes.{single_is}
use Rattle.smf_tables.proofs.layout.is_name.Goals as goal

pub returns : goal.returns
returns c = (
  λ _.
      let same : c.as_slice.result.now ≡ c.args.name.now = search rules in
      single_is c.args.names.now c.only-item.result c.args.name.now (omega arith) (omega arith)
      (sym c.only-item.is ∙ sym c.as_slice.ensures ∙ same),
  λ _. refl,
)
