use Rattle.std.proofs.Common.{arith, [], ◌∷◌, ◌∙◌, refl}
use Rattle.smf_tables.proofs.Sizes.{six_are}
use Rattle.smf_tables.proofs.layout.are_instance_columns.Goals as goal

pub returns : goal.returns
returns c = (
  λ _.
      six_are c.args.columns.now c.a-item.result c.b-item.result c.c-item.result c.d-item.result c.e-item.result
      c.f-item.result (omega arith) (omega arith) c.a-item.is c.b-item.is c.c-item.is c.d-item.is c.e-item.is
      c.f-item.is
      ∙ λ j. c.if-not-is_column.ensures.0 refl j ∷ c.if-not-is_column-2.ensures.0 refl j
      ∷ c.if-not-is_column-3.ensures.0 refl j ∷ c.if-not-is_column-4.ensures.0 refl j
      ∷ c.if-not-is_column-5.ensures.0 refl j ∷ c.if-not-is_column-6.ensures.0 refl j ∷ [],
  λ _. refl,
)
