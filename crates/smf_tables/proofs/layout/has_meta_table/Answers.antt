use Rattle.std.proofs.Common.{codes, refl, sym}
use Rattle.smf_tables.specs.Schema.{meta_at}
use Rattle.smf_tables.proofs.Alone.{stands, stands_one}
use Rattle.smf_tables.proofs.layout.has_meta_table.Goals as goal

pub returns : goal.returns
returns c =
    let s = c.args.schema.now in
    let table = c.in-Some.table.now in
    let first = sym c.in-Some.ensures in (
      λ one.
          stands s meta_at (codes "meta") (λ n. refl) (λ n. refl) table first (c.if-not-is_meta.ensures.0 refl)
          (c.is_one.ensures.0 one),
      λ some.
          c.is_one.ensures.1 (stands_one s meta_at (codes "meta") (λ n. refl) (λ n. refl) table first some),
    )
