use Rattle.std.proofs.Common.{codes, refl, sym}
use Rattle.smf_tables.specs.Schema.{restarter_at}
use Rattle.smf_tables.proofs.Alone.{stands, stands_one}
use Rattle.smf_tables.proofs.layout.has_restarter_table.Goals as goal

pub returns : goal.returns
returns c =
    let s = c.args.schema.now in
    let table = c.in-Some.table.now in
    let first = sym c.in-Some.ensures in (
      λ one.
          stands s restarter_at (codes "restarter") (λ n. refl) (λ n. refl) table first (c.if-not-is_restarter.ensures.0 refl)
          (c.is_one.ensures.0 one),
      λ some.
          c.is_one.ensures.1 (stands_one s restarter_at (codes "restarter") (λ n. refl) (λ n. refl) table first some),
    )
