-- The rows that a database shows as those of the six tables go by its trees alone, since these list its tables.
use Rattle.std.proofs.Common.{◌≡◌, List, [], ◌∷◌, filter, refl, ap, ap₂}
use Rattle.std.specs.List.{AllZip}
use Rattle.sqlite.specs.Order.{Row}
use Rattle.sqlite.specs.Schema.{Schema}
use Rattle.sqlite.specs.Table.{Table}
use Rattle.sqlite.specs.Tree.{Trees}
use Rattle.sqlite.specs.Effect.{IsDatabase}
use Rattle.sqlite_catalog.specs.Listing.{IsTableRow, is_table_row}
use Rattle.sqlite_catalog.proofs.ReadLemmas.{table_once}
use Rattle.sqlite_trees.specs.Objects.{catalog_tree}
use Rattle.smf_tables.specs.Layout.{rows_in}

once : (row : Row) (s t : Table) → IsTableRow row s → IsTableRow row t → s ≡ t
once row s t p q =
    table_once row s t
    (record {
      names = record {
        low = p.described.low;
        id = p.described.id;
        kind_is = p.described.kind_is;
        name_is = p.described.name_is;
        owner_is = p.described.owner_is;
      };
      sql = p.sql;
      sql_is = p.sql_is;
      defined = p.defined;
      formed = p.formed;
      utf8 = p.utf8;
    })
    (record {
      names = record {
        low = q.described.low;
        id = q.described.id;
        kind_is = q.described.kind_is;
        name_is = q.described.name_is;
        owner_is = q.described.owner_is;
      };
      sql = q.sql;
      sql_is = q.sql_is;
      defined = q.defined;
      formed = q.formed;
      utf8 = q.utf8;
    })

one_list : (rows : List Row) (a b : List Table) → AllZip IsTableRow rows a → AllZip IsTableRow rows b → a ≡ b
one_list [] [] [] p q = refl
one_list [] [] (z ∷ zs) p q = absurd q
one_list [] (y ∷ ys) zs p q = absurd p
one_list (x ∷ xs) [] zs p q = absurd p
one_list (x ∷ xs) (y ∷ ys) [] p q = absurd q
one_list (x ∷ xs) (y ∷ ys) (z ∷ zs) p q = ap₂ ◌∷◌ (once x y z p.0 q.0) (one_list xs ys zs p.1 q.1)

pub one_list_of_rows : (trees : Trees) (one two : Schema) → IsDatabase (record { schema = one; trees = trees })
    → IsDatabase (record { schema = two; trees = trees })
    → rows_in (record { schema = one; trees = trees }) ≡ rows_in (record { schema = two; trees = trees })
unfolding rows_in
one_list_of_rows trees one two a b =
    ap (λ (tables : List Table). rows_in (record { schema = record one { tables = tables }; trees = trees }))
    (one_list (filter is_table_row (trees catalog_tree)) one.tables two.tables a.lists.listed.tables
    b.lists.listed.tables)
