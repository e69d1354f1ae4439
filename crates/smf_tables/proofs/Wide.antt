-- The results of the queries of whole tables.
use Rattle.std.proofs.Common.{◌≡◌, ◌+◌, ◌<◌, ◌≤◌, ℕ, zero, suc, List, [], ◌∷◌, ◌&&◌, length, drop, codes, Option, Some, IsTrue, Bool, true, false, refl, sym, ap, subst, ◌∙◌, arith}
use Rattle.std.specs.List.{AllByRecursion}
use Rattle.sqlite.specs.declared.types.Value.{Value}
use Rattle.sqlite.specs.declared.types.Value.TheVariants.{Null, Int, Real, Text, Blob}
use Rattle.sqlite.specs.Order.{Row, column}
use Rattle.sqlite.specs.Command.TheVariants.{Select}
use Rattle.sqlite.specs.Schema.{Schema}
use Rattle.sqlite.specs.Term.{Term, col, eval_all}
use Rattle.sqlite.specs.Effect.{Database}
use Rattle.sqlite.specs.State.{State, Shown}
use Rattle.sqlite.specs.Table.{Table}
use Rattle.sqlite.specs.Tree.{rowid}
use Rattle.sqlite.specs.View.{is_int}
use Rattle.sqlite_sql.specs.Ops.{is_null}
use Rattle.sqlite_schema.specs.declared.schema.Column.{Column}
use Rattle.sqlite_schema.specs.declared.schema.Constraint.TheVariants.{Datatype}
use Rattle.sqlite_schema.specs.Rules.{are_typed, passes}
use Rattle.sqlite_rules.specs.Lists.{Has}
use Rattle.sqlite_rules.proofs.ListLemmas.{all_has}
use Rattle.smf_tables.specs.Layout.{name_of_tree, rows_in}
use Rattle.smf_tables.specs.Schema as tables
use Rattle.smf_tables.specs.Rows.{SameColumns}
use Rattle.smf_tables.specs.Scans.{columns_at, Looks}
use Rattle.smf_tables.proofs.Answers as answers
use Rattle.smf_tables.proofs.Alone.{listed}
use Rattle.smf_tables.proofs.Looks.{its_place, its_rows, shown_inside, shows_rows, same_database}
use Rattle.smf_tables.proofs.Named.{IsFound, Means}
use Rattle.smf_tables.proofs.Wholes

both_left : (a b : Bool) → (a && b) ≡ true → a ≡ true
both_left true b e = refl
both_left false b e = absurd cc

both_right : (a b : Bool) → (a && b) ≡ true → b ≡ true
both_right true b e = e
both_right false b e = absurd cc

no_column : (k : ℕ) → column [] k ≡ Null
no_column zero = refl
no_column (suc k) = refl

null_is : (v : Value) → is_null v ≡ true → v ≡ Null
null_is Null e = refl
null_is (Int n) e = absurd cc
null_is (Real x) e = absurd cc
null_is (Text t) e = absurd cc
null_is (Blob b) e = absurd cc

-- a row has no more columns than its table
beyond : (key : Option ℕ) (at : ℕ) (cs : List Column) (vs : Row) (k : ℕ) → are_typed key at cs vs ≡ true
    → length cs ≤ k → column vs k ≡ Null
beyond key at [] [] k typed past = no_column k
beyond key at [] (v ∷ vs) k typed past = absurd cc
beyond key at (c ∷ cs) [] k typed past = no_column k
beyond key at (c ∷ cs) (v ∷ vs) zero typed past = absurd (omega (arith, past))
beyond key at (c ∷ cs) (v ∷ vs) (suc k) typed past =
    beyond key (at + 1) cs vs k (both_right _ _ typed) (omega (arith, past))

-- the column that the rowid stands for is kept as NULL
key_null : (cs : List Column) (vs : Row) → 0 < length cs → are_typed (Some 0) 0 cs vs ≡ true → column vs 0 ≡ Null
key_null [] vs some typed = absurd (omega (arith, some))
key_null (c ∷ cs) [] some typed = refl
key_null (c ∷ cs) (v ∷ vs) some typed = null_is v (both_left _ _ typed)

behind : (r : Row) (k : ℕ) → column r (suc k) ≡ column (drop 1 r) k
behind [] k = sym (no_column k)
behind (v ∷ vs) k = refl

typed_row : (table : Table) (db : Database) (r : Row)
    → AllByRecursion (λ row. passes Datatype db.schema db.trees table row ≡ true) (db.trees table.tree)
    → Has (db.trees table.tree) r
    → are_typed table.key 0 table.columns (drop 1 r) ≡ true
typed_row table db r all there =
    both_left _ _
    (all_has (λ row. passes Datatype db.schema db.trees table row ≡ true) (db.trees table.tree) r all there)

past_all : (table : Table) (r : Row) (k : ℕ) → are_typed table.key 0 table.columns (drop 1 r) ≡ true
    → length table.columns ≤ k → column r (suc k) ≡ Null
past_all table r k typed past = behind r k ∙ beyond table.key 0 table.columns (drop 1 r) k typed past

-- ---- a whole table

module _ (text : List ℕ) (old new : State) (rows : List Row) (kind : ℕ → Table) (tree : ℕ) (trees : (n : ℕ) → (kind n).tree ≡ n) (named : (n : ℕ) → name_of_tree tree ≡ (kind n).name)
    (places : List ℕ) (columns : List Term) (names : List (List ℕ)) (are : (r : Row) → eval_all columns ([] ∷ r ∷ []) ≡ columns_at places r) (first : (r : Row) → rowid (columns_at places r) ≡ rowid r)
    (means : (s : Schema) (n : ℕ) (f : IsFound s (kind n)) → Means s text (Select (record { lets = []; body = answers.ordered_query answers.by_rowid n [] columns }) names))
    (same : (n : ℕ) (a b : Row) → are_typed (kind n).key 0 (kind n).columns (drop 1 a) ≡ true → are_typed (kind n).key 0 (kind n).columns (drop 1 b) ≡ true → SameColumns (columns_at places a) (columns_at places b) → SameColumns a b) where
  looks : IsTrue old.in_transaction → Shown text [] old new rows → Looks kind tree places old new rows
  looks on seen = record {
    shows = shown_inside text [] old new rows on seen;
    same = λ some sound.
        same_database text [] old new answers.by_rowid some.0 [] columns names
        (means old.now.schema some.0 (its_place old kind tree trees named some sound)) rows seen;
    seen = λ some sound.
        let all = shows_rows text [] old new answers.by_rowid some.0 [] columns names
        (means old.now.schema some.0 (its_place old kind tree trees named some sound)) rows (rows_in old.now tree)
        (its_rows old kind tree trees named some sound) seen in
        let table = kind some.0 in
        let there = listed old.now.schema table some.1 in
        let typed : AllByRecursion (λ row. passes Datatype old.now.schema old.now.trees table row ≡ true)
        (old.now.trees table.tree) = all_has _ old.now.schema.tables table (sound.obeys.rules Datatype) there in
        let rows_are = its_rows old kind tree trees named some sound ∙ ap old.now.trees (sym (trees some.0)) in
        let is_typed : (r : Row) → Has (rows_in old.now tree) r → are_typed table.key 0 table.columns (drop 1 r) ≡ true =
        λ r h. typed_row table old.now r typed (subst (λ l. Has l r) rows_are h) in
        record {
          sound = λ x there. let s = all.sound x there in (s.0, s.1, s.3 ∙ are s.0);
          complete = λ r there. subst (Has rows) (are r) (all.complete r there refl);
          keyed = λ keyed. record {
            ints = λ r h. ap is_int (sym (first r))
                ∙ keyed.ints (columns_at places r) (subst (Has rows) (are r) (all.complete r h refl));
            one = λ a b ha hb e. same some.0 a b (is_typed a ha) (is_typed b hb)
                (keyed.one (columns_at places a) (columns_at places b)
                (subst (Has rows) (are a) (all.complete a ha refl)) (subst (Has rows) (are b) (all.complete b hb refl))
                (first a ∙ e ∙ sym (first b)));
          };
        };
  }

-- ---- the table meta

meta_same : (a b : Row) → are_typed tables.meta.key 0 tables.meta.columns (drop 1 a) ≡ true
    → are_typed tables.meta.key 0 tables.meta.columns (drop 1 b) ≡ true
    → SameColumns (columns_at (0 ∷ 1 ∷ 2 ∷ []) a) (columns_at (0 ∷ 1 ∷ 2 ∷ []) b) → SameColumns a b
meta_same a b ta tb same zero less = same 0 (omega arith)
meta_same a b ta tb same (suc zero) less = same 1 (omega arith)
meta_same a b ta tb same (suc (suc zero)) less = same 2 (omega arith)
meta_same a b ta tb same (suc (suc (suc k))) less =
    past_all tables.meta a (suc (suc k)) ta (omega arith) ∙ sym (past_all tables.meta b (suc (suc k)) tb (omega arith))

pub looks_at_meta : (old new : State) (rows : List Row) → IsTrue old.in_transaction
    → Shown Wholes.all_meta [] old new rows → Looks tables.meta_at 0 (0 ∷ 1 ∷ 2 ∷ []) old new rows
looks_at_meta old new rows on seen =
    looks Wholes.all_meta old new rows tables.meta_at 0 (λ n. refl) (λ n. refl) (0 ∷ 1 ∷ 2 ∷ []) (col 1 0 ∷ col 1 1 ∷ col 1 2 ∷ []) (codes "rowid" ∷ codes "k" ∷ codes "v" ∷ []) (λ r. refl)
    (λ r. refl) Wholes.all_meta_means (λ n a b ta tb same. meta_same a b ta tb same) on seen

-- ---- the table service

services_same : (a b : Row) → are_typed tables.service.key 0 tables.service.columns (drop 1 a) ≡ true
    → are_typed tables.service.key 0 tables.service.columns (drop 1 b) ≡ true
    → SameColumns (columns_at (0 ∷ 1 ∷ []) a) (columns_at (0 ∷ 1 ∷ []) b) → SameColumns a b
services_same a b ta tb same zero less = same 0 (omega arith)
services_same a b ta tb same (suc zero) less = same 1 (omega arith)
services_same a b ta tb same (suc (suc k)) less = past_all tables.service a (suc k) ta (omega arith)
    ∙ sym (past_all tables.service b (suc k) tb (omega arith))

pub looks_at_services : (old new : State) (rows : List Row) → IsTrue old.in_transaction
    → Shown Wholes.all_services [] old new rows → Looks tables.service_at 2 (0 ∷ 1 ∷ []) old new rows
looks_at_services old new rows on seen =
    looks Wholes.all_services old new rows tables.service_at 2 (λ n. refl) (λ n. refl) (0 ∷ 1 ∷ []) (col 1 0 ∷ col 1 1 ∷ []) (codes "rowid" ∷ codes "name" ∷ []) (λ r. refl)
    (λ r. refl) Wholes.all_services_means (λ n a b ta tb same. services_same a b ta tb same) on seen

-- ---- the table instance

instances_same : (a b : Row) → are_typed tables.instance.key 0 tables.instance.columns (drop 1 a) ≡ true
    → are_typed tables.instance.key 0 tables.instance.columns (drop 1 b) ≡ true
    → SameColumns (columns_at (0 ∷ 0 ∷ 2 ∷ 3 ∷ 4 ∷ 5 ∷ 6 ∷ []) a) (columns_at (0 ∷ 0 ∷ 2 ∷ 3 ∷ 4 ∷ 5 ∷ 6 ∷ []) b)
    → SameColumns a b
instances_same a b ta tb same zero less = same 0 (omega arith)
instances_same a b ta tb same (suc zero) less =
    (behind a 0 ∙ key_null tables.instance.columns (drop 1 a) (omega arith) ta)
    ∙ sym (behind b 0 ∙ key_null tables.instance.columns (drop 1 b) (omega arith) tb)
instances_same a b ta tb same (suc (suc zero)) less = same 2 (omega arith)
instances_same a b ta tb same (suc (suc (suc zero))) less = same 3 (omega arith)
instances_same a b ta tb same (suc (suc (suc (suc zero)))) less = same 4 (omega arith)
instances_same a b ta tb same (suc (suc (suc (suc (suc zero))))) less = same 5 (omega arith)
instances_same a b ta tb same (suc (suc (suc (suc (suc (suc zero)))))) less = same 6 (omega arith)
instances_same a b ta tb same (suc (suc (suc (suc (suc (suc (suc k))))))) less =
    past_all tables.instance a (suc (suc (suc (suc (suc (suc k)))))) ta (omega arith)
    ∙ sym (past_all tables.instance b (suc (suc (suc (suc (suc (suc k)))))) tb (omega arith))

pub looks_at_instances : (old new : State) (rows : List Row) → IsTrue old.in_transaction
    → Shown Wholes.all_instances [] old new rows → Looks tables.instance_at 4 (0 ∷ 0 ∷ 2 ∷ 3 ∷ 4 ∷ 5 ∷ 6 ∷ []) old new rows
looks_at_instances old new rows on seen =
    looks Wholes.all_instances old new rows tables.instance_at 4 (λ n. refl) (λ n. refl) (0 ∷ 0 ∷ 2 ∷ 3 ∷ 4 ∷ 5 ∷ 6 ∷ []) (col 1 0 ∷ col 1 0 ∷ col 1 2 ∷ col 1 3 ∷ col 1 4 ∷ col 1 5 ∷ col 1 6 ∷ []) (codes "id" ∷ codes "id" ∷ codes "service" ∷ codes "name" ∷ codes "rowtext" ∷ codes "start_snap" ∷ codes "previous_snap" ∷ []) (λ r. refl)
    (λ r. refl) Wholes.all_instances_means (λ n a b ta tb same. instances_same a b ta tb same) on seen

-- ---- the table grp

groups_same : (a b : Row) → are_typed tables.grp.key 0 tables.grp.columns (drop 1 a) ≡ true
    → are_typed tables.grp.key 0 tables.grp.columns (drop 1 b) ≡ true
    → SameColumns (columns_at (0 ∷ 1 ∷ 2 ∷ 3 ∷ 4 ∷ []) a) (columns_at (0 ∷ 1 ∷ 2 ∷ 3 ∷ 4 ∷ []) b) → SameColumns a b
groups_same a b ta tb same zero less = same 0 (omega arith)
groups_same a b ta tb same (suc zero) less = same 1 (omega arith)
groups_same a b ta tb same (suc (suc zero)) less = same 2 (omega arith)
groups_same a b ta tb same (suc (suc (suc zero))) less = same 3 (omega arith)
groups_same a b ta tb same (suc (suc (suc (suc zero)))) less = same 4 (omega arith)
groups_same a b ta tb same (suc (suc (suc (suc (suc k))))) less =
    past_all tables.grp a (suc (suc (suc (suc k)))) ta (omega arith)
    ∙ sym (past_all tables.grp b (suc (suc (suc (suc k)))) tb (omega arith))

pub looks_at_groups : (old new : State) (rows : List Row) → IsTrue old.in_transaction
    → Shown Wholes.all_groups [] old new rows → Looks tables.grp_at 6 (0 ∷ 1 ∷ 2 ∷ 3 ∷ 4 ∷ []) old new rows
looks_at_groups old new rows on seen =
    looks Wholes.all_groups old new rows tables.grp_at 6 (λ n. refl) (λ n. refl) (0 ∷ 1 ∷ 2 ∷ 3 ∷ 4 ∷ []) (col 1 0 ∷ col 1 1 ∷ col 1 2 ∷ col 1 3 ∷ col 1 4 ∷ []) (codes "rowid" ∷ codes "service" ∷ codes "instance" ∷ codes "name" ∷ codes "body" ∷ []) (λ r. refl)
    (λ r. refl) Wholes.all_groups_means (λ n a b ta tb same. groups_same a b ta tb same) on seen

-- ---- the table snap

snapshots_same : (a b : Row) → are_typed tables.snap.key 0 tables.snap.columns (drop 1 a) ≡ true
    → are_typed tables.snap.key 0 tables.snap.columns (drop 1 b) ≡ true
    → SameColumns (columns_at (0 ∷ 0 ∷ 2 ∷ 3 ∷ []) a) (columns_at (0 ∷ 0 ∷ 2 ∷ 3 ∷ []) b) → SameColumns a b
snapshots_same a b ta tb same zero less = same 0 (omega arith)
snapshots_same a b ta tb same (suc zero) less =
    (behind a 0 ∙ key_null tables.snap.columns (drop 1 a) (omega arith) ta)
    ∙ sym (behind b 0 ∙ key_null tables.snap.columns (drop 1 b) (omega arith) tb)
snapshots_same a b ta tb same (suc (suc zero)) less = same 2 (omega arith)
snapshots_same a b ta tb same (suc (suc (suc zero))) less = same 3 (omega arith)
snapshots_same a b ta tb same (suc (suc (suc (suc k)))) less =
    past_all tables.snap a (suc (suc (suc k))) ta (omega arith)
    ∙ sym (past_all tables.snap b (suc (suc (suc k))) tb (omega arith))

pub looks_at_snapshots : (old new : State) (rows : List Row) → IsTrue old.in_transaction
    → Shown Wholes.all_snapshots [] old new rows → Looks tables.snap_at 8 (0 ∷ 0 ∷ 2 ∷ 3 ∷ []) old new rows
looks_at_snapshots old new rows on seen =
    looks Wholes.all_snapshots old new rows tables.snap_at 8 (λ n. refl) (λ n. refl) (0 ∷ 0 ∷ 2 ∷ 3 ∷ []) (col 1 0 ∷ col 1 0 ∷ col 1 2 ∷ col 1 3 ∷ []) (codes "id" ∷ codes "id" ∷ codes "instance" ∷ codes "body" ∷ []) (λ r. refl)
    (λ r. refl) Wholes.all_snapshots_means (λ n a b ta tb same. snapshots_same a b ta tb same) on seen

-- ---- the table restarter

launches_same : (a b : Row) → are_typed tables.restarter.key 0 tables.restarter.columns (drop 1 a) ≡ true
    → are_typed tables.restarter.key 0 tables.restarter.columns (drop 1 b) ≡ true
    → SameColumns (columns_at (0 ∷ 1 ∷ 2 ∷ []) a) (columns_at (0 ∷ 1 ∷ 2 ∷ []) b) → SameColumns a b
launches_same a b ta tb same zero less = same 0 (omega arith)
launches_same a b ta tb same (suc zero) less = same 1 (omega arith)
launches_same a b ta tb same (suc (suc zero)) less = same 2 (omega arith)
launches_same a b ta tb same (suc (suc (suc k))) less =
    past_all tables.restarter a (suc (suc k)) ta (omega arith)
    ∙ sym (past_all tables.restarter b (suc (suc k)) tb (omega arith))

pub looks_at_launches : (old new : State) (rows : List Row) → IsTrue old.in_transaction
    → Shown Wholes.all_launches [] old new rows → Looks tables.restarter_at 9 (0 ∷ 1 ∷ 2 ∷ []) old new rows
looks_at_launches old new rows on seen =
    looks Wholes.all_launches old new rows tables.restarter_at 9 (λ n. refl) (λ n. refl) (0 ∷ 1 ∷ 2 ∷ []) (col 1 0 ∷ col 1 1 ∷ col 1 2 ∷ []) (codes "rowid" ∷ codes "name" ∷ codes "launch" ∷ []) (λ r. refl)
    (λ r. refl) Wholes.all_launches_means (λ n a b ta tb same. launches_same a b ta tb same) on seen
