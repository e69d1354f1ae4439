-- The effect of DELETE and INSERT on the rows of one of the six tables. No lemma here needs the order of the rows.
use Rattle.std.proofs.Common.{◌≡◌, ◌≢◌, ◌⊎◌, inl, inr, ℕ, ℤ, List, [], ◌∷◌, None, Ok, Err, Option, Result, refl, sym, ap, subst, ◌∙◌, Bool, true, false, cond, true≢false, nat_le, fold}
use Rattle.std.specs.Ordering.{is_eq}
use Rattle.std.proofs.lemmas.Bool.{and_parts, not-true}
use Rattle.sqlite.specs.declared.types.Value.TheVariants.{Int, Null}
use Rattle.sqlite.specs.Order.{Row, column}
use Rattle.sqlite_value.specs.Order.{value_cmp}
use Rattle.sqlite_value.proofs.OrderLemmas.{value_cmp_total}
use Rattle.std.proofs.lemmas.Cmp.{tied_itself}
use Rattle.sqlite.specs.Schema.{Schema}
use Rattle.sqlite.specs.Table.{Table}
use Rattle.sqlite.specs.Term.{Term, col}
use Rattle.sqlite.specs.Program.{overlay}
use Rattle.sqlite.specs.Tree.{Trees, rowid, put_row}
use Rattle.sqlite.specs.View.{is_int}
use Rattle.sqlite.specs.Rows.{Written, Task, Deletes, Inserts, stamped, rowids_for, count_of, higher, Counts, Outcome}
use Rattle.sqlite.specs.Source.{Source}
use Rattle.sqlite.specs.Effect.{IsSource}
use Rattle.sqlite.specs.Cast.{cast_row}
use Rattle.sqlite.specs.Edit.{Edit, edit_of, with_rowid, without_all, put_all, have_rowids, is_taken, are_fresh, id_in}
use Rattle.sqlite.specs.Rowids.TheVariants.{Given, Chosen, Above}
use Rattle.sqlite_rules.specs.Action.{Writes}
use Rattle.sqlite_rules.specs.Calls.{ids_of}
use Rattle.sqlite_rules.specs.Lists.{Has}
use Rattle.sqlite_rules.proofs.TableLemmas.{int_is, without_all_has, put_has, has_put, put_all_keeps}
use Rattle.sqlite_schema.specs.declared.schema.Keys.{Keys}
use Rattle.smf_tables.proofs.Actions.{Settled}
use Rattle.smf_tables.proofs.Answers.{rows_query, AreShown, are_shown}
use Rattle.smf_tables.proofs.Rowids.{none_left, stays_left, has_any}
use Rattle.smf_tables.specs.Rows.{IsKeyed, Loses, Gains, SameColumns, is_picked}

-- a part that gave a value did not stop on the way
pub went : {B E R : Type 0} {b : B} {Stops : E → Type 0} → ((stop : E) × Stops stop × (Ok b ≡ Err stop)) ⊎ R → R
went (inl stopped) = absurd (let e = stopped.2 in cc)
went (inr on) = on

pub same_value : {B E : Type 0} {a b : B} → ◌≡◌ {A = Result B E} (Ok a) (Ok b) → a ≡ b
same_value e = cc

from_id : (all : List Row) (i : ℤ) → Has (ids_of all) i → (x : Row) × Has all x × (i ≡ id_in (rowid x))
from_id [] i h = absurd h
from_id (x ∷ all) i (inl same) = (x, inl refl, same)
from_id (x ∷ all) i (inr more) = let it = from_id all i more in (it.0, inr it.1, it.2)

has_id : (all : List Row) (x : Row) (i : ℤ) → rowid x ≡ Int i → Has all x → Has (ids_of all) i
has_id [] x i keyed h = absurd h
has_id (y ∷ all) x i keyed (inl same) = inl (sym (ap (λ z. id_in (rowid z)) (sym same) ∙ ap id_in keyed))
has_id (y ∷ all) x i keyed (inr more) = inr (has_id all x i keyed more)

pub no_tables : (db : Trees) (t : ℕ) → overlay db [] t ≡ db t
no_tables db t =
    elim (nat_le 2147483648 t) as (λ b. Rattle.std.specs.Prelude.unwrap_or (cond b None None) (db t) ≡ db t)
    [ true ↦ refl | false ↦ refl ]

-- a test of a WHERE looks at columns alone
abbrev pub LooksAtColumns : List Term → Row → Type 0
LooksAtColumns filter params = (a b : Row) → SameColumns a b → is_picked filter params a ≡ is_picked filter params b

pub loses : (db : Trees) (tree : ℕ) (filter : List Term) (params : Row) (found : List Row)
    → LooksAtColumns filter params → IsKeyed (db tree)
    → AreShown (overlay db []) tree filter (col 1 0 ∷ []) params found
    → Loses (is_picked filter params) (db tree) (without_all (db tree) (ids_of found))
loses db tree filter params found looks keyed shown =
    let rows = db tree in
    let same = no_tables db tree in
    let id_is : (r : Row) → Has rows r → rowid r ≡ Int (id_in (rowid r)) = λ r h. int_is (rowid r) (keyed.ints r h) in
    let passes : Row → Bool = is_picked filter params in
    let spared : (r : Row) → Has rows r → passes r ≡ false → Has (ids_of found) (id_in (rowid r)) → ⊥ = λ r h fails m.
    let x = from_id found (id_in (rowid r)) m in
    let s = shown.sound x.0 x.1 in
    let there : Has rows s.0 = subst (λ l. Has l s.0) same s.1 in
    let equal : rowid r ≡ rowid s.0 = id_is r h ∙ ap Int (x.2 ∙ ap (λ y. id_in (rowid y)) s.3)
    ∙ sym (id_is s.0 there) in
    true≢false (sym s.2 ∙ sym (looks r s.0 (keyed.one r s.0 h there equal)) ∙ fails) in
    record {
      was = λ r h.
          let old = without_all_has (ids_of found) rows r h in (
            old,
            elim (passes r) as (λ b. passes r ≡ b → passes r ≡ false) [
              | true ↦ λ is. absurd (none_left (ids_of found) (id_in (rowid r)) rows r (id_is r old)
                  (has_id found (rowid r ∷ []) (id_in (rowid r)) (id_is r old)
                  (shown.complete r (subst (λ l. Has l r) (sym same) old) is)) h)
              | false ↦ λ is. is
            ] refl,
          );
      stays = λ r h fails. stays_left (ids_of found) (id_in (rowid r)) rows r (id_is r h) (spared r h fails) h;
      keyed = record {
        ints = λ r h. keyed.ints r (without_all_has (ids_of found) rows r h);
        one = λ a b ha hb. keyed.one a b (without_all_has (ids_of found) rows a ha)
            (without_all_has (ids_of found) rows b hb);
      };
    }

untaken : (rows : List Row) (new r : Row) → is_taken rows new ≡ false → Has rows r → rowid r ≡ rowid new → ⊥
untaken rows new r free there same =
    true≢false (sym
    (has_any (λ x. is_eq (value_cmp (rowid x) (rowid new))) rows r there
    (ap (λ v. is_eq (value_cmp v (rowid new))) same ∙ ap is_eq (tied_itself value_cmp_total (rowid new)))) ∙ free)

pub gains : (rows : List Row) (new : Row) → IsKeyed rows → is_int (rowid new) ≡ true
    → are_fresh rows (new ∷ []) ≡ true → Gains new rows (put_row new rows)
gains rows new keyed int fresh =
    let free = not-true _ (and_parts _ _ fresh).0 in
    let was : (r : Row) → Has (put_row new rows) r → (r ≡ new) ⊎ Has rows r = put_has new rows in
    record {
      there = has_put new rows;
      was = was;
      stays = λ r h. put_all_keeps (new ∷ []) rows r fresh h;
      fresh = λ r h. untaken rows new r free h;
      keyed = record {
        ints = λ r h. elim (was r h) [ inl same ↦ ap (λ x. is_int (rowid x)) same ∙ int | inr old ↦ keyed.ints r old ];
        one = λ a b ha hb same. elim (was a ha) [
          | inl a_new ↦ elim (was b hb) [
            | inl b_new ↦ λ at small. ap (λ x. column x at) (a_new ∙ sym b_new)
            | inr b_old ↦ absurd (untaken rows new b free b_old (sym same ∙ ap rowid a_new))
          ]
          | inr a_old ↦ elim (was b hb) [
            | inl b_new ↦ absurd (untaken rows new a free a_old (same ∙ ap rowid b_new))
            | inr b_old ↦ keyed.one a b a_old b_old same
          ]
        ];
      };
    }

-- DELETE FROM the table WHERE the filter, as the command that its text compiles to
module _ (limit : Option ℕ) (keys : Keys) (schema : Schema) (six : List Table) (table : Table) (params : Row) (settles : (db next : Trees) (edit : Edit) → edit.table ≡ table → Writes schema keys db edit (Ok next) → Settled six db edit next) where
  abbrev pub task : Task
  task = record { limit = limit; keys = keys; schema = schema; table = table; params = params }

  abbrev pub Spares : Trees → Trees → Type 0
  Spares old new = (t : Table) → Has six t → t.tree ≢ table.tree → new t.tree ≡ old t.tree

  pub deletes : (db : Trees) (filter : List Term) (w : Written) → LooksAtColumns filter params
      → IsKeyed (db table.tree)
      → Deletes task (record { lets = []; body = rows_query table.tree filter (col 1 0 ∷ []) }) db (Ok w)
      → Loses (is_picked filter params) (db table.tree) (w.trees table.tree) × Spares db w.trees
  deletes db filter w looks keyed h =
      let found = went h in
      let step = went found.2 in
      let edit = edit_of db table (ids_of found.0) Given 0 [] in
      let applies = settles db step.0 edit refl step.1 in
      let shown = are_shown (overlay db []) [] table.tree filter (col 1 0 ∷ []) params found.0 (found.1.answer Null) in
      let trees : w.trees ≡ step.0 = ap (λ (x : Written). x.trees) (same_value step.2) in (
        subst (Loses (is_picked filter params) (db table.tree))
            (sym (ap (λ (t : Trees). t table.tree) trees ∙ applies.rows))
            (loses db table.tree filter params found.0 looks keyed shown),
        subst (Spares db) (sym trees) applies.tables,
      )

  no_count : (db : Trees) (counter : Option Row) (top : ℤ) (out : Outcome Trees) → table.is_counted ≡ false
      → Counts task db counter top out → out ≡ Ok db
  no_count db counter top out uncounted h = rw uncounted at h

  -- INSERT of one row that the statement gives, which the columns cast to `made` with its rowid
  pub inserts : (db : Trees) (from : Source) (source made : Row) (w : Written) → table.is_counted ≡ false
      → ((rows : List Row) → IsSource (record { schema = schema; trees = db }) (stamped table params) from rows
      → rows ≡ source ∷ [])
      → with_rowid Chosen (db table.tree) (cast_row table source) ≡ made
      → IsKeyed (db table.tree) → Inserts task from db (Ok w)
      → Gains made (db table.tree) (w.trees table.tree) × Spares db w.trees
  inserts db from source made w uncounted given cast keyed h =
      let rows = went h in
      let counter = went rows.2 in
      let step = went counter.2 in
      let last = went step.2 in
      let edit = edit_of db table [] (rowids_for table (count_of counter.0)) 0 rows.0 in
      let applies = settles db step.0 edit refl step.1 in
      let news : edit.news ≡ made ∷ [] =
      ap (λ b. (edit_of db table [] (cond b (Above (count_of counter.0)) Chosen) 0 rows.0).news) uncounted
      ∙ ap (λ all. (edit_of db table [] Chosen 0 all).news) (given rows.0 rows.1) ∙ ap (λ r. r ∷ []) cast in
      let ended = no_count step.0 counter.0 (fold higher (count_of counter.0) edit.news) (Ok last.0) uncounted last.1 in
      let trees : w.trees ≡ step.0 = ap (λ (x : Written). x.trees) (same_value last.2) ∙ same_value ended in
      let now : w.trees table.tree ≡ put_row made (db table.tree) =
      ap (λ (t : Trees). t table.tree) trees ∙ applies.rows ∙ ap (put_all (db table.tree)) news in
      let fresh : are_fresh (db table.tree) (made ∷ []) ≡ true =
      ap (are_fresh (db table.tree)) (sym news) ∙ applies.fresh in
      let int : is_int (rowid made) ≡ true = (and_parts _ _ (ap have_rowids (sym news) ∙ applies.keyed)).0 in (
        subst (Gains made (db table.tree)) (sym now) (gains (db table.tree) made keyed int fresh),
        subst (Spares db) (sym trees) applies.tables,
      )
