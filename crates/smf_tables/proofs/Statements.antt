-- The effect of each statement on the contents of the tables.
use Rattle.std.proofs.Common.{◌≡◌, ◌≢◌, ◌⊎◌, inl, inr, ◌∙◌, ℕ, List, [], ◌∷◌, find, None, Ok, Option, refl, sym, ap, subst, subst₂, false}
use Rattle.std.specs.Prelude.{option_map, unwrap_or}
use Rattle.std.specs.List.{AllByRecursion}
use Rattle.sqlite.specs.Order.{Row}
use Rattle.sqlite.specs.Cast.{cast_row}
use Rattle.sqlite.specs.Command.TheVariants.{Insert, Delete}
use Rattle.sqlite.specs.Source.{Source}
use Rattle.sqlite.specs.Rowids.TheVariants.{Chosen}
use Rattle.sqlite.specs.Does.{Tally, OnRows}
use Rattle.sqlite.specs.Rows.{stamped}
use Rattle.sqlite.specs.Edit.{Edit, with_rowid}
use Rattle.sqlite.specs.Schema.{Schema}
use Rattle.sqlite.specs.Table.{Table}
use Rattle.sqlite.specs.Tree.{Trees}
use Rattle.sqlite.specs.Term.{Term, col}
use Rattle.sqlite.specs.Effect.{Database, IsDatabase, IsSource}
use Rattle.sqlite.specs.State.{State, mode_of, Executes}
use Rattle.sqlite.proofs.Callers.{runs_as}
use Rattle.sqlite_schema.specs.Names.{same_name}
use Rattle.sqlite_schema.specs.declared.schema.Keys.TheVariants.{Enforced}
use Rattle.sqlite_rules.specs.Action.{Writes}
use Rattle.sqlite_rules.specs.Lists.{Has}
use Rattle.sqlite_rules.proofs.ListLemmas.{all_from, all_has}
use Rattle.smf_tables.specs.Layout.{IsStore, StandsAlone, name_of_tree, rows_in}
use Rattle.smf_tables.specs.Schema.{store_schema, meta_at, service_at, instance_at, grp_at, snap_at, restarter_at}
use Rattle.smf_tables.specs.Rows.{IsKeyed, Loses, Gains, Turns, is_picked}
use Rattle.smf_tables.proofs.Actions.{HasSix, IsApart, IsQuiet, Settled, settles}
use Rattle.smf_tables.proofs.Alone.{listed, rows_at, same_or_apart, trees_apart}
use Rattle.smf_tables.proofs.Answers.{rows_query}
use Rattle.smf_tables.proofs.Changes.{LooksAtColumns, went, same_value, deletes, inserts}
use Rattle.smf_tables.proofs.Named.{IsFound, Means}

-- ---- the six tables of a store, as they stand in it

module _ (s : Schema) (store : IsStore s) where
  abbrev pub six : List Table
  six = meta_at store.meta.0 ∷ service_at store.service.0 ∷ instance_at store.instance.0 ∷ grp_at store.grp.0
      ∷ snap_at store.snap.0 ∷ restarter_at store.restarter.0 ∷ []

  listed_are : (t : Table) → Has six t → Has s.tables t
  listed_are t (inl is) = subst (Has s.tables) (sym is) (listed s (meta_at store.meta.0) store.meta.1)
  listed_are t (inr (inl is)) = subst (Has s.tables) (sym is) (listed s (service_at store.service.0) store.service.1)
  listed_are t (inr (inr (inl is))) =
      subst (Has s.tables) (sym is) (listed s (instance_at store.instance.0) store.instance.1)
  listed_are t (inr (inr (inr (inl is)))) = subst (Has s.tables) (sym is) (listed s (grp_at store.grp.0) store.grp.1)
  listed_are t (inr (inr (inr (inr (inl is))))) =
      subst (Has s.tables) (sym is) (listed s (snap_at store.snap.0) store.snap.1)
  listed_are t (inr (inr (inr (inr (inr (inl is)))))) =
      subst (Has s.tables) (sym is) (listed s (restarter_at store.restarter.0) store.restarter.1)
  listed_are t (inr (inr (inr (inr (inr (inr none)))))) = absurd none

  quiet_or : (t u : Table) → IsQuiet t → (u ≡ t) ⊎ (t.tree ≢ u.tree) → (t.tree ≢ u.tree → IsQuiet u ⊎ IsApart six u)
      → IsQuiet u ⊎ IsApart six u
  quiet_or t u quiet (inl same) more = inl (subst IsQuiet (sym same) quiet)
  quiet_or t u quiet (inr apart) more = more apart

  other_is : (u : Table) → Has s.tables u → IsQuiet u ⊎ IsApart six u
  other_is u there =
      quiet_or (meta_at store.meta.0) u (inl refl) (same_or_apart s (meta_at store.meta.0) store.meta.1 u there) (λ a.
      quiet_or (service_at store.service.0) u (inl refl)
      (same_or_apart s (service_at store.service.0) store.service.1 u there) (λ b.
      quiet_or (instance_at store.instance.0) u (inr refl)
      (same_or_apart s (instance_at store.instance.0) store.instance.1 u there) (λ c.
      quiet_or (grp_at store.grp.0) u (inl refl) (same_or_apart s (grp_at store.grp.0) store.grp.1 u there) (λ d.
      quiet_or (snap_at store.snap.0) u (inl refl) (same_or_apart s (snap_at store.snap.0) store.snap.1 u there) (λ e.
      quiet_or (restarter_at store.restarter.0) u (inl refl)
      (same_or_apart s (restarter_at store.restarter.0) store.restarter.1 u there) (λ f.
      inr (a, (b, (c, (d, (e, (f, tt))))))))))))

  has_six : HasSix s six
  has_six = record {
    listed = listed_are;
    others = all_from (λ u. IsQuiet u ⊎ IsApart six u) s.tables other_is;
  }

-- ---- one of them

-- the tree of the table that has this name in a new store
abbrev tree_by : List ℕ → ℕ
tree_by name = unwrap_or (option_map (λ t. t.tree) (find (λ t. same_name t.name name) store_schema.tables)) 0

-- each has its name and its tree alone
record IsKnown (k : Table) : Type 0 where
  name : name_of_tree k.tree ≡ k.name
  tree : tree_by k.name ≡ k.tree

are_known : AllByRecursion IsKnown store_schema.tables
unfolding same_name
are_known = (
  record { name = refl; tree = refl },
  (
    record { name = refl; tree = refl },
    (
      record { name = refl; tree = refl },
      (
        record { name = refl; tree = refl },
        (record { name = refl; tree = refl }, (record { name = refl; tree = refl }, tt)),
      ),
    ),
  ),
)

known : (k : Table) → Has store_schema.tables k → IsKnown k
known k among = all_has IsKnown store_schema.tables k are_known among

-- such a table stands there with a tree of its own
pub record Own (s : Schema) (store : IsStore s) (k : Table) : Type 0 where
  pub tree : ℕ
  pub alone : StandsAlone s (record k { tree = tree })
  pub among : Has (six s store) (record k { tree = tree })

owns : (s : Schema) (store : IsStore s) → AllByRecursion (Own s store) store_schema.tables
owns s store = (
  record { tree = store.meta.0; alone = store.meta.1; among = inl refl },
  (
    record { tree = store.service.0; alone = store.service.1; among = inr (inl refl) },
    (
      record { tree = store.instance.0; alone = store.instance.1; among = inr (inr (inl refl)) },
      (
        record { tree = store.grp.0; alone = store.grp.1; among = inr (inr (inr (inl refl))) },
        (
          record { tree = store.snap.0; alone = store.snap.1; among = inr (inr (inr (inr (inl refl)))) },
          (
            record {
              tree = store.restarter.0;
              alone = store.restarter.1;
              among = inr (inr (inr (inr (inr (inl refl)))));
            },
            tt,
          ),
        ),
      ),
    ),
  ),
)

pub own : (s : Schema) (store : IsStore s) (k : Table) → Has store_schema.tables k → Own s store k
own s store k among = all_has (Own s store) store_schema.tables k (owns s store) among

-- its rows are those of its tree
own_rows : (db : Database) (k : Table) → Has store_schema.tables k → (tree : ℕ)
    → StandsAlone db.schema (record k { tree = tree }) → rows_in db k.tree ≡ db.trees tree
own_rows db k among tree alone = rows_at db k.tree (record k { tree = tree }) (known k among).name alone

module _ (text : List ℕ) (params : Row) (old new : State) (count : ℕ) (store : IsStore old.now.schema) (k : Table) (among : Has store_schema.tables k) where
  abbrev s : Schema
  s = old.now.schema

  abbrev mine : Own s store k
  mine = own s store k among

  abbrev table : Table
  table = record k { tree = mine.tree }

  old_rows : rows_in old.now k.tree ≡ old.now.trees mine.tree
  old_rows = own_rows old.now k among mine.tree mine.alone

  settled : (db next : Trees) (edit : Edit) → edit.table ≡ table → Writes s Enforced db edit (Ok next)
      → Settled (six s store) db edit next
  settled db next edit same =
      settles s (six s store) (has_six s store) db next edit (subst (Has (six s store)) (sym same) mine.among)

  -- the rows of the others are as they were
  spared : (schema : new.now.schema ≡ s)
      → ((t : Table) → Has (six s store) t → t.tree ≢ mine.tree → new.now.trees t.tree ≡ old.now.trees t.tree)
      → AllByRecursion (λ t. t.tree ≢ k.tree → rows_in new.now t.tree ≡ rows_in old.now t.tree) store_schema.tables
  spared schema stay =
      all_from (λ t. t.tree ≢ k.tree → rows_in new.now t.tree ≡ rows_in old.now t.tree) store_schema.tables
      (λ t there other.
      let it = own s store t there in
      let named : t.name ≢ k.name =
      λ e. other (sym (known t there).tree ∙ ap tree_by e ∙ (known k among).tree) in
      own_rows new.now t there it.tree (subst (λ z. StandsAlone z (record t { tree = it.tree })) (sym schema) it.alone)
      ∙ stay (record t { tree = it.tree }) it.among
      (trees_apart s (record t { tree = it.tree }) table it.alone mine.alone named)
      ∙ sym (own_rows old.now t there it.tree it.alone))

  turns : (Changes : List Row → List Row → Type 0) (schema : new.now.schema ≡ s) → IsDatabase new.now
      → Changes (old.now.trees mine.tree) (new.now.trees mine.tree)
      → ((t : Table) → Has (six s store) t → t.tree ≢ mine.tree → new.now.trees t.tree ≡ old.now.trees t.tree)
      → Turns Changes k old.now new.now
  turns Changes schema sound changes stay = record {
    schema = schema;
    sound = sound;
    rows = subst₂ Changes (sym old_rows)
        (sym (own_rows new.now k among mine.tree (subst (λ z. StandsAlone z table) (sym schema) mine.alone))) changes;
    spares = spared schema stay;
  }

  module _ (f : IsFound s table) where
    pub deletes_rows : (filter : List Term)
        → Means s text (Delete f.place (record { lets = []; body = rows_query mine.tree filter (col 1 0 ∷ []) }))
        → LooksAtColumns filter params → IsKeyed (rows_in old.now k.tree)
        → Executes text params old new (Ok count)
        → Turns (Loses (is_picked filter params)) k old.now new.now
    deletes_rows filter means looks keyed h =
        let command = Delete f.place (record { lets = []; body = rows_query mine.tree filter (col 1 0 ∷ []) }) in
        let w = runs_as text params old new s refl command means.is means.plain count h in
        let done = went
        (subst (λ (o : Option Table). Rattle.sqlite.specs.Does.AtPlace
        (λ t. OnRows (record {
          limit = old.step_limit;
          keys = Enforced;
          schema = s;
          table = t;
          params = params;
        }) (mode_of old) None command old.now.trees) o (Ok (w.tally, new.now))) f.there w.changed) in
        let now = ap (λ (p : Tally × Database). p.1) (same_value (went (went done.2).2).2) in
        let it = deletes old.step_limit Enforced s (six s store) table params
        settled old.now.trees filter done.0 looks (subst IsKeyed old_rows keyed) done.1 in
        turns (Loses (is_picked filter params)) (ap (λ (d : Database). d.schema) now) w.sound
        (subst (λ (d : Database). Loses (is_picked filter params) (old.now.trees mine.tree)
        (d.trees mine.tree)) (sym now) it.0)
        (λ t there other. ap (λ (d : Database). d.trees t.tree) now ∙ it.1 t there other)

    pub inserts_row : (from : Source) → Means s text (Insert f.place from) → IsKeyed (rows_in old.now k.tree)
        → (source made : Row) → k.is_counted ≡ false
        → ((rows : List Row)
        → IsSource (record { schema = s; trees = old.now.trees }) (stamped table params) from rows
        → rows ≡ source ∷ [])
        → with_rowid Chosen (rows_in old.now k.tree) (cast_row k source) ≡ made
        → Executes text params old new (Ok count) → Turns (Gains made) k old.now new.now
    inserts_row from means keyed source made uncounted given cast h =
        let command = Insert f.place from in
        let w = runs_as text params old new s refl command means.is means.plain count h in
        let done = went
        (subst (λ (o : Option Table). Rattle.sqlite.specs.Does.AtPlace
        (λ t. OnRows (record {
          limit = old.step_limit;
          keys = Enforced;
          schema = s;
          table = t;
          params = params;
        }) (mode_of old) None command old.now.trees) o (Ok (w.tally, new.now))) f.there w.changed) in
        let now = ap (λ (p : Tally × Database). p.1) (same_value (went (went done.2).2).2) in
        let it = inserts old.step_limit Enforced s (six s store) table params
        settled old.now.trees from source made done.0 uncounted given
        (ap (λ rows. with_rowid Chosen rows (cast_row k source)) (sym old_rows) ∙ cast) (subst IsKeyed old_rows keyed)
        done.1 in
        turns (Gains made) (ap (λ (d : Database). d.schema) now) w.sound
        (subst (λ (d : Database). Gains made (old.now.trees mine.tree) (d.trees mine.tree)) (sym now) it.0)
        (λ t there other. ap (λ (d : Database). d.trees t.tree) now ∙ it.1 t there other)
