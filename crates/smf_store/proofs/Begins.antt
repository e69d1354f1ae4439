-- The tables that the CREATEs make, and the counters.
use Rattle.std.proofs.Common.{◌≡◌, ◌⊎◌, inl, inr, ℕ, pos, List, [], codes, Some, None, Ok, refl, sym, ap, ap₂, subst, ◌∙◌, false}
use Rattle.sqlite.specs.Order.{Row}
use Rattle.sqlite.specs.Table.{Table}
use Rattle.sqlite.specs.Schema.{Schema}
use Rattle.sqlite.specs.Tree.{Trees}
use Rattle.sqlite.specs.Command.TheVariants.{CreateTable}
use Rattle.sqlite.specs.Change.{created, next_tree}
use Rattle.sqlite_catalog.specs.Change.{KeepsRows}
use Rattle.sqlite.specs.Compile.{table_defined_by}
use Rattle.sqlite.specs.Does.{Tally, lacks_sequence}
use Rattle.sqlite.specs.Effect.{Database, IsDatabase}
use Rattle.sqlite.specs.Listing.{understood}
use Rattle.sqlite.specs.State.{State, Shows, Writes, Executes, ExecutesInside}
use Rattle.sqlite.proofs.Callers.{IsPlain, command_of, statement_of, runs_as}
use Rattle.smf_tables.specs.Layout.{IsStore, rows_in}
use Rattle.smf_tables.specs.Rows.{IsKeyed}
use Rattle.smf_tables.specs.Schema as tables
use Rattle.smf_tables.specs.Schema.{no_schema, one_table, two_tables, three_tables, four_tables, five_tables, store_schema}
use Rattle.smf_tables.specs.Statements.{AddsMeta}
use Rattle.smf_tables.proofs.Alone.{new_is_store, new_rows}
use Rattle.smf_tables.proofs.Changes.{went, same_value}
use Rattle.smf_tables.proofs.Creates as texts
use Rattle.smf_model.specs.Look.{empty}
use Rattle.smf_model.proofs.LawNumbers.{first_numbers}
use Rattle.smf_store.specs.Creation.{AreBare, Creates, Counts, Made, MayMake}
use Rattle.smf_model.specs.Contents.{Holdings}
use Rattle.smf_store.specs.Holds.{Listed, Stands, StandsUnder, Counted}
use Rattle.smf_store.specs.Shown.{Counter, Version, Layout, Revision, NextInstance, NextSnapshot, Count, count_of, HasCount, HasGroup, of_service, of_instance, OwnedGroup}
use Rattle.smf_store.proofs.Makes.{shows_then}
use Rattle.smf_store.proofs.Six.{Six, Presents, holds, holds_own}
use Rattle.smf_store.proofs.Statements as step
use Rattle.smf_store.proofs.Tables.{becomes, counts_become}

-- the table was made, and is empty
record IsNew (schema : Schema) (table : Table) (old new : Database) : Type 0 where
  defined : new.schema ≡ created schema table
  bare : new.trees (next_tree schema) ≡ []
  others : KeepsRows schema.tables old.trees new.trees
  sound : IsDatabase new

creates : (text : List ℕ) (schema : Schema) (table : Table) (old new : State) (count : ℕ) → old.now.schema ≡ schema
    → (command_of (understood schema text) ≡ CreateTable) × (statement_of text (understood schema text) ≡ text)
    → IsPlain (understood schema text) → table_defined_by text ≡ Ok table
    → lacks_sequence (created schema table) ≡ false → Executes text [] old new (Ok count)
    → IsNew schema table old.now new.now
creates text schema table old new count has runs plain is uncounted h =
    let w = subst (λ t. Writes old new None CreateTable t [] count) runs.1
    (runs_as text [] old new schema has CreateTable runs.0 plain count h) in
    let all = went w.changed in
    let first = went all.1 in
    let made = first.1 in
    let both : Ok made.table ≡ Ok table = sym made.defined ∙ is in
    let same_table : made.table ≡ table = same_value both in
    let defined : first.0.schema ≡ created schema table =
    made.is ∙ ap (λ s. created s made.table) has ∙ ap (created schema) same_table in
    let lacks : lacks_sequence first.0.schema ≡ false = ap lacks_sequence defined ∙ uncounted in
    let now : new.now ≡ first.0 = ap (λ (p : Tally × Database). p.1) (same_value all.2)
    ∙ same_value (rw lacks at first.2) in
    record {
      defined = ap (λ (d : Database). d.schema) now ∙ defined;
      bare = ap (λ (d : Database). d.trees (next_tree schema)) now
          ∙ subst (λ s. first.0.trees (next_tree s) ≡ []) has made.empty;
      others = subst (λ (d : Database). KeepsRows schema.tables old.now.trees d.trees) (sym now)
          (subst (λ (s : Schema). KeepsRows s.tables old.now.trees first.0.trees) has made.others);
      sound = w.sound;
    }

module _ (old new : State) (count : ℕ) where
  pub creates_meta : ExecutesInside 0 texts.meta_text [] old new (Ok count) → Creates no_schema one_table old new
  creates_meta h = record {
    shows = h.1;
    made = λ bare.
        let m = creates texts.meta_text no_schema (tables.meta_at 0) old new count bare.has texts.meta_runs
        texts.meta_plain texts.meta_is refl h.0 in
        (record { has = m.defined; rows = (m.bare, tt) }, m.sound);
  }

  pub creates_service : ExecutesInside 0 texts.service_text [] old new (Ok count) → Creates one_table two_tables old new
  creates_service h = record {
    shows = h.1;
    made = λ bare.
        let m = creates texts.service_text one_table
        (tables.service_at 0) old new count bare.has texts.service_runs texts.service_plain texts.service_is refl
        h.0 in
        (record { has = m.defined; rows = (m.others.0 ∙ bare.rows.0, (m.bare, tt)) }, m.sound);
  }

  pub creates_instance : ExecutesInside 0 texts.instance_text [] old new (Ok count)
      → Creates two_tables three_tables old new
  creates_instance h = record {
    shows = h.1;
    made = λ bare.
        let m = creates texts.instance_text two_tables
        (tables.instance_at 0) old new count bare.has texts.instance_runs texts.instance_plain texts.instance_is
        refl h.0 in (
          record { has = m.defined; rows = (m.others.0 ∙ bare.rows.0, (m.others.1.0 ∙ bare.rows.1.0, (m.bare, tt))) },
          m.sound,
        );
  }

  pub creates_grp : ExecutesInside 0 texts.grp_text [] old new (Ok count) → Creates three_tables four_tables old new
  creates_grp h = record {
    shows = h.1;
    made = λ bare.
        let m = creates texts.grp_text three_tables
        (tables.grp_at 0) old new count bare.has texts.grp_runs texts.grp_plain texts.grp_is refl h.0 in (
          record {
            has = m.defined;
            rows = (
              m.others.0 ∙ bare.rows.0,
              (m.others.1.0 ∙ bare.rows.1.0, (m.others.1.1.0 ∙ bare.rows.1.1.0, (m.bare, tt))),
            );
          },
          m.sound,
        );
  }

  pub creates_snap : ExecutesInside 0 texts.snap_text [] old new (Ok count) → Creates four_tables five_tables old new
  creates_snap h = record {
    shows = h.1;
    made = λ bare.
        let m = creates texts.snap_text four_tables
        (tables.snap_at 0) old new count bare.has texts.snap_runs texts.snap_plain texts.snap_is refl h.0 in (
          record {
            has = m.defined;
            rows = (
              m.others.0 ∙ bare.rows.0,
              (
                m.others.1.0 ∙ bare.rows.1.0,
                (m.others.1.1.0 ∙ bare.rows.1.1.0, (m.others.1.1.1.0 ∙ bare.rows.1.1.1.0, (m.bare, tt))),
              ),
            );
          },
          m.sound,
        );
  }

  pub creates_restarter : ExecutesInside 0 texts.restarter_text [] old new (Ok count)
      → Creates five_tables store_schema old new
  creates_restarter h = record {
    shows = h.1;
    made = λ bare.
        let m = creates texts.restarter_text five_tables
        (tables.restarter_at 0) old new count bare.has texts.restarter_runs texts.restarter_plain
        texts.restarter_is refl h.0 in (
          record {
            has = m.defined;
            rows = (
              m.others.0 ∙ bare.rows.0,
              (
                m.others.1.0 ∙ bare.rows.1.0,
                (
                  m.others.1.1.0 ∙ bare.rows.1.1.0,
                  (m.others.1.1.1.0 ∙ bare.rows.1.1.1.0, (m.others.1.1.1.1.0 ∙ bare.rows.1.1.1.1.0, (m.bare, tt))),
                ),
              ),
            );
          },
          m.sound,
        );
  }

creates_then : (x y z : Schema) (a b c : State) → Creates x y a b → Creates y z b c → Creates x z a c
creates_then x y z a b c p q =
    record { shows = shows_then a b c p.shows q.shows; made = λ bare. q.made (p.made bare).0 }

pub creates_all : (a b c d e f g : State) → Creates no_schema one_table a b → Creates one_table two_tables b c
    → Creates two_tables three_tables c d → Creates three_tables four_tables d e → Creates four_tables five_tables e f
    → Creates five_tables store_schema f g → Creates no_schema store_schema a g
creates_all a b c d e f g one two three four five six =
    creates_then no_schema one_table store_schema a b g one
    (creates_then one_table two_tables store_schema b c g two
    (creates_then two_tables three_tables store_schema c d g three
    (creates_then three_tables four_tables store_schema d e g four
    (creates_then four_tables five_tables store_schema e f g five six))))

-- ---- the counters

keyed_none : IsKeyed []
keyed_none = record { ints = λ r h. absurd h; one = λ a b ha hb same. absurd ha }

listed_none : {X : Type 0} (S : X → Row → Type 0) (rows : List Row) → rows ≡ [] → Listed (λ x. ⊥) S rows
listed_none S rows is =
    subst (Listed (λ x. ⊥) S) (sym is) (record { there = λ x h. absurd h; only = λ r h. absurd h; keyed = keyed_none })

counted_none : (rows : List Row) → rows ≡ [] → Counted (λ x. ⊥) rows
counted_none rows is =
    subst (Counted (λ x. ⊥)) (sym is)
    (record { there = λ x h. absurd h; only = λ r h c key. absurd h; texts = λ r h. absurd h; keyed = keyed_none })

abbrev none : Six
none = record {
  counts = λ x. ⊥;
  services = λ x. ⊥;
  instances = λ x. ⊥;
  groups = λ x. ⊥;
  snapshots = λ x. ⊥;
  launches = λ x. ⊥;
}

presents_none : (db : Database) → AreBare store_schema db → IsDatabase db → Presents store_schema db none
presents_none db bare sound = let same = new_rows db bare.has in record {
  schema = record { store = subst IsStore (sym bare.has) new_is_store; same = bare.has };
  sound = sound;
  counts = counted_none (rows_in db 0) (same.0 ∙ bare.rows.0);
  services = listed_none _ (rows_in db 2) (same.1.0 ∙ bare.rows.1.0);
  instances = listed_none _ (rows_in db 4) (same.1.1.0 ∙ bare.rows.1.1.0);
  groups = listed_none _ (rows_in db 6) (same.1.1.1.0 ∙ bare.rows.1.1.1.0);
  snapshots = listed_none _ (rows_in db 8) (same.1.1.1.1.0 ∙ bare.rows.1.1.1.1.0);
  launches = listed_none _ (rows_in db 9) (same.1.1.1.1.1.0 ∙ bare.rows.1.1.1.1.1.0);
}

abbrev first_count : Counter → Count
first_count c = record { counter = c; value = count_of empty c }

abbrev IsOneOf : Count → Type 0
IsOneOf x = (x ≡ first_count NextSnapshot)
    ⊎ ((x ≡ first_count NextInstance)
    ⊎ ((x ≡ first_count Revision) ⊎ ((x ≡ first_count Layout) ⊎ ((x ≡ first_count Version) ⊎ ⊥))))

counted : (x : Count) (c : Counter) → x ≡ first_count c → HasCount empty x
counted x c same = ap (λ (z : Count). count_of empty z.counter) same ∙ sym (ap (λ (z : Count). z.value) same)

count_forth : (x : Count) → IsOneOf x → HasCount empty x
count_forth x (inl same) = counted x NextSnapshot same
count_forth x (inr (inl same)) = counted x NextInstance same
count_forth x (inr (inr (inl same))) = counted x Revision same
count_forth x (inr (inr (inr (inl same)))) = counted x Layout same
count_forth x (inr (inr (inr (inr (inl same))))) = counted x Version same
count_forth x (inr (inr (inr (inr (inr nothing))))) = absurd nothing

count_back_by : (c : Counter) (v : ℕ) → count_of empty c ≡ v → IsOneOf (record { counter = c; value = v })
count_back_by NextSnapshot v m = inl (λ j. record { counter = NextSnapshot; value = (sym m) j })
count_back_by NextInstance v m = inr (inl (λ j. record { counter = NextInstance; value = (sym m) j }))
count_back_by Revision v m = inr (inr (inl (λ j. record { counter = Revision; value = (sym m) j })))
count_back_by Layout v m = inr (inr (inr (inl (λ j. record { counter = Layout; value = (sym m) j }))))
count_back_by Version v m = inr (inr (inr (inr (inl (λ j. record { counter = Version; value = (sym m) j })))))

no_group : (x : OwnedGroup) → HasGroup empty x → ⊥
no_group x (of_service nought s e m) = let clash : None ≡ Some s = e in cc
no_group x (of_instance above e f d m) = let clash : None ≡ Some e = f in cc

clash : {X : Type 0} (x : X) → None ≡ Some x → ⊥
clash x e = cc

pub counts_all : (a b c d e f : State) → AddsMeta (codes "version") (pos 2) a b
    → AddsMeta (codes "layout") (pos 2) b c → AddsMeta (codes "revision") (pos 0) c d
    → AddsMeta (codes "next_instance") (pos 1) d e
    → AddsMeta (codes "next_snapshot") (pos 1) e f → Counts a f
counts_all a b c d e f one two three four five = record {
  shows = shows_then a e f
      (shows_then a d e (shows_then a c d (shows_then a b c one.shows two.shows) three.shows) four.shows) five.shows;
  made = λ bare sound.
      let p0 = presents_none a.now bare sound in
      let p1 = step.add_count a b none p0 (first_count Version) one in
      let p2 = step.add_count b c _ p1 (first_count Layout) two in
      let p3 = step.add_count c d _ p2 (first_count Revision) three in
      let p4 = step.add_count d e _ p3 (first_count NextInstance) four in
      let p5 = step.add_count e f _ p4 (first_count NextSnapshot) five in (
        record {
          holds = holds_own f.now empty (holds f.now empty (record {
            schema = p5.schema;
            sound = p5.sound;
            counts = counts_become p5.counts count_forth (λ x m. count_back_by x.counter x.value m);
            services = becomes p5.services (λ x m. absurd m) (λ x m. clash m.0 m.1);
            instances = becomes p5.instances (λ x m. absurd m) (λ x m. clash m.0 m.1);
            groups = becomes p5.groups (λ x m. absurd m) no_group;
            snapshots = becomes p5.snapshots (λ x m. absurd m) (λ x m. clash x m);
            launches = becomes p5.launches (λ x m. absurd m) (λ x m. clash x m);
          }) (record {
            ordered = record { services = tt; instances = tt; names = tt; snapshots = tt; launches = tt };
            service_groups = λ name s e. absurd (clash s e);
            instance_groups =
                λ n x e. absurd (clash x e);
            none_at_zero = refl;
          }));
          numbered = first_numbers;
        },
        p5.schema.same,
      );
}

-- ---- the transaction

pub stands_made : (begun mid last : State) → Creates no_schema store_schema begun mid → Counts mid last
    → begun.now.schema ≡ no_schema → Stands last.now empty × (last.now.schema ≡ store_schema)
stands_made begun mid last one two has = let it = one.made (record { has = has; rows = tt }) in two.made it.0 it.1

pub made_store : (old begun mid last end : State) → begun.now ≡ old.now → Creates no_schema store_schema begun mid
    → Counts mid last → Shows last end last.now last.now false → Made old end
made_store old begun mid last end now one two s = record {
  is_open = s.is_open;
  schema = λ has. ap (λ (d : Database). d.schema) s.now_is
      ∙ (stands_made begun mid last one two (ap (λ (d : Database). d.schema) now ∙ has)).1;
  keeps = λ has.
      record {
        stands = subst (λ d. Stands d empty) (sym s.now_is)
            (stands_made begun mid last one two (ap (λ (d : Database). d.schema) now ∙ has)).0;
        settled =
            s.committed_is ∙ sym s.now_is;
      };
}

-- a store is known by its schema and its trees
pub stands_in : (db : Database) (schema : Schema) (trees : Trees) (h : Holdings) → Stands db h → db.schema ≡ schema
    → trees ≡ db.trees → StandsUnder schema trees h
stands_in db schema trees h st under is =
    let same : ◌≡◌ {A = Database} db (record { schema = schema; trees = trees }) =
    ap₂ (λ a b. record { schema = a; trees = b }) under (sym is) in
    subst (λ d. Stands d h) same st

pub may_make : (old begun mid last : State) (db : Trees) → old.now.schema ≡ no_schema → begun.now ≡ old.now
    → Creates no_schema store_schema begun mid → Counts mid last → db ≡ last.now.trees → MayMake old db
may_make old begun mid last db has now one two is =
    let it = stands_made begun mid last one two (ap (λ (d : Database). d.schema) now ∙ has) in
    record { was_empty = has; stands = stands_in last.now store_schema db empty it.0 it.1 is }
