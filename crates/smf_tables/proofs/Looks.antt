-- The results of the queries inside a transaction.
use Rattle.std.proofs.Common.{◌≡◌, ◌<◌, ◌⊎◌, inl, inr, ℕ, ℤ, List, [], ◌∷◌, length, get_or, codes, string_bytes, Option, Some, None, Err, IsTrue, Bool, if◌then◌else◌, true, false, refl, sym, subst, ap, ◌∙◌, arith}
use Rattle.sqlite_value.specs.declared.keys.Key.{Key}
use Rattle.sqlite.specs.declared.types.Value.TheVariants.{Null, Int, Text}
use Rattle.sqlite.specs.Order.{Row, column}
use Rattle.sqlite.specs.Command.TheVariants.{Select}
use Rattle.sqlite.specs.Program.{overlay}
use Rattle.sqlite.specs.Term.{Term, col}
use Rattle.sqlite.specs.Listing.{understood}
use Rattle.sqlite.specs.declared.error.Error.{Error}
use Rattle.sqlite_schema.specs.declared.command.Returning.{Returning}
use Rattle.sqlite_resolve.specs.declared.compiled.Compiled.{Compiled}
use Rattle.sqlite.specs.State.{State, Shown, Shows, ShowsRows, IsUnchanged, IsRolledBack, KeepsCommit, RunsCommand, FailsToShow, FailsToQuery, IsNotRun, IsTooLate}
use Rattle.sqlite.proofs.Callers.{IsPlain, reads_as}
use Rattle.sqlite_rules.specs.Lists.{Has}
use Rattle.sqlite_rules.proofs.ListLemmas.{has_at}
use Rattle.smf_tables.specs.declared.lookups.NameColumns.{NameColumns}
use Rattle.smf_tables.specs.Rows.{equal, is_picked}
use Rattle.smf_tables.specs.Statements.{ReadsName, FindsService}
use Rattle.sqlite.specs.Effect.{IsDatabase}
use Rattle.sqlite.specs.Table.{Table}
use Rattle.smf_tables.specs.Layout.{IsStore, StandsSomewhere, name_of_tree, rows_in}
use Rattle.smf_tables.specs.Schema.{instance_at, service_at}
use Rattle.smf_tables.proofs.Alone.{is_found, rows_at}
use Rattle.smf_tables.proofs.Answers.{ordered_query, rows_query, AreShown, are_shown}
use Rattle.smf_tables.proofs.Named.{IsFound, Means}
use Rattle.smf_tables.proofs.Changes.{no_tables}
use Rattle.smf_tables.proofs.Texts

kept : (old new : State) → IsUnchanged old new → KeepsCommit old new
kept old new same = record { was_open = λ _. same.0.was_open; committed = λ _. same.0.committed_is }

undone : (old new : State) → IsRolledBack old new → KeepsCommit old new
undone old new back = record { was_open = back.was_open; committed = λ o. (back.undone o).1 }

runs_none : (old new : State) (text : List ℕ) (c : Compiled) (params : Row) (e : Error)
    → RunsCommand old new text c params (Err e) → KeepsCommit old new
runs_none old new text c params e (inl refused) = kept old new refused.1
runs_none old new text c params e (inr failed) = undone old new failed.3

shows_none : (old new : State) (text : List ℕ) (c : Compiled) (params : Row) (e : Error) (what : Option Returning)
    → FailsToShow old new text c params e what → KeepsCommit old new
shows_none old new text c params e None h = kept old new h.3
shows_none old new text c params e (Some what) h = runs_none old new text c params e h

-- a query that fails commits nothing
pub fails_kept : (text : List ℕ) (params : Row) (old new : State) (e : Error)
    → FailsToQuery text params old new e ⊎ IsTooLate text params old new e → KeepsCommit old new
unfolding FailsToQuery IsNotRun
fails_kept text params old new e (inl (inl (inl unread))) = kept old new unread.1
fails_kept text params old new e (inl (inl (inr failed))) = undone old new failed.3
fails_kept text params old new e (inl (inr h)) = shows_none old new text h.0 _ e h.0.returning h.2
fails_kept text params old new e (inr late) = kept old new late.5

shown_by : (old new : State) (text : List ℕ) (c : Compiled) (params : Row) (rows : List Row) (what : Option Returning)
    → IsTrue old.in_transaction → ShowsRows old new text c params rows what
    → Shows old new new.now old.committed true
shown_by old new text c params rows None on h = let s = h.3.0 in
    record {
      was_open = s.was_open;
      is_open = s.is_open;
      now_is = refl;
      committed_is = s.committed_is;
      mode = s.mode ∙ on;
    }
shown_by old new text c params rows (Some what) on h =
    subst (λ b. Shows old new new.now (if b then old.committed else new.now) b) on h.1.shown

-- a query inside a transaction stays inside, and commits nothing
pub shown_inside : (text : List ℕ) (params : Row) (old new : State) (rows : List Row) → IsTrue old.in_transaction
    → Shown text params old new rows → Shows old new new.now old.committed true
unfolding Shown
shown_inside text params old new rows on h = shown_by old new text h.0 _ rows h.0.returning on h.2

pub shown_kept : (text : List ℕ) (params : Row) (old new : State) (rows : List Row) → IsTrue old.in_transaction
    → Shown text params old new rows → KeepsCommit old new
shown_kept text params old new rows on h = let s = shown_inside text params old new rows on h in
    record { was_open = λ _. s.was_open; committed = λ _. s.committed_is }

-- a query that is no write leaves all as it was
pub unchanged : (text : List ℕ) (params : Row) (old new : State) (rows : List Row)
    → IsPlain (understood old.now.schema text) → Shown text params old new rows → IsUnchanged old new
unfolding Shown
unchanged text params old new rows plain h =
    let bare = subst IsPlain h.1.is plain in
    let it = rw (bare.0) at h.2 in
    it.3

module _ (text : List ℕ) (params : Row) (old new : State) (order : List (Term × Key)) (tree : ℕ) (tests shown : List Term) (names : List (List ℕ))
    (means : Means old.now.schema text (Select (record { lets = []; body = ordered_query order tree tests shown }) names)) where
  -- the rows that pass are shown, and no other
  pub shows_rows : (rows all : List Row) → all ≡ old.now.trees tree → Shown text params old new rows
      → AreShown (λ _. all) tree tests shown params rows
  shows_rows rows all is seen =
      let it = are_shown (overlay old.now.trees []) order tree tests shown params rows
      ((reads_as text params old new old.now.schema refl
      (Select (record { lets = []; body = ordered_query order tree tests shown }) names) means.is means.plain
      means.unlisted rows seen).answer Null) in
      let same = no_tables old.now.trees tree ∙ sym is in
      record {
        sound = λ x h. let s = it.sound x h in (s.0, subst (λ l. Has l s.0) same s.1, s.2, s.3);
        complete = λ r h passes. it.complete r (subst (λ l. Has l r) (sym same) h) passes;
      }

  pub same_database : (rows : List Row) → Shown text params old new rows → new.now ≡ old.now
  same_database rows seen = (unchanged text params old new rows means.plain seen).0.now_is

pub first_is : {X : Type 0} (rows : List X) (x : X) → 0 < length rows → x ≡ get_or rows 0 x → Has rows x
first_is rows x within is = has_at rows 0 x within is

some_in : (rows : List Row) → 0 < length rows → (x : Row) × Has rows x
some_in [] less = absurd (omega (arith, less))
some_in (x ∷ rows) less = (x, inl refl)

none_in : (rows : List Row) → length rows ≡ 0 → (x : Row) → Has rows x → ⊥
none_in [] none x h = h
none_in (y ∷ rows) none x h = omega (arith, none)

fails_unless : (b : Bool) → (b ≡ true → ⊥) → b ≡ false
fails_unless true away = absurd (away refl)
fails_unless false away = refl

-- a table of a store, as a query finds it
module _ (old : State) (kind : ℕ → Table) (tree : ℕ) (trees : (n : ℕ) → (kind n).tree ≡ n) (named : (n : ℕ) → name_of_tree tree ≡ (kind n).name) (some : StandsSomewhere old.now.schema kind) (sound : IsDatabase old.now) where
  pub its_place : IsFound old.now.schema (kind some.0)
  its_place = is_found old.now (kind some.0) some.1 sound

  pub its_rows : rows_in old.now tree ≡ old.now.trees some.0
  its_rows = rows_at old.now tree (kind some.0) (named some.0) some.1 ∙ ap old.now.trees (trees some.0)

module _ (old new : State) (rows : List Row) (on : IsTrue old.in_transaction) where
  name_means : (store : IsStore old.now.schema) → IsDatabase old.now
      → Means old.now.schema Texts.name_of
      (Select (record { lets = []; body = rows_query store.instance.0 (equal 0 0 ∷ []) (col 1 2 ∷ col 1 3 ∷ []) })
      (codes "service" ∷ codes "name" ∷ []))
  name_means store sound =
      Texts.name_of_means old.now.schema store.instance.0
      (its_place old instance_at 4 (λ n. refl) (λ n. refl) store.instance sound)

  named_rows : (store : IsStore old.now.schema) → IsDatabase old.now → (id : ℤ)
      → Shown Texts.name_of (Int id ∷ []) old new rows
      → AreShown (λ _. rows_in old.now 4) store.instance.0 (equal 0 0 ∷ []) (col 1 2 ∷ col 1 3 ∷ []) (Int id ∷ []) rows
  named_rows store sound id seen =
      shows_rows Texts.name_of (Int id ∷ []) old new [] store.instance.0 (equal 0 0 ∷ []) (col 1 2 ∷ col 1 3 ∷ [])
      (codes "service" ∷ codes "name" ∷ []) (name_means store sound) rows (rows_in old.now 4)
      (its_rows old instance_at 4 (λ n. refl) (λ n. refl) store.instance sound) seen

  name_same : (store : IsStore old.now.schema) → IsDatabase old.now → (id : ℤ)
      → Shown Texts.name_of (Int id ∷ []) old new rows → new.now ≡ old.now
  name_same store sound id seen =
      same_database Texts.name_of (Int id ∷ []) old new [] store.instance.0 (equal 0 0 ∷ []) (col 1 2 ∷ col 1 3 ∷ [])
      (codes "service" ∷ codes "name" ∷ []) (name_means store sound) rows seen

  pub no_name : (id : ℤ) → length rows ≡ 0 → Shown Texts.name_of (Int id ∷ []) old new rows → ReadsName id old new None
  no_name id none seen = record {
    shows = shown_inside Texts.name_of (Int id ∷ []) old new rows on seen;
    same = λ store sound. name_same store sound id seen;
    seen = λ store sound.
        let all = named_rows store sound id seen in (
          tt,
          λ r there. fails_unless (is_picked (equal 0 0 ∷ []) (Int id ∷ []) r)
              (λ passes. none_in rows none _ (all.complete r there passes)),
        );
  }

  pub reads_name : (id : ℤ) (it : NameColumns) (x : Row) → Has rows x → column x 0 ≡ Text (string_bytes it.service)
      → column x 1 ≡ Text (string_bytes it.name)
      → Shown Texts.name_of (Int id ∷ []) old new rows → ReadsName id old new (Some it)
  reads_name id it x there service name seen = record {
    shows = shown_inside Texts.name_of (Int id ∷ []) old new rows on seen;
    same = λ store sound. name_same store sound id seen;
    seen = λ store sound.
        let s = (named_rows store sound id seen).sound x there in (
          record {
            row = s.0;
            there = s.1;
            picked = s.2;
            shows = (sym (ap (λ r. column r 0) s.3) ∙ service, sym (ap (λ r. column r 1) s.3) ∙ name);
          },
          tt,
        );
  }

  service_means : (store : IsStore old.now.schema) → IsDatabase old.now
      → Means old.now.schema Texts.has_service
      (Select (record { lets = []; body = rows_query store.service.0 (equal 1 0 ∷ []) (col 1 1 ∷ []) })
      (codes "name" ∷ []))
  service_means store sound =
      Texts.has_service_means old.now.schema store.service.0
      (its_place old service_at 2 (λ n. refl) (λ n. refl) store.service sound)

  pub finds_service : (name : List ℕ) (found : Bool) → (IsTrue found → 0 < length rows)
      → Shown Texts.has_service (Text name ∷ []) old new rows → FindsService name old new found
  finds_service name found some seen = record {
    shows = shown_inside Texts.has_service (Text name ∷ []) old new rows on seen;
    same = λ store sound.
        same_database Texts.has_service (Text name ∷ []) old new [] store.service.0 (equal 1 0 ∷ []) (col 1 1 ∷ [])
        (codes "name" ∷ []) (service_means store sound) rows seen;
    seen = λ store sound is.
        let x = some_in rows (some is) in
        let all = shows_rows Texts.has_service (Text name ∷ []) old new [] store.service.0 (equal 1 0 ∷ [])
        (col 1 1 ∷ []) (codes "name" ∷ []) (service_means store sound) rows (rows_in old.now 2)
        (its_rows old service_at 2 (λ n. refl) (λ n. refl) store.service sound) seen in
        let s = all.sound x.0 x.1 in
        record { row = s.0; there = s.1; picked = s.2; shows = tt };
  }

  pub no_service : (name : List ℕ) → Shown Texts.has_service (Text name ∷ []) old new rows
      → FindsService name old new false
  no_service name seen = finds_service name false (λ is. absurd (let e : false ≡ true = is in cc)) seen
