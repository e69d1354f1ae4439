-- No row of a table of a store stands twice in what is read of it, and no two share its key.
use Rattle.std.proofs.Common.{◌≡◌, ℕ, ℤ, List, [], ◌∷◌, true, refl, sym, ap, subst, ◌∙◌}
use Rattle.sqlite.specs.declared.types.Value.TheVariants.{Int, Text}
use Rattle.sqlite.specs.Order.{Row, column}
use Rattle.sqlite.specs.Tree.{rowid}
use Rattle.sqlite.specs.View.{is_int}
use Rattle.sqlite.specs.Effect.{Database, IsDatabase}
use Rattle.sqlite_rules.specs.Lists.{Has}
use Rattle.smf_tables.specs.Layout.{IsStore, rows_in}
use Rattle.smf_tables.specs.Scans.{AreShown, columns_at}
use Rattle.smf_tables.specs.Rows.{AreApart, IsKeyed}
use Rattle.smf_store.specs.declared.judgements.StoreRows.{StoreRows}
use Rattle.smf_store.specs.Gathered.{Matches}
use Rattle.smf_store.specs.Holds.{Listed}
use Rattle.smf_store.specs.Stages.{AreListed}
use Rattle.smf_store.proofs.Once.{once_group, once_launch, once_meta, once_service}

-- two rows of one key have one rowid
abbrev pub AreOne : List ℕ → List Row → Type 0
AreOne key rows = (a b : Row) → Has rows a → Has rows b → column a 1 ≡ Text key → column b 1 ≡ Text key
    → (rowid a ≡ rowid b → ⊥) → ⊥

-- the same of rows of groups, whose key is in three columns
abbrev pub AreOneGroup : List Row → Type 0
AreOneGroup rows =
    (a b : Row) (s g : List ℕ) (n : ℤ) → Has rows a → Has rows b → column a 1 ≡ Text s → column b 1 ≡ Text s
    → column a 2 ≡ Int n → column b 2 ≡ Int n → column a 3 ≡ Text g → column b 3 ≡ Text g
    → (rowid a ≡ rowid b → ⊥) → ⊥

pub record AreSole (rows : StoreRows) : Type 0 where
  pub counts_apart : AreApart rows.counts.items
  pub services_apart : AreApart rows.services.items
  pub instances_apart : AreApart rows.instances.items
  pub groups_apart : AreApart rows.groups.items
  pub snapshots_apart : AreApart rows.snapshots.items
  pub launches_apart : AreApart rows.launches.items
  pub counts : (t : List ℕ) → AreOne t rows.counts.items
  pub services : (t : List ℕ) → AreOne t rows.services.items
  pub groups : AreOneGroup rows.groups.items
  pub launches : (t : List ℕ) → AreOne t rows.launches.items

abbrev Unlike : Row → Row → Type 0
Unlike a b = (is_int (rowid a) ≡ true) × (is_int (rowid b) ≡ true) × (rowid a ≡ rowid b → ⊥)

module _ (places : List ℕ) (all rows : List Row) (seen : AreShown places all rows) (keyed : IsKeyed rows) (id : (r : Row) → rowid (columns_at places r) ≡ rowid r) where
  id_of : (x : Row) (h : Has rows x) → rowid x ≡ rowid (seen.sound x h).0
  id_of x h = let s = seen.sound x h in ap rowid s.2 ∙ id s.0

  unlike_seen : (a b : Row) (ha : Has rows a) (hb : Has rows b) → (rowid a ≡ rowid b → ⊥)
      → Unlike (seen.sound a ha).0 (seen.sound b hb).0
  unlike_seen a b ha hb apart = (
    ap is_int (sym (id_of a ha)) ∙ keyed.ints a ha,
    ap is_int (sym (id_of b hb)) ∙ keyed.ints b hb,
    λ e. apart (id_of a ha ∙ e ∙ sym (id_of b hb)),
  )

  one_text : ((r : Row) → column (columns_at places r) 1 ≡ column r 1)
      → ((a b : Row) (t : List ℕ) → Has all a → Has all b → Unlike a b → column a 1 ≡ Text t → column b 1 ≡ Text t
      → ⊥) → (t : List ℕ) → AreOne t rows
  one_text first once t a b ha hb ea eb apart =
      let r = seen.sound a ha in
      let q = seen.sound b hb in
      once r.0 q.0 t r.1 q.1 (unlike_seen a b ha hb apart) (sym (ap (λ z. column z 1) r.2 ∙ first r.0) ∙ ea)
      (sym (ap (λ z. column z 1) q.2 ∙ first q.0) ∙ eb)

pub are_sole : (db : Database) (rows : StoreRows) → IsStore db.schema → IsDatabase db → AreListed rows (rows_in db)
    → AreSole rows
are_sole db rows has sound l = record {
  counts_apart = l.counts.keyed.apart;
  services_apart = l.services.keyed.apart;
  instances_apart = l.instances.keyed.apart;
  groups_apart = l.groups.keyed.apart;
  snapshots_apart = l.snapshots.keyed.apart;
  launches_apart = l.launches.keyed.apart;
  counts = one_text (0 ∷ 1 ∷ 2 ∷ []) (rows_in db 0) rows.counts.items l.counts.shown l.counts.keyed.keyed (λ r. refl)
      (λ r. refl) (once_meta db has sound);
  services = one_text (0 ∷ 1 ∷ []) (rows_in db 2) rows.services.items l.services.shown l.services.keyed.keyed
      (λ r. refl) (λ r. refl) (once_service db has sound);
  groups = λ a b s g n ha hb e1 f1 e2 f2 e3 f3 apart.
      let r = l.groups.shown.sound a ha in
      let q = l.groups.shown.sound b hb in
      once_group db has sound r.0 q.0 s g n r.1 q.1
      (unlike_seen (0 ∷ 1 ∷ 2 ∷ 3 ∷ 4 ∷ []) (rows_in db 6) rows.groups.items l.groups.shown l.groups.keyed.keyed
      (λ z. refl) a b ha hb apart)
      (sym (ap (λ z. column z 1) r.2) ∙ e1) (sym (ap (λ z. column z 1) q.2) ∙ f1)
      (sym (ap (λ z. column z 2) r.2) ∙ e2) (sym (ap (λ z. column z 2) q.2) ∙ f2)
      (sym (ap (λ z. column z 3) r.2) ∙ e3) (sym (ap (λ z. column z 3) q.2) ∙ f3);
  launches = one_text (0 ∷ 1 ∷ 2 ∷ []) (rows_in db 9) rows.launches.items l.launches.shown l.launches.keyed.keyed
      (λ r. refl) (λ r. refl) (once_launch db has sound);
}

-- rows that are read of a table match the members that the table lists
pub matches_of : {X : Type 0} {M : X → Type 0} {S : X → Row → Type 0} (places : List ℕ) (all rows : List Row)
    → AreShown places all rows → ((x : X) (r : Row) → S x r → S x (columns_at places r)) → Listed M S all
    → Matches M S rows
matches_of {S = S} places all rows seen forth l = record {
  there = λ x m. let r = l.there x m in (columns_at places r.0, seen.complete r.0 r.1, forth x r.0 r.2);
  only = λ q h. let s = seen.sound q h in let x = l.only s.0 s.1 in
      (x.0, x.1, subst (S x.0) (sym s.2) (forth x.0 s.0 x.2));
}
