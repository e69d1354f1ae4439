-- How the rows of one table follow what they show.
use Rattle.std.proofs.Common.{◌≡◌, ◌⊎◌, inl, inr, ℕ, Bool, false, List, refl, sym, subst}
use Rattle.sqlite.specs.Order.{Row}
use Rattle.sqlite_rules.specs.Lists.{Has}
use Rattle.smf_value.specs.Groups.{GroupRecord}
use Rattle.smf_tables.specs.Rows.{Loses, Gains}
use Rattle.smf_store.specs.Shown.{OwnedGroup, ShowsGroup, Count, ShowsCount, HasTextKey}
use Rattle.smf_store.specs.Holds.{Listed, Counted}
use Rattle.smf_store.proofs.Spelt.{text_key}
use Rattle.smf_store.specs.Steps.{Adds, Grows, owned_by}

module _ {X : Type 0} {M : X → Type 0} {S : X → Row → Type 0} {old : List Row} (is : Listed M S old) where
  -- the rows that are picked are those of what goes
  pub lost : {new : List Row} (picked : Row → Bool) → Loses picked old new → (Goes : X → Type 0)
      → ((x : X) (r : Row) → S x r → picked r ≡ false → Goes x → ⊥)
      → ((x : X) (r : Row) → S x r → (Goes x → ⊥) → picked r ≡ false) → Listed (λ x. M x × (Goes x → ⊥)) S new
  lost picked l Goes kept spared = record {
    there = λ x m. let r = is.there x m.0 in (r.0, l.stays r.0 r.1 (spared x r.0 r.2 m.1), r.2);
    only = λ r h. let w = l.was r h in let x = is.only r w.0 in (x.0, (x.1, kept x.0 r x.2 w.1), x.2);
    keyed = l.keyed;
  }

  pub gained : {new : List Row} (row : Row) → Gains row old new → (x : X) → S x row → Listed (λ y. (y ≡ x) ⊎ M y) S new
  gained row g x shows = record {
    there = λ y m. elim m [
      | inl same ↦ (row, g.there, subst (λ z. S z row) (sym same) shows)
      | inr old_one ↦ let r = is.there y old_one in (r.0, g.stays r.0 r.1, r.2)
    ];
    only = λ r h. elim (g.was r h) [
      | inl same ↦ (x, inl refl, subst (S x) (sym same) shows)
      | inr old_one ↦ let y = is.only r old_one in (y.0, inr y.1, y.2)
    ];
    keyed = g.keyed;
  }

  pub added : {new : List Row} (x : X) → Adds (S x) old new → Listed (λ y. (y ≡ x) ⊎ M y) S new
  added x a = gained a.row a.gains x a.shows

  pub becomes : {N : X → Type 0} → ((x : X) → M x → N x) → ((x : X) → N x → M x) → Listed N S old
  becomes forth back = record {
    there = λ x n. is.there x (back x n);
    only = λ r h. let x = is.only r h in (x.0, forth x.0 x.1, x.2);
    keyed = is.keyed;
  }

-- the same of the counters
module _ {M : Count → Type 0} {old : List Row} (is : Counted M old) where
  pub counts_lost : {new : List Row} (picked : Row → Bool) → Loses picked old new → (Goes : Count → Type 0)
      → ((x : Count) (r : Row) → ShowsCount x r → picked r ≡ false → Goes x → ⊥)
      → ((x : Count) (r : Row) → ShowsCount x r → (Goes x → ⊥) → picked r ≡ false)
      → Counted (λ x. M x × (Goes x → ⊥)) new
  counts_lost picked l Goes kept spared = record {
    there = λ x m. let r = is.there x m.0 in (r.0, l.stays r.0 r.1 (spared x r.0 r.2 m.1), r.2);
    only = λ r h c key. let w = l.was r h in let x = is.only r w.0 c key in (x.0, (x.1, kept x.0 r x.2 w.1), x.2);
    texts = λ r h. is.texts r (l.was r h).0;
    keyed = l.keyed;
  }

  pub counts_gained : {new : List Row} (row : Row) → Gains row old new → (x : Count) → ShowsCount x row
      → Counted (λ y. (y ≡ x) ⊎ M y) new
  counts_gained row g x shows = record {
    there = λ y m. elim m [
      | inl same ↦ (row, g.there, subst (λ z. ShowsCount z row) (sym same) shows)
      | inr old_one ↦ let r = is.there y old_one in (r.0, g.stays r.0 r.1, r.2)
    ];
    only = λ r h c key. elim (g.was r h) [
      | inl same ↦ (x, inl refl, subst (ShowsCount x) (sym same) shows)
      | inr old_one ↦ let y = is.only r old_one c key in (y.0, inr y.1, y.2)
    ];
    texts = λ r h. elim (g.was r h) [
      | inl same ↦ subst HasTextKey (sym same) (text_key x row shows)
      | inr old_one ↦ is.texts r old_one
    ];
    keyed = g.keyed;
  }

  pub counts_become : {N : Count → Type 0} → ((x : Count) → M x → N x) → ((x : Count) → N x → M x) → Counted N old
  counts_become forth back = record {
    there = λ x n. is.there x (back x n);
    only = λ r h c key. let x = is.only r h c key in (x.0, forth x.0 x.1, x.2);
    texts = is.texts;
    keyed = is.keyed;
  }

-- one of these groups
abbrev pub IsOf : List ℕ → ℕ → List GroupRecord → OwnedGroup → Type 0
IsOf service number gs x = (g : GroupRecord) × Has gs g × (x ≡ owned_by service number g)

pub grown : {M : OwnedGroup → Type 0} {old new : List Row} (service : List ℕ) (number : ℕ) (gs : List GroupRecord)
    → Listed M ShowsGroup old → Grows service number gs old new
    → Listed (λ x. IsOf service number gs x ⊎ M x) ShowsGroup new
grown service number gs is grows = record {
  there = λ x m. elim m [
    | inl new_one ↦ let r = grows.there new_one.0 new_one.1 in
        (r.0, r.1, subst (λ z. ShowsGroup z r.0) (sym new_one.2) r.2)
    | inr old_one ↦ let r = is.there x old_one in (r.0, grows.stays r.0 r.1, r.2)
  ];
  only = λ r h. elim (grows.was r h) [
    | inl new_one ↦ (owned_by service number new_one.0, inl (new_one.0, new_one.1, refl), new_one.2)
    | inr old_one ↦ let x = is.only r old_one in (x.0, inr x.1, x.2)
  ];
  keyed = grows.keyed;
}
