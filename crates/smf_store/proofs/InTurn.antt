-- Rows that are put in one after another, each of which may stand there.
use Rattle.std.proofs.Common.{◌≡◌, inl, inr, List, [], ◌∷◌, ◌++◌, Option, Some, refl, sym, ap, subst, ◌∙◌, append_assoc, append-nil}
use Rattle.sqlite.specs.Order.{Row}
use Rattle.sqlite.specs.Tree.{rowid}
use Rattle.sqlite_rules.specs.Lists.{Has}
use Rattle.sqlite_rules.proofs.ListLemmas.{all_has, has_either}
use Rattle.smf_tables.specs.Rows.{AreApart}
use Rattle.smf_model.specs.Contents.{Holdings}
use Rattle.smf_store.specs.RowValues.{◌>>=◌}
use Rattle.smf_store.specs.Judged.{add_all}

-- no row of the first list has the rowid of one of the second
abbrev pub AreUnlike : List Row → List Row → Type 0
AreUnlike done todo = (a b : Row) → Has done a → Has todo b → rowid a ≡ rowid b → ⊥

pub unlike_more : (done todo : List Row) (r : Row) → AreApart (r ∷ todo) → AreUnlike done (r ∷ todo)
    → AreUnlike (done ++ r ∷ []) todo
unlike_more done todo r apart unlike a b ha hb = elim (has_either done (r ∷ []) a ha) [
  | inl old ↦ unlike a b old (inr hb)
  | inr (inl same) ↦ (λ e. all_has (λ z. rowid r ≡ rowid z → ⊥) todo b apart.0 hb (sym (ap rowid same) ∙ e))
  | inr (inr none) ↦ absurd none
]

-- if each row in turn may stand after those before it, all of them may
module _ (add : Holdings → Row → Option Holdings) (all : List Row) (P : List Row → Holdings → Type 0)
    (step : (done : List Row) (r : Row) (k : Holdings) → Has all r → ((a : Row) → Has done a → Has all a)
    → ((a : Row) → Has done a → rowid a ≡ rowid r → ⊥) → P done k
    → (h : Holdings) × (add k r ≡ Some h) × P (done ++ r ∷ []) h) where
  go_on : (todo done : List Row) (k : Holdings) → ((r : Row) → Has todo r → Has all r)
      → ((a : Row) → Has done a → Has all a) → AreApart todo → AreUnlike done todo → P done k
      → (h : Holdings) × (add_all add k todo ≡ Some h) × P (done ++ todo) h
  go_on [] done k each within apart unlike p = (k, refl, subst (λ d. P d k) (sym (append-nil done)) p)
  go_on (r ∷ rs) done k each within apart unlike p =
      let here = each r (inl refl) in
      let s = step done r k here within (λ a ha. unlike a r ha (inl refl)) p in
      let more : (a : Row) → Has (done ++ r ∷ []) a → Has all a = λ a ha. elim (has_either done (r ∷ []) a ha) [
        | inl old ↦ within a old
        | inr (inl same) ↦ subst (Has all) (sym same) here
        | inr (inr none) ↦ absurd none
      ] in
      let rest = go_on rs (done ++ r ∷ []) s.0 (λ q h. each q (inr h)) more apart.1
      (unlike_more done rs r apart unlike) s.2 in (
        rest.0,
        ap (λ o. o >>= (λ z. add_all add z rs)) s.1 ∙ rest.1,
        subst (λ d. P d rest.0) (append_assoc done (r ∷ []) rs) rest.2,
      )

  pub in_turn : (k : Holdings) → AreApart all → P [] k → (h : Holdings) × (add_all add k all ≡ Some h) × P all h
  in_turn k apart p = go_on all [] k (λ r h. h) (λ a h. absurd h) apart (λ a b h. absurd h) p
