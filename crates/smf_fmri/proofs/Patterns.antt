-- The tests of a match agree with the relation.
use Rattle.std.proofs.Common.{◌≡◌, ℕ, List, [], ◌∷◌, ◌++◌, length, take, ◌-◌, Option, Some, None, refl, ◌==◌, eqb-true, arith}
use Rattle.std.specs.Cmp.Lexicographic.{pointwise}
use Rattle.std.specs.Bool.{Decides}
use Rattle.std.specs.List.{ends_with}
use Rattle.std.specs.Prelude.{nat_eq}
use Rattle.std.proofs.lemmas.Slice.Eq.{ends_is, slice_eq-Decides}
use Rattle.std.proofs.lemmas.Bool.Decides.{Decides-eqb, Decides-and, Decides-or, Decides-like}
use Rattle.smf_fmri.specs.Name.{short, strip}
use Rattle.smf_fmri.specs.Patterns.{EndsService, ends_service, is_instance, IsOf, is_of, Abbreviates, abbreviates, Matches, matches, matches_body, parts_of, parts_of_name}

-- equality of texts as a test
pub same_text : (a b : List ℕ) → Decides (pointwise nat_eq a b) (a ≡ b)
same_text a b = slice_eq-Decides Decides-eqb a b _ refl

behind_slash : (suffix service : List ℕ)
    → Decides (ends_with nat_eq service (47 ∷ suffix)) ((front : List ℕ) × (service ≡ front ++ 47 ∷ suffix))
behind_slash suffix service =
    let both = ends_is Decides-eqb service (47 ∷ suffix) _ refl in
    (λ e. (take (length service - length (47 ∷ suffix)) service, both.0 e), λ h. both.1 h.0 h.1)

service_ends : (suffix service : List ℕ) → Decides (ends_service suffix service) (EndsService suffix service)
service_ends suffix service = Decides-or _ _ (same_text service suffix) (behind_slash suffix service)

some_same : (a b : List ℕ) → Decides (pointwise nat_eq a b) (◌≡◌ {A = Option (List ℕ)} (Some a) (Some b))
some_same a b = Decides-like _ (λ e. rw e refl) (λ e. cc) (same_text a b)

instance_is : (o : Option (List ℕ)) (text : List ℕ) → Decides (is_instance o text) (o ≡ Some text)
instance_is None text = (λ e. cc, λ e. cc)
instance_is (Some instance) text = some_same instance text

is_of_is : (pattern name : List ℕ × Option (List ℕ)) → Decides (is_of pattern name) (IsOf pattern name)
is_of_is (service, None) name = same_text name.0 service
is_of_is (service, Some instance) name = Decides-and _ _ (same_text name.0 service) (instance_is name.1 instance)

is_empty_is : (suffix : List ℕ) → Decides (length suffix == 0) (suffix ≡ [])
is_empty_is [] = (λ e. refl, λ e. refl)
is_empty_is (b ∷ bs) =
    (λ e. absurd (let none : length (b ∷ bs) ≡ 0 = eqb-true (length (b ∷ bs)) 0 e in omega arith), λ e. cc)

abbreviates_is : (pattern name : List ℕ × Option (List ℕ))
    → Decides (abbreviates pattern name) (Abbreviates pattern name)
abbreviates_is (text, None) name = Decides-or _ _ (instance_is name.1 text) (service_ends text name.0)
abbreviates_is (suffix, Some instance) name =
    Decides-and _ _ (instance_is name.1 instance) (Decides-or _ _ (is_empty_is suffix) (service_ends suffix name.0))

matches_at : (pattern name : List ℕ) (o : Option (List ℕ)) → strip short pattern ≡ o
    → Decides (matches_body pattern name o) (Matches pattern name)
matches_at pattern name None e = rw e (abbreviates_is (parts_of pattern) (parts_of_name name))
matches_at pattern name (Some body) e = rw e (is_of_is (parts_of body) (parts_of_name name))

-- the test says whether the pattern matches
pub matches_decides : (pattern name : List ℕ) → Decides (matches pattern name) (Matches pattern name)
matches_decides pattern name = matches_at pattern name (strip short pattern) refl
