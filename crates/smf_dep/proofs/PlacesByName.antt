-- The places at a name are those of the instances that an entity stands for.
use Rattle.std.proofs.Common.{◌≡◌, ℕ, ◌+◌, List, [], ◌∷◌, Bool, true, false, if◌then◌else◌, refl, sym, ap, ◌∙◌}
use Rattle.std.specs.Prelude.{is_some, nat_eq}
use Rattle.std.specs.Cmp.{nat_eq_equiv}
use Rattle.std.proofs.lemmas.Cmp.{lists_equiv}
use Rattle.std.specs.Cmp.Lexicographic.{pointwise}
use Rattle.std.specs.Str.{bytes_eq}
use Rattle.smf_fmri.specs.Patterns.{instance_of, service_of}
use Rattle.smf_dep.specs.declared.member.GraphMember.{GraphMember}
use Rattle.smf_dep.specs.Names.{instance_name, named_from, service_name}
use Rattle.smf_dep.specs.Places.{places, places_from}
use Rattle.smf_dep.specs.Verdicts.{cites_by, is_cited}

turned : (xs ys : List ℕ) → bytes_eq xs ys ≡ pointwise nat_eq ys xs
turned xs ys = (lists_equiv nat_eq_equiv).symm xs ys

from_named : (name : GraphMember → List ℕ) (q e : List ℕ) → ((m : GraphMember) → bytes_eq q (name m) ≡ is_cited e m)
    → (at : ℕ) (ms : List GraphMember)
    → named_from name at q ms ≡ places_from at e ms
from_named name q e same at [] = refl
from_named name q e same at (m ∷ ms) =
    by (bytes_eq q (name m)) (is_cited e m) (same m) (named_from name (at + 1) q ms) (places_from (at + 1) e ms)
    (from_named name q e same (at + 1) ms)
  where
    by : (b c : Bool) → b ≡ c → (xs ys : List ℕ) → xs ≡ ys → (if b then at ∷ xs else xs) ≡ (if c then at ∷ ys else ys)
    by b c same_test xs ys same_rest = ap (λ t. if t then at ∷ xs else xs) same_test
        ∙ ap (λ zs. if c then at ∷ zs else zs) same_rest

pub of_instance : (e : List ℕ) (ms : List GraphMember) → is_some (instance_of e) ≡ true
    → named_from instance_name 0 e ms ≡ places ms e
unfolding places
of_instance e ms t = from_named instance_name e e (λ m. turned e m.name ∙ ap (λ b. cites_by b e m) (sym t)) 0 ms

pub of_service : (e : List ℕ) (ms : List GraphMember) → is_some (instance_of e) ≡ false
    → named_from service_name 0 (service_of e) ms ≡ places ms e
unfolding places
of_service e ms t =
    from_named service_name (service_of e) e
    (λ m. turned (service_of e) (service_of m.name) ∙ ap (λ b. cites_by b e m) (sym t)) 0 ms
