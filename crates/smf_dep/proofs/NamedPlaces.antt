-- The places of names if members come after others, or take the places of members with their names.
use Rattle.std.proofs.Common.{◌≡◌, ℕ, suc, ◌+◌, List, [], ◌∷◌, ◌++◌, map, length, Bool, true, false, if◌then◌else◌, refl, sym, ap, ◌∙◌, arith}
use Rattle.std.specs.Prelude.{Vec, String}
use Rattle.std.specs.HashMap.{HashMap}
use Rattle.std.specs.Str.{bytes_eq}
use Rattle.smf_fmri.specs.Patterns.{service_of}
use Rattle.smf_dep.specs.declared.member.GraphMember.{GraphMember}
use Rattle.smf_dep.specs.declared.names.NameIndex.{NameIndex}
use Rattle.smf_dep.specs.Names.{AreAt, AreIndexed, found_at, instance_name, named_from}

named_append : (name : GraphMember → List ℕ) (at : ℕ) (q : List ℕ) (ms xs : List GraphMember)
    → named_from name at q (ms ++ xs) ≡ named_from name at q ms ++ named_from name (at + length ms) q xs
named_append name at q [] xs = ap (λ n. named_from name n q xs) (no_more at)
  where
    no_more : (n : ℕ) → n ≡ n + 0
    no_more n = omega arith
named_append name at q (m ∷ ms) xs =
    by (bytes_eq q (name m)) (named_from name (at + 1) q (ms ++ xs)) (named_from name (at + 1) q ms)
    (named_from name (at + suc (length ms)) q xs)
    (named_append name (at + 1) q ms xs
    ∙ ap (λ n. named_from name (at + 1) q ms ++ named_from name n q xs) (one_later at (length ms)))
  where
    one_later : (n k : ℕ) → n + 1 + k ≡ n + suc k
    one_later n k = omega arith

    by : (b : Bool) (all front back : List ℕ) → all ≡ front ++ back
        → (if b then at ∷ all else all) ≡ (if b then at ∷ front else front) ++ back
    by true all front back e = ap (λ l. at ∷ l) e
    by false all front back e = e

-- members came after all others
pub at_joined : {Y S : Type 0} (name : GraphMember → List ℕ) (m m' : HashMap (String Y) (Vec ℕ Y) S)
    (ms xs : List GraphMember) (count : ℕ) → length ms ≡ count
    → ((q : List ℕ) → found_at m' q ≡ found_at m q ++ named_from name count q xs) → AreAt name m ms
    → AreAt name m' (ms ++ xs)
at_joined name m m' ms xs count size put h q =
    put q ∙ ap (λ l. l ++ named_from name count q xs) (h q)
    ∙ ap (λ n. named_from name 0 q ms ++ named_from name n q xs) (sym size ∙ none_before (length ms))
    ∙ sym (named_append name 0 q ms xs)
  where
    none_before : (n : ℕ) → n ≡ 0 + n
    none_before n = omega arith

-- ---- other members with the same names

named_alike : (part : List ℕ → List ℕ) (at : ℕ) (q : List ℕ) (ms ks : List GraphMember)
    → map instance_name ms ≡ map instance_name ks
    → named_from (λ (m : GraphMember). part m.name) at q ms ≡ named_from (λ (m : GraphMember). part m.name) at q ks
named_alike part at q [] [] e = refl
named_alike part at q [] (k ∷ ks) e = absurd cc
named_alike part at q (m ∷ ms) [] e = absurd cc
named_alike part at q (m ∷ ms) (k ∷ ks) e =
    let first : m.name ≡ k.name = cc in
    let rest : map instance_name ms ≡ map instance_name ks = cc in
    λ i. if bytes_eq q (part (first i)) then at ∷ named_alike part (at + 1) q ms ks rest i
    else named_alike part (at + 1) q ms ks rest i

pub indexed_named : (i : NameIndex) (ms ks : List GraphMember) → map instance_name ms ≡ map instance_name ks
    → AreIndexed i ms → AreIndexed i ks
indexed_named i ms ks e h = (
  (λ q. h.0 q ∙ named_alike (λ n. n) 0 q ms ks e),
  (λ q. h.1 q ∙ named_alike service_of 0 q ms ks e),
)
