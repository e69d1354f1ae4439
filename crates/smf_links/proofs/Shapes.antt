-- Tallies that are counted anew, in place.
use Rattle.std.proofs.Common.{◌≡◌, ℕ, zero, suc, ◌+◌, ◌<◌, ◌≤◌, List, [], ◌∷◌, map, length, get_or, Bool, refl, sym, ap, ◌∙◌, inl, inr, arith, length-set}
use Rattle.std.specs.Prelude.{slice_get, slice_set}
use Rattle.std.specs.Option.{option_map}
use Rattle.std.proofs.lemmas.Bool.{cases_eq, cases_lt}
use Rattle.std.proofs.lemmas.List.{length-map}
use Rattle.std.proofs.lemmas.Option.{slice_get-map, slice_get_past}
use Rattle.smf_links.specs.declared.link.Link.{Link}
use Rattle.smf_links.specs.declared.tally.Entity.{Entity}
use Rattle.smf_links.specs.Wires.{cited_in, put_in, tallies_of, tally_in, tally_of}
use Rattle.smf_links.proofs.Counted.{found_at}
use Rattle.smf_links.proofs.SetItems.{get_other, get_set, same_gets}
use Rattle.smf_links.proofs.TallyUpdates.{in_same}

-- ---- a list is worked out from another one, item by item

-- so many of the first items are worked out
pub record IsMappedTo {X Y : Type 0} (f : X → Y) (xs : List X) (i : ℕ) (ys : List Y) : Type 0 where
  pub size : length ys ≡ length xs
  pub mapped : (k : ℕ) → k < i → slice_get ys k ≡ option_map f (slice_get xs k)

mapped_none : {X Y : Type 0} (f : X → Y) (xs : List X) (ys : List Y) → length ys ≡ length xs → IsMappedTo f xs 0 ys
mapped_none f xs ys e = record { size = e; mapped = λ k lt. absurd (omega arith) }

mapped_more : {X Y : Type 0} (f : X → Y) (xs : List X) (ys ys' : List Y) (i : ℕ) (x : X) → i < length xs
    → x ≡ get_or xs i x → ys' ≡ slice_set ys i (f x) → IsMappedTo f xs i ys → IsMappedTo f xs (i + 1) ys'
mapped_more f xs ys ys' i x lt is e h =
    let within : i < length ys = let size = h.size in omega arith in
    record {
      size = ap length e ∙ length-set ys i (f x) ∙ h.size;
      mapped = λ k less.
          elim (cases_eq k i) [
            | inl same ↦
                ap (λ l. slice_get l k) e ∙ ap (slice_get (slice_set ys i (f x))) same ∙ get_set ys i (f x) within
                ∙ sym (ap (option_map f) (ap (slice_get xs) same ∙ found_at xs i x lt is))
            | inr ne ↦ let before : k < i = omega arith in
                ap (λ l. slice_get l k) e ∙ get_other ys i k (f x) ne ∙ h.mapped k before
          ];
    }

mapped_all : {X Y : Type 0} (f : X → Y) (xs : List X) (i : ℕ) (ys : List Y) → length xs ≤ i → IsMappedTo f xs i ys
    → ys ≡ map f xs
mapped_all f xs i ys le h =
    same_gets ys (map f xs)
    (λ k. elim (cases_lt k (length xs)) [
      | inl lt ↦ let before : k < i = omega arith in h.mapped k before ∙ sym (slice_get-map f xs k)
      | inr past ↦
          let one : length ys ≤ k = let size = h.size in omega arith in
          let other : length (map f xs) ≤ k = let size = length-map xs f in omega arith in
          slice_get_past ys k one ∙ sym (slice_get_past (map f xs) k other)
    ])

-- ---- one tally

-- the later of two items at one place stays
set_again : {X : Type 0} (xs : List X) (i : ℕ) (x y : X) → slice_set (slice_set xs i x) i y ≡ slice_set xs i y
set_again [] i x y = refl
set_again (z ∷ xs) zero x y = refl
set_again (z ∷ xs) (suc i) x y = ap (λ l. z ∷ l) (set_again xs i x y)

-- a tally that is put where it stands changes nothing
set_own : (ts : List (List Entity)) (at : ℕ) → ts ≡ slice_set ts at (tally_in ts at)
set_own [] at = refl
set_own (t ∷ ts) zero = refl
set_own (t ∷ ts) (suc at) = ap (λ l. t ∷ l) (set_own ts at)

-- so many entities of one tally are counted, and the other tallies are as before
pub record IsCountedTo (f : List ℕ → Entity) (cited : List (List ℕ)) (was : List (List Entity)) (at i : ℕ)
    (ts : List (List Entity)) : Type 0 where
  pub others : ts ≡ slice_set was at (tally_in ts at)
  pub own : IsMappedTo f cited i (tally_in ts at)

pub counted_none : (f : List ℕ → Entity) (cited : List (List ℕ)) (was : List (List Entity)) (at : ℕ)
    → length (tally_in was at) ≡ length cited → IsCountedTo f cited was at 0 was
counted_none f cited was at e = record { others = set_own was at; own = mapped_none f cited (tally_in was at) e }

pub counted_more : (f : List ℕ → Entity) (cited : List (List ℕ)) (was : List (List Entity)) (at i : ℕ)
    (ts ts' : List (List Entity)) (ps : List ℕ) → at < length was → i < length cited → ps ≡ get_or cited i ps
    → ts' ≡ put_in ts at i (f ps) → IsCountedTo f cited was at i ts → IsCountedTo f cited was at (i + 1) ts'
counted_more f cited was at i ts ts' ps within lt is e h =
    let t = tally_in ts at in
    let y = slice_set t i (f ps) in
    let inside : at < length ts = let l = ap length h.others in let m = length-set was at t in omega arith in
    let here : tally_in ts' at ≡ y = ap (λ l. tally_in l at) e ∙ in_same ts at y inside in
    record {
      others = e ∙ ap (λ l. slice_set l at y) h.others ∙ set_again was at t y ∙ ap (slice_set was at) (sym here);
      own = mapped_more f cited t (tally_in ts' at) i ps lt is here h.own;
    }

pub counted_all : (f : List ℕ → Entity) (cited : List (List ℕ)) (was : List (List Entity)) (at i : ℕ)
    (ts : List (List Entity)) → length cited ≤ i → IsCountedTo f cited was at i ts
    → ts ≡ slice_set was at (map f cited)
counted_all f cited was at i ts le h =
    h.others ∙ ap (slice_set was at) (mapped_all f cited i (tally_in ts at) le h.own)

-- ---- the tallies of an instance

-- so many of the first tallies are counted, and each has as many entities as its link cites
pub record AreCountedTo (r o P : ℕ → Bool) (ls : List Link) (at : ℕ) (ts : List (List Entity)) : Type 0 where
  pub counted : IsMappedTo (tally_of r o P) ls at ts
  pub sizes : (j : ℕ) → length (tally_in ts j) ≡ length (cited_in ls j)

pub tallies_all : (r o P : ℕ → Bool) (ls : List Link) (at : ℕ) (ts : List (List Entity)) → length ls ≤ at
    → AreCountedTo r o P ls at ts → ts ≡ tallies_of r o P ls
tallies_all r o P ls at ts le h = mapped_all (tally_of r o P) ls at ts le h.counted
