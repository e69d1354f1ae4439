-- Which entities stand for each place, while entities are entered.
use Rattle.std.proofs.Common.{◌≡◌, ℕ, zero, suc, ◌+◌, ◌<◌, ◌≤◌, List, [], ◌∷◌, ◌++◌, length, drop, get_or, Option, Some, None, refl, sym, ap, ◌∙◌, subst, inl, inr, arith, length-set}
use Rattle.std.specs.Prelude.{slice_get, slice_set}
use Rattle.std.specs.Option.{option_map_or, unwrap_or}
use Rattle.std.proofs.lemmas.Bool.{cases_eq, cases_lt}
use Rattle.std.proofs.lemmas.Option.{get_or_from_slice_get, slice_get_within}
use Rattle.smf_links.specs.declared.link.Link.{Link}
use Rattle.smf_links.specs.declared.link.GraphNode.{GraphNode}
use Rattle.smf_links.specs.declared.wires.Spot.{Spot}
use Rattle.smf_links.specs.Blockage.{IsOut}
use Rattle.smf_links.specs.Wires.{AreEntered, EntersCited, EntersLinks, EntersPlaces, HasSpot, IsAbsent, KeepsSpots, links_at, places_at, spot_of, spots_at, with_spot}
use Rattle.smf_links.proofs.SetItems.{get_other, get_set, set_past}
use Rattle.smf_links.proofs.Work.{left_at}

-- ---- absent from a list

absent_left : (s : Spot) (xs ys : List Spot) → IsAbsent s (xs ++ ys) → IsAbsent s xs
absent_left s [] ys h = tt
absent_left s (x ∷ xs) ys h = (h.0, absent_left s xs ys h.1)

absent_right : (s : Spot) (xs ys : List Spot) → IsAbsent s (xs ++ ys) → IsAbsent s ys
absent_right s [] ys h = h
absent_right s (x ∷ xs) ys h = absent_right s xs ys h.1

absent_drop : (s : Spot) (i : ℕ) (xs : List Spot) → IsAbsent s xs → IsAbsent s (drop i xs)
absent_drop s zero xs h = h
absent_drop s (suc i) [] h = tt
absent_drop s (suc i) (x ∷ xs) h = absent_drop s i xs h.1

pub absent_more : (s : Spot) (xs : List Spot) (i : ℕ) (x : Spot) → i < length xs → x ≡ get_or xs i x → (x ≡ s → ⊥)
    → IsAbsent s (drop (i + 1) xs) → IsAbsent s (drop i xs)
absent_more s xs i x lt at ne out = let P : List Spot → Type 0 = IsAbsent s in
    subst P (sym (left_at xs i x lt at)) (ne, out)

-- a spot that stands in a list is not absent
pub absent_at : (s : Spot) (xs : List Spot) (i : ℕ) (x : Spot) → i < length xs → x ≡ get_or xs i x → x ≡ s
    → IsAbsent s xs → ⊥
absent_at s xs i x lt at is out =
    let P : List Spot → Type 0 = IsAbsent s in
    let both : IsAbsent s (x ∷ drop (i + 1) xs) = subst P (left_at xs i x lt at) (absent_drop s i xs out) in both.0 is

-- ---- one spot at one place

spots_set : (ws : List (List Spot)) (p : ℕ) (c : List Spot) → p < length ws → spots_at (slice_set ws p c) p ≡ c
spots_set ws p c lt = ap (λ (o : Option (List Spot)). unwrap_or o []) (get_set ws p c lt)

spots_other : (ws : List (List Spot)) (p q : ℕ) (c : List Spot) → (q ≡ p → ⊥)
    → spots_at (slice_set ws p c) q ≡ spots_at ws q
spots_other ws p q c ne = ap (λ (o : Option (List Spot)). unwrap_or o []) (get_other ws p q c ne)

spot_here : (ws : List (List Spot)) (s : Spot) (p : ℕ) → p < length ws
    → spots_at (with_spot ws s p) p ≡ spots_at ws p ++ s ∷ []
spot_here ws s p lt = spots_set ws p (spots_at ws p ++ s ∷ []) lt

spot_stays : (ws : List (List Spot)) (s : Spot) (x p : ℕ) (t : Spot) → IsAbsent t (spots_at (with_spot ws s x) p)
    → IsAbsent t (spots_at ws p)
spot_stays ws s x p t out =
    let P : List Spot → Type 0 = IsAbsent t in
    elim (cases_lt x (length ws)) [
      | inl lt ↦ elim (cases_eq p x) [
        | inl same ↦
            let Q : ℕ → Type 0 = λ q. IsAbsent t (spots_at (with_spot ws s x) q) in
            let R : ℕ → Type 0 = λ q. IsAbsent t (spots_at ws q) in
            subst R (sym same)
            (absent_left t (spots_at ws x) (s ∷ []) (subst P (spot_here ws s x lt) (subst Q same out)))
        | inr ne ↦ subst P (spots_other ws x p (spots_at ws x ++ s ∷ []) ne) out
      ]
      | inr le ↦ let Q : List (List Spot) → Type 0 = λ l. IsAbsent t (spots_at l p) in
          subst Q (set_past ws x (spots_at ws x ++ s ∷ []) le) out
    ]

pub keeps_same : (ws vs : List (List Spot)) → vs ≡ ws → KeepsSpots ws vs
keeps_same ws vs e =
    let F : List (List Spot) → Type 0 = KeepsSpots ws in let same : KeepsSpots ws ws =
    record { size = refl; stays = λ p s out. out } in subst F (sym e) same

pub keeps_one : (ws vs : List (List Spot)) (s : Spot) (p : ℕ) → vs ≡ with_spot ws s p → KeepsSpots ws vs
keeps_one ws vs s p e =
    let F : List (List Spot) → Type 0 = KeepsSpots ws in
    let one : KeepsSpots ws (with_spot ws s p) = record {
      size = length-set ws p (spots_at ws p ++ s ∷ []);
      stays = λ q t out. spot_stays ws s p q t out;
    } in
    subst F (sym e) one

pub keeps_then : (us vs ws : List (List Spot)) → KeepsSpots us vs → KeepsSpots vs ws → KeepsSpots us ws
keeps_then us vs ws f g = record { size = g.size ∙ f.size; stays = λ p s out. f.stays p s (g.stays p s out) }

pub has_one : (ws vs : List (List Spot)) (s : Spot) (p : ℕ) → vs ≡ with_spot ws s p → HasSpot vs s p
has_one ws vs s p e =
    let F : List (List Spot) → Type 0 = λ l. HasSpot l s p in
    let one : HasSpot (with_spot ws s p) s p = λ lt out.
    let low : p < length ws = let size = length-set ws p (spots_at ws p ++ s ∷ []) in omega arith in
    let P : List Spot → Type 0 = IsAbsent s in
    (absent_right s (spots_at ws p) (s ∷ []) (subst P (spot_here ws s p low) out)).0 refl in
    subst F (sym e) one

-- ---- one after another

abbrev pub Each : {X : Type 0} → (ℕ → X → Type 0) → List X → ℕ → Type 0
Each {X} Q xs i = (k : ℕ) (x : X) → k < i → slice_get xs k ≡ Some x → Q k x

pub each_none : {X : Type 0} (Q : ℕ → X → Type 0) (xs : List X) → Each Q xs 0
each_none Q xs k x lt at = absurd (omega arith)

pub each_more : {X : Type 0} (Q R : ℕ → X → Type 0) (xs : List X) (i : ℕ) (x : X) → x ≡ get_or xs i x
    → ((k : ℕ) (y : X) → Q k y → R k y) → R i x → Each Q xs i → Each R xs (i + 1)
each_more Q R xs i x is up new h k y lt at =
    elim (cases_eq k i) [
      | inl same ↦
          let y_is : x ≡ y = is ∙ get_or_from_slice_get xs i y x (ap (slice_get xs) (sym same) ∙ at) in
          let F : ℕ → Type 0 = λ b. R b y in subst F (sym same) (subst (R i) y_is new)
      | inr ne ↦ let before : k < i = omega arith in up k y (h k y before at)
    ]

pub each_all : {X : Type 0} (Q : ℕ → X → Type 0) (xs : List X) (i : ℕ) → length xs ≤ i → Each Q xs i → (k : ℕ) (x : X)
    → slice_get xs k ≡ Some x → Q k x
each_all Q xs i le h k x at = let within = slice_get_within xs k x at in let low : k < i = omega arith in h k x low at

has_still : (ws vs : List (List Spot)) (s : Spot) (p : ℕ) → KeepsSpots ws vs → HasSpot ws s p → HasSpot vs s p
has_still ws vs s p k has lt out = let size = k.size in let low : p < length ws = omega arith in
    has low (k.stays p s out)

places_still : (ws vs : List (List Spot)) (s : Spot) (ps : List ℕ) → KeepsSpots ws vs → EntersPlaces ws s ps
    → EntersPlaces vs s ps
places_still ws vs s ps k h = λ i p at. has_still ws vs s p k (h i p at)

cited_still : (ws vs : List (List Spot)) (a j : ℕ) (es : List (List ℕ)) → KeepsSpots ws vs → EntersCited ws a j es
    → EntersCited vs a j es
cited_still ws vs a j es k h = λ e ps at. places_still ws vs (spot_of a j e) ps k (h e ps at)

pub links_still : (ws vs : List (List Spot)) (a : ℕ) (ls : List Link) → KeepsSpots ws vs → EntersLinks ws a ls
    → EntersLinks vs a ls
links_still ws vs a ls k h = λ j l at. cited_still ws vs a j l.cited k (h j l at)

pub places_more : (ws vs : List (List Spot)) (s : Spot) (ps : List ℕ) (i p : ℕ) → p ≡ get_or ps i p
    → KeepsSpots ws vs → HasSpot vs s p → Each (λ k q. HasSpot ws s q) ps i
    → Each (λ k q. HasSpot vs s q) ps (i + 1)
places_more ws vs s ps i p is k new h =
    each_more (λ k q. HasSpot ws s q) (λ k q. HasSpot vs s q) ps i p is (λ j q has. has_still ws vs s q k has) new h

pub cited_more : (ws vs : List (List Spot)) (a j : ℕ) (es : List (List ℕ)) (i : ℕ) (ps : List ℕ) → ps ≡ get_or es i ps
    → KeepsSpots ws vs → EntersPlaces vs (spot_of a j i) ps → Each (λ e qs. EntersPlaces ws (spot_of a j e) qs) es i
    → Each (λ e qs. EntersPlaces vs (spot_of a j e) qs) es (i + 1)
cited_more ws vs a j es i ps is k new h =
    each_more (λ e qs. EntersPlaces ws (spot_of a j e) qs) (λ e qs. EntersPlaces vs (spot_of a j e) qs) es i ps is
    (λ e qs has. places_still ws vs (spot_of a j e) qs k has) new h

pub links_more : (ws vs : List (List Spot)) (a : ℕ) (ls : List Link) (i : ℕ) (l : Link) → l ≡ get_or ls i l
    → KeepsSpots ws vs → EntersCited vs a i l.cited → Each (λ j (m : Link). EntersCited ws a j m.cited) ls i
    → Each (λ j (m : Link). EntersCited vs a j m.cited) ls (i + 1)
links_more ws vs a ls i l is k new h =
    each_more (λ j (m : Link). EntersCited ws a j m.cited) (λ j (m : Link). EntersCited vs a j m.cited) ls i l is
    (λ j (m : Link) has. cited_still ws vs a j m.cited k has) new h

pub nodes_more : (ws vs : List (List Spot)) (ns : List GraphNode) (i : ℕ) (n : GraphNode) → n ≡ get_or ns i n
    → KeepsSpots ws vs → EntersLinks vs i n.links → Each (λ a (m : GraphNode). EntersLinks ws a m.links) ns i
    → Each (λ a (m : GraphNode). EntersLinks vs a m.links) ns (i + 1)
nodes_more ws vs ns i n is k new h =
    each_more (λ a (m : GraphNode). EntersLinks ws a m.links) (λ a (m : GraphNode). EntersLinks vs a m.links) ns i n is
    (λ a (m : GraphNode) has. links_still ws vs a m.links k has) new h

links_found : (ws : List (List Spot)) (a : ℕ) (found : Option GraphNode)
    → ((n : GraphNode) → found ≡ Some n → EntersLinks ws a n.links)
    → EntersLinks ws a (option_map_or (λ (n : GraphNode). n.links) found [])
links_found ws a None h = λ j l at. absurd cc
links_found ws a (Some n) h = h n refl

pub nodes_entered : (ws : List (List Spot)) (ns : List GraphNode) (i : ℕ) → length ws ≡ length ns → length ns ≤ i
    → Each (λ a (m : GraphNode). EntersLinks ws a m.links) ns i → AreEntered (links_at ns) (length ns) ws
nodes_entered ws ns i size le h =
    record {
      size = size;
      entered = λ a. links_found ws a (slice_get ns a)
          (λ n at. each_all (λ b (m : GraphNode). EntersLinks ws b m.links) ns i le h a n at);
    }

-- ---- what is entered

places_out : (ws : List (List Spot)) (s : Spot) (x : ℕ) (ps : List ℕ)
    → ((k : ℕ) → slice_get ps k ≡ Some x → ⊥) → IsOut x ps
places_out ws s x [] h = tt
places_out ws s x (p ∷ ps) h = ((λ e. h zero (ap Some e)), places_out ws s x ps (λ k at. h (suc k) at))

pub entered_out : (links : ℕ → List Link) (many : ℕ) (ws : List (List Spot)) (x : ℕ) (s : Spot) (ps : List ℕ)
    → x < many → AreEntered links many ws → IsAbsent s (spots_at ws x) → places_at links s ≡ Some ps → IsOut x ps
entered_out links many ws x s ps lt h out some =
    let low : x < length ws = let size = h.size in omega arith in
    places_out ws s x ps (λ k at. entered_in (slice_get (links s.node) s.link) refl k at low out)
  where
    entered_in : (found : Option Link) → slice_get (links s.node) s.link ≡ found → (k : ℕ)
        → slice_get ps k ≡ Some x → x < length ws → IsAbsent s (spots_at ws x) → ⊥
    entered_in None none k at low away =
        let e : None ≡ Some ps =
        ap (λ (o : Option Link). slice_get (option_map_or (λ (l : Link). l.cited) o []) s.entity) (sym none) ∙ some in
        absurd cc
    entered_in (Some l) is k at low away =
        let e : slice_get l.cited s.entity ≡ Some ps =
        ap (λ (o : Option Link). slice_get (option_map_or (λ (l : Link). l.cited) o []) s.entity) (sym is) ∙ some in
        h.entered s.node s.link l is s.entity ps e k x at low away
