-- The tallies after one instance changed, and the links as these tallies say.
use Rattle.std.proofs.Common.{◌≡◌, ◌⊎◌, ℕ, zero, suc, ◌+◌, ◌<◌, ◌≤◌, List, [], ◌∷◌, ◌++◌, map, length, drop, get_or, Bool, false, ◌||◌, Option, Some, None, refl, sym, take, ap, ◌∙◌, subst, inl, inr, arith, length-set}
use Rattle.std.specs.Prelude.{nat_lt, slice_get, slice_set}
use Rattle.std.specs.Option.{option_map, option_map_or, unwrap_or}
use Rattle.std.proofs.Math.Path.{fun_ext}
use Rattle.std.proofs.lemmas.Bool.{cases_eq, cases_lt}
use Rattle.std.proofs.lemmas.List.{drop_all, length-map}
use Rattle.std.proofs.lemmas.Option.{slice_get-map, slice_get_past, slice_get_within}
use Rattle.smf_links.specs.declared.link.Flags.{Flags}
use Rattle.smf_links.specs.declared.link.Link.{Link}
use Rattle.smf_links.specs.declared.link.GraphNode.{GraphNode}
use Rattle.smf_links.specs.declared.tally.Entity.{Entity}
use Rattle.smf_links.specs.declared.wires.Spot.{Spot}
use Rattle.smf_links.specs.Blockage.{IsOut, off_at, runs_at, with_flags}
use Rattle.smf_links.specs.Stamps.{has_stamp}
use Rattle.smf_links.specs.Tallies.{entity_of}
use Rattle.smf_links.specs.Wires.{AreEntered, AreTalliedBut, AreTold, IsAbsent, IsTallied, IsTalliedBut, cited_in, entity_at, links_at, node_tallies, places_at, put_at, put_in, put_spot, spots_at, tallies_at, tallies_of, tally_in, tally_of}
use Rattle.smf_links.proofs.Growth.{Away, all_same, any_same}
use Rattle.smf_links.proofs.FlagChanges.{length-with_flags, others_stay}
use Rattle.smf_links.proofs.SetItems.{get_other, get_set, none_past_end, same_gets, set_past}
use Rattle.smf_links.proofs.Spots.{absent_more, entered_out}
use Rattle.smf_links.proofs.Steps.{other}

-- ---- one entity of one tally

pub in_same : (ts : List (List Entity)) (j : ℕ) (y : List Entity) → j < length ts → tally_in (slice_set ts j y) j ≡ y
in_same ts j y lt = ap (λ (o : Option (List Entity)). unwrap_or o []) (get_set ts j y lt)

in_other : (ts : List (List Entity)) (j u : ℕ) (y : List Entity) → (u ≡ j → ⊥)
    → tally_in (slice_set ts j y) u ≡ tally_in ts u
in_other ts j u y ne = ap (λ (o : Option (List Entity)). unwrap_or o []) (get_other ts j u y ne)

in_within : (ts : List (List Entity)) (j e : ℕ) → e < length (tally_in ts j) → j < length ts
in_within ts j e lt =
    elim (cases_lt j (length ts)) [
      | inl less ↦ less
      | inr le ↦ let none = ap (λ (o : Option (List Entity)). length (unwrap_or o [])) (slice_get_past ts j le) in
          absurd (omega arith)
    ]

in_sizes : (ts : List (List Entity)) (j e : ℕ) (x : Entity) (u : ℕ)
    → length (tally_in (put_in ts j e x) u) ≡ length (tally_in ts u)
in_sizes ts j e x u =
    let y = slice_set (tally_in ts j) e x in
    elim (cases_lt j (length ts)) [
      | inl lt ↦ elim (cases_eq u j) [
        | inl same ↦
            let F : ℕ → Type 0 = λ v. length (tally_in (put_in ts j e x) v) ≡ length (tally_in ts v) in
            subst F (sym same) (ap length (in_same ts j y lt) ∙ length-set (tally_in ts j) e x)
        | inr ne ↦ ap length (in_other ts j u y ne)
      ]
      | inr le ↦ ap (λ l. length (tally_in l u)) (set_past ts j y le)
    ]

in_put : (ts : List (List Entity)) (j e : ℕ) (x : Entity) → e < length (tally_in ts j)
    → slice_get (tally_in (put_in ts j e x) j) e ≡ Some x
in_put ts j e x lt =
    ap (λ l. slice_get l e) (in_same ts j (slice_set (tally_in ts j) e x) (in_within ts j e lt))
    ∙ get_set (tally_in ts j) e x lt

in_apart : (ts : List (List Entity)) (j e : ℕ) (x : Entity) (u f : ℕ) → ((u ≡ j) × (f ≡ e) → ⊥)
    → slice_get (tally_in (put_in ts j e x) u) f ≡ slice_get (tally_in ts u) f
in_apart ts j e x u f ne =
    let y = slice_set (tally_in ts j) e x in
    elim (cases_lt j (length ts)) [
      | inl lt ↦ elim (cases_eq u j) [
        | inl same ↦
            let F : ℕ → Type 0 = λ v. slice_get (tally_in (put_in ts j e x) v) f ≡ slice_get (tally_in ts v) f in
            subst F (sym same) (ap (λ l. slice_get l f) (in_same ts j y lt)
            ∙ get_other (tally_in ts j) e f x (λ q. ne (same, q)))
        | inr apart ↦ ap (λ l. slice_get l f) (in_other ts j u y apart)
      ]
      | inr le ↦ ap (λ l. slice_get (tally_in l u) f) (set_past ts j y le)
    ]

-- ---- one entity of all

pub own_same : (tss : List (List (List Entity))) (a : ℕ) (y : List (List Entity)) → a < length tss
    → tallies_at (slice_set tss a y) a ≡ y
own_same tss a y lt = ap (λ (o : Option (List (List Entity))). unwrap_or o []) (get_set tss a y lt)

pub own_other : (tss : List (List (List Entity))) (a b : ℕ) (y : List (List Entity)) → (b ≡ a → ⊥)
    → tallies_at (slice_set tss a y) b ≡ tallies_at tss b
own_other tss a b y ne = ap (λ (o : Option (List (List Entity))). unwrap_or o []) (get_other tss a b y ne)

own_within : (tss : List (List (List Entity))) (a j e : ℕ) → e < length (tally_in (tallies_at tss a) j)
    → a < length tss
own_within tss a j e lt =
    elim (cases_lt a (length tss)) [
      | inl less ↦ less
      | inr le ↦
          let none = ap (λ (o : Option (List (List Entity))). length (tally_in (unwrap_or o []) j))
          (slice_get_past tss a le) in
          absurd (omega arith)
    ]

put_sizes : (tss : List (List (List Entity))) (s : Spot) (x : Entity) (b u : ℕ)
    → length (tally_in (tallies_at (put_at tss s x) b) u) ≡ length (tally_in (tallies_at tss b) u)
put_sizes tss s x b u =
    let y = put_in (tallies_at tss s.node) s.link s.entity x in
    elim (cases_lt s.node (length tss)) [
      | inl lt ↦ elim (cases_eq b s.node) [
        | inl same ↦
            let F : ℕ → Type 0 =
            λ v. length (tally_in (tallies_at (put_at tss s x) v) u) ≡ length (tally_in (tallies_at tss v) u) in
            subst F (sym same)
            (ap (λ l. length (tally_in l u)) (own_same tss s.node y lt)
            ∙ in_sizes (tallies_at tss s.node) s.link s.entity x u)
        | inr ne ↦ ap (λ l. length (tally_in l u)) (own_other tss s.node b y ne)
      ]
      | inr le ↦ ap (λ l. length (tally_in (tallies_at l b) u)) (set_past tss s.node y le)
    ]

put_same : (tss : List (List (List Entity))) (s : Spot) (x : Entity)
    → s.entity < length (tally_in (tallies_at tss s.node) s.link) → entity_at (put_at tss s x) s ≡ Some x
put_same tss s x lt =
    ap (λ l. slice_get (tally_in l s.link) s.entity)
    (own_same tss s.node (put_in (tallies_at tss s.node) s.link s.entity x)
    (own_within tss s.node s.link s.entity lt))
    ∙ in_put (tallies_at tss s.node) s.link s.entity x lt

same_spot : (s t : Spot) → t.node ≡ s.node → t.link ≡ s.link → t.entity ≡ s.entity → t ≡ s
same_spot s t a j e = λ i. record { node = a i; link = j i; entity = e i }

put_other : (tss : List (List (List Entity))) (s : Spot) (x : Entity) (t : Spot) → (t ≡ s → ⊥)
    → entity_at (put_at tss s x) t ≡ entity_at tss t
put_other tss s x t ne =
    let y = put_in (tallies_at tss s.node) s.link s.entity x in
    elim (cases_lt s.node (length tss)) [
      | inl lt ↦ elim (cases_eq t.node s.node) [
        | inl same ↦
            let F : ℕ → Type 0 = λ v. slice_get (tally_in (tallies_at (put_at tss s x) v) t.link) t.entity
            ≡ slice_get (tally_in (tallies_at tss v) t.link) t.entity in
            subst F (sym same) (ap (λ l. slice_get (tally_in l t.link) t.entity) (own_same tss s.node y lt)
            ∙ in_apart (tallies_at tss s.node) s.link s.entity x t.link t.entity
            (λ q. ne (same_spot s t same q.0 q.1)))
        | inr apart ↦ ap (λ l. slice_get (tally_in l t.link) t.entity) (own_other tss s.node t.node y apart)
      ]
      | inr le ↦ ap (λ l. entity_at l t) (set_past tss s.node y le)
    ]

both_cases : (s t : Spot) → (t ≡ s) ⊎ (t ≡ s → ⊥)
both_cases s t =
    elim (cases_eq t.node s.node) [
      | inl a ↦ elim (cases_eq t.link s.link) [
        | inl j ↦ elim (cases_eq t.entity s.entity) [
          | inl e ↦ inl (same_spot s t a j e)
          | inr ne ↦ inr (λ q. ne (ap (λ (x : Spot). x.entity) q))
        ]
        | inr ne ↦ inr (λ q. ne (ap (λ (x : Spot). x.link) q))
      ]
      | inr ne ↦ inr (λ q. ne (ap (λ (x : Spot). x.node) q))
    ]

-- ---- an entity is taken off those that are left

abbrev Right : (ℕ → List Link) → (ℕ → Bool) → (ℕ → Bool) → (ℕ → Bool) → List (List (List Entity)) → Spot → Type 0
Right links r o P tss s = entity_at tss s ≡ option_map (entity_of r o P) (places_at links s)

more_places : (links : ℕ → List Link) (many : ℕ) (r o P : ℕ → Bool) (tss : List (List (List Entity)))
    (left : List Spot) (i : ℕ) (s : Spot) → i < length left → s ≡ get_or left i s
    → AreTalliedBut links many r o P (drop i left) tss → (found : Option (List ℕ)) → places_at links s ≡ found
    → AreTalliedBut links many r o P (drop (i + 1) left)
    (option_map_or (λ (ps : List ℕ). put_at tss s (entity_of r o P ps)) found tss)
more_places links many r o P tss left i s lt is h None none =
    record {
      count = h.count;
      sizes = h.sizes;
      right = λ t out. elim (both_cases s t) [
        | inl same ↦
            let past : length (tally_in (tallies_at tss s.node) s.link) ≤ s.entity =
            let le = none_past_end (cited_in (links s.node) s.link) s.entity none in
            let size = h.sizes s.node s.link in omega arith in
            let here : Right links r o P tss s =
            slice_get_past (tally_in (tallies_at tss s.node) s.link) s.entity past
            ∙ ap (option_map (entity_of r o P)) (sym none) in
            subst (Right links r o P tss) (sym same) here
        | inr ne ↦ h.right t (absent_more t left i s lt is (λ q. ne (sym q)) out)
      ];
    }
more_places links many r o P tss left i s lt is h (Some ps) some =
    let x = entity_of r o P ps in
    record {
      count = length-set tss s.node (put_in (tallies_at tss s.node) s.link s.entity x) ∙ h.count;
      sizes = λ a j. put_sizes tss s x a j ∙ h.sizes a j;
      right = λ t out. elim (both_cases s t) [
        | inl same ↦
            let within : s.entity < length (tally_in (tallies_at tss s.node) s.link) =
            let less = slice_get_within (cited_in (links s.node) s.link) s.entity ps some in
            let size = h.sizes s.node s.link in omega arith in
            let here : Right links r o P (put_at tss s x) s =
            put_same tss s x within ∙ ap (option_map (entity_of r o P)) (sym some) in
            subst (Right links r o P (put_at tss s x)) (sym same) here
        | inr ne ↦ put_other tss s x t ne ∙ h.right t (absent_more t left i s lt is (λ q. ne (sym q)) out)
      ];
    }

pub tallied_more : (links : ℕ → List Link) (many : ℕ) (r o P : ℕ → Bool) (tss tss' : List (List (List Entity)))
    (left : List Spot) (i : ℕ) (s : Spot) → i < length left → s ≡ get_or left i s
    → tss' ≡ put_spot links r o P tss s → AreTalliedBut links many r o P (drop i left) tss
    → AreTalliedBut links many r o P (drop (i + 1) left) tss'
tallied_more links many r o P tss tss' left i s lt is e h =
    let F : List (List (List Entity)) → Type 0 = AreTalliedBut links many r o P (drop (i + 1) left) in
    subst F (sym e) (more_places links many r o P tss left i s lt is h (places_at links s) refl)

pub tallied_end : (links : ℕ → List Link) (many : ℕ) (r o P : ℕ → Bool) (tss : List (List (List Entity)))
    (left : List Spot) (i : ℕ) → length left ≤ i
    → AreTalliedBut links many r o P (drop i left) tss → AreTalliedBut links many r o P [] tss
tallied_end links many r o P tss left i le h =
    let F : List Spot → Type 0 = λ l. AreTalliedBut links many r o P l tss in
    subst F (drop_all i left le) h

-- ---- if one place changed, all but its entities are right

pub entity_same : (x : ℕ) (r r' o o' P P' : ℕ → Bool) → Away x r r' → Away x o o' → Away x P P' → (ps : List ℕ)
    → IsOut x ps → entity_of r o P ps ≡ entity_of r' o' P' ps
entity_same x r r' o o' P P' ar ao ap' ps out =
    λ i. record {
      runs = any_same x r r' ar ps out i;
      parked = all_same x P P' ap' ps out i;
      off = all_same x o o' ao ps out i;
      settled = all_same x (λ p. r p || P p) (λ p. r' p || P' p) (λ p ne j. ar p ne j || ap' p ne j) ps out i;
    }

begun_at : (links : ℕ → List Link) (many : ℕ) (r r' o o' P P' : ℕ → Bool) (ws : List (List Spot)) (x : ℕ) (s : Spot)
    → x < many → Away x r r' → Away x o o' → Away x P P'
    → AreEntered links many ws → IsAbsent s (spots_at ws x)
    → (found : Option (List ℕ)) → places_at links s ≡ found
    → option_map (entity_of r o P) found ≡ option_map (entity_of r' o' P') found
begun_at links many r r' o o' P P' ws x s lt ar ao ap' entered out None none = refl
begun_at links many r r' o o' P P' ws x s lt ar ao ap' entered out (Some ps) some =
    ap Some (entity_same x r r' o o' P P' ar ao ap' ps (entered_out links many ws x s ps lt entered out some))

pub begun : (links : ℕ → List Link) (many : ℕ) (r r' o o' P P' : ℕ → Bool) (ws : List (List Spot))
    (tss : List (List (List Entity))) (x : ℕ) → x < many → Away x r r' → Away x o o' → Away x P P'
    → AreEntered links many ws → AreTalliedBut links many r o P [] tss
    → AreTalliedBut links many r' o' P' (spots_at ws x) tss
begun links many r r' o o' P P' ws tss x lt ar ao ap' entered h =
    record {
      count = h.count;
      sizes = h.sizes;
      right = λ s out. h.right s tt
          ∙ begun_at links many r r' o o' P P' ws x s lt ar ao ap' entered out (places_at links s) refl;
    }

-- ---- a stamp and the flags of one place

pub stamp_tallied : (ns : List GraphNode) (ss : List ℕ) (ws : List (List Spot)) (tss : List (List (List Entity)))
    (p s : ℕ) → p < length ss → IsTallied ns ss ws tss → IsTalliedBut ns (slice_set ss p s) (spots_at ws p) tss
stamp_tallied ns ss ws tss p s lt h =
    let within : p < length ns = let size = h.size in omega arith in
    begun (links_at ns) (length ns) (runs_at ns) (runs_at ns) (off_at ns) (off_at ns) (has_stamp ss)
    (has_stamp (slice_set ss p s)) ws tss p within (λ q ne. refl) (λ q ne. refl)
    (λ q ne. ap (nat_lt 0) (sym (other ss p s q ne))) h.wired h.tallied

pub stamp_done : (ns : List GraphNode) (ss : List ℕ) (ws : List (List Spot)) (tss tss' : List (List (List Entity)))
    (p s : ℕ) → IsTallied ns ss ws tss → IsTalliedBut ns (slice_set ss p s) [] tss'
    → IsTallied ns (slice_set ss p s) ws tss'
stamp_done ns ss ws tss tss' p s h t =
    record { wired = h.wired; size = length-set ss p s ∙ h.size; tallied = t }

same_links : (ns : List GraphNode) (p : ℕ) (f : Flags) (a : ℕ) → links_at (with_flags ns p f) a ≡ links_at ns a
same_links [] p f a = refl
same_links (n ∷ ns) zero f zero = refl
same_links (n ∷ ns) zero f (suc a) = refl
same_links (n ∷ ns) (suc p) f zero = refl
same_links (n ∷ ns) (suc p) f (suc a) = same_links ns p f a

flags_wired : (ns : List GraphNode) (ws : List (List Spot)) (p : ℕ) (f : Flags)
    → AreEntered (links_at ns) (length ns) ws
    → AreEntered (links_at (with_flags ns p f)) (length (with_flags ns p f)) ws
flags_wired ns ws p f h =
    let F : (ℕ → List Link) → Type 0 = λ l. AreEntered l (length (with_flags ns p f)) ws in
    let G : ℕ → Type 0 = λ n. AreEntered (links_at ns) n ws in
    subst F (sym (fun_ext (same_links ns p f))) (subst G (sym (length-with_flags ns p f)) h)

pub flags_tallied : (ns : List GraphNode) (ss : List ℕ) (ws : List (List Spot)) (tss : List (List (List Entity)))
    (p : ℕ) (f : Flags) → p < length ns → IsTallied ns ss ws tss
    → IsTalliedBut (with_flags ns p f) ss (spots_at ws p) tss
flags_tallied ns ss ws tss p f lt h =
    let ns' = with_flags ns p f in
    let F : (ℕ → List Link) → Type 0 =
    λ l. AreTalliedBut l (length ns') (runs_at ns') (off_at ns') (has_stamp ss) (spots_at ws p) tss in
    let G : ℕ → Type 0 =
    λ n. AreTalliedBut (links_at ns) n (runs_at ns') (off_at ns') (has_stamp ss) (spots_at ws p) tss in
    subst F (sym (fun_ext (same_links ns p f)))
    (subst G (sym (length-with_flags ns p f))
    (begun (links_at ns) (length ns) (runs_at ns) (runs_at ns') (off_at ns) (off_at ns') (has_stamp ss)
    (has_stamp ss) ws tss p lt
    (λ q ne. ap (λ (o : Option GraphNode). option_map_or (λ (m : GraphNode). m.flags.running) o false)
    (sym (others_stay ns p f q ne)))
    (λ q ne. ap (λ (o : Option GraphNode). option_map_or (λ (m : GraphNode). m.flags.off) o false)
    (sym (others_stay ns p f q ne)))
    (λ q ne. refl) h.wired h.tallied))

-- ---- links as tallies say

pub told : (ns : List GraphNode) (ss : List ℕ) (ws : List (List Spot)) (tss : List (List (List Entity))) (a : ℕ)
    (n : GraphNode) → slice_get ns a ≡ Some n → IsTallied ns ss ws tss
    → AreTold (runs_at ns) (off_at ns) (has_stamp ss) (tallies_at tss a) n.links
told ns ss ws tss a n at h = λ j l is.
    let f = entity_of (runs_at ns) (off_at ns) (has_stamp ss) in
    let cited : cited_in (links_at ns a) j ≡ l.cited =
    ap (λ (o : Option GraphNode). cited_in (option_map_or (λ (m : GraphNode). m.links) o []) j) at
    ∙ ap (λ (o : Option Link). option_map_or (λ (x : Link). x.cited) o []) is in
    same_gets (tally_in (tallies_at tss a) j) (map f l.cited)
    (λ e. h.tallied.right (record { node = a; link = j; entity = e }) tt
    ∙ ap (λ (es : List (List ℕ)). option_map f (slice_get es e)) cited
    ∙ sym (slice_get-map f l.cited e))

-- ---- all tallies

link_found : (r o P : ℕ → Bool) (found : Option Link)
    → unwrap_or (option_map (tally_of r o P) found) []
    ≡ map (entity_of r o P) (option_map_or (λ (l : Link). l.cited) found [])
link_found r o P None = refl
link_found r o P (Some l) = refl

pub tally_is : (r o P : ℕ → Bool) (ls : List Link) (ts : List (List Entity)) (j : ℕ) → ts ≡ tallies_of r o P ls
    → tally_in ts j ≡ map (entity_of r o P) (cited_in ls j)
tally_is r o P ls ts j e =
    ap (λ (l : List (List Entity)). tally_in l j) e
    ∙ ap (λ (f : Option (List Entity)). unwrap_or f []) (slice_get-map (tally_of r o P) ls j)
    ∙ link_found r o P (slice_get ls j)

node_found : (r o P : ℕ → Bool) (found : Option GraphNode)
    → unwrap_or (option_map (node_tallies r o P) found) []
    ≡ tallies_of r o P (option_map_or (λ (n : GraphNode). n.links) found [])
node_found r o P None = refl
node_found r o P (Some n) = refl

own_is : (r o P : ℕ → Bool) (ns : List GraphNode) (tss : List (List (List Entity))) (a : ℕ)
    → tss ≡ map (node_tallies r o P) ns → tallies_at tss a ≡ tallies_of r o P (links_at ns a)
own_is r o P ns tss a e =
    ap (λ (l : List (List (List Entity))). tallies_at l a) e
    ∙ ap (λ (f : Option (List (List Entity))). unwrap_or f []) (slice_get-map (node_tallies r o P) ns a)
    ∙ node_found r o P (slice_get ns a)

pub all_tallied : (ns : List GraphNode) (r o P : ℕ → Bool) (tss : List (List (List Entity)))
    → tss ≡ map (node_tallies r o P) ns → AreTalliedBut (links_at ns) (length ns) r o P [] tss
all_tallied ns r o P tss e =
    record {
      count = ap length e ∙ length-map ns (node_tallies r o P);
      sizes = λ a j. ap length (tally_is r o P (links_at ns a) (tallies_at tss a) j (own_is r o P ns tss a e))
          ∙ length-map (cited_in (links_at ns a) j) (entity_of r o P);
      right = λ s out.
          ap (λ (l : List Entity). slice_get l s.entity)
          (tally_is r o P (links_at ns s.node) (tallies_at tss s.node) s.link (own_is r o P ns tss s.node e))
          ∙ slice_get-map (entity_of r o P) (cited_in (links_at ns s.node) s.link) s.entity;
    }

-- ---- the same over the values that a call names

pub tallied_same : (ns ns' : List GraphNode) (ss ss' : List ℕ) (ws ws' : List (List Spot))
    (tss tss' : List (List (List Entity))) → ns ≡ ns' → ss ≡ ss' → ws ≡ ws' → tss ≡ tss' → IsTallied ns ss ws tss
    → IsTallied ns' ss' ws' tss'
tallied_same ns ns' ss ss' ws ws' tss tss' en es ew et h =
    let F : List GraphNode → Type 0 = λ l. IsTallied l ss' ws' tss' in
    let G : List ℕ → Type 0 = λ l. IsTallied ns l ws' tss' in
    let H : List (List Spot) → Type 0 = λ l. IsTallied ns ss l tss' in
    subst F en (subst G es (subst H ew (subst (IsTallied ns ss ws) et h)))

pub flags_done : (ns seen ns' : List GraphNode) (ss : List ℕ) (ws : List (List Spot))
    (tss tss' : List (List (List Entity))) (p : ℕ) (f : Flags) → seen ≡ ns' → ns' ≡ with_flags ns p f
    → IsTallied ns ss ws tss → IsTalliedBut seen ss [] tss' → IsTallied ns' ss ws tss'
flags_done ns seen ns' ss ws tss tss' p f e is h t =
    let F : List GraphNode → Type 0 = λ l. AreEntered (links_at l) (length l) ws in
    let G : List GraphNode → Type 0 = λ l. IsTalliedBut l ss [] tss' in
    record {
      wired = subst F (sym is) (flags_wired ns ws p f h.wired);
      size = let l = ap length is in let m = length-with_flags ns p f in let size = h.size in omega arith;
      tallied = subst G e t;
    }

take_new : {X : Type 0} (new rest : List X) → take (length new) (new ++ rest) ≡ new
take_new [] rest = refl
take_new (x ∷ new) rest = ap (λ l. x ∷ l) (take_new new rest)

pub taken : {X : Type 0} (new rest : List X) (n : ℕ) → n ≡ length new → new ≡ take n (new ++ rest)
taken new rest n e = sym (take_new new rest) ∙ ap (λ k. take k (new ++ rest)) (sym e)
