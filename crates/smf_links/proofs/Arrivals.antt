-- The data kept of instances stays right if one more comes whose place no link cites.
use Rattle.std.proofs.Common.{◌≡◌, ℕ, zero, suc, ◌+◌, ◌*◌, ◌<◌, ◌≤◌, List, [], ◌∷◌, ◌++◌, length, Bool, true, false, ◌&&◌, Option, Some, None, refl, sym, ap, ◌∙◌, subst, inl, inr, arith, length-append}
use Rattle.std.specs.Prelude.{nat_lt, slice_get, slice_index}
use Rattle.std.specs.List.{list_all}
use Rattle.std.specs.Option.{option_map, option_map_or, unwrap_or}
use Rattle.std.proofs.Math.Path.{fun_ext}
use Rattle.std.proofs.lemmas.Bool.{cases_eq, cases_lt}
use Rattle.std.proofs.lemmas.List.{length-map}
use Rattle.std.proofs.lemmas.Option.{same_Some, slice_get-map}
use Rattle.smf_links.specs.declared.link.Link.{Link}
use Rattle.smf_links.specs.declared.link.GraphNode.{GraphNode}
use Rattle.smf_links.specs.declared.tally.Entity.{Entity}
use Rattle.smf_links.specs.declared.wires.Spot.{Spot}
use Rattle.smf_links.specs.Blockage.{IsOut, is_parked, met_at, met_by, node_is, off_at, parked_in, parks, parks_by, runs_at}
use Rattle.smf_links.specs.Stamps.{AreFree, AreOut, Avoid, AvoidEnd, IsIndex, IsKept, IsTouched, KeepsPlaces, Notes, before, citing_at, has_stamp, total}
use Rattle.smf_links.specs.Tallies.{entity_of}
use Rattle.smf_links.specs.Wires.{AreEntered, AreTalliedBut, EntersLinks, IsAbsent, IsTallied, IsTalliedBut, KeepsSpots, cited_in, links_at, spots_at, tallies_at, tallies_of, tally_in}
use Rattle.smf_links.proofs.Growth.{Away, by_same, option_same}
use Rattle.smf_links.proofs.Least.{rounds_end}
use Rattle.smf_links.proofs.PushedItems.{empty_last, get_before, get_last, get_last_at, zero_last}
use Rattle.smf_links.proofs.Reach.{Agrees, all_met_agree}
use Rattle.smf_links.proofs.Relinks.{kept_on, tallied_on}
use Rattle.smf_links.proofs.TallyUpdates.{begun, tallied_same, tally_is}

-- ---- more is noted and entered than before, and nothing else changed

pub prepared_kept : (ns ns1 : List GraphNode) (ss ss1 : List ℕ) (cs cs1 : List (List ℕ)) (next capacity room : ℕ)
    → ns1 ≡ ns → ss1 ≡ ss → KeepsPlaces cs cs1
    → (length ns + 1 + 3 * total cs ≤ capacity → length ns + 1 + 3 * total cs1 ≤ room)
    → IsKept ns ss cs next capacity → IsKept ns1 ss1 cs1 next room
prepared_kept ns ns1 ss ss1 cs cs1 next capacity room en es k more h =
    let F : List GraphNode → Type 0 = λ l. IsKept l ss1 cs1 next room in
    let G : List ℕ → Type 0 = λ l. IsKept ns l cs1 next room in
    subst F (sym en) (subst G (sym es) (kept_on ns ss cs cs1 next capacity room k more h))

pub prepared_tallied : (ns ns1 : List GraphNode) (ss ss1 : List ℕ) (ws ws1 : List (List Spot))
    (tss tss1 : List (List (List Entity))) → ns1 ≡ ns → ss1 ≡ ss → tss1 ≡ tss → KeepsSpots ws ws1
    → IsTallied ns ss ws tss → IsTallied ns1 ss1 ws1 tss1
prepared_tallied ns ns1 ss ss1 ws ws1 tss tss1 en es et k h =
    tallied_same ns ns1 ss ss1 ws1 ws1 tss tss1 (sym en) (sym es) refl (sym et) (tallied_on ns ss ws ws1 tss k h)

-- ---- the instances that are there

-- a test of an instance finds it as before
node_before : (f : GraphNode → Bool) (ns : List GraphNode) (n : GraphNode)
    → Away (length ns) (node_is f (ns ++ n ∷ [])) (node_is f ns)
node_before f ns n a ne = ap (λ (o : Option GraphNode). option_map_or f o false) (get_before ns n a ne)

pub run_before : (ns : List GraphNode) (n : GraphNode) → Away (length ns) (runs_at (ns ++ n ∷ [])) (runs_at ns)
run_before ns n = node_before (λ (m : GraphNode). m.flags.running) ns n

pub off_before : (ns : List GraphNode) (n : GraphNode) → Away (length ns) (off_at (ns ++ n ∷ [])) (off_at ns)
off_before ns n = node_before (λ (m : GraphNode). m.flags.off) ns n

-- they are parked by the same as before
pub parks_before : (ns : List GraphNode) (n : GraphNode) (P Q : ℕ → Bool) → AvoidEnd ns → Away (length ns) P Q
    → Away (length ns) (parks (ns ++ n ∷ []) P) (parks ns Q)
parks_before ns n P Q free away a ne =
    let ns1 = ns ++ n ∷ [] in
    ap (λ (o : Option GraphNode). option_map_or (parks_by (runs_at ns1) (off_at ns1) P) o false)
    (get_before ns n a ne)
    ∙ option_same (parks_by (runs_at ns1) (off_at ns1) P) (parks_by (runs_at ns) (off_at ns) Q) (slice_get ns a)
    (λ (m : GraphNode) at.
    by_same (length ns) (runs_at ns1) (runs_at ns) (off_at ns1) (off_at ns) P Q (run_before ns n) (off_before ns n)
    away m (free a m at))

-- ---- links are met as before

-- after each number of rounds the same of them are parked
rounds_before : (ns : List GraphNode) (n : GraphNode) → AreFree ns n → (k : ℕ)
    → Away (length ns) (parked_in k (ns ++ n ∷ [])) (parked_in k ns)
unfolding parked_in
rounds_before ns n free zero a ne = node_before (λ (m : GraphNode). m.flags.idle) ns n a ne
rounds_before ns n free (suc k) a ne =
    parks_before ns n (parked_in k (ns ++ n ∷ [])) (parked_in k ns) free.others (rounds_before ns n free k) a ne

parked_before : (ns : List GraphNode) (n : GraphNode) → AreFree ns n
    → Away (length ns) (is_parked (ns ++ n ∷ [])) (is_parked ns)
parked_before ns n free a ne =
    let more = length (ns ++ n ∷ []) in
    let le : length ns ≤ more = let size = length-append ns (n ∷ []) in omega arith in
    rounds_before ns n free more a ne ∙ ap (λ (P : ℕ → Bool). P a) (rounds_end ns more le)

agree_before : (x : ℕ) (P Q : ℕ → Bool) (ls : List Link) → Away x P Q → Avoid x ls → Agrees P Q ls
agree_before x P Q ls away out a =
    elim (cases_eq a x) [
      | inl same ↦ let F : ℕ → Type 0 = λ b. Avoid b ls in inr (subst F (sym same) out)
      | inr ne ↦ inl (away a ne)
    ]

met_before : (ns : List GraphNode) (n : GraphNode) → AreFree ns n → Away (length ns) (met_at (ns ++ n ∷ [])) (met_at ns)
met_before ns n free a ne =
    let ns1 = ns ++ n ∷ [] in
    ap (λ (o : Option GraphNode). option_map_or
    (λ (m : GraphNode). list_all (met_by (runs_at ns1) (off_at ns1) (is_parked ns1)) m.links) o false)
    (get_before ns n a ne)
    ∙ option_same (λ (m : GraphNode). list_all (met_by (runs_at ns1) (off_at ns1) (is_parked ns1)) m.links)
    (λ (m : GraphNode). list_all (met_by (runs_at ns) (off_at ns) (is_parked ns)) m.links) (slice_get ns a)
    (λ (m : GraphNode) at.
    let out = free.others a m at in
    all_met_agree (runs_at ns1) (runs_at ns) (off_at ns1) (off_at ns) (is_parked ns1) (is_parked ns) m.links
    (agree_before (length ns) (runs_at ns1) (runs_at ns) m.links (run_before ns n) out)
    (agree_before (length ns) (off_at ns1) (off_at ns) m.links (off_before ns n) out)
    (agree_before (length ns) (is_parked ns1) (is_parked ns) m.links (parked_before ns n free) out))

-- an instance that is there has its links met as before
pub met_stays : (ns ns1 : List GraphNode) (n : GraphNode) → ns1 ≡ ns ++ n ∷ [] → AreFree ns n → (a : ℕ)
    → a < length ns → met_at ns1 a ≡ met_at ns a
met_stays ns ns1 n e free a lt =
    let ne : a ≡ length ns → ⊥ = λ same. absurd (omega arith) in
    ap (λ (l : List GraphNode). met_at l a) e ∙ met_before ns n free a ne

-- ---- the index

-- the index has an empty list for the new place
arrival_index : (ns : List GraphNode) (n : GraphNode) (cs cs1 : List (List ℕ)) → AreFree ns n
    → Notes (λ q. Avoid q n.links) (length ns) cs cs1 → IsIndex ns cs → IsIndex (ns ++ n ∷ []) (cs1 ++ [] ∷ [])
arrival_index ns n cs cs1 free noted h =
    record {
      size =
          let a = length-append cs1 ([] ∷ []) in let b = length-append ns (n ∷ []) in let c = noted.size in
          let d = h.size in omega arith;
      cites = λ q a m lt at out.
          let out1 : IsOut a (citing_at cs1 q) = let P : List ℕ → Type 0 = IsOut a in
          subst P (empty_last cs1 q) out in
          let low : q < length ns + 1 = let e = length-append ns (n ∷ []) in omega arith in
          let L : GraphNode → Type 0 = λ (x : GraphNode). Avoid q x.links in
          elim (cases_eq a (length ns)) [
            | inl same ↦
                let is : n ≡ m = same_Some n m (sym (get_last ns n) ∙ ap (slice_get (ns ++ n ∷ [])) (sym same) ∙ at) in
                subst L is
                (elim (cases_lt q (length ns)) [
                  | inl less ↦
                      let within : q < length cs = let size = h.size in omega arith in
                      let F : ℕ → Type 0 = λ b. IsOut b (citing_at cs1 q) in noted.notes q within (subst F same out1)
                  | inr le ↦ let end : length ns ≡ q = omega arith in
                      let F : ℕ → Type 0 = λ b. Avoid b n.links in subst F end free.own
                ])
            | inr ne ↦
                let there : slice_get ns a ≡ Some m = sym (get_before ns n a ne) ∙ at in
                elim (cases_lt q (length ns)) [
                  | inl less ↦ h.cites q a m less there (noted.stays q a out1)
                  | inr le ↦ let end : length ns ≡ q = omega arith in
                      let F : ℕ → Type 0 = λ b. Avoid b m.links in subst F end (free.others a m there)
                ]
          ];
    }

-- nobody cites the new place, so that the total stays
pub total_last : (cs : List (List ℕ)) → total (cs ++ [] ∷ []) ≡ total cs
total_last [] = refl
total_last (c ∷ cs) = ap (λ t. length c + t) (total_last cs)

-- ---- stamps

-- the conditions on a place by the stamp of each
abbrev IsSoundBy : List GraphNode → (ℕ → ℕ) → ℕ → Type 0
IsSoundBy ns s a = nat_lt 0 (s a) ≡ true → parks ns (λ q. nat_lt 0 (s q) && nat_lt (s q) (s a)) a ≡ true

abbrev IsCompleteBy : List GraphNode → (ℕ → ℕ) → ℕ → Type 0
IsCompleteBy ns s a = nat_lt 0 (s a) ≡ false → parks ns (λ q. nat_lt 0 (s q)) a ≡ false

-- the instance that came has no stamp, and all others are right
arrival_kept : (ns : List GraphNode) (n : GraphNode) (ss : List ℕ) (cs cs1 : List (List ℕ)) (next capacity room : ℕ)
    → AreFree ns n → Notes (λ q. Avoid q n.links) (length ns) cs cs1 → length ns + 2 + 3 * total cs1 ≤ room
    → IsKept ns ss cs next capacity
    → IsTouched (ns ++ n ∷ []) (ss ++ 0 ∷ []) (cs1 ++ [] ∷ []) next room (length ns)
arrival_kept ns n ss cs cs1 next capacity room free noted fits h =
    let ns1 = ns ++ n ∷ [] in
    let same : slice_index ss ≡ slice_index (ss ++ 0 ∷ []) = sym (fun_ext (zero_last ss)) in
    record {
      index = arrival_index ns n cs cs1 free noted h.index;
      size =
          let a = length-append ss (0 ∷ []) in let b = length-append ns (n ∷ []) in let c = h.size in
          omega arith;
      low = λ a. let F : ℕ → Type 0 = λ s. s < next in subst F (sym (zero_last ss a)) (h.low a);
      sound = λ a ne out.
          let F : (ℕ → ℕ) → Type 0 = λ s. IsSoundBy ns1 s a in
          let P = before ss (slice_index ss a) in
          let is : F (slice_index ss) = λ st.
          parks_before ns n P P free.others (λ q apart. refl) a (λ e. ne (sym e)) ∙ h.sound a st in
          subst F same is;
      complete = λ a ne out.
          let F : (ℕ → ℕ) → Type 0 = λ s. IsCompleteBy ns1 s a in
          let P = has_stamp ss in
          let is : F (slice_index ss) = λ st.
          parks_before ns n P P free.others (λ q apart. refl) a (λ e. ne (sym e)) ∙ h.complete a st in
          subst F same is;
      space = let a = length-append ns (n ∷ []) in let b = total_last cs1 in omega arith;
    }

-- the same over what a call names
pub arrival_touched : (ns ns1 : List GraphNode) (n : GraphNode) (ss ss1 : List ℕ) (cs cs1 cs2 : List (List ℕ))
    (next capacity room : ℕ) → ns1 ≡ ns ++ n ∷ [] → ss1 ≡ ss ++ 0 ∷ [] → cs2 ≡ cs1 ++ [] ∷ [] → AreFree ns n
    → Notes (λ q. Avoid q n.links) (length ns) cs cs1 → length ns + 2 + 3 * total cs1 ≤ room
    → IsKept ns ss cs next capacity → IsTouched ns1 ss1 cs2 next room (length ns)
arrival_touched ns ns1 n ss ss1 cs cs1 cs2 next capacity room en es ec free noted fits h =
    let F : List GraphNode → Type 0 = λ l. IsTouched l ss1 cs2 next room (length ns) in
    let G : List ℕ → Type 0 = λ l. IsTouched (ns ++ n ∷ []) l cs2 next room (length ns) in
    let H : List (List ℕ) → Type 0 = λ l. IsTouched (ns ++ n ∷ []) (ss ++ 0 ∷ []) l next room (length ns) in
    subst F (sym en)
    (subst G (sym es)
    (subst H (sym ec) (arrival_kept ns n ss cs cs1 next capacity room free noted fits h)))

-- ---- entities

-- what stands in a list that a place is out of is another place
out_at : (x : ℕ) (ps : List ℕ) (k p : ℕ) → IsOut x ps → slice_get ps k ≡ Some p → p ≡ x → ⊥
out_at x [] k p out at e = absurd cc
out_at x (q ∷ ps) zero p out at e = out.0 (same_Some q p at ∙ e)
out_at x (q ∷ ps) (suc k) p out at e = out_at x ps k p out.1 at e

pub cited_out : (x : ℕ) (es : List (List ℕ)) (k : ℕ) (ps : List ℕ) → AreOut x es → slice_get es k ≡ Some ps → IsOut x ps
cited_out x [] k ps out at = absurd cc
cited_out x (qs ∷ es) zero ps out at = let P : List ℕ → Type 0 = IsOut x in subst P (same_Some qs ps at) out.0
cited_out x (qs ∷ es) (suc k) ps out at = cited_out x es k ps out.1 at

links_out : (x : ℕ) (ls : List Link) (j : ℕ) (l : Link) → Avoid x ls → slice_get ls j ≡ Some l → AreOut x l.cited
links_out x [] j l out at = absurd cc
links_out x (m ∷ ls) zero l out at = let P : Link → Type 0 = λ (y : Link). AreOut x y.cited in
    subst P (same_Some m l at) out.0
links_out x (m ∷ ls) (suc j) l out at = links_out x ls j l out.1 at

-- entities that do not stand for the new place stay entered
entered_before : (ws : List (List Spot)) (x a : ℕ) (ls : List Link) → length ws ≡ x → Avoid x ls → EntersLinks ws a ls
    → EntersLinks (ws ++ [] ∷ []) a ls
entered_before ws x a ls size out h j l at e ps here k p there lt absent =
    let ne : p ≡ x → ⊥ = out_at x ps k p (cited_out x l.cited e ps (links_out x ls j l out at) here) there in
    let within : p < length ws = let more = length-append ws ([] ∷ []) in
    elim (cases_lt p (length ws)) [ inl less ↦ less | inr le ↦ let end : p ≡ x = omega arith in absurd (ne end) ] in
    let P : List Spot → Type 0 = IsAbsent (record { node = a; link = j; entity = e }) in
    h j l at e ps here k p there within (subst P (empty_last ws p) absent)

-- the links at each place
links_last : (ns : List GraphNode) (n : GraphNode) → links_at (ns ++ n ∷ []) (length ns) ≡ n.links
links_last ns n = ap (λ (o : Option GraphNode). option_map_or (λ (m : GraphNode). m.links) o []) (get_last ns n)

pub links_before : (ns : List GraphNode) (n : GraphNode) (a : ℕ) → (a ≡ length ns → ⊥)
    → links_at (ns ++ n ∷ []) a ≡ links_at ns a
links_before ns n a ne =
    ap (λ (o : Option GraphNode). option_map_or (λ (m : GraphNode). m.links) o []) (get_before ns n a ne)

pub avoid_found : (x : ℕ) (found : Option GraphNode) → ((m : GraphNode) → found ≡ Some m → Avoid x m.links)
    → Avoid x (option_map_or (λ (m : GraphNode). m.links) found [])
avoid_found x None h = tt
avoid_found x (Some m) h = h m refl

-- each entity of the instance that came is entered, and each other still is
arrival_entered : (ns : List GraphNode) (n : GraphNode) (ws : List (List Spot)) → AreFree ns n
    → EntersLinks ws (length ns) n.links → AreEntered (links_at ns) (length ns) ws
    → AreEntered (links_at (ns ++ n ∷ [])) (length (ns ++ n ∷ [])) (ws ++ [] ∷ [])
arrival_entered ns n ws free new h =
    let ws1 = ws ++ [] ∷ [] in
    record {
      size =
          let a = length-append ws ([] ∷ []) in let b = length-append ns (n ∷ []) in let c = h.size in
          omega arith;
      entered = λ a.
          let F : ℕ → Type 0 = λ b. EntersLinks ws1 b (links_at (ns ++ n ∷ []) b) in
          elim (cases_eq a (length ns)) [
            | inl same ↦
                let G : List Link → Type 0 = EntersLinks ws1 (length ns) in
                subst F (sym same)
                (subst G (sym (links_last ns n))
                (entered_before ws (length ns) (length ns) n.links h.size free.own new))
            | inr ne ↦
                let G : List Link → Type 0 = EntersLinks ws1 a in
                subst G (sym (links_before ns n a ne))
                (entered_before ws (length ns) a (links_at ns a) h.size
                (avoid_found (length ns) (slice_get ns a) (free.others a)) (h.entered a))
          ];
    }

-- ---- tallies

-- the tallies at each place
own_last : (tss : List (List (List Entity))) (ts : List (List Entity)) (i : ℕ) → length tss ≡ i
    → tallies_at (tss ++ ts ∷ []) i ≡ ts
own_last tss ts i size = ap (λ (o : Option (List (List Entity))). unwrap_or o []) (get_last_at tss ts i size)

pub own_before : (tss : List (List (List Entity))) (ts : List (List Entity)) (i a : ℕ) → length tss ≡ i → (a ≡ i → ⊥)
    → tallies_at (tss ++ ts ∷ []) a ≡ tallies_at tss a
own_before tss ts i a size ne =
    ap (λ (o : Option (List (List Entity))). unwrap_or o []) (get_before tss ts a (λ e. ne (e ∙ size)))

-- by the flags and the stamps before
arrival_right : (ns : List GraphNode) (n : GraphNode) (r o P : ℕ → Bool) (tss : List (List (List Entity)))
    (ts : List (List Entity)) → ts ≡ tallies_of r o P n.links → AreTalliedBut (links_at ns) (length ns) r o P [] tss
    → AreTalliedBut (links_at (ns ++ n ∷ [])) (length (ns ++ n ∷ [])) r o P [] (tss ++ ts ∷ [])
arrival_right ns n r o P tss ts is h =
    let tss1 = tss ++ ts ∷ [] in let links1 = links_at (ns ++ n ∷ []) in
    let f = entity_of r o P in
    record {
      count =
          let a = length-append tss (ts ∷ []) in let b = length-append ns (n ∷ []) in let c = h.count in
          omega arith;
      sizes = λ a j.
          let F : ℕ → Type 0 = λ b. length (tally_in (tallies_at tss1 b) j) ≡ length (cited_in (links1 b) j) in
          elim (cases_eq a (length ns)) [
            | inl same ↦
                subst F (sym same)
                (ap (λ l. length (tally_in l j)) (own_last tss ts (length ns) h.count)
                ∙ ap length (tally_is r o P n.links ts j is) ∙ length-map (cited_in n.links j) f
                ∙ ap (λ (l : List Link). length (cited_in l j)) (sym (links_last ns n)))
            | inr ne ↦
                ap (λ l. length (tally_in l j)) (own_before tss ts (length ns) a h.count ne) ∙ h.sizes a j
                ∙ ap (λ (l : List Link). length (cited_in l j)) (sym (links_before ns n a ne))
          ];
      right = λ s out.
          let F : ℕ → Type 0 = λ b. slice_get (tally_in (tallies_at tss1 b) s.link) s.entity
          ≡ option_map f (slice_get (cited_in (links1 b) s.link) s.entity) in
          elim (cases_eq s.node (length ns)) [
            | inl same ↦
                subst F (sym same)
                (ap (λ l. slice_get (tally_in l s.link) s.entity) (own_last tss ts (length ns) h.count)
                ∙ ap (λ (l : List Entity). slice_get l s.entity) (tally_is r o P n.links ts s.link is)
                ∙ slice_get-map f (cited_in n.links s.link) s.entity
                ∙ ap (λ (l : List Link). option_map f (slice_get (cited_in l s.link) s.entity))
                (sym (links_last ns n)))
            | inr ne ↦
                ap (λ l. slice_get (tally_in l s.link) s.entity) (own_before tss ts (length ns) s.node h.count ne)
                ∙ h.right s out
                ∙ ap (λ (l : List Link). option_map f (slice_get (cited_in l s.link) s.entity))
                (sym (links_before ns n s.node ne))
          ];
    }

-- no entity stands for the new place, so that its flags and its stamp change none
arrival_wired : (ns : List GraphNode) (n : GraphNode) (ss : List ℕ) (ws : List (List Spot))
    (tss : List (List (List Entity))) (ts : List (List Entity)) → AreFree ns n → EntersLinks ws (length ns) n.links
    → ts ≡ tallies_of (runs_at ns) (off_at ns) (has_stamp ss) n.links → IsTallied ns ss ws tss
    → IsTallied (ns ++ n ∷ []) (ss ++ 0 ∷ []) (ws ++ [] ∷ []) (tss ++ ts ∷ [])
arrival_wired ns n ss ws tss ts free new is h =
    let ns1 = ns ++ n ∷ [] in let ss1 = ss ++ 0 ∷ [] in let tss1 = tss ++ ts ∷ [] in
    let wired = arrival_entered ns n ws free new h.wired in
    let within : length ns < length ns1 = let more = length-append ns (n ∷ []) in omega arith in
    let none : spots_at (ws ++ [] ∷ []) (length ns) ≡ [] =
    ap (λ (o : Option (List Spot)). unwrap_or o []) (get_last_at ws [] (length ns) h.wired.size) in
    let F : List Spot → Type 0 = λ l. IsTalliedBut ns1 ss1 l tss1 in
    record {
      wired = wired;
      size =
          let a = length-append ss (0 ∷ []) in let b = length-append ns (n ∷ []) in let c = h.size in
          omega arith;
      tallied = subst F none
          (begun (links_at ns1) (length ns1) (runs_at ns) (runs_at ns1) (off_at ns) (off_at ns1) (has_stamp ss)
          (has_stamp ss1) (ws ++ [] ∷ []) tss1 (length ns) within (λ q ne. sym (run_before ns n q ne))
          (λ q ne. sym (off_before ns n q ne)) (λ q ne. ap (nat_lt 0) (sym (zero_last ss q))) wired
          (arrival_right ns n (runs_at ns) (off_at ns) (has_stamp ss) tss ts is h.tallied));
    }

-- the same over what a call names
pub arrival_tallied : (ns ns1 : List GraphNode) (n : GraphNode) (ss ss1 : List ℕ) (ws ws1 : List (List Spot))
    (tss tss1 : List (List (List Entity))) (ts : List (List Entity)) → ns1 ≡ ns ++ n ∷ [] → ss1 ≡ ss ++ 0 ∷ []
    → ws1 ≡ ws ++ [] ∷ [] → tss1 ≡ tss ++ ts ∷ [] → AreFree ns n → EntersLinks ws (length ns) n.links
    → ts ≡ tallies_of (runs_at ns) (off_at ns) (has_stamp ss) n.links → IsTallied ns ss ws tss
    → IsTallied ns1 ss1 ws1 tss1
arrival_tallied ns ns1 n ss ss1 ws ws1 tss tss1 ts en es ew et free new is h =
    tallied_same (ns ++ n ∷ []) ns1 (ss ++ 0 ∷ []) ss1 (ws ++ [] ∷ []) ws1 (tss ++ ts ∷ []) tss1 (sym en) (sym es)
    (sym ew) (sym et) (arrival_wired ns n ss ws tss ts free new is h)
