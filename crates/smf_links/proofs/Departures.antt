-- The data kept of instances stays right if the last one goes whose place no link of the others cites.
use Rattle.std.proofs.Common.{◌≡◌, ℕ, zero, suc, ◌+◌, ◌-◌, ◌<◌, ◌≤◌, List, [], ◌∷◌, ◌++◌, length, take, Bool, ◌&&◌, Option, Some, None, refl, sym, ap, ◌∙◌, subst, inl, inr, arith, length-append}
use Rattle.std.specs.Prelude.{nat_lt, slice_get, slice_index}
use Rattle.std.specs.Option.{option_map, option_map_or, unwrap_or}
use Rattle.std.proofs.lemmas.Bool.{both_ways, cases_eq}
use Rattle.std.proofs.lemmas.Option.{slice_get_past, slice_get_within}
use Rattle.smf_links.specs.declared.link.Link.{Link}
use Rattle.smf_links.specs.declared.link.GraphNode.{GraphNode}
use Rattle.smf_links.specs.declared.tally.Entity.{Entity}
use Rattle.smf_links.specs.declared.wires.Spot.{Spot}
use Rattle.smf_links.specs.Blockage.{IsOut, off_at, parks_by, runs_at}
use Rattle.smf_links.specs.Stamps.{AreOut, Avoid, AvoidEnd, IsComplete, IsIndex, IsKept, IsLast, IsSound, before, citing_at, has_stamp, total}
use Rattle.smf_links.specs.Tallies.{entity_of}
use Rattle.smf_links.specs.Wires.{AreEntered, IsAbsent, IsTallied, IsTalliedBut, cited_in, entity_at, links_at, places_at, spots_at, tallies_at, tally_in}
use Rattle.smf_links.proofs.Arrivals.{avoid_found, cited_out, links_before, off_before, own_before, parks_before, run_before}
use Rattle.smf_links.proofs.Growth.{Away, none_past}
use Rattle.smf_links.proofs.PushedItems.{get_before}
use Rattle.smf_links.proofs.TallyUpdates.{entity_same, taken}

-- ---- a list without its last item

-- the list before is the list after, and one item
pub record LosesLast {X : Type 0} (long short : List X) : Type 0 where
  pub gone : X
  pub stood : long ≡ short ++ gone ∷ []

-- what stands at the end goes
loses : {X : Type 0} (xs : List X) (n : ℕ) → length xs ≡ n + 1 → LosesLast xs (take n xs)
loses [] n e = absurd (omega arith)
loses (x ∷ []) zero e = record { gone = x; stood = refl }
loses (x ∷ y ∷ xs) zero e = absurd (omega arith)
loses (x ∷ xs) (suc n) e =
    let size : length xs ≡ n + 1 = omega arith in
    let h = loses xs n size in
    record { gone = h.gone; stood = ap (λ l. x ∷ l) h.stood }

-- a list that is as long as one with an item at its end
shorter : {X Y : Type 0} (xs xs1 : List X) (ys : List Y) (y : Y) → length xs ≡ length (ys ++ y ∷ [])
    → xs1 ≡ take (length xs - 1) xs → LosesLast xs xs1
shorter xs xs1 ys y e is =
    let size : length xs ≡ (length xs - 1) + 1 = let more = length-append ys (y ∷ []) in omega arith in
    subst (LosesLast xs) (sym is) (loses xs (length xs - 1) size)

-- what is left is what stood before the last
pub left_is : {X : Type 0} (xs xs1 ys : List X) (y : X) → xs ≡ ys ++ y ∷ [] → xs1 ≡ take (length xs - 1) xs → xs1 ≡ ys
left_is xs xs1 ys y e is =
    let n : length (ys ++ y ∷ []) - 1 ≡ length ys = let more = length-append ys (y ∷ []) in omega arith in
    is ∙ ap (λ l. take (length l - 1) l) e ∙ sym (taken ys (y ∷ []) (length (ys ++ y ∷ []) - 1) n)

-- what is left is one shorter
one_less : {X : Type 0} (xs : List X) (x : X) → length (xs ++ x ∷ []) ≡ length xs + 1
one_less xs x = length-append xs (x ∷ [])

-- no total grows if lists go
pub total_left : (cs : List (List ℕ)) (n : ℕ) → total (take n cs) ≤ total cs
total_left [] zero = omega arith
total_left [] (suc n) = omega arith
total_left (c ∷ cs) zero = omega arith
total_left (c ∷ cs) (suc n) = let le = total_left cs n in omega arith

-- a list more makes no total less
total_more : (cs : List (List ℕ)) (c : List ℕ) → total cs ≤ total (cs ++ c ∷ [])
total_more [] c = omega arith
total_more (b ∷ cs) c = let le = total_more cs c in omega arith

-- ---- the index

-- the rest of the index is an index of the rest
departure_index : (ns : List GraphNode) (n : GraphNode) (cs : List (List ℕ)) (c : List ℕ)
    → IsIndex (ns ++ n ∷ []) (cs ++ c ∷ []) → IsIndex ns cs
departure_index ns n cs c h =
    let size : length cs ≡ length ns =
    let a = h.size in let b = one_less ns n in let d = one_less cs c in omega arith in
    record {
      size = size;
      cites = λ p a m lt at out.
          let within : a < length ns = slice_get_within ns a m at in
          let ne : a ≡ length ns → ⊥ = λ e. absurd (omega arith) in
          let apart : p ≡ length cs → ⊥ = λ e. absurd (omega arith) in
          let low : p < length (ns ++ n ∷ []) = let more = one_less ns n in omega arith in
          let same : citing_at (cs ++ c ∷ []) p ≡ citing_at cs p =
          ap (λ (o : Option (List ℕ)). unwrap_or o []) (get_before cs c p apart) in
          h.cites p a m low (get_before ns n a ne ∙ at) (subst (IsOut a) (sym same) out);
    }

-- ---- stamps

-- a place before the last has its stamp as before, and past the end there is none
stamp_before : (ss : List ℕ) (s a : ℕ) → (a ≡ length ss → ⊥) → slice_index (ss ++ s ∷ []) a ≡ slice_index ss a
stamp_before [] s zero ne = absurd (ne refl)
stamp_before [] s (suc a) ne = refl
stamp_before (t ∷ ss) s zero ne = refl
stamp_before (t ∷ ss) s (suc a) ne = stamp_before ss s a (λ e. ne (ap suc e))

stamp_past : (ss : List ℕ) (a : ℕ) → length ss ≤ a → slice_index ss a ≡ 0
stamp_past [] a le = refl
stamp_past (s ∷ ss) zero le = absurd (omega arith)
stamp_past (s ∷ ss) (suc a) le = let less : length ss ≤ a = omega arith in stamp_past ss a less

-- an instance that is left has a stamp as before, and those that park it are the same
departure_sound : (ns : List GraphNode) (n : GraphNode) (ss : List ℕ) (s a : ℕ) → length ss ≡ length ns → AvoidEnd ns
    → IsSound (ns ++ n ∷ []) (ss ++ s ∷ []) a → IsSound ns ss a
departure_sound ns n ss s a size free h st =
    elim (cases_eq a (length ss)) [
      | inl e ↦
          let le : length ss ≤ a = omega arith in
          absurd (both_ways (has_stamp ss a) (ap (nat_lt 0) (stamp_past ss a le)) st)
      | inr ne ↦
          let ss1 = ss ++ s ∷ [] in
          let own = stamp_before ss s a ne in
          let away : Away (length ns) (before ss1 (slice_index ss1 a)) (before ss (slice_index ss a)) = λ q apart.
          let other = stamp_before ss s q (λ e. apart (e ∙ size)) in
          λ i. nat_lt 0 (other i) && nat_lt (other i) (own i) in
          sym (parks_before ns n (before ss1 (slice_index ss1 a)) (before ss (slice_index ss a)) free away a
          (λ e. ne (e ∙ sym size)))
          ∙ h (ap (nat_lt 0) own ∙ st)
    ]

-- an instance that is left and has no stamp is not parked
departure_complete : (ns : List GraphNode) (n : GraphNode) (ss : List ℕ) (s a : ℕ) → length ss ≡ length ns → AvoidEnd ns
    → IsComplete (ns ++ n ∷ []) (ss ++ s ∷ []) a → IsComplete ns ss a
departure_complete ns n ss s a size free h st =
    elim (cases_eq a (length ss)) [
      | inl e ↦
          let le : length ns ≤ a = omega arith in
          none_past (parks_by (runs_at ns) (off_at ns) (has_stamp ss)) ns a le
      | inr ne ↦
          let ss1 = ss ++ s ∷ [] in
          let away : Away (length ns) (has_stamp ss1) (has_stamp ss) = λ q apart.
          ap (nat_lt 0) (stamp_before ss s q (λ e. apart (e ∙ size))) in
          sym (parks_before ns n (has_stamp ss1) (has_stamp ss) free away a (λ e. ne (e ∙ sym size)))
          ∙ h (ap (nat_lt 0) (stamp_before ss s a ne) ∙ st)
    ]

-- no stamp grows
departure_low : (ss : List ℕ) (s next a : ℕ) → slice_index (ss ++ s ∷ []) a < next → slice_index ss a < next
departure_low ss s next a low =
    elim (cases_eq a (length ss)) [
      | inl e ↦
          let le : length ss ≤ a = omega arith in
          let none = stamp_past ss a le in omega arith
      | inr ne ↦ let F : ℕ → Type 0 = λ t. t < next in subst F (stamp_before ss s a ne) low
    ]

-- the instances that are left are right
departure_kept : (ns : List GraphNode) (n : GraphNode) (ss : List ℕ) (s : ℕ) (cs : List (List ℕ)) (c : List ℕ)
    (next capacity : ℕ) → AvoidEnd ns → IsKept (ns ++ n ∷ []) (ss ++ s ∷ []) (cs ++ c ∷ []) next capacity
    → IsKept ns ss cs next capacity
departure_kept ns n ss s cs c next capacity free h =
    let size : length ss ≡ length ns =
    let a = h.size in let b = one_less ns n in let d = one_less ss s in omega arith in
    record {
      index = departure_index ns n cs c h.index;
      size = size;
      low = λ a. departure_low ss s next a (h.low a);
      sound = λ a. departure_sound ns n ss s a size free (h.sound a);
      complete = λ a. departure_complete ns n ss s a size free (h.complete a);
      space = let a = h.space in let b = one_less ns n in let d = total_more cs c in omega arith;
    }

-- the same over what a call names
pub kept_left : (ns ns1 : List GraphNode) (ss ss1 : List ℕ) (cs cs1 : List (List ℕ)) (next capacity : ℕ)
    → ns1 ≡ take (length ns - 1) ns → ss1 ≡ take (length ss - 1) ss → cs1 ≡ take (length cs - 1) cs → IsLast ns
    → IsKept ns ss cs next capacity → IsKept ns1 ss1 cs1 next capacity
kept_left ns ns1 ss ss1 cs cs1 next capacity en es ec l h =
    let ns2 = l.others ++ l.last ∷ [] in
    let s = shorter ss ss1 l.others l.last (h.size ∙ ap length l.ends) es in
    let c = shorter cs cs1 l.others l.last (h.index.size ∙ ap length l.ends) ec in
    let F : List GraphNode → Type 0 = λ x. IsKept x ss cs next capacity in
    let G : List ℕ → Type 0 = λ x. IsKept ns2 x cs next capacity in
    let H : List (List ℕ) → Type 0 = λ x. IsKept ns2 (ss1 ++ s.gone ∷ []) x next capacity in
    let J : List GraphNode → Type 0 = λ x. IsKept x ss1 cs1 next capacity in
    subst J (sym (left_is ns ns1 l.others l.last l.ends en))
    (departure_kept l.others l.last ss1 s.gone cs1 c.gone next capacity l.free
    (subst H c.stood (subst G s.stood (subst F l.ends h))))

-- ---- entities

-- past the instances there are no links
links_past : (ns : List GraphNode) (a : ℕ) → length ns ≤ a → links_at ns a ≡ []
links_past ns a le =
    ap (λ (o : Option GraphNode). option_map_or (λ (m : GraphNode). m.links) o []) (slice_get_past ns a le)

-- the entities of the instances that are left stay entered
departure_entered : (ns : List GraphNode) (n : GraphNode) (ws : List (List Spot)) (w : List Spot)
    → AreEntered (links_at (ns ++ n ∷ [])) (length (ns ++ n ∷ [])) (ws ++ w ∷ [])
    → AreEntered (links_at ns) (length ns) ws
departure_entered ns n ws w h =
    record {
      size = let a = h.size in let b = one_less ns n in let d = one_less ws w in omega arith;
      entered = λ a j l at e ps here k p there lt absent.
          elim (cases_eq a (length ns)) [
            | inl same ↦
                let le : length ns ≤ a = omega arith in
                let none : slice_get [] j ≡ Some l = ap (λ ls. slice_get ls j) (sym (links_past ns a le)) ∙ at in
                absurd cc
            | inr ne ↦
                let apart : p ≡ length ws → ⊥ = λ q. absurd (omega arith) in
                let low : p < length (ws ++ w ∷ []) = let more = one_less ws w in omega arith in
                let same : spots_at (ws ++ w ∷ []) p ≡ spots_at ws p =
                ap (λ (o : Option (List Spot)). unwrap_or o []) (get_before ws w p apart) in
                let P : List Spot → Type 0 = IsAbsent (record { node = a; link = j; entity = e }) in
                h.entered a j l (ap (λ ls. slice_get ls j) (links_before ns n a ne) ∙ at) e ps here k p there low
                (subst P (sym same) absent)
          ];
    }

-- ---- tallies

-- the places that a link cites are others
cited_avoid : (x : ℕ) (ls : List Link) (j : ℕ) → Avoid x ls → AreOut x (cited_in ls j)
cited_avoid x [] j out = tt
cited_avoid x (l ∷ ls) zero out = out.0
cited_avoid x (l ∷ ls) (suc j) out = cited_avoid x ls j out.1

-- an entity over other places is what it was
found_same : (x : ℕ) (r r' o o' P P' : ℕ → Bool) → Away x r r' → Away x o o' → Away x P P'
    → (es : List (List ℕ)) (e : ℕ) → AreOut x es → (found : Option (List ℕ)) → slice_get es e ≡ found
    → option_map (entity_of r o P) found ≡ option_map (entity_of r' o' P') found
found_same x r r' o o' P P' ar ao ap' es e out None at = refl
found_same x r r' o o' P P' ar ao ap' es e out (Some ps) at =
    ap Some (entity_same x r r' o o' P P' ar ao ap' ps (cited_out x es e ps out at))

-- past the instances there are no tallies
tallies_past : (tss : List (List (List Entity))) (a : ℕ) → length tss ≤ a → tallies_at tss a ≡ []
tallies_past tss a le = ap (λ (o : Option (List (List Entity))). unwrap_or o []) (slice_get_past tss a le)

-- no link of the others cites the last place, so that its flags and its stamp change no entity
departure_right : (ns : List GraphNode) (n : GraphNode) (ss : List ℕ) (s : ℕ) (tss : List (List (List Entity)))
    (ts : List (List Entity)) → length ss ≡ length ns → AvoidEnd ns
    → IsTalliedBut (ns ++ n ∷ []) (ss ++ s ∷ []) [] (tss ++ ts ∷ []) → IsTalliedBut ns ss [] tss
departure_right ns n ss s tss ts size free h =
    let ns1 = ns ++ n ∷ [] in let ss1 = ss ++ s ∷ [] in
    let count : length tss ≡ length ns =
    let a = h.count in let b = one_less ns n in let d = one_less tss ts in omega arith in
    let f = entity_of (runs_at ns) (off_at ns) (has_stamp ss) in
    let f1 = entity_of (runs_at ns1) (off_at ns1) (has_stamp ss1) in
    record {
      count = count;
      sizes = λ a j.
          elim (cases_eq a (length ns)) [
            | inl same ↦
                let le : length ns ≤ a = omega arith in let les : length tss ≤ a = omega arith in
                let one : length (tally_in (tallies_at tss a) j) ≡ length (tally_in [] j) =
                ap (λ l. length (tally_in l j)) (tallies_past tss a les) in
                let two : length (cited_in (links_at ns a) j) ≡ length (cited_in [] j) =
                ap (λ (l : List Link). length (cited_in l j)) (links_past ns a le) in
                one ∙ sym two
            | inr ne ↦
                ap (λ l. length (tally_in l j)) (sym (own_before tss ts (length ns) a count ne)) ∙ h.sizes a j
                ∙ ap (λ (l : List Link). length (cited_in l j)) (links_before ns n a ne)
          ];
      right = λ t out.
          elim (cases_eq t.node (length ns)) [
            | inl same ↦
                let le : length ns ≤ t.node = omega arith in let les : length tss ≤ t.node = omega arith in
                let one : entity_at tss t ≡ slice_get (tally_in [] t.link) t.entity =
                ap (λ l. slice_get (tally_in l t.link) t.entity) (tallies_past tss t.node les) in
                let two : option_map f (places_at (links_at ns) t)
                ≡ option_map f (slice_get (cited_in [] t.link) t.entity) =
                ap (λ (l : List Link). option_map f (slice_get (cited_in l t.link) t.entity))
                (links_past ns t.node le) in
                one ∙ sym two
            | inr ne ↦
                let avoids : Avoid (length ns) (links_at ns t.node) =
                avoid_found (length ns) (slice_get ns t.node) (free t.node) in
                let es = cited_in (links_at ns t.node) t.link in
                ap (λ l. slice_get (tally_in l t.link) t.entity) (sym (own_before tss ts (length ns) t.node count ne))
                ∙ h.right t out
                ∙ ap (λ (l : List Link). option_map f1 (slice_get (cited_in l t.link) t.entity))
                (links_before ns n t.node ne)
                ∙ found_same (length ns) (runs_at ns1) (runs_at ns) (off_at ns1) (off_at ns) (has_stamp ss1)
                (has_stamp ss) (run_before ns n) (off_before ns n)
                (λ q apart. ap (nat_lt 0) (stamp_before ss s q (λ e. apart (e ∙ size)))) es t.entity
                (cited_avoid (length ns) (links_at ns t.node) t.link avoids) (slice_get es t.entity) refl
          ];
    }

-- the tallies that are left are right
departure_tallied : (ns : List GraphNode) (n : GraphNode) (ss : List ℕ) (s : ℕ) (ws : List (List Spot))
    (w : List Spot) (tss : List (List (List Entity))) (ts : List (List Entity)) → AvoidEnd ns
    → IsTallied (ns ++ n ∷ []) (ss ++ s ∷ []) (ws ++ w ∷ []) (tss ++ ts ∷ []) → IsTallied ns ss ws tss
departure_tallied ns n ss s ws w tss ts free h =
    let size : length ss ≡ length ns =
    let a = h.size in let b = one_less ns n in let d = one_less ss s in omega arith in
    record {
      wired = departure_entered ns n ws w h.wired;
      size = size;
      tallied = departure_right ns n ss s tss ts size free h.tallied;
    }

-- the same over what a call names
pub tallied_left : (ns ns1 : List GraphNode) (ss ss1 : List ℕ) (ws ws1 : List (List Spot))
    (tss tss1 : List (List (List Entity))) → ns1 ≡ take (length ns - 1) ns → ss1 ≡ take (length ss - 1) ss
    → ws1 ≡ take (length ws - 1) ws → tss1 ≡ take (length tss - 1) tss → IsLast ns
    → IsTallied ns ss ws tss → IsTallied ns1 ss1 ws1 tss1
tallied_left ns ns1 ss ss1 ws ws1 tss tss1 en es ew et l h =
    let ns2 = l.others ++ l.last ∷ [] in
    let s = shorter ss ss1 l.others l.last (h.size ∙ ap length l.ends) es in
    let w = shorter ws ws1 l.others l.last (h.wired.size ∙ ap length l.ends) ew in
    let t = shorter tss tss1 l.others l.last (h.tallied.count ∙ ap length l.ends) et in
    let F : List GraphNode → Type 0 = λ x. IsTallied x ss ws tss in
    let G : List ℕ → Type 0 = λ x. IsTallied ns2 x ws tss in
    let H : List (List Spot) → Type 0 = λ x. IsTallied ns2 (ss1 ++ s.gone ∷ []) x tss in
    let J : List (List (List Entity)) → Type 0 = λ x. IsTallied ns2 (ss1 ++ s.gone ∷ []) (ws1 ++ w.gone ∷ []) x in
    let K : List GraphNode → Type 0 = λ x. IsTallied x ss1 ws1 tss1 in
    subst K (sym (left_is ns ns1 l.others l.last l.ends en))
    (departure_tallied l.others l.last ss1 s.gone ws1 w.gone tss1 t.gone l.free
    (subst J t.stood (subst H w.stood (subst G s.stood (subst F l.ends h)))))
