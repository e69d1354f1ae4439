-- The data kept of instances stays right if one instance gets other links.
use Rattle.std.proofs.Common.{◌≡◌, ℕ, ◌+◌, ◌*◌, ◌<◌, ◌≤◌, List, [], length, Bool, false, Option, refl, sym, ap, ◌∙◌, subst, inl, inr, arith, length-set}
use Rattle.std.specs.Prelude.{slice_get, slice_set}
use Rattle.std.specs.Option.{option_map, option_map_or}
use Rattle.std.proofs.lemmas.Bool.{cases_eq}
use Rattle.std.proofs.lemmas.List.{length-map}
use Rattle.std.proofs.lemmas.Option.{same_Some, slice_get-map}
use Rattle.smf_links.specs.declared.link.Link.{Link}
use Rattle.smf_links.specs.declared.link.GraphNode.{GraphNode}
use Rattle.smf_links.specs.declared.tally.Entity.{Entity}
use Rattle.smf_links.specs.declared.wires.Spot.{Spot}
use Rattle.smf_links.specs.Blockage.{IsOut, off_at, runs_at}
use Rattle.smf_links.specs.Stamps.{Avoid, IsIndex, IsKept, IsTouched, KeepsPlaces, Notes, citing_at, has_stamp, total}
use Rattle.smf_links.specs.Tallies.{entity_of}
use Rattle.smf_links.specs.Wires.{AreEntered, AreTalliedBut, EntersLinks, IsTallied, IsTalliedBut, KeepsSpots, cited_in, links_at, spots_at, tallies_at, tallies_of, tally_in}
use Rattle.smf_links.proofs.FlagChanges.{Differs, touched_by}
use Rattle.smf_links.proofs.SetItems.{get_other, get_set}
use Rattle.smf_links.proofs.Spots.{links_still}
use Rattle.smf_links.proofs.TallyUpdates.{begun, own_other, own_same, tally_is}

-- ---- more is noted and entered than before

pub index_on : (ns : List GraphNode) (cs cs' : List (List ℕ)) → KeepsPlaces cs cs' → IsIndex ns cs → IsIndex ns cs'
index_on ns cs cs' k h =
    record { size = k.size ∙ h.size; cites = λ p a n lt at out. h.cites p a n lt at (k.stays p a out) }

pub kept_on : (ns : List GraphNode) (ss : List ℕ) (cs cs' : List (List ℕ)) (next capacity capacity' : ℕ)
    → KeepsPlaces cs cs'
    → (length ns + 1 + 3 * total cs ≤ capacity → length ns + 1 + 3 * total cs' ≤ capacity')
    → IsKept ns ss cs next capacity → IsKept ns ss cs' next capacity'
kept_on ns ss cs cs' next capacity capacity' k more h =
    record {
      index = index_on ns cs cs' k h.index;
      size = h.size;
      low = h.low;
      sound = h.sound;
      complete = h.complete;
      space = more h.space;
    }

pub entered_on : (links : ℕ → List Link) (many : ℕ) (ws vs : List (List Spot)) → KeepsSpots ws vs
    → AreEntered links many ws → AreEntered links many vs
entered_on links many ws vs k h =
    record { size = k.size ∙ h.size; entered = λ a. links_still ws vs a (links a) k (h.entered a) }

pub tallied_on : (ns : List GraphNode) (ss : List ℕ) (ws vs : List (List Spot)) (tss : List (List (List Entity)))
    → KeepsSpots ws vs → IsTallied ns ss ws tss → IsTallied ns ss vs tss
tallied_on ns ss ws vs tss k h =
    record { wired = entered_on (links_at ns) (length ns) ws vs k h.wired; size = h.size; tallied = h.tallied }

-- ---- one instance is another

pub relink_differs : (ns ns' : List GraphNode) (p : ℕ) (n : GraphNode) → ns' ≡ slice_set ns p n → Differs ns ns' p
relink_differs ns ns' p n e =
    let F : List GraphNode → Type 0 = λ l. Differs ns l p in
    let d : F (slice_set ns p n) = record {
      size = length-set ns p n;
      others = λ a ne. get_other ns p a n ne;
    } in
    subst F (sym e) d

relink_index : (ns : List GraphNode) (cs cs' : List (List ℕ)) (p : ℕ) (n : GraphNode) → p < length ns
    → IsIndex ns cs' → length cs ≡ length ns → Notes (λ q. Avoid q n.links) p cs cs' → IsIndex (slice_set ns p n) cs'
relink_index ns cs cs' p n lt h size noted =
    record {
      size = h.size ∙ sym (length-set ns p n);
      cites = λ q a m low at out.
          let within : q < length ns = let e = length-set ns p n in omega arith in
          elim (cases_eq a p) [
            | inl same ↦
                let is : n ≡ m = same_Some n m
                (sym (get_set ns p n lt) ∙ ap (slice_get (slice_set ns p n)) (sym same) ∙ at) in
                let inside : q < length cs = omega arith in
                let F : ℕ → Type 0 = λ b. IsOut b (citing_at cs' q) in
                let G : GraphNode → Type 0 = λ (x : GraphNode). Avoid q x.links in
                subst G is (noted.notes q inside (subst F same out))
            | inr ne ↦ h.cites q a m within (sym (get_other ns p a n ne) ∙ at) out
          ];
    }

pub relink_touched : (ns ns' : List GraphNode) (ss : List ℕ) (cs cs' : List (List ℕ)) (next capacity capacity' p : ℕ)
    (n : GraphNode) → ns' ≡ slice_set ns p n → p < length ns → KeepsPlaces cs cs'
    → (length ns + 1 + 3 * total cs ≤ capacity → length ns + 1 + 3 * total cs' ≤ capacity')
    → Notes (λ q. Avoid q n.links) p cs cs' → IsKept ns ss cs next capacity → IsTouched ns' ss cs' next capacity' p
relink_touched ns ns' ss cs cs' next capacity capacity' p n e lt k more noted h =
    let F : List GraphNode → Type 0 = λ l. IsTouched l ss cs' next capacity' p in
    subst F (sym e)
    (touched_by ns (slice_set ns p n) ss cs' next capacity' p (relink_differs ns (slice_set ns p n) p n refl) lt
    (relink_index ns cs cs' p n lt (index_on ns cs cs' k h.index) h.index.size noted)
    (kept_on ns ss cs cs' next capacity capacity' k more h))

-- ---- entities and tallies

links_same : (ns : List GraphNode) (p : ℕ) (n : GraphNode) → p < length ns → links_at (slice_set ns p n) p ≡ n.links
links_same ns p n lt =
    ap (λ (o : Option GraphNode). option_map_or (λ (m : GraphNode). m.links) o []) (get_set ns p n lt)

links_other : (ns : List GraphNode) (p : ℕ) (n : GraphNode) (a : ℕ) → (a ≡ p → ⊥)
    → links_at (slice_set ns p n) a ≡ links_at ns a
links_other ns p n a ne =
    ap (λ (o : Option GraphNode). option_map_or (λ (m : GraphNode). m.links) o []) (get_other ns p a n ne)

relink_entered : (ns : List GraphNode) (ws : List (List Spot)) (p : ℕ) (n : GraphNode) → p < length ns
    → AreEntered (links_at ns) (length ns) ws → EntersLinks ws p n.links
    → AreEntered (links_at (slice_set ns p n)) (length ns) ws
relink_entered ns ws p n lt h new =
    record {
      size = h.size;
      entered = λ a.
          let F : ℕ → Type 0 = λ b. EntersLinks ws b (links_at (slice_set ns p n) b) in
          elim (cases_eq a p) [
            | inl same ↦ let G : List Link → Type 0 = EntersLinks ws p in
                subst F (sym same) (subst G (sym (links_same ns p n lt)) new)
            | inr ne ↦ let G : List Link → Type 0 = EntersLinks ws a in
                subst G (sym (links_other ns p n a ne)) (h.entered a)
          ];
    }

-- by the flags before
relink_right : (ns : List GraphNode) (r o P : ℕ → Bool) (tss : List (List (List Entity))) (p : ℕ) (n : GraphNode)
    (ts : List (List Entity)) → p < length ns → ts ≡ tallies_of r o P n.links
    → AreTalliedBut (links_at ns) (length ns) r o P [] tss
    → AreTalliedBut (links_at (slice_set ns p n)) (length ns) r o P [] (slice_set tss p ts)
relink_right ns r o P tss p n ts lt is h =
    let tss' = slice_set tss p ts in let links' = links_at (slice_set ns p n) in
    let inside : p < length tss = let size = h.count in omega arith in
    let f = entity_of r o P in
    record {
      count = length-set tss p ts ∙ h.count;
      sizes = λ a j.
          let F : ℕ → Type 0 = λ b. length (tally_in (tallies_at tss' b) j) ≡ length (cited_in (links' b) j) in
          elim (cases_eq a p) [
            | inl same ↦
                subst F (sym same)
                (ap (λ l. length (tally_in l j)) (own_same tss p ts inside)
                ∙ ap length (tally_is r o P n.links ts j is) ∙ length-map (cited_in n.links j) f
                ∙ ap (λ (l : List Link). length (cited_in l j)) (sym (links_same ns p n lt)))
            | inr ne ↦
                ap (λ l. length (tally_in l j)) (own_other tss p a ts ne) ∙ h.sizes a j
                ∙ ap (λ (l : List Link). length (cited_in l j)) (sym (links_other ns p n a ne))
          ];
      right = λ s out.
          let F : ℕ → Type 0 = λ b. slice_get (tally_in (tallies_at tss' b) s.link) s.entity
          ≡ option_map f (slice_get (cited_in (links' b) s.link) s.entity) in
          elim (cases_eq s.node p) [
            | inl same ↦
                subst F (sym same)
                (ap (λ l. slice_get (tally_in l s.link) s.entity) (own_same tss p ts inside)
                ∙ ap (λ (l : List Entity). slice_get l s.entity) (tally_is r o P n.links ts s.link is)
                ∙ slice_get-map f (cited_in n.links s.link) s.entity
                ∙ ap (λ (l : List Link). option_map f (slice_get (cited_in l s.link) s.entity))
                (sym (links_same ns p n lt)))
            | inr ne ↦
                ap (λ l. slice_get (tally_in l s.link) s.entity) (own_other tss p s.node ts ne) ∙ h.right s out
                ∙ ap (λ (l : List Link). option_map f (slice_get (cited_in l s.link) s.entity))
                (sym (links_other ns p n s.node ne))
          ];
    }

pub relink_tallied : (ns ns' : List GraphNode) (ss : List ℕ) (ws : List (List Spot))
    (tss tss' : List (List (List Entity))) (p : ℕ) (n : GraphNode) (ts : List (List Entity)) → p < length ns
    → ns' ≡ slice_set ns p n → tss' ≡ slice_set tss p ts
    → ts ≡ tallies_of (runs_at ns) (off_at ns) (has_stamp ss) n.links → EntersLinks ws p n.links
    → IsTallied ns ss ws tss → IsTalliedBut ns' ss (spots_at ws p) tss'
relink_tallied ns ns' ss ws tss tss' p n ts lt en et is new h =
    let ns1 = slice_set ns p n in
    let F : List GraphNode → Type 0 = λ l. IsTalliedBut l ss (spots_at ws p) tss' in
    let G : List (List (List Entity)) → Type 0 = IsTalliedBut ns1 ss (spots_at ws p) in
    let H : ℕ → Type 0 =
    λ m. AreTalliedBut (links_at ns1) m (runs_at ns1) (off_at ns1) (has_stamp ss) (spots_at ws p)
    (slice_set tss p ts) in
    subst F (sym en)
    (subst G (sym et)
    (subst H (sym (length-set ns p n))
    (begun (links_at ns1) (length ns) (runs_at ns) (runs_at ns1) (off_at ns) (off_at ns1) (has_stamp ss)
    (has_stamp ss) ws (slice_set tss p ts) p lt
    (λ q ne. ap (λ (o : Option GraphNode). option_map_or (λ (m : GraphNode). m.flags.running) o false)
    (sym (get_other ns p q n ne)))
    (λ q ne. ap (λ (o : Option GraphNode). option_map_or (λ (m : GraphNode). m.flags.off) o false)
    (sym (get_other ns p q n ne)))
    (λ q ne. refl) (relink_entered ns ws p n lt h.wired new)
    (relink_right ns (runs_at ns) (off_at ns) (has_stamp ss) tss p n ts lt is h.tallied))))

pub relink_done : (ns seen ns' : List GraphNode) (ss : List ℕ) (ws : List (List Spot))
    (tss tss' : List (List (List Entity))) (p : ℕ) (n : GraphNode) → p < length ns → seen ≡ ns'
    → ns' ≡ slice_set ns p n → EntersLinks ws p n.links → IsTallied ns ss ws tss → IsTalliedBut seen ss [] tss'
    → IsTallied ns' ss ws tss'
relink_done ns seen ns' ss ws tss tss' p n lt e is new h t =
    let F : List GraphNode → Type 0 = λ l. AreEntered (links_at l) (length l) ws in
    let G : List GraphNode → Type 0 = λ l. IsTalliedBut l ss [] tss' in
    let H : ℕ → Type 0 = λ m. AreEntered (links_at (slice_set ns p n)) m ws in
    record {
      wired = subst F (sym is) (subst H (sym (length-set ns p n)) (relink_entered ns ws p n lt h.wired new));
      size = let l = ap length is in let m = length-set ns p n in let size = h.size in omega arith;
      tallied = subst G e t;
    }
