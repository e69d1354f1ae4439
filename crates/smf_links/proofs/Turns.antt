-- Instances get other flags and links, one after another.
use Rattle.std.proofs.Common.{◌≡◌, ℕ, ◌<◌, List, ◌∷◌, length, refl, sym, ap, ◌∙◌, subst, arith, length-set}
use Rattle.std.specs.Prelude.{slice_get, slice_set}
use Rattle.std.proofs.lemmas.Option.{slice_get_within}
use Rattle.smf_links.specs.declared.link.GraphNode.{GraphNode}
use Rattle.smf_links.specs.declared.link.Relink.{Relink}
use Rattle.smf_links.specs.declared.rewire.PlacedNode.{PlacedNode}
use Rattle.smf_links.specs.declared.wires.Spot.{Spot}
use Rattle.smf_links.specs.Relinks.{ArePrepared, AreWithin, IsPrepared, ReachesAll, relinks_of, with_relinks}
use Rattle.smf_links.specs.Stamps.{Avoid, IsKept, IsTouched, Notes, Reaches}
use Rattle.smf_links.proofs.Citations.{keeps_same}
use Rattle.smf_links.proofs.Relinks.{relink_touched}
use Rattle.smf_links.proofs.SetItems.{get_other}

-- ---- one instance

-- only what the changed place touches may be wrong, since the new links were noted before
pub turn_touched : (ns seen ns' : List GraphNode) (ss : List ℕ) (cs : List (List ℕ)) (ws : List (List Spot))
    (next capacity : ℕ) (p : PlacedNode) → seen ≡ ns' → ns' ≡ slice_set ns p.place p.node → p.place < length ns
    → IsPrepared cs ws p → IsKept ns ss cs next capacity → IsTouched seen ss cs next capacity p.place
turn_touched ns seen ns' ss cs ws next capacity p same e lt ready h =
    let noted : Notes (λ q. Avoid q p.node.links) p.place cs cs =
    record { size = refl; stays = λ q a out. out; notes = λ q low out. ready.notes q low out } in
    relink_touched ns seen ss cs cs next capacity capacity p.place p.node (same ∙ e) lt (keeps_same cs cs refl)
    (λ space. space) noted h

-- ---- the reach of each is the reach of all

-- with the reach of the changes that are left, the reach of all is known
pub record LeadsOn (ns0 ns : List GraphNode) (all left : List Relink) (was0 was : List ℕ) : Type 0 where
  pub leads : (after : List GraphNode) (touched : List ℕ) → ReachesAll ns after left was touched
      → ReachesAll ns0 after all was0 touched

-- one change, and then the others
reaches_more : (ns ns1 after : List GraphNode) (r : Relink) (rs : List Relink) (was was1 touched : List ℕ)
    → ns1 ≡ slice_set ns r.place r.node → Reaches ns ns1 r.place was was1 → ReachesAll ns1 after rs was1 touched
    → ReachesAll ns after (r ∷ rs) was touched
reaches_more ns ns1 after r rs was was1 touched e one more =
    let size : length ns1 ≡ length ns = ap length e ∙ length-set ns r.place r.node in
    record {
      grown = λ a out lt. let low : a < length ns1 = omega arith in one.grown a (more.grown a out low) lt;
      apart = λ a n out at.
          let lt : a < length ns = slice_get_within ns a n at in
          let low : a < length ns1 = omega arith in
          let first = one.apart a n (more.grown a out low) at in (
            first.0,
            first.1,
            more.apart a n out
                (ap (λ (l : List GraphNode). slice_get l a) e
                ∙ get_other ns r.place a r.node (λ same. first.0 (sym same)) ∙ at),
          );
      met = λ a out lt. let low : a < length ns1 = omega arith in
          more.met a out low ∙ one.met a (more.grown a out low) lt;
    }

pub leads_more : (ns0 ns ns1 : List GraphNode) (all left rs : List Relink) (r : Relink) (was0 was was1 : List ℕ)
    → left ≡ r ∷ rs → ns1 ≡ slice_set ns r.place r.node → Reaches ns ns1 r.place was was1
    → LeadsOn ns0 ns all left was0 was → LeadsOn ns0 ns1 all rs was0 was1
leads_more ns0 ns ns1 all left rs r was0 was was1 steps e one h =
    record {
      leads = λ after touched more. let F : List Relink → Type 0 = λ l. ReachesAll ns after l was touched in
          h.leads after touched (subst F (sym steps) (reaches_more ns ns1 after r rs was was1 touched e one more));
    }

-- ---- what is left after one turn

pub next_ready : (cs : List (List ℕ)) (ws : List (List Spot)) (left ps : List PlacedNode) (p : PlacedNode)
    → left ≡ p ∷ ps → ArePrepared cs ws left → IsPrepared cs ws p × ArePrepared cs ws ps
next_ready cs ws left ps p e h = subst (ArePrepared cs ws) e h

next_within : (count : ℕ) (left ps : List PlacedNode) (p : PlacedNode) → left ≡ p ∷ ps
    → AreWithin count (relinks_of left) → (p.place < count) × AreWithin count (relinks_of ps)
next_within count left ps p e h = let F : List PlacedNode → Type 0 = λ l. AreWithin count (relinks_of l) in
    subst F e h

pub turn_within : (ns ns1 : List GraphNode) (left ps : List PlacedNode) (p : PlacedNode) → left ≡ p ∷ ps
    → ns1 ≡ slice_set ns p.place p.node → AreWithin (length ns) (relinks_of left)
    → AreWithin (length ns1) (relinks_of ps)
turn_within ns ns1 left ps p e put h =
    let F : ℕ → Type 0 = λ count. AreWithin count (relinks_of ps) in
    subst F (sym (ap length put ∙ length-set ns p.place p.node)) (next_within (length ns) left ps p e h).1

pub turn_nodes : (ns ns1 end : List GraphNode) (left ps : List PlacedNode) (p : PlacedNode) → left ≡ p ∷ ps
    → ns1 ≡ slice_set ns p.place p.node → with_relinks ns (relinks_of left) ≡ end
    → with_relinks ns1 (relinks_of ps) ≡ end
turn_nodes ns ns1 end left ps p e put h =
    ap (λ l. with_relinks l (relinks_of ps)) put ∙ ap (λ l. with_relinks ns (relinks_of l)) (sym e) ∙ h
