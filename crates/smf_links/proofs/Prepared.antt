-- Instances that are ready to be put stay so while more is noted and entered.
use Rattle.std.proofs.Common.{◌≡◌, ℕ, ◌<◌, List, [], ◌∷◌, ◌++◌, length, sym, ap, ◌∙◌, subst, arith}
use Rattle.smf_links.specs.declared.link.Relink.{Relink}
use Rattle.smf_links.specs.declared.rewire.PlacedNode.{PlacedNode}
use Rattle.smf_links.specs.declared.wires.Spot.{Spot}
use Rattle.smf_links.specs.Relinks.{ArePrepared, IsPrepared, relink_of, relinks_of}
use Rattle.smf_links.specs.Stamps.{KeepsPlaces}
use Rattle.smf_links.specs.Wires.{KeepsSpots}
use Rattle.smf_links.proofs.Spots.{links_still}

-- more is noted and entered than before
prepared_still : (cs cs' : List (List ℕ)) (ws ws' : List (List Spot)) (p : PlacedNode) → KeepsPlaces cs cs'
    → KeepsSpots ws ws' → IsPrepared cs ws p → IsPrepared cs' ws' p
prepared_still cs cs' ws ws' p k v h =
    record {
      notes = λ q lt out. let within : q < length cs = let size = k.size in omega arith in
          h.notes q within (k.stays q p.place out);
      enters = links_still ws ws' p.place p.node.links v h.enters;
      shaped = h.shaped;
    }

prepared_last : (cs cs' : List (List ℕ)) (ws ws' : List (List Spot)) (ps : List PlacedNode) (p : PlacedNode)
    → KeepsPlaces cs cs' → KeepsSpots ws ws' → ArePrepared cs ws ps → IsPrepared cs' ws' p
    → ArePrepared cs' ws' (ps ++ p ∷ [])
prepared_last cs cs' ws ws' [] p k v hs h = (h, tt)
prepared_last cs cs' ws ws' (q ∷ ps) p k v hs h =
    (prepared_still cs cs' ws ws' q k v hs.0, prepared_last cs cs' ws ws' ps p k v hs.1 h)

-- one more instance is prepared, after the others
pub prepared_more : (cs cs' : List (List ℕ)) (ws ws' : List (List Spot)) (ps ps' : List PlacedNode) (p : PlacedNode)
    → ps' ≡ ps ++ p ∷ [] → KeepsPlaces cs cs' → KeepsSpots ws ws' → ArePrepared cs ws ps → IsPrepared cs' ws' p
    → ArePrepared cs' ws' ps'
prepared_more cs cs' ws ws' ps ps' p put k v hs h =
    subst (ArePrepared cs' ws') (sym put) (prepared_last cs cs' ws ws' ps p k v hs h)

-- ---- what is prepared, and what is left, are all

one_more : (ps : List PlacedNode) (p : PlacedNode) (r : Relink) (rs : List Relink)
    → relink_of p ≡ r → relinks_of (ps ++ p ∷ []) ++ rs ≡ relinks_of ps ++ r ∷ rs
one_more [] p r rs e = ap (λ x. x ∷ rs) e
one_more (q ∷ ps) p r rs e = ap (λ l. relink_of q ∷ l) (one_more ps p r rs e)

pub relinks_more : (ps ps' : List PlacedNode) (p : PlacedNode) (r : Relink) (left rs all : List Relink)
    → ps' ≡ ps ++ p ∷ [] → relink_of p ≡ r → left ≡ r ∷ rs → relinks_of ps ++ left ≡ all → relinks_of ps' ++ rs ≡ all
relinks_more ps ps' p r left rs all put e steps h =
    ap (λ l. relinks_of l ++ rs) put ∙ one_more ps p r rs e ∙ ap (λ l. relinks_of ps ++ l) (sym steps) ∙ h
