-- A link is blocked or met as its counts say.
use Rattle.std.proofs.Common.{◌≡◌, ℕ, ◌+◌, ◌<◌, List, [], map, length, drop, get_or, Bool, true, false, ◌&&◌, ◌||◌, Option, Some, refl, sym, ap, ◌∙◌, subst}
use Rattle.std.specs.Prelude.{nat_lt, slice_get, slice_index}
use Rattle.std.specs.List.{list_all, list_any}
use Rattle.std.specs.Option.{unwrap_or}
use Rattle.std.proofs.lemmas.Bool.{and_parts}
use Rattle.std.proofs.lemmas.Option.{slice_get_read}
use Rattle.smf_links.specs.declared.link.Link.{Link}
use Rattle.smf_links.specs.declared.link.GraphNode.{GraphNode}
use Rattle.smf_links.specs.declared.tally.Entity.{Entity}
use Rattle.smf_links.specs.declared.wires.Spot.{Spot}
use Rattle.smf_links.specs.Blockage.{blocked_by, met_by, off_at, runs_at}
use Rattle.smf_links.specs.Stamps.{before, has_stamp}
use Rattle.smf_links.specs.Tallies.{entities_block, entities_meet, entity_of}
use Rattle.smf_links.specs.Wires.{AreTold, IsTallied, tallies_at, tally_in}
use Rattle.smf_links.proofs.Growth.{blocks_up}
use Rattle.smf_links.proofs.Least.{before_all}
use Rattle.smf_links.proofs.TallyUpdates.{told}
use Rattle.smf_links.proofs.Counts.{block_is, meet_is}
use Rattle.smf_links.proofs.Work.{left_at}

pub found_at : {X : Type 0} (xs : List X) (i : ℕ) (x : X) → i < length xs → x ≡ get_or xs i x → slice_get xs i ≡ Some x
found_at xs i x lt is = slice_get_read xs (length xs) i x refl lt is

-- the list's tally at a number
pub tally_found : (ts : List (List Entity)) (number : ℕ) (t es : List Entity) → number < length ts
    → t ≡ get_or ts number t → tally_in ts number ≡ es → t ≡ es
tally_found ts number t es lt at is =
    sym (ap (λ (o : Option (List Entity)). unwrap_or o []) (found_at ts number t lt at)) ∙ is

implied : (b c : Bool) → (c ≡ true → b ≡ true) → (b && c) ≡ c
implied true c f = refl
implied false true f = f refl
implied false false f = refl

-- a link that some stamps block is blocked by all stamps
pub counted_blocked : (runs off : ℕ → Bool) (ss : List ℕ) (limit : ℕ) (l : Link) (t : List Entity)
    → t ≡ map (entity_of runs off (has_stamp ss)) l.cited
    → (entities_block l.grouping t && blocked_by runs off (before ss limit) l) ≡ blocked_by runs off (before ss limit) l
counted_blocked runs off ss limit l t e =
    implied (entities_block l.grouping t) (blocked_by runs off (before ss limit) l)
    (λ h. ap (entities_block l.grouping) e ∙ block_is l.grouping runs off (has_stamp ss) l.cited
    ∙ blocks_up runs off (before ss limit) (has_stamp ss)
    (λ p b. (and_parts (has_stamp ss p) (nat_lt (slice_index ss p) limit) b).0) l.grouping l.cited h)

-- if all stamps do not block a link, the stamps below a limit do not
pub counted_free : (runs off : ℕ → Bool) (ss : List ℕ) (limit : ℕ) (l : Link) (t : List Entity)
    → t ≡ map (entity_of runs off (has_stamp ss)) l.cited → entities_block l.grouping t ≡ false
    → false ≡ blocked_by runs off (before ss limit) l
counted_free runs off ss limit l t e free = (λ i. sym free i && blocked_by runs off (before ss limit) l)
    ∙ counted_blocked runs off ss limit l t e

pub counted_met : (runs off parked : ℕ → Bool) (l : Link) (t : List Entity)
    → t ≡ map (entity_of runs off parked) l.cited → entities_meet l.grouping t ≡ met_by runs off parked l
counted_met runs off parked l t e = ap (entities_meet l.grouping) e ∙ meet_is l.grouping runs off parked l.cited

-- ---- one link after another

pub any_step : {X : Type 0} (f : X → Bool) (xs : List X) (i : ℕ) (x : X) (b : Bool) → i < length xs
    → x ≡ get_or xs i x → f x ≡ false → list_any f (drop i xs) ≡ b → list_any f (drop (i + 1) xs) ≡ b
any_step f xs i x b lt is free h = (λ j. sym free j || list_any f (drop (i + 1) xs))
    ∙ sym (ap (list_any f) (left_at xs i x lt is)) ∙ h

pub any_found : {X : Type 0} (f : X → Bool) (xs : List X) (i : ℕ) (x : X) (b : Bool) → i < length xs
    → x ≡ get_or xs i x → f x ≡ true → list_any f (drop i xs) ≡ b → true ≡ b
any_found f xs i x b lt is so h = (λ j. sym so j || list_any f (drop (i + 1) xs))
    ∙ sym (ap (list_any f) (left_at xs i x lt is)) ∙ h

pub all_step : {X : Type 0} (f : X → Bool) (xs : List X) (i : ℕ) (x : X) (b : Bool) → i < length xs
    → x ≡ get_or xs i x → f x ≡ true → list_all f (drop i xs) ≡ b → list_all f (drop (i + 1) xs) ≡ b
all_step f xs i x b lt is so h = (λ j. sym so j && list_all f (drop (i + 1) xs))
    ∙ sym (ap (list_all f) (left_at xs i x lt is)) ∙ h

pub all_found : {X : Type 0} (f : X → Bool) (xs : List X) (i : ℕ) (x : X) (b : Bool) → i < length xs
    → x ≡ get_or xs i x → f x ≡ false → list_all f (drop i xs) ≡ b → false ≡ b
all_found f xs i x b lt is free h = (λ j. sym free j && list_all f (drop (i + 1) xs))
    ∙ sym (ap (list_all f) (left_at xs i x lt is)) ∙ h

-- if the tallies are right for all links, they are right for the next
pub told_next : (runs off parked : ℕ → Bool) (ts : List (List Entity)) (ls : List Link) (i : ℕ)
    (l : Link) → i < length ls → l ≡ get_or ls i l
    → AreTold runs off parked ts ls → tally_in ts i ≡ map (entity_of runs off parked) l.cited
told_next runs off parked ts ls i l lt is h = h i l (found_at ls i l lt is)

-- ---- below a limit of all stamps

pub told_before : (ns : List GraphNode) (ss : List ℕ) (ws : List (List Spot)) (tss : List (List (List Entity)))
    (limit a : ℕ) (n : GraphNode) → slice_get ns a ≡ Some n → ((p : ℕ) → slice_index ss p < limit)
    → IsTallied ns ss ws tss → AreTold (runs_at ns) (off_at ns) (before ss limit) (tallies_at tss a) n.links
told_before ns ss ws tss limit a n at low h =
    let F : (ℕ → Bool) → Type 0 = λ P. AreTold (runs_at ns) (off_at ns) P (tallies_at tss a) n.links in
    subst F (sym (before_all ss limit low)) (told ns ss ws tss a n at h)
