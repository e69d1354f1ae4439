-- If more instances are taken to be parked, more are found to be parked. The test of an instance looks only at those
-- that it cites.
use Rattle.std.proofs.Common.{◌≡◌, ℕ, ◌<◌, ◌≤◌, List, [], ◌∷◌, length, Bool, true, false, not, ◌&&◌, ◌||◌, Option, Some, None, refl, ap, inl, inr}
use Rattle.std.specs.Prelude.{slice_get}
use Rattle.std.specs.List.{list_all, list_any}
use Rattle.std.specs.Option.{option_map_or}
use Rattle.std.proofs.lemmas.Bool.{and_from, and_parts, both_ways, or_cases, or_left, or_right, false_from_ne_true}
use Rattle.std.proofs.lemmas.Option.{slice_get_past}
use Rattle.smf_links.specs.declared.grouping.Grouping.{Grouping}
use Rattle.smf_links.specs.declared.grouping.Grouping.TheVariants.{RequireAll, RequireAny, OptionalAll, ExcludeAll}
use Rattle.smf_links.specs.declared.link.Link.{Link}
use Rattle.smf_links.specs.declared.link.GraphNode.{GraphNode}
use Rattle.smf_links.specs.Blockage.{IsOut, blocked_by, blocks_at, node_is, off_at, parks, parks_by, runs_at}
use Rattle.smf_links.specs.Stamps.{AreOut, Avoid, IsIndex, citing_at}

-- ---- more is taken to be parked

abbrev pub Below : (ℕ → Bool) → (ℕ → Bool) → Type 0
Below P Q = (p : ℕ) → P p ≡ true → Q p ≡ true

any_up : {X : Type 0} (P Q : X → Bool) → ((x : X) → P x ≡ true → Q x ≡ true) → (xs : List X) → list_any P xs ≡ true
    → list_any Q xs ≡ true
any_up P Q up [] h = h
any_up P Q up (x ∷ xs) h =
    elim (or_cases (P x) (list_any P xs) h) [
      | inl e ↦ or_left (Q x) (list_any Q xs) (up x e)
      | inr e ↦ or_right (Q x) (list_any Q xs) (any_up P Q up xs e)
    ]

all_up : {X : Type 0} (P Q : X → Bool) → ((x : X) → P x ≡ true → Q x ≡ true) → (xs : List X) → list_all P xs ≡ true
    → list_all Q xs ≡ true
all_up P Q up [] h = h
all_up P Q up (x ∷ xs) h =
    let two = and_parts (P x) (list_all P xs) h in
    and_from (Q x) (list_all Q xs) (up x two.0) (all_up P Q up xs two.1)

pub blocks_up : (runs off P Q : ℕ → Bool) → Below P Q → (g : Grouping) (es : List (List ℕ))
    → blocks_at g runs off P es ≡ true → blocks_at g runs off Q es ≡ true
blocks_up runs off P Q up RequireAll es h =
    let two = and_parts (not (list_all (list_any runs) es)) (list_any (list_all P) es) h in
    and_from (not (list_all (list_any runs) es)) (list_any (list_all Q) es) two.0
    (any_up (list_all P) (list_all Q) (all_up P Q up) es two.1)
blocks_up runs off P Q up RequireAny es h =
    let two = and_parts (not (list_any (list_any runs) es)) (list_all (list_all P) es) h in
    and_from (not (list_any (list_any runs) es)) (list_all (list_all Q) es) two.0
    (all_up (list_all P) (list_all Q) (all_up P Q up) es two.1)
blocks_up runs off P Q up OptionalAll es h = h
blocks_up runs off P Q up ExcludeAll es h = h

by_up : (runs off P Q : ℕ → Bool) → Below P Q → (n : GraphNode) → parks_by runs off P n ≡ true
    → parks_by runs off Q n ≡ true
by_up runs off P Q up n h =
    elim (or_cases n.flags.idle (n.flags.waiting && list_any (blocked_by runs off P) n.links) h) [
      | inl e ↦ or_left n.flags.idle (n.flags.waiting && list_any (blocked_by runs off Q) n.links) e
      | inr e ↦
          let two = and_parts n.flags.waiting (list_any (blocked_by runs off P) n.links) e in
          or_right n.flags.idle (n.flags.waiting && list_any (blocked_by runs off Q) n.links)
          (and_from n.flags.waiting (list_any (blocked_by runs off Q) n.links) two.0
          (any_up (blocked_by runs off P) (blocked_by runs off Q)
          (λ (l : Link). blocks_up runs off P Q up l.grouping l.cited) n.links two.1))
    ]

option_up : {X : Type 0} (f g : X → Bool) → ((x : X) → f x ≡ true → g x ≡ true) → (o : Option X)
    → option_map_or f o false ≡ true → option_map_or g o false ≡ true
option_up f g up None h = h
option_up f g up (Some x) h = up x h

pub parks_up : (ns : List GraphNode) (P Q : ℕ → Bool) → Below P Q → (a : ℕ) → parks ns P a ≡ true → parks ns Q a ≡ true
parks_up ns P Q up a h =
    option_up (parks_by (runs_at ns) (off_at ns) P) (parks_by (runs_at ns) (off_at ns) Q)
    (by_up (runs_at ns) (off_at ns) P Q up) (slice_get ns a) h

pub parks_down : (ns : List GraphNode) (P Q : ℕ → Bool) → Below P Q → (a : ℕ) → parks ns Q a ≡ false
    → parks ns P a ≡ false
parks_down ns P Q up a h = false_from_ne_true (parks ns P a) (λ e. both_ways (parks ns Q a) h (parks_up ns P Q up a e))

pub idle_parks : (ns : List GraphNode) (P : ℕ → Bool) (a : ℕ) → node_is (λ (n : GraphNode). n.flags.idle) ns a ≡ true
    → parks ns P a ≡ true
idle_parks ns P a h =
    option_up (λ (n : GraphNode). n.flags.idle) (parks_by (runs_at ns) (off_at ns) P)
    (λ (n : GraphNode) e. or_left n.flags.idle
    (n.flags.waiting && list_any (blocked_by (runs_at ns) (off_at ns) P) n.links) e) (slice_get ns a) h

pub none_past : (f : GraphNode → Bool) (ns : List GraphNode) (a : ℕ) → length ns ≤ a → node_is f ns a ≡ false
none_past f ns a le = ap (λ (o : Option GraphNode). option_map_or f o false) (slice_get_past ns a le)

-- ---- only cited places count

abbrev pub Away : ℕ → (ℕ → Bool) → (ℕ → Bool) → Type 0
Away x P Q = (p : ℕ) → (p ≡ x → ⊥) → P p ≡ Q p

pub any_same : (x : ℕ) (P Q : ℕ → Bool) → Away x P Q → (ps : List ℕ) → IsOut x ps → list_any P ps ≡ list_any Q ps
any_same x P Q away [] out = refl
any_same x P Q away (p ∷ ps) out = λ i. away p out.0 i || any_same x P Q away ps out.1 i

pub all_same : (x : ℕ) (P Q : ℕ → Bool) → Away x P Q → (ps : List ℕ) → IsOut x ps → list_all P ps ≡ list_all Q ps
all_same x P Q away [] out = refl
all_same x P Q away (p ∷ ps) out = λ i. away p out.0 i && all_same x P Q away ps out.1 i

anys_same : (x : ℕ) (f g : List ℕ → Bool) → ((ps : List ℕ) → IsOut x ps → f ps ≡ g ps) → (es : List (List ℕ))
    → AreOut x es → list_any f es ≡ list_any g es
anys_same x f g same [] out = refl
anys_same x f g same (ps ∷ es) out = λ i. same ps out.0 i || anys_same x f g same es out.1 i

alls_same : (x : ℕ) (f g : List ℕ → Bool) → ((ps : List ℕ) → IsOut x ps → f ps ≡ g ps) → (es : List (List ℕ))
    → AreOut x es → list_all f es ≡ list_all g es
alls_same x f g same [] out = refl
alls_same x f g same (ps ∷ es) out = λ i. same ps out.0 i && alls_same x f g same es out.1 i

blocks_same : (x : ℕ) (r r' o o' P P' : ℕ → Bool) → Away x r r' → Away x o o' → Away x P P'
    → (g : Grouping) (es : List (List ℕ)) → AreOut x es
    → blocks_at g r o P es ≡ blocks_at g r' o' P' es
blocks_same x r r' o o' P P' ar ao ap' RequireAll es out =
    λ i. not (alls_same x (list_any r) (list_any r') (any_same x r r' ar) es out i)
    && anys_same x (list_all P) (list_all P') (all_same x P P' ap') es out i
blocks_same x r r' o o' P P' ar ao ap' RequireAny es out =
    λ i. not (anys_same x (list_any r) (list_any r') (any_same x r r' ar) es out i)
    && alls_same x (list_all P) (list_all P') (all_same x P P' ap') es out i
blocks_same x r r' o o' P P' ar ao ap' OptionalAll es out = refl
blocks_same x r r' o o' P P' ar ao ap' ExcludeAll es out =
    λ i. not (alls_same x (list_all o) (list_all o') (all_same x o o' ao) es out i)
    && anys_same x (list_any r) (list_any r') (any_same x r r' ar) es out i

links_same : (x : ℕ) (r r' o o' P P' : ℕ → Bool) → Away x r r' → Away x o o' → Away x P P' → (ls : List Link)
    → Avoid x ls
    → list_any (blocked_by r o P) ls ≡ list_any (blocked_by r' o' P') ls
links_same x r r' o o' P P' ar ao ap' [] out = refl
links_same x r r' o o' P P' ar ao ap' (l ∷ ls) out =
    λ i. blocks_same x r r' o o' P P' ar ao ap' l.grouping l.cited out.0 i
    || links_same x r r' o o' P P' ar ao ap' ls out.1 i

pub by_same : (x : ℕ) (r r' o o' P P' : ℕ → Bool) → Away x r r' → Away x o o' → Away x P P' → (n : GraphNode)
    → Avoid x n.links
    → parks_by r o P n ≡ parks_by r' o' P' n
by_same x r r' o o' P P' ar ao ap' n out =
    λ i. n.flags.idle || (n.flags.waiting && links_same x r r' o o' P P' ar ao ap' n.links out i)

pub option_same : {X : Type 0} (f g : X → Bool) (o : Option X) → ((x : X) → o ≡ Some x → f x ≡ g x)
    → option_map_or f o false ≡ option_map_or g o false
option_same f g None same = refl
option_same f g (Some x) same = same x refl

-- an instance that does not cite a place does not see whether that is parked
pub parks_same : (ns : List GraphNode) (cs : List (List ℕ)) (x : ℕ) (P Q : ℕ → Bool) → IsIndex ns cs → x < length ns
    → Away x P Q → (a : ℕ) → IsOut a (citing_at cs x)
    → parks ns P a ≡ parks ns Q a
parks_same ns cs x P Q index lt away a out =
    option_same (parks_by (runs_at ns) (off_at ns) P) (parks_by (runs_at ns) (off_at ns) Q) (slice_get ns a)
    (λ (n : GraphNode) e. by_same x (runs_at ns) (runs_at ns) (off_at ns) (off_at ns) P Q (λ p ne. refl)
    (λ p ne. refl) away n (index.cites x a n lt e out))
