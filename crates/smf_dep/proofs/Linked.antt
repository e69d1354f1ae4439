-- Instances that came after others get their links, and so do those that name them.
use Rattle.std.proofs.Common.{◌≡◌, ℕ, zero, suc, ◌+◌, ◌-◌, ◌<◌, ◌≤◌, List, [], ◌∷◌, ◌++◌, map, length, drop, take, Bool, true, false, ◌||◌, not, if◌then◌else◌, Option, Some, None, refl, sym, ap, ◌∙◌, subst, arith, length-append, length-drop}
use Rattle.std.specs.Prelude.{nat_lt, slice_get, slice_set}
use Rattle.std.specs.List.{list_any}
use Rattle.std.specs.Option.{option_map_or}
use Rattle.std.proofs.Math.Seq.{drop-append_seam}
use Rattle.std.proofs.lemmas.Bool.Decides.{nat_tests}
use Rattle.std.proofs.lemmas.List.{length-map, take_all}
use Rattle.smf_links.specs.declared.link.GraphNode.{GraphNode}
use Rattle.smf_links.specs.declared.link.Link.{Link}
use Rattle.smf_links.specs.declared.link.Relink.{Relink}
use Rattle.smf_links.specs.Relinks.{AreApart, AreWithin, with_relinks}
use Rattle.smf_dep.specs.declared.dependency.Dependency.{Dependency}
use Rattle.smf_dep.specs.declared.member.GraphMember.{GraphMember}
use Rattle.smf_dep.specs.declared.relink.PlacedMember.{PlacedMember}
use Rattle.smf_dep.specs.Places.{flags_of, link_of, links_of, node_of, nodes_of, places, places_from}
use Rattle.smf_dep.specs.Updates.{AreJoined, AreKnown, AreNamed, IsKnownAt, all_relinks, blank_of, is_due, is_naming, names, relink_of, relinks_from, with_placed}
use Rattle.smf_dep.specs.Verdicts.{is_cited}
use Rattle.smf_dep.proofs.Found.{node_got}
use Rattle.smf_dep.proofs.Relinked.{nodes_of_all, within_count}
use Rattle.smf_dep.proofs.Updates.{same_some}

pub or_false : (a b : Bool) → (a || b) ≡ false → (a ≡ false) × (b ≡ false)
or_false true b e = absurd cc
or_false false b e = (refl, e)

pub got_within : {X : Type 0} (xs ys : List X) (a : ℕ) → a < length xs → slice_get (xs ++ ys) a ≡ slice_get xs a
got_within [] ys a lt = absurd (omega (arith, lt))
got_within (x ∷ xs) ys zero lt = refl
got_within (x ∷ xs) ys (suc a) lt = got_within xs ys a (omega (arith, lt))

-- ---- places and links stay

none_cited : (at : ℕ) (e : List ℕ) (ys : List GraphMember) → list_any (is_cited e) ys ≡ false
    → places_from at e ys ≡ []
none_cited at e [] h = refl
none_cited at e (y ∷ ys) h =
    let two = or_false (is_cited e y) (list_any (is_cited e) ys) h in
    ap (λ b. if b then at ∷ places_from (at + 1) e ys else places_from (at + 1) e ys) two.0
    ∙ none_cited (at + 1) e ys two.1

places_from_stay : (arrivals : List GraphMember) (at : ℕ) (e : List ℕ) (xs : List GraphMember)
    → list_any (is_cited e) arrivals ≡ false → places_from at e (xs ++ arrivals) ≡ places_from at e xs
places_from_stay arrivals at e [] h = none_cited at e arrivals h
places_from_stay arrivals at e (x ∷ xs) h =
    ap (λ (l : List ℕ). if is_cited e x then at ∷ l else l) (places_from_stay arrivals (at + 1) e xs h)

places_stay : (ms arrivals : List GraphMember) (e : List ℕ) → list_any (is_cited e) arrivals ≡ false
    → places (ms ++ arrivals) e ≡ places ms e
unfolding places
places_stay ms arrivals e h = places_from_stay arrivals 0 e ms h

cited_stay : (ms arrivals : List GraphMember) (es : List (List ℕ))
    → list_any (λ e. list_any (is_cited e) arrivals) es ≡ false
    → map (places (ms ++ arrivals)) es ≡ map (places ms) es
cited_stay ms arrivals [] h = refl
cited_stay ms arrivals (e ∷ es) h =
    let two = or_false (list_any (is_cited e) arrivals) (list_any (λ q. list_any (is_cited q) arrivals) es) h in
    λ i. places_stay ms arrivals e two.0 i ∷ cited_stay ms arrivals es two.1 i

groups_stay : (ms arrivals : List GraphMember) (ds : List Dependency) → list_any (names arrivals) ds ≡ false
    → map (link_of (ms ++ arrivals)) ds ≡ map (link_of ms) ds
groups_stay ms arrivals [] h = refl
groups_stay ms arrivals (d ∷ ds) h =
    let two = or_false (names arrivals d) (list_any (names arrivals) ds) h in
    λ i. record {
      grouping = d.grouping;
      restart_on = d.restart_on;
      cited = cited_stay ms arrivals d.entities two.0 i;
    } ∷ groups_stay ms arrivals ds two.1 i

-- an instance that names none of those that came
pub links_stay : (ms arrivals : List GraphMember) (o : Option (List Dependency))
    → option_map_or (list_any (names arrivals)) o false ≡ false → links_of (ms ++ arrivals) o ≡ links_of ms o
links_stay ms arrivals None h = refl
links_stay ms arrivals (Some ds) h = groups_stay ms arrivals ds h

node_stays : (ms arrivals : List GraphMember) (x : GraphMember) → is_naming arrivals x ≡ false
    → node_of (ms ++ arrivals) x ≡ node_of ms x
node_stays ms arrivals x h = λ i. record { flags = flags_of x; links = links_stay ms arrivals x.dependencies h i }

-- ---- instances that have the links that they are to have

pub below : (a count : ℕ) → not (nat_lt a count) ≡ false → a < count
below a count e = grind (arith, nat_tests)

pub after_first : (all before arrivals : List GraphMember) (count : ℕ) → all ≡ before ++ arrivals → count ≡ length before
    → drop count all ≡ arrivals
after_first all before arrivals count is size = (λ i. drop (size i) (is i)) ∙ drop-append_seam before arrivals

-- of the first ones, those that name none that came
pub known_joined : (all : List GraphMember) (count : ℕ) (ns : List GraphNode) → AreJoined all count ns
    → AreKnown all (drop count all) count ns
known_joined all count ns h a x at off =
    let came : drop count all ≡ h.arrivals = after_first all h.before h.arrivals count h.members h.size in
    let two = or_false (not (nat_lt a count)) (is_naming (drop count all) x) off in
    let first : a < count = below a count two.0 in
    let size = h.size in
    let less : a < length h.before = omega (arith, first, size) in
    let unnamed : is_naming h.arrivals x ≡ false = ap (λ l. is_naming l x) (sym came) ∙ two.1 in
    let there : slice_get h.before a ≡ Some x =
    sym (got_within h.before h.arrivals a less) ∙ ap (λ l. slice_get l a) (sym h.members) ∙ at in
    let within : a < length (nodes_of h.before) =
    let same = length-map h.before (node_of h.before) in omega (arith, same, less) in
    ap (λ l. slice_get l a) h.nodes ∙ got_within (nodes_of h.before) (map blank_of h.arrivals) a within
    ∙ node_got h.before h.before a x there
    ∙ ap Some (sym (node_stays h.before h.arrivals x unnamed) ∙ ap (λ l. node_of l x) (sym h.members))

-- a member that depends on what a known one does
pub links_known : (all arrivals : List GraphMember) (count : ℕ) (ns : List GraphNode) (p : PlacedMember)
    (n copy : GraphNode) → AreKnown all arrivals count ns → IsKnownAt all arrivals count p
    → slice_get ns p.place ≡ Some n → copy ≡ n → copy.links ≡ links_of all p.member.dependencies
links_known all arrivals count ns p n copy known h at same =
    let there = known p.place h.before h.at h.known in
    ap (λ (k : GraphNode). k.links) (same ∙ same_node n (node_of all h.before) (sym at ∙ there))
    ∙ ap (links_of all) h.alike
  where
    same_node : (k l : GraphNode) → Some k ≡ Some l → k ≡ l
    same_node k l e = cc

-- ---- those that came and those that name them get their links

set_at_seam : (done rest : List GraphNode) (n k : GraphNode)
    → slice_set (done ++ n ∷ rest) (length done) k ≡ (done ++ k ∷ []) ++ rest
set_at_seam [] rest n k = refl
set_at_seam (d ∷ done) rest n k = ap (λ l. d ∷ l) (set_at_seam done rest n k)

one_more : (done rest : List GraphNode) (n : GraphNode) → done ++ n ∷ rest ≡ (done ++ n ∷ []) ++ rest
one_more [] rest n = refl
one_more (d ∷ done) rest n = ap (λ l. d ∷ l) (one_more done rest n)

last_length : (done : List GraphNode) (n : GraphNode) → length done + 1 ≡ length (done ++ n ∷ [])
last_length done n = sym (length-append done (n ∷ []))

-- each of these instances, whose places are counted from at, has its node unless it is due
abbrev AreKnownFrom : List GraphMember → List GraphMember → ℕ → ℕ → List GraphMember → List GraphNode → Type 0
AreKnownFrom all arrivals count at [] [] = Unit
AreKnownFrom all arrivals count at [] (n ∷ ns) = ⊥
AreKnownFrom all arrivals count at (x ∷ xs) [] = ⊥
AreKnownFrom all arrivals count at (x ∷ xs) (n ∷ ns) =
    (is_due arrivals count at x ≡ false → n ≡ node_of all x) × AreKnownFrom all arrivals count (at + 1) xs ns

known_from : (all arrivals : List GraphMember) (count at : ℕ) (xs : List GraphMember) (ns : List GraphNode)
    → length ns ≡ length xs
    → ((j : ℕ) (x : GraphMember) → slice_get xs j ≡ Some x → is_due arrivals count (at + j) x ≡ false
    → slice_get ns j ≡ Some (node_of all x))
    → AreKnownFrom all arrivals count at xs ns
known_from all arrivals count at [] [] size h = tt
known_from all arrivals count at [] (n ∷ ns) size h = absurd (omega (arith, size))
known_from all arrivals count at (x ∷ xs) [] size h = absurd (omega (arith, size))
known_from all arrivals count at (x ∷ xs) (n ∷ ns) size h =
    let same : length ns ≡ length xs = omega (arith, size) in (
      (λ off. same_node n (node_of all x) (h 0 x refl (ap (λ p. is_due arrivals count p x) (no_more at) ∙ off))),
      known_from all arrivals count (at + 1) xs ns same
          (λ j y e off. h (suc j) y e (ap (λ p. is_due arrivals count p y) (one_later at j) ∙ off)),
    )
  where
    no_more : (p : ℕ) → p + 0 ≡ p
    no_more p = omega arith

    one_later : (p j : ℕ) → p + suc j ≡ p + 1 + j
    one_later p j = omega arith

    same_node : (k l : GraphNode) → Some k ≡ Some l → k ≡ l
    same_node k l e = cc

linked_from : (all arrivals : List GraphMember) (count : ℕ) (done : List GraphNode) (xs : List GraphMember)
    (ns : List GraphNode) → AreKnownFrom all arrivals count (length done) xs ns
    → with_relinks (done ++ ns) (relinks_from all arrivals count (length done) xs) ≡ done ++ map (node_of all) xs
linked_from all arrivals count done [] [] h = refl
linked_from all arrivals count done [] (n ∷ ns) h = absurd h
linked_from all arrivals count done (x ∷ xs) [] h = absurd h
linked_from all arrivals count done (x ∷ xs) (n ∷ ns) h =
    let P : ℕ → Type 0 = λ p. AreKnownFrom all arrivals count p xs ns in
    by (is_due arrivals count (length done) x) h.0
    (linked_from all arrivals count (done ++ node_of all x ∷ []) xs ns
    (subst P (last_length done (node_of all x)) h.1))
    ∙ sym (one_more done (map (node_of all) xs) (node_of all x))
  where
    by : (b : Bool) → (b ≡ false → n ≡ node_of all x)
        → with_relinks ((done ++ node_of all x ∷ []) ++ ns)
        (relinks_from all arrivals count (length (done ++ node_of all x ∷ [])) xs)
        ≡ (done ++ node_of all x ∷ []) ++ map (node_of all) xs
        → with_relinks (done ++ n ∷ ns)
        (if b then record { place = length done; node = node_of all x }
        ∷ relinks_from all arrivals count (length done + 1) xs
        else relinks_from all arrivals count (length done + 1) xs)
        ≡ (done ++ node_of all x ∷ []) ++ map (node_of all) xs
    by true k rest =
        (λ i. with_relinks (set_at_seam done ns n (node_of all x) i)
        (relinks_from all arrivals count (last_length done (node_of all x) i) xs))
        ∙ rest
    by false k rest =
        (λ i. with_relinks ((ap (λ (y : GraphNode). done ++ y ∷ ns) (k refl) ∙ one_more done ns (node_of all x)) i)
        (relinks_from all arrivals count (last_length done (node_of all x) i) xs))
        ∙ rest

pub linked_all : (all arrivals : List GraphMember) (count : ℕ) (ns : List GraphNode) → length ns ≡ length all
    → AreKnown all arrivals count ns → with_relinks ns (relinks_from all arrivals count 0 all) ≡ nodes_of all
linked_all all arrivals count ns size known =
    linked_from all arrivals count [] all ns
    (known_from all arrivals count 0 all ns size
    (λ j x e off. known j x e (ap (λ p. is_due arrivals count p x) (zero_more j) ∙ off)))
  where
    zero_more : (n : ℕ) → n ≡ 0 + n
    zero_more n = omega arith

within_all : (all arrivals : List GraphMember) (count most at : ℕ) (xs : List GraphMember) → at + length xs ≤ most
    → AreWithin most (relinks_from all arrivals count at xs)
within_all all arrivals count most at [] le = tt
within_all all arrivals count most at (x ∷ xs) le =
    let less : at + 1 + length xs ≤ most = omega arith in
    let here : at < most = omega arith in
    by (is_due arrivals count at x) (within_all all arrivals count most (at + 1) xs less) here
  where
    by : (b : Bool) → AreWithin most (relinks_from all arrivals count (at + 1) xs) → at < most
        → AreWithin most
        (if b then record { place = at; node = node_of all x } ∷ relinks_from all arrivals count (at + 1) xs
        else relinks_from all arrivals count (at + 1) xs)
    by true rest here = (here, rest)
    by false rest here = rest

-- an instance that is apart from all of them is not due
pub not_due : (all arrivals : List GraphMember) (count at j : ℕ) (xs : List GraphMember) (x : GraphMember)
    (ls : List Link) → slice_get xs j ≡ Some x → AreApart (at + j) ls (relinks_from all arrivals count at xs)
    → is_due arrivals count (at + j) x ≡ false
not_due all arrivals count at j [] x ls e h = absurd cc
not_due all arrivals count at zero (y ∷ xs) x ls e h =
    ap (λ p. is_due arrivals count p x) (no_more at) ∙ ap (is_due arrivals count at) (sym (same_some y x e))
    ∙ by (is_due arrivals count at y) h
  where
    no_more : (p : ℕ) → p + zero ≡ p
    no_more p = omega arith

    by : (b : Bool) → AreApart (at + zero) ls
        (if b then record { place = at; node = node_of all y } ∷ relinks_from all arrivals count (at + 1) xs
        else relinks_from all arrivals count (at + 1) xs) → b ≡ false
    by true k = absurd (k.0 (omega arith))
    by false k = refl
not_due all arrivals count at (suc j) (y ∷ xs) x ls e h =
    let same : at + suc j ≡ at + 1 + j = omega arith in
    let P : ℕ → Type 0 = λ p. AreApart p ls (relinks_from all arrivals count (at + 1) xs) in
    ap (λ p. is_due arrivals count p x) same
    ∙ not_due all arrivals count (at + 1) j xs x ls e (subst P same (by (is_due arrivals count at y) h))
  where
    by : (b : Bool) → AreApart (at + suc j) ls
        (if b then record { place = at; node = node_of all y } ∷ relinks_from all arrivals count (at + 1) xs
        else relinks_from all arrivals count (at + 1) xs)
        → AreApart (at + suc j) ls (relinks_from all arrivals count (at + 1) xs)
    by true k = k.2
    by false k = k

-- ---- and then members in the places of others

relinks_then : (ns : List GraphNode) (rs qs : List Relink)
    → with_relinks ns (rs ++ qs) ≡ with_relinks (with_relinks ns rs) qs
relinks_then ns [] qs = refl
relinks_then ns (r ∷ rs) qs = relinks_then (slice_set ns r.place r.node) rs qs

within_both : (count : ℕ) (rs qs : List Relink) → AreWithin count rs → AreWithin count qs → AreWithin count (rs ++ qs)
within_both count [] qs f g = g
within_both count (r ∷ rs) qs f g = (f.0, within_both count rs qs f.1 g)

size_joined : (all : List GraphMember) (count : ℕ) (ns : List GraphNode) → AreJoined all count ns
    → length ns ≡ length all
size_joined all count ns h =
    let a = ap length h.members in let b = length-append h.before h.arrivals in
    let c = ap length h.nodes in let d = length-append (nodes_of h.before) (map blank_of h.arrivals) in
    let e = length-map h.before (node_of h.before) in let f = length-map h.arrivals blank_of in
    omega (arith, a, b, c, d, e, f)

-- the first ones are some of them
pub first_within : (all : List GraphMember) (count : ℕ) (ns : List GraphNode) → AreJoined all count ns
    → count ≤ length all
first_within all count ns h =
    let a = ap length h.members in let b = length-append h.before h.arrivals in let c = h.size in omega arith

-- the part of a slice after the first ones
pub after_part : (all : List GraphMember) (count : ℕ) → take (length all - count) (drop count all) ≡ drop count all
after_part all count =
    let size = length-drop count all in take_all (length all - count) (drop count all) (omega (arith, size))

pub nodes_linked : (ps : List PlacedMember) (all : List GraphMember) (count : ℕ) (ns ns' : List GraphNode)
    (rs : List Relink) → AreJoined all count ns → AreNamed ps all → rs ≡ all_relinks all count ps
    → ns' ≡ with_relinks ns rs → ns' ≡ nodes_of (with_placed ps all)
nodes_linked ps all count ns ns' rs h named e set =
    set ∙ ap (with_relinks ns) e
    ∙ relinks_then ns (relinks_from all (drop count all) count 0 all) (map (relink_of all) ps)
    ∙ ap (λ l. with_relinks l (map (relink_of all) ps))
    (linked_all all (drop count all) count ns (size_joined all count ns h) (known_joined all count ns h))
    ∙ nodes_of_all ps all named

pub within_linked : (ps : List PlacedMember) (all : List GraphMember) (count : ℕ) (ns : List GraphNode)
    (rs : List Relink) → AreJoined all count ns → AreNamed ps all → rs ≡ all_relinks all count ps
    → AreWithin (length ns) rs
within_linked ps all count ns rs h named e =
    let size = size_joined all count ns h in
    let P : List Relink → Type 0 = AreWithin (length ns) in
    subst P (sym e)
    (within_both (length ns) (relinks_from all (drop count all) count 0 all) (map (relink_of all) ps)
    (within_all all (drop count all) count (length ns) 0 all (omega (arith, size)))
    (within_count all all ps (length ns) size named))
