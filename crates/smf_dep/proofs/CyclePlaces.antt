-- Places on cycles are the places of instances that depend on themselves.
use Rattle.std.proofs.Common.{◌≡◌, ◌<◌, ◌==◌, ◌↔◌, ℕ, zero, suc, ◌+◌, List, [], ◌∷◌, ◌++◌, map, length, Bool, true, false, not, ◌||◌, ◌&&◌, if◌then◌else◌, Option, Some, None, refl, sym, ap, ◌∙◌, subst, inl, inr, arith}
use Rattle.std.specs.Prelude.{unwrap_or, slice_get, option_map, IsTrue}
use Rattle.std.specs.List.{list_any}
use Rattle.std.specs.Option.{option_map_or}
use Rattle.std.proofs.lemmas.Bool.Decides.{nat_tests}
use Rattle.std.proofs.lemmas.List.Folds.{list_any-append}
use Rattle.std.proofs.lemmas.Option.{slice_get_within}
use Rattle.std.proofs.lemmas.List.{length-map}
use Rattle.smf_cycles.specs.Paths as places
use Rattle.smf_links.specs.declared.link.Link.{Link}
use Rattle.smf_links.specs.declared.link.GraphNode.{GraphNode}
use Rattle.smf_dep.specs.declared.dependency.Dependency.{Dependency}
use Rattle.smf_dep.specs.declared.member.GraphMember.{GraphMember}
use Rattle.smf_dep.specs.Cycles.{IsAmong, IsPath, asked_for, asks_for, cites, excludes, on_cycle}
use Rattle.smf_dep.specs.Places.{AreCycles, AreCyclesOf, edges_in, edges_of, flag_at, places_in_lists, link_of, links_of, node_of, nodes_of, places, places_from}
use Rattle.smf_dep.specs.Verdicts.{is_cited}
use Rattle.smf_dep.proofs.Looked.{any_mapped}
use Rattle.smf_dep.proofs.LawCycles.{found, listed}

-- ---- places of the instances that an entity stands for

is_at : ℕ → ℕ → Bool
is_at b q = q == b

differs : (m n : ℕ) → (m ≡ n → ⊥) → (m == n) ≡ false
differs m n d = grind (arith, nat_tests)

same : (n : ℕ) → (n == n) ≡ true
same n = grind (arith, nat_tests)

-- places are counted from at
below : (e : List ℕ) (ms : List GraphMember) (at b : ℕ) → b < at → list_any (λ q. q == b) (places_from at e ms) ≡ false
below e [] at b lt = refl
below e (m ∷ ms) at b lt = by (is_cited e m) (below e ms (at + 1) b (omega arith)) (differs at b (λ h. omega arith))
  where
    by : (c : Bool) → list_any (λ q. q == b) (places_from (at + 1) e ms) ≡ false → (at == b) ≡ false
        → list_any (λ q. q == b) (if c then at ∷ places_from (at + 1) e ms else places_from (at + 1) e ms) ≡ false
    by true rest here = λ i. here i || rest i
    by false rest here = rest

at_place : (e : List ℕ) (ms : List GraphMember) (at j : ℕ) (m : GraphMember) → slice_get ms j ≡ Some m
    → list_any (λ q. q == at + j) (places_from at e ms) ≡ is_cited e m
at_place e [] at j m h = absurd cc
at_place e (x ∷ ms) at zero m h =
    by (is_cited e x) (is_cited e m) (cited_same h) (below e ms (at + 1) (at + 0) (omega arith))
    (grind (arith, nat_tests))
  where
    cited_same : Some x ≡ Some m → is_cited e x ≡ is_cited e m
    cited_same k = ap (λ o. option_map_or (is_cited e) o false) k

    by : (c d : Bool) → c ≡ d → list_any (λ q. q == at + 0) (places_from (at + 1) e ms) ≡ false → (at == at + 0) ≡ true
        → list_any (λ q. q == at + 0) (if c then at ∷ places_from (at + 1) e ms else places_from (at + 1) e ms) ≡ d
    by true d k rest here = (λ i. here i || rest i) ∙ k
    by false d k rest here = rest ∙ k
at_place e (x ∷ ms) at (suc j) m h =
    by (is_cited e x) (moved (at_place e ms (at + 1) j m h)) (differs at (at + suc j) (λ k. omega arith))
  where
    moved : list_any (λ q. q == at + 1 + j) (places_from (at + 1) e ms) ≡ is_cited e m
        → list_any (λ q. q == at + suc j) (places_from (at + 1) e ms) ≡ is_cited e m
    moved k = let n : at + 1 + j ≡ at + suc j = omega arith in
        subst (λ b. list_any (λ q. q == b) (places_from (at + 1) e ms) ≡ is_cited e m) n k

    by : (c : Bool) → list_any (λ q. q == at + suc j) (places_from (at + 1) e ms) ≡ is_cited e m
        → (at == at + suc j) ≡ false
        → list_any (λ q. q == at + suc j) (if c then at ∷ places_from (at + 1) e ms else places_from (at + 1) e ms)
        ≡ is_cited e m
    by true rest here = λ i. here i || rest i
    by false rest here = rest

zero_plus : (b : ℕ) → 0 + b ≡ b
zero_plus b = omega arith

at_first : (e : List ℕ) (ms : List GraphMember) (b : ℕ) (m : GraphMember) → slice_get ms b ≡ Some m
    → list_any (λ q. q == b) (places_from 0 e ms) ≡ is_cited e m
at_first e ms b m h =
    subst (λ j. list_any (λ q. q == j) (places_from 0 e ms) ≡ is_cited e m) (zero_plus b) (at_place e ms 0 b m h)

past : (e : List ℕ) (ms : List GraphMember) (at j : ℕ) → slice_get ms j ≡ None
    → list_any (λ q. q == at + j) (places_from at e ms) ≡ false
past e [] at j h = refl
past e (x ∷ ms) at zero h = absurd cc
past e (x ∷ ms) at (suc j) h =
    by (is_cited e x) (moved (past e ms (at + 1) j h)) (differs at (at + suc j) (λ k. omega arith))
  where
    moved : list_any (λ q. q == at + 1 + j) (places_from (at + 1) e ms) ≡ false
        → list_any (λ q. q == at + suc j) (places_from (at + 1) e ms) ≡ false
    moved k = let n : at + 1 + j ≡ at + suc j = omega arith in
        subst (λ b. list_any (λ q. q == b) (places_from (at + 1) e ms) ≡ false) n k

    by : (c : Bool) → list_any (λ q. q == at + suc j) (places_from (at + 1) e ms) ≡ false → (at == at + suc j) ≡ false
        → list_any (λ q. q == at + suc j) (if c then at ∷ places_from (at + 1) e ms else places_from (at + 1) e ms)
        ≡ false
    by true rest here = λ i. here i || rest i
    by false rest here = rest

past_all : (e : List ℕ) (ms : List GraphMember) (b : ℕ) → slice_get ms b ≡ None
    → list_any (λ q. q == b) (places_from 0 e ms) ≡ false
past_all e ms b h = subst (λ j. list_any (λ q. q == j) (places_from 0 e ms) ≡ false) (zero_plus b) (past e ms 0 b h)

-- ---- edges

any_joined : (p : ℕ → Bool) (pss : List (List ℕ)) → list_any p (places_in_lists pss) ≡ list_any (list_any p) pss
any_joined p [] = refl
any_joined p (ps ∷ pss) = list_any-append p ps (places_in_lists pss) ∙ ap (λ b. list_any p ps || b) (any_joined p pss)

-- a group asks for the instance at a place exactly if that place is among the group's edges
asked_at : (ms : List GraphMember) (b : ℕ) (m : GraphMember) → slice_get ms b ≡ Some m → (d : Dependency)
    → list_any (list_any (λ q. q == b)) (map (places ms) d.entities) ≡ list_any (λ e. is_cited e m) d.entities
unfolding places
asked_at ms b m h d =
    any_mapped (list_any (λ q. q == b)) (places ms) (λ e. is_cited e m) (λ e. at_first e ms b m h) d.entities

unasked_at : (ms : List GraphMember) (b : ℕ) → slice_get ms b ≡ None → (es : List (List ℕ))
    → list_any (list_any (λ q. q == b)) (map (places ms) es) ≡ false
unfolding places
unasked_at ms b h [] = refl
unasked_at ms b h (e ∷ es) = λ i. past_all e ms b h i || unasked_at ms b h es i

edges_by : (p : ℕ → Bool) (x : Bool) (l : Link) (ls : List Link)
    → list_any p (if x then edges_in ls else places_in_lists l.cited ++ edges_in ls)
    ≡ ((not x && list_any (list_any p) l.cited) || list_any p (edges_in ls))
edges_by p true l ls = refl
edges_by p false l ls = list_any-append p (places_in_lists l.cited) (edges_in ls)
    ∙ ap (λ b. b || list_any p (edges_in ls)) (any_joined p l.cited)

cited_in : (ms : List GraphMember) (b : ℕ) (m : GraphMember) → slice_get ms b ≡ Some m → (ds : List Dependency)
    → list_any (λ q. q == b) (edges_in (map (link_of ms) ds)) ≡ list_any (asks_for m) ds
cited_in ms b m h [] = refl
cited_in ms b m h (d ∷ ds) =
    edges_by (λ q. q == b) (excludes d.grouping) (link_of ms d) (map (link_of ms) ds)
    ∙ (λ i. (not (excludes d.grouping) && asked_at ms b m h d i) || cited_in ms b m h ds i)

and_false : (b : Bool) → (b && false) ≡ false
and_false true = refl
and_false false = refl

uncited_in : (ms : List GraphMember) (b : ℕ) → slice_get ms b ≡ None → (ds : List Dependency)
    → list_any (λ q. q == b) (edges_in (map (link_of ms) ds)) ≡ false
uncited_in ms b h [] = refl
uncited_in ms b h (d ∷ ds) =
    edges_by (λ q. q == b) (excludes d.grouping) (link_of ms d) (map (link_of ms) ds)
    ∙ (λ i. (not (excludes d.grouping) && unasked_at ms b h d.entities i) || uncited_in ms b h ds i)
    ∙ ap (λ c. c || false) (and_false (not (excludes d.grouping)))

cites_in : (ms : List GraphMember) (b : ℕ) (m : GraphMember) → slice_get ms b ≡ Some m → (ds : Option (List Dependency))
    → list_any (λ q. q == b) (edges_in (links_of ms ds)) ≡ asked_for ds m
cites_in ms b m h None = refl
cites_in ms b m h (Some ds) = cited_in ms b m h ds

pub cites_none : (ms : List GraphMember) (b : ℕ) → slice_get ms b ≡ None → (ds : Option (List Dependency))
    → list_any (λ q. q == b) (edges_in (links_of ms ds)) ≡ false
cites_none ms b h None = refl
cites_none ms b h (Some ds) = uncited_in ms b h ds

-- ---- edges between places are those between the instances there

abbrev pub edges : List GraphMember → List (List ℕ)
edges ms = edges_of (nodes_of ms)

found_at : (ms all : List GraphMember) (a : ℕ) (m : GraphMember) → slice_get ms a ≡ Some m
    → slice_get (map (λ (n : GraphNode). edges_in n.links) (map (node_of all) ms)) a
    ≡ Some (edges_in (links_of all m.dependencies))
found_at [] all a m h = absurd cc
found_at (x ∷ ms) all zero m h = ap (option_map (λ (y : GraphMember). edges_in (links_of all y.dependencies))) h
found_at (x ∷ ms) all (suc a) m h = found_at ms all a m h

pub edge_is : (ms : List GraphMember) (a b : ℕ) (m n : GraphMember) → slice_get ms a ≡ Some m
    → slice_get ms b ≡ Some n → places.cites (edges ms) a b ≡ cites m n
unfolding places.edges_at places.is_among
edge_is ms a b m n h k = ap (λ o. list_any (λ q. q == b) (unwrap_or o [])) (found_at ms ms a m h)
    ∙ cites_in ms b n k m.dependencies

no_edge : (ms : List GraphMember) (a b : ℕ) (m : GraphMember) → slice_get ms a ≡ Some m → slice_get ms b ≡ None
    → places.cites (edges ms) a b ≡ false
unfolding places.edges_at places.is_among
no_edge ms a b m h k = ap (λ o. list_any (λ q. q == b) (unwrap_or o [])) (found_at ms ms a m h)
    ∙ cites_none ms b k m.dependencies

-- ---- paths

among : (ms : List GraphMember) (a : ℕ) (m : GraphMember) → slice_get ms a ≡ Some m → IsAmong m ms
among [] a m h = absurd cc
among (x ∷ ms) zero m h = inl cc
among (x ∷ ms) (suc a) m h = inr (among ms a m h)

place_of : (ms : List GraphMember) (m : GraphMember) → IsAmong m ms → (a : ℕ) × (slice_get ms a ≡ Some m)
place_of [] m h = absurd h
place_of (x ∷ ms) m (inl e) = (zero, ap (λ y. Some y) e)
place_of (x ∷ ms) m (inr h) = let p = place_of ms m h in (suc p.0, p.1)

contrary : (b : Bool) → b ≡ true → b ≡ false → ⊥
contrary b e f = cc

step : (ms : List GraphMember) (path : List ℕ) (a b c : ℕ) (m n : GraphMember) (o : Option GraphMember)
    → slice_get ms c ≡ o → slice_get ms a ≡ Some m
    → places.cites (edges ms) a c ≡ true
    → ((x : GraphMember) → slice_get ms c ≡ Some x → (between : List GraphMember) × IsPath ms x between n)
    → (between : List GraphMember) × IsPath ms m between n
step ms path a b c m n None g h e rest = absurd (contrary (places.cites (edges ms) a c) e (no_edge ms a c m h g))
step ms path a b c m n (Some x) g h e rest =
    let p = rest x g in
    (x ∷ p.0, (among ms c x g, sym (edge_is ms a c m x h g) ∙ e, p.1))

to_instances : (ms : List GraphMember) (path : List ℕ) (a b : ℕ) (m n : GraphMember) → slice_get ms a ≡ Some m
    → slice_get ms b ≡ Some n
    → places.IsPath (edges ms) a path b → (between : List GraphMember) × IsPath ms m between n
to_instances ms [] a b m n h k e = ([], sym (edge_is ms a b m n h k) ∙ e)
to_instances ms (c ∷ path) a b m n h k e =
    step ms path a b c m n (slice_get ms c) refl h e.0 (λ x g. to_instances ms path c b x n g k e.1)

to_places : (ms between : List GraphMember) (a b : ℕ) (m n : GraphMember) → slice_get ms a ≡ Some m
    → slice_get ms b ≡ Some n
    → IsPath ms m between n → (path : List ℕ) × places.IsPath (edges ms) a path b
to_places ms [] a b m n h k e = ([], edge_is ms a b m n h k ∙ e)
to_places ms (x ∷ between) a b m n h k e =
    let c = place_of ms x e.0 in
    let p = to_places ms between c.0 b x n c.1 k e.2 in
    (c.0 ∷ p.0, (edge_is ms a c.0 m x h c.1 ∙ e.1, p.1))

-- ---- the test

agree : (b c : Bool) → (b ≡ true → c ≡ true) → (c ≡ true → b ≡ true) → b ≡ c
agree true c f g = sym (f refl)
agree false true f g = g refl
agree false false f g = refl

edges_length : (ms : List GraphMember) → length (edges ms) ≡ length ms
edges_length ms = length-map (nodes_of ms) (λ (n : GraphNode). edges_in n.links) ∙ length-map ms (node_of ms)

-- a flag that says whether a place is on a cycle says whether the instance there depends on itself
pub cycle_flag : (ms : List GraphMember) (a : ℕ) (m : GraphMember) (flag : Bool) → slice_get ms a ≡ Some m
    → IsTrue flag ↔ places.IsOnCycle (edges ms) a → flag ≡ on_cycle ms m
cycle_flag ms a m flag h exact =
    agree flag (on_cycle ms m)
    (λ e. let p = exact.0 e in let q = to_instances ms p.0 a a m m h h p.1 in found ms m q.0 q.1)
    (λ e. let p = listed ms m e in let q = to_places ms p.0 a a m m h h p.1 in exact.1 q)

pub flags_are : (ms : List GraphMember) (es : List (List ℕ)) (flags : List Bool) → es ≡ edges ms
    → ((a : ℕ) → a < length es → IsTrue (places.flag_at flags a) ↔ places.IsOnCycle es a) → AreCycles ms flags
unfolding places.flag_at
flags_are ms es flags e exact =
    record {
      flag = λ a m h.
          cycle_flag ms a m (flag_at flags a) h
          (subst (λ x. IsTrue (flag_at flags a) ↔ places.IsOnCycle x a) e
          (exact a (subst (λ x. a < length x) (sym e)
          (subst (λ n. a < n) (sym (edges_length ms)) (slice_get_within ms a m h)))));
    }

-- the same of edges whose flags are known
pub cycles_by : (ms : List GraphMember) (es : List (List ℕ)) (flags : List Bool) → es ≡ edges_of (nodes_of ms)
    → AreCyclesOf es flags → AreCycles ms flags
cycles_by ms es flags e h = flags_are ms es flags e h.exact
