-- Findings that stay if instances depend on other things.
use Rattle.std.proofs.Common.{◌≡◌, ℕ, zero, suc, ◌<◌, List, [], ◌∷◌, ◌++◌, map, length, get_or, Bool, Some, refl, sym, ap, ◌∙◌, subst, inl, inr, arith}
use Rattle.std.specs.Prelude.{slice_get, slice_set}
use Rattle.std.specs.List.{list_any}
use Rattle.std.proofs.Math.Path.{fun_ext}
use Rattle.std.proofs.lemmas.Bool.{cases_eq}
use Rattle.std.proofs.lemmas.List.{length-set}
use Rattle.std.proofs.lemmas.Option.{get_or_from_slice_get, slice_get_within}
use Rattle.smf_fmri.specs.ByKey.{Rises, StandsAt}
use Rattle.smf_fmri.proofs.KeyOrder.{rises_put}
use Rattle.smf_cycles.specs.declared.change.PlacedEdges.{PlacedEdges}
use Rattle.smf_cycles.specs.Turns.{with_edges}
use Rattle.smf_links.specs.declared.link.GraphNode.{GraphNode}
use Rattle.smf_links.specs.declared.link.Link.{Link}
use Rattle.smf_links.specs.Blockage.{IsOut}
use Rattle.smf_links.specs.declared.link.Relink.{Relink}
use Rattle.smf_links.specs.Relinks.{AreApart, AreWithin, ReachesAll, with_relinks}
use Rattle.smf_state.specs.declared.view.ViewItem.{ViewItem}
use Rattle.smf_dep.specs.declared.member.GraphMember.{GraphMember}
use Rattle.smf_dep.specs.Members.{by_member, member_of}
use Rattle.smf_dep.specs.Names.{instance_name}
use Rattle.smf_dep.specs.Places.{AreInside, LeavesOthers, edges_by, edges_in, edges_of, flag_at, flags_of, link_stops, node_of, nodes_of}
use Rattle.smf_dep.specs.Updates.{AreNamed, IsNamedAt, number, relink_of, with_placed}
use Rattle.smf_dep.specs.declared.relink.PlacedMember.{PlacedMember}
use Rattle.smf_dep.proofs.Alike.{links_by, places_named}
use Rattle.smf_dep.proofs.ByNumber.{stood}
use Rattle.smf_dep.proofs.OfItems.{same_number}
use Rattle.smf_dep.proofs.Updates.{map_set, same_some, set_at_key, set_here, set_other, stops_stay}

-- ---- one item in the place of another

pub map_changed : {X Y : Type 0} (f : X → Y) (xs : List X) (p : ℕ) (x : X)
    → map f (slice_set xs p x) ≡ slice_set (map f xs) p (f x)
map_changed f [] p x = refl
map_changed f (y ∷ xs) zero x = refl
map_changed f (y ∷ xs) (suc p) x = ap (λ l. f y ∷ l) (map_changed f xs p x)

node_by : (ms ks : List GraphMember) → map instance_name ms ≡ map instance_name ks → node_of ms ≡ node_of ks
node_by ms ks h =
    fun_ext (λ (m : GraphMember). ap (λ l. record { flags = flags_of m; links = l })
    (links_by ms ks (places_named ms ks h) m.dependencies))

names_stay : (x : GraphMember) (ms ms' : List GraphMember) (p : ℕ) → IsNamedAt x ms p → ms' ≡ slice_set ms p x
    → map instance_name ms' ≡ map instance_name ms
names_stay x ms ms' p h is = ap (map instance_name) is ∙ map_set instance_name ms p h.before x h.at h.named

-- an instance with what it depends on, in its place among all
pub nodes_relinked : (x : GraphMember) (ms ms' : List GraphMember) (ns ns' : List GraphNode) (p : ℕ)
    → IsNamedAt x ms p → ms' ≡ slice_set ms p x → ns ≡ nodes_of ms → ns' ≡ slice_set ns p (node_of ms x)
    → ns' ≡ nodes_of ms'
nodes_relinked x ms ms' ns ns' p h is linked set =
    set ∙ ap (λ l. slice_set l p (node_of ms x)) linked ∙ sym (map_changed (node_of ms) ms p x)
    ∙ ap (map (node_of ms)) (sym is)
    ∙ ap (λ (f : GraphMember → GraphNode). map f ms') (sym (node_by ms' ms (names_stay x ms ms' p h is)))

pub edges_set : (ns : List GraphNode) (p : ℕ) (n : GraphNode) (links : List Link) → n.links ≡ links
    → slice_set (edges_of ns) p (edges_in links) ≡ edges_of (slice_set ns p n)
edges_set ns p n links e =
    ap (slice_set (edges_of ns) p) (ap edges_in (sym e)) ∙ sym (map_changed (λ (n : GraphNode). edges_in n.links) ns p n)

pub rises_still : (x : GraphMember) (ms ms' : List GraphMember) (p : ℕ) → Rises by_member ms → IsNamedAt x ms p
    → ms' ≡ slice_set ms p x → Rises by_member ms'
rises_still x ms ms' p r h is =
    let P : List GraphMember → Type 0 = Rises by_member in
    subst P (sym (is ∙ set_at_key x ms p h.before r h.at h.numbered)) (rises_put by_member x ms r)

-- ---- several, one after another

named_stays : (x y : GraphMember) (ms : List GraphMember) (p q : ℕ) → IsNamedAt x ms p → IsNamedAt y ms q
    → IsNamedAt y (slice_set ms p x) q
named_stays x y ms p q h g =
    elim (cases_eq p q) [
      | inl e ↦
          let same : g.before ≡ h.before = same_some _ _ (sym g.at ∙ ap (slice_get ms) (sym e) ∙ h.at) in
          let P : ℕ → Type 0 = λ n. slice_get (slice_set ms p x) n ≡ Some x in
          record {
            before = x;
            at = subst P e (set_here ms p h.before x h.at);
            numbered = sym h.numbered ∙ ap (λ (z : GraphMember). z.instance) (sym same) ∙ g.numbered;
            named = g.named ∙ ap (λ (z : GraphMember). z.name) same ∙ sym h.named;
          }
      | inr ne ↦ record {
        before = g.before;
        at = set_other ms p q x ne ∙ g.at;
        numbered = g.numbered;
        named = g.named;
      }
    ]

pub all_stay_named : (x : GraphMember) (ps : List PlacedMember) (ms : List GraphMember) (p : ℕ) → IsNamedAt x ms p
    → AreNamed ps ms → AreNamed ps (slice_set ms p x)
all_stay_named x [] ms p h g = tt
all_stay_named x (y ∷ ps) ms p h g =
    (named_stays x y.member ms p y.place h g.0, all_stay_named x ps ms p h g.1)

pub names_of_all : (ps : List PlacedMember) (ms : List GraphMember) → AreNamed ps ms
    → map instance_name (with_placed ps ms) ≡ map instance_name ms
names_of_all [] ms h = refl
names_of_all (p ∷ ps) ms h =
    names_of_all ps (slice_set ms p.place p.member) (all_stay_named p.member ps ms p.place h.0 h.1)
    ∙ names_stay p.member ms (slice_set ms p.place p.member) p.place h.0 refl

pub numbers_of_all : (ps : List PlacedMember) (ms : List GraphMember) → AreNamed ps ms
    → map number (with_placed ps ms) ≡ map number ms
numbers_of_all [] ms h = refl
numbers_of_all (p ∷ ps) ms h =
    numbers_of_all ps (slice_set ms p.place p.member) (all_stay_named p.member ps ms p.place h.0 h.1)
    ∙ map_set number ms p.place h.0.before p.member h.0.at (sym h.0.numbered)

pub rises_of_all : (ps : List PlacedMember) (ms : List GraphMember) → Rises by_member ms → AreNamed ps ms
    → Rises by_member (with_placed ps ms)
rises_of_all [] ms r h = r
rises_of_all (p ∷ ps) ms r h =
    rises_of_all ps (slice_set ms p.place p.member)
    (rises_still p.member ms (slice_set ms p.place p.member) p.place r h.0 refl)
    (all_stay_named p.member ps ms p.place h.0 h.1)

relinks_still : (ps : List PlacedMember) (ms ks : List GraphMember) → map instance_name ms ≡ map instance_name ks
    → map (relink_of ms) ps ≡ map (relink_of ks) ps
relinks_still ps ms ks h =
    ap (λ (f : GraphMember → GraphNode). map (λ (p : PlacedMember). record { place = p.place; node = f p.member }) ps)
    (node_by ms ks h)

pub nodes_of_all : (ps : List PlacedMember) (ms : List GraphMember) → AreNamed ps ms
    → with_relinks (nodes_of ms) (map (relink_of ms) ps) ≡ nodes_of (with_placed ps ms)
nodes_of_all [] ms h = refl
nodes_of_all (p ∷ ps) ms h =
    let now = slice_set ms p.place p.member in
    let first : slice_set (nodes_of ms) p.place (node_of ms p.member) ≡ nodes_of now =
    nodes_relinked p.member ms now (nodes_of ms) (slice_set (nodes_of ms) p.place (node_of ms p.member)) p.place h.0
    refl refl refl in
    let rest = relinks_still ps ms now (sym (names_stay p.member ms now p.place h.0 refl)) in
    (λ i. with_relinks (first i) (rest i)) ∙ nodes_of_all ps now (all_stay_named p.member ps ms p.place h.0 h.1)

edges_of_all : (ns : List GraphNode) (rs : List Relink)
    → with_edges (edges_of ns) (map edges_by rs) ≡ edges_of (with_relinks ns rs)
edges_of_all ns [] = refl
edges_of_all ns (r ∷ rs) =
    ap (λ l. with_edges l (map edges_by rs)) (edges_set ns r.place r.node r.node.links refl)
    ∙ edges_of_all (slice_set ns r.place r.node) rs

-- an instance that is none of them, and cites none
pub apart_stays : (all ms : List GraphMember) (ps : List PlacedMember) (a : ℕ) (ls : List Link)
    → AreApart a ls (map (relink_of all) ps) → slice_get (with_placed ps ms) a ≡ slice_get ms a
apart_stays all ms [] a ls h = refl
apart_stays all ms (p ∷ ps) a ls h =
    apart_stays all (slice_set ms p.place p.member) ps a ls h.2 ∙ set_other ms p.place a p.member h.0

pub stops_of_all : (all ms : List GraphMember) (ps : List PlacedMember) (a base : ℕ) (ls : List Link)
    → AreApart a ls (map (relink_of all) ps)
    → list_any (link_stops (with_placed ps ms) base) ls ≡ list_any (link_stops ms base) ls
stops_of_all all ms [] a base ls h = refl
stops_of_all all ms (p ∷ ps) a base ls h =
    stops_of_all all (slice_set ms p.place p.member) ps a base ls h.2
    ∙ stops_stay ms (slice_set ms p.place p.member) p.place (λ q ne. set_other ms p.place q p.member ne) base ls h.1

-- ---- the place of a member

same_name : (i : ViewItem) → (member_of i).name ≡ i.name
unfolding member_of
same_name i = refl

-- the member of an item whose number a search finds, if it has the name of that one
pub found_named : (i : ViewItem) (x : GraphMember) (ms : List GraphMember) (p : ℕ) (r : GraphMember)
    → StandsAt by_member i.instance p ms → r ≡ get_or ms p r → x ≡ member_of i → i.name ≡ r.name → IsNamedAt x ms p
found_named i x ms p r s is e h =
    let at = stood by_member i.instance p ms s in
    record {
      before = at.0;
      at = at.1;
      numbered = at.2 ∙ sym (ap (λ (z : GraphMember). z.instance) e ∙ same_number i);
      named = ap (λ (z : GraphMember). z.name) e ∙ same_name i ∙ h
          ∙ ap (λ (z : GraphMember). z.name) (is ∙ get_or_from_slice_get ms p at.0 r at.1);
    }

-- one more of the changes
pub more_named : (ps qs : List PlacedMember) (p : PlacedMember) (ms : List GraphMember) → qs ≡ ps ++ p ∷ []
    → AreNamed ps ms → IsNamedAt p.member ms p.place → AreNamed qs ms
more_named ps qs p ms e h g = let P : List PlacedMember → Type 0 = λ l. AreNamed l ms in subst P (sym e) (joined ps h)
  where
    joined : (ps : List PlacedMember) → AreNamed ps ms → AreNamed (ps ++ p ∷ []) ms
    joined [] h = (g, tt)
    joined (q ∷ ps) h = (h.0, joined ps h.1)

pub placed_after : (ps : List PlacedMember) (p : PlacedMember) (ms : List GraphMember)
    → with_placed (ps ++ p ∷ []) ms ≡ slice_set (with_placed ps ms) p.place p.member
placed_after [] p ms = refl
placed_after (q ∷ ps) p ms = placed_after ps p (slice_set ms q.place q.member)

pub named_after : (ps : List PlacedMember) (x : GraphMember) (q : ℕ) (ms : List GraphMember) → AreNamed ps ms
    → IsNamedAt x ms q → IsNamedAt x (with_placed ps ms) q
named_after [] x q ms h g = g
named_after (p ∷ ps) x q ms h g =
    named_after ps x q (slice_set ms p.place p.member) (all_stay_named p.member ps ms p.place h.0 h.1)
    (named_stays p.member x ms p.place q h.0 g)

-- ---- the graph after it

pub within_count : (all ms : List GraphMember) (ps : List PlacedMember) (count : ℕ) → count ≡ length ms → AreNamed ps ms
    → AreWithin count (map (relink_of all) ps)
within_count all ms [] count e h = tt
within_count all ms (p ∷ ps) count e h =
    let less = slice_get_within ms p.place h.0.before h.0.at in
    ((omega arith), within_count all ms ps count e h.1)

-- ---- links and cycles after instances get other links

pub edges_after : (ns ns' : List GraphNode) (rs : List Relink) (ts : List PlacedEdges) (es es' : List (List ℕ))
    → es ≡ edges_of ns → ts ≡ map edges_by rs → es' ≡ with_edges es ts → ns' ≡ with_relinks ns rs → es' ≡ edges_of ns'
edges_after ns ns' rs ts es es' e et put set =
    put ∙ (λ i. with_edges (e i) (et i)) ∙ edges_of_all ns rs ∙ ap edges_of (sym set)

pub leaves_others : (ns ns' : List GraphNode) (rs : List Relink) (cs cs' : List Bool) (was touched : List ℕ)
    → ReachesAll ns ns' rs was touched → ((a : ℕ) → IsOut a was → a < length ns → flag_at cs' a ≡ flag_at cs a)
    → LeavesOthers ns ns' rs cs cs' touched
leaves_others ns ns' rs cs cs' was touched far turned =
    record { apart = far.apart; met = far.met; flags = λ a out less. turned a (far.grown a out less) less }

pub all_inside : (count : ℕ) (rs : List Relink) → AreWithin count rs → AreInside count (map edges_by rs)
all_inside count [] h = tt
all_inside count (r ∷ rs) h = (h.0, all_inside count rs h.1)

-- the same over what a call names
pub are_inside : (count : ℕ) (rs : List Relink) (ts : List PlacedEdges) → AreWithin count rs → ts ≡ map edges_by rs
    → AreInside count ts
are_inside count rs ts h e =
    let P : List PlacedEdges → Type 0 = AreInside count in subst P (sym e) (all_inside count rs h)

pub length_placed : (ps : List PlacedMember) (ms : List GraphMember) → length (with_placed ps ms) ≡ length ms
length_placed [] ms = refl
length_placed (p ∷ ps) ms = length_placed ps (slice_set ms p.place p.member) ∙ length-set ms p.place p.member
