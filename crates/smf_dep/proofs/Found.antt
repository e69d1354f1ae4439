-- The data kept of instances gives the finding of each.
use Rattle.std.proofs.Common.{◌≡◌, ℕ, zero, suc, List, map, length, get_or, Bool, true, false, ◌||◌, ◌&&◌, Option, Some, None, refl, ap, ◌∙◌, sym}
use Rattle.std.specs.Prelude.{is_some, nat_lt, option_map, slice_get}
use Rattle.std.specs.List.{list_all, list_any}
use Rattle.std.specs.Option.{option_map_or}
use Rattle.std.proofs.Math.Path.{fun_ext}
use Rattle.std.proofs.lemmas.Bool.{ltb-true}
use Rattle.std.proofs.lemmas.List.{length-map}
use Rattle.std.proofs.lemmas.Option.{slice_get-get_or, slice_get-map}
use Rattle.smf_links.specs.declared.link.Link.{Link}
use Rattle.smf_links.specs.declared.link.GraphNode.{GraphNode}
use Rattle.smf_links.specs.Blockage.{blocked_by, met_at, met_by, node_is, off_at, parks_by, runs_at}
use Rattle.smf_links.specs.Blockage as places
use Rattle.smf_dep.specs.declared.dependency.Dependency.{Dependency}
use Rattle.smf_dep.specs.declared.graph.Finding.{Finding}
use Rattle.smf_dep.specs.declared.member.GraphMember.{GraphMember}
use Rattle.smf_dep.specs.Cycles.{on_cycle}
use Rattle.smf_dep.specs.Places.{IsGraph, finding_at, edges_of, finding_of, flag_at, link_of, link_stops, links_of, node_of, node_stops, nodes_of}
use Rattle.smf_dep.specs.Verdicts.{all_met, all_met_in, any_blocked, any_must_stop, is_blocked, is_idle, is_met, is_off, is_parked, is_running, is_waiting, must_stop, parked_in, verdict, verdict_by}
use Rattle.smf_dep.proofs.CyclePlaces.{cycles_by}
use Rattle.smf_dep.proofs.Looked.{all_mapped, any_mapped, link_blocked, link_met, link_stops_is, look}

-- ---- an instance at a place

pub node_got : (all ms : List GraphMember) (a : ℕ) (m : GraphMember) → slice_get ms a ≡ Some m
    → slice_get (map (node_of all) ms) a ≡ Some (node_of all m)
node_got all ms a m h = slice_get-map (node_of all) ms a ∙ ap (option_map (node_of all)) h

mapped : (f : GraphNode → Bool) (g : GraphMember → Bool) (all : List GraphMember)
    → ((m : GraphMember) → f (node_of all m) ≡ g m) → (o : Option GraphMember)
    → option_map_or f (option_map (node_of all) o) false ≡ option_map_or g o false
mapped f g all same None = refl
mapped f g all same (Some m) = same m

node_at : (f : GraphNode → Bool) (g : GraphMember → Bool) (ms : List GraphMember)
    → ((m : GraphMember) → f (node_of ms m) ≡ g m) → (p : ℕ) → node_is f (nodes_of ms) p ≡ look g ms p
node_at f g ms same p = ap (λ (o : Option GraphNode). option_map_or f o false) (slice_get-map (node_of ms) ms p)
    ∙ mapped f g ms same (slice_get ms p)

pub runs_is : (ms : List GraphMember) → runs_at (nodes_of ms) ≡ look is_running ms
runs_is ms = fun_ext (λ p. node_at (λ (n : GraphNode). n.flags.running) is_running ms (λ m. refl) p)

pub off_is : (ms : List GraphMember) → off_at (nodes_of ms) ≡ look is_off ms
off_is ms = fun_ext (λ p. node_at (λ (n : GraphNode). n.flags.off) is_off ms (λ m. refl) p)

-- ---- parked instances

blocked_in : (ms : List GraphMember) (parked : GraphMember → Bool) (ds : Option (List Dependency))
    → list_any (blocked_by (look is_running ms) (look is_off ms) (look parked ms)) (links_of ms ds)
    ≡ any_blocked parked ms ds
blocked_in ms parked None = refl
blocked_in ms parked (Some ds) =
    any_mapped (blocked_by (look is_running ms) (look is_off ms) (look parked ms)) (link_of ms) (is_blocked parked ms)
    (link_blocked ms parked) ds

parks_is : (ms : List GraphMember) (parked : GraphMember → Bool) (m : GraphMember)
    → parks_by (look is_running ms) (look is_off ms) (look parked ms) (node_of ms m)
    ≡ (is_idle m || (is_waiting m && any_blocked parked ms m.dependencies))
parks_is ms parked m = ap (λ b. is_idle m || (is_waiting m && b)) (blocked_in ms parked m.dependencies)

pub rounds_are : (ms : List GraphMember) (k : ℕ) → places.parked_in k (nodes_of ms) ≡ look (parked_in k ms) ms
unfolding places.parked_in parked_in
rounds_are ms zero = fun_ext (λ p. node_at (λ (n : GraphNode). n.flags.idle) is_idle ms (λ m. refl) p)
rounds_are ms (suc k) =
    (λ i. λ p. node_is (parks_by (runs_is ms i) (off_is ms i) (rounds_are ms k i)) (nodes_of ms) p)
    ∙ fun_ext (λ p. node_at (parks_by (look is_running ms) (look is_off ms) (look (parked_in k ms) ms))
    (parked_in (suc k) ms) ms (parks_is ms (parked_in k ms)) p)

pub parked_is : (ms : List GraphMember) → places.is_parked (nodes_of ms) ≡ look (is_parked ms) ms
parked_is ms = ap (λ k. places.parked_in k (nodes_of ms)) (length-map ms (node_of ms)) ∙ rounds_are ms (length ms)

-- ---- findings

met_in : (ms : List GraphMember) (ds : Option (List Dependency))
    → (is_some ds && list_all (met_by (look is_running ms) (look is_off ms) (look (is_parked ms) ms))
    (links_of ms ds)) ≡ all_met_in ms ds
met_in ms None = refl
met_in ms (Some ds) =
    all_mapped (met_by (look is_running ms) (look is_off ms) (look (is_parked ms) ms)) (link_of ms) (is_met ms)
    (link_met ms) ds

-- all is met that an instance at a place depends on
pub met_is : (ms : List GraphMember) (a : ℕ) (m : GraphMember) → slice_get ms a ≡ Some m
    → (is_some m.dependencies && met_at (nodes_of ms) a) ≡ all_met ms m
unfolding all_met
met_is ms a m h =
    ap (λ b. is_some m.dependencies && b)
    ((λ i. node_is (λ (n : GraphNode). list_all (met_by (runs_is ms i) (off_is ms i) (parked_is ms i)) n.links)
    (nodes_of ms) a)
    ∙ ap (λ (o : Option GraphNode). option_map_or
    (λ (n : GraphNode). list_all (met_by (look is_running ms) (look is_off ms) (look (is_parked ms) ms)) n.links)
    o false) (node_got ms ms a m h))
    ∙ met_in ms m.dependencies

pub stops_in : (ms : List GraphMember) (base : ℕ) (ds : Option (List Dependency))
    → list_any (link_stops ms base) (links_of ms ds) ≡ any_must_stop ms base ds
stops_in ms base None = refl
stops_in ms base (Some ds) =
    any_mapped (link_stops ms base) (link_of ms) (λ d. must_stop ms d base) (link_stops_is ms base) ds

stops_is : (ms : List GraphMember) (a : ℕ) (m : GraphMember) → slice_get ms a ≡ Some m
    → node_stops ms m.base (slice_get (nodes_of ms) a) ≡ any_must_stop ms m.base m.dependencies
stops_is ms a m h = ap (node_stops ms m.base) (node_got ms ms a m h) ∙ stops_in ms m.base m.dependencies

found_of : (ms : List GraphMember) (cycles : List Bool) (a : ℕ) (m : GraphMember) → slice_get ms a ≡ Some m
    → flag_at cycles a ≡ on_cycle ms m
    → finding_at ms (nodes_of ms) cycles m a ≡ finding_of ms m
unfolding finding_of
found_of ms cycles a m h e =
    λ i. record {
      readable = is_some m.dependencies;
      all_met = met_is ms a m h i;
      must_stop = stops_is ms a m h i;
      on_cycle = e i;
    }

-- the finding at a place is that of the instance there
pub finding_is : (ms : List GraphMember) (ns : List GraphNode) (es : List (List ℕ)) (cycles : List Bool) (a : ℕ)
    (m : GraphMember) → IsGraph ms ns es cycles → slice_get ms a ≡ Some m
    → finding_at ms ns cycles m a ≡ finding_of ms m
finding_is ms ns es cycles a m g h =
    ap (λ (l : List GraphNode). finding_at ms l cycles m a) g.linked
    ∙ found_of ms cycles a m h ((cycles_by ms es cycles (g.edged ∙ ap edges_of g.linked) g.turning).flag a m h)

pub got_at : (ms : List GraphMember) (place : ℕ) (m : GraphMember) → true ≡ nat_lt place (length ms)
    → m ≡ get_or ms place m → Some m ≡ slice_get ms place
got_at ms place m lt is = ap (λ (z : GraphMember). Some z) is
    ∙ sym (slice_get-get_or ms place m (ltb-true place (length ms) (sym lt)))

pub found_at_place : (ms : List GraphMember) (ns : List GraphNode) (es : List (List ℕ)) (cycles : List Bool) (place : ℕ)
    (m : GraphMember) (f : Finding) → IsGraph ms ns es cycles → Some m ≡ slice_get ms place
    → f ≡ finding_at ms ns cycles m place → Some f ≡ option_map (finding_of ms) (slice_get ms place)
found_at_place ms ns es cycles place m f g h e =
    ap (λ (z : Finding). Some z) (e ∙ finding_is ms ns es cycles place m g (sym h)) ∙ ap (option_map (finding_of ms)) h

-- ---- verdicts

judged : (ms : List GraphMember) (d : Dependency)
    → verdict_by (met_by (look is_running ms) (look is_off ms) (look (is_parked ms) ms) (link_of ms d))
    (blocked_by (look is_running ms) (look is_off ms) (look (is_parked ms) ms) (link_of ms d))
    ≡ verdict ms d
unfolding verdict
judged ms d = λ i. verdict_by (link_met ms d i) (link_blocked ms (is_parked ms) d i)

pub verdict_is : (ms : List GraphMember) (ns : List GraphNode) (d : Dependency) (l : Link) → ns ≡ nodes_of ms
    → l ≡ link_of ms d
    → verdict_by (met_by (runs_at ns) (off_at ns) (places.is_parked ns) l)
    (blocked_by (runs_at ns) (off_at ns) (places.is_parked ns) l) ≡ verdict ms d
verdict_is ms ns d l e h =
    (λ i. verdict_by (met_by (runs_at (e i)) (off_at (e i)) (places.is_parked (e i)) (h i))
    (blocked_by (runs_at (e i)) (off_at (e i)) (places.is_parked (e i)) (h i)))
    ∙ (λ i. verdict_by (met_by (runs_is ms i) (off_is ms i) (parked_is ms i) (link_of ms d))
    (blocked_by (runs_is ms i) (off_is ms i) (parked_is ms i) (link_of ms d)))
    ∙ judged ms d
