-- The graph after instances came and others got other dependencies.
use Rattle.std.proofs.Common.{◌≡◌, ℕ, zero, suc, ◌+◌, ◌<◌, ◌≤◌, List, [], ◌∷◌, ◌++◌, map, length, drop, Bool, false, not, ◌&&◌, Option, Some, None, refl, sym, ap, ◌∙◌, subst, arith, length-append}
use Rattle.std.specs.Prelude.{is_some, nat_lt, slice_get, slice_set}
use Rattle.std.specs.List.{list_any}
use Rattle.std.specs.Option.{unwrap_or}
use Rattle.std.proofs.lemmas.List.{append_assoc, append-nil, length-map}
use Rattle.std.proofs.lemmas.Option.{slice_get_within}
use Rattle.smf_fmri.specs.ByKey.{Rises, lookup}
use Rattle.smf_fmri.proofs.KeyOrder.{put_last, rises_put}
use Rattle.smf_links.specs.declared.link.GraphNode.{GraphNode}
use Rattle.smf_links.specs.declared.link.Link.{Link}
use Rattle.smf_links.specs.declared.link.Relink.{Relink}
use Rattle.smf_links.specs.Blockage.{IsOut, met_at}
use Rattle.smf_links.specs.Relinks.{AreApart}
use Rattle.smf_links.specs.Stamps.{Avoid}
use Rattle.smf_dep.specs.declared.member.GraphMember.{GraphMember}
use Rattle.smf_dep.specs.declared.relink.PlacedMember.{PlacedMember}
use Rattle.smf_dep.specs.Members.{by_member}
use Rattle.smf_dep.specs.Places.{AreCyclesOf, IsGraph, LeavesOthers, edges_in, edges_of, finding_of, flag_at, link_stops, links_of, node_of, nodes_of, places}
use Rattle.smf_dep.specs.Updates.{AreAbove, AreNamed, AreReady, OthersStay, all_relinks, blank_of, is_due, is_naming, no_flag, number, relink_of, relinks_from, with_placed}
use Rattle.smf_dep.specs.Cycles.{on_cycle}
use Rattle.smf_dep.specs.Verdicts.{all_met, any_must_stop}
use Rattle.smf_dep.specs.Names.{instance_name}
use Rattle.smf_dep.proofs.Alike.{links_by, places_named}
use Rattle.smf_dep.proofs.ByNumber.{at_found, found_at}
use Rattle.smf_dep.proofs.CyclePlaces.{cycles_by}
use Rattle.smf_dep.proofs.Found.{met_is, node_got, stops_in}
use Rattle.smf_dep.proofs.Joined.{out_of_links}
use Rattle.smf_dep.proofs.Linked.{after_first, below, got_within, links_stay, not_due, or_false}
use Rattle.smf_dep.proofs.Relinked.{all_stay_named, apart_stays, length_placed, names_of_all, numbers_of_all, rises_of_all, stops_of_all}
use Rattle.smf_dep.proofs.Updates.{found_same, number_of, same_some, stops_stay}

-- ---- lists with more items

got_still : {X : Type 0} (xs ys : List X) (a : ℕ) (x : X) → slice_get xs a ≡ Some x
    → slice_get (xs ++ ys) a ≡ Some x
got_still xs ys a x e = got_within xs ys a (slice_get_within xs a x e) ∙ e

some_at : {X : Type 0} (xs : List X) (a : ℕ) → a < length xs → (x : X) × (slice_get xs a ≡ Some x)
some_at [] a less = absurd (omega (arith, less))
some_at (x ∷ xs) zero less = (x, refl)
some_at (x ∷ xs) (suc a) less = some_at xs a (omega (arith, less))

set_before : {X : Type 0} (xs ys : List X) (p : ℕ) (x : X) → p < length xs
    → slice_set (xs ++ ys) p x ≡ slice_set xs p x ++ ys
set_before [] ys p x less = absurd (omega (arith, less))
set_before (y ∷ xs) ys zero x less = refl
set_before (y ∷ xs) ys (suc p) x less = ap (λ l. y ∷ l) (set_before xs ys p x (omega (arith, less)))

-- ---- members in the places of others, and members after all

pub named_before : (ps : List PlacedMember) (ms arrivals : List GraphMember) → AreNamed ps ms
    → AreNamed ps (ms ++ arrivals)
named_before [] ms arrivals h = tt
named_before (p ∷ ps) ms arrivals h = (
  record {
    before = h.0.before;
    at = got_still ms arrivals p.place h.0.before h.0.at;
    numbered = h.0.numbered;
    named = h.0.named;
  },
  named_before ps ms arrivals h.1,
)

pub placed_before : (ps : List PlacedMember) (ms arrivals : List GraphMember) → AreNamed ps ms
    → with_placed ps (ms ++ arrivals) ≡ with_placed ps ms ++ arrivals
placed_before [] ms arrivals h = refl
placed_before (p ∷ ps) ms arrivals h =
    ap (with_placed ps)
    (set_before ms arrivals p.place p.member (slice_get_within ms p.place h.0.before h.0.at))
    ∙ placed_before ps (slice_set ms p.place p.member) arrivals
    (all_stay_named p.member ps ms p.place h.0 h.1)

rises_above : (arrivals ms : List GraphMember) → Rises by_member ms → AreAbove arrivals ms
    → Rises by_member (ms ++ arrivals)
rises_above [] ms r h = let P : List GraphMember → Type 0 = Rises by_member in subst P (sym (append-nil ms)) r
rises_above (x ∷ xs) ms r h =
    let P : List GraphMember → Type 0 = Rises by_member in
    subst P (append_assoc ms (x ∷ []) xs)
    (rises_above xs (ms ++ x ∷ []) (subst P (put_last by_member x ms h.0) (rises_put by_member x ms r)) h.1)

pub graph_changed : (ps : List PlacedMember) (arrivals ms all ks : List GraphMember) (ns ns' : List GraphNode)
    (es es' : List (List ℕ)) (cs cs' : List Bool) → AreReady ps arrivals ms → IsGraph ms ns es cs
    → all ≡ ms ++ arrivals → ks ≡ with_placed ps all → ns' ≡ nodes_of (with_placed ps all) → es' ≡ edges_of ns'
    → AreCyclesOf es' cs' → IsGraph ks ns' es' cs'
graph_changed ps arrivals ms all ks ns ns' es es' cs cs' h g grown is linked edged turning =
    let P : List GraphMember → Type 0 = Rises by_member in
    let now : with_placed ps ms ++ arrivals ≡ ks =
    sym (is ∙ ap (with_placed ps) grown ∙ placed_before ps ms arrivals h.named) in
    record {
      linked = linked ∙ ap nodes_of (sym is);
      edged = edged;
      turning = turning;
      rises = subst P now
          (rises_above arrivals (with_placed ps ms) (rises_of_all ps ms g.rises h.named) h.above);
    }

-- ---- stops

-- instances after the last stop none that cites none of their places
stops_grown : (arrivals ms : List GraphMember) (base : ℕ) (ls : List Link)
    → ((b : ℕ) → length ms ≤ b → Avoid b ls)
    → list_any (link_stops (ms ++ arrivals) base) ls ≡ list_any (link_stops ms base) ls
stops_grown [] ms base ls out = ap (λ l. list_any (link_stops l base) ls) (append-nil ms)
stops_grown (x ∷ xs) ms base ls out =
    let more : length (ms ++ x ∷ []) ≡ length ms + 1 = length-append ms (x ∷ []) in
    ap (λ l. list_any (link_stops l base) ls) (sym (append_assoc ms (x ∷ []) xs))
    ∙ stops_grown xs (ms ++ x ∷ []) base ls (λ b le. out b (omega (arith, le, more)))
    ∙ stops_stay ms (ms ++ x ∷ []) (length ms) same base ls (out (length ms) (omega arith))
  where
    last : (xs : List GraphMember) (a : ℕ) → (length xs ≡ a → ⊥) → slice_get (xs ++ x ∷ []) a ≡ slice_get xs a
    last [] zero ne = absurd (ne refl)
    last [] (suc a) ne = refl
    last (y ∷ xs) zero ne = refl
    last (y ∷ xs) (suc a) ne = last xs a (λ e. ne (ap suc e))

    same : (a : ℕ) → (length ms ≡ a → ⊥) → slice_get (ms ++ x ∷ []) a ≡ slice_get ms a
    same a ne = last ms a ne

-- ---- findings that stay

apart_of_first : (a : ℕ) (ls : List Link) (rs qs : List Relink) → AreApart a ls (rs ++ qs) → AreApart a ls rs
apart_of_first a ls [] qs h = tt
apart_of_first a ls (r ∷ rs) qs h = (h.0, h.1, apart_of_first a ls rs qs h.2)

apart_of_rest : (a : ℕ) (ls : List Link) (rs qs : List Relink) → AreApart a ls (rs ++ qs) → AreApart a ls qs
apart_of_rest a ls [] qs h = h
apart_of_rest a ls (r ∷ rs) qs h = apart_of_rest a ls rs qs h.2

-- an instance that is there afterwards at a place that is not touched was there before, and is found as it was
pub changed_found : (ps : List PlacedMember) (arrivals ms all ks : List GraphMember) (ns ns1 ns' : List GraphNode)
    (es es' : List (List ℕ)) (cs cs1 cs' : List Bool) (count : ℕ) (touched : List ℕ) → AreReady ps arrivals ms
    → IsGraph ms ns es cs → IsGraph ks ns' es' cs' → all ≡ ms ++ arrivals → ks ≡ with_placed ps all
    → count ≡ length ms → ns1 ≡ ns ++ map blank_of arrivals → cs1 ≡ cs ++ map no_flag arrivals
    → ((a : ℕ) → a < length ns → met_at ns1 a ≡ met_at ns a)
    → LeavesOthers ns1 ns' (all_relinks all count ps) cs1 cs' touched
    → (a : ℕ) (x : GraphMember) → IsOut a touched → slice_get ks a ≡ Some x
    → (slice_get ms a ≡ Some x) × (finding_of ks x ≡ finding_of ms x)
changed_found ps arrivals ms all ks ns ns1 ns' es es' cs cs1 cs' count touched h g g' grown is counted put flagged met
    far a x out at =
    (there, found_same ms ks x met_same stops_same cycles_same)
  where
    nodes : length ns ≡ length ms
    nodes = ap length g.linked ∙ length-map ms (node_of ms)

    in_all : a < length all
    in_all = let l = slice_get_within ks a x at in let k = ap length is ∙ length_placed ps all in omega arith

    within1 : a < length ns1
    within1 =
        let l = ap length put ∙ length-append ns (map blank_of arrivals) in
        let k = length-map arrivals blank_of in
        let m = ap length grown ∙ length-append ms arrivals in
        let o = nodes in let i = in_all in omega arith

    node : (n : GraphNode) × (slice_get ns1 a ≡ Some n)
    node = some_at ns1 a within1

    was : (y : GraphMember) × (slice_get all a ≡ Some y)
    was = some_at all a in_all

    apart : AreApart a node.0.links (all_relinks all count ps)
    apart = far.apart a node.0 out node.1

    zero_more : a ≡ 0 + a
    zero_more = omega arith

    free : is_due (drop count all) count (0 + a) was.0 ≡ false
    free =
        let P : ℕ → Type 0 = λ b. AreApart b node.0.links (relinks_from all (drop count all) count 0 all) in
        not_due all (drop count all) count 0 a all was.0 node.0.links was.1
        (subst P zero_more
        (apart_of_first a node.0.links (relinks_from all (drop count all) count 0 all) (map (relink_of all) ps) apart))

    inside : a < length ms
    inside =
        let l = below (0 + a) count (or_false (not (nat_lt (0 + a) count)) (is_naming (drop count all) was.0) free).0 in
        let k = counted in omega arith

    within : a < length ns
    within = let l = inside in let k = nodes in omega arith

    same : was.0 ≡ x
    same =
        same_some was.0 x
        (sym was.1
        ∙ sym (ap (λ l. slice_get l a) is
        ∙ apart_stays all all ps a node.0.links
        (apart_of_rest a node.0.links (relinks_from all (drop count all) count 0 all) (map (relink_of all) ps) apart))
        ∙ at)

    there : slice_get ms a ≡ Some x
    there = sym (got_within ms arrivals a inside) ∙ ap (λ l. slice_get l a) (sym grown) ∙ was.1 ∙ ap (λ z. Some z) same

    came : drop count all ≡ arrivals
    came = after_first all ms arrivals count grown counted

    unnamed : is_naming arrivals x ≡ false
    unnamed =
        sym (λ i. is_naming (came i) (same i))
        ∙ (or_false (not (nat_lt (0 + a) count)) (is_naming (drop count all) was.0) free).1

    links : node.0.links ≡ links_of ms x.dependencies
    links =
        ap (λ (n : GraphNode). n.links)
        (same_some node.0 (node_of ms x)
        (sym node.1 ∙ ap (λ l. slice_get l a) put ∙ got_within ns (map blank_of arrivals) a within
        ∙ ap (λ l. slice_get l a) g.linked ∙ node_got ms ms a x there))

    rest : AreApart a (links_of ms x.dependencies) (map (relink_of all) ps)
    rest =
        let P : List Link → Type 0 = λ ls. AreApart a ls (map (relink_of all) ps) in
        subst P links
        (apart_of_rest a node.0.links (relinks_from all (drop count all) count 0 all) (map (relink_of all) ps) apart)

    named : map instance_name ks ≡ map instance_name all
    named =
        ap (map instance_name) is
        ∙ names_of_all ps all (let P : List GraphMember → Type 0 = AreNamed ps in
        subst P (sym grown) (named_before ps ms arrivals h.named))

    met_same : all_met ks x ≡ all_met ms x
    met_same =
        sym (met_is ks a x at)
        ∙ ap (λ b. is_some x.dependencies && b)
        (ap (λ l. met_at l a) (sym g'.linked) ∙ far.met a out within1 ∙ met a within ∙ ap (λ l. met_at l a) g.linked)
        ∙ met_is ms a x there

    stops_same : any_must_stop ks x.base x.dependencies ≡ any_must_stop ms x.base x.dependencies
    stops_same =
        sym (stops_in ks x.base x.dependencies)
        ∙ ap (list_any (link_stops ks x.base))
        (links_by ks all (places_named ks all named) x.dependencies
        ∙ ap (λ l. links_of l x.dependencies) grown
        ∙ links_stay ms arrivals x.dependencies unnamed)
        ∙ ap (λ l. list_any (link_stops l x.base) (links_of ms x.dependencies)) is
        ∙ stops_of_all all all ps a x.base (links_of ms x.dependencies) rest
        ∙ ap (λ l. list_any (link_stops l x.base) (links_of ms x.dependencies)) grown
        ∙ stops_grown arrivals ms x.base (links_of ms x.dependencies) (λ b le. out_of_links ms b le x.dependencies)
        ∙ stops_in ms x.base x.dependencies

    flags : length cs ≡ length ns
    flags = g.turning.size ∙ ap length g.edged ∙ length-map ns (λ (k : GraphNode). edges_in k.links)

    flag_before : flag_at cs1 a ≡ flag_at cs a
    flag_before =
        ap (λ l. flag_at l a) flagged
        ∙ ap (λ (o : Option Bool). unwrap_or o false)
        (got_within cs (map no_flag arrivals) a (let l = flags in let k = within in omega arith))

    cycles_same : on_cycle ks x ≡ on_cycle ms x
    cycles_same =
        sym ((cycles_by ks es' cs' (g'.edged ∙ ap edges_of g'.linked) g'.turning).flag a x at)
        ∙ far.flags a out within1 ∙ flag_before
        ∙ (cycles_by ms es cs (g.edged ∙ ap edges_of g.linked) g.turning).flag a x there

-- ---- by numbers

-- each instance that was there is there afterwards at its place
pub changed_there : (ps : List PlacedMember) (arrivals ms all ks : List GraphMember) → AreNamed ps ms
    → all ≡ ms ++ arrivals → ks ≡ with_placed ps all → (a : ℕ) (x : GraphMember) → slice_get ms a ≡ Some x
    → (y : GraphMember) × (slice_get ks a ≡ Some y) × (y.instance ≡ x.instance)
changed_there ps arrivals ms all ks h grown is a x at =
    let P : List GraphMember → Type 0 = AreNamed ps in
    let named = subst P (sym grown) (named_before ps ms arrivals h) in
    let there : slice_get all a ≡ Some x = ap (λ l. slice_get l a) grown ∙ got_still ms arrivals a x at in
    number_of all ks a x (sym (ap (map number) is ∙ numbers_of_all ps all named)) there

pub changed_stays : (ms ks shown : List GraphMember) (touched places numbers given : List ℕ)
    → Rises by_member ms → Rises by_member ks
    → ((a : ℕ) (x : GraphMember) → slice_get ms a ≡ Some x
    → (y : GraphMember) × (slice_get ks a ≡ Some y) × (y.instance ≡ x.instance))
    → ((a : ℕ) (x : GraphMember) → IsOut a touched → slice_get ks a ≡ Some x
    → (slice_get ms a ≡ Some x) × (finding_of ks x ≡ finding_of ms x))
    → shown ≡ ks → places ≡ touched → given ≡ numbers
    → ((a : ℕ) (x : GraphMember) → slice_get shown a ≡ Some x → IsOut x.instance numbers → IsOut a places)
    → OthersStay ms ks given
changed_stays ms ks shown touched places numbers given r r' there found es et eg named =
    record {
      member = λ n out. by n out (lookup by_member ks n) refl (lookup by_member ms n) refl;
      finding = λ n x out e. (back n x out e).1;
    }
  where
    free : (n a : ℕ) (x : GraphMember) → IsOut n given → slice_get ks a ≡ Some x → x.instance ≡ n → IsOut a touched
    free n a x out at same =
        let P : List ℕ → Type 0 = IsOut n in
        let Q : ℕ → Type 0 = λ k. IsOut k numbers in
        let R : List ℕ → Type 0 = IsOut a in
        subst R et (named a x (ap (λ l. slice_get l a) es ∙ at) (subst Q (sym same) (subst P eg out)))

    back : (n : ℕ) (x : GraphMember) → IsOut n given → lookup by_member ks n ≡ Some x
        → (lookup by_member ms n ≡ Some x) × (finding_of ks x ≡ finding_of ms x)
    back n x out e =
        let at = at_found by_member ks n x e in
        let both = found at.0 x (free n at.0 x out at.1 at.2) at.1 in
        let P : ℕ → Type 0 = λ k. lookup by_member ms k ≡ Some x in
        (subst P at.2 (found_at by_member ms at.0 x r both.0), both.1)

    forth : (n : ℕ) (x : GraphMember) → lookup by_member ms n ≡ Some x
        → (y : GraphMember) × (lookup by_member ks n ≡ Some y)
    forth n x e =
        let at = at_found by_member ms n x e in
        let y = there at.0 x at.1 in
        let P : ℕ → Type 0 = λ k. lookup by_member ks k ≡ Some y.0 in
        (y.0, subst P (y.2 ∙ at.2) (found_at by_member ks at.0 y.0 r' y.1))

    none_is : (y : GraphMember) → None ≡ Some y → ⊥
    none_is y e = cc

    by : (n : ℕ) → IsOut n given → (o : Option GraphMember) → lookup by_member ks n ≡ o → (q : Option GraphMember)
        → lookup by_member ms n ≡ q → lookup by_member ks n ≡ lookup by_member ms n
    by n out (Some x) e q f = e ∙ sym (back n x out e).0
    by n out None e None f = e ∙ sym f
    by n out None e (Some x) f = let y = forth n x f in absurd (none_is y.0 (sym e ∙ y.1))

-- ---- the graph as it was

pub graph_restored : (ms ms' : List GraphMember) (ns ns' : List GraphNode) (es es' : List (List ℕ))
    (cs cs' : List Bool) → IsGraph ms ns es cs → ms' ≡ ms → ns' ≡ nodes_of ms' → es' ≡ es → cs' ≡ cs
    → IsGraph ms' ns' es' cs'
graph_restored ms ms' ns ns' es es' cs cs' g members linked edges flags =
    let P : List GraphMember → Type 0 = Rises by_member in
    let Q : List (List ℕ) → Type 0 = λ l. AreCyclesOf l cs' in
    let R : List Bool → Type 0 = AreCyclesOf es in
    record {
      linked = linked;
      edged = edges ∙ g.edged ∙ ap edges_of (g.linked ∙ ap nodes_of (sym members) ∙ sym linked);
      turning = subst Q (sym edges) (subst R (sym flags) g.turning);
      rises = subst P (sym members) g.rises;
    }

-- there are as many nodes, edges and flags as instances
pub as_many_edges : (ms : List GraphMember) (ns : List GraphNode) (es : List (List ℕ)) (cs : List Bool)
    → IsGraph ms ns es cs → length es ≡ length ms
as_many_edges ms ns es cs g =
    ap length g.edged ∙ length-map ns (λ (k : GraphNode). edges_in k.links) ∙ ap length g.linked
    ∙ length-map ms (node_of ms)

pub as_many_flags : (ms : List GraphMember) (ns : List GraphNode) (es : List (List ℕ)) (cs : List Bool)
    → IsGraph ms ns es cs → length cs ≡ length ms
as_many_flags ms ns es cs g = g.turning.size ∙ as_many_edges ms ns es cs g
