-- Findings that stay if a member takes the place of another, and all findings if instances come or go.
use Rattle.std.proofs.Common.{◌≡◌, ℕ, zero, suc, ◌+◌, ◌<◌, ◌≤◌, List, [], ◌∷◌, ◌++◌, map, length, drop, get_or, Bool, false, ◌||◌, ◌&&◌, not, Option, Some, None, Result, Ok, Err, refl, sym, ap, ◌∙◌, subst, inl, inr, arith}
use Rattle.std.specs.Prelude.{IfOk, IfSome, is_some, slice_get, slice_set}
use Rattle.std.specs.List.{list_any}
use Rattle.std.specs.Option.{option_map_or}
use Rattle.std.proofs.Math.Path.{fun_ext}
use Rattle.std.proofs.lemmas.Bool.{cases_eq}
use Rattle.std.proofs.lemmas.List.{append-nil, drop_all, length-map}
use Rattle.std.proofs.lemmas.Option.{get_or_from_slice_get, slice_get_within}
use Rattle.smf_fmri.specs.ByKey.{BelongsAt, Rises, StandsAt, lookup, list_with_item, put_all}
use Rattle.smf_fmri.proofs.Places.{lookup_before, put_at}
use Rattle.smf_state.specs.declared.view.ChangedItem.{ChangedItem}
use Rattle.smf_state.specs.declared.view.ViewItem.{ViewItem}
use Rattle.smf_links.specs.declared.link.Flags.{Flags}
use Rattle.smf_links.specs.declared.link.Link.{Link}
use Rattle.smf_links.specs.declared.link.GraphNode.{GraphNode}
use Rattle.smf_links.specs.Blockage.{IsOut, met_at, with_flags}
use Rattle.smf_links.specs.Stamps.{AreOut, Avoid, Reaches}
use Rattle.smf_links.proofs.Work.{left_at, out_left, out_right}
use Rattle.smf_dep.specs.declared.dependency.Dependency.{Dependency}
use Rattle.smf_dep.specs.declared.member.GraphMember.{GraphMember}
use Rattle.smf_dep.specs.Cycles.{asked_for, asks_for, cites, excludes, leads, on_cycle}
use Rattle.smf_dep.specs.Members.{by_member, member_of, wires}
use Rattle.smf_dep.specs.Places.{event_at, finding_of, flags_of, link_stops, links_of, node_of, nodes_of}
use Rattle.smf_dep.specs.Updates.{AllFit, AreSuccessors, Fits, FitsAt, IsSuccessor, OthersStay, Remains, Stays, number, number_at, number_in, with_member, with_members}
use Rattle.smf_dep.specs.Verdicts.{all_met, any_must_stop, is_cited, stops_by}
use Rattle.smf_dep.proofs.Alike.{Wires, cited_same, links_by, name_same, needs_same, places_same, rest_same}
use Rattle.smf_dep.proofs.ByNumber.{at_found, found_at, stands, stood}
use Rattle.smf_dep.proofs.Found.{met_is, node_got, stops_in}
use Rattle.smf_dep.proofs.OfItems.{same_number}

-- ---- one member in the place of another

pub same_some : {X : Type 0} (x y : X) → Some x ≡ Some y → x ≡ y
same_some x y e = cc

pub set_here : (ms : List GraphMember) (p : ℕ) (m x : GraphMember) → slice_get ms p ≡ Some m
    → slice_get (slice_set ms p x) p ≡ Some x
set_here [] p m x e = absurd cc
set_here (y ∷ ms) zero m x e = refl
set_here (y ∷ ms) (suc p) m x e = set_here ms p m x e

pub set_other : (ms : List GraphMember) (p a : ℕ) (x : GraphMember) → (p ≡ a → ⊥)
    → slice_get (slice_set ms p x) a ≡ slice_get ms a
set_other [] p a x ne = refl
set_other (y ∷ ms) zero zero x ne = absurd (ne refl)
set_other (y ∷ ms) zero (suc a) x ne = refl
set_other (y ∷ ms) (suc p) zero x ne = refl
set_other (y ∷ ms) (suc p) (suc a) x ne = set_other ms p a x (λ e. ne (ap suc e))

pub map_set : {Y : Type 0} (f : GraphMember → Y) (ms : List GraphMember) (p : ℕ) (m x : GraphMember)
    → slice_get ms p ≡ Some m → f x ≡ f m → map f (slice_set ms p x) ≡ map f ms
map_set f [] p m x e same = refl
map_set f (y ∷ ms) zero m x e same = ap (λ z. z ∷ map f ms) (same ∙ ap f (sym (same_some y m e)))
map_set f (y ∷ ms) (suc p) m x e same = ap (λ l. f y ∷ l) (map_set f ms p m x e same)

-- ---- members that fit

fits_stays : (x y : GraphMember) (ms : List GraphMember) (p : ℕ) → FitsAt x ms p → Fits y ms → Fits y (slice_set ms p x)
fits_stays x y ms p h g =
    elim (cases_eq p g.0) [
      | inl e ↦
          let other = g.1 in
          let same : other.before ≡ h.before = same_some _ _ (sym other.at ∙ ap (slice_get ms) (sym e) ∙ h.at) in (
            p,
            record {
              before = x;
              at = set_here ms p h.before x h.at;
              numbered = sym h.numbered ∙ ap (λ (z : GraphMember). z.instance) (sym same) ∙ other.numbered;
              alike = other.alike ∙ ap wires same ∙ sym h.alike;
            },
          )
      | inr ne ↦
          let other = g.1 in (
            g.0,
            record {
              before = other.before;
              at = set_other ms p g.0 x ne ∙ other.at;
              numbered = other.numbered;
              alike = other.alike;
            },
          )
    ]

all_stay : (x : GraphMember) (ys ms : List GraphMember) (p : ℕ) → FitsAt x ms p → AllFit ys ms
    → AllFit ys (slice_set ms p x)
all_stay x [] ms p h g = tt
all_stay x (y ∷ ys) ms p h g = (fits_stays x y ms p h g.0, all_stay x ys ms p h g.1)

-- the member that is found by the number of an item, if it has its name and dependencies
pub found_fits : (i : ViewItem) (x : GraphMember) (ms : List GraphMember) (p : ℕ) (r : GraphMember)
    → StandsAt by_member i.instance p ms → r ≡ get_or ms p r → x ≡ member_of i → wires x ≡ wires r → Fits x ms
found_fits i x ms p r s is e h =
    let at = stood by_member i.instance p ms s in (
      p,
      record {
        before = at.0;
        at = at.1;
        numbered = at.2 ∙ sym (ap (λ (z : GraphMember). z.instance) e ∙ same_number i);
        alike = h ∙ ap wires (is ∙ get_or_from_slice_get ms p at.0 r at.1);
      },
    )

pub fits_if : {E : Type 0} (o : Result (Option GraphMember) E) (i : ViewItem) (ms : List GraphMember) (p : ℕ) (r : GraphMember)
    → StandsAt by_member i.instance p ms → r ≡ get_or ms p r
    → IfOk o (λ q. IfSome q (λ x. (x ≡ member_of i) × (wires x ≡ wires r)))
    → IfOk o (λ q. IfSome q (λ x. (x ≡ member_of i) × Fits x ms))
fits_if (Ok (Some x)) i ms p r s is h = (h.0, found_fits i x ms p r s is h.0 h.1)
fits_if (Ok None) i ms p r s is h = tt
fits_if (Err e) i ms p r s is h = tt

-- the place that a search finds is that of the member
pub same_place : (x : GraphMember) (ms : List GraphMember) (p : ℕ) → Rises by_member ms → Fits x ms
    → StandsAt by_member x.instance p ms → FitsAt x ms p
same_place x ms p r h s =
    let at = stood by_member x.instance p ms s in
    let P : ℕ → Type 0 = λ n. lookup by_member ms n ≡ Some at.0 in
    let Q : ℕ → Type 0 = λ n. lookup by_member ms n ≡ Some h.1.before in
    let here : lookup by_member ms x.instance ≡ Some at.0 = subst P at.2 (found_at by_member ms p at.0 r at.1) in
    let there : lookup by_member ms x.instance ≡ Some h.1.before =
    subst Q h.1.numbered (found_at by_member ms h.0 h.1.before r h.1.at) in
    let same : h.1.before ≡ at.0 = same_some _ _ (sym there ∙ here) in
    record { before = at.0; at = at.1; numbered = at.2; alike = h.1.alike ∙ ap wires same }

pub is_found : (x : GraphMember) (ms : List GraphMember) (p : ℕ) → Rises by_member ms → Fits x ms
    → BelongsAt by_member x.instance p ms → ⊥
is_found x ms p r h s =
    let Q : ℕ → Type 0 = λ n. lookup by_member ms n ≡ Some h.1.before in
    none_is (sym (lookup_before by_member x.instance p ms r s)
    ∙ subst Q h.1.numbered (found_at by_member ms h.0 h.1.before r h.1.at))
  where
    none_is : None ≡ Some h.1.before → ⊥
    none_is g = cc

-- it is put at its own place
pub set_at_key : (x : GraphMember) (ms : List GraphMember) (p : ℕ) (before : GraphMember) → Rises by_member ms
    → slice_get ms p ≡ Some before → before.instance ≡ x.instance
    → slice_set ms p x ≡ list_with_item by_member x ms
set_at_key x ms p before r at same =
    let P : ℕ → Type 0 = λ n. StandsAt by_member n p ms in
    sym (put_at by_member x p ms (subst P same (stands by_member ms p before r at)))

pub set_is_put : (x : GraphMember) (ms : List GraphMember) (p : ℕ) → Rises by_member ms → FitsAt x ms p
    → slice_set ms p x ≡ list_with_item by_member x ms
set_is_put x ms p r h = set_at_key x ms p h.before r h.at h.numbered

rest_fits : (x : GraphMember) (ys ms : List GraphMember) → Rises by_member ms → Fits x ms → AllFit ys ms
    → AllFit ys (list_with_item by_member x ms)
rest_fits x ys ms r h g =
    let P : List GraphMember → Type 0 = AllFit ys in
    subst P (set_is_put x ms h.0 r h.1) (all_stay x ys ms h.0 h.1 g)

pub fits_within : (x : GraphMember) (ms : List GraphMember) (p : ℕ) → FitsAt x ms p → p < length ms
fits_within x ms p h = slice_get_within ms p h.before h.at

-- ---- successors, one after another

pub all_with : (xs ys ms : List GraphMember) → put_all by_member (xs ++ ys) ms ≡ put_all by_member ys (put_all by_member xs ms)
all_with [] ys ms = refl
all_with (x ∷ xs) ys ms = all_with xs ys (list_with_item by_member x ms)

all_fit : (xs : List GraphMember) (x : GraphMember) (ms : List GraphMember) → AllFit xs ms → Fits x ms
    → AllFit (xs ++ x ∷ []) ms
all_fit [] x ms h g = (g, tt)
all_fit (y ∷ xs) x ms h g = (h.0, all_fit xs x ms h.1 g)

pub more_fit : (xs ys : List GraphMember) (x : GraphMember) (ms : List GraphMember) → ys ≡ xs ++ x ∷ [] → AllFit xs ms
    → Fits x ms → AllFit ys ms
more_fit xs ys x ms e h g = let P : List GraphMember → Type 0 = λ l. AllFit l ms in subst P (sym e) (all_fit xs x ms h g)

pub put_by : (c : ChangedItem) (x : GraphMember) (ms : List GraphMember) → IsSuccessor c.item x
    → with_member c.instance c.item ms ≡ list_with_item by_member x ms
put_by c x ms h = by c.item h
  where
    by : (o : Option ViewItem) → IsSuccessor o x → with_member c.instance o ms ≡ list_with_item by_member x ms
    by None g = absurd g
    by (Some i) g = ap (λ y. list_with_item by_member y ms) (sym g)

pub more_put : (cs : List ChangedItem) (i : ℕ) (c : ChangedItem) (xs ys : List GraphMember) (x : GraphMember)
    (ms : List GraphMember) → i < length cs → c ≡ get_or cs i c → ys ≡ xs ++ x ∷ [] → IsSuccessor c.item x
    → with_members (drop i cs) (put_all by_member xs ms) ≡ with_members cs ms
    → with_members (drop (i + 1) cs) (put_all by_member ys ms) ≡ with_members cs ms
more_put cs i c xs ys x ms lt is e s h =
    ap (with_members (drop (i + 1) cs))
    (ap (λ l. put_all by_member l ms) e ∙ all_with xs (x ∷ []) ms ∙ sym (put_by c x (put_all by_member xs ms) s))
    ∙ ap (λ l. with_members l (put_all by_member xs ms)) (sym (left_at cs i c lt is)) ∙ h

pub are_successors : (cs : List ChangedItem) (i : ℕ) (xs ms : List GraphMember) → length cs ≤ i → AllFit xs ms
    → with_members (drop i cs) (put_all by_member xs ms) ≡ with_members cs ms → AreSuccessors cs xs ms
are_successors cs i xs ms le f h =
    record { fit = f; put = ap (λ l. with_members l (put_all by_member xs ms)) (sym (drop_all i cs le)) ∙ h }

-- ---- by places

nodes_set : (all ms : List GraphMember) (p : ℕ) (m x : GraphMember) → slice_get ms p ≡ Some m
    → x.dependencies ≡ m.dependencies
    → map (node_of all) (slice_set ms p x) ≡ with_flags (map (node_of all) ms) p (flags_of x)
nodes_set all [] p m x e same = refl
nodes_set all (y ∷ ms) zero m x e same =
    λ i. record {
      flags = flags_of x;
      links = links_of all ((same ∙ ap (λ (z : GraphMember). z.dependencies) (sym (same_some y m e))) i);
    } ∷ map
    (node_of all) ms
nodes_set all (y ∷ ms) (suc p) m x e same = ap (λ l. node_of all y ∷ l) (nodes_set all ms p m x e same)

node_alike : (ms ks : List GraphMember) → map wires ms ≡ map wires ks → node_of ms ≡ node_of ks
node_alike ms ks h =
    fun_ext (λ (m : GraphMember). ap (λ l. record { flags = flags_of m; links = l })
    (links_by ms ks (places_same ms ks h) m.dependencies))

pub nodes_are_set : (ms ms' : List GraphMember) (p : ℕ) (m x : GraphMember) → slice_get ms p ≡ Some m
    → wires x ≡ wires m → ms' ≡ slice_set ms p x
    → with_flags (nodes_of ms) p (flags_of x) ≡ nodes_of ms'
nodes_are_set ms ms' p m x e same is =
    let wired : map wires ms' ≡ map wires ms = ap (map wires) is ∙ map_set wires ms p m x e same in
    sym (nodes_set ms ms p m x e (ap (λ (w : Wires). w.1) same)) ∙ ap (map (node_of ms)) (sym is)
    ∙ ap (λ (f : GraphMember → GraphNode). map f ms') (sym (node_alike ms' ms wired))

-- ---- events of cited instances

module _ (ms ks : List GraphMember) (p : ℕ) (apart : (a : ℕ) → (p ≡ a → ⊥) → slice_get ks a ≡ slice_get ms a) where
  events_stay : (f : GraphMember → Bool) (ps : List ℕ) → IsOut p ps
      → list_any (event_at f ks) ps ≡ list_any (event_at f ms) ps
  events_stay f [] out = refl
  events_stay f (q ∷ ps) out =
      λ i. option_map_or f (apart q (λ e. out.0 (sym e)) i) false || events_stay f ps out.1 i

  any_stay : (f : GraphMember → Bool) (es : List (List ℕ)) → AreOut p es
      → list_any (λ ps. list_any (event_at f ks) ps) es ≡ list_any (λ ps. list_any (event_at f ms) ps) es
  any_stay f [] out = refl
  any_stay f (ps ∷ es) out = λ i. events_stay f ps out.0 i || any_stay f es out.1 i

  pub stops_stay : (base : ℕ) (ls : List Link) → Avoid p ls
      → list_any (link_stops ks base) ls ≡ list_any (link_stops ms base) ls
  stops_stay base [] out = refl
  stops_stay base (l ∷ ls) out = λ i. any_stay (stops_by l.grouping l.restart_on base) l.cited out.0 i
      || stops_stay base ls out.1 i

-- ---- cycles

asks_alike : (a b : GraphMember) → a.name ≡ b.name → (es : List (List ℕ))
    → list_any (λ e. is_cited e a) es ≡ list_any (λ e. is_cited e b) es
asks_alike a b h [] = refl
asks_alike a b h (e ∷ es) = λ i. cited_same e a b h i || asks_alike a b h es i

any_asks : (a b : GraphMember) → a.name ≡ b.name → (ds : List Dependency)
    → list_any (asks_for a) ds ≡ list_any (asks_for b) ds
any_asks a b h [] = refl
any_asks a b h (d ∷ ds) = λ i. (not (excludes d.grouping) && asks_alike a b h d.entities i) || any_asks a b h ds i

asked_alike : (ds : Option (List Dependency)) (a b : GraphMember) → a.name ≡ b.name → asked_for ds a ≡ asked_for ds b
asked_alike None a b h = refl
asked_alike (Some ds) a b h = any_asks a b h ds

cites_alike : (a k b l : GraphMember) → wires a ≡ wires k → wires b ≡ wires l → cites a b ≡ cites k l
cites_alike a k b l e f = ap (λ (w : Wires). asked_for w.1 b) e
    ∙ asked_alike k.dependencies b l (ap (λ (w : Wires). w.0) f)

leads_alike : (ms ks : List GraphMember) → map wires ms ≡ map wires ks → (a k b l : GraphMember) → wires a ≡ wires k
    → wires b ≡ wires l → leads ms a b ≡ leads ks k l
unfolding leads
leads_alike [] [] h a k b l e f = cites_alike a k b l e f
leads_alike [] (y ∷ ks) h a k b l e f = absurd cc
leads_alike (x ∷ ms) [] h a k b l e f = absurd cc
leads_alike (x ∷ ms) (y ∷ ks) h a k b l e f =
    let rest = rest_same x y ms ks h in
    let first : wires x ≡ wires y = λ j. (name_same x y ms ks h j, needs_same x y ms ks h j) in
    λ i. leads_alike ms ks rest a k b l e f i
    || (leads_alike ms ks rest a k x y e first i && leads_alike ms ks rest x y b l first f i)

pub cycles_alike : (ms ks : List GraphMember) (m : GraphMember) → map wires ms ≡ map wires ks
    → on_cycle ms m ≡ on_cycle ks m
unfolding on_cycle
cycles_alike ms ks m h = leads_alike ms ks h m m m m refl refl

-- ---- one member takes the place of another

pub found_same : (ms ks : List GraphMember) (n : GraphMember) → all_met ks n ≡ all_met ms n
    → any_must_stop ks n.base n.dependencies ≡ any_must_stop ms n.base n.dependencies
    → on_cycle ks n ≡ on_cycle ms n → finding_of ks n ≡ finding_of ms n
unfolding finding_of
found_same ms ks n e f g =
    λ i. record { readable = is_some n.dependencies; all_met = e i; must_stop = f i; on_cycle = g i }

pub member_taken : (x : GraphMember) (ms ms' : List GraphMember) (ns ns' : List GraphNode) (p : ℕ) (was touched : List ℕ)
    → FitsAt x ms p → ms' ≡ slice_set ms p x
    → ns ≡ nodes_of ms → ns' ≡ nodes_of ms' → Reaches ns ns' p was touched → Stays ms ms' was touched
member_taken x ms ms' ns ns' p was touched h is linked linked' far =
    let wired : map wires ms' ≡ map wires ms = ap (map wires) is ∙ map_set wires ms p h.before x h.at h.alike in
    let size : length ns ≡ length ms = ap length linked ∙ length-map ms (node_of ms) in
    let apart : (a : ℕ) → (p ≡ a → ⊥) → slice_get ms' a ≡ slice_get ms a =
    λ a ne. ap (λ l. slice_get l a) is ∙ set_other ms p a x ne in
    let node : (a : ℕ) (n : GraphMember) → slice_get ms a ≡ Some n → slice_get ns a ≡ Some (node_of ms n) =
    λ a n at. ap (λ l. slice_get l a) linked ∙ node_got ms ms a n at in
    let there : (a : ℕ) (n : GraphMember) → IsOut a touched → slice_get ms a ≡ Some n → slice_get ms' a ≡ Some n =
    λ a n out at. apart a (far.apart a (node_of ms n) out (node a n at)).0 ∙ at in
    record {
      wired = wired;
      grown = λ a out less. let within : a < length ns = omega arith in far.grown a out within;
      remains = record {
        numbers = ap (map number) is ∙ map_set number ms p h.before x h.at (sym h.numbered);
        member = there;
        finding = λ a n out at.
            let within : a < length ns = let less = slice_get_within ms a n at in omega arith in
            found_same ms ms' n
            (sym (met_is ms' a n (there a n out at))
            ∙ ap (λ b. is_some n.dependencies && b)
            (ap (λ l. met_at l a) (sym linked') ∙ far.met a out within ∙ ap (λ l. met_at l a) linked)
            ∙ met_is ms a n at)
            (sym (stops_in ms' n.base n.dependencies)
            ∙ ap (list_any (link_stops ms' n.base)) (links_by ms' ms (places_same ms' ms wired) n.dependencies)
            ∙ stops_stay ms ms' p apart n.base (links_of ms n.dependencies)
            (far.apart a (node_of ms n) out (node a n at)).1
            ∙ stops_in ms n.base n.dependencies)
            (cycles_alike ms' ms n wired);
      };
    }

pub linked_again : (x : GraphMember) (ms ms' : List GraphMember) (ns ns' : List GraphNode) (p : ℕ) (f : Flags)
    → FitsAt x ms p → ms' ≡ slice_set ms p x → f ≡ flags_of x
    → ns ≡ nodes_of ms → ns' ≡ with_flags ns p f → ns' ≡ nodes_of ms'
linked_again x ms ms' ns ns' p f h is same linked set =
    set ∙ (λ j. with_flags (linked j) p (same j)) ∙ nodes_are_set ms ms' p h.before x h.at h.alike is

pub place_within : (x : GraphMember) (ms : List GraphMember) (ns : List GraphNode) (p : ℕ) → FitsAt x ms p
    → ns ≡ nodes_of ms → p < length ns
place_within x ms ns p h linked =
    let size : length ns ≡ length ms = ap length linked ∙ length-map ms (node_of ms) in
    let within = slice_get_within ms p h.before h.at in omega arith

pub as_many : (ms : List GraphMember) (ns : List GraphNode) (capacity : ℕ) → ns ≡ nodes_of ms → length ms ≤ capacity
    → length ns ≤ capacity
as_many ms ns capacity linked le =
    let size : length ns ≡ length ms = ap length linked ∙ length-map ms (node_of ms) in omega arith

pub whole : {X : Type 0} (done all : List X) (i : ℕ) → length all ≤ i → done ++ drop i all ≡ all → done ≡ all
whole done all i le h = sym (append-nil done) ∙ ap (λ l. done ++ l) (sym (drop_all i all le)) ∙ h

-- ---- one member after another

pub with_more : (xs : List GraphMember) (x : GraphMember) (rest ms ms' first : List GraphMember)
    → rest ≡ x ∷ xs → ms' ≡ list_with_item by_member x ms
    → put_all by_member rest ms ≡ first → put_all by_member xs ms' ≡ first
with_more xs x rest ms ms' first is e h = ap (put_all by_member xs) e ∙ ap (λ l. put_all by_member l ms) (sym is) ∙ h

pub next_fits : (xs : List GraphMember) (x : GraphMember) (rest ms : List GraphMember) → rest ≡ x ∷ xs
    → AllFit rest ms → Fits x ms × AllFit xs ms
next_fits xs x rest ms is h = let P : List GraphMember → Type 0 = λ l. AllFit l ms in subst P is h

pub more_fits : (xs : List GraphMember) (x : GraphMember) (rest ms ms' : List GraphMember) → rest ≡ x ∷ xs
    → ms' ≡ list_with_item by_member x ms → Rises by_member ms → AllFit rest ms → AllFit xs ms'
more_fits xs x rest ms ms' is e r h =
    let two = next_fits xs x rest ms is h in
    let P : List GraphMember → Type 0 = AllFit xs in
    subst P (sym e) (rest_fits x xs ms r two.0 two.1)

pub stays_size : (a b : List GraphMember) (was touched : List ℕ) → Stays a b was touched → length b ≡ length a
stays_size a b was touched f = sym (length-map b number) ∙ ap length f.remains.numbers ∙ length-map a number

pub stays_none : (ms : List GraphMember) (was : List ℕ) → Stays ms ms was was
stays_none ms was =
    record {
      wired = refl;
      grown = λ a out less. out;
      remains = record { numbers = refl; member = λ a m out at. at; finding = λ a m out at. refl };
    }

pub stays_then : (a b c : List GraphMember) (was between touched : List ℕ) → Stays a b was between
    → Stays b c between touched → Stays a c was touched
stays_then a b c was between touched f g =
    let size = stays_size a b was between f in
    let within : (x : ℕ) → x < length a → x < length b = λ x less. omega arith in
    record {
      wired = g.wired ∙ f.wired;
      grown = λ x out less. f.grown x (g.grown x out (within x less)) less;
      remains = record {
        numbers = g.remains.numbers ∙ f.remains.numbers;
        member = λ x m out at.
            let before = g.grown x out (within x (slice_get_within a x m at)) in
            g.remains.member x m out (f.remains.member x m before at);
        finding = λ x m out at.
            let before = g.grown x out (within x (slice_get_within a x m at)) in
            g.remains.finding x m out (f.remains.member x m before at) ∙ f.remains.finding x m before at;
      };
    }

-- ---- by numbers

pub number_of : (ms ks : List GraphMember) (a : ℕ) (m : GraphMember) → map number ms ≡ map number ks
    → slice_get ms a ≡ Some m → (k : GraphMember) × (slice_get ks a ≡ Some k) × (k.instance ≡ m.instance)
number_of [] ks a m h e = absurd cc
number_of (x ∷ ms) [] a m h e = absurd cc
number_of (x ∷ ms) (y ∷ ks) zero m h e =
    let first : x.instance ≡ y.instance = cc in
    (y, refl, sym first ∙ ap (λ (z : GraphMember). z.instance) (same_some x m e))
number_of (x ∷ ms) (y ∷ ks) (suc a) m h e = let rest : map number ms ≡ map number ks = cc in number_of ms ks a m rest e

pub by_numbers : (ms ks : List GraphMember) (touched numbers : List ℕ) → Rises by_member ms → Rises by_member ks
    → Remains ms ks touched
    → ((a : ℕ) (m : GraphMember) → slice_get ks a ≡ Some m → IsOut m.instance numbers → IsOut a touched)
    → OthersStay ms ks numbers
by_numbers ms ks touched numbers r r' h named =
    record {
      member = λ n out. by n out (lookup by_member ms n) refl (lookup by_member ks n) refl;
      finding = λ n m out e. found n m out e;
    }
  where
    -- an instance that is looked up afterwards was there before, if it is not touched
    back : (n : ℕ) (m : GraphMember) → IsOut n numbers → lookup by_member ks n ≡ Some m
        → (a : ℕ) × (slice_get ms a ≡ Some m) × IsOut a touched
    back n m out e =
        let at = at_found by_member ks n m e in
        let P : ℕ → Type 0 = λ k. IsOut k numbers in
        let free = named at.0 m at.1 (subst P (sym at.2) out) in
        let was_there = number_of ks ms at.0 m h.numbers at.1 in
        let stayed = h.member at.0 was_there.0 free was_there.1 in
        (at.0, was_there.1 ∙ ap (λ z. Some z) (same_some _ _ (sym stayed ∙ at.1)), free)

    forth : (n : ℕ) (m : GraphMember) → IsOut n numbers → lookup by_member ms n ≡ Some m
        → lookup by_member ks n ≡ Some m
    forth n m out e =
        let at = at_found by_member ms n m e in
        let is_there = number_of ms ks at.0 m (sym h.numbers) at.1 in
        let P : ℕ → Type 0 = λ k. IsOut k numbers in
        let free = named at.0 is_there.0 is_there.1 (subst P (sym (is_there.2 ∙ at.2)) out) in
        let stayed = h.member at.0 m free at.1 in
        let Q : ℕ → Type 0 = λ k. lookup by_member ks k ≡ Some m in
        subst Q at.2 (found_at by_member ks at.0 m r' stayed)

    by : (n : ℕ) → IsOut n numbers → (o : Option GraphMember) → lookup by_member ms n ≡ o → (q : Option GraphMember)
        → lookup by_member ks n ≡ q → lookup by_member ks n ≡ lookup by_member ms n
    by n out (Some m) e q f = forth n m out e ∙ sym e
    by n out None e None f = f ∙ sym e
    by n out None e (Some m) f =
        let at = back n m out f in
        let there = found_at by_member ms at.0 m r at.1 in
        let here = (at_found by_member ks n m f).2 in
        let Q : ℕ → Type 0 = λ k. lookup by_member ms k ≡ Some m in
        let both : None ≡ Some m = sym e ∙ subst Q here there in absurd (none_is both)
      where
        none_is : None ≡ Some m → ⊥
        none_is g = cc

    found : (n : ℕ) (m : GraphMember) → IsOut n numbers → lookup by_member ks n ≡ Some m
        → finding_of ks m ≡ finding_of ms m
    found n m out e = let at = back n m out e in h.finding at.0 m at.2 at.1

-- the same over what a call names
pub by_touched : (ms ks shown : List GraphMember) (touched places numbers given : List ℕ) → Rises by_member ms
    → Rises by_member ks → Remains ms ks touched
    → shown ≡ ks → places ≡ touched → given ≡ numbers
    → ((a : ℕ) (m : GraphMember) → slice_get shown a ≡ Some m → IsOut m.instance numbers → IsOut a places)
    → OthersStay ms ks given
by_touched ms ks shown touched places numbers given r r' h es et eg named =
    by_numbers ms ks touched given r r' h
    (λ a m at out.
    let P : List ℕ → Type 0 = IsOut a in
    let Q : List ℕ → Type 0 = IsOut m.instance in
    subst P et (named a m (ap (λ l. slice_get l a) es ∙ at) (subst Q eg out)))

-- ---- if all numbers are named

not_there : (ms : List GraphMember) (n : ℕ) → IsOut n (map number ms) → (o : Option GraphMember)
    → lookup by_member ms n ≡ o → o ≡ None
not_there ms n out None e = refl
not_there ms n out (Some m) e = let at = at_found by_member ms n m e in absurd (named ms at.0 m out at.1 at.2)
  where
    named : (ms : List GraphMember) (a : ℕ) (m : GraphMember) → IsOut n (map number ms) → slice_get ms a ≡ Some m
        → m.instance ≡ n → ⊥
    named [] a m out at is = cc
    named (x ∷ ms) zero m out at is = out.0 (ap (λ (z : GraphMember). z.instance) (same_some x m at) ∙ is)
    named (x ∷ ms) (suc a) m out at is = named ms a m out.1 at is

pub all_named : (ms ks : List GraphMember) (numbers : List ℕ) → numbers ≡ map number ks ++ map number ms
    → OthersStay ms ks numbers
all_named ms ks numbers e =
    let gone : (n : ℕ) → IsOut n numbers → lookup by_member ks n ≡ None =
    λ n out. let P : List ℕ → Type 0 = IsOut n in
    not_there ks n (out_left n (map number ks) (map number ms) (subst P e out)) (lookup by_member ks n) refl in
    record {
      member = λ n out.
          let P : List ℕ → Type 0 = IsOut n in
          gone n out ∙ sym (not_there ms n (out_right n (map number ks) (map number ms) (subst P e out))
          (lookup by_member ms n) refl);
      finding = λ n m out f. absurd (none_is m (sym (gone n out) ∙ f));
    }
  where
    none_is : (m : GraphMember) → None ≡ Some m → ⊥
    none_is m g = cc

-- ---- numbers of places

number_here : (ms : List GraphMember) (a : ℕ) (m : GraphMember) → slice_get ms a ≡ Some m → number_at ms a ≡ m.instance
number_here ms a m e = ap (λ (o : Option GraphMember). number_in o) e

pub named_by : (ms : List GraphMember) (places : List ℕ) (a : ℕ) (m : GraphMember) → slice_get ms a ≡ Some m
    → IsOut m.instance (map (number_at ms) places) → IsOut a places
named_by ms [] a m e out = tt
named_by ms (p ∷ places) a m e out =
    ((λ same. out.0 (ap (number_at ms) same ∙ number_here ms a m e)), named_by ms places a m e out.1)

pub named_by_all : (ms : List GraphMember) (places : List ℕ) (a : ℕ) (m : GraphMember) → slice_get ms a ≡ Some m
    → IsOut m.instance (map number ms) → IsOut a places
named_by_all [] places a m e out = absurd cc
named_by_all (x ∷ ms) places zero m e out = absurd (out.0 (ap (λ (z : GraphMember). z.instance) (same_some x m e)))
named_by_all (x ∷ ms) places (suc a) m e out = absurd (gone ms a e out.1)
  where
    gone : (ms : List GraphMember) (a : ℕ) → slice_get ms a ≡ Some m → IsOut m.instance (map number ms) → ⊥
    gone [] a e out = cc
    gone (y ∷ ms) zero e out = out.0 (ap (λ (z : GraphMember). z.instance) (same_some y m e))
    gone (y ∷ ms) (suc a) e out = gone ms a e out.1
