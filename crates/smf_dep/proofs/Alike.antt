-- Members kept of an earlier view are those of a later one, if they were read from the same.
use Rattle.std.proofs.Common.{◌≡◌, ℕ, ◌+◌, ◌<◌, ◌≤◌, List, [], ◌∷◌, map, length, drop, get_or, Bool, true, false, if◌then◌else◌, Option, Some, None, refl, sym, ap, ◌∙◌, subst}
use Rattle.std.proofs.Math.Path.{fun_ext}
use Rattle.std.specs.List.{AllZip}
use Rattle.std.specs.Prelude.{nat_eq}
use Rattle.std.specs.Cmp.Lexicographic.{pointwise}
use Rattle.smf_fmri.specs.Patterns.{service_of}
use Rattle.smf_state.specs.declared.view.ViewItem.{ViewItem}
use Rattle.smf_value.proofs.EditLoops.{left_at}
use Rattle.smf_links.specs.declared.link.Link.{Link}
use Rattle.smf_links.specs.declared.link.GraphNode.{GraphNode}
use Rattle.smf_dep.specs.declared.dependency.Dependency.{Dependency}
use Rattle.smf_dep.specs.declared.member.GraphMember.{GraphMember}
use Rattle.smf_dep.specs.Members.{HasNumbersOf, HasStateOf, IsOfItem, IsReadFrom, composed_in, dependencies_in, member_of, member_with, members, snapshot_in, wires}
use Rattle.smf_dep.specs.Methods.{has_unfit_methods}
use Rattle.smf_dep.specs.Names.{instance_name}
use Rattle.smf_dep.specs.Places.{IsBeginning, all_links, edges_in, edges_of, links_among, links_of, node_of, nodes_of, places, places_from}
use Rattle.smf_dep.specs.Verdicts.{cites_by, is_cited}
use Rattle.smf_dep.proofs.Behind.{drop_all}

-- ---- members

pub of_item : (i : ViewItem) (m : GraphMember) → IsOfItem i m → member_with i m.composed m.dependencies ≡ member_of i
unfolding member_of
of_item i m h = λ j. member_with i (h.groups j) (h.needs j)

pub read_of : (i : ViewItem) (owner : List ℕ) (body : Option (List ℕ)) (unfit : Bool) (m : GraphMember)
    → m ≡ member_of i → owner ≡ i.row.owner → body ≡ i.body
    → unfit ≡ has_unfit_methods owner m.name m.composed → IsReadFrom owner body unfit m
unfolding member_of
read_of i owner body unfit m e o b u =
    record {
      groups = ap (λ (x : GraphMember). x.composed) e ∙ ap (λ y. composed_in (snapshot_in y)) (sym b);
      needs = ap (λ (x : GraphMember). x.dependencies) e ∙ (λ j. dependencies_in (sym o j) (snapshot_in (sym b j)));
      methods = u;
    }

pub read_again : (i : ViewItem) (owner : List ℕ) (body : Option (List ℕ)) (unfit : Bool) (m now : GraphMember)
    → IsReadFrom owner body unfit m → IsOfItem i m
    → now ≡ member_of i → IsReadFrom owner body unfit now
read_again i owner body unfit m now r h e =
    let same : now ≡ member_with i m.composed m.dependencies = e ∙ sym (of_item i m h) in
    let name : m.name ≡ now.name = h.name ∙ sym (ap (λ (x : GraphMember). x.name) same) in
    let groups : m.composed ≡ now.composed = sym (ap (λ (x : GraphMember). x.composed) same) in
    record {
      groups = sym groups ∙ r.groups;
      needs = ap (λ (x : GraphMember). x.dependencies) same ∙ r.needs;
      methods = r.methods ∙ (λ j. has_unfit_methods owner (name j) (groups j));
    }

-- with the state of the item too it is what is read of the item
pub of_state : (i : ViewItem) (m : GraphMember) → IsOfItem i m → HasStateOf i m → HasNumbersOf i.row m → m ≡ member_of i
unfolding member_of
of_state i m h s n =
    λ j. record {
      instance = s.instance j;
      name = h.name j;
      enabled = s.enabled j;
      state = s.state j;
      next = s.next j;
      base = n.base j;
      err = n.err j;
      stop = n.stop j;
      refresh = n.refresh j;
      start = n.start j;
      composed = h.groups j;
      dependencies = h.needs j;
    }

pub alike : (i : ViewItem) (k : GraphMember) → IsOfItem i k → wires (member_of i) ≡ wires k
unfolding member_of
alike i k h = λ j. (sym h.name j, sym h.needs j)

-- ---- a list of members, one after another

pub all_alike : (items : List ViewItem) (ks : List GraphMember) → AllZip IsOfItem items ks
    → map wires (members items) ≡ map wires ks
all_alike [] [] h = refl
all_alike [] (k ∷ ks) h = absurd h
all_alike (i ∷ items) [] h = absurd h
all_alike (i ∷ items) (k ∷ ks) h = λ j. alike i k h.0 j ∷ all_alike items ks h.1 j

pub zip_more : {A B : Type 0} (R : A → B → Type 0) (xs : List A) (ys : List B) (i : ℕ) (x : A) (y : B) → i < length xs
    → x ≡ get_or xs i x
    → i < length ys → y ≡ get_or ys i y → R x y → AllZip R (drop (i + 1) xs) (drop (i + 1) ys)
    → AllZip R (drop i xs) (drop i ys)
zip_more R xs ys i x y lt e less g r rest =
    subst (λ l. AllZip R l (drop i ys)) (sym (left_at xs i x lt e))
    (subst (λ l. AllZip R (x ∷ drop (i + 1) xs) l) (sym (left_at ys i y less g)) (r, rest))

pub map_more : {A B : Type 0} (f : A → B) (xs : List A) (ys : List B) (i : ℕ) (x : A) (y : B) → i < length xs
    → x ≡ get_or xs i x
    → i < length ys → y ≡ get_or ys i y → y ≡ f x → drop (i + 1) ys ≡ map f (drop (i + 1) xs)
    → drop i ys ≡ map f (drop i xs)
map_more f xs ys i x y lt e less g r rest =
    left_at ys i y less g ∙ (λ j. r j ∷ rest j) ∙ sym (ap (map f) (left_at xs i x lt e))

pub zip_end : {A B : Type 0} (R : A → B → Type 0) (xs : List A) (ys : List B) (i : ℕ) → length xs ≤ i → length ys ≤ i
    → AllZip R (drop i xs) (drop i ys)
zip_end R xs ys i le less =
    subst (λ l. AllZip R l (drop i ys)) (sym (drop_all xs i le))
    (subst (λ l. AllZip R [] l) (sym (drop_all ys i less)) tt)

pub map_end : {A B : Type 0} (f : A → B) (xs : List A) (ys : List B) (i : ℕ) → length xs ≤ i → length ys ≤ i
    → drop i ys ≡ map f (drop i xs)
map_end f xs ys i le less = drop_all ys i less ∙ sym (ap (map f) (drop_all xs i le))

abbrev pub Wires : Type 0
Wires = List ℕ × Option (List Dependency)

-- ---- dependencies by places

abbrev head_or : Wires → List Wires → Wires
head_or other [] = other
head_or other (x ∷ xs) = x

pub name_same : (m k : GraphMember) (ms ks : List GraphMember) → map wires (m ∷ ms) ≡ map wires (k ∷ ks)
    → m.name ≡ k.name
name_same m k ms ks h = ap (λ l. (head_or (wires m) l).0) h

pub needs_same : (m k : GraphMember) (ms ks : List GraphMember) → map wires (m ∷ ms) ≡ map wires (k ∷ ks)
    → m.dependencies ≡ k.dependencies
needs_same m k ms ks h = ap (λ l. (head_or (wires m) l).1) h

pub rest_same : (m k : GraphMember) (ms ks : List GraphMember) → map wires (m ∷ ms) ≡ map wires (k ∷ ks)
    → map wires ms ≡ map wires ks
rest_same m k ms ks h = cc

cites_same : (b : Bool) (e : List ℕ) (m k : GraphMember) → m.name ≡ k.name → cites_by b e m ≡ cites_by b e k
cites_same true e m k h = ap (λ n. pointwise nat_eq n e) h
cites_same false e m k h = ap (λ n. pointwise nat_eq (service_of n) (service_of e)) h

pub cited_same : (e : List ℕ) (m k : GraphMember) → m.name ≡ k.name → is_cited e m ≡ is_cited e k
cited_same e m k h = cites_same _ e m k h

from_named : (e : List ℕ) (at : ℕ) (ms ks : List GraphMember) → map instance_name ms ≡ map instance_name ks
    → places_from at e ms ≡ places_from at e ks
from_named e at [] [] h = refl
from_named e at [] (k ∷ ks) h = absurd cc
from_named e at (m ∷ ms) [] h = absurd cc
from_named e at (m ∷ ms) (k ∷ ks) h =
    let first : m.name ≡ k.name = cc in
    let rest : map instance_name ms ≡ map instance_name ks = cc in
    λ i. if cited_same e m k first i then at ∷ from_named e (at + 1) ms ks rest i
    else from_named e (at + 1) ms ks rest i

pub places_named : (ms ks : List GraphMember) → map instance_name ms ≡ map instance_name ks → places ms ≡ places ks
unfolding places
places_named ms ks h = fun_ext (λ e. from_named e 0 ms ks h)

pub names_in : (ms ks : List GraphMember) → map wires ms ≡ map wires ks → map instance_name ms ≡ map instance_name ks
names_in [] [] h = refl
names_in [] (k ∷ ks) h = absurd cc
names_in (m ∷ ms) [] h = absurd cc
names_in (m ∷ ms) (k ∷ ks) h = λ i. name_same m k ms ks h i ∷ names_in ms ks (rest_same m k ms ks h) i

pub places_same : (ms ks : List GraphMember) → map wires ms ≡ map wires ks → places ms ≡ places ks
places_same ms ks h = places_named ms ks (names_in ms ks h)

pub links_by : (ms ks : List GraphMember) → places ms ≡ places ks → (ds : Option (List Dependency))
    → links_of ms ds ≡ links_of ks ds
links_by ms ks p None = refl
links_by ms ks p (Some ds) =
    λ i. map (λ (d : Dependency).
    record { grouping = d.grouping; restart_on = d.restart_on; cited = map (p i) d.entities }) ds

among_by : (ms ks : List GraphMember) → places ms ≡ places ks → (xs : List GraphMember)
    → links_among ms xs ≡ links_among ks xs
among_by ms ks p [] = refl
among_by ms ks p (x ∷ xs) = λ i. links_by ms ks p x.dependencies i ∷ among_by ms ks p xs i

among_alike : (all ms ks : List GraphMember) → map wires ms ≡ map wires ks → links_among all ms ≡ links_among all ks
among_alike all [] [] h = refl
among_alike all [] (k ∷ ks) h = absurd cc
among_alike all (m ∷ ms) [] h = absurd cc
among_alike all (m ∷ ms) (k ∷ ks) h =
    λ i. links_of all (needs_same m k ms ks h i) ∷ among_alike all ms ks (rest_same m k ms ks h) i

among_same : (ms ks : List GraphMember) → map wires ms ≡ map wires ks → links_among ms ms ≡ links_among ks ks
among_same ms ks h = among_by ms ks (places_same ms ks h) ms ∙ among_alike ks ms ks h

links_in : (all ms : List GraphMember) → all_links (map (node_of all) ms) ≡ links_among all ms
links_in all [] = refl
links_in all (m ∷ ms) = ap (λ l. links_of all m.dependencies ∷ l) (links_in all ms)

begins : (xs : List (List Link)) → IsBeginning xs xs
begins [] = tt
begins (x ∷ xs) = (refl, begins xs)

links_alike : (ms ks : List GraphMember) (ns : List GraphNode) → ns ≡ nodes_of ks → map wires ms ≡ map wires ks
    → all_links ns ≡ links_among ms ms
links_alike ms ks ns e h = ap all_links e ∙ links_in ks ks ∙ sym (among_same ms ks h)

pub links_kept : (ms ks : List GraphMember) (ns : List GraphNode) → ns ≡ nodes_of ks → map wires ms ≡ map wires ks
    → IsBeginning (all_links ns) (links_among ms ms)
links_kept ms ks ns e h = subst (IsBeginning (all_links ns)) (links_alike ms ks ns e h) (begins (all_links ns))

-- ---- cycles

by_links : (ns : List GraphNode) → edges_of ns ≡ map edges_in (all_links ns)
by_links [] = refl
by_links (n ∷ ns) = ap (λ l. edges_in n.links ∷ l) (by_links ns)

pub edges_kept : (ms ks : List GraphMember) (ns now : List GraphNode) (es : List (List ℕ)) → ns ≡ nodes_of ks
    → now ≡ nodes_of ms → map wires ms ≡ map wires ks → es ≡ edges_of ns → es ≡ edges_of now
edges_kept ms ks ns now es e g h are =
    are ∙ by_links ns ∙ ap (map edges_in) (links_alike ms ks ns e h ∙ sym (links_in ms ms) ∙ ap all_links (sym g))
    ∙ sym (by_links now)
