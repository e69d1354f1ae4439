-- Instances that come after all others, and those that go from there again.
use Rattle.std.proofs.Common.{◌≡◌, ℕ, zero, suc, ◌+◌, ◌-◌, ◌<◌, ◌≤◌, List, [], ◌∷◌, ◌++◌, map, length, take, Bool, true, false, if◌then◌else◌, Option, Some, None, refl, sym, ap, ◌∙◌, subst, inl, inr, arith, append_assoc, length-append}
use Rattle.std.specs.Prelude.{IsTrue, slice_get}
use Rattle.std.specs.Option.{unwrap_or}
use Rattle.std.proofs.lemmas.Bool.{cases_eq}
use Rattle.std.proofs.lemmas.List.{append-nil, length-map, length-take-le, map-append, take-take, take_all, take_at}
use Rattle.std.proofs.lemmas.Option.{slice_get_past}
use Rattle.smf_cycles.specs.Paths as paths
use Rattle.smf_cycles.proofs.Arrival.{arrival_on_no_cycle, cycles_before}
use Rattle.smf_links.specs.declared.link.GraphNode.{GraphNode}
use Rattle.smf_links.specs.Blockage.{IsOut, met_at}
use Rattle.smf_links.specs.Stamps.{AreFree, AreOut, Avoid, IsLast}
use Rattle.smf_dep.specs.declared.dependency.Dependency.{Dependency}
use Rattle.smf_dep.specs.declared.member.GraphMember.{GraphMember}
use Rattle.smf_dep.specs.Places.{AreCyclesOf, edges_in, edges_of, flag_at, link_of, links_of, node_of, nodes_of, places, places_from}
use Rattle.smf_dep.specs.Updates.{AreJoined, blank_of, no_edges, no_flag}
use Rattle.smf_dep.specs.Verdicts.{is_cited}
use Rattle.smf_dep.proofs.CyclePlaces.{cites_none}
use Rattle.smf_dep.proofs.Updates.{same_some}

-- ---- lists with one item more

got_before : {X : Type 0} (xs : List X) (x : X) (a : ℕ) → (length xs ≡ a → ⊥)
    → slice_get (xs ++ x ∷ []) a ≡ slice_get xs a
got_before [] x zero ne = absurd (ne refl)
got_before [] x (suc a) ne = refl
got_before (y ∷ xs) x zero ne = refl
got_before (y ∷ xs) x (suc a) ne = got_before xs x a (λ e. ne (ap suc e))

got_last : {X : Type 0} (xs : List X) (x : X) → slice_get (xs ++ x ∷ []) (length xs) ≡ Some x
got_last [] x = refl
got_last (y ∷ xs) x = got_last xs x

-- the last item of a list, and those before it
record Ends {X : Type 0} (xs : List X) : Type 0 where
  front : List X
  last : X
  whole : xs ≡ front ++ last ∷ []

ends : {X : Type 0} (x : X) (xs : List X) → Ends (x ∷ xs)
ends x [] = record { front = []; last = x; whole = refl }
ends x (y ∷ ys) =
    let rest = ends y ys in
    record { front = x ∷ rest.front; last = rest.last; whole = ap (λ l. x ∷ l) rest.whole }

ends_of : {X : Type 0} (xs : List X) → 0 < length xs → Ends xs
ends_of [] some = absurd (omega (arith, some))
ends_of (x ∷ xs) some = ends x xs

all_but : {X : Type 0} (xs others : List X) (x : X) → xs ≡ others ++ x ∷ [] → take (length xs - 1) xs ≡ others
all_but xs others x e =
    let size : length others ≡ length xs - 1 =
    let a = ap length e in let b = length-append others (x ∷ []) in omega arith in
    ap (take (length xs - 1)) e ∙ take_at others (x ∷ []) (length xs - 1) size

pub one_less : {X : Type 0} (xs now : List X) → now ≡ take (length xs - 1) xs → length now ≡ length xs - 1
one_less xs now cut =
    let le : length xs - 1 ≤ length xs = omega arith in ap length cut ∙ length-take-le (length xs - 1) xs le

-- one item less, where those that are to stay are left
pub fewer : {X : Type 0} (xs was now : List X) (count : ℕ) → count < length xs → take count xs ≡ take count was
    → now ≡ take (length xs - 1) xs → take count now ≡ take count was
fewer xs was now count less same cut =
    let le : count ≤ length xs - 1 = omega arith in
    ap (take count) cut ∙ take-take count (length xs - 1) xs le ∙ same

-- ---- no link cites a place after those that were there

out_from : (e : List ℕ) (xs : List GraphMember) (at b : ℕ) → at + length xs ≤ b → IsOut b (places_from at e xs)
out_from e [] at b le = tt
out_from e (x ∷ xs) at b le =
    let less : at + 1 + length xs ≤ b = omega arith in
    by (is_cited e x) (out_from e xs (at + 1) b less)
  where
    by : (c : Bool) → IsOut b (places_from (at + 1) e xs)
        → IsOut b (if c then at ∷ places_from (at + 1) e xs else places_from (at + 1) e xs)
    by true rest = ((λ k. omega (arith, k, le)), rest)
    by false rest = rest

out_of_places : (e : List ℕ) (ms : List GraphMember) (b : ℕ) → length ms ≤ b → IsOut b (places ms e)
unfolding places
out_of_places e ms b le = out_from e ms 0 b (omega arith)

out_of_cited : (ms : List GraphMember) (b : ℕ) → length ms ≤ b → (es : List (List ℕ))
    → AreOut b (map (places ms) es)
out_of_cited ms b le [] = tt
out_of_cited ms b le (e ∷ es) = (out_of_places e ms b le, out_of_cited ms b le es)

out_of_groups : (ms : List GraphMember) (b : ℕ) → length ms ≤ b → (ds : List Dependency)
    → Avoid b (map (link_of ms) ds)
out_of_groups ms b le [] = tt
out_of_groups ms b le (d ∷ ds) = (out_of_cited ms b le d.entities, out_of_groups ms b le ds)

pub out_of_links : (ms : List GraphMember) (b : ℕ) → length ms ≤ b → (o : Option (List Dependency))
    → Avoid b (links_of ms o)
out_of_links ms b le None = tt
out_of_links ms b le (Some ds) = out_of_groups ms b le ds

out_of_node : (b : ℕ) (k n : GraphNode) → Some k ≡ Some n → Avoid b k.links → Avoid b n.links
out_of_node b k n e h =
    let P : GraphNode → Type 0 = λ (l : GraphNode). Avoid b l.links in subst P (same_some k n e) h

out_of_each : (ms xs arrivals : List GraphMember) (b : ℕ) → length ms ≤ b → (a : ℕ) (n : GraphNode)
    → slice_get (map (node_of ms) xs ++ map blank_of arrivals) a ≡ Some n → Avoid b n.links
out_of_each ms [] [] b le a n e = absurd cc
out_of_each ms [] (y ∷ ys) b le zero n e = out_of_node b (blank_of y) n e tt
out_of_each ms [] (y ∷ ys) b le (suc a) n e = out_of_each ms [] ys b le a n e
out_of_each ms (x ∷ xs) ys b le zero n e = out_of_node b (node_of ms x) n e (out_of_links ms b le x.dependencies)
out_of_each ms (x ∷ xs) ys b le (suc a) n e = out_of_each ms xs ys b le a n e

joined_size : (before arrivals : List GraphMember)
    → length (nodes_of before ++ map blank_of arrivals) ≡ length before + length arrivals
joined_size before arrivals =
    let a = length-append (nodes_of before) (map blank_of arrivals) in
    let b = length-map before (node_of before) in
    let c = length-map arrivals blank_of in omega arith

-- no instance knows the place after those that came
none_cites : (before arrivals : List GraphMember) (ns : List GraphNode) → ns ≡ nodes_of before ++ map blank_of arrivals
    → (a : ℕ) (n : GraphNode) → slice_get ns a ≡ Some n → Avoid (length ns) n.links
none_cites before arrivals ns is a n at =
    let size = ap length is in let parts = joined_size before arrivals in
    let le : length before ≤ length ns = omega arith in
    out_of_each before before arrivals (length ns) le a n (ap (λ l. slice_get l a) (sym is) ∙ at)

pub free_after : (all : List GraphMember) (count : ℕ) (ns : List GraphNode) (m : GraphMember)
    → AreJoined all count ns → AreFree ns (blank_of m)
free_after all count ns m h = record { others = none_cites h.before h.arrivals ns h.nodes; own = tt }

-- ---- one instance less

some_came : (all : List GraphMember) (count : ℕ) (ns : List GraphNode) → (h : AreJoined all count ns)
    → count < length all → 0 < length h.arrivals
some_came all count ns h less =
    let a = ap length h.members in let b = length-append h.before h.arrivals in let c = h.size in omega arith

-- the instances but the last
front_nodes : (before arrivals front : List GraphMember) (last : GraphMember) (ns : List GraphNode)
    → ns ≡ nodes_of before ++ map blank_of arrivals → arrivals ≡ front ++ last ∷ []
    → ns ≡ (nodes_of before ++ map blank_of front) ++ blank_of last ∷ []
front_nodes before arrivals front last ns is cut =
    is ∙ ap (λ l. nodes_of before ++ map blank_of l) cut
    ∙ ap (λ l. nodes_of before ++ l) (map-append blank_of front (last ∷ []))
    ∙ sym (append_assoc (nodes_of before) (map blank_of front) (blank_of last ∷ []))

pub last_came : (all : List GraphMember) (count : ℕ) (ns : List GraphNode) → AreJoined all count ns
    → count < length all → IsLast ns
last_came all count ns h less =
    let cut = ends_of h.arrivals (some_came all count ns h less) in
    record {
      others = nodes_of h.before ++ map blank_of cut.front;
      last = blank_of cut.last;
      ends = front_nodes h.before h.arrivals cut.front cut.last ns h.nodes cut.whole;
      free = none_cites h.before cut.front (nodes_of h.before ++ map blank_of cut.front) refl;
    }

-- what is left without the last instance
pub last_left : (ns ns' : List GraphNode) → IsLast ns
    → ((others : List GraphNode) (last : GraphNode) → ns ≡ others ++ last ∷ [] → ns' ≡ others)
    → ns' ≡ take (length ns - 1) ns
last_left ns ns' h left = left h.others h.last h.ends ∙ sym (all_but ns h.others h.last h.ends)

pub joined_less : (all all' : List GraphMember) (count : ℕ) (ns ns' : List GraphNode) → AreJoined all count ns
    → count < length all → all' ≡ take (length all - 1) all → ns' ≡ take (length ns - 1) ns → AreJoined all' count ns'
joined_less all all' count ns ns' h less members nodes =
    let cut = ends_of h.arrivals (some_came all count ns h less) in
    let whole : all ≡ (h.before ++ cut.front) ++ cut.last ∷ [] =
    h.members ∙ ap (λ l. h.before ++ l) cut.whole ∙ sym (append_assoc h.before cut.front (cut.last ∷ [])) in
    record {
      before = h.before;
      arrivals = cut.front;
      members = members ∙ all_but all (h.before ++ cut.front) cut.last whole;
      size = h.size;
      nodes =
          nodes
          ∙ all_but ns (nodes_of h.before ++ map blank_of cut.front) (blank_of cut.last)
          (front_nodes h.before h.arrivals cut.front cut.last ns h.nodes cut.whole);
    }

-- ---- all that came went again

pub left_items : {X : Type 0} (xs was : List X) (count : ℕ) → length xs ≤ count → take count xs ≡ take count was
    → xs ≡ take count was
left_items xs was count le same = sym (take_all count xs le) ∙ same

pub none_left : (all : List GraphMember) (count : ℕ) (ns : List GraphNode) → AreJoined all count ns
    → length all ≤ count → ns ≡ nodes_of all
none_left all count ns h le =
    by h.arrivals (let a = ap length h.members in let b = length-append h.before h.arrivals in
    let c = h.size in omega arith) h.members h.nodes
  where
    by : (arrivals : List GraphMember) → length arrivals ≤ 0 → all ≡ h.before ++ arrivals
        → ns ≡ nodes_of h.before ++ map blank_of arrivals → ns ≡ nodes_of all
    by [] none members nodes =
        nodes ∙ append-nil (nodes_of h.before) ∙ ap nodes_of (sym (append-nil h.before) ∙ sym members)
    by (x ∷ xs) none members nodes = absurd (omega (arith, none))

-- ---- the places of those that came have no edges

pub edges_size : (ms : List GraphMember) (ns : List GraphNode) (es : List (List ℕ)) → ns ≡ nodes_of ms
    → es ≡ edges_of ns → length es ≡ length ms
edges_size ms ns es linked edged =
    ap length edged ∙ length-map ns (λ (k : GraphNode). edges_in k.links)
    ∙ ap length linked ∙ length-map ms (node_of ms)

pub edges_joined : (ns ns' : List GraphNode) (arrivals : List GraphMember) (es es' : List (List ℕ)) → es ≡ edges_of ns
    → ns' ≡ ns ++ map blank_of arrivals → es' ≡ es ++ map no_edges arrivals → es' ≡ edges_of ns'
edges_joined ns ns' arrivals es es' edged set put =
    let f : GraphNode → List ℕ = λ (k : GraphNode). edges_in k.links in
    put ∙ ap (λ l. l ++ map no_edges arrivals) edged
    ∙ ap (λ l. edges_of ns ++ l) (blank_edges arrivals)
    ∙ sym (map-append f ns (map blank_of arrivals)) ∙ ap edges_of (sym set)
  where
    blank_edges : (xs : List GraphMember) → map no_edges xs ≡ edges_of (map blank_of xs)
    blank_edges [] = refl
    blank_edges (x ∷ xs) = ap (λ (l : List (List ℕ)). [] ∷ l) (blank_edges xs)

-- ---- cycles

none_leads : (ms xs : List GraphMember) (a b : ℕ) → slice_get ms b ≡ None
    → paths.cites (edges_of (map (node_of ms) xs)) a b ≡ false
unfolding paths.edges_at paths.is_among
none_leads ms [] a b h = refl
none_leads ms (x ∷ xs) zero b h = cites_none ms b h x.dependencies
none_leads ms (x ∷ xs) (suc a) b h = none_leads ms xs a b h

-- an empty list of edges leads nowhere
blank_leads : (es : List (List ℕ)) (a b : ℕ) → paths.cites (es ++ [] ∷ []) a b ≡ paths.cites es a b
unfolding paths.edges_at paths.is_among
blank_leads [] zero b = refl
blank_leads [] (suc a) b = refl
blank_leads (e ∷ es) zero b = refl
blank_leads (e ∷ es) (suc a) b = blank_leads es a b

flag_before : (flags : List Bool) (a : ℕ) → (length flags ≡ a → ⊥)
    → flag_at (flags ++ false ∷ []) a ≡ flag_at flags a
flag_before flags a ne = ap (λ (o : Option Bool). unwrap_or o false) (got_before flags false a ne)

same_flag : (flags : List Bool) (a : ℕ) → paths.flag_at flags a ≡ flag_at flags a
unfolding paths.flag_at
same_flag flags a = refl

false_not : (b : Bool) → b ≡ false → IsTrue b → ⊥
false_not true e t = cc
false_not false e t = cc

-- no edge leads past the last place
abbrev AreInner : List (List ℕ) → Type 0
AreInner es = (a b : ℕ) → length es ≤ b → paths.cites es a b ≡ false

inner_with : (es : List (List ℕ)) → AreInner es → AreInner (es ++ [] ∷ [])
inner_with es inner a b le =
    let size = length-append es ([] ∷ []) in
    let less : length es ≤ b = omega (arith, size, le) in blank_leads es a b ∙ inner a b less

cycles_with : (es : List (List ℕ)) (flags : List Bool) → AreInner es → AreCyclesOf es flags
    → AreCyclesOf (es ++ [] ∷ []) (flags ++ false ∷ [])
cycles_with es flags inner h =
    record {
      size =
          let one = length-append flags (false ∷ []) in let other = length-append es ([] ∷ []) in
          let size = h.size in omega arith;
      exact = λ a less.
          let most : a < length es + 1 = let l = length-append es ([] ∷ []) in omega arith in
          elim (cases_eq (length flags) a) [
            | inl e ↦
                let at : length es ≡ a = sym h.size ∙ e in
                let off : paths.flag_at (flags ++ false ∷ []) a ≡ false =
                same_flag (flags ++ false ∷ []) a
                ∙ ap (λ b. flag_at (flags ++ false ∷ []) b) (sym e)
                ∙ ap (λ (o : Option Bool). unwrap_or o false) (got_last flags false) in
                let P : ℕ → Type 0 = λ b. paths.IsOnCycle (es ++ [] ∷ []) b → ⊥ in (
                  (λ t. absurd (false_not (paths.flag_at (flags ++ false ∷ []) a) off t)),
                  (λ way. absurd (subst P at (arrival_on_no_cycle es [] none) way)),
                )
            | inr ne ↦
                let size = h.size in
                let lower : a < length es = omega (arith, ne, most, size) in
                let same : paths.flag_at (flags ++ false ∷ []) a ≡ paths.flag_at flags a =
                same_flag (flags ++ false ∷ []) a ∙ flag_before flags a ne ∙ sym (same_flag flags a) in
                let told = h.exact a lower in
                let stays = cycles_before es [] none a lower in
                let P : Bool → Type 0 = IsTrue in
                ((λ t. stays.1 (told.0 (subst P same t))), (λ way. subst P (sym same) (told.1 (stays.0 way))))
          ];
    }
  where
    none : (a : ℕ) → paths.cites (es ++ [] ∷ []) a (length es) ≡ false
    none a = let le : length es ≤ length es = omega arith in blank_leads es a (length es) ∙ inner a (length es) le

cycles_with_all : (arrivals : List GraphMember) (es : List (List ℕ)) (flags : List Bool) → AreInner es
    → AreCyclesOf es flags → AreCyclesOf (es ++ map no_edges arrivals) (flags ++ map no_flag arrivals)
cycles_with_all [] es flags inner h =
    subst (λ l. AreCyclesOf l (flags ++ [])) (sym (append-nil es))
    (subst (AreCyclesOf es) (sym (append-nil flags)) h)
cycles_with_all (x ∷ xs) es flags inner h =
    subst (λ l. AreCyclesOf l (flags ++ false ∷ map no_flag xs)) (append_assoc es ([] ∷ []) (map no_edges xs))
    (subst (AreCyclesOf ((es ++ [] ∷ []) ++ map no_edges xs)) (append_assoc flags (false ∷ []) (map no_flag xs))
    (cycles_with_all xs (es ++ [] ∷ []) (flags ++ false ∷ []) (inner_with es inner) (cycles_with es flags inner h)))

pub cycles_joined : (ms arrivals : List GraphMember) (ns : List GraphNode) (es es' : List (List ℕ))
    (cs cs' : List Bool) → ns ≡ nodes_of ms → es ≡ edges_of ns → AreCyclesOf es cs
    → es' ≡ es ++ map no_edges arrivals → cs' ≡ cs ++ map no_flag arrivals → AreCyclesOf es' cs'
cycles_joined ms arrivals ns es es' cs cs' linked edged turning put flagged =
    let whole : es ≡ edges_of (nodes_of ms) = edged ∙ ap edges_of linked in
    let size = edges_size ms ns es linked edged in
    let inner : AreInner es = λ a b le.
    let past : slice_get ms b ≡ None = slice_get_past ms b (omega (arith, size, le)) in
    ap (λ l. paths.cites l a b) whole ∙ none_leads ms ms a b past in
    subst (λ l. AreCyclesOf l cs') (sym put)
    (subst (AreCyclesOf (es ++ map no_edges arrivals)) (sym flagged) (cycles_with_all arrivals es cs inner turning))

-- ---- instances that come one after another

-- the first of those that are to come have come, and the others are left
pub record HaveCome (arrivals left ms ms' : List GraphMember) (ns ns' : List GraphNode) (es es' : List (List ℕ))
    (cs cs' : List Bool) : Type 0 where
  pub done : List GraphMember
  pub whole : done ++ left ≡ arrivals
  pub members : ms' ≡ ms ++ done
  pub nodes : ns' ≡ ns ++ map blank_of done
  pub met : (a : ℕ) → a < length ns → met_at ns' a ≡ met_at ns a
  pub edges : es' ≡ es ++ map no_edges done
  pub flags : cs' ≡ cs ++ map no_flag done

pub none_came : (arrivals left ms : List GraphMember) (ns : List GraphNode) (es : List (List ℕ)) (cs : List Bool)
    → left ≡ arrivals → HaveCome arrivals left ms ms ns ns es es cs cs
none_came arrivals left ms ns es cs is =
    record {
      done = [];
      whole = is;
      members = sym (append-nil ms);
      nodes = sym (append-nil ns);
      met = λ a less. refl;
      edges = sym (append-nil es);
      flags = sym (append-nil cs);
    }

one_further : {X : Type 0} (f : GraphMember → X) (xs xs' xs'' : List X) (done : List GraphMember) (m : GraphMember)
    → xs' ≡ xs ++ map f done → xs'' ≡ xs' ++ f m ∷ [] → xs'' ≡ xs ++ map f (done ++ m ∷ [])
one_further f xs xs' xs'' done m is more =
    more ∙ ap (λ l. l ++ f m ∷ []) is ∙ append_assoc xs (map f done) (f m ∷ [])
    ∙ ap (λ l. xs ++ l) (sym (map-append f done (m ∷ [])))

-- the lists of the graph stay as they are
pub came_still : {arrivals left ms ms' : List GraphMember} {ns ns' : List GraphNode} {es es' : List (List ℕ)}
    {cs cs' : List Bool} → HaveCome arrivals left ms ms' ns ns' es es' cs cs' → (ms'' : List GraphMember)
    (ns'' : List GraphNode) (es'' : List (List ℕ)) (cs'' : List Bool) → ms'' ≡ ms' → ns'' ≡ ns' → es'' ≡ es'
    → cs'' ≡ cs' → HaveCome arrivals left ms ms'' ns ns'' es es'' cs cs''
came_still h ms'' ns'' es'' cs'' members nodes edges flags =
    record {
      done = h.done;
      whole = h.whole;
      members = members ∙ h.members;
      nodes = nodes ∙ h.nodes;
      met = λ a less. ap (λ l. met_at l a) nodes ∙ h.met a less;
      edges = edges ∙ h.edges;
      flags = flags ∙ h.flags;
    }

-- one more comes
pub one_came : {arrivals left ms ms' : List GraphMember} {ns ns' : List GraphNode} {es es' : List (List ℕ)}
    {cs cs' : List Bool} → HaveCome arrivals left ms ms' ns ns' es es' cs cs' → (rest : List GraphMember)
    (m : GraphMember) (ms'' : List GraphMember) (ns'' : List GraphNode) (es'' : List (List ℕ)) (cs'' : List Bool)
    → left ≡ m ∷ rest → ms'' ≡ ms' ++ m ∷ [] → ns'' ≡ ns' ++ blank_of m ∷ []
    → ((a : ℕ) → a < length ns' → met_at ns'' a ≡ met_at ns' a) → es'' ≡ es' ++ [] ∷ [] → cs'' ≡ cs' ++ false ∷ []
    → HaveCome arrivals rest ms ms'' ns ns'' es es'' cs cs''
one_came {ms = ms} {ns = ns} {ns' = ns'} {es = es} {es' = es'} {cs = cs} {cs' = cs'} h rest m ms'' ns'' es'' cs''
    is members nodes met edges flags =
    record {
      done = h.done ++ m ∷ [];
      whole = append_assoc h.done (m ∷ []) rest ∙ ap (λ l. h.done ++ l) (sym is) ∙ h.whole;
      members = members ∙ ap (λ l. l ++ m ∷ []) h.members ∙ append_assoc ms h.done (m ∷ []);
      nodes = one_further blank_of ns ns' ns'' h.done m h.nodes nodes;
      met = λ a less.
          let size = ap length h.nodes in let parts = length-append ns (map blank_of h.done) in
          let within : a < length ns' = omega (arith, size, parts, less) in met a within ∙ h.met a less;
      edges = one_further no_edges es es' es'' h.done m h.edges edges;
      flags = one_further no_flag cs cs' cs'' h.done m h.flags flags;
    }

-- all have come if none is left
pub all_came : {arrivals left ms ms' : List GraphMember} {ns ns' : List GraphNode} {es es' : List (List ℕ)}
    {cs cs' : List Bool} → (h : HaveCome arrivals left ms ms' ns ns' es es' cs cs') → left ≡ [] → h.done ≡ arrivals
all_came h none = sym (append-nil h.done) ∙ ap (λ l. h.done ++ l) (sym none) ∙ h.whole

-- those that have come can go again
pub came_joined : {arrivals left ms ms' : List GraphMember} {ns ns' : List GraphNode} {es es' : List (List ℕ)}
    {cs cs' : List Bool} → HaveCome arrivals left ms ms' ns ns' es es' cs cs' → (count : ℕ) → count ≡ length ms
    → ns ≡ nodes_of ms → AreJoined ms' count ns'
came_joined {ms = ms} h count size linked =
    record {
      before = ms;
      arrivals = h.done;
      members = h.members;
      size = size;
      nodes = h.nodes ∙ ap (λ l. l ++ map blank_of h.done) linked;
    }

same_size : {X : Type 0} (f : GraphMember → X) (ms ms' done : List GraphMember) (xs xs' : List X)
    → ms' ≡ ms ++ done → xs' ≡ xs ++ map f done → length xs ≡ length ms → length xs' ≡ length ms'
same_size f ms ms' done xs xs' members others size =
    let a = ap length members in let b = length-append ms done in let c = ap length others in
    let d = length-append xs (map f done) in let e = length-map done f in omega arith

pub came_edges : {arrivals left ms ms' : List GraphMember} {ns ns' : List GraphNode} {es es' : List (List ℕ)}
    {cs cs' : List Bool} → HaveCome arrivals left ms ms' ns ns' es es' cs cs' → length es ≡ length ms
    → length es' ≡ length ms'
came_edges {ms = ms} {ms' = ms'} {es = es} {es' = es'} h size =
    same_size no_edges ms ms' h.done es es' h.members h.edges size

pub came_flags : {arrivals left ms ms' : List GraphMember} {ns ns' : List GraphNode} {es es' : List (List ℕ)}
    {cs cs' : List Bool} → HaveCome arrivals left ms ms' ns ns' es es' cs cs' → length cs ≡ length ms
    → length cs' ≡ length ms'
came_flags {ms = ms} {ms' = ms'} {cs = cs} {cs' = cs'} h size =
    same_size no_flag ms ms' h.done cs cs' h.members h.flags size

pub first_ones : {X : Type 0} (xs' xs more : List X) (count : ℕ) → xs' ≡ xs ++ more → length xs ≡ count
    → take count xs' ≡ xs
first_ones xs' xs more count is size = ap (take count) is ∙ take_at xs more count size
