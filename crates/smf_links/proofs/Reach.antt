-- The reach of a change: all other instances are found to be as before.
use Rattle.std.proofs.Common.{◌≡◌, ◌⊎◌, ℕ, ◌+◌, ◌<◌, ◌≤◌, List, [], ◌∷◌, length, get_or, Bool, true, false, ◌&&◌, ◌||◌, Option, refl, sym, ap, ◌∙◌, subst, inl, inr, arith}
use Rattle.std.specs.Prelude.{nat_lt, slice_get}
use Rattle.std.specs.List.{list_all, list_any}
use Rattle.std.specs.Option.{option_map_or}
use Rattle.std.proofs.lemmas.Bool.{cases_eq, cases_lt}
use Rattle.std.proofs.lemmas.Option.{slice_get_within}
use Rattle.smf_links.specs.declared.grouping.Grouping.{Grouping}
use Rattle.smf_links.specs.declared.grouping.Grouping.TheVariants.{RequireAll, RequireAny, OptionalAll, ExcludeAll}
use Rattle.smf_links.specs.declared.link.Link.{Link}
use Rattle.smf_links.specs.declared.link.GraphNode.{GraphNode}
use Rattle.smf_links.specs.Blockage.{IsOut, met_at, is_parked, meets_at, met_by, node_is, off_at, runs_at}
use Rattle.smf_links.specs.Stamps.{AddsBy, AreOut, Avoid, Begins, IsIndex, IsKept, Reaches, Spreads, Touches, citing_at, has_stamp, stamps_by}
use Rattle.smf_links.proofs.Growth.{option_same}
use Rattle.smf_links.proofs.Least.{least, past_rounds}
use Rattle.smf_links.proofs.Work.{adds_whole, out_drop, out_next}
use Rattle.smf_links.proofs.Steps.{other}
use Rattle.smf_links.proofs.FlagChanges.{Differs}

-- ---- a list of places on which two tests agree

any_agree : (P Q : ℕ → Bool) (ps : List ℕ) → ((p : ℕ) → (P p ≡ Q p) ⊎ IsOut p ps) → list_any P ps ≡ list_any Q ps
any_agree P Q [] h = refl
any_agree P Q (p ∷ ps) h =
    let head : P p ≡ Q p = elim (h p) [ inl e ↦ e | inr out ↦ absurd (out.0 refl) ] in
    λ i. head i || any_agree P Q ps (λ q. elim (h q) [ inl e ↦ inl e | inr out ↦ inr out.1 ]) i

all_agree : (P Q : ℕ → Bool) (ps : List ℕ) → ((p : ℕ) → (P p ≡ Q p) ⊎ IsOut p ps) → list_all P ps ≡ list_all Q ps
all_agree P Q [] h = refl
all_agree P Q (p ∷ ps) h =
    let head : P p ≡ Q p = elim (h p) [ inl e ↦ e | inr out ↦ absurd (out.0 refl) ] in
    λ i. head i && all_agree P Q ps (λ q. elim (h q) [ inl e ↦ inl e | inr out ↦ inr out.1 ]) i

abbrev Agree : (ℕ → Bool) → (ℕ → Bool) → List (List ℕ) → Type 0
Agree P Q es = (p : ℕ) → (P p ≡ Q p) ⊎ AreOut p es

agree_first : (P Q : ℕ → Bool) (ps : List ℕ) (es : List (List ℕ)) → Agree P Q (ps ∷ es) → (p : ℕ)
    → (P p ≡ Q p) ⊎ IsOut p ps
agree_first P Q ps es h p = elim (h p) [ inl e ↦ inl e | inr out ↦ inr out.0 ]

agree_rest : (P Q : ℕ → Bool) (ps : List ℕ) (es : List (List ℕ)) → Agree P Q (ps ∷ es) → Agree P Q es
agree_rest P Q ps es h p = elim (h p) [ inl e ↦ inl e | inr out ↦ inr out.1 ]

any_any : (P Q : ℕ → Bool) (es : List (List ℕ)) → Agree P Q es → list_any (list_any P) es ≡ list_any (list_any Q) es
any_any P Q [] h = refl
any_any P Q (ps ∷ es) h = λ i. any_agree P Q ps (agree_first P Q ps es h) i || any_any P Q es (agree_rest P Q ps es h) i

all_any : (P Q : ℕ → Bool) (es : List (List ℕ)) → Agree P Q es → list_all (list_any P) es ≡ list_all (list_any Q) es
all_any P Q [] h = refl
all_any P Q (ps ∷ es) h = λ i. any_agree P Q ps (agree_first P Q ps es h) i && all_any P Q es (agree_rest P Q ps es h) i

all_all : (P Q : ℕ → Bool) (es : List (List ℕ)) → Agree P Q es → list_all (list_all P) es ≡ list_all (list_all Q) es
all_all P Q [] h = refl
all_all P Q (ps ∷ es) h = λ i. all_agree P Q ps (agree_first P Q ps es h) i && all_all P Q es (agree_rest P Q ps es h) i

either_agree : (r r' P P' : ℕ → Bool) (es : List (List ℕ)) → Agree r r' es → Agree P P' es
    → Agree (λ p. r p || P p) (λ p. r' p || P' p) es
either_agree r r' P P' es ar ap' p =
    elim (ar p) [
      | inl e ↦ elim (ap' p) [ inl f ↦ inl (λ i. e i || f i) | inr out ↦ inr out ]
      | inr out ↦ inr out
    ]

meets_agree : (r r' o o' P P' : ℕ → Bool) (g : Grouping) (es : List (List ℕ)) → Agree r r' es → Agree o o' es
    → Agree P P' es → meets_at g r o P es ≡ meets_at g r' o' P' es
meets_agree r r' o o' P P' RequireAll es ar ao ap' = all_any r r' es ar
meets_agree r r' o o' P P' RequireAny es ar ao ap' = any_any r r' es ar
meets_agree r r' o o' P P' OptionalAll es ar ao ap' =
    all_all (λ p. r p || P p) (λ p. r' p || P' p) es (either_agree r r' P P' es ar ap')
meets_agree r r' o o' P P' ExcludeAll es ar ao ap' = all_all o o' es ao

abbrev pub Agrees : (ℕ → Bool) → (ℕ → Bool) → List Link → Type 0
Agrees P Q ls = (p : ℕ) → (P p ≡ Q p) ⊎ Avoid p ls

agrees_first : (P Q : ℕ → Bool) (l : Link) (ls : List Link) → Agrees P Q (l ∷ ls) → Agree P Q l.cited
agrees_first P Q l ls h p = elim (h p) [ inl e ↦ inl e | inr out ↦ inr out.0 ]

agrees_rest : (P Q : ℕ → Bool) (l : Link) (ls : List Link) → Agrees P Q (l ∷ ls) → Agrees P Q ls
agrees_rest P Q l ls h p = elim (h p) [ inl e ↦ inl e | inr out ↦ inr out.1 ]

pub all_met_agree : (r r' o o' P P' : ℕ → Bool) (ls : List Link) → Agrees r r' ls → Agrees o o' ls → Agrees P P' ls
    → list_all (met_by r o P) ls ≡ list_all (met_by r' o' P') ls
all_met_agree r r' o o' P P' [] ar ao ap' = refl
all_met_agree r r' o o' P P' (l ∷ ls) ar ao ap' =
    λ i. meets_agree r r' o o' P P' l.grouping l.cited (agrees_first r r' l ls ar) (agrees_first o o' l ls ao)
    (agrees_first P P' l ls ap') i
    && all_met_agree r r' o o' P P' ls (agrees_rest r r' l ls ar) (agrees_rest o o' l ls ao)
    (agrees_rest P P' l ls ap') i

-- ---- one step

pub spreads_none : (ns : List GraphNode) (cs : List (List ℕ)) (ss work : List ℕ) → Spreads ns cs ss work ss work
spreads_none ns cs ss work = record { grown = λ a out. out; same = λ a out. refl; reached = λ x. inl refl }

spread_by : (ns : List GraphNode) (cs : List (List ℕ)) (ss0 work0 ss work work' : List ℕ) (at x s : ℕ) (b : Bool)
    → at < length work → x ≡ get_or work at x
    → AddsBy b (at + 1) (citing_at cs x) work work' → Spreads ns cs ss0 work0 ss work
    → Spreads ns cs ss0 work0 (stamps_by b ss x s) work'
spread_by ns cs ss0 work0 ss work work' at x s false lt is ew h = let W : List ℕ → Type 0 =
    Spreads ns cs ss0 work0 ss in subst W (sym ew) h
spread_by ns cs ss0 work0 ss work work' at x s true lt is ew h =
    let whole = adds_whole (at + 1) (citing_at cs x) work work' ew in
    record {
      grown = λ a out. h.grown a (whole a out);
      same = λ a out.
          let left = whole a out in
          let ne : a ≡ x → ⊥ = λ q. out_next a work at x lt is (out_drop a at work left) (sym q) in
          ap (nat_lt 0) (other ss x s a ne) ∙ h.same a left;
      reached = λ y. elim (cases_eq y x) [
        | inl e ↦ let P : ℕ → Type 0 = λ z. (a : ℕ) → IsOut a work' → IsOut a (citing_at cs z) in
            inr (subst P (sym e) (λ a out. ew.left a (out_drop a (at + 1) work' out)))
        | inr ne ↦ elim (h.reached y) [
          | inl e ↦ inl (ap (nat_lt 0) (other ss x s y ne) ∙ e)
          | inr f ↦ inr (λ a out. f a (whole a out))
        ]
      ];
    }

pub spread_on : (ns : List GraphNode) (cs : List (List ℕ)) (ss0 work0 ss work ss' work' : List ℕ) (at x s : ℕ)
    (b : Bool) → at < length work → x ≡ get_or work at x
    → ss' ≡ stamps_by b ss x s → AddsBy b (at + 1) (citing_at cs x) work work' → Spreads ns cs ss0 work0 ss work
    → Spreads ns cs ss0 work0 ss' work'
spread_on ns cs ss0 work0 ss work ss' work' at x s b lt is es ew h =
    let F : List ℕ → Type 0 = λ l. Spreads ns cs ss0 work0 l work' in
    subst F (sym es) (spread_by ns cs ss0 work0 ss work work' at x s b lt is ew h)

-- ---- the whole change

pub touches : (ns : List GraphNode) (cs : List (List ℕ)) (ss ss1 ss' work1 work : List ℕ) (place : ℕ)
    → Begins ns cs ss ss1 work1 place → Spreads ns cs ss1 work1 ss' work
    → Touches ns cs ss ss' work place
touches ns cs ss ss1 ss' work1 work place b h =
    elim b.begins [
      | inl begun ↦ record {
        begun = λ a out lt. let P : List ℕ → Type 0 = IsOut a in let both : IsOut a (place ∷ citing_at cs place) =
            subst P begun.1 (h.grown a out) in both;
        same = λ a out lt. h.same a out ∙ ap (λ l. has_stamp l a) begun.0;
        reached = λ x. elim (h.reached x) [
          | inl e ↦ inl (e ∙ ap (λ l. has_stamp l x) begun.0)
          | inr f ↦ inr (λ a out lt. f a out)
        ];
      }
      | inr each ↦ record {
        begun = λ a out lt. let le = each a (h.grown a out) in absurd (omega arith);
        same = λ a out lt. let le = each a (h.grown a out) in absurd (omega arith);
        reached = λ x. inr (λ a out lt. let le = each a (h.grown a out) in absurd (omega arith));
      }
    ]

within_stay : (ns ns' : List GraphNode) (cs : List (List ℕ)) (ss ss' work : List ℕ) (p : ℕ) → Differs ns ns' p
    → IsIndex ns cs → p < length ns → has_stamp ss ≡ is_parked ns → has_stamp ss' ≡ is_parked ns'
    → Touches ns' cs ss ss' work p
    → (a : ℕ) → IsOut a work → a < length ns → met_at ns' a ≡ met_at ns a
within_stay ns ns' cs ss ss' work p d index lt was now t a out low =
    let inside : a < length ns' = let e = d.size in omega arith in
    let begun = t.begun a out inside in
    ap (λ (o : Option GraphNode). option_map_or
    (λ (n : GraphNode). list_all (met_by (runs_at ns') (off_at ns') (is_parked ns')) n.links) o false)
    (d.others a (λ e. begun.0 (sym e)))
    ∙ option_same (λ (n : GraphNode). list_all (met_by (runs_at ns') (off_at ns') (is_parked ns')) n.links)
    (λ (n : GraphNode). list_all (met_by (runs_at ns) (off_at ns) (is_parked ns)) n.links)
    (slice_get ns a)
    (λ (n : GraphNode) at.
    let flags : (g : GraphNode → Bool) → Agrees (node_is g ns') (node_is g ns) n.links =
    λ g q. elim (cases_eq q p) [
      | inl e ↦ let P : ℕ → Type 0 = λ z. Avoid z n.links in inr (subst P (sym e) (index.cites p a n lt at begun.1))
      | inr ne ↦ inl (ap (λ (o : Option GraphNode). option_map_or g o false) (d.others q ne))
    ] in
    let parked : Agrees (is_parked ns') (is_parked ns) n.links =
    λ q. elim (cases_lt q (length ns)) [
      | inl less ↦ elim (t.reached q) [
        | inl e ↦ inl ((λ i. sym now i q) ∙ e ∙ (λ i. was i q))
        | inr far ↦ inr (index.cites q a n less at (far a out inside))
      ]
      | inr le ↦ let past : length ns' ≤ q = let e = d.size in omega arith in
          inl (past_rounds ns' (length ns') q past ∙ sym (past_rounds ns (length ns) q le))
    ] in
    all_met_agree (runs_at ns') (runs_at ns) (off_at ns') (off_at ns) (is_parked ns') (is_parked ns) n.links
    (flags (λ (m : GraphNode). m.flags.running)) (flags (λ (m : GraphNode). m.flags.off)) parked)

-- an instance that a change did not reach is found to be as before
pub reaches : (ns ns' : List GraphNode) (cs : List (List ℕ)) (ss ss' work was touched : List ℕ)
    (next next' capacity capacity' p : ℕ) → Differs ns ns' p → p < length ns
    → IsKept ns ss cs next capacity → IsKept ns' ss' cs next' capacity' → Touches ns' cs ss ss' work p
    → ((a : ℕ) → IsOut a touched → a < length ns → IsOut a was × IsOut a work) → Reaches ns ns' p was touched
reaches ns ns' cs ss ss' work was touched next next' capacity capacity' p d lt k k' t more =
    let met = within_stay ns ns' cs ss ss' work p d k.index lt (least ns ss k.sound k.complete)
    (least ns' ss' k'.sound k'.complete) t in
    record {
      grown = λ a out less. (more a out less).0;
      apart = λ a n out at.
          let less : a < length ns = slice_get_within ns a n at in
          let inside : a < length ns' = let size = d.size in omega arith in
          let begun = t.begun a (more a out less).1 inside in
          (begun.0, k.index.cites p a n lt at begun.1);
      met = λ a out less. met a (more a out less).1 less;
    }

-- the same over what a call names
pub reached : (ns shown ns1 ns' : List GraphNode) (cs cs1 : List (List ℕ))
    (ss ss1 ss' work work1 was touched : List ℕ) (next next' capacity capacity' p count : ℕ)
    → ns ≡ shown → ns1 ≡ ns' → cs1 ≡ cs → ss1 ≡ ss → work1 ≡ work → Differs ns ns' p → p < length shown
    → count ≡ length ns' → IsKept ns ss cs next capacity → IsKept ns1 ss' cs1 next' capacity'
    → Touches ns1 cs1 ss1 ss' work p → ((a : ℕ) → IsOut a touched → a < count → IsOut a was × IsOut a work1)
    → Reaches shown ns' p was touched
reached ns shown ns1 ns' cs cs1 ss ss1 ss' work work1 was touched next next' capacity capacity' p count es en ec et
    ew d lt size k k' t more =
    let A : List GraphNode → Type 0 = λ l. Reaches l ns' p was touched in
    let B : List GraphNode → Type 0 = λ l. IsKept l ss' cs1 next' capacity' in
    let C : List (List ℕ) → Type 0 = λ l. IsKept ns' ss' l next' capacity' in
    let D : List GraphNode → Type 0 = λ l. Touches l cs1 ss1 ss' work p in
    let E : List (List ℕ) → Type 0 = λ l. Touches ns' l ss1 ss' work p in
    let F : List ℕ → Type 0 = λ l. Touches ns' cs l ss' work p in
    let same : length ns' ≡ length ns = d.size in
    let within : p < length ns = let l = ap length es in omega arith in
    subst A es
    (reaches ns ns' cs ss ss' work was touched next next' capacity capacity' p d within k
    (subst C ec (subst B en k')) (subst F et (subst E ec (subst D en t)))
    (λ a out less.
    let low : a < count = omega arith in
    let two = more a out low in
    let P : List ℕ → Type 0 = IsOut a in (two.0, subst P ew two.1)))
