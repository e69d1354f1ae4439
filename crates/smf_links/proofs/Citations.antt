-- The index before and after places are noted in it.
use Rattle.std.proofs.Common.{◌≡◌, ℕ, zero, suc, ◌+◌, ◌<◌, ◌≤◌, List, [], ◌∷◌, ◌++◌, length, drop, get_or, Some, refl, sym, ap, ◌∙◌, subst, inl, inr, arith, length-append, length-set}
use Rattle.std.specs.Prelude.{slice_get, slice_set}
use Rattle.std.proofs.lemmas.Bool.{cases_eq, cases_lt}
use Rattle.std.proofs.lemmas.List.{drop_all}
use Rattle.std.proofs.lemmas.Option.{slice_get_within, get_or_from_slice_get}
use Rattle.smf_links.specs.declared.link.Link.{Link}
use Rattle.smf_links.specs.declared.link.GraphNode.{GraphNode}
use Rattle.smf_links.specs.Blockage.{IsOut}
use Rattle.smf_links.specs.Stamps.{AreOut, Avoid, IsIndex, KeepsPlaces, Notes, citations, citing_at, with_citation, total}
use Rattle.smf_links.proofs.Work.{left_at, out_left, out_right}

-- ---- one place

citing_set : (cs : List (List ℕ)) (p : ℕ) (c : List ℕ) → p < length cs → citing_at (slice_set cs p c) p ≡ c
citing_set [] p c lt = absurd (omega arith)
citing_set (x ∷ cs) zero c lt = refl
citing_set (x ∷ cs) (suc p) c lt = let less : p < length cs = omega arith in citing_set cs p c less

citing_other : (cs : List (List ℕ)) (p q : ℕ) (c : List ℕ) → (q ≡ p → ⊥)
    → citing_at (slice_set cs p c) q ≡ citing_at cs q
citing_other [] p q c ne = refl
citing_other (x ∷ cs) zero zero c ne = absurd (ne refl)
citing_other (x ∷ cs) zero (suc q) c ne = refl
citing_other (x ∷ cs) (suc p) zero c ne = refl
citing_other (x ∷ cs) (suc p) (suc q) c ne = citing_other cs p q c (λ e. ne (ap suc e))

set_past_end : (cs : List (List ℕ)) (p : ℕ) (c : List ℕ) → length cs ≤ p → slice_set cs p c ≡ cs
set_past_end [] p c le = refl
set_past_end (x ∷ cs) zero c le = absurd (omega arith)
set_past_end (x ∷ cs) (suc p) c le = let less : length cs ≤ p = omega arith in
    ap (λ l. x ∷ l) (set_past_end cs p c less)

note_stays : (cs : List (List ℕ)) (at x p a : ℕ) → IsOut a (citing_at (with_citation cs at x) p)
    → IsOut a (citing_at cs p)
note_stays cs at x p a out =
    let P : List ℕ → Type 0 = IsOut a in
    elim (cases_lt x (length cs)) [
      | inl lt ↦
          elim (cases_eq p x) [
            | inl same ↦
                let here : citing_at (with_citation cs at x) p ≡ citing_at cs p ++ at ∷ [] =
                ap (citing_at (with_citation cs at x)) same ∙ citing_set cs x (citing_at cs x ++ at ∷ []) lt
                ∙ ap (λ q. citing_at cs q ++ at ∷ []) (sym same) in
                out_left a (citing_at cs p) (at ∷ []) (subst P here out)
            | inr ne ↦ subst P (citing_other cs x p (citing_at cs x ++ at ∷ []) ne) out
          ]
      | inr le ↦ let Q : List (List ℕ) → Type 0 = λ l. IsOut a (citing_at l p) in
          subst Q (set_past_end cs x (citing_at cs x ++ at ∷ []) le) out
    ]

note_notes : (cs : List (List ℕ)) (at x p : ℕ) → p < length cs → IsOut at (citing_at (with_citation cs at x) p)
    → x ≡ p → ⊥
note_notes cs at x p lt out same =
    let P : List ℕ → Type 0 = IsOut at in
    let F : ℕ → Type 0 = λ q. q < length cs in
    let here : citing_at (with_citation cs at x) p ≡ citing_at cs x ++ at ∷ [] =
    ap (citing_at (with_citation cs at x)) (sym same)
    ∙ citing_set cs x (citing_at cs x ++ at ∷ []) (subst F (sym same) lt) in
    (out_right at (citing_at cs x) (at ∷ []) (subst P here out)).0 refl

-- ---- one after another

abbrev pub Nothing : ℕ → Type 0
Nothing p = Unit {0}

notes_none : (at : ℕ) (cs : List (List ℕ)) → Notes Nothing at cs cs
notes_none at cs = record { size = refl; stays = λ p a out. out; notes = λ p lt out. tt }

notes_then : (P Q : ℕ → Type 0) (at : ℕ) (cs ds es : List (List ℕ)) → Notes P at cs ds → Notes Q at ds es
    → Notes (λ p. P p × Q p) at cs es
notes_then P Q at cs ds es f g =
    record {
      size = g.size ∙ f.size;
      stays = λ p a out. f.stays p a (g.stays p a out);
      notes = λ p lt out. (
        f.notes p lt (g.stays p at out),
        (let more : p < length ds = let size = f.size in omega arith in g.notes p more out),
      );
    }

notes_weaker : (P Q : ℕ → Type 0) (at : ℕ) (cs ds : List (List ℕ)) → ((p : ℕ) → P p → Q p) → Notes P at cs ds
    → Notes Q at cs ds
notes_weaker P Q at cs ds f h = record { size = h.size; stays = h.stays; notes = λ p lt out. f p (h.notes p lt out) }

-- the rest of a list leads to the whole
pub record Leads {X : Type 0} (P : ℕ → List X → Type 0) (at : ℕ) (left all : List X)
    (cs0 cs : List (List ℕ)) : Type 0 where
  pub leads : (es : List (List ℕ)) → Notes (λ p. P p left) at cs es → Notes (λ p. P p all) at cs0 es

pub leads_first : {X : Type 0} (P : ℕ → List X → Type 0) (at : ℕ) (all : List X) (cs : List (List ℕ))
    → Leads P at (drop 0 all) all cs cs
leads_first P at all cs = record { leads = λ es h. h }

leads_more : {X : Type 0} (P : ℕ → List X → Type 0) (Q : ℕ → X → Type 0)
    → ((p : ℕ) (x : X) (xs : List X) → Q p x × P p xs → P p (x ∷ xs)) → (at : ℕ) (all : List X) (i : ℕ) (x : X)
    (cs0 cs ds : List (List ℕ)) → i < length all → x ≡ get_or all i x → Notes (λ p. Q p x) at cs ds
    → Leads P at (drop i all) all cs0 cs → Leads P at (drop (i + 1) all) all cs0 ds
leads_more P Q join at all i x cs0 cs ds lt is step h =
    record {
      leads = λ es rest.
          h.leads es
          (notes_weaker (λ p. Q p x × P p (drop (i + 1) all)) (λ p. P p (drop i all)) at cs es
          (λ p both. subst (P p) (sym (left_at all i x lt is)) (join p x (drop (i + 1) all) both))
          (notes_then (λ p. Q p x) (λ p. P p (drop (i + 1) all)) at cs ds es step rest));
    }

leads_end : {X : Type 0} (P : ℕ → List X → Type 0) → ((p : ℕ) → P p [])
    → (at : ℕ) (all : List X) (i : ℕ) (cs0 cs : List (List ℕ)) → length all ≤ i
    → Leads P at (drop i all) all cs0 cs → Notes (λ p. P p all) at cs0 cs
leads_end P none at all i cs0 cs le h =
    h.leads cs (notes_weaker Nothing (λ p. P p (drop i all)) at cs cs
    (λ p u. subst (P p) (sym (drop_all i all le)) (none p)) (notes_none at cs))

-- ---- one place is noted, or stands there

pub noted_one : (cs ds : List (List ℕ)) (at x : ℕ) → ds ≡ with_citation cs at x → Notes (λ p. x ≡ p → ⊥) at cs ds
noted_one cs ds at x e =
    let step : Notes (λ p. x ≡ p → ⊥) at cs (with_citation cs at x) =
    record {
      size = length-set cs x (citing_at cs x ++ at ∷ []);
      stays = note_stays cs at x;
      notes = note_notes cs at x;
    } in
    let F : List (List ℕ) → Type 0 = Notes (λ p. x ≡ p → ⊥) at cs in subst F (sym e) step

pub noted_before : (cs : List (List ℕ)) (at x : ℕ) → (IsOut at (citing_at cs x) → ⊥) → Notes (λ p. x ≡ p → ⊥) at cs cs
noted_before cs at x has =
    record {
      size = refl;
      stays = λ p a out. out;
      notes = λ p lt out same. let Q : ℕ → Type 0 = λ q. IsOut at (citing_at cs q) in has (subst Q (sym same) out);
    }

pub keeps_same : (cs ds : List (List ℕ)) → ds ≡ cs → KeepsPlaces cs ds
keeps_same cs ds e =
    let F : List (List ℕ) → Type 0 = KeepsPlaces cs in let same : KeepsPlaces cs cs =
    record { size = refl; stays = λ p a out. out } in subst F (sym e) same

pub keeps_one : (cs ds : List (List ℕ)) (at x : ℕ) → ds ≡ with_citation cs at x → KeepsPlaces cs ds
keeps_one cs ds at x e = let h = noted_one cs ds at x e in record { size = h.size; stays = h.stays }

pub keeps_then : (cs ds es : List (List ℕ)) → KeepsPlaces cs ds → KeepsPlaces ds es → KeepsPlaces cs es
keeps_then cs ds es f g = record { size = g.size ∙ f.size; stays = λ p a out. f.stays p a (g.stays p a out) }

total_set : (cs : List (List ℕ)) (p : ℕ) (c : List ℕ)
    → total (slice_set cs p c) + length (citing_at cs p) ≤ total cs + length c
total_set [] p c = omega arith
total_set (x ∷ cs) zero c = omega arith
total_set (x ∷ cs) (suc p) c = let le = total_set cs p c in omega arith

pub total_one : (cs ds : List (List ℕ)) (at x : ℕ) → ds ≡ with_citation cs at x → total ds ≤ total cs + 1
total_one cs ds at x e =
    let le = total_set cs x (citing_at cs x ++ at ∷ []) in let l = length-append (citing_at cs x) (at ∷ []) in
    let same = ap total e in omega arith

-- ---- places, entities and links

pub places_more : (at : ℕ) (all : List ℕ) (i x : ℕ) (cs0 cs ds : List (List ℕ)) → i < length all → x ≡ get_or all i x
    → Notes (λ p. x ≡ p → ⊥) at cs ds
    → Leads IsOut at (drop i all) all cs0 cs → Leads IsOut at (drop (i + 1) all) all cs0 ds
places_more at all i x cs0 cs ds lt is step h =
    leads_more IsOut (λ p y. y ≡ p → ⊥) (λ p y ys both. both) at all i x cs0 cs ds lt is step h

pub places_end : (at : ℕ) (all : List ℕ) (i : ℕ) (cs0 cs : List (List ℕ)) → length all ≤ i
    → Leads IsOut at (drop i all) all cs0 cs → Notes (λ p. IsOut p all) at cs0 cs
places_end at all i cs0 cs le h = leads_end IsOut (λ p. tt) at all i cs0 cs le h

pub cited_more : (at : ℕ) (all : List (List ℕ)) (i : ℕ) (x : List ℕ) (cs0 cs ds : List (List ℕ)) → i < length all
    → x ≡ get_or all i x → Notes (λ p. IsOut p x) at cs ds
    → Leads AreOut at (drop i all) all cs0 cs → Leads AreOut at (drop (i + 1) all) all cs0 ds
cited_more at all i x cs0 cs ds lt is step h =
    leads_more AreOut IsOut (λ p y ys both. both) at all i x cs0 cs ds lt is step h

pub cited_end : (at : ℕ) (all : List (List ℕ)) (i : ℕ) (cs0 cs : List (List ℕ)) → length all ≤ i
    → Leads AreOut at (drop i all) all cs0 cs → Notes (λ p. AreOut p all) at cs0 cs
cited_end at all i cs0 cs le h = leads_end AreOut (λ p. tt) at all i cs0 cs le h

pub links_more : (at : ℕ) (all : List Link) (i : ℕ) (x : Link) (cs0 cs ds : List (List ℕ)) → i < length all
    → x ≡ get_or all i x → Notes (λ p. AreOut p x.cited) at cs ds
    → Leads Avoid at (drop i all) all cs0 cs → Leads Avoid at (drop (i + 1) all) all cs0 ds
links_more at all i x cs0 cs ds lt is step h =
    leads_more Avoid (λ p (l : Link). AreOut p l.cited) (λ p y ys both. both) at all i x cs0 cs ds lt is step h

pub links_end : (at : ℕ) (all : List Link) (i : ℕ) (cs0 cs : List (List ℕ)) → length all ≤ i
    → Leads Avoid at (drop i all) all cs0 cs → Notes (λ p. Avoid p all) at cs0 cs
links_end at all i cs0 cs le h = leads_end Avoid (λ p. tt) at all i cs0 cs le h

-- ---- instances

-- the index of the first so many
pub record IsBegun (ns : List GraphNode) (cs : List (List ℕ)) (count : ℕ) : Type 0 where
  pub size : length cs ≡ length ns
  pub cites : (p a : ℕ) (n : GraphNode) → p < length ns → a < count → slice_get ns a ≡ Some n
      → IsOut a (citing_at cs p) → Avoid p n.links

pub begun_none : (ns : List GraphNode) (cs : List (List ℕ)) → length cs ≡ length ns → IsBegun ns cs 0
begun_none ns cs e = record { size = e; cites = λ p a n lt less at out. absurd (omega arith) }

pub begun_more : (ns : List GraphNode) (cs ds : List (List ℕ)) (i : ℕ) (n : GraphNode) → n ≡ get_or ns i n
    → Notes (λ p. Avoid p n.links) i cs ds → IsBegun ns cs i → IsBegun ns ds (i + 1)
begun_more ns cs ds i n is step h =
    record {
      size = step.size ∙ h.size;
      cites = λ p a m lt less at out.
          elim (cases_eq a i) [
            | inl same ↦
                let m_is : n ≡ m = is ∙ get_or_from_slice_get ns i m n (ap (slice_get ns) (sym same) ∙ at) in
                let Q : ℕ → Type 0 = λ b. IsOut b (citing_at ds p) in
                let within : p < length cs = let size = h.size in omega arith in
                let R : GraphNode → Type 0 = λ k. Avoid p k.links in
                subst R m_is (step.notes p within (subst Q same out))
            | inr ne ↦ let before : a < i = omega arith in h.cites p a m lt before at (step.stays p a out)
          ];
    }

pub begun_all : (ns : List GraphNode) (cs : List (List ℕ)) (count : ℕ) → length ns ≤ count → IsBegun ns cs count
    → IsIndex ns cs
begun_all ns cs count le h =
    record {
      size = h.size;
      cites = λ p a n lt at out. let within : a < length ns = slice_get_within ns a n at in let low : a < count =
          omega arith in h.cites p a n lt low at out;
    }

-- ---- the total

pub total_more : (all : List (List ℕ)) (i n : ℕ) (x : List ℕ) (sum : ℕ) → i < length all → x ≡ get_or all i x
    → sum + total (drop i all) ≡ n → sum + length x + total (drop (i + 1) all) ≡ n
total_more all i n x sum lt is h = let e = ap total (left_at all i x lt is) in omega arith

pub citations_more : (all : List Link) (i n : ℕ) (x : Link) (sum : ℕ) → i < length all → x ≡ get_or all i x
    → sum + citations (drop i all) ≡ n → sum + total x.cited + citations (drop (i + 1) all) ≡ n
citations_more all i n x sum lt is h = let e = ap citations (left_at all i x lt is) in omega arith

-- ---- room for a total

pub total_room : (all : List (List ℕ)) (i : ℕ) (x : List ℕ) (t t0 t' : ℕ) → i < length all → x ≡ get_or all i x
    → t' ≤ t + length x → t + total (drop i all) ≤ t0 + total all → t' + total (drop (i + 1) all) ≤ t0 + total all
total_room all i x t t0 t' lt is step h = let e = ap total (left_at all i x lt is) in omega arith

pub citations_room : (all : List Link) (i : ℕ) (x : Link) (t t0 t' : ℕ) → i < length all → x ≡ get_or all i x
    → t' ≤ t + total x.cited → t + citations (drop i all) ≤ t0 + citations all
    → t' + citations (drop (i + 1) all) ≤ t0 + citations all
citations_room all i x t t0 t' lt is step h = let e = ap citations (left_at all i x lt is) in omega arith
