-- The data kept of instances stays right if the flags of one instance change.
use Rattle.std.proofs.Common.{◌≡◌, ℕ, zero, suc, ◌+◌, ◌*◌, ◌<◌, ◌≤◌, List, [], ◌∷◌, length, get_or, replicate, Bool, true, false, Option, Some, refl, sym, ap, ◌∙◌, subst, inl, inr, arith}
use Rattle.std.specs.Prelude.{nat_lt, slice_get, slice_index, slice_set}
use Rattle.std.specs.Option.{option_map_or}
use Rattle.std.proofs.lemmas.Bool.{cases_eq, cases_lt}
use Rattle.std.proofs.lemmas.List.{get_or-set_other, get_or-set_same, get_or_past}
use Rattle.smf_links.specs.declared.link.Flags.{Flags}
use Rattle.smf_links.specs.declared.link.GraphNode.{GraphNode}
use Rattle.smf_links.specs.Blockage.{IsOut, off_at, parks, parks_by, runs_at, with_flags}
use Rattle.smf_links.specs.Stamps.{Avoid, IsIndex, IsKept, IsLoosening, IsTouched, before, citing_at, has_stamp, total}
use Rattle.smf_links.proofs.Growth.{by_same, none_past, option_same}
use Rattle.smf_links.proofs.Work.{citing_most, weight_most}

-- ---- the flags of one instance

pub with_flags_is : (ns : List GraphNode) (p : ℕ) (f : Flags) (x : GraphNode) → p < length ns
    → slice_set ns p (record { flags = f; links = (get_or ns p x).links }) ≡ with_flags ns p f
with_flags_is [] p f x lt = absurd (omega arith)
with_flags_is (n ∷ ns) zero f x lt = refl
with_flags_is (n ∷ ns) (suc p) f x lt = let less : p < length ns = omega arith in
    ap (λ l. n ∷ l) (with_flags_is ns p f x less)

pub with_flags_read : (ns : List GraphNode) (p : ℕ) (f : Flags) (x : GraphNode) → p < length ns → x ≡ get_or ns p x
    → slice_set ns p (record { flags = f; links = x.links }) ≡ with_flags ns p f
with_flags_read ns p f x lt is = ap (λ (n : GraphNode). slice_set ns p (record { flags = f; links = n.links })) is
    ∙ with_flags_is ns p f x lt

pub with_flags_past : (ns : List GraphNode) (p : ℕ) (f : Flags) → length ns ≤ p → with_flags ns p f ≡ ns
with_flags_past [] p f le = refl
with_flags_past (n ∷ ns) zero f le = absurd (omega arith)
with_flags_past (n ∷ ns) (suc p) f le = let less : length ns ≤ p = omega arith in
    ap (λ l. n ∷ l) (with_flags_past ns p f less)

pub length-with_flags : (ns : List GraphNode) (p : ℕ) (f : Flags) → length (with_flags ns p f) ≡ length ns
length-with_flags [] p f = refl
length-with_flags (n ∷ ns) zero f = refl
length-with_flags (n ∷ ns) (suc p) f = ap suc (length-with_flags ns p f)

pub others_stay : (ns : List GraphNode) (p : ℕ) (f : Flags) (a : ℕ) → (a ≡ p → ⊥)
    → slice_get (with_flags ns p f) a ≡ slice_get ns a
others_stay [] p f a ne = refl
others_stay (n ∷ ns) zero f zero ne = absurd (ne refl)
others_stay (n ∷ ns) zero f (suc a) ne = refl
others_stay (n ∷ ns) (suc p) f zero ne = refl
others_stay (n ∷ ns) (suc p) f (suc a) ne = others_stay ns p f a (λ e. ne (ap suc e))

-- only the instance at one place is another
pub record Differs (ns ns' : List GraphNode) (p : ℕ) : Type 0 where
  pub size : length ns' ≡ length ns
  pub others : (a : ℕ) → (a ≡ p → ⊥) → slice_get ns' a ≡ slice_get ns a

pub flags_differ : (ns ns' : List GraphNode) (p : ℕ) (f : Flags) → ns' ≡ with_flags ns p f → Differs ns ns' p
flags_differ ns ns' p f e =
    let F : List GraphNode → Type 0 = λ l. Differs ns l p in
    let d : F (with_flags ns p f) =
    record { size = length-with_flags ns p f; others = λ a ne. others_stay ns p f a ne } in
    subst F (sym e) d

-- the links of each instance stay
record Was (ns : List GraphNode) (a : ℕ) (n : GraphNode) : Type 0 where
  was : GraphNode
  at : slice_get ns a ≡ Some was
  links : was.links ≡ n.links

same_some : (m n : GraphNode) → Some m ≡ Some n → m ≡ n
same_some m n e = cc

links_stay : (ns : List GraphNode) (p : ℕ) (f : Flags) (a : ℕ) (n : GraphNode)
    → slice_get (with_flags ns p f) a ≡ Some n → Was ns a n
links_stay [] p f a n e = absurd cc
links_stay (m ∷ ns) zero f zero n e =
    record { was = m; at = refl; links = ap (λ (x : GraphNode). x.links) (same_some (record m { flags = f }) n e) }
links_stay (m ∷ ns) zero f (suc a) n e = record { was = n; at = e; links = refl }
links_stay (m ∷ ns) (suc p) f zero n e = record { was = n; at = e; links = refl }
links_stay (m ∷ ns) (suc p) f (suc a) n e = let w = links_stay ns p f a n e in
    record { was = w.was; at = w.at; links = w.links }

index_stays : (ns : List GraphNode) (cs : List (List ℕ)) (p : ℕ) (f : Flags) → IsIndex ns cs
    → IsIndex (with_flags ns p f) cs
index_stays ns cs p f h =
    record {
      size = h.size ∙ sym (length-with_flags ns p f);
      cites = λ q a n lt at out.
          let w = links_stay ns p f a n at in
          let within : q < length ns = let e = length-with_flags ns p f in omega arith in
          subst (Avoid q) w.links (h.cites q a w.was within w.at out);
    }

-- an instance that neither changed nor cites the changed one is parked by the same as before
parks_stay : (ns ns' : List GraphNode) (cs : List (List ℕ)) (p : ℕ) (P : ℕ → Bool) (a : ℕ) → Differs ns ns' p
    → IsIndex ns cs → p < length ns → (p ≡ a → ⊥) → IsOut a (citing_at cs p) → parks ns' P a ≡ parks ns P a
parks_stay ns ns' cs p P a d index lt ne out =
    ap (λ (o : Option GraphNode). option_map_or (parks_by (runs_at ns') (off_at ns') P) o false)
    (d.others a (λ e. ne (sym e)))
    ∙ option_same (parks_by (runs_at ns') (off_at ns') P) (parks_by (runs_at ns) (off_at ns) P) (slice_get ns a)
    (λ (n : GraphNode) at.
    by_same p (runs_at ns') (runs_at ns) (off_at ns') (off_at ns) P P
    (λ q apart. ap (λ (o : Option GraphNode). option_map_or (λ (m : GraphNode). m.flags.running) o false)
    (d.others q apart))
    (λ q apart. ap (λ (o : Option GraphNode). option_map_or (λ (m : GraphNode). m.flags.off) o false)
    (d.others q apart))
    (λ q apart. refl) n (index.cites p a n lt at out))

pub touched_by : (ns ns' : List GraphNode) (ss : List ℕ) (cs : List (List ℕ)) (next capacity p : ℕ)
    → Differs ns ns' p → p < length ns → IsIndex ns' cs → IsKept ns ss cs next capacity
    → IsTouched ns' ss cs next capacity p
touched_by ns ns' ss cs next capacity p d lt index h =
    record {
      index = index;
      size = h.size ∙ sym d.size;
      low = h.low;
      sound = λ a ne out st. parks_stay ns ns' cs p (before ss (slice_index ss a)) a d h.index lt ne out ∙ h.sound a st;
      complete = λ a ne out st. parks_stay ns ns' cs p (has_stamp ss) a d h.index lt ne out ∙ h.complete a st;
      space = let e = d.size in let space = h.space in omega arith;
    }

touched_past : (ns : List GraphNode) (ss : List ℕ) (cs : List (List ℕ)) (next capacity p : ℕ)
    → IsKept ns ss cs next capacity → IsTouched ns ss cs next capacity p
touched_past ns ss cs next capacity p h =
    record {
      index = h.index;
      size = h.size;
      low = h.low;
      sound = λ a ne out. h.sound a;
      complete = λ a ne out. h.complete a;
      space = h.space;
    }

pub touched : (ns : List GraphNode) (ss : List ℕ) (cs : List (List ℕ)) (next capacity p : ℕ) (f : Flags)
    → IsKept ns ss cs next capacity
    → IsTouched (with_flags ns p f) ss cs next capacity p
touched ns ss cs next capacity p f h =
    elim (cases_lt p (length ns)) [
      | inl lt ↦
          touched_by ns (with_flags ns p f) ss cs next capacity p (flags_differ ns (with_flags ns p f) p f refl) lt
          (index_stays ns cs p f h.index) h
      | inr le ↦
          let F : List GraphNode → Type 0 = λ l. IsTouched l ss cs next capacity p in
          subst F (sym (with_flags_past ns p f le)) (touched_past ns ss cs next capacity p h)
    ]

-- ---- the work begins

zeros_at : (n a : ℕ) → slice_index (replicate n 0) a ≡ 0
zeros_at zero a = refl
zeros_at (suc n) zero = refl
zeros_at (suc n) (suc a) = zeros_at n a

pub zeros_are : (ss : List ℕ) (n : ℕ) → ss ≡ replicate n 0 → (a : ℕ) → slice_index ss a ≡ 0
zeros_are ss n e a = ap (λ l. slice_index l a) e ∙ zeros_at n a

pub cleared_more : (ss ss' : List ℕ) (i : ℕ) → i < length ss → ss' ≡ slice_set ss i 0
    → ((k : ℕ) → k < i → slice_index ss k ≡ 0) → (k : ℕ) → k < i + 1 → slice_index ss' k ≡ 0
cleared_more ss ss' i lt e none k less =
    elim (cases_eq k i) [
      | inl same ↦ ap (λ l. slice_index l k) e ∙ ap (slice_index (slice_set ss i 0)) same ∙ get_or-set_same ss i 0 0 lt
      | inr ne ↦ let before : k < i = omega arith in
          ap (λ l. slice_index l k) e ∙ get_or-set_other ss i k 0 0 ne ∙ none k before
    ]

pub cleared_all : (ss : List ℕ) (i : ℕ) → length ss ≤ i → ((k : ℕ) → k < i → slice_index ss k ≡ 0) → (k : ℕ)
    → slice_index ss k ≡ 0
cleared_all ss i le none k =
    elim (cases_lt k (length ss)) [
      | inl lt ↦ let before : k < i = omega arith in none k before
      | inr past ↦ get_or_past ss k 0 past
    ]

pub begin_touched : (ns : List GraphNode) (ss : List ℕ) (cs : List (List ℕ)) (next capacity capacity' p : ℕ)
    (work : List ℕ) → work ≡ p ∷ citing_at cs p → capacity ≤ capacity'
    → IsTouched ns ss cs next capacity p → IsLoosening ns cs next capacity' ss work 0
begin_touched ns ss cs next capacity capacity' p work e le h =
    let F : List ℕ → Type 0 = λ w. IsLoosening ns cs next capacity' ss w 0 in
    let begun : F (p ∷ citing_at cs p) = record {
      index = h.index;
      size = h.size;
      low = h.low;
      sound = λ a out. h.sound a out.0 out.1;
      complete = λ a out. h.complete a out.0 out.1;
      space = let w = weight_most ss cs in let c = citing_most cs p in let space = h.space in omega arith;
    } in
    subst F (sym e) begun

pub begin_anew : (ns : List GraphNode) (ss : List ℕ) (cs : List (List ℕ)) (capacity : ℕ) (work : List ℕ)
    → IsIndex ns cs → length ss ≡ length ns → ((a : ℕ) → slice_index ss a ≡ 0)
    → ((a : ℕ) → IsOut a work → length ns ≤ a) → length work ≡ length ns → length ns + 1 + 3 * total cs ≤ capacity
    → IsLoosening ns cs 1 capacity ss work 0
begin_anew ns ss cs capacity work index size none each count space =
    record {
      index = index;
      size = size;
      low = λ a. let zeroed = none a in omega arith;
      sound = λ a out st.
          let F : ℕ → Type 0 = λ n. nat_lt 0 n ≡ true in let bad : false ≡ true = subst F (none a) st in absurd cc;
      complete = λ a out st. none_past (parks_by (runs_at ns) (off_at ns) (has_stamp ss)) ns a (each a out);
      space = let w = weight_most ss cs in omega arith;
    }
