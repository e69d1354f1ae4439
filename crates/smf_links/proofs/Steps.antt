-- One step of taking stamps away, and one of giving them.
use Rattle.std.proofs.Common.{◌≡◌, ℕ, ◌+◌, ◌<◌, ◌≤◌, List, length, drop, get_or, Bool, true, false, not, ◌&&◌, refl, sym, ap, ◌∙◌, subst, inl, inr, arith, length-set}
use Rattle.std.specs.Prelude.{nat_lt, slice_index, slice_set}
use Rattle.std.proofs.lemmas.Bool.{and_cases, and_parts, both_ways, cases_eq, cases_lt, ltb-false, ltb-true, not-false, not-true}
use Rattle.std.proofs.lemmas.List.{get_or-set_other, get_or-set_same, get_or_past}
use Rattle.smf_links.specs.declared.link.GraphNode.{GraphNode}
use Rattle.smf_links.specs.Blockage.{IsOut, off_at, parks, parks_by, runs_at}
use Rattle.smf_links.specs.Stamps.{IsComplete, IsLoosening, IsSound, IsSpreading, before, citing_at, drops, gains, has_stamp, stamps_by, AddsBy}
use Rattle.smf_links.proofs.Growth.{none_past, parks_down, parks_same, parks_up}
use Rattle.smf_links.proofs.Least.{before_all}
use Rattle.smf_links.proofs.Work.{citing_most, adds_longer, adds_rest, adds_whole, out_drop, out_more, out_next, weight_dropped, weight_gained, weight_most, weight_rest}

-- ---- room

pub drops_room : (ns : List GraphNode) (cs : List (List ℕ)) (limit capacity : ℕ) (ss work : List ℕ) (at x : ℕ)
    → IsLoosening ns cs limit capacity ss work at
    → length work + length (citing_at cs x) ≤ capacity
drops_room ns cs limit capacity ss work at x h = let space = h.space in let le = citing_most cs x in omega arith

pub gains_room : (ns : List GraphNode) (cs : List (List ℕ)) (limit capacity s : ℕ) (ss work : List ℕ) (at x : ℕ)
    → IsSpreading ns cs limit capacity ss work at
    → gains ns ss s x ≡ true → length work + length (citing_at cs x) ≤ capacity
unfolding gains
gains_room ns cs limit capacity s ss work at x h g =
    let free = not-true (has_stamp ss x) (and_parts (not (has_stamp ss x)) (parks ns (before ss s) x) g).0 in
    let space = h.space in let le = weight_rest ss cs x free in omega arith

-- the work is never more than there is room for
pub short : (ns : List GraphNode) (cs : List (List ℕ)) (limit capacity : ℕ) (ss work : List ℕ) (at : ℕ)
    → IsSpreading ns cs limit capacity ss work at → length work ≤ capacity
short ns cs limit capacity ss work at h = let space = h.space in let le = weight_most ss cs in omega arith

pub work_grows : (b : Bool) (next : ℕ) (places work work' : List ℕ) → AddsBy b next places work work'
    → length work ≤ length work'
work_grows true next places work work' h = adds_longer next places work work' h
work_grows false next places work work' h = let l = ap length h in omega arith

-- ---- stamps that are set

stamp_within : (ss : List ℕ) (x : ℕ) → has_stamp ss x ≡ true → x < length ss
stamp_within ss x h =
    elim (cases_lt x (length ss)) [
      | inl lt ↦ lt
      | inr le ↦ let none : slice_index ss x ≡ 0 = get_or_past ss x 0 le in let some : 0 < slice_index ss x =
          ltb-true 0 (slice_index ss x) h in absurd (omega arith)
    ]

parks_within : (ns : List GraphNode) (P : ℕ → Bool) (x : ℕ) → parks ns P x ≡ true → x < length ns
parks_within ns P x h =
    elim (cases_lt x (length ns)) [
      | inl lt ↦ lt
      | inr le ↦ absurd (both_ways (parks ns P x) (none_past (parks_by (runs_at ns) (off_at ns) P) ns x le) h)
    ]

pub other : (ss : List ℕ) (x s a : ℕ) → (a ≡ x → ⊥) → slice_index (slice_set ss x s) a ≡ slice_index ss a
other ss x s a ne = get_or-set_other ss x a s 0 ne

-- ---- taking away

loosens : (ns : List GraphNode) (cs : List (List ℕ)) (limit capacity capacity' : ℕ) (ss work work' : List ℕ)
    (at x : ℕ) → at < length work → x ≡ get_or work at x
    → capacity ≤ capacity' → (b : Bool) → b ≡ drops ns ss x → AddsBy b (at + 1) (citing_at cs x) work work'
    → IsLoosening ns cs limit capacity ss work at
    → IsLoosening ns cs limit capacity' (stamps_by b ss x 0) work' (at + 1)
unfolding drops
loosens ns cs limit capacity capacity' ss work work' at x lt is le false e ew h =
    let W : List ℕ → Type 0 = λ w. IsLoosening ns cs limit capacity' ss w (at + 1) in
    subst W (sym ew) (record {
      index = h.index;
      size = h.size;
      low = h.low;
      sound = λ a out. elim (cases_eq x a) [
        | inl same ↦
            let P : ℕ → Type 0 = IsSound ns ss in
            subst P same
            (λ st. elim (and_cases (has_stamp ss x) (not (parks ns (before ss (slice_index ss x)) x)) (sym e)) [
              | inl none ↦ absurd (both_ways (has_stamp ss x) none st)
              | inr held ↦ not-false (parks ns (before ss (slice_index ss x)) x) held
            ])
        | inr ne ↦ h.sound a (out_more a work at x lt is ne out)
      ];
      complete = h.complete;
      space = let space = h.space in omega arith;
    })
loosens ns cs limit capacity capacity' ss work work' at x lt is le true e ew h =
    let next : at + 1 ≤ length work = omega arith in
    let two = and_parts (has_stamp ss x) (not (parks ns (before ss (slice_index ss x)) x)) (sym e) in
    let within : x < length ss = stamp_within ss x two.0 in
    let inside : x < length ns = let size = h.size in omega arith in
    let same_size : length ss ≡ length cs = h.size ∙ sym h.index.size in
    let zeroed : slice_index (slice_set ss x 0) x ≡ 0 = get_or-set_same ss x 0 0 within in
    let low_limit : 0 < limit = let low = h.low x in omega arith in
    record {
      index = h.index;
      size = length-set ss x 0 ∙ h.size;
      low = λ a. elim (cases_eq a x) [
        | inl same ↦ let F : ℕ → Type 0 = λ n. n < limit in
            subst F (sym (ap (slice_index (slice_set ss x 0)) same ∙ zeroed)) low_limit
        | inr ne ↦ let F : ℕ → Type 0 = λ n. n < limit in subst F (sym (other ss x 0 a ne)) (h.low a)
      ];
      sound = λ a out st. elim (cases_eq a x) [
        | inl same ↦
            let F : ℕ → Type 0 = λ n. nat_lt 0 n ≡ true in
            let bad : false ≡ true = subst F (ap (slice_index (slice_set ss x 0)) same ∙ zeroed) st in absurd cc
        | inr ne ↦
            let stays = other ss x 0 a ne in
            let F : ℕ → Type 0 = λ n. nat_lt 0 n ≡ true in
            let was = subst F stays st in
            let apart : x ≡ a → ⊥ = λ q. ne (sym q) in
            let held = h.sound a
            (out_more a work at x lt is apart (adds_rest (at + 1) (citing_at cs x) work work' next ew a out)) was in
            let G : ℕ → Type 0 = λ n. parks ns (before (slice_set ss x 0) n) a ≡ true in
            subst G (sym stays)
            (parks_same ns cs x (before (slice_set ss x 0) (slice_index ss a))
            (before ss (slice_index ss a)) h.index inside
            (λ p apart_p. ap (λ n. nat_lt 0 n && nat_lt n (slice_index ss a)) (other ss x 0 p apart_p)) a
            (ew.left a out)
            ∙ held)
      ];
      complete = λ a out st.
          let left = adds_whole (at + 1) (citing_at cs x) work work' ew a out in
          let ne : a ≡ x → ⊥ = λ q. out_next a work at x lt is (out_drop a at work left) (sym q) in
          let F : ℕ → Type 0 = λ n. nat_lt 0 n ≡ false in
          parks_down ns (has_stamp (slice_set ss x 0)) (has_stamp ss)
          (λ p t. elim (cases_eq p x) [
            | inl same ↦
                let G : ℕ → Type 0 = λ n. nat_lt 0 n ≡ true in
                let bad : false ≡ true = subst G (ap (slice_index (slice_set ss x 0)) same ∙ zeroed) t in absurd cc
            | inr apart ↦ let G : ℕ → Type 0 = λ n. nat_lt 0 n ≡ true in subst G (other ss x 0 p apart) t
          ])
          a (h.complete a left (subst F (other ss x 0 a ne) st));
      space =
          let space = h.space in let w = weight_dropped ss cs x same_size two.0 in let l = ew.size in omega arith;
    }

pub loosens_on : (ns : List GraphNode) (cs : List (List ℕ)) (limit capacity capacity' : ℕ)
    (ss work ss' work' : List ℕ) (at x : ℕ) → at < length work → x ≡ get_or work at x
    → capacity ≤ capacity' → ss' ≡ stamps_by (drops ns ss x) ss x 0
    → AddsBy (drops ns ss x) (at + 1) (citing_at cs x) work work'
    → IsLoosening ns cs limit capacity ss work at → IsLoosening ns cs limit capacity' ss' work' (at + 1)
loosens_on ns cs limit capacity capacity' ss work ss' work' at x lt is le es ew h =
    let F : List ℕ → Type 0 = λ s. IsLoosening ns cs limit capacity' s work' (at + 1) in
    subst F (sym es) (loosens ns cs limit capacity capacity' ss work work' at x lt is le (drops ns ss x) refl ew h)

-- if nothing is left to be looked at, giving stamps may begin
pub begin_spreading : (ns : List GraphNode) (cs : List (List ℕ)) (limit capacity : ℕ) (ss work : List ℕ) (at : ℕ)
    → ((a : ℕ) → IsOut a (drop at work))
    → IsLoosening ns cs limit capacity ss work at → IsSpreading ns cs (limit + 0) capacity ss work 0
begin_spreading ns cs limit capacity ss work at out h =
    record {
      index = h.index;
      size = h.size;
      low = λ a. let low = h.low a in omega arith;
      sound = λ a. h.sound a (out a);
      complete = λ a o. h.complete a o;
      space = let space = h.space in omega arith;
    }

-- ---- giving

gave : (ns : List GraphNode) (cs : List (List ℕ)) (s capacity capacity' : ℕ) (ss work work' : List ℕ) (at x : ℕ)
    → 0 < s → at < length work → x ≡ get_or work at x
    → capacity ≤ capacity' → (b : Bool) → b ≡ gains ns ss s x → AddsBy b (at + 1) (citing_at cs x) work work'
    → IsSpreading ns cs s capacity ss work at
    → IsSpreading ns cs (s + 1) capacity' (stamps_by b ss x s) work' (at + 1)
unfolding gains
gave ns cs s capacity capacity' ss work work' at x pos lt is le false e ew h =
    let W : List ℕ → Type 0 = λ w. IsSpreading ns cs (s + 1) capacity' ss w (at + 1) in
    subst W (sym ew) (record {
      index = h.index;
      size = h.size;
      low = λ a. let low = h.low a in omega arith;
      sound = h.sound;
      complete = λ a out. elim (cases_eq x a) [
        | inl same ↦
            let P : ℕ → Type 0 = IsComplete ns ss in
            subst P same
            (λ st. elim (and_cases (not (has_stamp ss x)) (parks ns (before ss s) x) (sym e)) [
              | inl has ↦ absurd (both_ways (has_stamp ss x) st (not-false (has_stamp ss x) has))
              | inr none ↦ ap (λ (Q : ℕ → Bool). parks ns Q x) (sym (before_all ss s h.low)) ∙ none
            ])
        | inr ne ↦ h.complete a (out_more a work at x lt is ne out)
      ];
      space = let space = h.space in omega arith;
    })
gave ns cs s capacity capacity' ss work work' at x pos lt is le true e ew h =
    let next : at + 1 ≤ length work = omega arith in
    let two = and_parts (not (has_stamp ss x)) (parks ns (before ss s) x) (sym e) in
    let free : has_stamp ss x ≡ false = not-true (has_stamp ss x) two.0 in
    let inside : x < length ns = parks_within ns (before ss s) x two.1 in
    let within : x < length ss = let size = h.size in omega arith in
    let same_size : length ss ≡ length cs = h.size ∙ sym h.index.size in
    let given : slice_index (slice_set ss x s) x ≡ s = get_or-set_same ss x s 0 within in
    let up : (t q : ℕ) → before ss t q ≡ true → before (slice_set ss x s) t q ≡ true =
    λ t q b. elim (cases_eq q x) [
      | inl same ↦ absurd
          (both_ways (has_stamp ss x) free
          (ap (has_stamp ss) (sym same) ∙ (and_parts (has_stamp ss q) (nat_lt (slice_index ss q) t) b).0))
      | inr ne ↦ ap (λ n. nat_lt 0 n && nat_lt n t) (other ss x s q ne) ∙ b
    ] in
    record {
      index = h.index;
      size = length-set ss x s ∙ h.size;
      low = λ a. elim (cases_eq a x) [
        | inl same ↦ let at_a : slice_index (slice_set ss x s) a ≡ s =
            ap (slice_index (slice_set ss x s)) same ∙ given in omega arith
        | inr ne ↦ let at_a = other ss x s a ne in let low = h.low a in omega arith
      ];
      sound = λ a st. elim (cases_eq a x) [
        | inl same ↦
            let P : ℕ → Type 0 = λ n. parks ns (before (slice_set ss x s) n) a ≡ true in
            let Q : ℕ → Type 0 = λ p. parks ns (before (slice_set ss x s) s) p ≡ true in
            subst P (sym (ap (slice_index (slice_set ss x s)) same ∙ given))
            (subst Q (sym same) (parks_up ns (before ss s) (before (slice_set ss x s) s) (up s) x two.1))
        | inr ne ↦
            let stays = other ss x s a ne in
            let F : ℕ → Type 0 = λ n. nat_lt 0 n ≡ true in
            let P : ℕ → Type 0 = λ n. parks ns (before (slice_set ss x s) n) a ≡ true in
            subst P (sym stays)
            (parks_up ns (before ss (slice_index ss a)) (before (slice_set ss x s) (slice_index ss a))
            (up (slice_index ss a)) a (h.sound a (subst F stays st)))
      ];
      complete = λ a out st. elim (cases_eq a x) [
        | inl same ↦
            let at_a : slice_index (slice_set ss x s) a ≡ s = ap (slice_index (slice_set ss x s)) same ∙ given in
            let least : slice_index (slice_set ss x s) a ≤ 0 = ltb-false 0 (slice_index (slice_set ss x s) a) st in
            absurd (omega arith)
        | inr ne ↦
            let apart : x ≡ a → ⊥ = λ q. ne (sym q) in
            let F : ℕ → Type 0 = λ n. nat_lt 0 n ≡ false in
            let was = h.complete a
            (out_more a work at x lt is apart (adds_rest (at + 1) (citing_at cs x) work work' next ew a out))
            (subst F (other ss x s a ne) st) in
            parks_same ns cs x (has_stamp (slice_set ss x s)) (has_stamp ss) h.index inside
            (λ p apart_p. ap (λ n. nat_lt 0 n) (other ss x s p apart_p)) a
            (ew.left a out)
            ∙ was
      ];
      space =
          let space = h.space in let w = weight_gained ss cs x s same_size within free pos in let l = ew.size in
          omega arith;
    }

pub spreads_on : (ns : List GraphNode) (cs : List (List ℕ)) (base capacity capacity' : ℕ) (ss work ss' work' : List ℕ)
    (at x : ℕ) → 0 < base → at < length work → x ≡ get_or work at x
    → capacity ≤ capacity' → ss' ≡ stamps_by (gains ns ss (base + at) x) ss x (base + at)
    → AddsBy (gains ns ss (base + at) x) (at + 1) (citing_at cs x) work work'
    → IsSpreading ns cs (base + at) capacity ss work at
    → IsSpreading ns cs (base + (at + 1)) capacity' ss' work' (at + 1)
spreads_on ns cs base capacity capacity' ss work ss' work' at x pos lt is le es ew h =
    let F : List ℕ → Type 0 = λ s. IsSpreading ns cs (base + (at + 1)) capacity' s work' (at + 1) in
    let next : base + at + 1 ≡ base + (at + 1) = omega arith in
    let H : ℕ → Type 0 =
    λ n. IsSpreading ns cs n capacity' (stamps_by (gains ns ss (base + at) x) ss x (base + at)) work' (at + 1) in
    let some : 0 < base + at = omega arith in
    subst F (sym es)
    (subst H next
    (gave ns cs (base + at) capacity capacity' ss work work' at x some lt is le
    (gains ns ss (base + at) x) refl ew h))
