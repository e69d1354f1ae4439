-- The places that were seen, after places are noted and during the search.
use Rattle.std.proofs.Common.{◌≡◌, ◌↔◌, inl, inr, ℕ, ◌<◌, ◌≤◌, Bool, true, false, IsTrue, List, [], ◌∷◌, ◌++◌, length, length-append, length-set, set, replicate, refl, ◌∙◌, subst, arith}
use Rattle.smf_cycles.specs.Paths.{IsOnCycle, IsPath, edges_at, flag_at, is_among}
use Rattle.smf_cycles.specs.Searches.{IsDone, IsGrown, IsSearch}
use Rattle.smf_cycles.proofs.Flags.{none_flagged, set_cases, set_keeps, set_marks, unseen-set}
use Rattle.smf_cycles.proofs.Membership.{among_either, among_head, among_left, among_none, among_only, among_right, leads_edge, leads_on, path_within}

-- ---- noting

-- places that are all seen change nothing
pub grown_by_none : (places : List ℕ) (seen : List Bool) (work : List ℕ)
    → ((a : ℕ) → is_among places a ≡ true → a < length seen → flag_at seen a ≡ true)
    → IsGrown places seen work seen work
grown_by_none places seen work all = record {
  kept = λ a h. h;
  fresh = λ a h. inl h;
  waits = λ a h. h;
  queued = λ a h. inl h;
  noted = all;
  size = refl;
  count = refl;
}

pub grown_start : (seen : List Bool) (work : List ℕ) → IsGrown [] seen work seen work
grown_start seen work = grown_by_none [] seen work (λ a h low. absurd (among_none a h))

pub grown_past : (p : ℕ) (seen : List Bool) (work : List ℕ) → length seen ≤ p → IsGrown (p ∷ []) seen work seen work
grown_past p seen work past =
    grown_by_none (p ∷ []) seen work (λ a h low. let e = among_only p a h in absurd (omega arith))

pub grown_seen : (p : ℕ) (seen : List Bool) (work : List ℕ) → flag_at seen p ≡ true
    → IsGrown (p ∷ []) seen work seen work
grown_seen p seen work h =
    let P : ℕ → Type 0 = λ n. flag_at seen n ≡ true in
    grown_by_none (p ∷ []) seen work (λ a k low. subst P (among_only p a k) h)

pub grown_new : (p : ℕ) (seen : List Bool) (work : List ℕ) → flag_at seen p ≡ false → p < length seen
    → IsGrown (p ∷ []) seen work (set seen p true) (work ++ p ∷ [])
grown_new p seen work h low =
    let mark = set_marks seen p low in let P : ℕ → Type 0 = λ n. flag_at (set seen p true) n ≡ true in record {
      kept = λ a k. set_keeps seen p a k;
      fresh = λ a k. elim (set_cases seen p a k) [
        | inl j ↦ inl j
        | inr e ↦ inr (among_head p a [] e, among_right work (p ∷ []) a (among_head p a [] e))
      ];
      waits = λ a k. among_left work (p ∷ []) a k;
      queued = λ a k. elim (among_either work (p ∷ []) a k)
          [ inl j ↦ inl j | inr j ↦ inr (subst P (among_only p a j) mark) ];
      noted = λ a k within. subst P (among_only p a k) mark;
      size = length-set seen p true;
      count = let e = unseen-set seen p h low in let l = length-append work (p ∷ []) in omega arith;
    }

pub grown_more : (xs ys : List ℕ) (s t u : List Bool) (v w x : List ℕ) → IsGrown xs s v t w → IsGrown ys t w u x
    → IsGrown (xs ++ ys) s v u x
grown_more xs ys s t u v w x g k = record {
  kept = λ a h. k.kept a (g.kept a h);
  fresh = λ a h. elim (k.fresh a h) [
    | inl j ↦ elim (g.fresh a j) [ inl i ↦ inl i | inr i ↦ inr (among_left xs ys a i.0, k.waits a i.1) ]
    | inr j ↦ inr (among_right xs ys a j.0, j.1)
  ];
  waits = λ a h. k.waits a (g.waits a h);
  queued = λ a h. elim (k.queued a h) [
    | inl j ↦ elim (g.queued a j) [ inl i ↦ inl i | inr i ↦ inr (k.kept a i) ]
    | inr j ↦ inr j
  ];
  noted = λ a h low. elim (among_either xs ys a h) [
    | inl j ↦ k.kept a (g.noted a j low)
    | inr j ↦ k.noted a j (let e = g.size in omega arith)
  ];
  size = k.size ∙ g.size;
  count = k.count ∙ g.count;
}

-- ---- the search

done_later : (edges : List (List ℕ)) (s t : List Bool) (a : ℕ) → ((b : ℕ) → flag_at s b ≡ true → flag_at t b ≡ true)
    → IsDone edges s a → IsDone edges t a
done_later edges s t a kept d = record { all_seen = λ b e low. kept b (d.all_seen b e low) }

done_by : (edges : List (List ℕ)) (s t : List Bool) (v w : List ℕ) (a : ℕ) → length s ≡ length edges
    → IsGrown (edges_at edges a) s v t w → IsDone edges t a
done_by edges s t v w a size g = record { all_seen = λ b e low. g.noted b e (omega arith) }

pub search_start : (edges : List (List ℕ)) (from n : ℕ) (s t : List Bool) (v w : List ℕ) → s ≡ replicate n false
    → length s ≡ length edges → v ≡ [] → IsGrown (edges_at edges from) s v t w → IsSearch edges from t w
search_start edges from n s t v w fresh size empty g =
    let F : List Bool → ℕ → Type 0 = λ l a. flag_at l a ≡ true in
    let W : List ℕ → ℕ → Type 0 = λ l a. is_among l a ≡ true in
    let unflagged = λ (a : ℕ) (h : flag_at s a ≡ true). none_flagged n a (subst (λ (l : List Bool). F l a) fresh h) in
    let unasked = λ (a : ℕ) (h : is_among v a ≡ true). among_none a (subst (λ (l : List ℕ). W l a) empty h) in record {
      size = g.size ∙ size;
      reached = λ a h. elim (g.fresh a h) [ inl j ↦ absurd (unflagged a j) | inr j ↦ leads_edge edges from a j.0 ];
      marked = λ a h. elim (g.queued a h) [ inl j ↦ absurd (unasked a j) | inr j ↦ j ];
      closed = λ a h. elim (g.fresh a h) [ inl j ↦ absurd (unflagged a j) | inr j ↦ inl j.1 ];
      begun = done_by edges s t v w from size g;
    }

pub search_more : (edges : List (List ℕ)) (from p : ℕ) (s t : List Bool) (v w : List ℕ)
    → IsSearch edges from s (v ++ p ∷ []) → IsGrown (edges_at edges p) s v t w → IsSearch edges from t w
search_more edges from p s t v w f g =
    let at_p = f.reached p (f.marked p (among_right v (p ∷ []) p (among_head p p [] refl))) in
    let done = done_by edges s t v w p f.size g in
    let P : ℕ → Type 0 = λ n. IsDone edges t n in record {
      size = g.size ∙ f.size;
      reached = λ a h. elim (g.fresh a h) [
        | inl j ↦ f.reached a j
        | inr j ↦ leads_on edges from p a at_p (leads_edge edges p a j.0)
      ];
      marked = λ a h. elim (g.queued a h) [ inl j ↦ g.kept a (f.marked a (among_left v (p ∷ []) a j)) | inr j ↦ j ];
      closed = λ a h. elim (g.fresh a h) [
        | inl j ↦ elim (f.closed a j) [
          | inl i ↦ elim (among_either v (p ∷ []) a i)
              [ inl l ↦ inl (g.waits a l) | inr l ↦ inr (subst P (among_only p a l) done) ]
          | inr i ↦ inr (done_later edges s t a g.kept i)
        ]
        | inr j ↦ inl j.1
      ];
      begun = done_later edges s t from g.kept f.begun;
    }

-- ---- at its end

closed_all : (edges : List (List ℕ)) (from a : ℕ) (seen : List Bool) → IsSearch edges from seen []
    → flag_at seen a ≡ true
    → IsDone edges seen a
closed_all edges from a seen f h = elim (f.closed a h) [ inl j ↦ absurd (among_none a j) | inr j ↦ j ]

follows : (edges : List (List ℕ)) (from a b : ℕ) (seen : List Bool) (between : List ℕ) → IsSearch edges from seen []
    → IsDone edges seen a → b < length edges → IsPath edges a between b → flag_at seen b ≡ true
follows edges from a b seen [] f d low p = d.all_seen b p low
follows edges from a b seen (c ∷ cs) f d low p =
    follows edges from c b seen cs f
    (closed_all edges from c seen f (d.all_seen c p.0 (path_within edges c b cs p.1))) low p.1

pub search_answers : (edges : List (List ℕ)) (from : ℕ) (seen : List Bool) → IsSearch edges from seen []
    → IsTrue (flag_at seen from) ↔ IsOnCycle edges from
search_answers edges from seen f = (
  (λ h. let way = f.reached from h in (way.between, way.path)),
  (λ way. follows edges from from from seen way.0 f f.begun (path_within edges from from way.0 way.1) way.1),
)
