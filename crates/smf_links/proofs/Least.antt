-- Stamps that are sound and complete are what is parked in as many rounds as there are instances.
use Rattle.std.proofs.Common.{◌≡◌, ℕ, zero, suc, ◌+◌, ◌-◌, ◌<◌, ◌≤◌, ◌⊎◌, List, length, Bool, true, false, ◌&&◌, if◌then◌else◌, refl, sym, ap, ◌∙◌, subst, inl, inr, arith}
use Rattle.std.specs.Prelude.{nat_lt, slice_index}
use Rattle.std.proofs.Math.Path.{fun_ext}
use Rattle.std.proofs.lemmas.Bool.{and_parts, both_ways, ltb-true, lt-ltb, cases_lt}
use Rattle.smf_links.specs.declared.link.GraphNode.{GraphNode}
use Rattle.smf_links.specs.Blockage.{is_parked, off_at, parked_in, parks, parks_by, runs_at}
use Rattle.smf_links.specs.Stamps.{IsComplete, IsSound, before, has_stamp}
use Rattle.smf_links.proofs.Growth.{Below, idle_parks, none_past, parks_up}

pub bool_both : (a b : Bool) → (a ≡ true → b ≡ true) → (b ≡ true → a ≡ true) → a ≡ b
bool_both true b f g = sym (f refl)
bool_both false true f g = g refl
bool_both false false f g = refl

-- ---- an instance that is parked in any number of rounds has a stamp

not_unstamped : (b : Bool) (c : Bool) → (b ≡ false → c ≡ false) → c ≡ true → b ≡ true
not_unstamped true c f e = refl
not_unstamped false c f e = absurd (both_ways c (f refl) e)

rounds_stamped : (ns : List GraphNode) (ss : List ℕ) → ((a : ℕ) → IsComplete ns ss a) → (k : ℕ)
    → Below (parked_in k ns) (has_stamp ss)
unfolding parked_in
rounds_stamped ns ss complete zero p h =
    not_unstamped (has_stamp ss p) (parks ns (has_stamp ss) p) (complete p) (idle_parks ns (has_stamp ss) p h)
rounds_stamped ns ss complete (suc k) p h =
    not_unstamped (has_stamp ss p) (parks ns (has_stamp ss) p) (complete p)
    (parks_up ns (parked_in k ns) (has_stamp ss) (rounds_stamped ns ss complete k) p h)

-- ---- an instance with a stamp is parked in as many rounds as the stamp says

stamped_rounds : (ns : List GraphNode) (ss : List ℕ) → ((a : ℕ) → IsSound ns ss a) → (s p : ℕ) → slice_index ss p < s
    → has_stamp ss p ≡ true → parked_in s ns p ≡ true
unfolding parked_in
stamped_rounds ns ss sound zero p lt h = absurd (omega arith)
stamped_rounds ns ss sound (suc s) p lt h =
    parks_up ns (before ss (slice_index ss p)) (parked_in s ns)
    (λ q e.
    let two = and_parts (has_stamp ss q) (nat_lt (slice_index ss q) (slice_index ss p)) e in
    let less : slice_index ss q < slice_index ss p = ltb-true (slice_index ss q) (slice_index ss p) two.1 in
    let low : slice_index ss q < s = omega arith in
    stamped_rounds ns ss sound s q low two.0)
    p (sound p h)

-- ---- the rounds end

count_in : (ℕ → Bool) → ℕ → ℕ
count_in P zero = 0
count_in P (suc n) = (if P n then 1 else 0) + count_in P n

count_most : (P : ℕ → Bool) (n : ℕ) → count_in P n ≤ n
unfolding count_in
count_most P zero = omega arith
count_most P (suc n) = by (P n) (count_most P n)
  where
    by : (b : Bool) → count_in P n ≤ n → (if b then 1 else 0) + count_in P n ≤ suc n
    by true le = omega arith
    by false le = omega arith

abbrev Same : (ℕ → Bool) → (ℕ → Bool) → ℕ → Type 0
Same P Q n = (p : ℕ) → p < n → P p ≡ Q p

same_more : (P Q : ℕ → Bool) (n : ℕ) → Same P Q n → P n ≡ Q n → Same P Q (suc n)
same_more P Q n same e p lt =
    elim (cases_lt p n) [
      | inl less ↦ same p less
      | inr le ↦ let at : n ≡ p = omega arith in let F : ℕ → Type 0 = λ q. P q ≡ Q q in subst F at e
    ]

-- either nothing is added below a place, or the count grows
count_grows : (P Q : ℕ → Bool) → Below P Q → (n : ℕ) → (Same P Q n × (count_in P n ≤ count_in Q n))
    ⊎ (count_in P n < count_in Q n)
unfolding count_in
count_grows P Q up zero = inl ((λ p lt. absurd (omega arith)), omega arith)
count_grows P Q up (suc n) = by (P n) (Q n) refl refl (up n) (count_grows P Q up n)
  where
    by : (b c : Bool) → P n ≡ b → Q n ≡ c → (P n ≡ true → Q n ≡ true)
        → (Same P Q n × (count_in P n ≤ count_in Q n)) ⊎ (count_in P n < count_in Q n)
        → (Same P Q (suc n) × ((if b then 1 else 0) + count_in P n ≤ (if c then 1 else 0) + count_in Q n))
        ⊎ ((if b then 1 else 0) + count_in P n < (if c then 1 else 0) + count_in Q n)
    by true true e f u (inl h) = let le : count_in P n ≤ count_in Q n = h.1 in
        inl (same_more P Q n h.0 (e ∙ sym f), omega arith)
    by true true e f u (inr h) = inr (omega arith)
    by true false e f u h = absurd (both_ways (Q n) f (u e))
    by false true e f u (inl h) = let le : count_in P n ≤ count_in Q n = h.1 in inr (omega arith)
    by false true e f u (inr h) = inr (omega arith)
    by false false e f u (inl h) = let le : count_in P n ≤ count_in Q n = h.1 in
        inl (same_more P Q n h.0 (e ∙ sym f), omega arith)
    by false false e f u (inr h) = inr (omega arith)

pub past_rounds : (ns : List GraphNode) (k p : ℕ) → length ns ≤ p → parked_in k ns p ≡ false
unfolding parked_in
past_rounds ns zero p le = none_past (λ (n : GraphNode). n.flags.idle) ns p le
past_rounds ns (suc k) p le = none_past (parks_by (runs_at ns) (off_at ns) (parked_in k ns)) ns p le

same_rounds : (ns : List GraphNode) (j k : ℕ) → Same (parked_in j ns) (parked_in k ns) (length ns)
    → parked_in j ns ≡ parked_in k ns
same_rounds ns j k same =
    fun_ext (λ p. elim (cases_lt p (length ns)) [
      | inl lt ↦ same p lt
      | inr le ↦ past_rounds ns j p le ∙ sym (past_rounds ns k p le)
    ])

rise : (ns : List GraphNode) (k : ℕ) → Below (parked_in k ns) (parked_in (suc k) ns)
unfolding parked_in
rise ns zero p h = idle_parks ns (parked_in zero ns) p h
rise ns (suc k) p h = parks_up ns (parked_in k ns) (parked_in (suc k) ns) (rise ns k) p h

rises : (ns : List GraphNode) (k d : ℕ) → Below (parked_in k ns) (parked_in (d + k) ns)
rises ns k zero p h = let e : k ≡ zero + k = omega arith in let F : ℕ → Type 0 = λ j. parked_in j ns p ≡ true in
    subst F e h
rises ns k (suc d) p h =
    let e : suc (d + k) ≡ suc d + k = omega arith in let F : ℕ → Type 0 = λ j. parked_in j ns p ≡ true in
    subst F e (rise ns (d + k) p (rises ns k d p h))

steady : (ns : List GraphNode) (j d : ℕ) → parked_in j ns ≡ parked_in (suc j) ns → parked_in (d + j) ns ≡ parked_in j ns
unfolding parked_in
steady ns j zero same = let e : zero + j ≡ j = omega arith in ap (λ k. parked_in k ns) e
steady ns j (suc d) same =
    let e : suc d + j ≡ suc (d + j) = omega arith in
    ap (λ k. parked_in k ns) e ∙ ap (λ (P : ℕ → Bool). λ p. parks ns P p) (steady ns j d same) ∙ sym same

-- before each round either an earlier one changed nothing, or as many are parked as rounds were taken
pigeons : (ns : List GraphNode) (k : ℕ) → ((j : ℕ) × (j < k) × (parked_in j ns ≡ parked_in (suc j) ns))
    ⊎ (k ≤ count_in (parked_in k ns) (length ns))
pigeons ns zero = inr (omega arith)
pigeons ns (suc k) =
    elim (pigeons ns k) [
      | inl h ↦ let lt : h.0 < k = h.1 in inl (h.0, omega arith, h.2)
      | inr le ↦
          elim (count_grows (parked_in k ns) (parked_in (suc k) ns) (rise ns k) (length ns)) [
            | inl same ↦ inl (k, omega arith, same_rounds ns k (suc k) same.0)
            | inr more ↦ inr (omega arith)
          ]
    ]

ends : (ns : List GraphNode) → (j : ℕ) × (j ≤ length ns) × (parked_in j ns ≡ parked_in (suc j) ns)
ends ns =
    elim (pigeons ns (suc (length ns))) [
      | inl h ↦ let lt : h.0 < suc (length ns) = h.1 in (h.0, omega arith, h.2)
      | inr le ↦ let most = count_most (parked_in (suc (length ns)) ns) (length ns) in absurd (omega arith)
    ]

steady_at : (ns : List GraphNode) (j k : ℕ) → j ≤ k → parked_in j ns ≡ parked_in (suc j) ns
    → parked_in k ns ≡ parked_in j ns
steady_at ns j k le same = let e : k ≡ (k - j) + j = omega arith in
    ap (λ i. parked_in i ns) e ∙ steady ns j (k - j) same

-- more rounds than there are instances change nothing
pub rounds_end : (ns : List GraphNode) (k : ℕ) → length ns ≤ k → parked_in k ns ≡ is_parked ns
rounds_end ns k le =
    let end = ends ns in let low : end.0 ≤ length ns = end.1 in let lower : end.0 ≤ k = omega arith in
    steady_at ns end.0 k lower end.2 ∙ sym (steady_at ns end.0 (length ns) low end.2)

-- an instance that any number of rounds parks is parked
pub all_in : (ns : List GraphNode) (k p : ℕ) → parked_in k ns p ≡ true → is_parked ns p ≡ true
all_in ns k p h =
    let le : length ns ≤ length ns + k = omega arith in
    ap (λ (P : ℕ → Bool). P p) (sym (rounds_end ns (length ns + k) le)) ∙ rises ns k (length ns) p h

-- Lemma 1
pub least : (ns : List GraphNode) (ss : List ℕ) → ((a : ℕ) → IsSound ns ss a) → ((a : ℕ) → IsComplete ns ss a)
    → has_stamp ss ≡ is_parked ns
least ns ss sound complete =
    fun_ext (λ p. bool_both (has_stamp ss p) (is_parked ns p)
    (λ h. all_in ns (suc (slice_index ss p)) p (stamped_rounds ns ss sound (suc (slice_index ss p)) p (omega arith) h))
    (rounds_stamped ns ss complete (length ns) p))

-- if all stamps are below a limit, a place with a stamp has one below it
pub before_all : (ss : List ℕ) (limit : ℕ) → ((a : ℕ) → slice_index ss a < limit) → before ss limit ≡ has_stamp ss
before_all ss limit low =
    fun_ext (λ p. by (has_stamp ss p) (nat_lt (slice_index ss p) limit) (lt-ltb (slice_index ss p) limit (low p)))
  where
    by : (b c : Bool) → c ≡ true → (b && c) ≡ b
    by true c e = e
    by false c e = refl

pub limit_least : (ns : List GraphNode) (ss : List ℕ) (limit : ℕ) → ((a : ℕ) → slice_index ss a < limit)
    → ((a : ℕ) → IsSound ns ss a) → ((a : ℕ) → IsComplete ns ss a)
    → before ss limit ≡ is_parked ns
limit_least ns ss limit low sound complete = before_all ss limit low ∙ least ns ss sound complete
