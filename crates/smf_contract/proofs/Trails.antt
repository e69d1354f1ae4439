-- The kept places of a contract's events, and what follows of them.
use Rattle.std.proofs.Common.{◌≡◌, ℕ, zero, suc, ◌+◌, ◌<◌, ◌≤◌, ◌==◌, ◌&&◌, Bool, true, false, cond, List, [], ◌∷◌, ◌++◌, Some, None, filter, length, get_or, take, reverse, arith, refl, sym, ◌∙◌, ap, subst, add-one, append-nil, inl, inr, eq-eqb}
use Rattle.std.proofs.Math.Seq.{take-suc, take-length, take-append_seam, get_or-append_seam}
use Rattle.std.specs.Prelude.{nat_le, nat_lt, position}
use Rattle.std.specs.List.{count_by, position_or_len}
use Rattle.std.specs.Ordering.{is_eq, nat_cmp}
use Rattle.std.proofs.lemmas.Bool.{cases_lt, eqb-true, le-leb, lt-ltb, leb-true, ltb-true, ne_eqb}
use Rattle.std.proofs.lemmas.Bool.Decides.{nat_tests}
use Rattle.std.proofs.lemmas.Grind.{common_steps}
use Rattle.std.proofs.lemmas.List.{append_assoc, length-append, length-take-le, take-append-le, get_or_append_left, reverse-append}
use Rattle.std.proofs.lemmas.List.Elements.{filter-append}
use Rattle.std.proofs.lemmas.List.Sums.{length-filter, position_or_len_is}
use Rattle.smf_fmri.specs.ByKey.{lookup, list_with_item, with_answer}
use Rattle.smf_fmri.proofs.Lookups.{key_cases, lookup_put, same_key, with_answer_here, with_answer_other}
use Rattle.smf_fmri.proofs.KeyOrder.{rises_put}
use Rattle.smf_contract.specs.declared.event.ContractEvent.{ContractEvent}
use Rattle.smf_contract.specs.declared.past.Last.{Last}
use Rattle.smf_contract.specs.Entries.{is_event, is_event_of, is_given, last_event}
use Rattle.smf_contract.specs.Trail.{AreNumbered, AreTied, AreTraced, by_contract, count_of, until, until_by, until_of}

-- ---- how far a contract's events reach

bound_by : (u n : ℕ) (b : Bool) → u ≤ n → until_by u b ≤ suc n
bound_by zero n true h = omega arith
bound_by zero n false h = omega arith
bound_by (suc u) n b h = omega arith

pub until_bound : (id : ℕ) (es : List ContractEvent) → until id es ≤ length es
until_bound id [] = omega arith
until_bound id (e ∷ es) = bound_by (until id es) (length es) (is_event_of id e) (until_bound id es)

first_by : (b : Bool) → until_by zero b ≡ cond b (suc zero) zero
first_by true = refl
first_by false = refl

more_by : (u n : ℕ) (of_it is_of : Bool)
    → until_by (cond is_of (suc n) u) of_it ≡ cond is_of (suc (suc n)) (until_by u of_it)
more_by u n of_it true = refl
more_by u n of_it false = refl

pub until_more : (id : ℕ) (es : List ContractEvent) (e : ContractEvent)
    → until id (es ++ e ∷ []) ≡ cond (is_event_of id e) (suc (length es)) (until id es)
until_more id [] e = first_by (is_event_of id e)
until_more id (x ∷ xs) e =
    ap (λ u. until_by u (is_event_of id x)) (until_more id xs e)
    ∙ more_by (until id xs) (length xs) (is_event_of id x) (is_event_of id e)

fixed_by : (id u : ℕ) (b : Bool) (e : ContractEvent) (es : List ContractEvent) → is_event_of id e ≡ b
    → until id (take u es) ≡ u → until id (take (until_by u b) (e ∷ es)) ≡ until_by u b
fixed_by id zero true e es is h = ap (until_by zero) is
fixed_by id zero false e es is h = refl
fixed_by id (suc u) b e es is h = ap (λ n. until_by n (is_event_of id e)) h

pub until_fixed : (id : ℕ) (es : List ContractEvent) → until id (take (until id es) es) ≡ until id es
until_fixed id [] = refl
until_fixed id (e ∷ es) = fixed_by id (until id es) (is_event_of id e) e es refl (until_fixed id es)

-- a test that passes events of one contract alone
abbrev pub IsOnly : ℕ → (ContractEvent → Bool) → Type 0
IsOnly id p = (e : ContractEvent) → is_event_of id e ≡ false → p e ≡ false

kept_by : (p : ContractEvent → Bool) (u : ℕ) (b : Bool) (e : ContractEvent) (es : List ContractEvent)
    → (b ≡ false → p e ≡ false) → filter p (take u es) ≡ filter p es
    → filter p (take (until_by u b) (e ∷ es)) ≡ filter p (e ∷ es)
kept_by p zero true e es only h = ap (λ ys. cond (p e) (e ∷ ys) ys) h
kept_by p zero false e es only h = h ∙ sym (ap (λ b. cond b (e ∷ filter p es) (filter p es)) (only refl))
kept_by p (suc u) b e es only h = ap (λ ys. cond (p e) (e ∷ ys) ys) h

-- all of them stand there
pub kept_until : (id : ℕ) (p : ContractEvent → Bool) (es : List ContractEvent) → IsOnly id p
    → filter p (take (until id es) es) ≡ filter p es
kept_until id p [] only = refl
kept_until id p (e ∷ es) only = kept_by p (until id es) (is_event_of id e) e es (only e) (kept_until id p es only)

pub counted_until : (id : ℕ) (es : List ContractEvent) → last_event id (take (until id es) es) ≡ last_event id es
counted_until id es =
    sym (length-filter (is_event_of id) (take (until id es) es))
    ∙ ap length (kept_until id (is_event_of id) es (λ e h. h)) ∙ length-filter (is_event_of id) es

-- ---- from an event to the one before it

pub take_less : (m n : ℕ) (es : List ContractEvent) → n ≤ m → take n (take m es) ≡ take n es
take_less m zero es h = refl
take_less zero (suc n) es h = absurd (omega arith)
take_less (suc m) (suc n) [] h = refl
take_less (suc m) (suc n) (e ∷ es) h = ap (λ ys. e ∷ ys) (take_less m n es (omega arith))

mine_by : (b : Bool) (m u : ℕ) → suc m ≡ cond b (suc m) u → u ≤ m → b ≡ true
mine_by true m u h k = refl
mine_by false m u h k = absurd (omega arith)

pub count_more : (p : ContractEvent → Bool) (es : List ContractEvent) (e : ContractEvent)
    → count_by p (es ++ e ∷ []) ≡ count_by p es + cond (p e) 1 0
count_more p [] e = grind (arith, common_steps)
count_more p (x ∷ xs) e = grind (arith, common_steps, count_more p xs e)

-- facts of the last event of a contract among the first ones, and of the event that it is tied to
pub record IsBack (id : ℕ) (es : List ContractEvent) (m : ℕ) (e : ContractEvent) (n : ℕ) : Type 0 where
  pub mine : is_event_of id e ≡ true
  pub below : n ≤ m
  pub fixed : n ≡ until id (take n es)
  pub count : last_event id (take (suc m) es) ≡ last_event id (take n es) + 1
  pub kept : (p : ContractEvent → Bool) → IsOnly id p
      → filter p (take (suc m) es) ≡ filter p (take n es) ++ filter p (e ∷ [])

back_from : (id : ℕ) (es : List ContractEvent) (m : ℕ) (e : ContractEvent) → m < length es
    → take (suc m) es ≡ take m es ++ e ∷ [] → suc m ≡ until id (take (suc m) es)
    → IsBack id es m e (until id (take m es))
back_from id es m e h split at =
    let size : length (take m es) ≡ m = length-take-le m es (omega arith) in
    let bound : until id (take m es) ≤ length (take m es) = until_bound id (take m es) in
    let low : until id (take m es) ≤ m = omega arith in
    let seen : suc m ≡ cond (is_event_of id e) (suc m) (until id (take m es)) =
    at ∙ ap (until id) split ∙ until_more id (take m es) e
    ∙ ap (λ k. cond (is_event_of id e) (suc k) (until id (take m es))) size in
    let mine : is_event_of id e ≡ true = mine_by (is_event_of id e) m (until id (take m es)) seen low in
    let less : take (until id (take m es)) (take m es) ≡ take (until id (take m es)) es =
    take_less m (until id (take m es)) es low in
    let same : last_event id (take m es) ≡ last_event id (take (until id (take m es)) es) =
    sym (counted_until id (take m es)) ∙ ap (last_event id) less in
    record {
      mine = mine;
      below = low;
      fixed = sym (until_fixed id (take m es)) ∙ ap (until id) less;
      count = ap (last_event id) split ∙ count_more (is_event_of id) (take m es) e
          ∙ ap (λ b. last_event id (take m es) + cond b 1 0) mine ∙ ap (λ k. k + 1) same;
      kept = λ p only. ap (filter p) split ∙ filter-append p (take m es) (e ∷ [])
          ∙ ap (λ ys. ys ++ filter p (e ∷ [])) (sym (kept_until id p (take m es) only) ∙ ap (filter p) less);
    }

back : (id : ℕ) (es : List ContractEvent) (m : ℕ) (d : ContractEvent) → m < length es
    → suc m ≡ until id (take (suc m) es) → IsBack id es m (get_or es m d) (until id (take m es))
back id es m d h at = back_from id es m (get_or es m d) h (take-suc es m d h) at

-- an event is tied to the place of the one before it
pub back_at : (id : ℕ) (es : List ContractEvent) (before : List ℕ) (at m n : ℕ) (e : ContractEvent)
    → AreTied es before → m < length es → at ≡ m + 1 → at ≡ until id (take at es) → e ≡ get_or es m e
    → n ≡ get_or before m 0 → IsBack id es m e n
back_at id es before at m n e tied h is fixed here there =
    let one : at ≡ suc m = is ∙ add-one m in
    let known : IsBack id es m (get_or es m e) (until id (take m es)) =
    back id es m e h (sym one ∙ fixed ∙ ap (λ k. until id (take k es)) one) in
    let of_it : (get_or es m e).contract ≡ id = eqb-true (get_or es m e).contract id known.mine in
    let next : n ≡ until id (take m es) = there ∙ tied.tied m e h ∙ ap (λ c. until c (take m es)) of_it in
    subst (λ (x : ContractEvent). IsBack id es m x n) (sym here)
    (subst (λ (k : ℕ). IsBack id es m (get_or es m e) k) (sym next) known)

-- the place at which a walk from a contract's last event begins
pub record IsBegun (id : ℕ) (es : List ContractEvent) (at : ℕ) : Type 0 where
  pub within : at ≤ length es
  pub fixed : at ≡ until id (take at es)
  pub count : last_event id (take at es) ≡ last_event id es
  pub kept : (p : ContractEvent → Bool) → IsOnly id p → filter p (take at es) ≡ filter p es

pub begins : (id : ℕ) (es : List ContractEvent) (at : ℕ) → at ≡ until id es → IsBegun id es at
begins id es at is =
    let first : IsBegun id es (until id es) = record {
      within = until_bound id es;
      fixed = sym (until_fixed id es);
      count = counted_until id es;
      kept = λ p only. kept_until id p es only;
    } in
    subst (λ (n : ℕ). IsBegun id es n) (sym is) first

-- ---- the place of a number

position_here : (p : ContractEvent → Bool) (es : List ContractEvent) (i : ℕ) (d : ContractEvent) → i < length es
    → ((k : ℕ) → k < i → p (get_or es k d) ≡ false) → p (get_or es i d) ≡ true → position p es ≡ Some i
position_here p es i d h before here =
    let e : position_or_len p es ≡ i = position_or_len_is p es i d (omega arith) before (λ j. here) in
    ap (λ n. cond (nat_lt n (length es)) (Some n) None) e ∙ ap (λ b. cond b (Some i) None) (lt-ltb i (length es) h)

not_less : (n : ℕ) → nat_lt n n ≡ false
not_less n = grind (arith, nat_tests)

position_nowhere : (p : ContractEvent → Bool) (es : List ContractEvent)
    → ((k : ℕ) (d : ContractEvent) → k < length es → p (get_or es k d) ≡ false) → position p es ≡ None
position_nowhere p [] none = refl
position_nowhere p (x ∷ xs) none =
    let e : position_or_len p (x ∷ xs) ≡ length (x ∷ xs) =
    position_or_len_is p (x ∷ xs) (length (x ∷ xs)) x (omega arith) (λ k low. none k x low)
    (λ h. absurd (omega arith)) in
    ap (λ n. cond (nat_lt n (length (x ∷ xs))) (Some n) None) e
    ∙ ap (λ b. cond b (Some (length (x ∷ xs))) None) (not_less (length (x ∷ xs)))

count_rises : (p : ContractEvent → Bool) (es : List ContractEvent) (i j : ℕ) → i ≤ j
    → count_by p (take i es) ≤ count_by p (take j es)
count_rises p es zero j h = omega arith
count_rises p es (suc i) zero h = absurd (omega arith)
count_rises p [] (suc i) (suc j) h = omega arith
count_rises p (e ∷ es) (suc i) (suc j) h = grind (arith, common_steps, count_rises p es i j (omega arith))

-- the count with the event itself
count_with : (id : ℕ) (es : List ContractEvent) (k : ℕ) (d : ContractEvent) → k < length es
    → (get_or es k d).contract ≡ id → last_event id (take (suc k) es) ≡ last_event id (take k es) + 1
count_with id es k d h of_it =
    ap (last_event id) (take-suc es k d h) ∙ count_more (is_event_of id) (take k es) (get_or es k d)
    ∙ ap (λ b. last_event id (take k es) + cond b 1 0) (eq-eqb (get_or es k d).contract id of_it)

-- an event of a contract has the count up to it
number_is : (id : ℕ) (es : List ContractEvent) (k : ℕ) (d : ContractEvent) → AreNumbered es → k < length es
    → (get_or es k d).contract ≡ id → (get_or es k d).number ≡ last_event id (take (suc k) es)
number_is id es k d numbered h of_it =
    numbered k d h ∙ ap (λ c. last_event c (take k es) + 1) of_it ∙ sym (count_with id es k d h of_it)

not_both : (a b : Bool) → (a ≡ true → b ≡ true → ⊥) → (a && b) ≡ false
not_both true true h = absurd (h refl refl)
not_both true false h = refl
not_both false b h = refl

both_true : (a b : Bool) → a ≡ true → b ≡ true → (a && b) ≡ true
both_true a b h k = rw (h, k) refl

-- an event of another count has another number
other_number : (id number : ℕ) (es : List ContractEvent) (k : ℕ) (d : ContractEvent) → AreNumbered es → k < length es
    → (last_event id (take (suc k) es) ≡ number → ⊥) → is_event id number (get_or es k d) ≡ false
other_number id number es k d numbered h apart =
    not_both ((get_or es k d).contract == id) ((get_or es k d).number == number) (λ p q.
    let of_it : (get_or es k d).contract ≡ id = eqb-true (get_or es k d).contract id p in
    let same : (get_or es k d).number ≡ number = eqb-true (get_or es k d).number number q in
    apart (sym (number_is id es k d numbered h of_it) ∙ same))

place_is : (id number : ℕ) (es : List ContractEvent) (m : ℕ) (d : ContractEvent) → AreNumbered es → m < length es
    → is_event_of id (get_or es m d) ≡ true → (get_or es m d).number ≡ number
    → position (is_event id number) es ≡ Some m
place_is id number es m d numbered h mine same =
    let of_it : (get_or es m d).contract ≡ id = eqb-true (get_or es m d).contract id mine in
    let here : number ≡ last_event id (take (suc m) es) = sym same ∙ number_is id es m d numbered h of_it in
    let with_it : last_event id (take (suc m) es) ≡ last_event id (take m es) + 1 = count_with id es m d h of_it in
    position_here (is_event id number) es m d h
    (λ k low. other_number id number es k d numbered (omega arith)
    (λ e. let rises : last_event id (take (suc k) es) ≤ last_event id (take m es) = count_rises
    (is_event_of id) es (suc k) m (omega arith) in omega arith))
    (both_true ((get_or es m d).contract == id) ((get_or es m d).number == number) mine
    (eq-eqb (get_or es m d).number number same))

pub place_above : (id number : ℕ) (es : List ContractEvent) → AreNumbered es → last_event id es < number
    → position (is_event id number) es ≡ None
place_above id number es numbered above =
    position_nowhere (is_event id number) es (λ k d low. other_number id number es k d numbered low (λ e.
    let rises : last_event id (take (suc k) es) ≤ last_event id (take (length es) es) =
    count_rises (is_event_of id) es (suc k) (length es) (omega arith) in
    let whole : last_event id (take (length es) es) ≡ last_event id es = ap (last_event id) (take-length es) in
    omega arith))

pub place_zero : (id number : ℕ) (es : List ContractEvent) → AreNumbered es → number ≡ 0
    → position (is_event id number) es ≡ None
place_zero id number es numbered none =
    position_nowhere (is_event id number) es
    (λ k d low. not_both ((get_or es k d).contract == id) ((get_or es k d).number == number) (λ p q.
    let same : (get_or es k d).number ≡ number = eqb-true (get_or es k d).number number q in
    let count = numbered k d low in omega arith))

-- the walk has come to the event of the number
pub place_found : (id number : ℕ) (es : List ContractEvent) (at m n : ℕ) (e : ContractEvent) → AreNumbered es
    → m < length es → at ≡ m + 1 → number ≤ last_event id (take at es) → IsBack id es m e n → e ≡ get_or es m e
    → e.number ≤ number → Some m ≡ position (is_event id number) es
place_found id number es at m n e numbered h is low known here high =
    let mine : is_event_of id (get_or es m e) ≡ true =
    subst (λ (x : ContractEvent). is_event_of id x ≡ true) here known.mine in
    let of_it : (get_or es m e).contract ≡ id = eqb-true (get_or es m e).contract id mine in
    let count : (get_or es m e).number ≡ last_event id (take (suc m) es) = number_is id es m e numbered h of_it in
    let same : e.number ≡ (get_or es m e).number = ap (λ (x : ContractEvent). x.number) here in
    let whole : last_event id (take at es) ≡ last_event id (take (suc m) es) =
    ap (λ k. last_event id (take k es)) (is ∙ add-one m) in
    sym (place_is id number es m e numbered h mine (omega arith))

-- and it goes on to what is tied to it
pub place_further : (id number : ℕ) (es : List ContractEvent) (m n : ℕ) (e : ContractEvent) → AreNumbered es
    → m < length es → IsBack id es m e n → e ≡ get_or es m e → number < e.number → number ≤ last_event id (take n es)
place_further id number es m n e numbered h known here low =
    let mine : is_event_of id (get_or es m e) ≡ true =
    subst (λ (x : ContractEvent). is_event_of id x ≡ true) here known.mine in
    let of_it : (get_or es m e).contract ≡ id = eqb-true (get_or es m e).contract id mine in
    let count : (get_or es m e).number ≡ last_event id (take (suc m) es) = number_is id es m e numbered h of_it in
    let same : e.number ≡ (get_or es m e).number = ap (λ (x : ContractEvent). x.number) here in
    let step = known.count in omega arith

-- ---- the events that are given

given_by : (a b c : Bool) → (a ≡ true → (b && c) ≡ false) → (a && b && c) ≡ false
given_by true b c h = h refl
given_by false b c h = refl

not_given_by : (a b c : Bool) → (a && b && c) ≡ false → a ≡ true → (b && c) ≡ false
not_given_by true b c h k = h
not_given_by false b c h k = absurd cc

pub only_given : (id number ack : ℕ) → IsOnly id (is_given id number ack)
unfolding is_given
only_given id number ack = λ e h. ap (λ a. a && nat_le number e.number && nat_lt ack e.number) h

given_below : (number ack n m : ℕ) → n ≤ m → (nat_le number m && nat_lt ack m) ≡ false
    → (nat_le number n && nat_lt ack n) ≡ false
given_below number ack n m h none =
    not_both (nat_le number n) (nat_lt ack n) (λ p q.
    let low : number ≤ n = leb-true number n p in
    let high : ack < n = ltb-true ack n q in
    let both : (nat_le number m && nat_lt ack m) ≡ true =
    both_true (nat_le number m) (nat_lt ack m) (le-leb number m (omega arith)) (lt-ltb ack m (omega arith)) in cc)

filter_none : (p : ContractEvent → Bool) (es : List ContractEvent) (j : ℕ) → j ≤ length es
    → ((k : ℕ) (d : ContractEvent) → k < j → p (get_or es k d) ≡ false) → filter p (take j es) ≡ []
filter_none p es zero h none = refl
filter_none p [] (suc j) h none = refl
filter_none p (e ∷ es) (suc j) h none =
    ap (λ b. cond b (e ∷ filter p (take j es)) (filter p (take j es))) (none zero e (omega arith))
    ∙ filter_none p es j (omega arith) (λ k d low. none (suc k) d (omega arith))

-- none before one that is not given is given
pub none_given : (id number ack : ℕ) (es : List ContractEvent) (at m n : ℕ) (e : ContractEvent) → AreNumbered es
    → m < length es → at ≡ m + 1 → IsBack id es m e n → e ≡ get_or es m e → is_given id number ack e ≡ false
    → filter (is_given id number ack) (take at es) ≡ []
unfolding is_given
none_given id number ack es at m n e numbered h is known here not_it =
    let mine : is_event_of id (get_or es m e) ≡ true =
    subst (λ (x : ContractEvent). is_event_of id x ≡ true) here known.mine in
    let of_it : (get_or es m e).contract ≡ id = eqb-true (get_or es m e).contract id mine in
    let count : (get_or es m e).number ≡ last_event id (take (suc m) es) = number_is id es m e numbered h of_it in
    let same : e.number ≡ (get_or es m e).number = ap (λ (x : ContractEvent). x.number) here in
    let none : (nat_le number e.number && nat_lt ack e.number) ≡ false =
    not_given_by (is_event_of id e) (nat_le number e.number) (nat_lt ack e.number) not_it known.mine in
    filter_none (is_given id number ack) es at (omega arith) (λ k d low.
    given_by (is_event_of id (get_or es k d)) (nat_le number (get_or es k d).number)
    (nat_lt ack (get_or es k d).number) (λ yes.
    let within : k < length es = omega arith in
    let number_here : (get_or es k d).number ≡ last_event id (take (suc k) es) =
    number_is id es k d numbered within (eqb-true (get_or es k d).contract id yes) in
    let rises : last_event id (take (suc k) es) ≤ last_event id (take (suc m) es) =
    count_rises (is_event_of id) es (suc k) (suc m) (omega arith) in
    given_below number ack (get_or es k d).number e.number (omega arith) none))

-- none found yet
pub given_first : (a found all : List ContractEvent) → found ≡ [] → a ≡ all → a ++ reverse found ≡ all
given_first a found all none is = ap (λ (ys : List ContractEvent). a ++ reverse ys) none ∙ append-nil a ∙ is

-- one more, the newest first
pub given_more : (p : ContractEvent → Bool) (a b found all : List ContractEvent) (e : ContractEvent)
    → b ≡ a ++ filter p (e ∷ []) → p e ≡ true → b ++ reverse found ≡ all → a ++ reverse (found ++ e ∷ []) ≡ all
given_more p a b found all e split passes so_far =
    let one : filter p (e ∷ []) ≡ e ∷ [] = ap (λ t. cond t (e ∷ []) []) passes in
    ap (λ (ys : List ContractEvent). a ++ ys) (reverse-append found (e ∷ []))
    ∙ sym (append_assoc a (e ∷ []) (reverse found))
    ∙ ap (λ (ys : List ContractEvent). ys ++ reverse found)
    (sym (split ∙ ap (λ (ys : List ContractEvent). a ++ ys) one)) ∙ so_far

filter_alike : (p q : ContractEvent → Bool) (es : List ContractEvent)
    → ((k : ℕ) (d : ContractEvent) → k < length es → p (get_or es k d) ≡ q (get_or es k d)) → filter p es ≡ filter q es
filter_alike p q [] alike = refl
filter_alike p q (e ∷ es) alike =
    ap (λ b. cond b (e ∷ filter p es) (filter p es)) (alike zero e (omega arith))
    ∙ ap (λ ys. cond (q e) (e ∷ ys) ys) (filter_alike p q es (λ k d low. alike (suc k) d (omega arith)))

three : (a b c : Bool) → b ≡ true → c ≡ true → (a && b && c) ≡ a
three true b c h k = rw (h, k) refl
three false b c h k = refl

-- all numbers are above 0
pub all_given : (id : ℕ) (es : List ContractEvent) → AreNumbered es
    → filter (is_given id 0 0) es ≡ filter (is_event_of id) es
unfolding is_given
all_given id es numbered =
    filter_alike (is_given id 0 0) (is_event_of id) es (λ k d low.
    let count = numbered k d low in
    three (is_event_of id (get_or es k d)) (nat_le 0 (get_or es k d).number) (nat_lt 0 (get_or es k d).number)
    (le-leb 0 (get_or es k d).number (omega arith)) (lt-ltb 0 (get_or es k d).number (omega arith)))

-- ---- the places stay right

tied_old : (es : List ContractEvent) (before : List ℕ) (e : ContractEvent) (u k : ℕ) (d : ContractEvent)
    → AreTied es before → k < length es
    → get_or (before ++ u ∷ []) k 0 ≡ until (get_or (es ++ e ∷ []) k d).contract (take k (es ++ e ∷ []))
tied_old es before e u k d tied h =
    let size = tied.sized in
    rw (
      get_or_append_left before (u ∷ []) 0 k (omega arith),
      get_or_append_left es (e ∷ []) d k h,
      take-append-le k es (e ∷ []) (omega arith),
    ) (tied.tied k d h)

numbered_old : (es : List ContractEvent) (e : ContractEvent) (k : ℕ) (d : ContractEvent) → AreNumbered es
    → k < length es → (get_or (es ++ e ∷ []) k d).number
    ≡ last_event (get_or (es ++ e ∷ []) k d).contract (take k (es ++ e ∷ [])) + 1
numbered_old es e k d numbered h =
    rw (get_or_append_left es (e ∷ []) d k h, take-append-le k es (e ∷ []) (omega arith)) (numbered k d h)

tied_new : (es : List ContractEvent) (before : List ℕ) (e : ContractEvent) (u : ℕ) (d : ContractEvent)
    → length before ≡ length es → u ≡ until e.contract es
    → get_or (before ++ u ∷ []) (length es) 0
    ≡ until (get_or (es ++ e ∷ []) (length es) d).contract (take (length es) (es ++ e ∷ []))
tied_new es before e u d size h =
    rw (get_or-append_seam es e [] d, take-append_seam es (e ∷ []))
    (ap (λ n. get_or (before ++ u ∷ []) n 0) (sym size) ∙ get_or-append_seam before u [] 0 ∙ h)

numbered_new : (es : List ContractEvent) (e : ContractEvent) (d : ContractEvent)
    → e.number ≡ last_event e.contract es + 1
    → (get_or (es ++ e ∷ []) (length es) d).number
    ≡ last_event (get_or (es ++ e ∷ []) (length es) d).contract (take (length es) (es ++ e ∷ [])) + 1
numbered_new es e d h = rw (get_or-append_seam es e [] d, take-append_seam es (e ∷ [])) h

last_of_more : (es : List ContractEvent) (e : ContractEvent) (k : ℕ) → k < length (es ++ e ∷ []) → length es ≤ k
    → k ≡ length es
last_of_more es e k h low = let size : length (es ++ e ∷ []) ≡ length es + 1 = length-append es (e ∷ []) in omega arith

tied_more : (es : List ContractEvent) (before : List ℕ) (e : ContractEvent) (u : ℕ) → AreTied es before
    → u ≡ until e.contract es → e.number ≡ last_event e.contract es + 1 → AreTied (es ++ e ∷ []) (before ++ u ∷ [])
tied_more es before e u tied tie number = record {
  sized = length-append before (u ∷ []) ∙ ap (λ n. n + 1) tied.sized ∙ sym (length-append es (e ∷ []));
  tied = λ k d h. elim (cases_lt k (length es)) [
    | inl low ↦ tied_old es before e u k d tied low
    | inr high ↦ subst (λ (n : ℕ). get_or (before ++ u ∷ []) n 0
        ≡ until (get_or (es ++ e ∷ []) n d).contract (take n (es ++ e ∷ []))) (sym (last_of_more es e k h high))
        (tied_new es before e u d tied.sized tie)
  ];
  numbered = λ k d h. elim (cases_lt k (length es)) [
    | inl low ↦ numbered_old es e k d tied.numbered low
    | inr high ↦ subst (λ (n : ℕ). (get_or (es ++ e ∷ []) n d).number
        ≡ last_event (get_or (es ++ e ∷ []) n d).contract (take n (es ++ e ∷ [])) + 1)
        (sym (last_of_more es e k h high)) (numbered_new es e d number)
  ];
}

not_here : (a b : ℕ) → is_eq (nat_cmp a b) ≡ false → (a == b) ≡ false
not_here a b h = ne_eqb a b (λ e.
    let same : is_eq (nat_cmp a b) ≡ true =
    ap is_eq (subst (λ n. nat_cmp a n ≡ nat_cmp a a) e refl ∙ same_key by_contract a) in cc)

not_counted : (n : ℕ) (b : Bool) → b ≡ false → n ≡ n + cond b 1 0
not_counted n true h = absurd cc
not_counted n false h = omega arith

pub number_made : (b : Bool) (n m : ℕ) → cond b (Some n) None ≡ Some m → m ≡ n
number_made true n m h = cc
number_made false n m h = absurd cc

-- counts after an event
count_of_put : (es : List ContractEvent) (lasts : List Last) (l : Last) (e : ContractEvent)
    → ((id : ℕ) → count_of (lookup by_contract lasts id) ≡ last_event id es) → e.contract ≡ l.contract
    → l.count ≡ last_event l.contract es + 1 → (id : ℕ)
    → count_of (with_answer by_contract (lookup by_contract lasts) l.contract (Some l) id)
    ≡ last_event id es + cond (is_event_of id e) 1 0
count_of_put es lasts l e counts same new id =
    elim (key_cases by_contract l.contract id (is_eq (nat_cmp l.contract id)) refl) [
      | inl here ↦ subst (λ (n : ℕ). count_of
          (with_answer by_contract (lookup by_contract lasts) l.contract (Some l) n)
          ≡ last_event n es + cond (is_event_of n e) 1 0) here
          (ap count_of (with_answer_here by_contract (lookup by_contract lasts) l.contract (Some l)) ∙ new
          ∙ ap (λ b. last_event l.contract es + cond b 1 0) (sym (eq-eqb e.contract l.contract same)))
      | inr there ↦
          let none : is_event_of id e ≡ false = ap (λ n. n == id) same ∙ not_here l.contract id there in
          ap count_of (with_answer_other by_contract (lookup by_contract lasts) l.contract (Some l) id there)
          ∙ counts id ∙ not_counted (last_event id es) (is_event_of id e) none
    ]

count_put : (es : List ContractEvent) (lasts : List Last) (l : Last) (e : ContractEvent)
    → ((id : ℕ) → count_of (lookup by_contract lasts id) ≡ last_event id es) → e.contract ≡ l.contract
    → l.count ≡ last_event l.contract es + 1 → (id : ℕ)
    → count_of (lookup by_contract (list_with_item by_contract l lasts) id) ≡ last_event id (es ++ e ∷ [])
count_put es lasts l e counts same new id =
    ap count_of (lookup_put by_contract l lasts id) ∙ count_of_put es lasts l e counts same new id
    ∙ sym (count_more (is_event_of id) es e)

until_of_put : (es : List ContractEvent) (lasts : List Last) (l : Last) (e : ContractEvent)
    → ((id : ℕ) → until_of (lookup by_contract lasts id) ≡ until id es) → e.contract ≡ l.contract
    → l.until ≡ length es + 1 → (id : ℕ)
    → until_of (with_answer by_contract (lookup by_contract lasts) l.contract (Some l) id)
    ≡ cond (is_event_of id e) (suc (length es)) (until id es)
until_of_put es lasts l e untils same new id =
    elim (key_cases by_contract l.contract id (is_eq (nat_cmp l.contract id)) refl) [
      | inl here ↦ subst (λ (n : ℕ). until_of
          (with_answer by_contract (lookup by_contract lasts) l.contract (Some l) n)
          ≡ cond (is_event_of n e) (suc (length es)) (until n es)) here
          (ap until_of (with_answer_here by_contract (lookup by_contract lasts) l.contract (Some l)) ∙ new
          ∙ add-one (length es)
          ∙ ap (λ b. cond b (suc (length es)) (until l.contract es)) (sym (eq-eqb e.contract l.contract same)))
      | inr there ↦
          let none : is_event_of id e ≡ false = ap (λ n. n == id) same ∙ not_here l.contract id there in
          ap until_of (with_answer_other by_contract (lookup by_contract lasts) l.contract (Some l) id there)
          ∙ untils id ∙ ap (λ b. cond b (suc (length es)) (until id es)) (sym none)
    ]

until_put : (es : List ContractEvent) (lasts : List Last) (l : Last) (e : ContractEvent)
    → ((id : ℕ) → until_of (lookup by_contract lasts id) ≡ until id es) → e.contract ≡ l.contract
    → l.until ≡ length es + 1 → (id : ℕ)
    → until_of (lookup by_contract (list_with_item by_contract l lasts) id) ≡ until id (es ++ e ∷ [])
until_put es lasts l e untils same new id =
    ap until_of (lookup_put by_contract l lasts id) ∙ until_of_put es lasts l e untils same new id
    ∙ sym (until_more id es e)

pub traced_noted : (es : List ContractEvent) (before : List ℕ) (lasts : List Last) (e : ContractEvent) (u : ℕ)
    (l : Last) → AreTraced es before lasts → u ≡ until e.contract es → e.number ≡ last_event e.contract es + 1
    → e.contract ≡ l.contract → l.count ≡ last_event l.contract es + 1 → l.until ≡ length es + 1
    → AreTraced (es ++ e ∷ []) (before ++ u ∷ []) (list_with_item by_contract l lasts)
traced_noted es before lasts e u l traced tie number same count place = record {
  rises = rises_put by_contract l lasts traced.rises;
  events = tied_more es before e u traced.events tie number;
  counts = count_put es lasts l e traced.counts same count;
  untils = until_put es lasts l e traced.untils same place;
}

count_of_begun : (es : List ContractEvent) (lasts : List Last) (l : Last)
    → ((id : ℕ) → count_of (lookup by_contract lasts id) ≡ last_event id es) → l.count ≡ last_event l.contract es
    → (id : ℕ) → count_of (with_answer by_contract (lookup by_contract lasts) l.contract (Some l) id) ≡ last_event id es
count_of_begun es lasts l counts new id =
    elim (key_cases by_contract l.contract id (is_eq (nat_cmp l.contract id)) refl) [
      | inl here ↦ subst (λ (n : ℕ). count_of
          (with_answer by_contract (lookup by_contract lasts) l.contract (Some l) n) ≡ last_event n es) here
          (ap count_of (with_answer_here by_contract (lookup by_contract lasts) l.contract (Some l)) ∙ new)
      | inr there ↦ ap count_of
          (with_answer_other by_contract (lookup by_contract lasts) l.contract (Some l) id there) ∙ counts id
    ]

until_of_begun : (es : List ContractEvent) (lasts : List Last) (l : Last)
    → ((id : ℕ) → until_of (lookup by_contract lasts id) ≡ until id es) → l.until ≡ until l.contract es → (id : ℕ)
    → until_of (with_answer by_contract (lookup by_contract lasts) l.contract (Some l) id) ≡ until id es
until_of_begun es lasts l untils new id =
    elim (key_cases by_contract l.contract id (is_eq (nat_cmp l.contract id)) refl) [
      | inl here ↦ subst (λ (n : ℕ). until_of
          (with_answer by_contract (lookup by_contract lasts) l.contract (Some l) n) ≡ until n es) here
          (ap until_of (with_answer_here by_contract (lookup by_contract lasts) l.contract (Some l)) ∙ new)
      | inr there ↦ ap until_of
          (with_answer_other by_contract (lookup by_contract lasts) l.contract (Some l) id there) ∙ untils id
    ]

pub traced_begun : (es : List ContractEvent) (before : List ℕ) (lasts : List Last) (l : Last)
    → AreTraced es before lasts → l.count ≡ last_event l.contract es → l.until ≡ until l.contract es
    → AreTraced es before (list_with_item by_contract l lasts)
traced_begun es before lasts l traced count place = record {
  rises = rises_put by_contract l lasts traced.rises;
  events = traced.events;
  counts = λ id. ap count_of (lookup_put by_contract l lasts id) ∙ count_of_begun es lasts l traced.counts count id;
  untils = λ id. ap until_of (lookup_put by_contract l lasts id) ∙ until_of_begun es lasts l traced.untils place id;
}
