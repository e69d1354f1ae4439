-- A table without its contracts that have no members is in order, and its events keep their numbers.
use Rattle.std.proofs.Common.{◌≡◌, ◌<◌, ◌+◌, ◌==◌, ◌||◌, ℕ, Bool, true, false, cond, List, [], ◌∷◌, ◌++◌, map, filter, length, get_or, take, refl, sym, ap, ◌∙◌, subst, arith, eq-eqb, eqb-true, append-nil}
use Rattle.std.proofs.lemmas.List.Elements.{filter_more}
use Rattle.std.proofs.lemmas.List.Sums.{sum_by-cons}
use Rattle.smf_contract.specs.declared.contract.Contract.{Contract}
use Rattle.smf_contract.specs.declared.contract.Member.{Member}
use Rattle.smf_contract.specs.declared.event.ContractEvent.{ContractEvent}
use Rattle.smf_contract.specs.Calls.{with_next_event}
use Rattle.smf_contract.specs.Entries.{Contracts, has_members, is_event_of, last_event}
use Rattle.smf_contract.specs.Laws.{Ascends, Homed, IsOrdered, is_among, numbers_of, numbers_up_to}
use Rattle.smf_contract.specs.Thinned.{thinned}
use Rattle.smf_contract.specs.Trail.{AreNumbered}
use Rattle.smf_contract.proofs.Ordered.{ascends_lower}

-- ---- numbers

abbrev id_of : Contract → ℕ
id_of c = c.id

kept_up : (b : Bool) (low last : ℕ) (c : Contract) (cs : List Contract) → low < c.id → Ascends c.id (map id_of cs) last
    → Ascends low (map id_of (cond b (c ∷ cs) cs)) last
kept_up true low last c cs h a = (h, a)
kept_up false low last c cs h a = ascends_lower low c.id (map id_of cs) last (omega arith) a

pub filter_up : (p : Contract → Bool) (low last : ℕ) (cs : List Contract) → Ascends low (map id_of cs) last
    → Ascends low (map id_of (filter p cs)) last
filter_up p low last [] a = a
filter_up p low last (c ∷ cs) a = kept_up (p c) low last c (filter p cs) a.0 (filter_up p c.id last cs a.1)

-- ---- members are in contracts that stay

or_more : (a b : Bool) → b ≡ true → (a || b) ≡ true
or_more true b e = refl
or_more false b e = e

among_kept : (q : ℕ → Bool) (n : ℕ) (cs : List Contract) → q n ≡ true → is_among n (map id_of cs) ≡ true
    → is_among n (map id_of (filter (λ (c : Contract). q c.id) cs)) ≡ true
among_kept q n [] e a = a
among_kept q n (c ∷ cs) e a = by (c.id == n) (q c.id) refl refl a (among_kept q n cs e)
  where
    clash : (b : Bool) → b ≡ true → b ≡ false → ⊥
    clash b f g = cc

    by : (b d : Bool) → (c.id == n) ≡ b → q c.id ≡ d → (b || is_among n (map id_of cs)) ≡ true
        → (is_among n (map id_of cs) ≡ true → is_among n (map id_of (filter (λ (x : Contract). q x.id) cs)) ≡ true)
        → is_among n
        (map id_of (cond d (c ∷ filter (λ (x : Contract). q x.id) cs) (filter (λ (x : Contract). q x.id) cs)))
        ≡ true
    by true true f g there ih = rw f refl
    by true false f g there ih =
        absurd (clash (q c.id) (subst (λ (m : ℕ). q m ≡ true) (sym (eqb-true c.id n f)) e) g)
    by false true f g there ih = or_more (c.id == n) _ (ih there)
    by false false f g there ih = ih there

own_member : (m : Member) (ms : List Member) → has_members m.contract (m ∷ ms) ≡ true
own_member m ms = rw (eq-eqb m.contract m.contract refl) refl

more_members : (n : ℕ) (m : Member) (ms : List Member) → has_members n ms ≡ true → has_members n (m ∷ ms) ≡ true
more_members n m ms e = or_more (m.contract == n) (has_members n ms) e

homed_kept : (q : ℕ → Bool) (cs : List Contract) (ms : List Member)
    → ((n : ℕ) → has_members n ms ≡ true → q n ≡ true) → Homed (map id_of cs) ms
    → Homed (map id_of (filter (λ (c : Contract). q c.id) cs)) ms
homed_kept q cs [] has h = tt
homed_kept q cs (m ∷ ms) has h = (
  among_kept q m.contract cs (has m.contract (own_member m ms)) h.0,
  homed_kept q cs ms (λ n e. has n (more_members n m ms e)) h.1,
)

-- ---- events

pub clash : (b : Bool) → b ≡ true → b ≡ false → ⊥
clash b e f = cc

-- the events of a contract that stays are all there
stay_listed : (q : ℕ → Bool) (id : ℕ) (es : List ContractEvent) → q id ≡ true
    → filter (is_event_of id) (filter (λ (e : ContractEvent). q e.contract) es) ≡ filter (is_event_of id) es
stay_listed q id [] k = refl
stay_listed q id (e ∷ es) k = by (e.contract == id) (q e.contract) refl refl (stay_listed q id es k)
  where
    by : (b d : Bool) → (e.contract == id) ≡ b → q e.contract ≡ d
        → filter (is_event_of id) (filter (λ (x : ContractEvent). q x.contract) es) ≡ filter (is_event_of id) es
        → filter (is_event_of id)
        (cond d (e ∷ filter (λ (x : ContractEvent). q x.contract) es) (filter (λ (x : ContractEvent). q x.contract) es))
        ≡ cond b (e ∷ filter (is_event_of id) es) (filter (is_event_of id) es)
    by true true f g ih = rw f (ap (λ l. e ∷ l) ih)
    by true false f g ih =
        absurd (clash (q e.contract) (subst (λ (m : ℕ). q m ≡ true) (sym (eqb-true e.contract id f)) k) g)
    by false true f g ih = rw f ih
    by false false f g ih = ih

-- those of a contract that goes are gone
gone_listed : (q : ℕ → Bool) (id : ℕ) (es : List ContractEvent) → q id ≡ false
    → filter (is_event_of id) (filter (λ (e : ContractEvent). q e.contract) es) ≡ []
gone_listed q id [] k = refl
gone_listed q id (e ∷ es) k = by (e.contract == id) (q e.contract) refl refl (gone_listed q id es k)
  where
    by : (b d : Bool) → (e.contract == id) ≡ b → q e.contract ≡ d
        → filter (is_event_of id) (filter (λ (x : ContractEvent). q x.contract) es) ≡ []
        → filter (is_event_of id)
        (cond d (e ∷ filter (λ (x : ContractEvent). q x.contract) es) (filter (λ (x : ContractEvent). q x.contract) es))
        ≡ []
    by true true f g ih =
        absurd (clash (q e.contract) g (subst (λ (m : ℕ). q m ≡ false) (sym (eqb-true e.contract id f)) k))
    by false true f g ih = rw f ih
    by true false f g ih = ih
    by false false f g ih = ih

-- a count of events is that of the list of them
counted : (id : ℕ) (es : List ContractEvent) → last_event id es ≡ length (filter (is_event_of id) es)
counted id [] = refl
counted id (e ∷ es) =
    sum_by-cons (λ (x : ContractEvent). cond (x.contract == id) 1 0) e es ∙ by (e.contract == id) (counted id es)
  where
    by : (b : Bool) → last_event id es ≡ length (filter (is_event_of id) es)
        → cond b 1 0 + last_event id es
        ≡ length (cond b (e ∷ filter (is_event_of id) es) (filter (is_event_of id) es))
    by true ih = omega (arith, ih)
    by false ih = omega (arith, ih)

thin_numbered : (q : ℕ → Bool) (id : ℕ) (es : List ContractEvent) → numbers_of id es ≡ numbers_up_to (last_event id es)
    → numbers_of id (filter (λ (e : ContractEvent). q e.contract) es)
    ≡ numbers_up_to (last_event id (filter (λ (e : ContractEvent). q e.contract) es))
thin_numbered q id es is = by (q id) refl
  where
    left : List ContractEvent
    left = filter (λ (e : ContractEvent). q e.contract) es

    by : (b : Bool) → q id ≡ b → numbers_of id left ≡ numbers_up_to (last_event id left)
    by true k =
        let same = stay_listed q id es k in
        ap (map (λ (e : ContractEvent). e.number)) same
        ∙ is
        ∙ ap numbers_up_to (counted id es ∙ ap length (sym same) ∙ sym (counted id left))
    by false k =
        let none = gone_listed q id es k in
        ap (map (λ (e : ContractEvent). e.number)) none ∙ ap numbers_up_to (ap length (sym none) ∙ sym (counted id left))

-- ---- the table

pub thinned_ordered : (t : Contracts) → IsOrdered t → IsOrdered (thinned t)
thinned_ordered t o =
    record {
      contracts_ascend =
          filter_up (λ (c : Contract). has_members c.id t.members) 0 t.last_contract t.contracts o.contracts_ascend;
      members_ascend = o.members_ascend;
      homed = homed_kept (λ n. has_members n t.members) t.contracts t.members (λ n e. e) o.homed;
      numbered = λ id. thin_numbered (λ n. has_members n t.members) id t.events (o.numbered id);
    }

-- ---- one event after the other

-- an event that is kept has the number that comes next among those that are kept
pub kept_noted : (q : ℕ → Bool) (es kept : List ContractEvent) (i : ℕ) (e : ContractEvent) → AreNumbered es
    → i < length es → e ≡ get_or es i e → q e.contract ≡ true
    → kept ≡ filter (λ (x : ContractEvent). q x.contract) (take i es)
    → with_next_event kept e.contract e.kind e.left ≡ filter (λ (x : ContractEvent). q x.contract) (take (i + 1) es)
kept_noted q es kept i e numbered low here passes is =
    let p : ContractEvent → Bool = λ (x : ContractEvent). q x.contract in
    let first : List ContractEvent = take i es in
    let count : last_event e.contract (filter p first) ≡ last_event e.contract first =
    counted e.contract (filter p first) ∙ ap length (stay_listed q e.contract first passes)
    ∙ sym (counted e.contract first) in
    let number : e.number ≡ last_event e.contract first + 1 =
    subst (λ (x : ContractEvent). x.number ≡ last_event x.contract first + 1) (sym here) (numbered i e low) in
    let next : last_event e.contract kept + 1 ≡ e.number =
    ap (λ (ys : List ContractEvent). last_event e.contract ys + 1) is ∙ ap (λ (n : ℕ). n + 1) count ∙ sym number in
    let split : filter p (take (i + 1) es) ≡ filter p first ++ cond (p e) (e ∷ []) [] =
    subst (λ (x : ContractEvent). filter p (take (i + 1) es) ≡ filter p first ++ cond (p x) (x ∷ []) []) (sym here)
    (filter_more p es i e low) in
    ap (λ (n : ℕ). kept ++ record { contract = e.contract; number = n; kind = e.kind; left = e.left } ∷ []) next
    ∙ ap (λ (ys : List ContractEvent). ys ++ e ∷ []) is
    ∙ sym (split ∙ ap (λ (b : Bool). filter p first ++ cond b (e ∷ []) []) passes)

-- an event that is not kept leaves them as they are
pub gone_passed : (q : ℕ → Bool) (es kept : List ContractEvent) (i : ℕ) (e : ContractEvent) → i < length es
    → e ≡ get_or es i e → q e.contract ≡ false → kept ≡ filter (λ (x : ContractEvent). q x.contract) (take i es)
    → kept ≡ filter (λ (x : ContractEvent). q x.contract) (take (i + 1) es)
gone_passed q es kept i e low here goes is =
    let p : ContractEvent → Bool = λ (x : ContractEvent). q x.contract in
    let split : filter p (take (i + 1) es) ≡ filter p (take i es) ++ cond (p e) (e ∷ []) [] =
    subst (λ (x : ContractEvent). filter p (take (i + 1) es) ≡ filter p (take i es) ++ cond (p x) (x ∷ []) [])
    (sym here) (filter_more p es i e low) in
    is ∙ sym (append-nil (filter p (take i es)))
    ∙ sym (split ∙ ap (λ (b : Bool). filter p (take i es) ++ cond b (e ∷ []) []) goes)
