-- Calls that are put together, and calls that end early.
use Rattle.std.proofs.Common.{◌≡◌, ◌⊎◌, inl, inr, List, [], ◌∷◌, ◌++◌, Option, Some, None, Result, Ok, Err, OnErr, refl, sym, ◌∙◌, ap, subst, append_assoc, append-nil}
use Rattle.smf_room.specs.Tellings.{Call, Calls, Deed, EndsEarly, Fails, FailsNext, Heard, Log, Only, Telling, Tells, Then, all_deeds, deeds_in, failed, log_with}

-- ---- the log

log_none : (o : Option (List Deed)) → o ≡ log_with [] o
log_none None = refl
log_none (Some xs) = ap Some (sym (append-nil xs))

log_both : (a b : List Deed) (o : Option (List Deed)) → log_with b (log_with a o) ≡ log_with (a ++ b) o
log_both a b None = refl
log_both a b (Some xs) = ap Some (append_assoc xs a b)

logged : {S : Type 0} (tells : Tells S) (did : Log S) (ts : List Telling) (p q : S) → Calls tells did ts p q
    → did q ≡ log_with (all_deeds ts) (did p)
logged tells did [] p q c = ap did (sym c) ∙ log_none (did p)
logged tells did (t ∷ ts) p q c =
    logged tells did ts c.0 q c.2 ∙ ap (log_with (all_deeds ts)) c.1.logged
    ∙ log_both (deeds_in t) (all_deeds ts) (did p)

-- ---- calls

heard : {S : Type 0} (tells : Tells S) (did : Log S) (P : List Telling → Type 0) (ts : List Telling) (p q : S)
    → P ts → Calls tells did ts p q → Heard tells did P p q
heard tells did P ts p q h c = record { calls = ts; holds = h; told = c; logged = logged tells did ts p q c }

pub calls_both : {S : Type 0} (tells : Tells S) (did : Log S) (us ts : List Telling) (p q r : S)
    → Calls tells did us p q → Calls tells did ts q r → Calls tells did (us ++ ts) p r
calls_both tells did [] ts p q r a b = subst (λ x. Calls tells did ts x r) (sym a) b
calls_both tells did (u ∷ us) ts p q r a b = (a.0, a.1, calls_both tells did us ts a.0 q r a.2 b)

-- no call
pub none : {S : Type 0} (tells : Tells S) (did : Log S) (P : List Telling → Type 0) (p : S) → P []
    → Heard tells did P p p
none tells did P p h = heard tells did P [] p p h refl

-- one call
pub one : {S : Type 0} {tells : Tells S} {did : Log S} {t : Telling} {p q : S} → Call tells did t p q
    → Heard tells did (Only t) p q
one {tells = tells} {did = did} {t = t} {p = p} {q = q} c = heard tells did (Only t) (t ∷ []) p q refl (q, c, refl)

pub weaker : {S : Type 0} {tells : Tells S} {did : Log S} {P : List Telling → Type 0} {p q : S}
    (Q : List Telling → Type 0) → ((ts : List Telling) → P ts → Q ts) → Heard tells did P p q → Heard tells did Q p q
weaker Q k h = record { calls = h.calls; holds = k h.calls h.holds; told = h.told; logged = h.logged }

pub both : {S : Type 0} {tells : Tells S} {did : Log S} {P Q : List Telling → Type 0} {p q r : S}
    → Heard tells did P p q → Heard tells did Q q r → Heard tells did (Then P Q) p r
both {tells = tells} {did = did} {P = P} {Q = Q} {p = p} {q = q} {r = r} a b =
    heard tells did (Then P Q) (a.calls ++ b.calls) p r (a.calls, b.calls, a.holds, b.holds, refl)
    (calls_both tells did a.calls b.calls p q r a.told b.told)

-- ---- calls that end early

-- a call that failed
early_one : (t : Telling) (ts : List Telling) → Only (failed t) ts → EndsEarly (Only t) ts
early_one t ts e = record { before = []; rest = t ∷ []; whole = refl; ends = inr e }

fails_more : (before rest more ts : List Telling) → FailsNext before rest ts → FailsNext before (rest ++ more) ts
fails_more before [] more ts f = absurd f
fails_more before (t ∷ rest) more ts f = f

ends_more : (before rest more ts : List Telling) → (ts ≡ before) ⊎ FailsNext before rest ts
    → (ts ≡ before) ⊎ FailsNext before (rest ++ more) ts
ends_more before rest more ts (inl e) = inl e
ends_more before rest more ts (inr f) = inr (fails_more before rest more ts f)

-- what could have been gone on with could so
pub early_more : (P Q : List Telling → Type 0) → ((ts : List Telling) → P ts → (more : List Telling) × Q (ts ++ more))
    → (ts : List Telling) → EndsEarly P ts → EndsEarly Q ts
early_more P Q k ts e =
    let w = k (e.before ++ e.rest) e.whole in
    record {
      before = e.before;
      rest = e.rest ++ w.0;
      whole = subst Q (append_assoc e.before e.rest w.0) w.1;
      ends = ends_more e.before e.rest w.0 ts e.ends;
    }

fails_after : (us before rest ts : List Telling) → FailsNext before rest ts → FailsNext (us ++ before) rest (us ++ ts)
fails_after us before [] ts f = absurd f
fails_after us before (t ∷ rest) ts f = ap (λ x. us ++ x) f ∙ sym (append_assoc us before (failed t ∷ []))

ends_after : (us before rest ts : List Telling) → (ts ≡ before) ⊎ FailsNext before rest ts
    → ((us ++ ts) ≡ us ++ before) ⊎ FailsNext (us ++ before) rest (us ++ ts)
ends_after us before rest ts (inl e) = inl (ap (λ x. us ++ x) e)
ends_after us before rest ts (inr f) = inr (fails_after us before rest ts f)

early_after : (P Q : List Telling → Type 0) (us ts : List Telling) → P us → EndsEarly Q ts
    → EndsEarly (Then P Q) (us ++ ts)
early_after P Q us ts p e =
    record {
      before = us ++ e.before;
      rest = e.rest;
      whole = (us, e.before ++ e.rest, p, e.whole, append_assoc us e.before e.rest);
      ends = ends_after us e.before e.rest ts e.ends;
    }

-- the first call failed
pub one_lost : {S : Type 0} {tells : Tells S} {did : Log S} {p q : S} (t : Telling) → Call tells did (failed t) p q
    → Heard tells did (EndsEarly (Only t)) p q
one_lost t c = weaker (EndsEarly (Only t)) (early_one t) (one c)

-- some calls were made, and then others ended early
pub both_lost : {S : Type 0} {tells : Tells S} {did : Log S} {P Q : List Telling → Type 0} {p q r : S}
    → Heard tells did P p q → Heard tells did (EndsEarly Q) q r → Heard tells did (EndsEarly (Then P Q)) p r
both_lost {tells = tells} {did = did} {P = P} {Q = Q} {p = p} {q = q} {r = r} a b =
    heard tells did (EndsEarly (Then P Q)) (a.calls ++ b.calls) p r
    (early_after P Q a.calls b.calls a.holds b.holds) (calls_both tells did a.calls b.calls p q r a.told b.told)

-- calls that ended early could have been others
pub lost_of : {S : Type 0} {tells : Tells S} {did : Log S} {P : List Telling → Type 0} {p q : S}
    (Q : List Telling → Type 0) → ((ts : List Telling) → P ts → (more : List Telling) × Q (ts ++ more))
    → Heard tells did (EndsEarly P) p q → Heard tells did (EndsEarly Q) p q
lost_of {P = P} Q k h = weaker (EndsEarly Q) (early_more P Q k) h

-- all calls were made, and then memory was short
pub stopped : {S : Type 0} {tells : Tells S} {did : Log S} {P : List Telling → Type 0} {p q : S}
    (Q : List Telling → Type 0) → ((ts : List Telling) → P ts → (more : List Telling) × Q (ts ++ more))
    → Heard tells did P p q → Heard tells did (EndsEarly Q) p q
stopped {P = P} Q k h =
    weaker (EndsEarly Q)
    (λ ts p. let w = k ts p in record { before = ts; rest = w.0; whole = w.1; ends = inl refl }) h

pub on_err : {T E : Type 0} (r : Result T E) {X : Type 0} → X → OnErr r X
on_err (Ok x) h = tt
on_err (Err e) h = h

-- the answer was this
pub heard_as : {S A : Type 0} {tells : Tells S} {did : Log S} {p q : S} (f : A → Telling) {x y : A} → x ≡ y
    → Heard tells did (Only (f x)) p q → Heard tells did (Only (f y)) p q
heard_as {tells = tells} {did = did} {p = p} {q = q} f e h = subst (λ a. Heard tells did (Only (f a)) p q) e h

pub heard_when : {S A : Type 0} {tells : Tells S} {did : Log S} {p q : S} (f : A → Telling) (x y : A) → x ≡ y
    → Heard tells did (Only (f x)) p q → Heard tells did (Only (f y)) p q
heard_when f x y e h = heard_as f e h

pub call_as : {S A : Type 0} {tells : Tells S} {did : Log S} {p q : S} (f : A → Telling) {x y : A} → x ≡ y
    → Call tells did (f x) p q → Call tells did (f y) p q
call_as {tells = tells} {did = did} {p = p} {q = q} f e h = subst (λ a. Call tells did (f a) p q) e h

-- ---- calls of which one failed

fails_one : (t : Telling) (ts : List Telling) → Only (failed t) ts → Fails (Only t) ts
fails_one t ts e = record { before = []; next = t; rest = []; whole = refl; ends = inr e }

pub call_fails : {S : Type 0} {tells : Tells S} {did : Log S} {p q : S} (t : Telling) → Call tells did (failed t) p q
    → Heard tells did (Fails (Only t)) p q
call_fails t c = weaker (Fails (Only t)) (fails_one t) (one c)

fails_then : (P Q : List Telling → Type 0) (us ts : List Telling) → P us → Fails Q ts → Fails (Then P Q) (us ++ ts)
fails_then P Q us ts p e =
    record {
      before = us ++ e.before;
      next = e.next;
      rest = e.rest;
      whole = (us, e.before ++ e.next ∷ e.rest, p, e.whole, append_assoc us e.before (e.next ∷ e.rest));
      ends = ends us e.before e.next ts e.ends;
    }
  where
    ends : (us before : List Telling) (next : Telling) (ts : List Telling)
        → (ts ≡ before) ⊎ (ts ≡ before ++ failed next ∷ [])
        → (us ++ ts ≡ us ++ before) ⊎ (us ++ ts ≡ (us ++ before) ++ failed next ∷ [])
    ends us before next ts (inl e) = inl (ap (λ x. us ++ x) e)
    ends us before next ts (inr e) = inr (ap (λ x. us ++ x) e ∙ sym (append_assoc us before (failed next ∷ [])))

pub both_fails : {S : Type 0} {tells : Tells S} {did : Log S} {P Q : List Telling → Type 0} {p q r : S}
    → Heard tells did P p q → Heard tells did (Fails Q) q r → Heard tells did (Fails (Then P Q)) p r
both_fails {tells = tells} {did = did} {P = P} {Q = Q} {p = p} {q = q} {r = r} a b =
    heard tells did (Fails (Then P Q)) (a.calls ++ b.calls) p r
    (fails_then P Q a.calls b.calls a.holds b.holds) (calls_both tells did a.calls b.calls p q r a.told b.told)

pub fails_weaker : {S : Type 0} {tells : Tells S} {did : Log S} {P : List Telling → Type 0} {p q : S}
    (Q : List Telling → Type 0) → ((ts : List Telling) → P ts → Q ts) → Heard tells did (Fails P) p q
    → Heard tells did (Fails Q) p q
fails_weaker Q k h =
    weaker (Fails Q)
    (λ ts f. record { before = f.before; next = f.next; rest = f.rest; whole = k _ f.whole; ends = f.ends }) h

-- calls that ended early, and after which one more had to come
fails_more_by : (P Q : List Telling → Type 0)
    → ((ts : List Telling) → P ts → (t : Telling) × (more : List Telling) × Q (ts ++ t ∷ more))
    → (ts before rest : List Telling) → P (before ++ rest) → (ts ≡ before) ⊎ FailsNext before rest ts → Fails Q ts
fails_more_by P Q k ts before [] w (inl e) =
    let n = k (before ++ []) w in
    record {
      before = before;
      next = n.0;
      rest = n.1;
      whole = subst (λ x. Q (x ++ n.0 ∷ n.1)) (append-nil before) n.2;
      ends = inl e;
    }
fails_more_by P Q k ts before [] w (inr f) = absurd f
fails_more_by P Q k ts before (r ∷ rest) w e =
    let n = k (before ++ r ∷ rest) w in
    record {
      before = before;
      next = r;
      rest = rest ++ n.0 ∷ n.1;
      whole = subst Q (append_assoc before (r ∷ rest) (n.0 ∷ n.1)) n.2;
      ends = e;
    }

pub fails_of : {S : Type 0} {tells : Tells S} {did : Log S} {P : List Telling → Type 0} {p q : S}
    (Q : List Telling → Type 0)
    → ((ts : List Telling) → P ts → (t : Telling) × (more : List Telling) × Q (ts ++ t ∷ more))
    → Heard tells did (EndsEarly P) p q → Heard tells did (Fails Q) p q
fails_of {P = P} Q k h = weaker (Fails Q) (λ ts e. fails_more_by P Q k ts e.before e.rest e.whole e.ends) h

pub early_of : {S : Type 0} {tells : Tells S} {did : Log S} {P : List Telling → Type 0} {p q : S}
    → Heard tells did (Fails P) p q → Heard tells did (EndsEarly P) p q
early_of {P = P} h =
    weaker (EndsEarly P) (λ ts f. record { before = f.before; rest = f.next ∷ f.rest; whole = f.whole; ends = f.ends }) h
