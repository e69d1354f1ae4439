-- An older run that is ended, one answer after the other.
use Rattle.std.proofs.Common.{◌≡◌, ◌≢◌, ◌⊎◌, ◌∙◌, inl, inr, List, [], ℕ, zero, suc, Option, refl, sym, subst}
use Rattle.smf_sweep.specs.Children.{children_of}
use Rattle.smf_sweep.specs.Leftovers.{left_of}
use Rattle.smf_sweep.specs.Sweeps.{FindsSome, HasNone, IsAsked, IsCleared, IsClosed, IsRound, IsSwept, IsUnread, Rounds, StopsRound, StopsRun, StopsSweep, WasCleared}
use Rattle.smf_sweep.specs.Replies.{Telling, Booted, Listed, Looked, Ended, Emptied, Removed, NoAnswer}
use Rattle.smf_sweep.specs.declared.child.Child.{Child}
use Rattle.smf_sweep.specs.declared.fault.SweepFault.{SweepFault}
use Rattle.smf_sweep.specs.declared.fault.SweepFault.TheVariants.{Unread, Unwritten, Unanswered, Left, Memory}
use Rattle.smf_sweep.specs.declared.process.Process.{Process}

pub with_reason : {A B C : Type 0} → A ⊎ B → C → A ⊎ (B × C)
with_reason (inl a) c = inl a
with_reason (inr b) c = inr (b, c)

pub no_children : {S : Type 0} (tells : S → Telling → S → Type 0) (children : List Child) (p : S) → children ≡ []
    → HasNone tells children p p
no_children tells children p none = inl (none, refl)

pub found_none : {S : Type 0} (tells : S → Telling → S → Type 0) (children : List Child)
    (processes left : List Process) (p q : S) → tells p (Looked children processes) q
    → left ≡ left_of children processes → left ≡ [] → HasNone tells children p q
found_none tells children processes left p q told is none = inr (processes, told, sym is ∙ none)

pub found_some : {S : Type 0} (tells : S → Telling → S → Type 0) (children : List Child)
    (processes left : List Process) (p q : S) → tells p (Looked children processes) q
    → left ≡ left_of children processes → left ≢ [] → FindsSome tells children left p q
found_some tells children processes left p q told is some = (processes, told, is, some)

pub is_round : {S : Type 0} (tells : S → Telling → S → Type 0) (children : List Child) (left : List Process)
    (p r q : S) → FindsSome tells children left p r → tells r (Ended left) q → IsRound tells children p q
is_round tells children left p r q found told = (left, r, found, told)

pub not_looked : {S : Type 0} (tells : S → Telling → S → Type 0) (children : List Child) (e : SweepFault) (p q : S)
    → (e ≡ Memory) ⊎ ((e ≡ Unanswered) × tells p NoAnswer q) → StopsRound tells children p e
not_looked tells children e p q (inl short) = inl short
not_looked tells children e p q (inr lost) = inr (lost.0, inl (q, lost.1))

pub not_ended : {S : Type 0} (tells : S → Telling → S → Type 0) (children : List Child) (left : List Process)
    (e : SweepFault) (p r q : S) → FindsSome tells children left p r → tells r NoAnswer q
    → (e ≡ Memory) ⊎ (e ≡ Unanswered) → StopsRound tells children p e
not_ended tells children left e p r q found told (inl short) = inl short
not_ended tells children left e p r q found told (inr is) = inr (is, inr (left, r, q, found, told))

pub no_rounds : {S : Type 0} (tells : S → Telling → S → Type 0) (children : List Child) (p : S)
    → Rounds tells children zero p p
no_rounds tells children p = refl

pub one_more : {S : Type 0} (tells : S → Telling → S → Type 0) (children : List Child) (n : ℕ) (p r q : S)
    → Rounds tells children n p r → IsRound tells children r q → Rounds tells children (suc n) p q
one_more tells children n p r q rounds round = (r, rounds, round)

pub is_swept : {S : Type 0} (tells : S → Telling → S → Type 0) (children : List Child) (n : ℕ) (p r q : S)
    → Rounds tells children n p r → HasNone tells children r q → IsSwept tells children p q
is_swept tells children n p r q rounds none = (n, r, rounds, none)

pub sweep_stopped : {S : Type 0} (tells : S → Telling → S → Type 0) (most n : ℕ) (children : List Child)
    (e : SweepFault) (p r : S) → Rounds tells children n p r → StopsRound tells children r e
    → StopsSweep tells most children p e
sweep_stopped tells most n children e p r rounds stops = inl (n, r, rounds, stops)

pub patience_ended : {S : Type 0} (tells : S → Telling → S → Type 0) (most : ℕ) (children : List Child) (p q : S)
    → Rounds tells children most p q → StopsSweep tells most children p Left
patience_ended tells most children p q rounds = inr (refl, (q, rounds))

pub is_asked : {S : Type 0} (tells : S → Telling → S → Type 0) (path boot : List ℕ) (children : List Child)
    (text : Option (List ℕ)) (p r q : S) → tells p (Booted boot) r → tells r (Listed path text) q
    → children ≡ children_of boot text → IsAsked tells path boot children p q
is_asked tells path boot children text p r q booted listed is = (text, r, booted, listed, is)

pub not_booted : {S : Type 0} (tells : S → Telling → S → Type 0) (p q : S) → tells p NoAnswer q → IsUnread tells p
not_booted tells p q told = inl (q, told)

pub not_listed : {S : Type 0} (tells : S → Telling → S → Type 0) (boot : List ℕ) (p r q : S) → tells p (Booted boot) r
    → tells r NoAnswer q → IsUnread tells p
not_listed tells boot p r q booted told = inr (boot, r, q, booted, told)

pub is_cleared : {S : Type 0} (tells : S → Telling → S → Type 0) (path boot : List ℕ) (children : List Child)
    (p r s q : S) → IsAsked tells path boot children p r → IsSwept tells children r s → tells s (Emptied path) q
    → IsCleared tells path boot p q
is_cleared tells path boot children p r s q asked swept told = (children, r, s, asked, swept, told)

pub was_cleared : {S : Type 0} (tells : S → Telling → S → Type 0) (path boot : List ℕ) (p q : S)
    → IsCleared tells path boot p q → ∥ WasCleared tells path boot ∥₁
was_cleared tells path boot p q cleared = ∣ (p, q, cleared) ∣₁

pub run_unread : {S : Type 0} (tells : S → Telling → S → Type 0) (most : ℕ) (path : List ℕ) (p : S) (e : SweepFault)
    → (e ≡ Memory) ⊎ ((e ≡ Unread) × IsUnread tells p) → StopsRun tells most path p e
run_unread tells most path p e (inl short) = inl short
run_unread tells most path p e (inr unread) = inr (inl unread)

pub run_stuck : {S : Type 0} (tells : S → Telling → S → Type 0) (most : ℕ) (path boot : List ℕ)
    (children : List Child) (p q : S) (e : SweepFault) → IsAsked tells path boot children p q
    → StopsSweep tells most children q e → StopsRun tells most path p e
run_stuck tells most path boot children p q e asked stops = inr (inr (inl (boot, children, q, asked, stops)))

pub run_unwritten : {S : Type 0} (tells : S → Telling → S → Type 0) (most : ℕ) (path boot : List ℕ)
    (children : List Child) (p q r s : S) (e : SweepFault) → IsAsked tells path boot children p q
    → IsSwept tells children q r → tells r NoAnswer s → (e ≡ Memory) ⊎ (e ≡ Unwritten) → StopsRun tells most path p e
run_unwritten tells most path boot children p q r s e asked swept told (inl short) = inl short
run_unwritten tells most path boot children p q r s e asked swept told (inr is) =
    inr (inr (inr (is, (boot, children, q, r, s, asked, swept, told))))

pub is_closed : {S : Type 0} (tells : S → Telling → S → Type 0) (path boot : List ℕ) (text : Option (List ℕ))
    (children : List Child) (p r s q : S) → tells p (Listed path text) r → children ≡ children_of boot text
    → HasNone tells children r s → tells s (Removed path) q → IsClosed tells path boot p q
is_closed tells path boot text children p r s q listed is none told =
    (text, r, s, listed, subst (λ c. HasNone tells c r s) is none, told)
