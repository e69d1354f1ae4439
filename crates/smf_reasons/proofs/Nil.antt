-- Lists that are empty, and what that says of what they are joined from.
use Rattle.std.proofs.Common.{◌≡◌, List, [], ◌∷◌, ◌++◌, Bool, true, false, ◌||◌, refl, subst, sym}
use Rattle.std.specs.Prelude.{if◌then◌else◌}
use Rattle.std.proofs.lemmas.Bool.{false≢true}
use Rattle.smf_reasons.specs.declared.reason.Reason.{Reason}

abbrev pub IsNil : {A : Type 0} → List A → Type 0
IsNil [] = Unit {0}
IsNil (x ∷ xs) = ⊥

pub nil_parts : {A : Type 0} (xs ys : List A) → IsNil (xs ++ ys) → IsNil xs × IsNil ys
nil_parts [] ys p = (tt, p)
nil_parts (x ∷ xs) ys p = absurd p

pub nil_joined : {A : Type 0} (xs ys : List A) → IsNil xs → IsNil ys → IsNil (xs ++ ys)
nil_joined [] ys p q = q
nil_joined (x ∷ xs) ys p q = absurd p

pub nil_is : {A : Type 0} (xs : List A) → IsNil xs → xs ≡ []
nil_is [] p = refl
nil_is (x ∷ xs) p = absurd p

pub is_nil : {A : Type 0} (xs : List A) → xs ≡ [] → IsNil xs
is_nil xs e = subst IsNil (sym e) tt

-- one reason, unless something is so
abbrev pub unless : Bool → Reason → List Reason
unless b r = if b then [] else r ∷ []

pub so_if_nil : (b : Bool) (r : Reason) → IsNil (unless b r) → b ≡ true
so_if_nil true r p = refl
so_if_nil false r p = absurd p

pub nil_if_so : (b : Bool) (r : Reason) → b ≡ true → IsNil (unless b r)
nil_if_so true r e = tt
nil_if_so false r e = absurd (false≢true e)

pub or_none : (a b : Bool) → (a || b) ≡ false → (a ≡ false) × (b ≡ false)
or_none false b e = (refl, e)
or_none true b e = absurd (false≢true (sym e))
