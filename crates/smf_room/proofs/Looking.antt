-- What was asked to look at a contract.
use Rattle.std.proofs.Common.{◌≡◌, inl, inr, ℕ, true, false, List, [], ◌∷◌, ◌++◌, Option, Some, None, refl, sym, ◌∙◌, ap, subst, append-nil}
use Rattle.smf_room.specs.declared.look.Look.{Look}
use Rattle.smf_room.specs.declared.look.Look.TheVariants.{Waits, Lives}
use Rattle.smf_room.specs.declared.token.Token.{Token}
use Rattle.smf_room.specs.declared.token.Token.TheVariants.{Go}
use Rattle.smf_room.specs.Looks.{IsAnyLook, IsLook, end_in, first_look, then_look}
use Rattle.smf_room.specs.Tellings.{Free, Only, Telling, Then, TokenIs}

pub says_first : (id : ℕ) (t : Option Token) (look : Look) → first_look t ≡ Some look → (ts : List Telling)
    → Only (TokenIs id t) ts → IsLook id look ts
says_first id t look e ts h = inl (record { token = t; says = e; asked = h })

pub two : (a b : Telling) (ts : List Telling) → Then (Only a) (Only b) ts → ts ≡ a ∷ b ∷ []
two a b ts h = h.4 ∙ ap (λ x. x ++ h.1) h.2 ∙ ap (λ x. a ∷ x) h.3

pub three : (a b c : Telling) (ts : List Telling) → Then (Then (Only a) (Only b)) (Only c) ts → ts ≡ a ∷ b ∷ c ∷ []
three a b c ts h = h.4 ∙ ap (λ x. x ++ h.1) (two a b h.0 h.2) ∙ ap (λ x. a ∷ b ∷ x) h.3

pub says_held : (id : ℕ) (t : Option Token) (look : Look) → first_look t ≡ None → look ≡ Lives (end_in t)
    → (ts : List Telling) → Then (Only (TokenIs id t)) (Only (Free id false)) ts → IsLook id look ts
says_held id t look n e ts h = inr (inl (record { token = t; silent = n; says = e; asked = two _ _ ts h }))

pub says_then : (id : ℕ) (t u : Option Token) (look : Look) → first_look t ≡ None → look ≡ then_look t u
    → (ts : List Telling) → Then (Then (Only (TokenIs id t)) (Only (Free id true))) (Only (TokenIs id u)) ts
    → IsLook id look ts
says_then id t u look n e ts h =
    inr (inr (record { before = t; after = u; silent = n; says = e; asked = three _ _ _ ts h }))

-- ---- looks that ended early

any_look : (id : ℕ) (t : Option Token) (o : Option Look) → first_look t ≡ o → (ts : List Telling) → Only (TokenIs id t) ts
    → (more : List Telling) × IsAnyLook id (ts ++ more)
any_look id t (Some look) e ts h =
    ([], (look, says_first id t look e (ts ++ []) (ap (λ x. x ++ []) h)))
any_look id t None e ts h = (
  Free id false ∷ [],
  (
    Lives (end_in t),
    says_held id t (Lives (end_in t)) e refl (ts ++ Free id false ∷ [])
        (ts, Free id false ∷ [], h, refl, refl),
  ),
)

-- it could have been a look
pub lost_first : (id : ℕ) (ts : List Telling) → Only (TokenIs id (Some Go)) ts
    → (more : List Telling) × IsAnyLook id (ts ++ more)
lost_first id ts h = any_look id (Some Go) (Some Waits) refl ts h

pub lost_held : (id : ℕ) (t : Option Token) → first_look t ≡ None → (ts : List Telling)
    → Then (Only (TokenIs id t)) (Only (Free id false)) ts → (more : List Telling) × IsAnyLook id (ts ++ more)
lost_held id t n ts h =
    let e : ts ≡ ts ++ [] = sym (append-nil ts) in
    ([], (Lives (end_in t), subst (IsLook id (Lives (end_in t))) e (says_held id t (Lives (end_in t)) n refl ts h)))

pub lost_then : (id : ℕ) (t : Option Token) → first_look t ≡ None → (ts : List Telling)
    → Then (Then (Only (TokenIs id t)) (Only (Free id true))) (Only (TokenIs id None)) ts
    → (more : List Telling) × IsAnyLook id (ts ++ more)
lost_then id t n ts h =
    let e : ts ≡ ts ++ [] = sym (append-nil ts) in
    ([], (then_look t None, subst (IsLook id (then_look t None)) e (says_then id t None (then_look t None) n refl ts h)))
