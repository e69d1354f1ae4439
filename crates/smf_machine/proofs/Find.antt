-- Restarters that are looked for, seen as what they know, and instances that are looked for by number.
use Rattle.std.proofs.Common.{◌≡◌, ◌∙◌, ◌==◌, ℕ, List, [], ◌∷◌, Bool, true, false, cond, map, Option, Some, refl, ap, sym, subst}
use Rattle.std.proofs.lemmas.Bool.{eqb-true}
use Rattle.std.specs.Ordering.{is_eq, nat_cmp}
use Rattle.std.specs.Prelude.{find, option_map}
use Rattle.smf_fmri.specs.ByKey.{lookup}
use Rattle.smf_restarter.specs.declared.known.KnownInstance.{KnownInstance}
use Rattle.smf_restarter.specs.Knowledge.{by_instance}
use Rattle.smf_world.proofs.CommitLists.{has_same, number_is, same}
use Rattle.smf_machine.specs.Requests.{is_instance}
use Rattle.smf_restarter.specs.Knowledge.{Kept, Knowledge}
use Rattle.smf_world.specs.Worked.{is_actor, is_named}
use Rattle.smf_machine.specs.Given.{is_actor_kept, is_named_kept}
use Rattle.smf_machine.specs.Parts.{knowledge}

either : (b : Bool) (r : Kept) (found : Option Kept) (known : Option Knowledge) → option_map knowledge found ≡ known
    → option_map knowledge (cond b (Some r) found) ≡ cond b (Some r.known) known
either true r found known e = refl
either false r found known e = e

find_known : (p : Knowledge → Bool) (rs : List Kept)
    → option_map knowledge (find (λ r. p r.known) rs) ≡ find p (map knowledge rs)
find_known p [] = refl
find_known p (r ∷ rs) = either (p r.known) r _ _ (find_known p rs)

pub find_named : (name : List ℕ) (rs : List Kept)
    → option_map knowledge (find (is_named_kept name) rs) ≡ find (is_named name) (map knowledge rs)
find_named name rs = find_known (is_named name) rs

pub find_actor : (actor : ℕ) (rs : List Kept)
    → option_map knowledge (find (is_actor_kept actor) rs) ≡ find (is_actor actor) (map knowledge rs)
find_actor actor rs = find_known (is_actor actor) rs

-- ---- instances

same_test : (m n : ℕ) (b : Bool) → is_eq (nat_cmp m n) ≡ b → (m == n) ≡ b
same_test m n true e = subst (λ (k : ℕ). (m == k) ≡ true) (number_is m n e) (same m)
same_test m n false e = by (m == n) refl
  where
    by : (b : Bool) → (m == n) ≡ b → (m == n) ≡ false
    by true f = let t : is_eq (nat_cmp m n) ≡ true = has_same m n (eqb-true m n f) in absurd cc
    by false f = f

found_by : (b c : Bool) (i : KnownInstance) (o p : Option KnownInstance) → c ≡ b → o ≡ p
    → cond b (Some i) o ≡ cond c (Some i) p
found_by true c i o p e f = ap (λ (x : Bool). cond x (Some i) p) (sym e)
found_by false c i o p e f = f ∙ ap (λ (x : Bool). cond x (Some i) p) (sym e)

pub known_found : (n : ℕ) (is : List KnownInstance) → lookup by_instance is n ≡ find (is_instance n) is
known_found n [] = refl
known_found n (i ∷ is) =
    found_by (is_eq (nat_cmp i.instance n)) (is_instance n i) i _ _ (same_test i.instance n _ refl) (known_found n is)
