-- Instances by their places in a view.
use Rattle.std.proofs.Common.{◌≡◌, ◌+◌, ◌<◌, ◌==◌, ℕ, zero, suc, Bool, true, false, cond, List, [], ◌∷◌, ◌++◌, Option, Some, None, map, drop, get_or, length, refl, ap, sym, subst, ◌∙◌, append_assoc, drop-cons, add-one, arith}
use Rattle.std.specs.Prelude.{find, flat_map, option_map, slice_get}
use Rattle.std.proofs.lemmas.Bool.Decides.{nat_tests}
use Rattle.std.proofs.lemmas.List.{length-map}
use Rattle.std.proofs.lemmas.Option.{slice_get-map, slice_get_read}
use Rattle.smf_state.specs.declared.view.ViewItem.{ViewItem}
use Rattle.smf_dep.specs.declared.member.GraphMember.{GraphMember}
use Rattle.smf_dep.specs.Members.{member_of, members}
use Rattle.smf_engine.specs.Orders.{is_about}
use Rattle.smf_provenance.specs.Groups.{at}

pub member_count : (items : List ViewItem) → length items ≡ length (members items)
member_count items = sym (length-map items member_of)

pub placed_member : (items : List ViewItem) (k : ℕ) (i : ViewItem) → slice_get items k ≡ Some i
    → slice_get (members items) k ≡ Some (member_of i)
placed_member items k i e = slice_get-map member_of items k ∙ ap (option_map member_of) e

-- ---- what is found of each instance

dropped : {X : Type 0} (f : GraphMember → List X) (ms : List GraphMember) (k : ℕ)
    → flat_map f (drop k ms) ≡ at f (slice_get ms k) ++ flat_map f (drop (suc k) ms)
dropped f [] zero = refl
dropped f [] (suc k) = refl
dropped f (m ∷ ms) zero = refl
dropped f (m ∷ ms) (suc k) = dropped f ms k

-- one place more
pub one_more : {X : Type 0} (f : GraphMember → List X) (ms : List GraphMember) (k : ℕ) (o : Option GraphMember)
    (a b all : List X)
    → o ≡ slice_get ms k → b ≡ a ++ at f o → a ++ flat_map f (drop k ms) ≡ all
    → b ++ flat_map f (drop (k + 1) ms) ≡ all
one_more f ms k o a b all there e so =
    ap (λ l. l ++ flat_map f (drop (k + 1) ms)) (e ∙ ap (λ p. a ++ at f p) there)
    ∙ append_assoc a (at f (slice_get ms k)) (flat_map f (drop (k + 1) ms))
    ∙ ap (λ n. a ++ (at f (slice_get ms k) ++ flat_map f (drop n ms))) (add-one k)
    ∙ ap (λ l. a ++ l) (sym (dropped f ms k)) ∙ so

-- ---- the place of an instance

found_by : (b : Bool) (x : ViewItem) (rest : Option ViewItem) → b ≡ true → cond b (Some x) rest ≡ Some x
found_by true x rest e = refl
found_by false x rest e = absurd cc

equal : (m n : ℕ) → m ≡ n → (m == n) ≡ true
equal m n e = grind (arith, nat_tests)

-- the item at this place
pub there : (items : List ViewItem) (k : ℕ) (x : ViewItem) → k < length items → x ≡ get_or items k x
    → slice_get items k ≡ Some x
there items k x lt at = slice_get_read items (length items) k x refl lt at

-- it is the first that is about the instance
pub here : (n : ℕ) (items : List ViewItem) (k : ℕ) (x : ViewItem) → k < length items → x ≡ get_or items k x
    → x.instance ≡ n → find (is_about n) (drop k items) ≡ find (is_about n) items
    → find (is_about n) items ≡ Some x
here n items k x lt at is so =
    sym so
    ∙ (ap (find (is_about n)) (drop-cons items k x lt ∙ ap (λ y. y ∷ drop (suc k) items) (sym at))
    ∙ found_by (x.instance == n) x (find (is_about n) (drop (suc k) items)) (equal x.instance n is))
