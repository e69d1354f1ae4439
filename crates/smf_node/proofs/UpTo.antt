-- Lists of which a part was done.
use Rattle.std.proofs.Common.{◌≡◌, ◌<◌, ℕ, ◌+◌, suc, List, [], ◌∷◌, ◌++◌, refl, sym, ap, ◌∙◌, subst, length, get_or, drop, append_assoc, append-nil, arith}
use Rattle.std.proofs.Math.Seq.{drop-cons}
use Rattle.smf_model.specs.declared.journal.RepoFault.{RepoFault}
use Rattle.smf_node.specs.declared.fault.NodeFault.{NodeFault}
use Rattle.smf_node.specs.Faults.{IsLack}
use Rattle.smf_node.specs.Runs.{RepeatsUntilFault}
use Rattle.smf_world.specs.declared.event.Event.TheVariants as events
use Rattle.smf_world.specs.Schedule.{Progress, delivered_again, on}

abbrev Fails : Type 1
Fails = RepoFault → Type 0

-- these things of a list are left, and those before were done
pub record IsUpTo {X : Type 0} (do_all : List X → Progress → Progress) (all rest : List X)
    (before after : Progress) : Type 0 where
  pub first : List X
  pub whole : all ≡ first ++ rest
  pub went : after ≡ do_all first before

pub up_to_none : {X : Type 0} (do_all : List X → Progress → Progress) (all : List X) (p : Progress) → p ≡ do_all [] p
    → IsUpTo do_all all all p p
up_to_none do_all all p e = record { first = []; whole = refl; went = e }

pub drop_next : {X : Type 0} (xs : List X) (k : ℕ) (x : X) → k < length xs → x ≡ get_or xs k x
    → drop k xs ≡ x ∷ drop (k + 1) xs
drop_next xs k x low is = let next : suc k ≡ k + 1 = omega arith in
    drop-cons xs k x low ∙ ap (λ y. y ∷ drop (suc k) xs) (sym is) ∙ ap (λ n. x ∷ drop n xs) next

pub drop_here : {X : Type 0} (xs : List X) (k : ℕ) (x : X) → k < length xs → drop k xs ≡ get_or xs k x ∷ drop (k + 1) xs
drop_here xs k x low = let next : suc k ≡ k + 1 = omega arith in
    drop-cons xs k x low ∙ ap (λ n. get_or xs k x ∷ drop n xs) next

up_to_more : {X : Type 0} (do_all : List X → Progress → Progress) (do_one : X → Progress → Progress)
    → ((xs : List X) (x : X) (p : Progress) → do_all (xs ++ x ∷ []) p ≡ do_one x (do_all xs p))
    → (all rest more : List X) (x : X) (p q r : Progress) → IsUpTo do_all all rest p q → rest ≡ x ∷ more
    → r ≡ do_one x q → IsUpTo do_all all more p r
up_to_more do_all do_one behind all rest more x p q r u is made =
    record {
      first = u.first ++ x ∷ [];
      whole = u.whole ∙ ap (λ l. u.first ++ l) is ∙ sym (append_assoc u.first (x ∷ []) more);
      went = made ∙ ap (do_one x) u.went ∙ sym (behind u.first x p);
    }

pub up_to_all : {X : Type 0} (do_all : List X → Progress → Progress) (all rest : List X) (p q : Progress)
    → IsUpTo do_all all rest p q → rest ≡ [] → q ≡ do_all all p
up_to_all do_all all rest p q u is =
    u.went ∙ ap (λ xs. do_all xs p) (sym (u.whole ∙ ap (λ l. u.first ++ l) is ∙ append-nil u.first))

-- ---- messages

places_behind : (ns : List ℕ) (n : ℕ) (p : Progress)
    → delivered_again (ns ++ n ∷ []) p ≡ on (delivered_again ns p) (events.Deliver n)
places_behind [] n p = refl
places_behind (m ∷ ns) n p = places_behind ns n (on p (events.Deliver m))

pub one_place : (all rest more : List ℕ) (n : ℕ) (p q r : Progress) → IsUpTo delivered_again all rest p q
    → rest ≡ n ∷ more → r ≡ on q (events.Deliver n) → IsUpTo delivered_again all more p r
one_place = up_to_more delivered_again (λ n p. on p (events.Deliver n)) places_behind

pub place_failed : (fails : Fails) (all rest more : List ℕ) (n : ℕ) (p q r : Progress) (e : NodeFault)
    → IsUpTo delivered_again all rest p q → rest ≡ n ∷ more → r ≡ q → IsLack fails q.world (events.Deliver n) e
    → RepeatsUntilFault fails p all r e
place_failed fails all rest more n p q r e u is same f =
    record {
      first = u.first;
      failed = n;
      rest = more;
      whole = u.whole ∙ ap (λ l. u.first ++ l) is;
      went = same ∙ u.went;
      fault = subst (λ (s : Progress). IsLack fails s.world (events.Deliver n) e) (sym same) f;
    }
