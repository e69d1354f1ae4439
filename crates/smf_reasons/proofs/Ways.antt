-- Ways between instances, joined and made longer.
use Rattle.std.proofs.Common.{◌≡◌, inl, inr, ℕ, zero, suc, List, [], ◌∷◌, ◌++◌, Bool, true, false, ◌&&◌, ◌||◌, ◌<◌, ◌≤◌, ◌-◌, length, get_or, take, drop, arith, Option, Some, None, refl, subst, sym, ap, ◌∙◌}
use Rattle.std.specs.Prelude.{if◌then◌else◌, slice_get}
use Rattle.std.proofs.lemmas.List.{map-append, take_all}
use Rattle.std.proofs.lemmas.Option.{slice_get_read}
use Rattle.smf_dep.specs.declared.member.GraphMember.{GraphMember}
use Rattle.smf_dep.specs.Cycles.{IsAmong, IsPath, cites, leads, on_cycle}
use Rattle.smf_reasons.specs.Reasons.{NamesCycle, on_none, on_one}
use Rattle.smf_reasons.specs.Ways.{IfWay, IsWay, WayOrNone}

-- ---- none between

straight_by : (Q : Option (List (List ℕ)) → Type 0) (b : Bool) → (b ≡ true → Q (Some [])) → (b ≡ false → Q None)
    → Q (if b then Some [] else None)
straight_by Q true some none = some refl
straight_by Q false some none = none refl

pub hinted : (ms : List GraphMember) (a b : GraphMember) (o : Option (List (List ℕ)))
    → o ≡ (if cites a b then Some [] else None) → IfWay ms a b o
hinted ms a b o e =
    subst (IfWay ms a b) (sym e)
    (straight_by (IfWay ms a b) (cites a b) (λ so. record { path = []; along = so; named = refl }) (λ no. tt))

known : (a b : GraphMember) (o : Option (List (List ℕ))) → o ≡ (if cites a b then Some [] else None)
    → WayOrNone [] a b o
unfolding leads
known a b o e =
    subst (WayOrNone [] a b) (sym e)
    (straight_by (WayOrNone [] a b) (cites a b) (λ so. record { path = []; along = so; named = refl }) (λ no. no))

-- ---- one more

abbrev IsAmongAt : List GraphMember → Option GraphMember → Type 0
IsAmongAt ms None = Unit {0}
IsAmongAt ms (Some m) = IsAmong m ms

deeper : (x : GraphMember) (ms : List GraphMember) (o : Option GraphMember) → IsAmongAt ms o → IsAmongAt (x ∷ ms) o
deeper x ms None p = tt
deeper x ms (Some m) p = inr p

among_at : (ms : List GraphMember) (k : ℕ) → IsAmongAt ms (slice_get ms k)
among_at [] k = tt
among_at (x ∷ ms) zero = inl refl
among_at (x ∷ ms) (suc k) = deeper x ms (slice_get ms k) (among_at ms k)

pub longer : (ms : List GraphMember) (a m b : GraphMember) (k : ℕ) (names all : List (List ℕ)) → k < length ms
    → m ≡ get_or ms k m → cites a m ≡ true → IsWay ms m b names
    → all ≡ m.name ∷ names → IsWay ms a b all
longer ms a m b k names all lt at e w f =
    let there = slice_get_read ms (length ms) k m refl lt at in
    record {
      path = m ∷ w.path;
      along = (subst (IsAmongAt ms) there (among_at ms k), e, w.along);
      named = f ∙ ap (λ l. m.name ∷ l) w.named;
    }

-- ---- by way of one more instance

within : (x : GraphMember) (ms : List GraphMember) (a : GraphMember) (path : List GraphMember) (b : GraphMember)
    → IsPath ms a path b → IsPath (x ∷ ms) a path b
within x ms a [] b e = e
within x ms a (m ∷ path) b p = (inr p.0, p.1, within x ms m path b p.2)

wider : (x : GraphMember) (ms : List GraphMember) (a b : GraphMember) (names : List (List ℕ)) → IsWay ms a b names
    → IsWay (x ∷ ms) a b names
wider x ms a b names w = record { path = w.path; along = within x ms a w.path b w.along; named = w.named }

joined : (ms p q : List GraphMember) (a x b : GraphMember) → IsAmong x ms → IsPath ms a p x → IsPath ms x q b
    → IsPath ms a (p ++ x ∷ q) b
joined ms [] q a x b there u v = (there, u, v)
joined ms (m ∷ p) q a x b there u v = (u.0, u.1, joined ms p q m x b there u.2 v)

met : (x : GraphMember) (ms : List GraphMember) (a b : GraphMember) (p q : List (List ℕ)) → IsWay ms a x p
    → IsWay ms x b q → IsWay (x ∷ ms) a b (p ++ x.name ∷ q)
met x ms a b p q u v =
    record {
      path = u.path ++ x ∷ v.path;
      along = joined (x ∷ ms) u.path v.path a x b (inl refl) (within x ms a u.path x u.along)
          (within x ms x v.path b v.along);
      named = (λ j. u.named j ++ x.name ∷ v.named j)
          ∙ sym (map-append (λ (m : GraphMember). m.name) u.path (x ∷ v.path));
    }

and_false : (b : Bool) → (b && false) ≡ false
and_false true = refl
and_false false = refl

none_to : (x : GraphMember) (ms : List GraphMember) (a b : GraphMember) → leads ms a b ≡ false → leads ms a x ≡ false
    → leads (x ∷ ms) a b ≡ false
unfolding leads
none_to x ms a b e f = λ j. e j || (f j && leads ms x b)

none_from : (x : GraphMember) (ms : List GraphMember) (a b : GraphMember) → leads ms a b ≡ false
    → leads ms x b ≡ false → leads (x ∷ ms) a b ≡ false
unfolding leads
none_from x ms a b e f = (λ j. e j || (leads ms a x && f j)) ∙ and_false (leads ms a x)

pub no_way : (ms : List GraphMember) (a b : GraphMember) (o : Option (List (List ℕ)))
    → ((names : List (List ℕ)) → o ≡ Some names → ⊥) → WayOrNone ms a b o → leads ms a b ≡ false
no_way ms a b None none w = w
no_way ms a b (Some names) none w = absurd (none names refl)

-- ---- the beginning of a list

pub none_of : (xs : List GraphMember) → length xs < 1 → xs ≡ []
none_of [] lt = refl
none_of (x ∷ xs) lt = absurd (omega (arith, lt))

pub first_of : (xs : List GraphMember) (x : GraphMember) → 1 ≤ length xs → x ≡ get_or xs 0 x
    → xs ≡ x ∷ take (length xs - 1) (drop 1 xs)
first_of [] x le e = absurd (omega (arith, le))
first_of (y ∷ ys) x le e =
    let enough : length ys ≤ length (y ∷ ys) - 1 = omega arith in
    let rest = take_all (length (y ∷ ys) - 1) ys enough in
    λ j. sym e j ∷ sym rest j

-- ---- the same of a list that begins with the instance

pub known_in : (all : List GraphMember) (a b : GraphMember) (o : Option (List (List ℕ))) → all ≡ []
    → o ≡ (if cites a b then Some [] else None) → WayOrNone all a b o
known_in all a b o e f = subst (λ ms. WayOrNone ms a b o) (sym e) (known a b o f)

pub wider_in : (all ms : List GraphMember) (x a b : GraphMember) (names : List (List ℕ)) → all ≡ x ∷ ms
    → IsWay ms a b names → IsWay all a b names
wider_in all ms x a b names e w = subst (λ xs. IsWay xs a b names) (sym e) (wider x ms a b names w)

pub met_in : (all ms : List GraphMember) (x a b : GraphMember) (p q r s : List (List ℕ)) → all ≡ x ∷ ms
    → IsWay ms a x p → IsWay ms x b q
    → s ≡ x.name ∷ q → r ≡ p ++ s → IsWay all a b r
met_in all ms x a b p q r s e u v f g =
    subst (IsWay all a b) (sym (g ∙ ap (λ l. p ++ l) f))
    (subst (λ xs. IsWay xs a b (p ++ x.name ∷ q)) (sym e) (met x ms a b p q u v))

pub none_to_in : (all ms : List GraphMember) (x a b : GraphMember) → all ≡ x ∷ ms → leads ms a b ≡ false
    → leads ms a x ≡ false → leads all a b ≡ false
none_to_in all ms x a b e f g = subst (λ xs. leads xs a b ≡ false) (sym e) (none_to x ms a b f g)

pub none_from_in : (all ms : List GraphMember) (x a b : GraphMember) → all ≡ x ∷ ms → leads ms a b ≡ false
    → leads ms x b ≡ false → leads all a b ≡ false
none_from_in all ms x a b e f g = subst (λ xs. leads xs a b ≡ false) (sym e) (none_from x ms a b f g)

-- ---- cycles

pub turned : (ms : List GraphMember) (m : GraphMember) (names all : List (List ℕ)) → IsWay ms m m names
    → all ≡ m.name ∷ names → NamesCycle ms m all
turned ms m names all w e = on_one w.path w.along (e ∙ ap (λ l. m.name ∷ l) w.named)

pub unturned : (ms : List GraphMember) (m : GraphMember) → leads ms m m ≡ false → NamesCycle ms m []
unfolding on_cycle
unturned ms m e = on_none e refl

pub off_cycle : (ms : List GraphMember) (m : GraphMember) (b : Bool) → b ≡ on_cycle ms m → b ≡ false
    → NamesCycle ms m []
off_cycle ms m b e off = on_none (sym e ∙ off) refl
