-- No two commits of an instance share a number: along the diagram each has the next.
use Rattle.std.proofs.Common.{◌≡◌, ◌≤◌, ◌+◌, ◌==◌, ℕ, Bool, true, false, cond, List, [], ◌∷◌, Option, Some, None, option_map, inl, inr, refl, sym, subst, arith, eqb-true}
use Rattle.std.proofs.lemmas.Bool.Decides.{nat_tests}
use Rattle.smf_state.specs.declared.state.State.{State}
use Rattle.smf_world.specs.declared.item.Item.{Item}
use Rattle.smf_world.specs.declared.item.Item.TheVariants.{Boot, Committed, Emptied, Held, Spawned}
use Rattle.smf_world.specs.Safe.{AlongTheDiagram, CommittedOnce, Last, RowFollows, WasNumbered, behind_boot, last_of}

-- the last commit has this number or a greater one
abbrev IsReachedBy : ℕ → Option Last → Type 0
IsReachedBy n None = ⊥
IsReachedBy n (Some l) = n ≤ l.number

behind : (n : ℕ) (o : Option Last) → IsReachedBy n o → IsReachedBy n (option_map behind_boot o)
behind n None r = r
behind n (Some l) r = r

passes : (n number : ℕ) (state : State) (o : Option Last) → RowFollows o number state → IsReachedBy n o → n + 1 ≤ number
passes n number state None f r = absurd r
passes n number state (Some l) f r = subst (λ (m : ℕ). n + 1 ≤ m) (sym f.0) (omega arith)

differ : (m n : ℕ) → m ≡ n → (m == n) ≡ false → ⊥
differ m n e f = grind (arith, nat_tests)

reached : (t : List Item) (i n : ℕ) → AlongTheDiagram t → WasNumbered i n t → IsReachedBy n (last_of i t)
reached [] i n a w = absurd w
reached (Committed j m s next ∷ t) i n a (inl e) = by (j == i) refl
  where
    by : (b : Bool) → (j == i) ≡ b
        → IsReachedBy n (cond b (Some (record { number = m; state = s; booted = false })) (last_of i t))
    by true f = subst (λ (k : ℕ). n ≤ k) (sym e.1) (omega arith)
    by false f = absurd (differ j i e.0 f)
reached (Committed j m s next ∷ t) i n a (inr w) = by (j == i) refl (reached t i n a.1 w)
  where
    more : n + 1 ≤ m → n ≤ m
    more le = omega arith

    by : (b : Bool) → (j == i) ≡ b → IsReachedBy n (last_of i t)
        → IsReachedBy n (cond b (Some (record { number = m; state = s; booted = false })) (last_of i t))
    by true f r =
        more (passes n m s (last_of j t) a.0 (subst (λ (k : ℕ). IsReachedBy n (last_of k t)) (sym (eqb-true j i f)) r))
    by false f r = r
reached (Held name launch j m s ∷ t) i n a w = reached t i n a w
reached (Spawned c j r method revision command ∷ t) i n a w = reached t i n a w
reached (Emptied c ∷ t) i n a w = reached t i n a w
reached (Boot ∷ t) i n a w = behind n (last_of i t) (reached t i n a w)

too_much : (n : ℕ) → n + 1 ≤ n → ⊥
too_much n le = omega arith

pub once : (t : List Item) → AlongTheDiagram t → CommittedOnce t
once [] a = tt
once (Committed i n s next ∷ t) a = (λ w. too_much n (passes n n s (last_of i t) a.0 (reached t i n a.1 w)), once t a.1)
once (Held name launch j m s ∷ t) a = once t a
once (Spawned c j r method revision command ∷ t) a = once t a
once (Emptied c ∷ t) a = once t a
once (Boot ∷ t) a = once t a
