-- What lives, what was last and what was told, by the tests of a chronicle.
use Rattle.std.proofs.Common.{◌≡◌, ◌⊎◌, ℕ, ◌==◌, ◌&&◌, ◌||◌, not, List, [], ◌∷◌, Bool, true, false, cond, refl, sym, ap, ◌∙◌, subst, inl, inr}
use Rattle.std.specs.Bool.{Decides}
use Rattle.std.specs.Prelude.{Option, Some, None, filter, is_some}
use Rattle.std.proofs.lemmas.Bool.{and_parts, eqb-true, eq-eqb, ne_eqb}
use Rattle.std.proofs.lemmas.Bool.Decides.{same_from_decides}
use Rattle.smf_state.specs.declared.state.State.{State}
use Rattle.smf_world.specs.declared.item.Item.TheVariants.{Boot, Committed, Held, Spawned, Emptied}
use Rattle.smf_world.specs.Safe.{IsLiveIn, LiveStart, OneEach}
use Rattle.smf_chronicle.specs.declared.entry.Entry.{Entry}
use Rattle.smf_chronicle.specs.declared.entry.Entry.TheVariants.{Happened, Life, Row, Living}
use Rattle.smf_chronicle.specs.Audit.{is_live_in}
use Rattle.smf_chronicle.specs.Breaches.{is_number, was_told, was_told_as}
use Rattle.smf_chronicle.specs.Lives.{Always, IsNumber, IsNumberedOnce, IsRow, ToldRow, WasTold, WasToldAs, row_told}
use Rattle.smf_chronicle.specs.Tables.{contract_in, is_free_for, is_held_as, state_of, state_or}
use Rattle.smf_chronicle.proofs.Decided.{state_decides}
use Rattle.smf_chronicle.proofs.Demanded.{told_decides}

-- ---- rows

numbered_by : (b : Bool) (s : State) (o : Option State) (w : Bool) → is_some o ≡ w
    → is_some (cond b (Some s) o) ≡ (b || w)
numbered_by true s o w e = refl
numbered_by false s o w e = e

number_as : (i number : ℕ) (r : Option ToldRow) (o : Option State) (w : Bool) → is_some o ≡ w
    → is_some (state_or i number r o) ≡ (is_number i number r || w)
number_as i number None o w e = e
number_as i number (Some r) o w e = numbered_by (r.instance == i && r.number == number) r.state o w e

-- a row stands in the table exactly if its number was told
pub numbered_as : (i number : ℕ) (told : List Entry) → is_some (state_of i number told) ≡ was_told_as i number told
numbered_as i number [] = refl
numbered_as i number (entry ∷ told) =
    number_as i number (row_told entry) (state_of i number told) (was_told_as i number told)
    (numbered_as i number told)

-- a row that was told with a number in a state was told with this number
told_is_numbered : (i number : ℕ) (s : State) (told : List Entry) → WasTold i number s told → WasToldAs i number told
told_is_numbered i number s (entry ∷ told) (inl h) = inl (by (row_told entry) h)
  where
    by : (r : Option ToldRow) → IsRow i number s r → IsNumber i number r
    by None h = absurd h
    by (Some r) h = h.0
told_is_numbered i number s (entry ∷ told) (inr h) = inr (told_is_numbered i number s told h)
told_is_numbered i number s [] h = absurd h

-- what an entry tells with a number that was told is told in the same state
same_again : (told : List Entry) (entry : Entry) (r : ToldRow) → IsNumberedOnce told entry → row_told entry ≡ Some r
    → WasToldAs r.instance r.number told → WasTold r.instance r.number r.state told
same_again told (Happened (Committed i n s next)) r once e was =
    let is : record { instance = i; number = n; state = s } ≡ r = cc in
    absurd (once (subst (λ (x : ToldRow). WasToldAs x.instance x.number told) (sym is) was))
same_again told (Happened (Held name launch i n s)) r once e was = absurd cc
same_again told (Happened (Spawned c i run method revision command)) r once e was = absurd cc
same_again told (Happened (Emptied c)) r once e was = absurd cc
same_again told (Happened Boot) r once e was = absurd cc
same_again told Life r once e was = absurd cc
same_again told (Row i n s) r once e was =
    let is : record { instance = i; number = n; state = s } ≡ r = cc in
    let P : ToldRow → Type 0 = λ x. WasTold x.instance x.number x.state told in
    subst P is (once (subst (λ (x : ToldRow). WasToldAs x.instance x.number told) (sym is) was))
same_again told (Living c i) r once e was = absurd cc

told_here : (i number : ℕ) (s : State) (r : Option ToldRow) (o : Option State) → IsRow i number s r
    → state_or i number r o ≡ Some s
told_here i number s None o h = absurd h
told_here i number s (Some r) o h =
    let one : (r.instance == i) ≡ true = eq-eqb r.instance i h.0.0 in
    let two : (r.number == number) ≡ true = eq-eqb r.number number h.0.1 in
    rw (one, two) (ap (λ (x : State). Some x) h.1)

told_there : (b : Bool) (s x : State) (o : Option State) → o ≡ Some s → (b ≡ true → o ≡ Some x)
    → cond b (Some x) o ≡ Some s
told_there true s x o e same = sym (same refl) ∙ e
told_there false s x o e same = e

later_by : (i number : ℕ) (s : State) (r : Option ToldRow) (o : Option State) → o ≡ Some s
    → ((x : ToldRow) → r ≡ Some x → x.instance ≡ i → x.number ≡ number → o ≡ Some x.state)
    → state_or i number r o ≡ Some s
later_by i number s None o e same = e
later_by i number s (Some r) o e same =
    told_there (r.instance == i && r.number == number) s r.state o e
    (λ t. let parts = and_parts (r.instance == i) (r.number == number) t in
    same r refl (eqb-true r.instance i parts.0) (eqb-true r.number number parts.1))

-- a row that was told stands in the table in its state
told_stands : (i number : ℕ) (s : State) (told : List Entry) → Always IsNumberedOnce told → WasTold i number s told
    → state_of i number told ≡ Some s
told_stands i number s [] once h = absurd h
told_stands i number s (entry ∷ told) once (inl h) =
    told_here i number s (row_told entry) (state_of i number told) h
told_stands i number s (entry ∷ told) once (inr h) =
    later_by i number s (row_told entry) (state_of i number told) (told_stands i number s told once.1 h)
    (λ x e same_instance same_number.
    let P : ℕ → Type 0 = λ k. WasToldAs k x.number told in
    let Q : ℕ → Type 0 = λ k. WasToldAs i k told in
    let was : WasToldAs x.instance x.number told =
    subst P (sym same_instance) (subst Q (sym same_number) (told_is_numbered i number s told h)) in
    let again = same_again told entry x once.0 e was in
    let F : ℕ → Type 0 = λ k. WasTold k x.number x.state told in
    let G : ℕ → Type 0 = λ k. WasTold i k x.state told in
    told_stands i number x.state told once.1 (subst G same_number (subst F same_instance again)))

stands_by : (b : Bool) (i number : ℕ) (s : State) (r : ToldRow) (o : Option State) (W : Type 0)
    → (r.instance == i && r.number == number) ≡ b → (o ≡ Some s → W) → cond b (Some r.state) o ≡ Some s
    → (((r.instance ≡ i) × (r.number ≡ number)) × (r.state ≡ s)) ⊎ W
stands_by true i number s r o W e more h =
    let parts = and_parts (r.instance == i) (r.number == number) e in
    inl ((eqb-true r.instance i parts.0, eqb-true r.number number parts.1), cc)
stands_by false i number s r o W e more h = inr (more h)

stands_or : (i number : ℕ) (s : State) (r : Option ToldRow) (o : Option State) (W : Type 0) → (o ≡ Some s → W)
    → state_or i number r o ≡ Some s → IsRow i number s r ⊎ W
stands_or i number s None o W more h = inr (more h)
stands_or i number s (Some r) o W more h =
    stands_by (r.instance == i && r.number == number) i number s r o W refl more h

-- what stands in the table was told
stood : (i number : ℕ) (s : State) (told : List Entry) → state_of i number told ≡ Some s → WasTold i number s told
stood i number s [] h = absurd cc
stood i number s (entry ∷ told) h =
    stands_or i number s (row_told entry) (state_of i number told) (WasTold i number s told) (stood i number s told) h

held_decides : (o : Option State) (s : State) → Decides (is_held_as o s) (o ≡ Some s)
held_decides None s = (λ e. absurd cc, λ e. absurd cc)
held_decides (Some x) s =
    (λ e. ap (λ (y : State). Some y) ((state_decides x s).0 e), λ e. (state_decides x s).1 cc)

-- a row stands in the table in the state in which it was told
pub held_as : (i number : ℕ) (s : State) (told : List Entry) → Always IsNumberedOnce told
    → is_held_as (state_of i number told) s ≡ was_told i number s told
held_as i number s told once =
    let here = held_decides (state_of i number told) s in
    let there = told_decides i number s told in
    same_from_decides {P = WasTold i number s told} (is_held_as (state_of i number told) s) (was_told i number s told)
    (λ e. stood i number s told (here.0 e), λ w. here.1 (told_stands i number s told once w)) there

-- a number is free for a state if it was not told, or in this state
pub free_as : (i number : ℕ) (s : State) (told : List Entry) → Always IsNumberedOnce told
    → is_free_for (state_of i number told) s ≡ (not (was_told_as i number told) || was_told i number s told)
free_as i number s told once =
    ap (λ (b : Bool). not b || is_held_as (state_of i number told) s) (numbered_as i number told)
    ∙ ap (λ (b : Bool). not (was_told_as i number told) || b) (held_as i number s told once)

-- ---- live starts

-- an instance has a contract in a list exactly if a start of it lives there
pub live_as : (i : ℕ) (ls : List LiveStart) → is_some (contract_in i ls) ≡ is_live_in i ls
live_as i [] = refl
live_as i (l ∷ ls) = by (l.instance == i) (live_as i ls)
  where
    by : (b : Bool) → is_some (contract_in i ls) ≡ is_live_in i ls
        → is_some (cond b (Some l.contract) (contract_in i ls)) ≡ (b || is_live_in i ls)
    by true e = refl
    by false e = e

abbrev is_kept : ℕ → LiveStart → Bool
is_kept c l = not (l.contract == c)

kept_by : (b : Bool) (i : ℕ) (l : LiveStart) (rest ls : List LiveStart) → (IsLiveIn i rest → IsLiveIn i ls)
    → IsLiveIn i (cond b (l ∷ rest) rest) → IsLiveIn i (l ∷ ls)
kept_by true i l rest ls more (inl e) = inl e
kept_by true i l rest ls more (inr h) = inr (more h)
kept_by false i l rest ls more h = inr (more h)

-- what lives after a contract was found empty lived before
lived : (c i : ℕ) (ls : List LiveStart) → IsLiveIn i (filter (is_kept c) ls) → IsLiveIn i ls
lived c i [] h = h
lived c i (l ∷ ls) h = kept_by (is_kept c l) i l (filter (is_kept c) ls) ls (lived c i ls) h

each_by : (b : Bool) (l : LiveStart) (rest : List LiveStart) → (IsLiveIn l.instance rest → ⊥) → OneEach rest
    → OneEach (cond b (l ∷ rest) rest)
each_by true l rest none each = (none, each)
each_by false l rest none each = each

pub each_left : (c : ℕ) (ls : List LiveStart) → OneEach ls → OneEach (filter (λ l. not (l.contract == c)) ls)
each_left c [] each = tt
each_left c (l ∷ ls) each =
    each_by (is_kept c l) l (filter (is_kept c) ls) (λ h. each.0 (lived c l.instance ls h)) (each_left c ls each.1)

-- a contract that is found empty is no longer one of an instance
abbrev pub but_for : ℕ → Option ℕ → Option ℕ
but_for c None = None
but_for c (Some contract) = cond (contract == c) None (Some contract)

-- an instance has no contract in a list in which none of its starts lives
no_contract : (i : ℕ) (ls : List LiveStart) → (IsLiveIn i ls → ⊥) → contract_in i ls ≡ None
no_contract i [] none = refl
no_contract i (l ∷ ls) none =
    by (l.instance == i) (ne_eqb l.instance i (λ e. none (inl e))) (no_contract i ls (λ h. none (inr h)))
  where
    by : (b : Bool) → b ≡ false → contract_in i ls ≡ None → cond b (Some l.contract) (contract_in i ls) ≡ None
    by true e f = absurd cc
    by false e f = f

left_by : (i c : ℕ) (l : LiveStart) (rest ls : List LiveStart) (gone here : Bool) → (l.contract == c) ≡ gone
    → (l.instance == i) ≡ here → (here ≡ true → contract_in i rest ≡ None)
    → contract_in i rest ≡ but_for c (contract_in i ls)
    → contract_in i (cond (not gone) (l ∷ rest) rest)
    ≡ but_for c (cond here (Some l.contract) (contract_in i ls))
left_by i c l rest ls true true g h none more = rw g (none refl)
left_by i c l rest ls true false g h none more = more
left_by i c l rest ls false true g h none more = rw (g, h) refl
left_by i c l rest ls false false g h none more = rw h more

pub contract_left : (i c : ℕ) (ls : List LiveStart) → OneEach ls
    → contract_in i (filter (λ l. not (l.contract == c)) ls) ≡ but_for c (contract_in i ls)
contract_left i c [] each = refl
contract_left i c (l ∷ ls) each =
    left_by i c l (filter (is_kept c) ls) ls (l.contract == c) (l.instance == i) refl refl
    (λ e. let P : ℕ → Type 0 = λ k. IsLiveIn k ls → ⊥ in
    no_contract i (filter (is_kept c) ls) (λ h. subst P (eqb-true l.instance i e) each.0 (lived c i ls h)))
    (contract_left i c ls each.1)
