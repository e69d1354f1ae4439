-- The contract that lives is the live start of an audit.
use Rattle.std.proofs.Common.{◌≡◌, ◌⊎◌, inl, inr, ℕ, ◌==◌, ◌&&◌, not, List, [], ◌∷◌, filter, Bool, true, false, cond, refl, sym, ap, ◌∙◌, subst}
use Rattle.std.proofs.lemmas.Bool.{eq-eqb, eqb-true}
use Rattle.std.specs.Prelude.{Option, Some, None}
use Rattle.smf_chronicle.specs.Lives.{Always, HasOneLive, live_told}
use Rattle.smf_chronicle.specs.declared.entry.Entry.{Entry}
use Rattle.smf_chronicle.specs.declared.entry.Entry.TheVariants.{Happened, Life, Row, Living}
use Rattle.smf_world.specs.declared.item.Item.TheVariants.{Boot, Committed, Held, Spawned, Emptied}
use Rattle.smf_world.specs.Safe.{IsLiveIn, LiveStart, OneEach, begun_start, is_start}
use Rattle.smf_show.specs.declared.past.Dated.{Dated}
use Rattle.smf_show.specs.Past.{begun, contract_behind, contract_in, live_behind, unless_emptied}
use Rattle.smf_show.specs.PastLaws.{IsLiveStart, TellsLiveStart, told_behind}

-- the contract is a live start
abbrev Lives : ℕ → Option ℕ → List LiveStart → Type 0
Lives i o ls = (c : ℕ) → o ≡ Some c → IsLiveStart c i ls

-- each live start is the contract
abbrev Only : ℕ → Option ℕ → List LiveStart → Type 0
Only i o ls = (c : ℕ) → IsLiveStart c i ls → o ≡ Some c

abbrev start_of : ℕ → ℕ → LiveStart
start_of c i = record { contract = c; instance = i }

-- ---- what is begun

-- nothing is begun
not_begun : (own counts : Bool) (d : ℕ) (o : Option ℕ) → cond ((own && false) && counts) (Some d) o ≡ o
not_begun true counts d o = refl
not_begun false counts d o = refl

begun_lives_by : (i d j : ℕ) (ls : List LiveStart) (o : Option ℕ) (own none : Bool) → j == i ≡ own → Lives i o ls
    → Lives i (cond ((own && true) && not none) (Some d) o) (cond none ls (start_of d j ∷ ls))
begun_lives_by i d j ls o true true e h = h
begun_lives_by i d j ls o true false e h = λ c q. inl (cc, eqb-true j i e)
begun_lives_by i d j ls o false true e h = h
begun_lives_by i d j ls o false false e h = λ c q. inr (h c q)

begun_lives : (i d j : ℕ) (ls : List LiveStart) (o : Option ℕ) (start : Bool) → Lives i o ls
    → Lives i (begun (j == i && start) d o) (begun_start start d j ls)
begun_lives i d j ls o true h = begun_lives_by i d j ls o (j == i) (d == 0) refl h
begun_lives i d j ls o false h =
    let P : Option ℕ → Type 0 = λ x. Lives i x ls in
    subst P (sym (not_begun (j == i) (not (d == 0)) d o)) h

live_in : (c i : ℕ) (ls : List LiveStart) → IsLiveStart c i ls → IsLiveIn i ls
live_in c i [] h = absurd h
live_in c i (s ∷ ss) (inl h) = inl h.1
live_in c i (s ∷ ss) (inr h) = inr (live_in c i ss h)

begun_only_by : (i d j : ℕ) (ls : List LiveStart) (o : Option ℕ) (own none : Bool) → j == i ≡ own
    → OneEach (cond none ls (start_of d j ∷ ls)) → Only i o ls
    → Only i (cond ((own && true) && not none) (Some d) o) (cond none ls (start_of d j ∷ ls))
begun_only_by i d j ls o true true e one h = h
begun_only_by i d j ls o false true e one h = h
begun_only_by i d j ls o true false e one h = λ c.
    begun_only_own c
  where
    begun_only_own : (c : ℕ) → ((d ≡ c) × (j ≡ i)) ⊎ IsLiveStart c i ls → Some d ≡ Some c
    begun_only_own c (inl q) = ap Some q.0
    begun_only_own c (inr q) =
        let P : ℕ → Type 0 = λ x. IsLiveIn x ls in
        absurd (one.0 (subst P (sym (eqb-true j i e)) (live_in c i ls q)))
begun_only_by i d j ls o false false e one h = λ c.
    begun_only_other c
  where
    begun_only_other : (c : ℕ) → ((d ≡ c) × (j ≡ i)) ⊎ IsLiveStart c i ls → o ≡ Some c
    begun_only_other c (inl q) =
        let found : j == i ≡ true = eq-eqb j i q.1 in
        cc
    begun_only_other c (inr q) = h c q

begun_only : (i d j : ℕ) (ls : List LiveStart) (o : Option ℕ) (start : Bool) → OneEach (begun_start start d j ls)
    → Only i o ls → Only i (begun (j == i && start) d o) (begun_start start d j ls)
begun_only i d j ls o true one h = begun_only_by i d j ls o (j == i) (d == 0) refl one h
begun_only i d j ls o false one h =
    let P : Option ℕ → Type 0 = λ x. Only i x ls in
    subst P (sym (not_begun (j == i) (not (d == 0)) d o)) h

-- ---- what is emptied

abbrev left : ℕ → List LiveStart → List LiveStart
left d ls = filter (λ l. not (l.contract == d)) ls

left_lives : (c i d : ℕ) (ls : List LiveStart) → c == d ≡ false → IsLiveStart c i ls → IsLiveStart c i (left d ls)
left_lives c i d [] e h = absurd h
left_lives c i d (s ∷ ss) e (inl h) =
    let P : Bool → Type 0 = λ b. IsLiveStart c i (cond (not b) (s ∷ left d ss) (left d ss)) in
    let stays : s.contract == d ≡ false = ap (λ (x : ℕ). x == d) h.0 ∙ e in
    subst P (sym stays) (inl h)
left_lives c i d (s ∷ ss) e (inr h) = left_later c i s (left d ss) (s.contract == d) (left_lives c i d ss e h)
  where
    left_later : (c i : ℕ) (s : LiveStart) (ls : List LiveStart) (gone : Bool) → IsLiveStart c i ls
        → IsLiveStart c i (cond (not gone) (s ∷ ls) ls)
    left_later c i s ls true h = h
    left_later c i s ls false h = inr h

-- a live start that is left
record IsLeft (c i d : ℕ) (ls : List LiveStart) : Type 0 where
  pub lived : IsLiveStart c i ls
  pub other : c == d ≡ false

left_more : (c i d : ℕ) (s : LiveStart) (ss : List LiveStart) → IsLeft c i d ss → IsLeft c i d (s ∷ ss)
left_more c i d s ss h = record { lived = inr h.lived; other = h.other }

left_by : (c i d : ℕ) (s : LiveStart) (ss : List LiveStart) (gone : Bool) → s.contract == d ≡ gone
    → (IsLiveStart c i (left d ss) → IsLeft c i d ss) → IsLiveStart c i (cond (not gone) (s ∷ left d ss) (left d ss))
    → IsLeft c i d (s ∷ ss)
left_by c i d s ss true e later h = left_more c i d s ss (later h)
left_by c i d s ss false e later (inl h) =
    record { lived = inl h; other = ap (λ (x : ℕ). x == d) (sym h.0) ∙ e }
left_by c i d s ss false e later (inr h) = left_more c i d s ss (later h)

left_is : (c i d : ℕ) (ls : List LiveStart) → IsLiveStart c i (left d ls) → IsLeft c i d ls
left_is c i d [] h = absurd h
left_is c i d (s ∷ ss) h = left_by c i d s ss (s.contract == d) refl (left_is c i d ss) h

emptied_lives_by : (i d live : ℕ) (ls : List LiveStart) (gone : Bool) → live == d ≡ gone → Lives i (Some live) ls
    → Lives i (cond gone None (Some live)) (left d ls)
emptied_lives_by i d live ls true e h = λ c q. cc
emptied_lives_by i d live ls false e h = λ c q.
    let alike : live ≡ c = cc in
    left_lives c i d ls (ap (λ (x : ℕ). x == d) (sym alike) ∙ e) (h c q)

emptied_lives : (i d : ℕ) (o : Option ℕ) (ls : List LiveStart) → Lives i o ls → Lives i (unless_emptied d o) (left d ls)
emptied_lives i d None ls h = λ c q. cc
emptied_lives i d (Some live) ls h = emptied_lives_by i d live ls (live == d) refl h

emptied_only : (i d : ℕ) (o : Option ℕ) (ls : List LiveStart) → Only i o ls → Only i (unless_emptied d o) (left d ls)
emptied_only i d o ls h = λ c q.
    let was : IsLeft c i d ls = left_is c i d ls q in
    let stays : unless_emptied d (Some c) ≡ Some c = rw was.other refl in
    ap (unless_emptied d) (h c was.lived) ∙ stays

-- ---- a whole chronicle

and_true : (b : Bool) → (b && true) ≡ b
and_true true = refl
and_true false = refl

abbrev Tells : ℕ → Option ℕ → List Entry → Type 0
Tells i o told = Lives i o (live_told told) × (Always HasOneLive told → Only i o (live_told told))

tells_more : (i : ℕ) (o : Option ℕ) (told : List Entry) (entry : Entry) → Tells i o told
    → Tells i (live_behind i entry o) (entry ∷ told)
tells_more i o told (Happened (Committed j n s next)) h = (h.0, λ one. h.1 one.1)
tells_more i o told (Happened (Held name launch j n s)) h = (h.0, λ one. h.1 one.1)
tells_more i o told (Happened (Spawned d j run method revision command)) h = (
  begun_lives i d j (live_told told) o (is_start method) h.0,
  λ one. begun_only i d j (live_told told) o (is_start method) one.0 (h.1 one.1),
)
tells_more i o told (Happened (Emptied d)) h =
    (emptied_lives i d o (live_told told) h.0, λ one. emptied_only i d o (live_told told) (h.1 one.1))
tells_more i o told (Happened Boot) h = (λ c q. cc, λ one c q. absurd q)
tells_more i o told Life h = (λ c q. cc, λ one c q. absurd q)
tells_more i o told (Row j n s) h = (h.0, λ one. h.1 one.1)
tells_more i o told (Living d j) h =
    let P : Bool → Type 0 = λ b. Tells i (begun b d o) (Living d j ∷ told) in
    subst P (and_true (j == i)) (
      begun_lives i d j (live_told told) o true h.0,
      λ one. begun_only i d j (live_told told) o true one.0 (h.1 one.1),
    )

tells_all : (i : ℕ) (o : Option ℕ) (told : List Entry) (ls : List Dated) → Tells i o told
    → Tells i (contract_behind i o ls) (told_behind told ls)
tells_all i o told [] h = h
tells_all i o told (l ∷ ls) h =
    tells_all i (live_behind i l.entry o) (l.entry ∷ told) ls (tells_more i o told l.entry h)

tells_none : (i : ℕ) → Tells i None []
tells_none i = (λ c q. cc, λ one c q. absurd q)

pub tells_live_start : (lines : List Dated) → TellsLiveStart lines
unfolding contract_in
tells_live_start lines =
    record {
      lives = λ i. (tells_all i None [] lines (tells_none i)).0;
      only = λ one i. (tells_all i None [] lines (tells_none i)).1 one;
    }
