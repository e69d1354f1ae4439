-- What a chronicle tells of an instance is what its lines say.
use Rattle.std.proofs.Common.{◌≡◌, ℕ, ◌==◌, ◌&&◌, not, List, [], ◌∷◌, ◌++◌, Bool, true, false, cond, refl, sym, ap, ◌∙◌, subst, append_assoc}
use Rattle.std.proofs.lemmas.List.{append-nil}
use Rattle.std.specs.List.{AllByRecursion}
use Rattle.std.specs.Prelude.{Option, Some, None}
use Rattle.smf_chronicle.proofs.Decided.{state_decides}
use Rattle.smf_chronicle.specs.declared.entry.Entry.{Entry}
use Rattle.smf_chronicle.specs.declared.entry.Entry.TheVariants.{Happened, Life, Row, Living}
use Rattle.smf_state.specs.declared.state.State.{State}
use Rattle.smf_state.specs.Rows.{same_state}
use Rattle.smf_world.specs.declared.item.Item.TheVariants.{Boot, Committed, Held, Spawned, Emptied}
use Rattle.smf_world.specs.Safe.{is_start}
use Rattle.smf_show.specs.declared.past.Dated.{Dated}
use Rattle.smf_show.specs.declared.past.Standing.{Standing}
use Rattle.smf_show.specs.Past.{contract_behind, contract_in, live_behind, nothing_told, standing_behind, standing_if, standing_in, standing_with, state_told, unless_emptied}
use Rattle.smf_show.specs.PastLaws.{ContractLivesIn, IsLive, IsSince, SinceIsToldBy, TellsNoOther, begun_by, ends}

all_more : (P : Dated → Type 0) (ls : List Dated) (l : Dated) → AllByRecursion P ls → P l
    → AllByRecursion P (ls ++ l ∷ [])
all_more P [] l all p = (p, all)
all_more P (m ∷ ms) l all p = (all.0, all_more P ms l all.1 p)

parts_more : (ls before behind : List Dated) (line l : Dated) → ls ≡ before ++ line ∷ behind
    → ls ++ l ∷ [] ≡ before ++ line ∷ (behind ++ l ∷ [])
parts_more ls before behind line l e =
    ap (λ (xs : List Dated). xs ++ l ∷ []) e ∙ append_assoc before (line ∷ behind) (l ∷ [])

-- ---- since when

standing_more : (i : ℕ) (st : Standing) (ls : List Dated) (l : Dated) → standing_behind i st (ls ++ l ∷ [])
    ≡ standing_if l.time (state_told i l.entry) (standing_behind i st ls)
standing_more i st [] l = refl
standing_more i st (m ∷ ms) l = standing_more i (standing_if m.time (state_told i m.entry) st) ms l

abbrev IsTold : ℕ → List Dated → Standing → Type 0
IsTold i ls st = (s : State) (time : ℕ) → st.state ≡ Some s → st.since ≡ Some time → IsSince i s time ls

since_more : (i : ℕ) (s : State) (time : ℕ) (ls : List Dated) (l : Dated) → IsSince i s time ls → TellsNoOther i s l
    → IsSince i s time (ls ++ l ∷ [])
since_more i s time ls l h quiet =
    record {
      before = h.before;
      line = h.line;
      behind = h.behind ++ l ∷ [];
      parts = parts_more ls h.before h.behind h.line l h.parts;
      when = h.when;
      told = h.told;
      earlier = h.earlier;
      was = h.was;
      other = h.other;
      lasts = all_more (TellsNoOther i s) h.behind l h.lasts quiet;
    }

-- a line that tells the state that was told before, or another one
changed : (i : ℕ) (ls : List Dated) (l : Dated) (st : Standing) (s told : State) (same : Bool)
    → state_told i l.entry ≡ Some s → standing_in i ls ≡ st → st.state ≡ Some told → same_state told s ≡ same
    → IsTold i ls st → IsTold i (ls ++ l ∷ []) (cond same st (record { state = Some s; since = Some l.time }))
changed i ls l st s told true tells e was same h = λ t time et es.
    let alike : told ≡ s = (state_decides told s).0 same in
    since_more i t time ls l (h t time et es) (λ u eu. cc)
changed i ls l st s told false tells e was same h = λ t time et es.
    record {
      before = ls;
      line = l;
      behind = [];
      parts = refl;
      when = cc;
      told = tells ∙ et;
      earlier = told;
      was = ap (λ (x : Standing). x.state) e ∙ was;
      other = λ q.
          let alike : told ≡ s = cc in
          let found : same_state told s ≡ true = (state_decides told s).1 alike in
          cc;
      lasts = tt;
    }

told_with : (i : ℕ) (ls : List Dated) (l : Dated) (st : Standing) (s : State) (was : Option State)
    → state_told i l.entry ≡ Some s → standing_in i ls ≡ st → st.state ≡ was → IsTold i ls st
    → IsTold i (ls ++ l ∷ []) (standing_with l.time s was st)
told_with i ls l st s None tells e q h = λ t time et es. cc
told_with i ls l st s (Some told) tells e q h = changed i ls l st s told (same_state told s) tells e q refl h

told_if : (i : ℕ) (ls : List Dated) (l : Dated) (st : Standing) (o : Option State) → state_told i l.entry ≡ o
    → standing_in i ls ≡ st → IsTold i ls st → IsTold i (ls ++ l ∷ []) (standing_if l.time o st)
told_if i ls l st None tells e h = λ t time et es. since_more i t time ls l (h t time et es) (λ u eu. cc)
told_if i ls l st (Some s) tells e h = told_with i ls l st s st.state tells e refl h

abbrev IsToldIn : ℕ → List Dated → Type 0
IsToldIn i ls = IsTold i ls (standing_in i ls)

told_more : (i : ℕ) (ls : List Dated) (l : Dated) → IsToldIn i ls → IsToldIn i (ls ++ l ∷ [])
unfolding standing_in
told_more i ls l h =
    let P : Standing → Type 0 = λ st. IsTold i (ls ++ l ∷ []) st in
    subst P (sym (standing_more i nothing_told ls l))
    (told_if i ls l (standing_in i ls) (state_told i l.entry) refl refl h)

told_all : (i : ℕ) (done ls : List Dated) → IsToldIn i done → IsToldIn i (done ++ ls)
told_all i done [] h =
    let P : List Dated → Type 0 = λ xs. IsToldIn i xs in
    subst P (sym (append-nil done)) h
told_all i done (l ∷ ls) h =
    let P : List Dated → Type 0 = λ xs. IsToldIn i xs in
    subst P (append_assoc done (l ∷ []) ls) (told_all i (done ++ l ∷ []) ls (told_more i done l h))

told_none : (i : ℕ) → IsToldIn i []
unfolding standing_in
told_none i = λ s time es et. cc

pub since_is_told : (lines : List Dated) → SinceIsToldBy lines
since_is_told lines i = told_all i [] lines (told_none i)

-- ---- what lives

contract_more : (i : ℕ) (o : Option ℕ) (ls : List Dated) (l : Dated)
    → contract_behind i o (ls ++ l ∷ []) ≡ live_behind i l.entry (contract_behind i o ls)
contract_more i o [] l = refl
contract_more i o (m ∷ ms) l = contract_more i (live_behind i m.entry o) ms l

abbrev Lives : ℕ → List Dated → Option ℕ → Type 0
Lives i ls o = (c : ℕ) → o ≡ Some c → IsLive i c ls

live_more : (i c : ℕ) (ls : List Dated) (l : Dated) → IsLive i c ls → ends c l.entry ≡ false → IsLive i c (ls ++ l ∷ [])
live_more i c ls l h quiet =
    record {
      before = h.before;
      line = h.line;
      behind = h.behind ++ l ∷ [];
      parts = parts_more ls h.before h.behind h.line l h.parts;
      begun = h.begun;
      lasts = all_more (λ m. ends c m.entry ≡ false) h.behind l h.lasts quiet;
    }

lives_on : (i : ℕ) (ls : List Dated) (l : Dated) (o : Option ℕ) → ((c : ℕ) → ends c l.entry ≡ false) → Lives i ls o
    → Lives i (ls ++ l ∷ []) o
lives_on i ls l o quiet h = λ c e. live_more i c ls l (h c e) (quiet c)

begun_more : (i d : ℕ) (ls : List Dated) (l : Dated) (o : Option ℕ) (own counts : Bool)
    → begun_by i l.entry ≡ cond own (Some d) None → ((c : ℕ) → ends c l.entry ≡ false) → Lives i ls o
    → Lives i (ls ++ l ∷ []) (cond (own && counts) (Some d) o)
begun_more i d ls l o true true from quiet h = λ c e.
    record { before = ls; line = l; behind = []; parts = refl; begun = from ∙ e; lasts = tt }
begun_more i d ls l o true false from quiet h = lives_on i ls l o quiet h
begun_more i d ls l o false counts from quiet h = lives_on i ls l o quiet h

left_more : (i d live : ℕ) (ls : List Dated) (l : Dated) (gone : Bool) → live == d ≡ gone
    → l.entry ≡ Happened (Emptied d) → Lives i ls (Some live) → Lives i (ls ++ l ∷ []) (cond gone None (Some live))
left_more i d live ls l true q e h = λ c ec. cc
left_more i d live ls l false q e h = λ c ec.
    let alike : live ≡ c = cc in
    let P : ℕ → Type 0 = λ x. x == d ≡ false in
    live_more i c ls l (h c ec) (ap (ends c) e ∙ subst P alike q)

emptied_more : (i d : ℕ) (ls : List Dated) (l : Dated) (o : Option ℕ) → l.entry ≡ Happened (Emptied d) → Lives i ls o
    → Lives i (ls ++ l ∷ []) (unless_emptied d o)
emptied_more i d ls l None e h = λ c ec. cc
emptied_more i d ls l (Some live) e h = left_more i d live ls l (live == d) refl e h

entry_more : (i : ℕ) (ls : List Dated) (l : Dated) (o : Option ℕ) (entry : Entry) → l.entry ≡ entry → Lives i ls o
    → Lives i (ls ++ l ∷ []) (live_behind i entry o)
entry_more i ls l o (Happened (Committed j n s next)) e h = lives_on i ls l o (λ c. ap (ends c) e) h
entry_more i ls l o (Happened (Held name launch j n s)) e h = lives_on i ls l o (λ c. ap (ends c) e) h
entry_more i ls l o (Happened (Spawned d j run method revision command)) e h =
    begun_more i d ls l o (j == i && is_start method) (not (d == 0)) (ap (begun_by i) e) (λ c. ap (ends c) e) h
entry_more i ls l o (Happened (Emptied d)) e h = emptied_more i d ls l o e h
entry_more i ls l o (Happened Boot) e h = λ c ec. cc
entry_more i ls l o Life e h = λ c ec. cc
entry_more i ls l o (Row j n s) e h = lives_on i ls l o (λ c. ap (ends c) e) h
entry_more i ls l o (Living d j) e h =
    begun_more i d ls l o (j == i) (not (d == 0)) (ap (begun_by i) e) (λ c. ap (ends c) e) h

abbrev LivesIn : ℕ → List Dated → Type 0
LivesIn i ls = Lives i ls (contract_in i ls)

lives_more : (i : ℕ) (ls : List Dated) (l : Dated) → LivesIn i ls → LivesIn i (ls ++ l ∷ [])
unfolding contract_in
lives_more i ls l h =
    let P : Option ℕ → Type 0 = λ o. Lives i (ls ++ l ∷ []) o in
    subst P (sym (contract_more i None ls l)) (entry_more i ls l (contract_in i ls) l.entry refl h)

lives_all : (i : ℕ) (done ls : List Dated) → LivesIn i done → LivesIn i (done ++ ls)
lives_all i done [] h =
    let P : List Dated → Type 0 = λ xs. LivesIn i xs in
    subst P (sym (append-nil done)) h
lives_all i done (l ∷ ls) h =
    let P : List Dated → Type 0 = λ xs. LivesIn i xs in
    subst P (append_assoc done (l ∷ []) ls) (lives_all i (done ++ l ∷ []) ls (lives_more i done l h))

lives_none : (i : ℕ) → LivesIn i []
unfolding contract_in
lives_none i = λ c e. cc

pub contract_lives : (lines : List Dated) → ContractLivesIn lines
contract_lives lines i = lives_all i [] lines (lives_none i)
