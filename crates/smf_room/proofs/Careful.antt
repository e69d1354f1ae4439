-- What the functions ask is what a careful server asks, and what it then knows.
use Rattle.std.proofs.Common.{◌≡◌, ◌⊎◌, inl, inr, ℕ, ◌+◌, ◌<◌, ◌≤◌, Bool, true, false, not, ◌&&◌, ◌||◌, ◌==◌, if◌then◌else◌, List, [], ◌∷◌, ◌++◌, map, Option, Some, None, option_map, refl, sym, ◌∙◌, ap, subst, arith, eq-eqb, string_bytes}
use Rattle.std.specs.Prelude.{nat_eq}
use Rattle.std.specs.Cmp.Lexicographic.{pointwise}
use Rattle.std.specs.List.{list_any}
use Rattle.smf_room.specs.declared.life.Found.{Found}
use Rattle.smf_room.specs.declared.life.Stand.{Stand}
use Rattle.smf_room.specs.declared.life.Stand.TheVariants.{TakenUp, Left}
use Rattle.smf_room.specs.declared.look.Look.{Look}
use Rattle.smf_room.specs.declared.look.Look.TheVariants.{Waits, Lives, Never, Over, Unclean}
use Rattle.smf_room.specs.declared.process.Process.{Process}
use Rattle.smf_room.specs.declared.note.Note.{Note}
use Rattle.smf_room.specs.declared.sight.Sight.{Sight}
use Rattle.smf_room.specs.declared.sight.Sight.TheVariants.{Unseen, Nothing}
use Rattle.smf_room.specs.declared.start.Numbers.{Numbers}
use Rattle.smf_room.specs.declared.token.Token.{Token}
use Rattle.smf_room.specs.declared.token.Token.TheVariants.{Begun, Ended, Go, Void}
use Rattle.smf_room.specs.declared.token.Token.TheVariants as tokens
use Rattle.smf_room.specs.Beginnings.{IsAnyBeginning, IsBeginning, IsClean, IsFinding, IsForgetting, IsOne, IsSettling, IsSettlingBy, is_gone, stand_of, with_one}
use Rattle.smf_room.specs.Carefuls.{AreLeft, MayStart, may_run_as}
use Rattle.smf_room.specs.Lives.{AreCareful, IsCareful, Known, Life, MayForget, MayMake, after_lock, after_sight, after_token, is_known, is_number, is_of, is_settled, life_after, life_after_all, may_be, named, numbers_of, sight_of, sight_of_group, unread, without}
use Rattle.smf_room.specs.Looks.{IsCancel, IsLook}
use Rattle.smf_room.specs.declared.start.Given.{Given}
use Rattle.smf_room.specs.declared.start.TheConstants.{BLOCK}
use Rattle.smf_room.specs.Runs.{Begins, Comes, Happens, Hears, Lasts, Move, State, calls_of}
use Rattle.smf_room.specs.Starts.{IsGiven}
use Rattle.smf_room.specs.Sweeps.{IsForget, IsMarkRound, IsRemoval, IsRound, IsRounds, IsSweep, IsSwept, IsUnlink, begun_token, killed, no_round, one_more}
use Rattle.smf_room.specs.Tellings.{Did, Done, EndsEarly, Fails, FailsNext, Forgot, Free, HolderIs, KilledGroup, Listed, Locked, Marked, NextIs, NoAnswer, NoteIs, Populated, Telling, TokenIs, Ungrouped, Unlocked, deed, failed}
use Rattle.smf_room.specs.declared.sweep.Swept.{Swept}
use Rattle.smf_room.specs.Worlds.{is_begun}
use Rattle.smf_room.proofs.Contracts.{no_l, no_r}

pub both_no : (a b : Bool) → a ≡ false → b ≡ false → (a || b) ≡ false
both_no true b e f = absurd cc
both_no false b e f = f

-- ---- lists of calls

pub careful_both : (us vs : List Telling) (l : Life) → AreCareful l us → AreCareful (life_after_all us l) vs
    → AreCareful l (us ++ vs)
careful_both [] vs l a b = b
careful_both (u ∷ us) vs l a b = (a.0, careful_both us vs (life_after u l) a.1 b)

pub after_both : (us vs : List Telling) (l : Life) → life_after_all (us ++ vs) l ≡ life_after_all vs (life_after_all us l)
after_both [] vs l = refl
after_both (u ∷ us) vs l = after_both us vs (life_after u l)

careful_first : (us vs : List Telling) (l : Life) → AreCareful l (us ++ vs) → AreCareful l us
careful_first [] vs l a = tt
careful_first (u ∷ us) vs l a = (a.0, careful_first us vs (life_after u l) a.1)

failed_careful : (t : Telling) (l : Life) → IsCareful l t → IsCareful l (failed t)
failed_careful (Did d) l a = a
failed_careful (NextIs n) l a = tt
failed_careful (Listed ids) l a = tt
failed_careful (TokenIs id t) l a = tt
failed_careful (Free id f) l a = tt
failed_careful (NoteIs id n) l a = tt
failed_careful (Populated id s) l a = tt
failed_careful (Marked id o f) l a = tt
failed_careful (Locked id d) l a = tt
failed_careful Unlocked l a = tt
failed_careful (HolderIs there) l a = tt
failed_careful NoAnswer l a = tt

careful_failed : (us : List Telling) (t : Telling) (vs : List Telling) (l : Life) → AreCareful l (us ++ t ∷ vs)
    → AreCareful l (us ++ failed t ∷ [])
careful_failed [] t vs l a = (failed_careful t l a.0, tt)
careful_failed (u ∷ us) t vs l a = (a.0, careful_failed us t vs (life_after u l) a.1)

early_by : (l : Life) (ts before rest : List Telling) → AreCareful l (before ++ rest)
    → (ts ≡ before) ⊎ FailsNext before rest ts → AreCareful l ts
early_by l ts before rest w (inl e) = subst (AreCareful l) (sym e) (careful_first before rest l w)
early_by l ts before [] w (inr f) = absurd f
early_by l ts before (t ∷ rest) w (inr f) = subst (AreCareful l) (sym f) (careful_failed before t rest l w)

-- a beginning of careful calls is careful, also if the last failed
pub early_careful : (P : List Telling → Type 0) (l : Life) → ((ts : List Telling) → P ts → AreCareful l ts)
    → (ts : List Telling) → EndsEarly P ts → AreCareful l ts
early_careful P l k ts e = early_by l ts e.before e.rest (k (e.before ++ e.rest) e.whole) e.ends

pub fails_careful : (P : List Telling → Type 0) (l : Life) → ((ts : List Telling) → P ts → AreCareful l ts)
    → (ts : List Telling) → Fails P ts → AreCareful l ts
fails_careful P l k ts e =
    early_by l ts e.before (e.next ∷ e.rest) (k (e.before ++ e.next ∷ e.rest) e.whole) e.ends

-- ---- what stays of what a life knows

-- it knows no more contracts that may run than before, and as many numbers
pub record Stays (l m : Life) : Type 0 where
  pub listed : m.listed ≡ l.listed
  pub low : m.low ≡ l.low
  pub high : m.high ≡ l.high
  pub less : (q : Known → Bool) → list_any q l.unsettled ≡ false → list_any q m.unsettled ≡ false

pub stays : (l : Life) → Stays l l
stays l = record { listed = refl; low = refl; high = refl; less = λ q e. e }

pub stays_then : (l m n : Life) → Stays l m → Stays m n → Stays l n
stays_then l m n a b =
    record {
      listed = b.listed ∙ a.listed;
      low = b.low ∙ a.low;
      high = b.high ∙ a.high;
      less = λ q e. b.less q (a.less q e);
    }

none_without : (id : ℕ) (q : Known → Bool) (ks : List Known) → list_any q ks ≡ false
    → list_any q (without id ks) ≡ false
none_without id q [] e = e
none_without id q (k ∷ ks) e =
    by (is_known id k) (no_l (q k) (list_any q ks) e) (none_without id q ks (no_r (q k) (list_any q ks) e))
  where
    by : (b : Bool) → q k ≡ false → list_any q (without id ks) ≡ false
        → list_any q (if not b then k ∷ without id ks else without id ks) ≡ false
    by true f h = h
    by false f h = both_no (q k) (list_any q (without id ks)) f h

-- no contract of this number is left
lacks : (id : ℕ) (ks : List Known) → list_any (is_known id) (without id ks) ≡ false
lacks id [] = refl
lacks id (k ∷ ks) = by (is_known id k) refl (lacks id ks)
  where
    by : (b : Bool) → is_known id k ≡ b → list_any (is_known id) (without id ks) ≡ false
        → list_any (is_known id) (if not b then k ∷ without id ks else without id ks) ≡ false
    by true e h = h
    by false e h = rw e h

-- what calls of this kind leave: they are careful, and no more may run
pub record Keeps (l : Life) (ts : List Telling) : Type 0 where
  pub careful : AreCareful l ts
  pub stays : Stays l (life_after_all ts l)

keeps_both : (l : Life) (us vs ts : List Telling) → ts ≡ us ++ vs → Keeps l us → Keeps (life_after_all us l) vs → Keeps l ts
keeps_both l us vs ts e a b =
    subst (Keeps l) (sym e)
    (record {
      careful = careful_both us vs l a.careful b.careful;
      stays = subst (Stays l) (sym (after_both us vs l))
          (stays_then l (life_after_all us l) (life_after_all vs (life_after_all us l)) a.stays b.stays);
    })

keeps_as : (l : Life) (us ts : List Telling) → ts ≡ us → Keeps l us → Keeps l ts
keeps_as l us ts e k = subst (Keeps l) (sym e) k

keeps_same : (l : Life) (t : Telling) → IsCareful l t → life_after t l ≡ l → Keeps l (t ∷ [])
keeps_same l t a e = record { careful = (a, tt); stays = subst (Stays l) (sym e) (stays l) }

pub token_stays : (b : Bool) (id : ℕ) (l : Life) → Stays l (after_token b id l)
token_stays true id l =
    record { listed = refl; low = refl; high = refl; less = λ q e. none_without id q l.unsettled e }
token_stays false id l = stays l

keeps_token : (l : Life) (id : ℕ) (t : Option Token) → Keeps l (TokenIs id t ∷ [])
keeps_token l id t = record { careful = (tt, tt); stays = token_stays (is_settled t) id l }

pub sight_stays : (b : Bool) (s : Sight) (l : Life) → Stays l (after_sight b s l)
sight_stays true s l = record { listed = refl; low = refl; high = refl; less = λ q e. e }
sight_stays false s l = stays l

keeps_group : (l : Life) (id : ℕ) (some : Option Bool) → Keeps l (Populated id some ∷ [])
keeps_group l id some = record { careful = (tt, tt); stays = sight_stays _ _ l }

-- ---- a look

pub keeps_look : (l : Life) (id : ℕ) (look : Look) (ts : List Telling) → IsLook id look ts → Keeps l ts
keeps_look l id look ts (inl h) = keeps_as l _ ts h.asked (keeps_token l id h.token)
keeps_look l id look ts (inr (inl h)) =
    keeps_both l (TokenIs id h.token ∷ []) (Free id false ∷ []) ts h.asked (keeps_token l id h.token)
    (keeps_same _ (Free id false) tt refl)
keeps_look l id look ts (inr (inr h)) =
    keeps_both l (TokenIs id h.before ∷ []) (Free id true ∷ TokenIs id h.after ∷ []) ts h.asked
    (keeps_token l id h.before)
    (keeps_both _ (Free id true ∷ []) (TokenIs id h.after ∷ []) _ refl (keeps_same _ (Free id true) tt refl)
    (keeps_token _ id h.after))

pub keeps_cancel : (l : Life) (id : ℕ) (done : Bool) (ts : List Telling) → IsCancel id done ts → Keeps l ts
keeps_cancel l id done ts h = keeps_as l _ ts h (keeps_same l _ (inl (refl, refl)) refl)

-- ---- a contract is forgotten

can_go : (id : ℕ) (l m : Life) → MayForget l id → Stays l m → MayForget m id
can_go id l m g s = record { listed = s.listed ∙ g.listed; settled = s.less (is_known id) g.settled }

keeps_unlink : (l : Life) (id : ℕ) (t : Option Token) (ts : List Telling) → MayForget l id → IsUnlink id t ts → Keeps l ts
keeps_unlink l id None ts g h = keeps_as l [] ts h (record { careful = tt; stays = stays l })
keeps_unlink l id (Some t) ts g h = keeps_as l _ ts h (keeps_same l _ g refl)

keeps_removal : (l : Life) (id : ℕ) (gone : Bool) (ts : List Telling) → MayForget l id → IsRemoval id gone ts → Keeps l ts
keeps_removal l id true ts g h =
    keeps_both l (Did (deed (Ungrouped id) Done) ∷ []) (Did (deed (Forgot id) Done) ∷ []) ts h
    (keeps_same l _ tt refl) (keeps_same l _ g refl)
keeps_removal l id false ts g h = keeps_as l _ ts h (keeps_same l _ tt refl)

settled_goes : (b : Bool) (id : ℕ) (l : Life) → l.listed ≡ true → b ≡ true → MayForget (after_token b id l) id
settled_goes true id l e s = record { listed = e; settled = lacks id l.unsettled }
settled_goes false id l e s = absurd cc

-- after it was forgotten none of this number may run
pub record Forgets (l : Life) (id : ℕ) (gone : Bool) (ts : List Telling) : Type 0 where
  pub keeps : Keeps l ts
  pub goes : gone ≡ true → list_any (is_known id) (life_after_all ts l).unsettled ≡ false

pub keeps_forget : (l : Life) (id : ℕ) (gone : Bool) (ts : List Telling) → l.listed ≡ true → IsForget id gone ts
    → Forgets l id gone ts
keeps_forget l id gone ts e (inl h) =
    record {
      keeps = keeps_as l _ ts h.asked (keeps_token l id h.token);
      goes = λ g. absurd (let f : gone ≡ false = h.stays in cc);
    }
keeps_forget l id gone ts e (inr h) =
    let first = h.asked.2 in
    let m = life_after (TokenIs id h.token) l in
    let go : MayForget m id = settled_goes (is_settled h.token) id l e h.settled in
    let two : Keeps m first.1 = keeps_unlink m id h.token first.1 go first.3 in
    let n = life_after_all first.1 m in
    let three : Keeps n h.asked.1 = keeps_removal n id gone h.asked.1 (can_go id m n go two.stays) h.asked.3 in
    let calls : ts ≡ TokenIs id h.token ∷ (first.1 ++ h.asked.1) =
    h.asked.4 ∙ ap (λ x. x ++ h.asked.1) (first.4 ∙ ap (λ x. x ++ first.1) first.2) in
    let rest : Keeps m (first.1 ++ h.asked.1) = keeps_both m first.1 h.asked.1 _ refl two three in
    record {
      keeps = keeps_both l (TokenIs id h.token ∷ []) (first.1 ++ h.asked.1) ts calls (keeps_token l id h.token) rest;
      goes = λ g. subst (λ (x : List Telling). list_any (is_known id) (life_after_all x l).unsettled ≡ false) (sym calls)
          (rest.stays.less (is_known id) go.settled);
    }

-- ---- a sweep

-- the server has the lock of this contract, and has seen so much since
record Sees (l : Life) (id : ℕ) (s : Sight) : Type 0 where
  locked : l.locked ≡ Some id
  sight : l.sight ≡ s

record Seen (l : Life) (id : ℕ) (s : Sight) (ts : List Telling) : Type 0 where
  keeps : Keeps l ts
  sees : Sees (life_after_all ts l) id s

seen_both : (l : Life) (id : ℕ) (r s : Sight) (us vs ts : List Telling) → ts ≡ us ++ vs → Seen l id r us
    → Seen (life_after_all us l) id s vs → Seen l id s ts
seen_both l id r s us vs ts e a b =
    record {
      keeps = keeps_both l us vs ts e a.keeps b.keeps;
      sees = subst (λ (x : List Telling). Sees (life_after_all x l) id s) (sym e)
          (subst (λ (x : Life). Sees x id s) (sym (after_both us vs l)) b.sees);
    }

sees_after : (b : Bool) (x s : Sight) (l : Life) (id : ℕ) → b ≡ true → x ≡ s → l.locked ≡ Some id
    → Sees (after_sight b x l) id s
sees_after true x s l id e f k = record { locked = k; sight = f }
sees_after false x s l id e f k = absurd cc

number_of : (o : Option ℕ) (id : ℕ) → o ≡ Some id → is_number o id ≡ true
number_of o id k = ap (λ x. is_number x id) k ∙ eq-eqb id id refl

seen_group : (l : Life) (id : ℕ) (some : Option Bool) (s next : Sight) → Sees l id s → next ≡ sight_of_group some s
    → Seen l id next (Populated id some ∷ [])
seen_group l id some s next k e =
    record {
      keeps = keeps_group l id some;
      sees = sees_after _ _ next l id (number_of l.locked id k.locked) (ap (sight_of_group some) k.sight ∙ sym e) k.locked;
    }

seen_marks : (l : Life) (id : ℕ) (own : Bool) (found : List Process) (s next : Sight) → Sees l id s
    → next ≡ sight_of own (numbers_of found) s → Seen l id next (Marked id own found ∷ [])
seen_marks l id own found s next k e =
    record {
      keeps = record { careful = (tt, tt); stays = sight_stays _ _ l };
      sees = sees_after _ _ next l id (number_of l.locked id k.locked)
          (ap (sight_of own (numbers_of found)) k.sight ∙ sym e) k.locked;
    }

seen_same : (l : Life) (id : ℕ) (s : Sight) (t : Telling) → IsCareful l t → life_after t l ≡ l → Sees l id s
    → Seen l id s (t ∷ [])
seen_same l id s t a e k =
    record { keeps = keeps_same l t a e; sees = subst (λ (x : Life). Sees x id s) (sym e) k }

seen_killed : (l : Life) (id : ℕ) (s : Sight) (ns : List ℕ) → Sees l id s → Seen l id s (killed id ns)
seen_killed l id s [] k = record { keeps = record { careful = tt; stays = stays l }; sees = k }
seen_killed l id s (n ∷ ns) k = seen_same l id s _ tt refl k

seen_mark_round : (l : Life) (id : ℕ) (s next : Sight) (ts : List Telling) → Sees l id s → IsMarkRound id s next ts
    → Seen l id next ts
seen_mark_round l id s next ts k h =
    let first = seen_marks l id h.own h.found s next k h.shows in
    seen_both l id next next (Marked id h.own h.found ∷ []) (killed id (numbers_of h.found)) ts h.asked first
    (seen_killed _ id next (numbers_of h.found) first.sees)

seen_round : (l : Life) (id : ℕ) (s next : Sight) (ts : List Telling) → Sees l id s → IsRound id s next ts
    → Seen l id next ts
seen_round l id s next ts k (inl h) =
    subst (Seen l id next) (sym h.1) (seen_group l id (Some false) s next k h.0)
seen_round l id s next ts k (inr (inl h)) =
    let first = seen_group l id (Some true) s next k h.0 in
    seen_both l id next next (Populated id (Some true) ∷ []) (Did (deed (KilledGroup id) Done) ∷ []) ts h.1 first
    (seen_same _ id next _ tt refl first.sees)
seen_round l id s next ts k (inr (inr h)) =
    let first = seen_group l id None s s k refl in
    seen_both l id s next (Populated id None ∷ []) h.1 ts (h.4 ∙ ap (λ x. x ++ h.1) h.2) first
    (seen_mark_round _ id s next h.1 first.sees h.3)

seen_rounds : (id n : ℕ) (s : Sight) (ts : List Telling) → IsRounds id n s ts → (l : Life) → Sees l id Unseen
    → Seen l id s ts
seen_rounds id n s ts no_round l k = record { keeps = record { careful = tt; stays = stays l }; sees = k }
seen_rounds id n s ts (one_more m r next us vs ws e h x f) l k =
    let first = seen_rounds id m r us h l k in
    seen_both l id r next us vs ws f first (seen_round _ id r next vs first.sees x)

seen_token : (l : Life) (id : ℕ) (t : Option Token) (s : Sight) → Sees l id s → Seen l id s (TokenIs id t ∷ [])
seen_token l id t s k = record { keeps = keeps_token l id t; sees = by (is_settled t) }
  where
    by : (b : Bool) → Sees (after_token b id l) id s
    by true = record { locked = k.locked; sight = k.sight }
    by false = k

begun_is : (t : Option Token) (b : Token) → begun_token t ≡ Some b → is_begun (Some b) ≡ true
begun_is None b e = absurd cc
begun_is (Some Go) b e = absurd cc
begun_is (Some Void) b e = absurd cc
begun_is (Some Begun) b e = let f : Begun ≡ b = cc in ap (λ x. is_begun (Some x)) (sym f)
begun_is (Some (Ended x)) b e = let f : Ended x ≡ b = cc in ap (λ x. is_begun (Some x)) (sym f)
begun_is (Some (tokens.Over x)) b e = absurd cc

keeps_swept : (l : Life) (id : ℕ) (swept : Swept) (ts : List Telling) → Sees l id Unseen → IsSwept id swept ts → Keeps l ts
keeps_swept l id swept ts k (inl h) = keeps_as l _ ts h.asked (keeps_token l id h.token)
keeps_swept l id swept ts k (inr (inl h)) =
    let first = seen_token l id h.token Unseen k in
    let second = seen_rounds id _ h.asked.3.0 h.asked.1 h.asked.3.2 _ first.sees in
    keeps_both l (TokenIs id h.token ∷ []) h.asked.1 ts (h.asked.4 ∙ ap (λ x. x ++ h.asked.1) h.asked.2) first.keeps
    second.keeps
keeps_swept l id swept ts k (inr (inr h)) =
    let two = h.asked.2 in
    let first = seen_token l id h.token Unseen k in
    let second = seen_rounds id two.3.0 Nothing two.1 two.3.1 _ first.sees in
    let both = seen_both l id Unseen Nothing (TokenIs id h.token ∷ []) two.1 h.asked.0
    (two.4 ∙ ap (λ x. x ++ two.1) two.2) first second in
    keeps_both l h.asked.0 h.asked.1 ts h.asked.4 both.keeps
    (keeps_as _ _ h.asked.1 h.asked.3
    (keeps_same _ _
    (inr (record {
      begun = begun_is h.token h.begun h.is;
      over = refl;
      locked = both.sees.locked;
      sight = both.sees.sight;
    })) refl))

pub lock_stays : (b : Bool) (id : ℕ) (l : Life) → Stays l (after_lock b id l)
lock_stays true id l = record { listed = refl; low = refl; high = refl; less = λ q e. e }
lock_stays false id l = record { listed = refl; low = refl; high = refl; less = λ q e. e }

keeps_sweep : (l : Life) (id : ℕ) (swept : Swept) (ts : List Telling) → IsSweep id swept ts → Keeps l ts
keeps_sweep l id swept ts (inl h) = keeps_as l _ ts h.1 (record { careful = (tt, tt); stays = lock_stays false id l })
keeps_sweep l id swept ts (inr h) =
    let two = h.2 in
    let m = life_after (Locked id true) l in
    keeps_both l h.0 h.1 ts h.4
    (keeps_both l (Locked id true ∷ []) two.1 h.0 (two.4 ∙ ap (λ x. x ++ two.1) two.2)
    (record { careful = (tt, tt); stays = lock_stays true id l })
    (keeps_swept m id swept two.1 (record { locked = refl; sight = refl }) two.3))
    (keeps_as _ _ h.1 h.3 (record { careful = (tt, tt); stays = lock_stays false 0 _ }))

-- ---- a contract is settled

pub record Settles (l : Life) (id : ℕ) (stand : Stand) (ts : List Telling) : Type 0 where
  pub keeps : Keeps l ts
  pub goes : is_gone stand ≡ true → list_any (is_known id) (life_after_all ts l).unsettled ≡ false

settles_then : (l : Life) (id : ℕ) (stand : Stand) (us vs ts : List Telling) → ts ≡ us ++ vs → Keeps l us
    → Settles (life_after_all us l) id stand vs → Settles l id stand ts
settles_then l id stand us vs ts e a b =
    record {
      keeps = keeps_both l us vs ts e a b.keeps;
      goes = λ g. subst (λ (x : List Telling). list_any (is_known id) (life_after_all x l).unsettled ≡ false) (sym e)
          (subst (λ (x : Life). list_any (is_known id) x.unsettled ≡ false) (sym (after_both us vs l)) (b.goes g));
    }

gone_of : (b : Bool) → is_gone (stand_of b) ≡ true → b ≡ true
gone_of true e = refl
gone_of false e = absurd cc

settles_forget : (l : Life) (id : ℕ) (stand : Stand) (ts : List Telling) → l.listed ≡ true → IsForgetting id stand ts
    → Settles l id stand ts
settles_forget l id stand ts e h =
    let f = keeps_forget l id h.gone ts e h.asked in
    record { keeps = f.keeps; goes = λ g. f.goes (gone_of h.gone (ap is_gone (sym h.is) ∙ g)) }

stays_here : (l : Life) (id : ℕ) (stand other : Stand) (ts : List Telling) → stand ≡ other → is_gone other ≡ false
    → Keeps l ts → Settles l id stand ts
stays_here l id stand other ts e f k =
    record { keeps = k; goes = λ g. absurd (let n : is_gone stand ≡ false = ap is_gone e ∙ f in cc) }

pub settles_clean : (l : Life) (id : ℕ) (stand : Stand) (ts : List Telling) → l.listed ≡ true → IsClean id stand ts
    → Settles l id stand ts
settles_clean l id stand ts e (inl h) =
    stays_here l id stand TakenUp ts h.is refl
    (keeps_both l h.calls.0 h.calls.1 ts h.calls.4 (keeps_as l _ h.calls.0 h.calls.2 (keeps_group l id h.some))
    (keeps_as _ _ h.calls.1 h.calls.3 (keeps_same _ _ tt refl)))
settles_clean l id stand ts e (inr (inl h)) =
    stays_here l id stand Left ts h.is refl
    (keeps_both l h.calls.0 h.calls.1 ts h.calls.4 (keeps_as l _ h.calls.0 h.calls.2 (keeps_group l id h.some))
    (keeps_sweep _ id h.swept h.calls.1 h.calls.3))
settles_clean l id stand ts e (inr (inr h)) =
    let two = h.calls.2 in
    let first = keeps_both l two.0 two.1 h.calls.0 two.4 (keeps_as l _ two.0 two.2 (keeps_group l id h.some))
    (keeps_sweep _ id h.swept two.1 two.3) in
    settles_then l id stand h.calls.0 h.calls.1 ts h.calls.4 first
    (settles_forget _ id stand h.calls.1 (first.stays.listed ∙ e) h.calls.3)

settles_by : (l : Life) (id : ℕ) (look : Look) (stand : Stand) (ts : List Telling) → l.listed ≡ true
    → IsSettlingBy id look stand ts → Settles l id stand ts
settles_by l id Waits stand ts e h =
    stays_here l id stand Left ts h.0 refl (keeps_as l [] ts h.1 (record { careful = tt; stays = stays l }))
settles_by l id (Lives end) stand ts e h =
    stays_here l id stand _ ts h.0 refl (keeps_as l [] ts h.1 (record { careful = tt; stays = stays l }))
settles_by l id Never stand ts e h = settles_forget l id stand ts e h
settles_by l id (Over s) stand ts e h = settles_forget l id stand ts e h
settles_by l id (Unclean t) stand ts e h = settles_clean l id stand ts e h

pub settles : (l : Life) (id : ℕ) (stand : Stand) (ts : List Telling) → l.listed ≡ true → IsSettling id stand ts
    → Settles l id stand ts
settles l id stand ts e h =
    let two = h.calls.2 in
    let first = keeps_both l two.0 two.1 h.calls.0 two.4 (keeps_cancel l id two.2.0 two.0 two.2.1)
    (keeps_look _ id h.look two.1 two.3) in
    settles_then l id stand h.calls.0 h.calls.1 ts h.calls.4 first
    (settles_by _ id h.look stand h.calls.1 (first.stays.listed ∙ e) h.calls.3)

-- ---- one contract, with its note

-- it may be of this instance, and is none of these
abbrev others : List ℕ → List ℕ → Known → Bool
others instance rest k = may_be instance k && not (list_any (λ x. k.id == x) rest)

-- the calls are careful, and what the server does not know of contracts stays
pub record Holds (l : Life) (ts : List Telling) : Type 0 where
  pub careful : AreCareful l ts
  pub listed : (life_after_all ts l).listed ≡ l.listed
  pub low : (life_after_all ts l).low ≡ l.low
  pub high : (life_after_all ts l).high ≡ l.high

holds : (l : Life) (ts : List Telling) → Keeps l ts → Holds l ts
holds l ts k = record { careful = k.careful; listed = k.stays.listed; low = k.stays.low; high = k.stays.high }

holds_both : (l : Life) (us vs ts : List Telling) → ts ≡ us ++ vs → Holds l us → Holds (life_after_all us l) vs → Holds l ts
holds_both l us vs ts e a b =
    let same = after_both us vs l in
    subst (Holds l) (sym e)
    (record {
      careful = careful_both us vs l a.careful b.careful;
      listed = ap (λ (x : Life). x.listed) same ∙ b.listed ∙ a.listed;
      low = ap (λ (x : Life). x.low) same ∙ b.low ∙ a.low;
      high = ap (λ (x : Life). x.high) same ∙ b.high ∙ a.high;
    })

holds_note : (l : Life) (id : ℕ) (note : Option Note) → Holds l (NoteIs id note ∷ [])
holds_note l id None = record { careful = (tt, tt); listed = refl; low = refl; high = refl }
holds_note l id (Some n) = record { careful = (tt, tt); listed = refl; low = refl; high = refl }

pub holds_one : (l : Life) (id : ℕ) (one : Option Found) (ts : List Telling) → l.listed ≡ true → IsOne id one ts → Holds l ts
holds_one l id one ts e (inl h) = holds l ts (settles l id h.0 ts e h.3).keeps
holds_one l id one ts e (inr h) =
    holds_both l h.2.0 h.2.1 ts h.2.4 (holds l h.2.0 (settles l id h.0 h.2.0 e h.2.2).keeps)
    (subst (Holds _) (sym h.2.3.asked) (holds_note _ id h.2.3.note))

pub holds_finding : (ids : List ℕ) (fs : List Found) (ts : List Telling) (l : Life) → l.listed ≡ true → IsFinding ids fs ts
    → Holds l ts
holds_finding [] fs ts l e h =
    subst (Holds l) (sym h.1) (record { careful = tt; listed = refl; low = refl; high = refl })
holds_finding (id ∷ ids) fs ts l e h =
    let first = holds_one l id h.0 h.3.0 e h.3.2 in
    holds_both l h.3.0 h.3.1 ts h.3.4 first (holds_finding ids h.1 h.3.1 _ (first.listed ∙ e) h.3.3)

-- ---- which instances may still run

none_of_it : (a b c : Bool) → (a && not (b || c)) ≡ false → b ≡ false → (a && not c) ≡ false
none_of_it true true c e f = absurd cc
none_of_it true false c e f = e
none_of_it false b c e f = refl

without_it : (instance : List ℕ) (id : ℕ) (rest : List ℕ) (ks : List Known)
    → list_any (others instance (id ∷ rest)) ks ≡ false → list_any (is_known id) ks ≡ false
    → list_any (others instance rest) ks ≡ false
without_it instance id rest [] a b = refl
without_it instance id rest (k ∷ ks) a b =
    both_no _ _
    (none_of_it (may_be instance k) (k.id == id) (list_any (λ x. k.id == x) rest) (no_l _ _ a) (no_l _ _ b))
    (without_it instance id rest ks (no_r _ _ a) (no_r _ _ b))

named_it : (instance other : List ℕ) (id : ℕ) (rest : List ℕ) (ks : List Known) → pointwise nat_eq other instance ≡ false
    → list_any (others instance (id ∷ rest)) ks ≡ false → list_any (others instance rest) (named id other ks) ≡ false
named_it instance other id rest [] n a = refl
named_it instance other id rest (k ∷ ks) n a =
    both_no _ _ (by (k.id == id) refl) (named_it instance other id rest ks n (no_r _ _ a))
  where
    by : (b : Bool) → (k.id == id) ≡ b
        → others instance rest (if b then record k { instance = Some other } else k) ≡ false
    by true e = rw n refl
    by false e = none_of_it (may_be instance k) (k.id == id) (list_any (λ x. k.id == x) rest) (no_l _ _ a) e

one_more_out : (instance : List ℕ) (x : ℕ) (rest : List ℕ) (ks : List Known)
    → list_any (others instance rest) ks ≡ false → list_any (others instance (x ∷ rest)) ks ≡ false
one_more_out instance x rest [] a = refl
one_more_out instance x rest (k ∷ ks) a =
    both_no _ _ (by (may_be instance k) (k.id == x) (list_any (λ y. k.id == y) rest) (no_l _ _ a))
    (one_more_out instance x rest ks (no_r _ _ a))
  where
    by : (a b c : Bool) → (a && not c) ≡ false → (a && not (b || c)) ≡ false
    by true true c e = refl
    by true false c e = e
    by false b c e = refl

all_unread : (instance : List ℕ) (ids : List ℕ) → list_any (others instance ids) (map unread ids) ≡ false
all_unread instance [] = refl
all_unread instance (id ∷ ids) =
    both_no _ _ (let same : (id == id) ≡ true = eq-eqb id id refl in rw same refl)
    (one_more_out instance id ids (map unread ids) (all_unread instance ids))

none_left : (instance : List ℕ) (ks : List Known) → list_any (others instance []) ks ≡ false
    → list_any (may_be instance) ks ≡ false
none_left instance [] a = refl
none_left instance (k ∷ ks) a =
    both_no _ _ (by (may_be instance k) (no_l _ _ a)) (none_left instance ks (no_r _ _ a))
  where
    by : (a : Bool) → (a && not false) ≡ false → a ≡ false
    by true e = absurd cc
    by false e = refl

rest_noted : (instance : List ℕ) (id : ℕ) (rest : List ℕ) (note : Option Note) (m : Life)
    → is_of instance (option_map (λ n. string_bytes n.instance) note) ≡ false
    → list_any (others instance (id ∷ rest)) m.unsettled ≡ false
    → list_any (others instance rest) (life_after (NoteIs id note) m).unsettled ≡ false
rest_noted instance id rest None m n a = absurd cc
rest_noted instance id rest (Some note) m n a =
    named_it instance (string_bytes note.instance) id rest m.unsettled n a

rest_one : (instance : List ℕ) (id : ℕ) (rest : List ℕ) (one : Option Found) (ts : List Telling) (l : Life)
    → l.listed ≡ true → IsOne id one ts → list_any (may_run_as instance) (with_one one []) ≡ false
    → list_any (others instance (id ∷ rest)) l.unsettled ≡ false
    → list_any (others instance rest) (life_after_all ts l).unsettled ≡ false
rest_one instance id rest one ts l e (inl h) n a =
    let s = settles l id h.0 ts e h.3 in
    without_it instance id rest (life_after_all ts l).unsettled (s.keeps.stays.less (others instance (id ∷ rest)) a)
    (s.goes h.1)
rest_one instance id rest one ts l e (inr h) n a =
    let s = settles l id h.0 h.2.0 e h.2.2 in
    let m = life_after_all h.2.0 l in
    let noted = h.2.3 in
    let other : is_of instance (option_map (λ x. string_bytes x.instance) noted.note) ≡ false =
    no_l _ _ (ap (λ (o : Option Found). list_any (may_run_as instance) (with_one o [])) (sym noted.is) ∙ n) in
    let calls : ts ≡ h.2.0 ++ NoteIs id noted.note ∷ [] = h.2.4 ∙ ap (λ x. h.2.0 ++ x) noted.asked in
    subst (λ (x : List Telling). list_any (others instance rest) (life_after_all x l).unsettled ≡ false) (sym calls)
    (subst (λ (x : Life). list_any (others instance rest) x.unsettled ≡ false)
    (sym (after_both h.2.0 (NoteIs id noted.note ∷ []) l))
    (rest_noted instance id rest noted.note m other (s.keeps.stays.less (others instance (id ∷ rest)) a)))

first_of_two : (instance : List ℕ) (one : Option Found) (gs : List Found)
    → list_any (may_run_as instance) (with_one one gs) ≡ false → list_any (may_run_as instance) (with_one one []) ≡ false
first_of_two instance None gs n = refl
first_of_two instance (Some f) gs n = both_no _ _ (no_l _ _ n) refl

second_of_two : (instance : List ℕ) (one : Option Found) (gs : List Found)
    → list_any (may_run_as instance) (with_one one gs) ≡ false → list_any (may_run_as instance) gs ≡ false
second_of_two instance None gs n = n
second_of_two instance (Some f) gs n = no_r _ _ n

rest_found : (instance : List ℕ) (ids : List ℕ) (fs : List Found) (ts : List Telling) (l : Life) → l.listed ≡ true
    → IsFinding ids fs ts → list_any (may_run_as instance) fs ≡ false
    → list_any (others instance ids) l.unsettled ≡ false
    → list_any (others instance []) (life_after_all ts l).unsettled ≡ false
rest_found instance [] fs ts l e h n a =
    subst (λ (x : List Telling). list_any (others instance []) (life_after_all x l).unsettled ≡ false) (sym h.1) a
rest_found instance (id ∷ ids) fs ts l e h n a =
    let first = holds_one l id h.0 h.3.0 e h.3.2 in
    let m = ap (list_any (may_run_as instance)) (sym h.2) ∙ n in
    let one = rest_one instance id ids h.0 h.3.0 l e h.3.2 (first_of_two instance h.0 h.1 m) a in
    subst (λ (x : List Telling). list_any (others instance []) (life_after_all x l).unsettled ≡ false) (sym h.3.4)
    (subst (λ (x : Life). list_any (others instance []) x.unsettled ≡ false) (sym (after_both h.3.0 h.3.1 l))
    (rest_found instance ids h.1 h.3.1 (life_after_all h.3.0 l) (first.listed ∙ e) h.3.3
    (second_of_two instance h.0 h.1 m) one))

-- ---- a life begins

pub beginning_careful : (fs : List Found) (ts : List Telling) (l : Life) → IsBeginning fs ts → AreCareful l ts
beginning_careful fs ts l h =
    let m = life_after (Listed h.ids) l in
    subst (AreCareful l) (sym (h.calls.4 ∙ ap (λ x. x ++ h.calls.1) h.calls.2))
    (tt, (holds_finding h.ids fs h.calls.1 m refl h.calls.3).careful)

pub beginning_may_start : (instance : List ℕ) (fs : List Found) (ts : List Telling) (l : Life) → IsBeginning fs ts
    → list_any (may_run_as instance) fs ≡ false → MayStart instance (life_after_all ts l)
beginning_may_start instance fs ts l h n =
    let m = life_after (Listed h.ids) l in
    subst (λ (x : List Telling). MayStart instance (life_after_all x l))
    (sym (h.calls.4 ∙ ap (λ x. x ++ h.calls.1) h.calls.2))
    (record {
      listed = (holds_finding h.ids fs h.calls.1 m refl h.calls.3).listed;
      settled = none_left instance (life_after_all h.calls.1 m).unsettled
          (rest_found instance h.ids fs h.calls.1 m refl h.calls.3 n (all_unread instance h.ids));
    })

pub early_beginning : (ts : List Telling) (l : Life) → EndsEarly IsAnyBeginning ts → AreCareful l ts
early_beginning ts l e = early_careful IsAnyBeginning l (λ us h. beginning_careful h.0 us l h.1) ts e

-- ---- a contract is started

-- the number was taken in this life and was not given
pub record Gives (l : Life) (id high : ℕ) (ts : List Telling) : Type 0 where
  pub careful : AreCareful l ts
  pub low : (life_after_all ts l).low ≤ id
  pub above : id < (life_after_all ts l).high
  pub most : (life_after_all ts l).high ≡ high
  pub listed : (life_after_all ts l).listed ≡ l.listed
  pub unsettled : (life_after_all ts l).unsettled ≡ l.unsettled

left_low : (a b c d id : ℕ) → a < b → (b ≤ a) ⊎ ((a ≡ c) × (b ≡ d)) → id ≡ a → (c ≤ id) × (id < d)
left_low a b c d id h (inl e) i = absurd (omega arith)
left_low a b c d id h (inr e) i = let p = e.0 in let q = e.1 in (omega arith, omega arith)

left_high : (a b c d : ℕ) → a < b → (b ≤ a) ⊎ ((a ≡ c) × (b ≡ d)) → d ≡ b
left_high a b c d h (inl e) = absurd (omega arith)
left_high a b c d h (inr e) = sym e.1

pub gives : (ns : Numbers) (given : Given) (ts : List Telling) (l : Life) → AreLeft ns l → IsGiven ns given ts
    → Gives l given.id given.left.high ts
gives ns given ts l a (inl h) =
    let in_block = left_low ns.low ns.high l.low l.high given.id h.left a h.id in
    subst (Gives l given.id given.left.high) (sym h.asked)
    (record {
      careful = tt;
      low = in_block.0;
      above = in_block.1;
      most = left_high ns.low ns.high l.low l.high h.left a ∙ sym h.high;
      listed = refl;
      unsettled = refl;
    })
gives ns given ts l a (inr h) =
    let block : 0 < BLOCK = omega arith in
    subst (Gives l given.id given.left.high) (sym h.asked)
    (record {
      careful = (tt, ((refl, omega arith), tt));
      low = omega arith;
      above = omega arith;
      most = sym h.high;
      listed = refl;
      unsettled = refl;
    })

pub may_make : (l m : Life) (id : ℕ) (instance : List ℕ) → m.low ≤ id → id < m.high → m.listed ≡ l.listed
    → m.unsettled ≡ l.unsettled → MayStart instance l → MayMake m id instance
may_make l m id instance a b e f s =
    record {
      reserved = a;
      below = b;
      listed = e ∙ s.listed;
      settled = ap (list_any (may_be instance)) f ∙ s.settled;
    }

pub next_low : (ns : Numbers) (given : Given) (ts : List Telling) → IsGiven ns given ts → given.left.low ≡ given.id + 1
next_low ns given ts (inl h) = h.low ∙ ap (λ (n : ℕ). n + 1) (sym h.id)
next_low ns given ts (inr h) = h.low

pub none_more : (q : Known → Bool) (ks : List Known) (k : Known) → list_any q ks ≡ false → q k ≡ false
    → list_any q (ks ++ k ∷ []) ≡ false
none_more q [] k a b = both_no (q k) false b refl
none_more q (x ∷ ks) k a b =
    both_no (q x) (list_any q (ks ++ k ∷ [])) (no_l (q x) (list_any q ks) a)
    (none_more q ks k (no_r (q x) (list_any q ks) a) b)

-- ---- a careful life is one of those of the law

pub life_comes : (ms : List Move) (s v : State) → Lasts s ms v → AreCareful s.life (calls_of ms) → Comes s ms v
life_comes [] s v h a = h
life_comes (Happens id e ∷ ms) s v h a =
    let same : h.0.life ≡ s.life = ap (λ (x : State). x.life) h.1.1 in
    (h.0, h.1, life_comes ms h.0 v h.2 (subst (λ (x : Life). AreCareful x (calls_of ms)) (sym same) a))
life_comes (Hears t ∷ ms) s v h a = (
  h.0,
  record { careful = a.0; so = h.1.so; does = h.1.does; knows = h.1.knows },
  life_comes ms h.0 v h.2 (subst (λ (x : Life). AreCareful x (calls_of ms)) (sym h.1.knows) a.1),
)
life_comes (Begins ∷ ms) s v h a = absurd h.1

pub comes_both : (ms ns : List Move) (s r v : State) → Comes s ms r → Comes r ns v → Comes s (ms ++ ns) v
comes_both [] ns s r v a b = subst (λ (x : State). Comes x ns v) (sym a) b
comes_both (m ∷ ms) ns s r v a b = (a.0, a.1, comes_both ms ns a.0 r v a.2 b)
