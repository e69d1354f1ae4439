-- Whatever is asked of a room in which a server lives is what a careful server asks.
use Rattle.std.proofs.Common.{◌≡◌, ◌⊎◌, inl, inr, ℕ, Bool, true, false, not, ◌&&◌, ◌||◌, ◌==◌, if◌then◌else◌, List, [], ◌∷◌, ◌++◌, Option, Some, None, Result, Ok, Err, IfOk, OnErr, refl, sym, ◌∙◌, ap, subst, eq-eqb, string_bytes}
use Rattle.std.specs.List.{list_any}
use Rattle.smf_room.specs.declared.live_room.LiveRoom.{LiveRoom}
use Rattle.smf_room.specs.declared.look.Look.{Look}
use Rattle.smf_room.specs.declared.life.Stand.{Stand}
use Rattle.smf_room.specs.declared.note.Note.{Note}
use Rattle.smf_room.specs.declared.sight.Sight.{Sight}
use Rattle.smf_room.specs.declared.start.Given.{Given}
use Rattle.smf_room.specs.declared.start.Numbers.{Numbers}
use Rattle.smf_room.specs.declared.sweep.Swept.{Swept}
use Rattle.smf_room.specs.declared.token.Token.{Token}
use Rattle.smf_room.specs.Beginnings.{IsClean, is_gone}
use Rattle.smf_room.specs.Carefuls.{AreLeft, MayStart}
use Rattle.smf_room.specs.Clearings.{IsAnyClearedOf, IsClearedIf, IsClearing, IsClearingLost, IsTakenBack, held_left, held_without, with_left}
use Rattle.smf_room.specs.Helds.{Held, held_may_be, knowns}
use Rattle.smf_room.specs.Lives.{AreCareful, Known, Life, is_known, life_after, life_after_all, may_be}
use Rattle.smf_room.specs.LiveRooms.{Among, GoesOn, KnowsBy, SameUnsettled}
use Rattle.smf_room.specs.Looks.{IsCancel, IsLook}
use Rattle.smf_room.specs.Starts.{IsAnyGiven, IsAskLost, IsAsking, IsEndAsk, IsGiven, IsMade, IsTried, IsUnmade, held_as, made}
use Rattle.smf_room.specs.Sweeps.{IsForget, IsMarkRound, IsRemoval, IsRound, IsRounds, IsSweep, IsSwept, IsUnlink, killed, no_round, one_more}
use Rattle.smf_room.specs.Tellings.{Act, Reserved, Made, Renamed, Asked, AskedEnd, Killed, KilledGroup, Unlinked, Ungrouped, Forgot, Did, Done, EndsEarly, Fails, FailsNext, Free, Heard, HolderIs, Listed, Locked, Log, Marked, NextIs, NoAnswer, NotDone, NoteIs, Only, Outcome, Populated, Telling, Tells, Then, TokenIs, Unlocked, Unsure, deed, failed}
use Rattle.smf_room.proofs.Careful.{Forgets, Keeps, Stays, after_both, both_no, careful_both, early_careful, fails_careful, gives, keeps_cancel, keeps_forget, keeps_look, lock_stays, may_make, next_low, none_more, settles_clean, sight_stays, stays, stays_then, token_stays}
use Rattle.smf_room.proofs.Contracts.{no_l, no_r}

-- ---- calls by which a life learns of no contract, and gives no number

abbrev pub IsMildAct : Act → Type 0
IsMildAct (Reserved low high) = ⊥
IsMildAct (Made id note) = ⊥
IsMildAct (Renamed id from to) = Unit {0}
IsMildAct (Asked id) = Unit {0}
IsMildAct (AskedEnd id signal seconds) = Unit {0}
IsMildAct (Killed id found) = Unit {0}
IsMildAct (KilledGroup id) = Unit {0}
IsMildAct (Unlinked id t) = Unit {0}
IsMildAct (Ungrouped id) = Unit {0}
IsMildAct (Forgot id) = Unit {0}

abbrev pub IsMild : Telling → Type 0
IsMild (Listed ids) = ⊥
IsMild (NoteIs id n) = ⊥
IsMild (Did d) = IsMildAct d.act
IsMild _ = Unit {0}

abbrev pub AllOf : (Telling → Type 0) → List Telling → Type 0
AllOf P [] = Unit {0}
AllOf P (t ∷ ts) = P t × AllOf P ts

abbrev pub AreMild : List Telling → Type 0
AreMild ts = AllOf IsMild ts

same_stays : (l m : Life) → m.listed ≡ l.listed → m.low ≡ l.low → m.high ≡ l.high → m.unsettled ≡ l.unsettled
    → Stays l m
same_stays l m a b c d =
    record { listed = a; low = b; high = c; less = λ q e. ap (list_any q) d ∙ e }

act_stays : (act : Act) (outcome : Outcome) (l : Life) → IsMildAct act → Stays l (life_after (Did (deed act outcome)) l)
act_stays (Reserved low high) o l h = absurd h
act_stays (Made id note) o l h = absurd h
act_stays (Renamed id from to) o l h = stays l
act_stays (Asked id) o l h = stays l
act_stays (AskedEnd id signal seconds) o l h = stays l
act_stays (Killed id found) o l h = stays l
act_stays (KilledGroup id) o l h = stays l
act_stays (Unlinked id t) o l h = stays l
act_stays (Ungrouped id) o l h = stays l
act_stays (Forgot id) o l h = stays l

mild_stays : (t : Telling) (l : Life) → IsMild t → Stays l (life_after t l)
mild_stays (NextIs n) l h = same_stays l (life_after (NextIs n) l) refl refl refl refl
mild_stays (Listed ids) l h = absurd h
mild_stays (TokenIs id t) l h = token_stays _ id l
mild_stays (Free id f) l h = stays l
mild_stays (NoteIs id n) l h = absurd h
mild_stays (Populated id s) l h = sight_stays _ _ l
mild_stays (Marked id o f) l h = sight_stays _ _ l
mild_stays (Locked id d) l h = lock_stays d id l
mild_stays Unlocked l h = same_stays l (life_after Unlocked l) refl refl refl refl
mild_stays (HolderIs there) l h = stays l
mild_stays (Did d) l h = act_stays d.act d.outcome l h
mild_stays NoAnswer l h = stays l

all_stay : (ts : List Telling) (l : Life) → AreMild ts → Stays l (life_after_all ts l)
all_stay [] l h = stays l
all_stay (t ∷ ts) l h =
    stays_then l (life_after t l) (life_after_all ts (life_after t l)) (mild_stays t l h.0)
    (all_stay ts (life_after t l) h.1)

mild_both : (us vs : List Telling) → AreMild us → AreMild vs → AreMild (us ++ vs)
mild_both [] vs a b = b
mild_both (u ∷ us) vs a b = (a.0, mild_both us vs a.1 b)

mild_is : (us vs ts : List Telling) → ts ≡ us ++ vs → AreMild us → AreMild vs → AreMild ts
mild_is us vs ts e a b = subst AreMild (sym e) (mild_both us vs a b)

mild_as : (us ts : List Telling) → ts ≡ us → AreMild us → AreMild ts
mild_as us ts e a = subst AreMild (sym e) a

failed_mild : (t : Telling) → IsMild t → IsMild (failed t)
failed_mild (NextIs n) h = tt
failed_mild (Listed ids) h = tt
failed_mild (TokenIs id t) h = tt
failed_mild (Free id f) h = tt
failed_mild (NoteIs id n) h = tt
failed_mild (Populated id s) h = tt
failed_mild (Marked id o f) h = tt
failed_mild (Locked id d) h = tt
failed_mild Unlocked h = tt
failed_mild (HolderIs there) h = tt
failed_mild (Did d) h = h
failed_mild NoAnswer h = tt

all_first : (P : Telling → Type 0) (us vs : List Telling) → AllOf P (us ++ vs) → AllOf P us
all_first P [] vs a = tt
all_first P (u ∷ us) vs a = (a.0, all_first P us vs a.1)

all_failed : (P : Telling → Type 0) → ((t : Telling) → P t → P (failed t)) → (us : List Telling) (t : Telling)
    (vs : List Telling) → AllOf P (us ++ t ∷ vs) → AllOf P (us ++ failed t ∷ [])
all_failed P f [] t vs a = (f t a.0, tt)
all_failed P f (u ∷ us) t vs a = (a.0, all_failed P f us t vs a.1)

-- a beginning of such calls is such, also if the last failed
all_by : (P : Telling → Type 0) → ((t : Telling) → P t → P (failed t)) → (ts before rest : List Telling)
    → AllOf P (before ++ rest) → (ts ≡ before) ⊎ FailsNext before rest ts → AllOf P ts
all_by P f ts before rest w (inl e) = subst (AllOf P) (sym e) (all_first P before rest w)
all_by P f ts before [] w (inr e) = absurd e
all_by P f ts before (t ∷ rest) w (inr e) = subst (AllOf P) (sym e) (all_failed P f before t rest w)

mild_by : (ts before rest : List Telling) → AreMild (before ++ rest) → (ts ≡ before) ⊎ FailsNext before rest ts
    → AreMild ts
mild_by ts before rest w e = all_by IsMild failed_mild ts before rest w e

-- ---- what is asked of one contract

-- the calls are careful in each life in which the room was listed, and mild
pub record Calm (ts : List Telling) : Type 0 where
  pub careful : (l : Life) → l.listed ≡ true → AreCareful l ts
  pub mild : AreMild ts

pub calm_early : (P : List Telling → Type 0) → ((ts : List Telling) → P ts → Calm ts) → (ts : List Telling) → EndsEarly P ts
    → Calm ts
calm_early P k ts e =
    record {
      careful = λ l listed. early_careful P l (λ us h. (k us h).careful l listed) ts e;
      mild = mild_by ts e.before e.rest (k (e.before ++ e.rest) e.whole).mild e.ends;
    }

pub calm_fails : (P : List Telling → Type 0) → ((ts : List Telling) → P ts → Calm ts) → (ts : List Telling) → Fails P ts
    → Calm ts
calm_fails P k ts e =
    record {
      careful = λ l listed. fails_careful P l (λ us h. (k us h).careful l listed) ts e;
      mild = mild_by ts e.before (e.next ∷ e.rest) (k (e.before ++ e.next ∷ e.rest) e.whole).mild e.ends;
    }

mild_look : (id : ℕ) (look : Look) (ts : List Telling) → IsLook id look ts → AreMild ts
mild_look id look ts (inl h) = mild_as _ ts h.asked (tt, tt)
mild_look id look ts (inr (inl h)) = mild_as _ ts h.asked (tt, (tt, tt))
mild_look id look ts (inr (inr h)) = mild_as _ ts h.asked (tt, (tt, (tt, tt)))

pub calm_look : (id : ℕ) (look : Look) (ts : List Telling) → IsLook id look ts → Calm ts
calm_look id look ts h =
    record { careful = λ l e. (keeps_look l id look ts h).careful; mild = mild_look id look ts h }

pub calm_cancel : (id : ℕ) (done : Bool) (ts : List Telling) → IsCancel id done ts → Calm ts
calm_cancel id done ts h =
    record { careful = λ l e. (keeps_cancel l id done ts h).careful; mild = mild_as _ ts h (tt, tt) }

mild_unlink : (id : ℕ) (t : Option Token) (ts : List Telling) → IsUnlink id t ts → AreMild ts
mild_unlink id None ts h = mild_as [] ts h tt
mild_unlink id (Some t) ts h = mild_as _ ts h (tt, tt)

mild_removal : (id : ℕ) (gone : Bool) (ts : List Telling) → IsRemoval id gone ts → AreMild ts
mild_removal id true ts h = mild_as _ ts h (tt, (tt, tt))
mild_removal id false ts h = mild_as _ ts h (tt, tt)

mild_forget : (id : ℕ) (gone : Bool) (ts : List Telling) → IsForget id gone ts → AreMild ts
mild_forget id gone ts (inl h) = mild_as _ ts h.asked (tt, tt)
mild_forget id gone ts (inr h) =
    let first = h.asked.2 in
    mild_is h.asked.0 h.asked.1 ts h.asked.4
    (mild_is first.0 first.1 h.asked.0 first.4 (mild_as _ first.0 first.2 (tt, tt))
    (mild_unlink id h.token first.1 first.3))
    (mild_removal id gone h.asked.1 h.asked.3)

pub calm_forget : (id : ℕ) (gone : Bool) (ts : List Telling) → IsForget id gone ts → Calm ts
calm_forget id gone ts h =
    record { careful = λ l e. (keeps_forget l id gone ts e h).keeps.careful; mild = mild_forget id gone ts h }

mild_killed : (id : ℕ) (ns : List ℕ) → AreMild (killed id ns)
mild_killed id [] = tt
mild_killed id (n ∷ ns) = (tt, tt)

mild_mark_round : (id : ℕ) (s next : Sight) (ts : List Telling) → IsMarkRound id s next ts → AreMild ts
mild_mark_round id s next ts h = mild_as _ ts h.asked (tt, mild_killed id _)

mild_round : (id : ℕ) (s next : Sight) (ts : List Telling) → IsRound id s next ts → AreMild ts
mild_round id s next ts (inl h) = mild_as _ ts h.1 (tt, tt)
mild_round id s next ts (inr (inl h)) = mild_as _ ts h.1 (tt, (tt, tt))
mild_round id s next ts (inr (inr h)) =
    mild_is h.0 h.1 ts h.4 (mild_as _ h.0 h.2 (tt, tt)) (mild_mark_round id s next h.1 h.3)

mild_rounds : (id n : ℕ) (s : Sight) (ts : List Telling) → IsRounds id n s ts → AreMild ts
mild_rounds id n s ts no_round = tt
mild_rounds id n s ts (one_more m r next us vs ws e h x f) =
    mild_is us vs ws f (mild_rounds id m r us h) (mild_round id r next vs x)

mild_swept : (id : ℕ) (swept : Swept) (ts : List Telling) → IsSwept id swept ts → AreMild ts
mild_swept id swept ts (inl h) = mild_as _ ts h.asked (tt, tt)
mild_swept id swept ts (inr (inl h)) =
    mild_is h.asked.0 h.asked.1 ts h.asked.4 (mild_as _ h.asked.0 h.asked.2 (tt, tt))
    (mild_rounds id _ h.asked.3.0 h.asked.1 h.asked.3.2)
mild_swept id swept ts (inr (inr h)) =
    let two = h.asked.2 in
    mild_is h.asked.0 h.asked.1 ts h.asked.4
    (mild_is two.0 two.1 h.asked.0 two.4 (mild_as _ two.0 two.2 (tt, tt)) (mild_rounds id two.3.0 _ two.1 two.3.1))
    (mild_as _ h.asked.1 h.asked.3 (tt, tt))

mild_sweep : (id : ℕ) (swept : Swept) (ts : List Telling) → IsSweep id swept ts → AreMild ts
mild_sweep id swept ts (inl h) = mild_as _ ts h.1 (tt, tt)
mild_sweep id swept ts (inr h) =
    let two = h.2 in
    mild_is h.0 h.1 ts h.4
    (mild_is two.0 two.1 h.0 two.4 (mild_as _ two.0 two.2 (tt, tt)) (mild_swept id swept two.1 two.3))
    (mild_as _ h.1 h.3 (tt, tt))

mild_clean : (id : ℕ) (stand : Stand) (ts : List Telling) → IsClean id stand ts → AreMild ts
mild_clean id stand ts (inl h) =
    mild_is h.calls.0 h.calls.1 ts h.calls.4 (mild_as _ h.calls.0 h.calls.2 (tt, tt))
    (mild_as _ h.calls.1 h.calls.3 (tt, tt))
mild_clean id stand ts (inr (inl h)) =
    mild_is h.calls.0 h.calls.1 ts h.calls.4 (mild_as _ h.calls.0 h.calls.2 (tt, tt))
    (mild_sweep id h.swept h.calls.1 h.calls.3)
mild_clean id stand ts (inr (inr h)) =
    let two = h.calls.2 in
    mild_is h.calls.0 h.calls.1 ts h.calls.4
    (mild_is two.0 two.1 h.calls.0 two.4 (mild_as _ two.0 two.2 (tt, tt)) (mild_sweep id h.swept two.1 two.3))
    (mild_forget id h.calls.3.gone h.calls.1 h.calls.3.asked)

pub calm_clean : (id : ℕ) (stand : Stand) (ts : List Telling) → IsClean id stand ts → Calm ts
calm_clean id stand ts h =
    record { careful = λ l e. (settles_clean l id stand ts e h).keeps.careful; mild = mild_clean id stand ts h }

pub calm_end : (id : ℕ) (signal : List ℕ) (seconds : ℕ) (done : Bool) (ts : List Telling)
    → IsEndAsk id signal seconds done ts → Calm ts
calm_end id signal seconds done ts h =
    record {
      careful = λ l e. subst (AreCareful l) (sym h) (tt, tt);
      mild = mild_as _ ts h (tt, tt);
    }

calm_one : (t : Telling) (ts : List Telling) → ts ≡ t ∷ [] → IsMild t → ((l : Life) → AreCareful l (t ∷ [])) → Calm ts
calm_one t ts e m k = record { careful = λ l listed. subst (AreCareful l) (sym e) (k l); mild = mild_as _ ts e (m, tt) }

pub calm_asking : (id : ℕ) (done : Bool) (ts : List Telling) → IsAsking id done ts → Calm ts
calm_asking id done ts (inl h) =
    record { careful = λ l e. subst (AreCareful l) (sym h.1) (tt, tt); mild = mild_as _ ts h.1 (tt, tt) }
calm_asking id done ts (inr (inl h)) =
    record { careful = λ l e. subst (AreCareful l) (sym h.1) (tt, (tt, tt)); mild = mild_as _ ts h.1 (tt, (tt, tt)) }
calm_asking id done ts (inr (inr h)) =
    record { careful = λ l e. subst (AreCareful l) (sym h) (tt, (tt, (tt, tt))); mild = mild_as _ ts h (tt, (tt, (tt, tt))) }

pub calm_ask_lost : (id : ℕ) (ts : List Telling) → IsAskLost id ts → Calm ts
calm_ask_lost id ts (inl h) =
    record { careful = λ l e. subst (AreCareful l) (sym h) (tt, tt); mild = mild_as _ ts h (tt, tt) }
calm_ask_lost id ts (inr (inl h)) =
    record { careful = λ l e. subst (AreCareful l) (sym h) (tt, (tt, tt)); mild = mild_as _ ts h (tt, (tt, tt)) }
calm_ask_lost id ts (inr (inr h)) =
    record { careful = λ l e. subst (AreCareful l) (sym h) (tt, (tt, (tt, tt))); mild = mild_as _ ts h (tt, (tt, (tt, tt))) }

calm_tried : (id : ℕ) (ts : List Telling) → IsTried id ts → Calm ts
calm_tried id ts (inl h) = calm_asking id h.0 ts h.1
calm_tried id ts (inr h) = calm_ask_lost id ts h

-- ---- what is known stays known

left_stays : (ns : Numbers) (l m : Life) → m.low ≡ l.low → m.high ≡ l.high → AreLeft ns l → AreLeft ns m
left_stays ns l m a b (inl h) = inl h
left_stays ns l m a b (inr h) = inr (h.0 ∙ sym a, h.1 ∙ sym b)

knows_stays : (ns : Numbers) (hs : List Held) (l m : Life) → KnowsBy ns hs l → Stays l m → KnowsBy ns hs m
knows_stays ns hs l m k s =
    record {
      listed = s.listed ∙ k.listed;
      left = left_stays ns l m s.low s.high k.left;
      among = λ q e. s.less q (k.among q e);
    }

-- these calls are careful, and so much is known after them
pub record Leads (ns : Numbers) (hs : List Held) (l : Life) (ts : List Telling) : Type 0 where
  pub careful : AreCareful l ts
  pub knows : KnowsBy ns hs (life_after_all ts l)

leads_both : (ns : Numbers) (hs : List Held) (l : Life) (us vs ts : List Telling) → ts ≡ us ++ vs → AreCareful l us
    → Leads ns hs (life_after_all us l) vs → Leads ns hs l ts
leads_both ns hs l us vs ts e a b =
    subst (Leads ns hs l) (sym e)
    (record {
      careful = careful_both us vs l a b.careful;
      knows = subst (KnowsBy ns hs) (sym (after_both us vs l)) b.knows;
    })

pub calm_leads : (ns : Numbers) (hs : List Held) (ts : List Telling) → Calm ts → (l : Life) → KnowsBy ns hs l
    → Leads ns hs l ts
calm_leads ns hs ts c l k =
    record {
      careful = c.careful l k.listed;
      knows = knows_stays ns hs l (life_after_all ts l) k (all_stay ts l c.mild);
    }

-- ---- a contract is dropped

none_front : (q : Known → Bool) (hs ks : List Held) → list_any q (knowns (hs ++ ks)) ≡ false
    → list_any q (knowns hs) ≡ false
none_front q [] ks e = refl
none_front q (h ∷ hs) ks e =
    both_no (q h.known) (list_any q (knowns hs)) (no_l (q h.known) _ e) (none_front q hs ks (no_r (q h.known) _ e))

none_back : (q : Known → Bool) (hs ks : List Held) → list_any q (knowns (hs ++ ks)) ≡ false
    → list_any q (knowns ks) ≡ false
none_back q [] ks e = e
none_back q (h ∷ hs) ks e = none_back q hs ks (no_r (q h.known) _ e)

none_join : (q : Known → Bool) (hs ks : List Held) → list_any q (knowns hs) ≡ false → list_any q (knowns ks) ≡ false
    → list_any q (knowns (hs ++ ks)) ≡ false
none_join q [] ks a b = b
none_join q (h ∷ hs) ks a b =
    both_no (q h.known) (list_any q (knowns (hs ++ ks))) (no_l (q h.known) _ a)
    (none_join q hs ks (no_r (q h.known) _ a) b)

-- it passes the test, and has another number
abbrev pub elsewhere : ℕ → (Known → Bool) → Known → Bool
elsewhere id q k = q k && not (is_known id k)

pub none_elsewhere : (id : ℕ) (q : Known → Bool) (ks : List Known) → list_any (elsewhere id q) ks ≡ false
    → list_any (is_known id) ks ≡ false → list_any q ks ≡ false
none_elsewhere id q [] a b = refl
none_elsewhere id q (k ∷ ks) a b =
    both_no (q k) (list_any q ks) (by (q k) (is_known id k) (no_l _ _ a) (no_l _ _ b))
    (none_elsewhere id q ks (no_r _ _ a) (no_r _ _ b))
  where
    by : (x y : Bool) → (x && not y) ≡ false → y ≡ false → x ≡ false
    by true true e f = absurd cc
    by true false e f = absurd cc
    by false y e f = refl

not_here : (x : Bool) → (x && not true) ≡ false
not_here true = refl
not_here false = refl

pub here : (id : ℕ) (q : Known → Bool) (k : Known) → is_known id k ≡ true → elsewhere id q k ≡ false
here id q k e = ap (λ (b : Bool). q k && not b) e ∙ not_here (q k)

weaker_no : (x y : Bool) → x ≡ false → (x && not y) ≡ false
weaker_no true y e = absurd cc
weaker_no false y e = refl

none_without_it : (id : ℕ) (q : Known → Bool) (hs : List Held) → list_any q (knowns (held_without id hs)) ≡ false
    → list_any (elsewhere id q) (knowns hs) ≡ false
none_without_it id q [] e = refl
none_without_it id q (h ∷ hs) e =
    by (h.known.id == id) refl (λ g. none_without_it id q hs g) e
  where
    by : (b : Bool) → (h.known.id == id) ≡ b
        → (list_any q (knowns (held_without id hs)) ≡ false → list_any (elsewhere id q) (knowns hs) ≡ false)
        → list_any q (knowns (if not b then h ∷ held_without id hs else held_without id hs)) ≡ false
        → list_any (elsewhere id q) (knowns (h ∷ hs)) ≡ false
    by true f k g = both_no _ _ (here id q h.known f) (k g)
    by false f k g =
        both_no _ _ (weaker_no (q h.known) (h.known.id == id) (no_l (q h.known) _ g)) (k (no_r (q h.known) _ g))

among_without : (id : ℕ) (hs : List Held) (ks : List Known) → Among (knowns hs) ks → list_any (is_known id) ks ≡ false
    → Among (knowns (held_without id hs)) ks
among_without id hs ks a n q e = none_elsewhere id q ks (a (elsewhere id q) (none_without_it id q hs e)) n

among_left : (gone : Bool) (id : ℕ) (hs : List Held) (ks : List Known) → Among (knowns hs) ks
    → (gone ≡ true → list_any (is_known id) ks ≡ false) → Among (knowns (held_left gone id hs)) ks
among_left true id hs ks a n = among_without id hs ks a (n refl)
among_left false id hs ks a n = a

left_leads : (ns : Numbers) (hs : List Held) (gone : Bool) (id : ℕ) (ts : List Telling) (l : Life) → Keeps l ts
    → (gone ≡ true → list_any (is_known id) (life_after_all ts l).unsettled ≡ false) → KnowsBy ns hs l
    → Leads ns (held_left gone id hs) l ts
left_leads ns hs gone id ts l k n a =
    let m = life_after_all ts l in
    let all = knows_stays ns hs l m a k.stays in
    record {
      careful = k.careful;
      knows = record {
        listed = all.listed;
        left = all.left;
        among = among_left gone id hs m.unsettled all.among n;
      };
    }

pub forget_leads : (ns : Numbers) (hs : List Held) (id : ℕ) (gone : Bool) (ts : List Telling) → IsForget id gone ts
    → (l : Life) → KnowsBy ns hs l → Leads ns (held_left gone id hs) l ts
forget_leads ns hs id gone ts h l a =
    let f = keeps_forget l id gone ts a.listed h in left_leads ns hs gone id ts l f.keeps f.goes a

pub clean_leads : (ns : Numbers) (hs : List Held) (id : ℕ) (stand : Stand) (ts : List Telling) → IsClean id stand ts
    → (l : Life) → KnowsBy ns hs l → Leads ns (held_left (is_gone stand) id hs) l ts
clean_leads ns hs id stand ts h l a =
    let f = settles_clean l id stand ts a.listed h in left_leads ns hs (is_gone stand) id ts l f.keeps f.goes a

-- ---- those of an instance are cleared

-- each of these is among those, or among the others
abbrev pub AmongBoth : List Known → List Known → List Known → Type 0
AmongBoth those others these =
    (q : Known → Bool) → list_any q those ≡ false → list_any q others ≡ false → list_any q these ≡ false

record Clears (l : Life) (ts : List Telling) (left others : List Known) : Type 0 where
  careful : AreCareful l ts
  listed : (life_after_all ts l).listed ≡ l.listed
  low : (life_after_all ts l).low ≡ l.low
  high : (life_after_all ts l).high ≡ l.high
  among : AmongBoth left others (life_after_all ts l).unsettled

forgets_none : (l : Life) (id : ℕ) → Forgets l id false []
forgets_none l id =
    record { keeps = record { careful = tt; stays = stays l }; goes = λ (e : false ≡ true). absurd cc }

forgets_after : (l : Life) (id : ℕ) (gone : Bool) (us vs ts : List Telling) → ts ≡ us ++ vs → Keeps l us
    → Forgets (life_after_all us l) id gone vs → Forgets l id gone ts
forgets_after l id gone us vs ts e a b =
    subst (Forgets l id gone) (sym e)
    (record {
      keeps = record {
        careful = careful_both us vs l a.careful b.keeps.careful;
        stays = subst (Stays l) (sym (after_both us vs l))
            (stays_then l (life_after_all us l) (life_after_all vs (life_after_all us l)) a.stays b.keeps.stays);
      };
      goes = λ g. subst (λ (x : Life). list_any (is_known id) x.unsettled ≡ false) (sym (after_both us vs l)) (b.goes g);
    })

keeps_taken_back : (failed : Bool) (id : ℕ) (l : Life) (ts : List Telling) → IsTakenBack failed id ts → Keeps l ts
keeps_taken_back true id l ts h = keeps_cancel l id h.0 ts h.1
keeps_taken_back false id l ts h = subst (Keeps l) (sym h) (record { careful = tt; stays = stays l })

forgets_if : (b : Bool) (h : Held) (gone : Bool) (ts : List Telling) (l : Life) → l.listed ≡ true
    → IsClearedIf b h gone ts → Forgets l h.known.id gone ts
forgets_if true h gone ts l e c =
    let first = keeps_taken_back h.failed h.known.id l c.0 c.2 in
    forgets_after l h.known.id gone c.0 c.1 ts c.4 first
    (keeps_forget (life_after_all c.0 l) h.known.id gone c.1 (first.stays.listed ∙ e) c.3)
forgets_if false h gone ts l e c =
    subst (λ (b : Bool). Forgets l h.known.id b ts) (sym c.0)
    (subst (Forgets l h.known.id false) (sym c.1) (forgets_none l h.known.id))

mild_taken_back : (failed : Bool) (id : ℕ) (ts : List Telling) → IsTakenBack failed id ts → AreMild ts
mild_taken_back true id ts h = mild_as _ ts h.1 (tt, tt)
mild_taken_back false id ts h = mild_as [] ts h tt

mild_if : (b : Bool) (h : Held) (gone : Bool) (ts : List Telling) → IsClearedIf b h gone ts → AreMild ts
mild_if true h gone ts c =
    mild_is c.0 c.1 ts c.4 (mild_taken_back h.failed h.known.id c.0 c.2) (mild_forget h.known.id gone c.1 c.3)
mild_if false h gone ts c = mild_as [] ts c.1 tt

calm_cleared : (instance : List ℕ) (h : Held) (ts : List Telling) → IsAnyClearedOf instance h ts → Calm ts
calm_cleared instance h ts c =
    record {
      careful = λ l e. (forgets_if _ h c.0 ts l e c.1).keeps.careful;
      mild = mild_if _ h c.0 ts c.1;
    }

pub lesser : (id : ℕ) (q : Known → Bool) (xs : List Known) → list_any q xs ≡ false
    → list_any (elsewhere id q) xs ≡ false
lesser id q [] e = refl
lesser id q (x ∷ xs) e =
    both_no _ _ (weaker_no (q x) (is_known id x) (no_l (q x) _ e)) (lesser id q xs (no_r (q x) _ e))

-- after one was cleared
among_next : (gone : Bool) (h : Held) (hs : List Held) (others ks : List Known)
    → AmongBoth (knowns (h ∷ hs)) others ks → (gone ≡ true → list_any (is_known h.known.id) ks ≡ false)
    → AmongBoth (knowns hs) (knowns (with_left gone h []) ++ others) ks
among_next true h hs others ks a n q e f =
    let id = h.known.id in
    let p = elsewhere id q in
    none_elsewhere id q ks
    (a p (both_no _ _ (here id q h.known (eq-eqb id id refl)) (lesser id q (knowns hs) e)) (lesser id q others f)) (n refl)
among_next false h hs others ks a n q e f =
    a q (both_no (q h.known) (list_any q (knowns hs)) (no_l (q h.known) _ f) e) (no_r (q h.known) _ f)

among_back : (gone : Bool) (h : Held) (rest : List Held) (others ks : List Known)
    → AmongBoth (knowns rest) (knowns (with_left gone h []) ++ others) ks
    → AmongBoth (knowns (with_left gone h rest)) others ks
among_back true h rest others ks a q e f = a q e f
among_back false h rest others ks a q e f =
    a q (no_r (q h.known) _ e) (both_no (q h.known) (list_any q others) (no_l (q h.known) _ e) f)

clears : (instance : List ℕ) (hs ks : List Held) (others : List Known) (ts : List Telling) (l : Life) → l.listed ≡ true
    → AmongBoth (knowns hs) others l.unsettled → IsClearing instance hs ks ts → Clears l ts (knowns ks) others
clears instance [] ks others ts l e a c =
    subst (λ (x : List Held). Clears l ts (knowns x) others) (sym c.0)
    (subst (λ (x : List Telling). Clears l x [] others) (sym c.1)
    (record { careful = tt; listed = refl; low = refl; high = refl; among = a }))
clears instance (h ∷ hs) ks others ts l e a c =
    let calls = c.3 in
    let first = forgets_if (held_may_be instance h) h c.0 calls.0 l e calls.2 in
    let m = life_after_all calls.0 l in
    let s = first.keeps.stays in
    let now : AmongBoth (knowns (h ∷ hs)) others m.unsettled = λ q x y. s.less q (a q x y) in
    let rest = clears instance hs c.1 (knowns (with_left c.0 h []) ++ others) calls.1 m (s.listed ∙ e)
    (among_next c.0 h hs others m.unsettled now first.goes) calls.3 in
    let same = after_both calls.0 calls.1 l in
    subst (λ (x : List Held). Clears l ts (knowns x) others) (sym c.2)
    (subst (λ (x : List Telling). Clears l x (knowns (with_left c.0 h c.1)) others) (sym calls.4)
    (record {
      careful = careful_both calls.0 calls.1 l first.keeps.careful rest.careful;
      listed = ap (λ (x : Life). x.listed) same ∙ rest.listed ∙ s.listed;
      low = ap (λ (x : Life). x.low) same ∙ rest.low ∙ s.low;
      high = ap (λ (x : Life). x.high) same ∙ rest.high ∙ s.high;
      among = subst (λ (x : Life). AmongBoth (knowns (with_left c.0 h c.1)) others x.unsettled) (sym same)
          (among_back c.0 h c.1 others (life_after_all calls.1 m).unsettled rest.among);
    }))

pub clearing_leads : (ns : Numbers) (instance : List ℕ) (hs ks : List Held) (ts : List Telling)
    → IsClearing instance hs ks ts → (l : Life) → KnowsBy ns hs l → Leads ns ks l ts
clearing_leads ns instance hs ks ts h l k =
    let c = clears instance hs ks [] ts l k.listed (λ q e f. k.among q e) h in
    record {
      careful = c.careful;
      knows = record {
        listed = c.listed ∙ k.listed;
        left = left_stays ns l (life_after_all ts l) c.low c.high k.left;
        among = λ q e. c.among q e refl;
      };
    }

pub clearing_lost_leads : (ns : Numbers) (instance : List ℕ) (hs ks : List Held) (ts : List Telling)
    → IsClearingLost instance hs ks ts → (l : Life) → KnowsBy ns hs l → Leads ns ks l ts
clearing_lost_leads ns instance hs ks ts h l k =
    let others = h.one ∷ h.rest in
    let all : Among (knowns (h.first ++ others)) l.unsettled =
    subst (λ (x : List Held). Among (knowns x) l.unsettled) h.all k.among in
    let c = clears instance h.first h.kept (knowns others) h.calls.0 l k.listed
    (λ q e f. all q (none_join q h.first others e f)) h.calls.2 in
    let m = life_after_all h.calls.0 l in
    let known : KnowsBy ns (h.kept ++ others) m =
    record {
      listed = c.listed ∙ k.listed;
      left = left_stays ns l m c.low c.high k.left;
      among = λ q e. c.among q (none_front q h.kept others e) (none_back q h.kept others e);
    } in
    let last = calm_leads ns (h.kept ++ others) h.calls.1
    (calm_early (IsAnyClearedOf instance h.one) (calm_cleared instance h.one) h.calls.1 h.calls.3) m known in
    subst (λ (x : List Held). Leads ns x l ts) (sym h.left)
    (leads_both ns (h.kept ++ others) l h.calls.0 h.calls.1 ts h.calls.4 c.careful last)

-- ---- a contract is made

any_known : (instance : List ℕ) (hs : List Held)
    → list_any (held_may_be instance) hs ≡ list_any (may_be instance) (knowns hs)
any_known instance [] = refl
any_known instance (h ∷ hs) = ap (λ (b : Bool). may_be instance h.known || b) (any_known instance hs)

making_leads : (ns : Numbers) (hs : List Held) (note : Note) (given : Given) (failed : Bool) (outcome : Outcome)
    → list_any (held_may_be (string_bytes note.instance)) hs ≡ false → (ts : List Telling)
    → Then (IsGiven ns given) (Only (made given.id note outcome)) ts → (l : Life) → KnowsBy ns hs l
    → Leads given.left (hs ++ held_as given.id note failed ∷ []) l ts
making_leads ns hs note given failed outcome n ts h l k =
    let instance = string_bytes note.instance in
    let g = gives ns given h.0 l k.left h.2 in
    let m = life_after_all h.0 l in
    let one = held_as given.id note failed in
    let start : MayStart instance l =
    record { listed = k.listed; settled = k.among (may_be instance) (sym (any_known instance hs) ∙ n) } in
    leads_both given.left (hs ++ one ∷ []) l h.0 (made given.id note outcome ∷ []) ts (h.4 ∙ ap (λ x. h.0 ++ x) h.3) g.careful
    (record {
      careful = (may_make l m given.id instance g.low g.above g.listed g.unsettled start, tt);
      knows = record {
        listed = g.listed ∙ k.listed;
        left = inr (next_low ns given h.0 h.2, sym g.most);
        among = λ q e.
            none_more q m.unsettled one.known
            (ap (list_any q) g.unsettled ∙ k.among q (none_front q hs (one ∷ []) e))
            (no_l (q one.known) false (none_back q hs (one ∷ []) e));
      };
    })

made_leads : (ns after : Numbers) (hs ks : List Held) (note : Note) (id : ℕ)
    → list_any (held_may_be (string_bytes note.instance)) hs ≡ false → (ts : List Telling)
    → IsMade ns after hs ks note id ts → (l : Life) → KnowsBy ns hs l → Leads after ks l ts
made_leads ns after hs ks note id n ts h l k =
    subst (λ (x : Numbers). Leads x ks l ts) (sym h.left)
    (subst (λ (x : List Held). Leads h.given.left x l ts)
    (sym (h.noted ∙ ap (λ (i : ℕ). hs ++ held_as i note false ∷ []) (sym h.is)))
    (making_leads ns hs note h.given false Done n ts h.calls l k))

-- calls that take numbers
abbrev IsNumberAct : Act → Type 0
IsNumberAct (Reserved low high) = Unit {0}
IsNumberAct _ = ⊥

abbrev IsNumbering : Telling → Type 0
IsNumbering (NextIs n) = Unit {0}
IsNumbering NoAnswer = Unit {0}
IsNumbering (Did d) = IsNumberAct d.act
IsNumbering _ = ⊥

failed_numbering : (t : Telling) → IsNumbering t → IsNumbering (failed t)
failed_numbering (NextIs n) h = tt
failed_numbering (Listed ids) h = tt
failed_numbering (TokenIs id t) h = tt
failed_numbering (Free id f) h = tt
failed_numbering (NoteIs id n) h = tt
failed_numbering (Populated id s) h = tt
failed_numbering (Marked id o f) h = tt
failed_numbering (Locked id d) h = tt
failed_numbering Unlocked h = tt
failed_numbering (HolderIs there) h = tt
failed_numbering (Did d) h = h
failed_numbering NoAnswer h = tt

record Lists (l m : Life) : Type 0 where
  listed : m.listed ≡ l.listed
  unsettled : m.unsettled ≡ l.unsettled

reserve_lists : (low high : ℕ) (o : Outcome) (l : Life) → Lists l (life_after (Did (deed (Reserved low high) o)) l)
reserve_lists low high Done l = record { listed = refl; unsettled = refl }
reserve_lists low high NotDone l = record { listed = refl; unsettled = refl }
reserve_lists low high Unsure l = record { listed = refl; unsettled = refl }

act_lists : (act : Act) (o : Outcome) (l : Life) → IsNumberAct act → Lists l (life_after (Did (deed act o)) l)
act_lists (Reserved low high) o l h = reserve_lists low high o l
act_lists (Made id note) o l h = absurd h
act_lists (Renamed id from to) o l h = absurd h
act_lists (Asked id) o l h = absurd h
act_lists (AskedEnd id signal seconds) o l h = absurd h
act_lists (Killed id found) o l h = absurd h
act_lists (KilledGroup id) o l h = absurd h
act_lists (Unlinked id t) o l h = absurd h
act_lists (Ungrouped id) o l h = absurd h
act_lists (Forgot id) o l h = absurd h

one_lists : (t : Telling) (l : Life) → IsNumbering t → Lists l (life_after t l)
one_lists (NextIs n) l h = record { listed = refl; unsettled = refl }
one_lists (Listed ids) l h = absurd h
one_lists (TokenIs id t) l h = absurd h
one_lists (Free id f) l h = absurd h
one_lists (NoteIs id n) l h = absurd h
one_lists (Populated id s) l h = absurd h
one_lists (Marked id o f) l h = absurd h
one_lists (Locked id d) l h = absurd h
one_lists Unlocked l h = absurd h
one_lists (HolderIs there) l h = absurd h
one_lists (Did d) l h = act_lists d.act d.outcome l h
one_lists NoAnswer l h = record { listed = refl; unsettled = refl }

all_list : (ts : List Telling) (l : Life) → AllOf IsNumbering ts → Lists l (life_after_all ts l)
all_list [] l h = record { listed = refl; unsettled = refl }
all_list (t ∷ ts) l h =
    let a = one_lists t l h.0 in
    let b = all_list ts (life_after t l) h.1 in
    record { listed = b.listed ∙ a.listed; unsettled = b.unsettled ∙ a.unsettled }

given_numbering : (ns : Numbers) (given : Given) (ts : List Telling) → IsGiven ns given ts → AllOf IsNumbering ts
given_numbering ns given ts (inl h) = subst (AllOf IsNumbering) (sym h.asked) tt
given_numbering ns given ts (inr h) = subst (AllOf IsNumbering) (sym h.asked) (tt, (tt, tt))

nothing_both : (us vs : List Telling) → us ++ vs ≡ [] → (us ≡ []) × (vs ≡ [])
nothing_both [] vs e = (refl, e)
nothing_both (u ∷ us) vs e = absurd cc

nothing_by : (ts before rest : List Telling) → before ++ rest ≡ [] → (ts ≡ before) ⊎ FailsNext before rest ts → ts ≡ []
nothing_by ts before rest e (inl f) = f ∙ (nothing_both before rest e).0
nothing_by ts before [] e (inr f) = absurd f
nothing_by ts before (r ∷ rest) e (inr f) = absurd (let n : r ∷ rest ≡ [] = (nothing_both before (r ∷ rest) e).1 in cc)

left_by : (ns : Numbers) (given : Given) (ts before rest : List Telling) → IsGiven ns given (before ++ rest)
    → (ts ≡ before) ⊎ FailsNext before rest ts → (l : Life) → AreLeft ns l → AreLeft ns (life_after_all ts l)
left_by ns given ts before rest (inl h) e l a =
    subst (λ (x : List Telling). AreLeft ns (life_after_all x l)) (sym (nothing_by ts before rest h.asked e)) a
left_by ns given ts before rest (inr h) e l a = inl h.none

number_lost_leads : (ns : Numbers) (hs : List Held) (ts : List Telling) → EndsEarly (IsAnyGiven ns) ts → (l : Life)
    → KnowsBy ns hs l → Leads ns hs l ts
number_lost_leads ns hs ts e l k =
    let w = e.whole in
    let same = all_list ts l
    (all_by IsNumbering failed_numbering ts e.before e.rest (given_numbering ns w.0 (e.before ++ e.rest) w.1) e.ends) in
    record {
      careful = early_careful (IsAnyGiven ns) l (λ us h. (gives ns h.0 us l k.left h.1).careful) ts e;
      knows = record {
        listed = same.listed ∙ k.listed;
        left = left_by ns w.0 ts e.before e.rest w.1 e.ends l k.left;
        among = λ q f. ap (list_any q) same.unsettled ∙ k.among q f;
      };
    }

unmade_leads : (ns after : Numbers) (hs ks : List Held) (note : Note)
    → list_any (held_may_be (string_bytes note.instance)) hs ≡ false → (ts : List Telling)
    → IsUnmade ns after hs ks note ts → (l : Life) → KnowsBy ns hs l → Leads after ks l ts
unmade_leads ns after hs ks note n ts (inl h) l k =
    subst (λ (x : Numbers). Leads x ks l ts) (sym h.left)
    (subst (λ (x : List Held). Leads ns x l ts) (sym h.noted) (number_lost_leads ns hs ts h.calls l k))
unmade_leads ns after hs ks note n ts (inr h) l k =
    subst (λ (x : Numbers). Leads x ks l ts) (sym h.left)
    (subst (λ (x : List Held). Leads h.given.left x l ts) (sym h.noted)
    (making_leads ns hs note h.given true Unsure n ts h.calls l k))

pub lost_leads : (ns after : Numbers) (hs left ks : List Held) (note : Note)
    → list_any (held_may_be (string_bytes note.instance)) left ≡ false → (ts : List Telling)
    → Then (IsClearing (string_bytes note.instance) hs left) (IsUnmade ns after left ks note) ts
    → (l : Life) → KnowsBy ns hs l → Leads after ks l ts
lost_leads ns after hs left ks note n ts h l k =
    let one = clearing_leads ns (string_bytes note.instance) hs left h.0 h.2 l k in
    leads_both after ks l h.0 h.1 ts h.4 one.careful
    (unmade_leads ns after left ks note n h.1 h.3 (life_after_all h.0 l) one.knows)

pub begun_leads : (ns after : Numbers) (hs left ks : List Held) (note : Note) (id : ℕ)
    → list_any (held_may_be (string_bytes note.instance)) left ≡ false → (ts : List Telling)
    → Then (Then (IsClearing (string_bytes note.instance) hs left) (IsMade ns after left ks note id)) (IsTried id) ts
    → (l : Life) → KnowsBy ns hs l → Leads after ks l ts
begun_leads ns after hs left ks note id n ts h l k =
    let c = h.2 in
    let one = clearing_leads ns (string_bytes note.instance) hs left c.0 c.2 l k in
    let two = leads_both after ks l c.0 c.1 h.0 c.4 one.careful
    (made_leads ns after left ks note id n c.1 c.3 (life_after_all c.0 l) one.knows) in
    leads_both after ks l h.0 h.1 ts h.4 two.careful
    (calm_leads after ks h.1 (calm_tried id h.1 h.3) (life_after_all h.0 l) two.knows)

-- ---- it goes on

pub goes : {S : Type 0} {tells : Tells S} {did : Log S} (a b : LiveRoom S) (P : List Telling → Type 0)
    → Heard tells did P a.room b.room
    → ((ts : List Telling) → P ts → (l : Life) → KnowsBy a.numbers a.unsettled.items l
    → Leads b.numbers b.unsettled.items l ts) → GoesOn tells did a b
goes a b P h k l w =
    let all = k h.calls h.holds l w in
    (h.calls, record { calls = h.told; careful = all.careful; knows = all.knows })

same_leads : {S : Type 0} (a b : LiveRoom S) → SameUnsettled a b → (ts : List Telling) → Calm ts → (l : Life)
    → KnowsBy a.numbers a.unsettled.items l → Leads b.numbers b.unsettled.items l ts
same_leads a b s ts c l k =
    subst (λ (x : Numbers). Leads x b.unsettled.items l ts) (sym s.numbers)
    (subst (λ (x : List Held). Leads a.numbers x l ts) (sym s.unsettled)
    (calm_leads a.numbers a.unsettled.items ts c l k))

pub goes_calm : {S : Type 0} {tells : Tells S} {did : Log S} (a b : LiveRoom S) → SameUnsettled a b
    → (P : List Telling → Type 0) → ((ts : List Telling) → P ts → Calm ts) → Heard tells did P a.room b.room
    → GoesOn tells did a b
goes_calm a b s P k h = goes a b P h (λ ts p. same_leads a b s ts (k ts p))

pub goes_early : {S : Type 0} {tells : Tells S} {did : Log S} (a b : LiveRoom S) → SameUnsettled a b
    → (P : List Telling → Type 0) → ((ts : List Telling) → P ts → Calm ts)
    → Heard tells did (EndsEarly P) a.room b.room → GoesOn tells did a b
goes_early a b s P k h = goes_calm a b s (EndsEarly P) (calm_early P k) h

pub goes_failed : {S : Type 0} {tells : Tells S} {did : Log S} (a b : LiveRoom S) → SameUnsettled a b
    → (P : List Telling → Type 0) → ((ts : List Telling) → P ts → Calm ts)
    → Heard tells did (Fails P) a.room b.room → GoesOn tells did a b
goes_failed a b s P k h = goes_calm a b s (Fails P) (calm_fails P k) h

-- whatever came of it
pub goes_either : {S T E : Type 0} {tells : Tells S} {did : Log S} (a b : LiveRoom S) → SameUnsettled a b
    → (P : T → List Telling → Type 0) (Q : List Telling → Type 0)
    → ((x : T) (ts : List Telling) → P x ts → Calm ts) → ((ts : List Telling) → Q ts → Calm ts) → (r : Result T E)
    → IfOk r (λ x. Heard tells did (P x) a.room b.room) → OnErr r (Heard tells did Q a.room b.room)
    → GoesOn tells did a b
goes_either a b s P Q k j (Ok x) h e = goes_calm a b s (P x) (k x) h
goes_either a b s P Q k j (Err x) h e = goes_calm a b s Q j e

dropped_goes : {S : Type 0} {tells : Tells S} {did : Log S} (a b : LiveRoom S) (hs : List Held)
    (P : List Telling → Type 0) → b.numbers ≡ a.numbers → b.unsettled.items ≡ hs → Heard tells did P a.room b.room
    → ((ts : List Telling) → P ts → (l : Life) → KnowsBy a.numbers a.unsettled.items l → Leads a.numbers hs l ts)
    → GoesOn tells did a b
dropped_goes a b hs P n u h k =
    goes a b P h
    (λ ts p l w.
    subst (λ (x : Numbers). Leads x b.unsettled.items l ts) (sym n)
    (subst (λ (x : List Held). Leads a.numbers x l ts) (sym u) (k ts p l w)))

pub forget_goes : {S : Type 0} {tells : Tells S} {did : Log S} (a b : LiveRoom S) (id : ℕ) (gone : Bool)
    → b.numbers ≡ a.numbers → b.unsettled.items ≡ held_left gone id a.unsettled.items
    → Heard tells did (IsForget id gone) a.room b.room → GoesOn tells did a b
forget_goes a b id gone n u h =
    dropped_goes a b (held_left gone id a.unsettled.items) (IsForget id gone) n u h
    (forget_leads a.numbers a.unsettled.items id gone)

pub clean_goes : {S : Type 0} {tells : Tells S} {did : Log S} (a b : LiveRoom S) (id : ℕ) (stand : Stand)
    → b.numbers ≡ a.numbers → b.unsettled.items ≡ held_left (is_gone stand) id a.unsettled.items
    → Heard tells did (IsClean id stand) a.room b.room → GoesOn tells did a b
clean_goes a b id stand n u h =
    dropped_goes a b (held_left (is_gone stand) id a.unsettled.items) (IsClean id stand) n u h
    (clean_leads a.numbers a.unsettled.items id stand)
