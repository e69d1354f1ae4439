-- What was asked to end what is left of a contract, and to forget it.
use Rattle.std.proofs.Common.{◌≡◌, inl, inr, ℕ, ◌+◌, suc, Bool, true, false, List, [], ◌∷◌, ◌++◌, Option, Some, None, refl, sym, ◌∙◌, ap, subst, append-nil, add-one, length, ◌==◌}
use Rattle.smf_room.specs.declared.process.Process.{Process}
use Rattle.smf_room.specs.declared.sight.Sight.{Sight}
use Rattle.smf_room.specs.declared.sight.Sight.TheVariants.{Unseen, Once, Nothing}
use Rattle.smf_room.specs.declared.sweep.Swept.{Swept}
use Rattle.smf_room.specs.declared.sweep.Swept.TheVariants.{Clean, Busy, Stays}
use Rattle.smf_room.specs.declared.token.Token.{Token}
use Rattle.smf_room.specs.declared.token.Token.TheVariants.{Go}
use Rattle.smf_room.specs.Lives.{is_settled, numbers_of, over_of, sight_of}
use Rattle.smf_room.specs.Sweeps.{IsAnyEnding, IsAnyForget, IsAnyMarkRound, IsAnyRemoval, IsAnyRound, IsAnySweep, IsAnySwept, IsEnding, IsForget, IsKill, IsMarkRound, IsRemoval, IsRound, IsRounds, IsSweep, IsSwept, IsUnlink, begun_token, is_nothing, killed, one_more, swept_of}
use Rattle.smf_room.specs.Tellings.{Did, Done, Forgot, Killed, KilledGroup, Locked, Marked, NotDone, Only, Populated, Renamed, Telling, Then, TokenIs, Ungrouped, Unlinked, Unlocked, deed, outcome_of}
use Rattle.smf_room.proofs.Looking.{two}

pub whole : (P : List Telling → Type 0) (ts : List Telling) → P ts → (more : List Telling) × P (ts ++ more)
whole P ts p = ([], subst P (sym (append-nil ts)) p)

-- ---- kills

pub kills : (id : ℕ) (ns : List ℕ) → (ns ≡ [] → ⊥) → (ts : List Telling) → Only (Did (deed (Killed id ns) Done)) ts
    → IsKill id ns ts
kills id [] n ts h = absurd (n refl)
kills id (x ∷ xs) n ts h = h

pub could_kill : (id : ℕ) (ns : List ℕ) → (ns ≡ [] → ⊥) → (ts : List Telling)
    → Only (Did (deed (Killed id ns) Done)) ts → (more : List Telling) × IsKill id ns (ts ++ more)
could_kill id ns n ts h = whole (IsKill id ns) ts (kills id ns n ts h)

-- ---- rounds by marks

pub mark_round : (id : ℕ) (s next : Sight) (own : Bool) (found : List Process) (ns : List ℕ) → ns ≡ numbers_of found
    → next ≡ sight_of own ns s → (ts : List Telling) → Then (Only (Marked id own found)) (IsKill id ns) ts
    → IsMarkRound id s next ts
mark_round id s next own found ns e n ts h =
    record {
      own = own;
      found = found;
      shows = n ∙ ap (λ x. sight_of own x s) e;
      asked = h.4 ∙ ap (λ x. x ++ h.1) h.2 ∙ ap (λ x. Marked id own found ∷ x) (h.3 ∙ ap (killed id) e);
    }

pub could_mark : (id : ℕ) (s : Sight) (own : Bool) (found : List Process) (ts : List Telling)
    → Only (Marked id own found) ts → (more : List Telling) × IsAnyMarkRound id s (ts ++ more)
could_mark id s own found ts h = (
  killed id (numbers_of found),
  (
    sight_of own (numbers_of found) s,
    mark_round id s (sight_of own (numbers_of found) s) own found (numbers_of found) refl refl
        (ts ++ killed id (numbers_of found)) (ts, killed id (numbers_of found), h, refl, refl),
  ),
)

pub could_kill_marked : (id : ℕ) (s : Sight) (own : Bool) (found : List Process) (ns : List ℕ) → ns ≡ numbers_of found
    → (ts : List Telling) → Then (Only (Marked id own found)) (IsKill id ns) ts
    → (more : List Telling) × IsAnyMarkRound id s (ts ++ more)
could_kill_marked id s own found ns e ts h =
    whole (IsAnyMarkRound id s) ts (sight_of own ns s, mark_round id s (sight_of own ns s) own found ns e refl ts h)

-- ---- rounds

pub empty_group : (id : ℕ) (s : Sight) (ts : List Telling) → Only (Populated id (Some false)) ts → IsRound id s Nothing ts
empty_group id s ts h = inl (refl, h)

pub full_group : (id : ℕ) (s : Sight) (ts : List Telling)
    → Then (Only (Populated id (Some true))) (Only (Did (deed (KilledGroup id) Done))) ts → IsRound id s Unseen ts
full_group id s ts h = inr (inl (refl, two _ _ ts h))

pub no_group : (id : ℕ) (s next : Sight) (ts : List Telling)
    → Then (Only (Populated id None)) (IsMarkRound id s next) ts → IsRound id s next ts
no_group id s next ts h = inr (inr h)

pub could_ask : (id : ℕ) (s : Sight) (ts : List Telling) → Only (Populated id (Some false)) ts
    → (more : List Telling) × IsAnyRound id s (ts ++ more)
could_ask id s ts h = whole (IsAnyRound id s) ts (Nothing, empty_group id s ts h)

pub could_kill_group : (id : ℕ) (s : Sight) (ts : List Telling)
    → Then (Only (Populated id (Some true))) (Only (Did (deed (KilledGroup id) Done))) ts
    → (more : List Telling) × IsAnyRound id s (ts ++ more)
could_kill_group id s ts h = whole (IsAnyRound id s) ts (Unseen, full_group id s ts h)

pub could_mark_round : (id : ℕ) (s : Sight) (ts : List Telling)
    → Then (Only (Populated id None)) (IsAnyMarkRound id s) ts → (more : List Telling) × IsAnyRound id s (ts ++ more)
could_mark_round id s ts h =
    whole (IsAnyRound id s) ts (h.3.0, no_group id s h.3.0 ts (h.0, h.1, h.2, h.3.1, h.4))

-- ---- the loop

pub next_round : (id n : ℕ) (s next : Sight) → is_nothing s ≡ false → (ts : List Telling)
    → Then (IsRounds id n s) (IsRound id s next) ts → IsRounds id (n + 1) next ts
next_round id n s next e ts h =
    subst (λ (m : ℕ). IsRounds id m next ts) (sym (add-one n)) (one_more n s next h.0 h.1 ts e h.2 h.3 h.4)

nothing_is : (s : Sight) → is_nothing s ≡ true → s ≡ Nothing
nothing_is Unseen e = absurd cc
nothing_is Once e = absurd cc
nothing_is Nothing e = refl

pub last_round : (id n : ℕ) (s next : Sight) → is_nothing s ≡ false → is_nothing next ≡ true → (ts : List Telling)
    → Then (IsRounds id n s) (IsRound id s next) ts → IsEnding id true ts
last_round id n s next e f ts h = (
  suc n,
  subst (λ (x : Sight). IsRounds id (suc n) x ts) (nothing_is next f)
      (one_more n s next h.0 h.1 ts e h.2 h.3 h.4),
)

could_go_on : (id n : ℕ) (next : Sight) (b : Bool) (ts : List Telling) → is_nothing next ≡ b → IsRounds id (suc n) next ts
    → (more : List Telling) × IsAnyEnding id (ts ++ more)
could_go_on id n next true ts e h =
    whole (IsAnyEnding id) ts (true, (suc n, subst (λ (x : Sight). IsRounds id (suc n) x ts) (nothing_is next e) h))
could_go_on id n next false ts e h = (
  Populated id (Some false) ∷ [],
  (
    true,
    (
      suc (suc n),
      one_more (suc n) next Nothing ts (Populated id (Some false) ∷ []) (ts ++ Populated id (Some false) ∷ []) e h
          (inl (refl, refl)) refl,
    ),
  ),
)

pub could_end : (id n : ℕ) (s : Sight) → is_nothing s ≡ false → (ts : List Telling)
    → Then (IsRounds id n s) (IsAnyRound id s) ts → (more : List Telling) × IsAnyEnding id (ts ++ more)
could_end id n s e ts h =
    could_go_on id n h.3.0 _ ts refl (one_more n s h.3.0 h.0 h.1 ts e h.2 h.3.1 h.4)

-- ---- a sweep

pub has_other : (id : ℕ) (t : Option Token) → begun_token t ≡ None → (ts : List Telling) → Only (TokenIs id t) ts
    → IsSwept id Busy ts
has_other id t n ts h = inl (record { token = t; other = n; busy = refl; asked = h })

pub has_left : (id : ℕ) (t : Option Token) (begun : Token) → begun_token t ≡ Some begun → (ts : List Telling)
    → Then (Only (TokenIs id t)) (IsEnding id false) ts → IsSwept id Stays ts
has_left id t begun e ts h = inr (inl (record { token = t; begun = begun; is = e; stays = refl; asked = h }))

pub has_ended : (id : ℕ) (t : Option Token) (begun : Token) (done : Bool) (swept : Swept) → begun_token t ≡ Some begun
    → swept ≡ swept_of done → (ts : List Telling)
    → Then (Then (Only (TokenIs id t)) (IsEnding id true))
    (Only (Did (deed (Renamed id begun (over_of begun)) (outcome_of done)))) ts → IsSwept id swept ts
has_ended id t begun done swept e s ts h =
    inr (inr (record { token = t; begun = begun; is = e; done = done; clean = s; asked = h }))

pub could_see_token : (id : ℕ) (ts : List Telling) → Only (TokenIs id None) ts
    → (more : List Telling) × IsAnySwept id (ts ++ more)
could_see_token id ts h = whole (IsAnySwept id) ts (Busy, has_other id None refl ts h)

could_rename : (id : ℕ) (t : Option Token) (begun : Token) → begun_token t ≡ Some begun → (clear : Bool)
    → (us vs ts : List Telling) → Only (TokenIs id t) us → IsEnding id clear vs → ts ≡ us ++ vs
    → (more : List Telling) × IsAnySwept id (ts ++ more)
could_rename id t begun e true us vs ts h k s =
    let last = Did (deed (Renamed id begun (over_of begun)) Done) ∷ [] in
    (last, (Clean, has_ended id t begun true Clean e refl (ts ++ last) (ts, last, (us, vs, h, k, s), refl, refl)))
could_rename id t begun e false us vs ts h k s =
    whole (IsAnySwept id) ts (Stays, has_left id t begun e ts (us, vs, h, k, s))

pub could_end_left : (id : ℕ) (t : Option Token) (begun : Token) → begun_token t ≡ Some begun → (ts : List Telling)
    → Then (Only (TokenIs id t)) (IsAnyEnding id) ts → (more : List Telling) × IsAnySwept id (ts ++ more)
could_end_left id t begun e ts h = could_rename id t begun e h.3.0 h.0 h.1 ts h.2 h.3.1 h.4

pub could_be_renamed : (id : ℕ) (t : Option Token) (begun : Token) → begun_token t ≡ Some begun → (ts : List Telling)
    → Then (Then (Only (TokenIs id t)) (IsEnding id true))
    (Only (Did (deed (Renamed id begun (over_of begun)) Done))) ts → (more : List Telling) × IsAnySwept id (ts ++ more)
could_be_renamed id t begun e ts h = whole (IsAnySwept id) ts (Clean, has_ended id t begun true Clean e refl ts h)

pub ending_as : (id : ℕ) (a b : Bool) → a ≡ b → (ts : List Telling) → IsEnding id a ts → IsEnding id b ts
ending_as id a b e ts h = subst (λ (x : Bool). IsEnding id x ts) e h

pub refused : (id : ℕ) (ts : List Telling) → Only (Locked id false) ts → IsSweep id Busy ts
refused id ts h = inl (refl, h)

pub could_lock : (id : ℕ) (ts : List Telling) → Only (Locked id false) ts
    → (more : List Telling) × IsAnySweep id (ts ++ more)
could_lock id ts h = whole (IsAnySweep id) ts (Busy, refused id ts h)

pub swept : (id : ℕ) (swept : Swept) (ts : List Telling)
    → Then (Then (Only (Locked id true)) (IsSwept id swept)) (Only Unlocked) ts → IsSweep id swept ts
swept id s ts h = inr h

pub could_sweep : (id : ℕ) (ts : List Telling) → Then (Only (Locked id true)) (IsAnySwept id) ts
    → (more : List Telling) × IsAnySweep id (ts ++ more)
could_sweep id ts h = (
  Unlocked ∷ [],
  (
    h.3.0,
    swept id h.3.0 (ts ++ Unlocked ∷ [])
        (ts, Unlocked ∷ [], (h.0, h.1, h.2, h.3.1, h.4), refl, refl),
  ),
)

-- ---- a contract is forgotten

pub removed : (id : ℕ) (gone : Bool) → gone ≡ true → (ts : List Telling)
    → Then (Only (Did (deed (Ungrouped id) (outcome_of gone)))) (Only (Did (deed (Forgot id) Done))) ts
    → IsRemoval id gone ts
removed id true e ts h = two _ _ ts h
removed id false e ts h = absurd cc

pub not_removed : (id : ℕ) (gone : Bool) → gone ≡ false → (ts : List Telling)
    → Only (Did (deed (Ungrouped id) (outcome_of gone))) ts → IsRemoval id gone ts
not_removed id true e ts h = absurd cc
not_removed id false e ts h = h

pub could_ungroup : (id : ℕ) (ts : List Telling) → Only (Did (deed (Ungrouped id) NotDone)) ts
    → (more : List Telling) × IsAnyRemoval id (ts ++ more)
could_ungroup id ts h = whole (IsAnyRemoval id) ts (false, h)

pub could_remove : (id : ℕ) (gone : Bool) → gone ≡ true → (ts : List Telling)
    → Then (Only (Did (deed (Ungrouped id) (outcome_of gone)))) (Only (Did (deed (Forgot id) Done))) ts
    → (more : List Telling) × IsAnyRemoval id (ts ++ more)
could_remove id gone e ts h = whole (IsAnyRemoval id) ts (gone, removed id gone e ts h)

pub unlinks : (id : ℕ) (o : Option Token) (t : Token) → o ≡ Some t → (ts : List Telling)
    → Only (Did (deed (Unlinked id t) Done)) ts → IsUnlink id o ts
unlinks id o t e ts h = subst (λ (x : Option Token). IsUnlink id x ts) (sym e) h

pub could_unlink : (id : ℕ) (o : Option Token) (t : Token) → o ≡ Some t → (ts : List Telling)
    → Only (Did (deed (Unlinked id t) Done)) ts → (more : List Telling) × IsUnlink id o (ts ++ more)
could_unlink id o t e ts h = whole (IsUnlink id o) ts (unlinks id o t e ts h)

pub unforgotten : (id : ℕ) (t : Option Token) → is_settled t ≡ false → (ts : List Telling) → Only (TokenIs id t) ts
    → IsForget id false ts
unforgotten id t e ts h = inl (record { token = t; unsettled = e; stays = refl; asked = h })

pub forgotten : (id : ℕ) (t : Option Token) (gone : Bool) → is_settled t ≡ true → (ts : List Telling)
    → Then (Then (Only (TokenIs id t)) (IsUnlink id t)) (IsRemoval id gone) ts → IsForget id gone ts
forgotten id t gone e ts h = inr (record { token = t; settled = e; asked = h })

pub could_read : (id : ℕ) (ts : List Telling) → Only (TokenIs id (Some Go)) ts
    → (more : List Telling) × IsAnyForget id (ts ++ more)
could_read id ts h = whole (IsAnyForget id) ts (false, unforgotten id (Some Go) refl ts h)

pub could_unlink_token : (id : ℕ) (t : Option Token) → is_settled t ≡ true → (ts : List Telling)
    → Then (Only (TokenIs id t)) (IsUnlink id t) ts → (more : List Telling) × IsAnyForget id (ts ++ more)
could_unlink_token id t e ts h =
    let last = Did (deed (Ungrouped id) NotDone) ∷ [] in
    (last, (false, forgotten id t false e (ts ++ last) (ts, last, h, refl, refl)))

pub could_remove_folder : (id : ℕ) (t : Option Token) → is_settled t ≡ true → (ts : List Telling)
    → Then (Then (Only (TokenIs id t)) (IsUnlink id t)) (IsAnyRemoval id) ts
    → (more : List Telling) × IsAnyForget id (ts ++ more)
could_remove_folder id t e ts h =
    whole (IsAnyForget id) ts (h.3.0, forgotten id t h.3.0 e ts (h.0, h.1, h.2, h.3.1, h.4))

pub not_nil : (ns : List ℕ) (b : Bool) → b ≡ (length ns == 0) → b ≡ false → ns ≡ [] → ⊥
not_nil [] b e f n = absurd (let t : b ≡ true = e in cc)
not_nil (x ∷ xs) b e f n = absurd cc
