-- A refresh, and the value that it leaves.
use Rattle.std.proofs.Common.{◌≡◌, ◌⊎◌, inl, inr, ℕ, ◌+◌, ◌&&◌, ◌||◌, not, nat_lt, nat_eq, Bool, true, false, if◌then◌else◌, is_none, List, [], ◌∷◌, Option, Some, None, refl, sym, ap, ◌∙◌, subst}
use Rattle.std.specs.Cmp.Lexicographic.{pointwise}
use Rattle.smf_fmri.specs.ByKey.{lookup}
use Rattle.smf_fmri.proofs.Patterns.{same_text}
use Rattle.smf_state.specs.declared.row.Row.{Row}
use Rattle.smf_state.specs.declared.state.State.{State}
use Rattle.smf_state.specs.declared.state.State.TheVariants.{Uninitialized, Disabled, Offline, Online, Degraded, Maintenance}
use Rattle.smf_state.specs.Rows.{greatest_number, same_state}
use Rattle.smf_state.specs.States.{runs}
use Rattle.smf_model.specs.declared.change.Change.TheVariants.{AddSnapshot, NextSnapshot, PutInstance}
use Rattle.smf_model.specs.declared.command.CommandReply.{CommandReply}
use Rattle.smf_model.specs.declared.command.CommandReply.TheVariants.{Done, InUse, Limit}
use Rattle.smf_model.specs.declared.held.Instance.{Instance}
use Rattle.smf_model.specs.declared.general_group.Setting.{Setting}
use Rattle.smf_model.specs.declared.general_group.Setting.TheVariants.{Unset, Restarter, Unreadable}
use Rattle.smf_model.specs.Contents.{Holdings}
use Rattle.smf_model.specs.Laws.{IsNumbered}
use Rattle.smf_model.specs.Look.{by_instance, holdings_after_change, groups_of, holdings_after_changes, instance, instances, put_over}
use Rattle.smf_model.specs.Next.{outcome_of_command, asked_edit, asked_refresh, may_be_moved, outcome_of_move, moved_instance, next, outcome_of_refresh, refusal_with, refreshed_instance, refreshed_row, snapshot_of, target_by, with_snapshot, with_owners}
use Rattle.smf_model.specs.GeneralGroup.{is_readable, owner_by, setting}
use Rattle.smf_model.proofs.Entries.{bare_instance}
use Rattle.smf_laws.specs.Effects.{instance_as_read}
use Rattle.smf_laws.specs.Anew.{IsAfterRefresh, IsIdle, IsMoved, IsRefreshed, IsToMove, refresh_command}
use Rattle.smf_laws.proofs.Outcomes.{Gives, Held, either, held_of, no_both, one_of, owned_put, put_apart, put_there, refuses, snaps, with_one}

-- ---- the target

-- the restarter that it moves to is another that can be read
pub data Target (s : Setting) (owner : List ℕ) (o : Option (List ℕ)) : Type 0 where
  stays_there : o ≡ None → (is_readable s ≡ true → (owner_by s ≡ owner → ⊥) → ⊥) → Target s owner o
  goes_there : o ≡ Some (owner_by s) → is_readable s ≡ true → (owner_by s ≡ owner → ⊥) → Target s owner o

target_at : (s : Setting) (owner : List ℕ) → is_readable s ≡ true → (b : Bool)
    → pointwise nat_eq (owner_by s) owner ≡ b → Target s owner (if b then None else Some (owner_by s))
target_at s owner e true f = stays_there refl (λ r apart. apart ((same_text (owner_by s) owner).0 f))
target_at s owner e false f =
    goes_there refl e (λ same. no_both (pointwise nat_eq (owner_by s) owner) ((same_text (owner_by s) owner).1 same) f)

pub target : (s : Setting) (owner : List ℕ) → Target s owner (target_by s owner)
target Unreadable owner = stays_there refl (λ e apart. no_both false e refl)
target Unset owner = target_at Unset owner refl (pointwise nat_eq (owner_by Unset) owner) refl
target (Restarter name) owner =
    target_at (Restarter name) owner refl (pointwise nat_eq (owner_by (Restarter name)) owner) refl

-- ---- the row is idle

four : (w a b d : Bool) → (w && a && b && d) ≡ true → (w ≡ true) × (a ≡ true) × (b ≡ true) × (d ≡ true)
four false a b d e = absurd cc
four true false b d e = absurd cc
four true true false d e = absurd cc
four true true true false e = absurd cc
four true true true true e = (refl, refl, refl, refl)

none_there : {X : Type 0} (o : Option X) → is_none o ≡ true → o ≡ None
none_there None e = refl
none_there (Some x) e = absurd cc

at_rest : (s : State) → (same_state s Uninitialized || same_state s Disabled) ≡ true
    → (s ≡ Uninitialized) ⊎ (s ≡ Disabled)
at_rest Uninitialized e = inl refl
at_rest Disabled e = inr refl
at_rest Offline e = absurd cc
at_rest Online e = absurd cc
at_rest Degraded e = absurd cc
at_rest Maintenance e = absurd cc

pub idle : (r : Row) → may_be_moved r ≡ true → IsIdle r
idle r e =
    let parts = four (same_state r.state Uninitialized || same_state r.state Disabled) (is_none r.next)
    (is_none r.live) (is_none r.side) e in
    record {
      state = at_rest r.state parts.0;
      next = none_there r.next parts.1;
      live = none_there r.live parts.2;
      side = none_there r.side parts.3;
    }

may_by : (s : State) (next : Option State) (live side : Option ℕ) → (s ≡ Uninitialized) ⊎ (s ≡ Disabled) → next ≡ None
    → live ≡ None → side ≡ None
    → ((same_state s Uninitialized || same_state s Disabled) && is_none next && is_none live && is_none side) ≡ true
may_by s next live side (inl e) f g k = rw (e, f, g, k) refl
may_by s next live side (inr e) f g k = rw (e, f, g, k) refl

pub may_move : (r : Row) → IsIdle r → may_be_moved r ≡ true
may_move r i = may_by r.state r.next r.live r.side i.state i.next i.live i.side

-- ---- one instance is put, and a snapshot taken

abbrev put_one : Holdings → Instance → Instance → Holdings
put_one h i x =
    record (holdings_after_change
    (holdings_after_change (holdings_after_change h (AddSnapshot (snapshot_of h i)))
    (NextSnapshot (h.next_snapshot + 1))) (PutInstance x)) { revision = h.revision + 1 }

after_by : (h : Holdings) (n : ℕ) (i x : Instance) → IsNumbered h → Held h n i → x.number ≡ i.number
    → (IsToMove i h → IsMoved i h x) → ((IsToMove i h → ⊥) → IsRefreshed i h x) → IsAfterRefresh i h (put_one h i x)
after_by h n i x numbered it at moves stays =
    let held : instance h i.number ≡ Some it.before = ap (instance h) it.number ∙ it.is_there in
    let over : instances (put_one h i x) ≡ put_over x (instances h) = bare_instance x h.instances in
    record {
      after = x;
      is_there = ap (λ (is : List Instance). lookup by_instance is i.number) over
          ∙ put_there x it.before i.number (instances h) at held;
      moves = moves;
      stays = stays;
      snapped = snaps h i (put_one h i x) numbered refl refl;
      others = λ m apart. ap (λ (is : List Instance). lookup by_instance is m) over
          ∙ put_apart x m (instances h) (λ same. apart (same ∙ at));
      groups = λ owner. owned_put h x owner;
      names = refl;
      launches = refl;
      next_instance = refl;
      revision = refl;
    }

abbrev After : Holdings → Instance → Holdings → Type 0
After h i k = IsAfterRefresh i h k

is_refreshed : (h : Holdings) (i : Instance) (b : Bool) → runs i.row.state ≡ b
    → IsRefreshed i h (record i { row = refreshed_row i.row h.next_snapshot (h.revision + 1) b })
is_refreshed h i true e =
    record {
      running = refl;
      runs_on = λ f. (refl, refl);
      idles_on = λ f. absurd (no_both (runs i.row.state) e f);
      rest = refl;
    }
is_refreshed h i false e =
    record {
      running = refl;
      runs_on = λ f. absurd (no_both (runs i.row.state) f e);
      idles_on = λ f. (refl, refl);
      rest = refl;
    }

is_moved : (h : Holdings) (i : Instance) → IsIdle i.row
    → IsMoved i h (moved_instance h i (owner_by (setting (groups_of h) i)))
is_moved h i rests = record {
  was_idle = rests;
  anew = record {
    anew = record {
      number = refl;
      state = refl;
      next = rests.next;
      live = rests.live;
      side = rests.side;
      last = refl;
      launch = refl;
      serial = refl;
    };
    asks = refl;
    failed = refl;
  };
  owner = refl;
  cause = refl;
  running = refl;
  rest = refl;
}

moves_to : (h : Holdings) (n : ℕ) (i : Instance) → IsNumbered h → Held h n i → IsToMove i h
    → Gives h Done (After h i) (outcome_of_move h i (owner_by (setting (groups_of h) i)))
unfolding holdings_after_changes
moves_to h n i numbered it goes = by (may_be_moved i.row) refl
  where
    by : (b : Bool) → may_be_moved i.row ≡ b
        → Gives h Done (After h i)
        (if not b then refusal_with InUse else if not (nat_lt i.row.number greatest_number)
        then refusal_with Limit else with_snapshot h i
        (PutInstance (moved_instance h i (owner_by (setting (groups_of h) i))) ∷ []) Done)
    by false e = refuses h Done (After h i) InUse refl refl
    by true e =
        either h Done (After h i) (not (nat_lt i.row.number greatest_number)) _ _
        (λ f. refuses h Done (After h i) Limit refl refl)
        (λ f. with_one h Done (After h i) i
        (PutInstance (moved_instance h i (owner_by (setting (groups_of h) i))) ∷ []) Done refl
        (λ same. after_by h n i (moved_instance h i (owner_by (setting (groups_of h) i))) numbered it refl
        (λ g. is_moved h i (idle i.row e)) (λ g. absurd (g goes))))

stays_at : (h : Holdings) (n : ℕ) (i : Instance) → IsNumbered h → Held h n i → (IsToMove i h → ⊥)
    → Gives h Done (After h i) (outcome_of_refresh h i None)
unfolding holdings_after_changes
stays_at h n i numbered it stays =
    with_one h Done (After h i) i (PutInstance (refreshed_instance h i) ∷ []) Done refl
    (λ same. after_by h n i (refreshed_instance h i) numbered it refl (λ g. absurd (stays g))
    (λ g. is_refreshed h i (runs i.row.state) refl))

refreshes : (h : Holdings) (n : ℕ) (i : Instance) → IsNumbered h → Held h n i → (o : Option (List ℕ))
    → Target (setting (groups_of h) i) i.row.owner o → Gives h Done (After h i) (outcome_of_refresh h i o)
refreshes h n i numbered it o (stays_there e f) =
    subst (λ (p : Option (List ℕ)). Gives h Done (After h i) (outcome_of_refresh h i p)) (sym e)
    (stays_at h n i numbered it (λ g. f g.readable g.other))
refreshes h n i numbered it o (goes_there e f g) =
    subst (λ (p : Option (List ℕ)). Gives h Done (After h i) (outcome_of_refresh h i p)) (sym e)
    (moves_to h n i numbered it (record { readable = f; other = g }))

pub after_refresh : (h : Holdings) (n : ℕ) (i : Instance) → IsNumbered h → instance_as_read h n ≡ Some i
    → (next h (refresh_command n)).1 ≡ Done → IsAfterRefresh i h (next h (refresh_command n)).0
unfolding next outcome_of_command asked_edit with_owners
after_refresh h n i numbered e =
    subst (λ (o : Option Instance). Gives h Done (After h i) (asked_refresh h o)) (sym e)
    (refreshes h n i numbered (held_of h n i e) (target_by (setting (groups_of h) i) i.row.owner)
    (target (setting (groups_of h) i) i.row.owner))

-- ---- a move of what is not idle

in_use : (h : Holdings) (i : Instance) (owner : List ℕ) → (IsIdle i.row → ⊥) → (outcome_of_move h i owner).reply ≡ InUse
in_use h i owner busy =
    one_of (λ (r : CommandReply). r ≡ InUse) (not (may_be_moved i.row)) _ _ (λ e. refl)
    (λ e. absurd (busy (idle i.row (not_false (may_be_moved i.row) e))))
  where
    not_false : (b : Bool) → not b ≡ false → b ≡ true
    not_false true e = refl
    not_false false e = absurd cc

uses : (h : Holdings) (i : Instance) (o : Option (List ℕ)) → Target (setting (groups_of h) i) i.row.owner o
    → IsToMove i h → (IsIdle i.row → ⊥) → (outcome_of_refresh h i o).reply ≡ InUse
uses h i o (stays_there e f) goes busy = absurd (f goes.readable goes.other)
uses h i o (goes_there e f g) goes busy =
    subst (λ (p : Option (List ℕ)). (outcome_of_refresh h i p).reply ≡ InUse) (sym e)
    (in_use h i (owner_by (setting (groups_of h) i)) busy)

pub not_moved : (h : Holdings) (n : ℕ) (i : Instance) → instance_as_read h n ≡ Some i → IsToMove i h
    → (IsIdle i.row → ⊥) → (next h (refresh_command n)).1 ≡ InUse
unfolding next outcome_of_command asked_edit with_owners
not_moved h n i e goes busy =
    subst (λ (o : Option Instance). (asked_refresh h o).reply ≡ InUse) (sym e)
    (uses h i (target_by (setting (groups_of h) i) i.row.owner)
    (target (setting (groups_of h) i) i.row.owner) goes busy)
