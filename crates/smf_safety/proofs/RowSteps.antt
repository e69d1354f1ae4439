-- The row after a step that fits: its shape, its runs, and the fields that stay.
use Rattle.std.proofs.Common.{◌≡◌, ℕ, ◌+◌, ◌≤◌, ◌==◌, ◌&&◌, not, is_none, is_some, Bool, true, false, if◌then◌else◌, Option, Some, None, refl, sym, ap, ◌∙◌, arith, eqb-true}
use Rattle.smf_state.specs.Rows.{is_allowed, is_exhausted, is_next_run, is_steady, is_stopped, run_if_kept, last_with, may_end, may_move, may_count, not_live, refusal, run_of, same_state, row_after_step, still_live}
use Rattle.smf_state.specs.States.{runs}
use Rattle.smf_state.specs.declared.fault.StepFault.TheVariants.{Exhausted, StillLive, NotLive, NoEdge}
use Rattle.smf_state.specs.declared.row.Row.{Row}
use Rattle.smf_state.specs.declared.state.State.{State}
use Rattle.smf_state.specs.declared.state.State.TheVariants.{Offline, Online}
use Rattle.smf_state.specs.declared.step.Step.{Step}
use Rattle.smf_state.specs.declared.step.Step.TheVariants.{Move, Start, Stop, Refresh, End, Note}
use Rattle.smf_model.specs.Next.{is_other_snapshot, is_running}
use Rattle.smf_world.proofs.RowClauses.{HasRuns, IsLeft, IsShaped, fits, may_be_next}

-- ---- tests

no_fault : (a b d e : Bool)
    → is_none (if a then Some Exhausted else if b then Some StillLive else if d then Some NotLive else if e then None
    else Some NoEdge) ≡ true → (b ≡ false) × (d ≡ false) × (e ≡ true)
no_fault true b d e f = absurd cc
no_fault false true d e f = absurd cc
no_fault false false true e f = absurd cc
no_fault false false false true f = (refl, refl, refl)
no_fault false false false false f = absurd cc

both : (a b : Bool) → (a && b) ≡ true → (a ≡ true) × (b ≡ true)
both true true e = (refl, refl)
both true false e = absurd cc
both false b e = absurd cc

not_true : (b : Bool) → not b ≡ true → b ≡ false
not_true false e = refl
not_true true e = absurd cc

-- the tests that a fitting step has passed
pub record IsTested (r : Row) (s : Step) : Type 0 where
  pub live : still_live r s ≡ false
  pub ending : not_live r s ≡ false
  pub form : is_allowed r s ≡ true
  pub snapshot : is_other_snapshot r s ≡ false

pub is_tested : (r : Row) (s : Step) → fits r s ≡ true → IsTested r s
is_tested r s e =
    let parts = both (is_none (refusal r s)) (not (is_other_snapshot r s)) e in
    let t = no_fault (is_exhausted r s) (still_live r s) (not_live r s) (is_allowed r s) parts.0 in
    record { live = t.0; ending = t.1; form = t.2; snapshot = not_true (is_other_snapshot r s) parts.1 }

is_nothing : {X : Type 0} (o : Option X) → is_none o ≡ true → o ≡ None
is_nothing None e = refl
is_nothing (Some x) e = absurd cc

none_some : {X : Type 0} (o : Option X) (x : X) → o ≡ None → o ≡ Some x → ⊥
none_some o x e f = cc

clash : (b : Bool) → b ≡ true → b ≡ false → ⊥
clash b e f = cc

same_is : (a b : State) → same_state a b ≡ true → a ≡ b
same_is a b e = grind arith

next_of_none : (s : State) (o : Option State) → o ≡ None → may_be_next s o ≡ true
next_of_none s o e = grind arith

next_stopped : (s to : State) → runs s ≡ true → is_stopped to ≡ true → may_be_next s (Some to) ≡ true
next_stopped s to e f = grind arith

next_itself : (s : State) → runs s ≡ true → may_be_next s (Some s) ≡ true
next_itself s e = grind arith

end_keeps : (s : State) (o : Option State) (to : State) → may_end s o to true ≡ true → runs to ≡ true
end_keeps s o to e = grind arith

live_stops : (live : Option ℕ) (from to : Bool) → (is_some live && not (from && to)) ≡ false → to ≡ false → live ≡ None
live_stops None from to e f = refl
live_stops (Some x) true true e f = absurd cc
live_stops (Some x) true false e f = absurd cc
live_stops (Some x) false to e f = absurd cc

snapshot_is : (running : Option ℕ) (snapshot : ℕ) → not (is_running running snapshot) ≡ false → running ≡ Some snapshot
snapshot_is None snapshot e = absurd cc
snapshot_is (Some s) snapshot e = by (s == snapshot) refl e
  where
    by : (b : Bool) → (s == snapshot) ≡ b → not b ≡ false → Some s ≡ Some snapshot
    by true f e = ap (λ (n : ℕ). Some n) (eqb-true s snapshot f)
    by false f e = absurd cc

not_offline : (s : State) → runs s ≡ true → s ≡ Offline → ⊥
not_offline s e f = let stopped : runs s ≡ false = rw f refl in clash (runs s) e stopped

kept_is : (keep : Bool) (live : Option ℕ) (m : ℕ) → run_if_kept keep live ≡ Some m → live ≡ Some m
kept_is true live m e = e
kept_is false live m e = absurd cc

kept_not : (keep : Bool) (live : Option ℕ) → keep ≡ false → run_if_kept keep live ≡ None
kept_not true live e = absurd cc
kept_not false live e = refl

-- an end that keeps the live run leaves the instance running
kept_ends : (s : State) (o : Option State) (to : State) (keep : Bool) (live : Option ℕ) → may_end s o to keep ≡ true
    → runs to ≡ false → is_some (run_if_kept keep live) ≡ false
kept_ends s o to false live e f = refl
kept_ends s o to true live e f = absurd (clash (runs to) (end_keeps s o to e) f)

-- a run that a stop or a refresh begins
record IsSided (r : Row) (begun : Option ℕ) : Type 0 where
  last : r.last ≤ last_with r.last begun
  side : (m : ℕ) → begun ≡ Some m → (1 ≤ m) × (m ≤ last_with r.last begun)
  apart : (m : ℕ) → r.live ≡ Some m → begun ≡ Some m → ⊥
  run : (m : ℕ) → begun ≡ Some m → (m ≡ r.last + 1) × (last_with r.last begun ≡ m)
  same : begun ≡ None → last_with r.last begun ≡ r.last

is_sided : (r : Row) (o : Option ℕ) → is_next_run r o ≡ true → HasRuns r → IsSided r o
is_sided r None e has =
    record {
      last = omega arith;
      side = λ m f. absurd cc;
      apart = λ m f g. none_some None m refl g;
      run = λ m f. absurd cc;
      same = λ f. refl;
    }
is_sided r (Some run) e has =
    let new : run ≡ r.last + 1 = eqb-true run (r.last + 1) e in
    record {
      last = omega arith;
      side = λ m f. (let is : run ≡ m = cc in (omega arith, omega arith));
      apart = λ m f g. (let is : run ≡ m = cc in let known = (has.live m f).1 in omega arith);
      run = λ m f. (let is : run ≡ m = cc in (sym is ∙ new, is));
      same = λ f. absurd cc;
    }

-- ---- the row behind a step

-- a row as a step leaves it, with other numbers and another snapshot
abbrev pub behind : Row → Step → ℕ → ℕ → ℕ → ℕ → Option ℕ → Row
behind r s revision number launch serial running =
    record (row_after_step r s revision) { number = number; launch = launch; serial = serial; running = running }

-- a start that is under way is what the step began
pub record HasBegun (r : Row) (s : Step) (t : Row) : Type 0 where
  pub run : ℕ
  pub snapshot : ℕ
  pub step : s ≡ Start run snapshot t.duration t.ignore t.base
  pub from : r.state ≡ Offline
  pub live : t.live ≡ Some run
  pub begun : t.begun ≡ r.running

pub record IsStepped (r : Row) (s : Step) (t : Row) : Type 0 where
  pub shape : IsShaped t
  pub runs : HasRuns t
  pub left : IsLeft s t
  pub last : r.last ≤ t.last
  pub owner : t.owner ≡ r.owner
  pub run : (m : ℕ) → run_of s ≡ Some m → (m ≡ r.last + 1) × (t.last ≡ m)
  pub else_last : run_of s ≡ None → t.last ≡ r.last
  pub start : t.state ≡ Offline → t.next ≡ Some Online → HasBegun r s t

pub steps : (r : Row) (s : Step) (revision number launch serial : ℕ) (running : Option ℕ) → fits r s ≡ true
    → IsShaped r → HasRuns r → IsStepped r s (behind r s revision number launch serial running)
steps r (Move to) revision number launch serial running e shape has =
    let t = is_tested r (Move to) e in
    let form = both (is_none r.next) (may_move r.state to) t.form in
    let rest : r.next ≡ None = is_nothing r.next form.0 in
    let gone : runs to ≡ false → r.live ≡ None = live_stops r.live (runs r.state) (runs to) t.live in
    record {
      shape = record {
        next = next_of_none to r.next rest;
        live = λ f. rw (gone f, rest) refl;
        alone = λ f. shape.side rest;
        side = shape.side;
      };
      runs = record {
        live = has.live;
        side = has.side;
        apart = has.apart;
        newest = λ f g. absurd (none_some r.next Online rest g);
      };
      left = record { state = refl; next = rest; side = shape.side rest; live = gone };
      last = omega arith;
      owner = refl;
      run = λ m f. absurd cc;
      else_last = λ f. refl;
      start = λ f g. absurd (none_some r.next Online rest g);
    }
steps r (Start run snapshot duration ignore base) revision number launch serial running e shape has =
    let s : Step = Start run snapshot duration ignore base in
    let t = is_tested r s e in
    let form = both (same_state r.state Offline && is_none r.next) (run == r.last + 1) t.form in
    let from = both (same_state r.state Offline) (is_none r.next) form.0 in
    let offline : r.state ≡ Offline = same_is r.state Offline from.0 in
    let new : run ≡ r.last + 1 = eqb-true run (r.last + 1) form.1 in
    let stopped : runs r.state ≡ false = rw offline refl in
    let alone : r.side ≡ None = shape.alone stopped in
    record {
      shape = record {
        next = rw offline refl;
        live = λ f. refl;
        alone = λ f. alone;
        side = λ f. alone;
      };
      runs = record {
        live = λ m f. (let is : run ≡ m = cc in (omega arith, omega arith));
        side = λ m f. absurd (none_some r.side m alone f);
        apart = λ m f g. none_some r.side m alone g;
        newest = λ f g. refl;
      };
      left = record {
        run = run;
        snapshot = snapshot;
        step = refl;
        state = offline;
        next = refl;
        live = refl;
        side = alone;
        last = refl;
        begun = refl;
      };
      last = omega arith;
      owner = refl;
      run = λ m f. (let is : run ≡ m = cc in (sym is ∙ new, is));
      else_last = λ f. absurd cc;
      start = λ f g. record {
        run = run;
        snapshot = snapshot;
        step = refl;
        from = offline;
        live = refl;
        begun = sym (snapshot_is r.running snapshot t.snapshot);
      };
    }
steps r (Stop to cause run) revision number launch serial running e shape has =
    let t = is_tested r (Stop to cause run) e in
    let form = both (is_steady r && is_stopped to) (is_next_run r run) t.form in
    let from = both (is_steady r) (is_stopped to) form.0 in
    let steady = both (is_none r.next) (runs r.state) from.0 in
    let new = is_sided r run form.1 has in
    record {
      shape = record {
        next = next_stopped r.state to steady.1 from.1;
        live = λ f. absurd (clash (runs r.state) steady.1 f);
        alone = λ f. absurd (clash (runs r.state) steady.1 f);
        side = λ f. absurd (none_some (Some to) to f refl);
      };
      runs = record {
        live = λ m f. (let known = has.live m f in (known.0, let low = known.1 in let more = new.last in omega arith));
        side = new.side;
        apart = new.apart;
        newest = λ f g. absurd (not_offline r.state steady.1 f);
      };
      left = record {
        to = to;
        cause = cause;
        step = refl;
        state = steady.1;
        stopped = from.1;
        next = refl;
        of = refl;
        last = λ m f. (new.run m f).1;
      };
      last = new.last;
      owner = refl;
      run = new.run;
      else_last = new.same;
      start = λ f g. absurd (not_offline r.state steady.1 f);
    }
steps r (Refresh run) revision number launch serial running e shape has =
    let t = is_tested r (Refresh run) e in
    let form = both (is_steady r) (is_next_run r run) t.form in
    let steady = both (is_none r.next) (runs r.state) form.0 in
    let new = is_sided r run form.1 has in
    record {
      shape = record {
        next = next_itself r.state steady.1;
        live = λ f. absurd (clash (runs r.state) steady.1 f);
        alone = λ f. absurd (clash (runs r.state) steady.1 f);
        side = λ f. absurd (none_some (Some r.state) r.state f refl);
      };
      runs = record {
        live = λ m f. (let known = has.live m f in (known.0, let low = known.1 in let more = new.last in omega arith));
        side = new.side;
        apart = new.apart;
        newest = λ f g. absurd (not_offline r.state steady.1 f);
      };
      left = record { state = steady.1; next = refl; side = refl; last = λ m f. (new.run m f).1 };
      last = new.last;
      owner = refl;
      run = new.run;
      else_last = new.same;
      start = λ f g. absurd (not_offline r.state steady.1 f);
    }
steps r (End to keep failed cause) revision number launch serial running e shape has =
    let t = is_tested r (End to keep failed cause) e in
    let form = both (may_end r.state r.next to keep) (may_count to failed) t.form in
    record {
      shape = record {
        next = next_of_none to None refl;
        live = λ f. kept_ends r.state r.next to keep r.live form.0 f;
        alone = λ f. refl;
        side = λ f. refl;
      };
      runs = record {
        live = λ m f. has.live m (kept_is keep r.live m f);
        side = λ m f. absurd (none_some None m refl f);
        apart = λ m f g. none_some None m refl g;
        newest = λ f g. absurd (none_some None Online refl g);
      };
      left = record { state = refl; next = refl; side = refl; live = kept_not keep r.live };
      last = omega arith;
      owner = refl;
      run = λ m f. absurd cc;
      else_last = λ f. refl;
      start = λ f g. absurd (none_some None Online refl g);
    }
steps r (Note bits keep) revision number launch serial running e shape has =
    let t = is_tested r (Note bits keep) e in
    let steady = both (is_none r.next) (runs r.state) (both (is_steady r) _ t.form).0 in
    let rest : r.next ≡ None = is_nothing r.next steady.0 in
    record {
      shape = record {
        next = shape.next;
        live = λ f. absurd (clash (runs r.state) steady.1 f);
        alone = λ f. shape.side rest;
        side = shape.side;
      };
      runs = record {
        live = λ m f. has.live m (kept_is keep r.live m f);
        side = has.side;
        apart = λ m f g. has.apart m (kept_is keep r.live m f) g;
        newest = λ f g. absurd (none_some r.next Online rest g);
      };
      left = record { state = steady.1; next = rest; side = shape.side rest; live = kept_not keep r.live };
      last = omega arith;
      owner = refl;
      run = λ m f. absurd cc;
      else_last = λ f. refl;
      start = λ f g. absurd (none_some r.next Online rest g);
    }
