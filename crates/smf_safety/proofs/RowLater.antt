-- Accepted commands keep the clauses on the rows that are held.
use Rattle.std.proofs.Common.{◌≡◌, ◌⊎◌, inl, inr, ℕ, ◌+◌, ◌≤◌, ◌<◌, nat_lt, Bool, true, false, List, Option, Some, None, refl, sym, ap, ◌∙◌, subst, arith}
use Rattle.std.proofs.lemmas.Bool.Decides.{nat_tests}
use Rattle.smf_state.specs.Rows.{fresh, run_of}
use Rattle.smf_state.specs.declared.flags.Asks.{Asks}
use Rattle.smf_state.specs.declared.row.Row.{Row}
use Rattle.smf_state.specs.declared.state.State.TheVariants.{Uninitialized, Offline, Online}
use Rattle.smf_state.specs.declared.step.Proposal.{Proposal}
use Rattle.smf_state.specs.declared.step.Step.{Step}
use Rattle.smf_state.specs.declared.step.Step.TheVariants.{Move, Start, Stop, Refresh, End, Note}
use Rattle.smf_model.specs.declared.command.Command.{Command}
use Rattle.smf_model.specs.declared.command.Command.TheVariants as commands
use Rattle.smf_model.specs.declared.held.Instance.{Instance}
use Rattle.smf_model.specs.Contents.{Holdings}
use Rattle.smf_model.specs.Laws.{IsNumbered, Stays}
use Rattle.smf_model.specs.Look.{instance, launch_of}
use Rattle.smf_model.specs.Next.{booted_row}
use Rattle.smf_model.proofs.LawLists.{some_same}
use Rattle.smf_model.proofs.LawOutcomes.{stays_on}
use Rattle.smf_world.proofs.RowClauses.{AreFit, HasRuns, IsBefore, IsFit, IsLeft, IsShaped, IsUnbegun, WasRow}
use Rattle.smf_world.proofs.RowMoves.{IsGrant, IsHandedOver, IsQuiet, IsRead, Moves, RowMoves, RowPut, absent, boots, goes, granted, handed, joins, leaves, quiet}
use Rattle.smf_world.proofs.RowGrants.{fits_as}
use Rattle.smf_safety.proofs.RowSteps.{HasBegun, IsStepped, behind, steps}
use Rattle.smf_safety.proofs.SaidClauses.{IsProposal}

-- ---- where a row came from

-- a row after a command, by the instance that was there before
pub data CameOf (h : Holdings) (m : ℕ) (c : Command) (n : ℕ) (o : Option Instance) (r : Row) : Type 0 where
  changed : (i : Instance) → o ≡ Some i → RowPut h m c n i.row r → CameOf h m c n o r
  began : o ≡ None → n ≡ h.next_instance → r ≡ fresh r.owner → CameOf h m c n o r
  booted : (i : Instance) (owner : List ℕ) → o ≡ Some i → c ≡ commands.Boot → r ≡ booted_row i.row owner
      → CameOf h m c n o r

none_some : {X : Type 0} (o : Option X) (x : X) → o ≡ None → o ≡ Some x → ⊥
none_some o x e f = cc

came_by : (h : Holdings) (m : ℕ) (c : Command) (n : ℕ) (o p : Option Instance) (j : Instance) → RowMoves h m c n o p
    → p ≡ Some j → CameOf h m c n o j.row
came_by h m c n o p j (absent e f) g = absurd (none_some p j f g)
came_by h m c n o p j (goes i k e f q) g =
    changed i e (subst (λ (x : Instance). RowPut h m c n i.row x.row) (some_same k j (sym f ∙ g)) q)
came_by h m c n o p j (joins k e f is new) g =
    began e is (subst (λ (x : Instance). x.row ≡ fresh x.row.owner) (some_same k j (sym f ∙ g)) new)
came_by h m c n o p j (leaves i e f is rest) g = absurd (none_some p j f g)
came_by h m c n o p j (boots i k owner e f is new) g =
    booted i owner e is (ap (λ (x : Instance). x.row) (some_same j k (sym g ∙ f)) ∙ new)

pub came_of : (h : Holdings) (c : Command) (k : Holdings) (n : ℕ) (j : Instance) → Moves h c k → instance k n ≡ Some j
    → CameOf h k.next_snapshot c n (instance h n) j.row
came_of h c k n j m e = came_by h k.next_snapshot c n (instance h n) (instance k n) j (m.rows n) e

-- ---- what does not look at the owner, the asks, the snapshot and the last refresh

abbrev pub aside : Row → List ℕ → Asks → Option ℕ → ℕ → Row
aside r owner asks running refresh = record r { owner = owner; asks = asks; running = running; refresh = refresh }

unbegun_aside : (r : Row) (owner : List ℕ) (asks : Asks) (running : Option ℕ) (refresh : ℕ) → IsUnbegun r
    → IsUnbegun (aside r owner asks running refresh)
unbegun_aside r owner asks running refresh u =
    record {
      state = u.state;
      next = u.next;
      live = u.live;
      side = u.side;
      last = u.last;
      launch = u.launch;
      serial = u.serial;
    }

shaped_aside : (r : Row) (owner : List ℕ) (asks : Asks) (running : Option ℕ) (refresh : ℕ) → IsShaped r
    → IsShaped (aside r owner asks running refresh)
shaped_aside r owner asks running refresh u = record { next = u.next; live = u.live; alone = u.alone; side = u.side }

runs_aside : (r : Row) (owner : List ℕ) (asks : Asks) (running : Option ℕ) (refresh : ℕ) → HasRuns r
    → HasRuns (aside r owner asks running refresh)
runs_aside r owner asks running refresh u = record { live = u.live; side = u.side; apart = u.apart; newest = u.newest }

left_aside : (r : Row) (owner : List ℕ) (asks : Asks) (running : Option ℕ) (refresh : ℕ) (s : Step) → IsLeft s r
    → IsLeft s (aside r owner asks running refresh)
left_aside r owner asks running refresh (Move to) u =
    record { state = u.state; next = u.next; side = u.side; live = u.live }
left_aside r owner asks running refresh (Start run snapshot duration ignore base) u =
    record {
      run = u.run;
      snapshot = u.snapshot;
      step = u.step;
      state = u.state;
      next = u.next;
      live = u.live;
      side = u.side;
      last = u.last;
      begun = u.begun;
    }
left_aside r owner asks running refresh (Stop to cause run) u =
    record {
      to = u.to;
      cause = u.cause;
      step = u.step;
      state = u.state;
      stopped = u.stopped;
      next = u.next;
      of = u.of;
      last = u.last;
    }
left_aside r owner asks running refresh (Refresh run) u =
    record { state = u.state; next = u.next; side = u.side; last = u.last }
left_aside r owner asks running refresh (End to keep failed cause) u =
    record { state = u.state; next = u.next; side = u.side; live = u.live }
left_aside r owner asks running refresh (Note bits keep) u =
    record { state = u.state; next = u.next; side = u.side; live = u.live }

pub unbegun_stays : (r s : Row) → Stays r s → IsUnbegun r → IsUnbegun s
unbegun_stays r s t u = subst IsUnbegun (sym t.same) (unbegun_aside r s.owner s.asks s.running s.refresh u)

pub shaped_stays : (r s : Row) → Stays r s → IsShaped r → IsShaped s
shaped_stays r s t u = subst IsShaped (sym t.same) (shaped_aside r s.owner s.asks s.running s.refresh u)

pub runs_stay : (r s : Row) → Stays r s → HasRuns r → HasRuns s
runs_stay r s t u = subst HasRuns (sym t.same) (runs_aside r s.owner s.asks s.running s.refresh u)

pub left_stays : (r s : Row) (p : Step) → Stays r s → IsLeft p r → IsLeft p s
left_stays r s p t u = subst (IsLeft p) (sym t.same) (left_aside r s.owner s.asks s.running s.refresh p u)

-- a row stays as it is read
pub read_stays : (r s : Row) → IsRead r s → Stays r s
read_stays r s t =
    record {
      same = t.same
          ∙ ap (λ (x : Row). record r { owner = s.owner; asks = x.asks; running = x.running; refresh = x.refresh })
          (sym t.same);
      owner = t.owner;
    }

-- ---- what a grant gives

pub record IsGiven (p : Proposal) (before after : Row) : Type 0 where
  pub owner : after.owner ≡ p.proposer
  pub launch : after.launch ≡ p.launch
  pub serial : after.serial ≡ p.serial
  pub number : after.number ≡ p.number
  pub counted : after.number ≡ before.number + 1
  pub shape : IsShaped after
  pub runs : HasRuns after
  pub left : IsLeft p.step after
  pub last : before.last ≤ after.last
  pub run : (m : ℕ) → run_of p.step ≡ Some m → (m ≡ before.last + 1) × (after.last ≡ m)
  pub else_last : run_of p.step ≡ None → after.last ≡ before.last
  pub start : after.state ≡ Offline → after.next ≡ Some Online → HasBegun before p.step after

begun_as : (r s t : Row) (p : Step) → IsRead r s → HasBegun s p t → HasBegun r p t
begun_as r s t p e b =
    record {
      run = b.run;
      snapshot = b.snapshot;
      step = b.step;
      from = ap (λ (x : Row). x.state) (sym e.same) ∙ b.from;
      live = b.live;
      begun = b.begun ∙ ap (λ (x : Row). x.running) e.same;
    }

pub is_given : (h : Holdings) (m : ℕ) (p : Proposal) (before after : Row) → IsGrant h m p before after
    → IsShaped before → HasRuns before → IsGiven p before after
is_given h m p before after g shape has =
    let r : Row = g.read in
    let s : Stays before r = read_stays before r g.reads in
    let new : Row = behind r p.step (h.revision + 1) (r.number + 1) p.launch p.serial after.running in
    let fit = fits_as before r p.step g.reads ∙ g.fits in
    let t : IsStepped r p.step after =
    subst (IsStepped r p.step) (sym g.left)
    (steps r p.step (h.revision + 1) (r.number + 1) p.launch p.serial after.running fit
    (shaped_stays before r s shape) (runs_stay before r s has)) in
    let counted : after.number ≡ before.number + 1 =
    ap (λ (x : Row). x.number) g.left ∙ ap (λ (x : Row). x.number + 1) g.reads.same in
    let last : r.last ≡ before.last = ap (λ (x : Row). x.last) g.reads.same in
    record {
      owner = t.owner ∙ g.owner;
      launch = ap (λ (x : Row). x.launch) g.left;
      serial = ap (λ (x : Row). x.serial) g.left;
      number = counted ∙ sym g.number;
      counted = counted;
      shape = t.shape;
      runs = t.runs;
      left = t.left;
      last = subst (λ (l : ℕ). l ≤ after.last) last t.last;
      run = λ l e. ((t.run l e).0 ∙ ap (λ (x : ℕ). x + 1) last, (t.run l e).1);
      else_last = λ e. t.else_last e ∙ last;
      start = λ e f. begun_as before r after p.step g.reads (t.start e f);
    }

-- ---- a row and a later one

pub before_itself : (r : Row) → IsBefore r r
before_itself r =
    record { number = omega arith; last = omega arith; same = λ e. record { same = refl; owner = inr refl } }

pub before_on : (r s t : Row) → IsBefore r s → IsBefore s t → IsBefore r t
before_on r s t a b =
    record {
      number = (let x = a.number in let y = b.number in omega arith);
      last = (let x = a.last in let y = b.last in omega arith);
      same = λ e.
          let x = a.number in
          let y = b.number in
          let first : r.number ≡ s.number = omega arith in
          let second : s.number ≡ t.number = omega arith in
          stays_on r s t (a.same first) (b.same second);
    }

-- one with the next number
next_is_later : (r s : Row) → s.number ≡ r.number + 1 → r.last ≤ s.last → IsBefore r s
next_is_later r s number last = record { number = omega arith; last = last; same = λ e. absurd (omega arith) }

pub put_is_later : (h : Holdings) (m : ℕ) (c : Command) (n : ℕ) (r s : Row) → IsFit h r → RowPut h m c n r s
    → IsBefore r s
put_is_later h m c n r s f (quiet q) =
    let number = ap (λ (x : Row). x.number) q.stays.same in
    let last = ap (λ (x : Row). x.last) q.stays.same in
    record { number = omega arith; last = omega arith; same = λ e. q.stays }
put_is_later h m c n r s f (granted p is at g) =
    let x = is_given h m p r s g f.shape f.runs in
    next_is_later r s x.counted x.last
put_is_later h m c n r s f (handed is g) =
    next_is_later r s (ap (λ (x : Row). x.number) g.left) (let l = ap (λ (x : Row). x.last) g.left in omega arith)

pub boot_is_later : (r s : Row) (owner : List ℕ) → s ≡ booted_row r owner → IsBefore r s
boot_is_later r s owner e =
    next_is_later r s (ap (λ (x : Row). x.number) e) (let l = ap (λ (x : Row). x.last) e in omega arith)

-- a row is read before it is another
pub read_before : (r s : Row) → IsRead r s → IsBefore s r
read_before r s t =
    let number : s.number ≡ r.number = ap (λ (x : Row). x.number) t.same in
    let last : s.last ≡ r.last = ap (λ (x : Row). x.last) t.same in
    record {
      number = omega arith;
      last = omega arith;
      same = λ e. record {
        same = sym (ap
            (λ (x : Row). record x { owner = r.owner; asks = r.asks; running = r.running; refresh = r.refresh })
            t.same);
        owner = owner_by number t.owner;
      };
    }
  where
    owner_by : s.number ≡ r.number → (r.number ≡ 0) ⊎ (s.owner ≡ r.owner) → (s.number ≡ 0) ⊎ (r.owner ≡ s.owner)
    owner_by e (inl f) = inl (e ∙ f)
    owner_by e (inr f) = inr (sym f)

-- a row that was an instance's still was
pub was_later : (h : Holdings) (c : Command) (k : Holdings) (n : ℕ) (r : Row) → AreFit h → Moves h c k → WasRow h n r
    → WasRow k n r
was_later h c k n r fit m w =
    record {
      known = (let a = w.known in let b = m.next_instance in omega arith);
      before = λ j e. by j (came_of h c k n j m e);
    }
  where
    by : (j : Instance) → CameOf h k.next_snapshot c n (instance h n) j.row → IsBefore r j.row
    by j (changed i there p) =
        before_on r i.row j.row (w.before i there) (put_is_later h k.next_snapshot c n i.row j.row (fit n i there) p)
    by j (began none is new) = absurd (let a = w.known in omega arith)
    by j (booted i owner there is new) =
        before_on r i.row j.row (w.before i there) (boot_is_later i.row j.row owner new)

-- an instance that is there has a number that was given
pub is_known : (h : Holdings) (n : ℕ) (i : Instance) → IsNumbered h → instance h n ≡ Some i → n < h.next_instance
is_known h n i b e = by (nat_lt n h.next_instance) refl
  where
    low : (m l : ℕ) → nat_lt m l ≡ true → m < l
    low m l f = grind (arith, nat_tests)

    high : (m l : ℕ) → nat_lt m l ≡ false → l ≤ m
    high m l f = grind (arith, nat_tests)

    by : (d : Bool) → nat_lt n h.next_instance ≡ d → n < h.next_instance
    by true f = low n h.next_instance f
    by false f = absurd (none_some (instance h n) i (b.instances n (high n h.next_instance f)) e)

-- a row that is held was the instance's
pub was_now : (h : Holdings) (n : ℕ) (i : Instance) → IsNumbered h → instance h n ≡ Some i → WasRow h n i.row
was_now h n i b e =
    record {
      known = is_known h n i b e;
      before = λ j f. subst (λ (x : Instance). IsBefore i.row x.row) (some_same i j (sym e ∙ f)) (before_itself i.row);
    }

-- and so was a row as it is read
pub was_read : (h : Holdings) (n : ℕ) (i : Instance) (r : Row) → IsNumbered h → instance h n ≡ Some i → IsRead i.row r
    → WasRow h n r
was_read h n i r b e read =
    record {
      known = is_known h n i b e;
      before = λ j f. subst (λ (x : Instance). IsBefore r x.row) (some_same i j (sym e ∙ f)) (read_before i.row r read);
    }

-- ---- the rows that are held

fit_quiet : (h : Holdings) (c : Command) (k : Holdings) (r s : Row) → Moves h c k → IsFit h r
    → IsQuiet h k.next_snapshot r s → IsFit k s
fit_quiet h c k r s m f q =
    let t = q.stays in
    let number = ap (λ (x : Row). x.number) t.same in
    let launch : s.launch ≡ r.launch = ap (λ (x : Row). x.launch) t.same in
    let serial : s.serial ≡ r.serial = ap (λ (x : Row). x.serial) t.same in
    record {
      zero = λ e. unbegun_stays r s t (f.zero (sym number ∙ e));
      shape = shaped_stays r s t f.shape;
      runs = runs_stay r s t f.runs;
      launch = launched launch t.owner;
      unserved = λ e. serial ∙ f.unserved (sym launch ∙ e);
      served = λ e. launch ∙ f.served (sym serial ∙ e);
    }
  where
    launched : s.launch ≡ r.launch → (r.number ≡ 0) ⊎ (s.owner ≡ r.owner) → s.launch ≤ launch_of k s.owner
    launched e (inl zero_is) = (let none = (f.zero zero_is).launch in omega arith)
    launched e (inr owner) =
        subst (λ (name : List ℕ). s.launch ≤ launch_of k name) (sym owner)
        (let a = f.launch in let b = m.launches r.owner in omega arith)

-- a row of no launch, with nothing under way
pub fit_anew : (k : Holdings) (r s : Row) → s.number ≡ r.number + 1 → s.state ≡ Uninitialized → s.next ≡ None
    → s.live ≡ None → s.side ≡ None → s.launch ≡ 0 → s.serial ≡ 0 → IsFit k s
fit_anew k r s number state next live side launch serial =
    record {
      zero = λ e. absurd (omega arith);
      shape = record {
        next = rw (state, next) refl;
        live = λ e. rw (live, next) refl;
        alone = λ e. side;
        side = λ e. side;
      };
      runs = record {
        live = λ m e. absurd (none_some s.live m live e);
        side = λ m e. absurd (none_some s.side m side e);
        apart = λ m e g. none_some s.live m live e;
        newest = λ e g. absurd (none_some s.next Online next g);
      };
      launch = omega arith;
      unserved = λ e. serial;
      served = λ e. launch;
    }

fit_fresh : (k : Holdings) (owner : List ℕ) → IsFit k (fresh owner)
fit_fresh k owner =
    record {
      zero = λ e. record {
        state = refl;
        next = refl;
        live = refl;
        side = refl;
        last = refl;
        launch = refl;
        serial = refl;
      };
      shape = record { next = refl; live = λ e. refl; alone = λ e. refl; side = λ e. refl };
      runs = record {
        live = λ m e. absurd (none_some None m refl e);
        side = λ m e. absurd (none_some None m refl e);
        apart = λ m e g. none_some None m refl e;
        newest = λ e g. absurd (none_some None Online refl g);
      };
      launch = omega arith;
      unserved = λ e. refl;
      served = λ e. refl;
    }

fit_granted : (h : Holdings) (c : Command) (k : Holdings) (p : Proposal) (r s : Row) → Moves h c k → IsFit h r
    → IsProposal h p → IsGrant h k.next_snapshot p r s → IsFit k s
fit_granted h c k p r s m f q g =
    let x = is_given h k.next_snapshot p r s g f.shape f.runs in
    let launch = x.launch in
    let serial = x.serial in
    let launched = q.launched in
    let served = q.serial in
    record {
      zero = λ e. absurd (let counted = x.counted in omega arith);
      shape = x.shape;
      runs = x.runs;
      launch = subst (λ (name : List ℕ). s.launch ≤ launch_of k name) (sym x.owner)
          (let a = g.launch in let b = m.launches p.proposer in omega arith);
      unserved = λ e. absurd (omega arith);
      served = λ e. absurd (omega arith);
    }

fit_handed : (h k : Holdings) (m : ℕ) (r s : Row) → IsHandedOver h m r s → IsFit k s
fit_handed h k m r s g =
    let e = g.left in
    fit_anew k r s (ap (λ (x : Row). x.number) e) (ap (λ (x : Row). x.state) e)
    (ap (λ (x : Row). x.next) e ∙ g.rest.next) (ap (λ (x : Row). x.live) e ∙ g.rest.live)
    (ap (λ (x : Row). x.side) e ∙ g.rest.side)
    (ap (λ (x : Row). x.launch) e) (ap (λ (x : Row). x.serial) e)

pub fit_booted : (k : Holdings) (r s : Row) (owner : List ℕ) → s ≡ booted_row r owner → IsFit k s
fit_booted k r s owner e =
    fit_anew k r s (ap (λ (x : Row). x.number) e) (ap (λ (x : Row). x.state) e) (ap (λ (x : Row). x.next) e)
    (ap (λ (x : Row). x.live) e) (ap (λ (x : Row). x.side) e)
    (ap (λ (x : Row). x.launch) e) (ap (λ (x : Row). x.serial) e)

-- a proposal that is given to the repository is one
abbrev pub IsProper : Holdings → Command → Type 0
IsProper h c = (p : Proposal) → c ≡ commands.Propose p → IsProposal h p

pub fit_later : (h : Holdings) (c : Command) (k : Holdings) → Moves h c k → IsProper h c → AreFit h → AreFit k
fit_later h c k m proper fit n j e = by (came_of h c k n j m e)
  where
    put_by : (i : Instance) → instance h n ≡ Some i → RowPut h k.next_snapshot c n i.row j.row → IsFit k j.row
    put_by i there (quiet q) = fit_quiet h c k i.row j.row m (fit n i there) q
    put_by i there (granted p is at g) = fit_granted h c k p i.row j.row m (fit n i there) (proper p is) g
    put_by i there (handed is g) = fit_handed h k k.next_snapshot i.row j.row g

    by : CameOf h k.next_snapshot c n (instance h n) j.row → IsFit k j.row
    by (changed i there p) = put_by i there p
    by (began none is new) = subst (IsFit k) (sym new) (fit_fresh k j.row.owner)
    by (booted i owner there is new) = fit_booted k i.row j.row owner new
