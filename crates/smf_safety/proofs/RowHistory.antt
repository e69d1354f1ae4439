-- Accepted commands keep the clauses on the rows of the history, and on starts that were announced.
use Rattle.std.proofs.Common.{◌≡◌, ◌⊎◌, inl, inr, ℕ, ◌≤◌, ◌<◌, ◌==◌, Bool, true, false, cond, [], ◌∷◌, Option, Some, refl, sym, ap, ◌∙◌, subst, arith}
use Rattle.smf_state.specs.declared.row.Row.{Row}
use Rattle.smf_state.specs.declared.state.State.TheVariants.{Uninitialized, Offline, Online}
use Rattle.smf_state.specs.declared.step.Proposal.{Proposal}
use Rattle.smf_state.specs.declared.step.Step.{Step}
use Rattle.smf_state.specs.declared.step.Step.TheVariants.{Start}
use Rattle.smf_model.specs.declared.command.Command.{Command}
use Rattle.smf_model.specs.declared.held.Instance.{Instance}
use Rattle.smf_model.specs.History.{History, holdings_after_commands, value_at}
use Rattle.smf_model.specs.Contents.{Holdings}
use Rattle.smf_model.specs.Laws.{IsNumbered, Stays}
use Rattle.smf_model.specs.Look.{instance}
use Rattle.smf_model.specs.Next.{next}
use Rattle.smf_model.proofs.LawLists.{some_same}
use Rattle.smf_world.proofs.DecidedHistory.{Grew, grew_by, newest_value}
use Rattle.smf_world.proofs.RowClauses.{AreAnnounced, AreFit, WasAnnounced, WereRows}
use Rattle.smf_world.proofs.RowMoves.{IsGrant, Moves, RowPut, granted, handed, quiet}
use Rattle.smf_safety.proofs.RowLater.{CameOf, IsGiven, IsProper, began, booted, came_of, changed, is_given, was_later, was_now}
use Rattle.smf_safety.proofs.RowSteps.{HasBegun}
use Rattle.smf_safety.proofs.SaidClauses.{IsPastStep, IsProposal}

-- a history after one command more
abbrev pub more : History → Command → History
more y c = record y { past = c ∷ y.past }

pub grew : (y : History) (c : Command) → Grew y (more y c)
grew y c = grew_by y.first (c ∷ []) y.past

pub newest_more : (y : History) (h : Holdings) (c : Command) → h ≡ holdings_after_commands y.first y.past
    → (next h c).0 ≡ holdings_after_commands y.first (c ∷ y.past)
newest_more y h c e = ap (λ (k : Holdings). (next k c).0) e

-- a value is the newest, or was there before
value_by : (k v : Holdings) (o : Option Holdings) (b : Bool) → cond b (Some k) o ≡ Some v → (v ≡ k) ⊎ (o ≡ Some v)
value_by k v o true e = inl (some_same v k (sym e))
value_by k v o false e = inr e

pub value_cases : (y : History) (h : Holdings) (c : Command) (m : ℕ) (v : Holdings)
    → h ≡ holdings_after_commands y.first y.past → value_at (more y c) m ≡ Some v
    → (v ≡ (next h c).0) ⊎ (value_at y m ≡ Some v)
value_cases y h c m v e f =
    let k : Holdings = holdings_after_commands y.first (c ∷ y.past) in
    elim (value_by k v (value_at y m) (k.revision == m) f) [
      | inl is ↦ inl (is ∙ sym (newest_more y h c e))
      | inr is ↦ inr is
    ]

-- ---- rows of the history

pub were_later : (y : History) (h : Holdings) (c : Command) → h ≡ holdings_after_commands y.first y.past
    → IsNumbered (next h c).0 → AreFit h → Moves h c (next h c).0 → WereRows y h → WereRows (more y c) (next h c).0
were_later y h c e numbered fit m were l v n i at there = elim (value_cases y h c l v e at) [
  | inl is ↦ was_now (next h c).0 n i numbered (subst (λ (k : Holdings). instance k n ≡ Some i) is there)
  | inr old ↦ was_later h c (next h c).0 n i.row fit m (were l v n i old there)
]

-- ---- starts that were announced

announced_more : (y : History) (c : Command) (n : ℕ) (r : Row) → WasAnnounced y n r → WasAnnounced (more y c) n r
announced_more y c n r a =
    record {
      revision = a.revision;
      value = a.value;
      of = a.of;
      after = a.after;
      at = grew y c a.revision a.value a.at;
      there = a.there;
      number = a.number;
      state = a.state;
      next = a.next;
      live = a.live;
      base = a.base;
      snapshot = a.snapshot;
    }

announced_stays : (y : History) (n : ℕ) (r s : Row) → Stays r s → WasAnnounced y n r → WasAnnounced y n s
announced_stays y n r s t a =
    record {
      revision = a.revision;
      value = a.value;
      of = a.of;
      after = subst (λ (b : ℕ). b < a.revision) (sym (ap (λ (x : Row). x.base) t.same)) a.after;
      at = a.at;
      there = a.there;
      number = a.number ∙ sym (ap (λ (x : Row). x.number) t.same);
      state = a.state;
      next = a.next;
      live = a.live ∙ sym (ap (λ (x : Row). x.live) t.same);
      base = a.base ∙ sym (ap (λ (x : Row). x.base) t.same);
      snapshot = a.snapshot ∙ sym (ap (λ (x : Row). x.begun) t.same);
    }

past_base : (next_snapshot revision run snapshot base : ℕ) (duration : _) (ignore : _) (s : Step)
    → s ≡ Start run snapshot duration ignore base → IsPastStep next_snapshot revision s → base ≤ revision
past_base next_snapshot revision run snapshot base duration ignore s e p =
    (subst (IsPastStep next_snapshot revision) e p).1

other_state : (s t : Row) → s.state ≡ Uninitialized → s.state ≡ Offline → ⊥
other_state s t e f = let both : Uninitialized ≡ Offline = sym e ∙ f in cc

-- the value that the grant of a start makes announces it
announced_now : (y : History) (h : Holdings) (c : Command) (p : Proposal) (n : ℕ) (i j : Instance)
    → h ≡ holdings_after_commands y.first y.past → Moves h c (next h c).0 → IsProposal h p
    → IsGrant h (next h c).0.next_snapshot p i.row j.row
    → IsGiven p i.row j.row → instance (next h c).0 n ≡ Some j → j.row.state ≡ Offline → j.row.next ≡ Some Online
    → WasAnnounced (more y c) n j.row
announced_now y h c p n i j e m q g x there offline online =
    let b : HasBegun i.row p.step j.row = x.start offline online in
    record {
      revision = (next h c).0.revision;
      value = (next h c).0;
      of = j;
      after = (let base = past_base h.next_snapshot h.revision b.run b.snapshot j.row.base j.row.duration j.row.ignore
          p.step b.step q.step in let up = m.revision in omega arith);
      at = newest_value (more y c) (next h c).0 (newest_more y h c e);
      there = there;
      number = refl;
      state = offline;
      next = online;
      live = refl;
      base = refl;
      snapshot = kept b g.first ∙ sym b.begun;
    }
  where
    kept : HasBegun i.row p.step j.row → (j.row.running ≡ i.row.running) ⊎ (i.row.state ≡ Uninitialized)
        → j.row.running ≡ i.row.running
    kept b (inl is) = is
    kept b (inr is) = absurd (other_state i.row j.row is b.from)

pub announced_later : (y : History) (h : Holdings) (c : Command) → h ≡ holdings_after_commands y.first y.past
    → AreFit h → IsProper h c → Moves h c (next h c).0 → AreAnnounced y h → AreAnnounced (more y c) (next h c).0
announced_later y h c e fit proper m a n j there offline online = by (came_of h c (next h c).0 n j m there)
  where
    k : Holdings
    k = (next h c).0

    was : (i : Instance) → instance h n ≡ Some i → Stays i.row j.row → WasAnnounced (more y c) n j.row
    was i at t =
        announced_stays (more y c) n i.row j.row t
        (announced_more y c n i.row
        (a n i at (sym (ap (λ (x : Row). x.state) t.same) ∙ offline)
        (sym (ap (λ (x : Row). x.next) t.same) ∙ online)))

    put_by : (i : Instance) → instance h n ≡ Some i → RowPut h k.next_snapshot c n i.row j.row
        → WasAnnounced (more y c) n j.row
    put_by i at (quiet q) = was i at q.stays
    put_by i at (granted p is of_n g) =
        announced_now y h c p n i j e m (proper p is) g
        (is_given h k.next_snapshot p i.row j.row g (fit n i at).shape (fit n i at).runs) there offline online
    put_by i at (handed is g) = absurd (other_state j.row j.row (ap (λ (x : Row). x.state) g.left) offline)

    by : CameOf h k.next_snapshot c n (instance h n) j.row → WasAnnounced (more y c) n j.row
    by (changed i at p) = put_by i at p
    by (began none is new) = absurd (other_state j.row j.row (ap (λ (x : Row). x.state) new) offline)
    by (booted i owner at is new) = absurd (other_state j.row j.row (ap (λ (x : Row). x.state) new) offline)
