-- The revisions that rows keep after one command.
use Rattle.std.proofs.Common.{◌≡◌, ◌⊎◌, inl, inr, ℕ, ◌+◌, ◌≤◌, not, Bool, true, false, List, Option, Some, None, refl, sym, ap, ◌∙◌, subst, arith}
use Rattle.smf_state.specs.declared.state.State.{State}
use Rattle.smf_state.specs.declared.state.State.TheVariants.{Offline, Online}
use Rattle.smf_state.specs.declared.state.Cause.{Cause}
use Rattle.smf_state.specs.declared.step.Proposal.{Proposal}
use Rattle.smf_state.specs.declared.step.Step.TheVariants.{End}
use Rattle.smf_state.specs.Rows.{fresh, is_error, same_state}
use Rattle.smf_state.specs.States.{runs}
use Rattle.smf_model.specs.declared.command.Command.{Command}
use Rattle.smf_model.specs.declared.command.Command.TheVariants as commands
use Rattle.smf_model.specs.declared.command.Edit.TheVariants as asked_for
use Rattle.smf_model.specs.declared.command.CommandReply.{CommandReply}
use Rattle.smf_model.specs.declared.held.Instance.{Instance}
use Rattle.smf_model.specs.Contents.{Holdings}
use Rattle.smf_model.specs.Look.{empty, instance}
use Rattle.smf_model.specs.Laws.{IsNumbered, Follows}
use Rattle.smf_model.specs.Next.{next}
use Rattle.smf_model.specs.Dates.{EventKind, ErrorStop, OtherStop, Refreshed, Started, revision_of, IsDated}
use Rattle.smf_model.specs.Events.{Ends, IsEventTo, IsEvent}
use Rattle.smf_model.proofs.EventRows.{same_dates, EndDates, is_error_cause, other_cause, no_error_cause, is_offline, is_online, stop_dated, start_dated, dates_stop, dates_start}
use Rattle.smf_model.proofs.EventSteps.{Dates, undated, by_refresh, by_end, dates_next}
use Rattle.smf_model.proofs.LawLists.{some_same}
use Rattle.smf_model.proofs.LawOutcomes.{one_revision}
use Rattle.smf_model.proofs.LawRows.{follows_next}

-- ---- one command

-- a revision that a row keeps stays, or is that of an event
abbrev pub Told : EventKind → ℕ → Holdings → Command → Holdings → CommandReply → Instance → Instance → Type 0
Told kind n h c k r before after = (revision_of kind after.row ≡ revision_of kind before.row)
    ⊎ (IsEventTo kind n h c k r × (revision_of kind after.row ≡ k.revision))

told_by_end : (kind : EventKind) (n : ℕ) (h : Holdings) (c : Command) (k : Holdings) (r : CommandReply)
    (e : Ends n h c k r) → EndDates e.before.row e.after.row e.cause k.revision → Told kind n h c k r e.before e.after
told_by_end ErrorStop n h c k r e d =
    elim (stop_dated (runs e.before.row.state) (runs e.after.row.state)
    (is_error e.cause) e.after.row.err k.revision e.before.row.err d.err) [
      | inl q ↦ inr (record { end = e; ran = q.0; stopped = q.1; by_error = is_error_cause e.cause q.2 }, q.3)
      | inr q ↦ inl q
    ]
told_by_end OtherStop n h c k r e d =
    elim (stop_dated (runs e.before.row.state) (runs e.after.row.state)
    (not (is_error e.cause)) e.after.row.stop k.revision e.before.row.stop d.stop) [
      | inl q ↦ inr (
        record {
          end = e;
          ran = q.0;
          stopped = q.1;
          by_other = other_cause e.cause (not_true (is_error e.cause) q.2);
        },
        q.3,
      )
      | inr q ↦ inl q
    ]
  where
    not_true : (b : Bool) → not b ≡ true → b ≡ false
    not_true true f = absurd cc
    not_true false f = refl
told_by_end Refreshed n h c k r e d = inl d.refresh
told_by_end Started n h c k r e d =
    elim (start_dated (same_state e.before.row.state Offline)
    (same_state e.after.row.state Online) e.after.row.start k.revision e.before.row.start d.start) [
      | inl q ↦ inr
          (record { end = e; from = is_offline e.before.row.state q.0; online = is_online e.after.row.state q.1 }, q.2)
      | inr q ↦ inl q
    ]

told_one : (kind : EventKind) (n : ℕ) (h : Holdings) (c : Command) (k : Holdings) (r : CommandReply)
    (before after : Instance) → instance h n ≡ Some before → instance k n ≡ Some after → Dates n h c k r before after
    → Told kind n h c k r before after
told_one kind n h c k r before after was is (undated s event) = inl (same_dates before.row after.row s kind)
told_one ErrorStop n h c k r before after was is (by_refresh v revised s) = inl s.err
told_one OtherStop n h c k r before after was is (by_refresh v revised s) = inl s.stop
told_one Refreshed n h c k r before after was is (by_refresh v revised s) = inr (v, s.refresh)
told_one Started n h c k r before after was is (by_refresh v revised s) = inl s.start
told_one kind n h c k r before after was is (by_end e d) =
    let first : e.before ≡ before = some_same e.before before (sym e.was ∙ was) in
    let last : e.after ≡ after = some_same e.after after (sym e.became ∙ is) in
    subst (λ (x : Instance). Told kind n h c k r before x) last
    (subst (λ (x : Instance). Told kind n h c k r x e.after) first (told_by_end kind n h c k r e d))

-- ---- and back: an event dates the row

same_proposal : (p q : Proposal) → commands.Propose p ≡ commands.Propose q → p ≡ q
same_proposal p q f = cc

proposed_edit : (p : Proposal) (n : ℕ) → commands.Propose p ≡ commands.Edit (asked_for.Refresh n) → ⊥
proposed_edit p n f = cc

same_cause : (a b : State) (i j : Bool) (f g : ℕ) (x y : Cause) → End a i f x ≡ End b j g y → x ≡ y
same_cause a b i j f g x y e = cc

-- two ends by one command are alike
record Alike (n : ℕ) (h : Holdings) (c : Command) (k : Holdings) (r : CommandReply)
    (d e : Ends n h c k r) : Type 0 where
  before : d.before ≡ e.before
  after : d.after ≡ e.after
  cause : d.cause ≡ e.cause

alike : (n : ℕ) (h : Holdings) (c : Command) (k : Holdings) (r : CommandReply) (d e : Ends n h c k r)
    → Alike n h c k r d e
alike n h c k r d e =
    let one : d.proposal ≡ e.proposal = same_proposal d.proposal e.proposal (sym d.proposed ∙ e.proposed) in
    record {
      before = some_same d.before e.before (sym d.was ∙ e.was);
      after = some_same d.after e.after (sym d.became ∙ e.became);
      cause = same_cause d.to e.to d.keep e.keep d.failed e.failed d.cause e.cause
          (sym d.step ∙ (ap (λ (p : Proposal). p.step) one ∙ e.step));
    }

dated_by_end : (kind : EventKind) (n : ℕ) (h : Holdings) (c : Command) (k : Holdings) (r : CommandReply)
    (e : Ends n h c k r) → EndDates e.before.row e.after.row e.cause k.revision → IsEventTo kind n h c k r
    → revision_of kind e.after.row ≡ k.revision
dated_by_end ErrorStop n h c k r e d v =
    let a = alike n h c k r v.end e in
    dates_stop (runs e.before.row.state) (runs e.after.row.state)
    (is_error e.cause) e.after.row.err k.revision e.before.row.err d.err
    (sym (ap (λ (i : Instance). runs i.row.state) a.before) ∙ v.ran)
    (sym (ap (λ (i : Instance). runs i.row.state) a.after) ∙ v.stopped)
    (sym (ap is_error a.cause) ∙ ap is_error v.by_error)
dated_by_end OtherStop n h c k r e d v =
    let a = alike n h c k r v.end e in
    dates_stop (runs e.before.row.state) (runs e.after.row.state)
    (not (is_error e.cause)) e.after.row.stop k.revision e.before.row.stop d.stop
    (sym (ap (λ (i : Instance). runs i.row.state) a.before) ∙ v.ran)
    (sym (ap (λ (i : Instance). runs i.row.state) a.after) ∙ v.stopped)
    (ap not (sym (ap is_error a.cause) ∙ no_error_cause v.end.cause v.by_other))
dated_by_end Refreshed n h c k r e d v = absurd (proposed_edit e.proposal n (sym e.proposed ∙ v.asked))
dated_by_end Started n h c k r e d v =
    let a = alike n h c k r v.end e in
    dates_start (same_state e.before.row.state Offline)
    (same_state e.after.row.state Online) e.after.row.start k.revision e.before.row.start d.start
    (ap (λ (s : State). same_state s Offline) (sym (ap (λ (i : Instance). i.row.state) a.before) ∙ v.from))
    (ap (λ (s : State). same_state s Online) (sym (ap (λ (i : Instance). i.row.state) a.after) ∙ v.online))

dated_one : (kind : EventKind) (n : ℕ) (h : Holdings) (c : Command) (k : Holdings) (r : CommandReply)
    (before after : Instance) → instance k n ≡ Some after → Dates n h c k r before after → IsEventTo kind n h c k r
    → revision_of kind after.row ≡ k.revision
dated_one kind n h c k r before after is (undated s event) v = absurd (event kind v)
dated_one ErrorStop n h c k r before after is (by_refresh f revised s) v =
    absurd (proposed_edit v.end.proposal n (sym v.end.proposed ∙ f.asked))
dated_one OtherStop n h c k r before after is (by_refresh f revised s) v =
    absurd (proposed_edit v.end.proposal n (sym v.end.proposed ∙ f.asked))
dated_one Refreshed n h c k r before after is (by_refresh f revised s) v = s.refresh
dated_one Started n h c k r before after is (by_refresh f revised s) v =
    absurd (proposed_edit v.end.proposal n (sym v.end.proposed ∙ f.asked))
dated_one kind n h c k r before after is (by_end e d) v =
    subst (λ (x : Instance). revision_of kind x.row ≡ k.revision) (some_same e.after after (sym e.became ∙ is))
    (dated_by_end kind n h c k r e d v)

-- an event is of an instance that is there
pub there_before : (kind : EventKind) (n : ℕ) (h : Holdings) (c : Command) (k : Holdings) (r : CommandReply)
    → IsEventTo kind n h c k r → (i : Instance) × (instance h n ≡ Some i)
there_before ErrorStop n h c k r v = (v.end.before, v.end.was)
there_before OtherStop n h c k r v = (v.end.before, v.end.was)
there_before Refreshed n h c k r v = (v.before, v.was)
there_before Started n h c k r v = (v.end.before, v.end.was)

-- ---- any command

pub told_next : (kind : EventKind) (n : ℕ) (h : Holdings) (c : Command) (i j : Instance) → IsNumbered h
    → instance h n ≡ Some i → instance (next h c).0 n ≡ Some j → Told kind n h c (next h c).0 (next h c).1 i j
told_next kind n h c i j numbered was is =
    told_one kind n h c (next h c).0 (next h c).1 i j was is (dates_next n h c i j numbered was is)

pub dated_next : (kind : EventKind) (n : ℕ) (h : Holdings) (c : Command) (j : Instance) → IsNumbered h
    → instance (next h c).0 n ≡ Some j → IsEvent kind n h c → revision_of kind j.row ≡ (next h c).0.revision
dated_next kind n h c j numbered is v =
    let there = there_before kind n h c (next h c).0 (next h c).1 v in
    dated_one kind n h c (next h c).0 (next h c).1 there.0 j is (dates_next n h c there.0 j numbered there.1 is) v

pub fresh_date : (kind : EventKind) (owner : List ℕ) → revision_of kind (fresh owner) ≡ 0
fresh_date ErrorStop owner = refl
fresh_date OtherStop owner = refl
fresh_date Refreshed owner = refl
fresh_date Started owner = refl

-- an instance that was not there has no events
pub none_next : (kind : EventKind) (n : ℕ) (h : Holdings) (c : Command) (j : Instance) → IsNumbered h
    → instance h n ≡ None → instance (next h c).0 n ≡ Some j → revision_of kind j.row ≡ 0
none_next kind n h c j numbered none is =
    let new : j.row ≡ fresh j.row.owner =
    subst (λ (o : Option Instance). Follows c n o j) none (follows_next h c n j numbered is) in
    ap (revision_of kind) new ∙ fresh_date kind j.row.owner

pub revision_rises : (h : Holdings) (c : Command) → h.revision ≤ (next h c).0.revision
revision_rises h c = by (next h c).0 (one_revision h c)
  where
    by : (k : Holdings) → (k ≡ h) ⊎ (k.revision ≡ h.revision + 1) → h.revision ≤ k.revision
    by k (inl e) = let same : k.revision ≡ h.revision = ap (λ (l : Holdings). l.revision) e in omega arith
    by k (inr e) = omega arith

no_instance : (i : Instance) → None ≡ Some i → ⊥
no_instance i e = cc

pub first_dated : IsDated empty
first_dated n i kind e = absurd (no_instance i e)

pub stays_dated : (h : Holdings) (c : Command) → IsNumbered h → IsDated (next h c).0
stays_dated h c numbered n j kind is = by (instance h n) refl
  where
    by : (o : Option Instance) → instance h n ≡ o → revision_of kind j.row ≤ (next h c).0.revision
    by None e = let zero_date : revision_of kind j.row ≡ 0 = none_next kind n h c j numbered e is in omega arith
    by (Some i) e =
        let low : revision_of kind i.row ≤ h.revision = numbered.dated n i kind e in
        let rises : h.revision ≤ (next h c).0.revision = revision_rises h c in
        elim (told_next kind n h c i j numbered e is) [
          | inl q ↦ within (revision_of kind j.row) (revision_of kind i.row) h.revision
              (next h c).0.revision q low rises
          | inr q ↦ (let same : revision_of kind j.row ≡ (next h c).0.revision = q.1 in omega arith)
        ]
      where
        within : (a b d f : ℕ) → a ≡ b → b ≤ d → d ≤ f → a ≤ f
        within a b d f e low high = omega arith
