-- Who may free a run: a proposal that can still be granted is its restarter's awaited one, so that who owes a start has
-- none. It remains to say that the live run that a proposal would free does not live.
use Rattle.std.proofs.Common.{◌≡◌, ◌⊎◌, ◌+◌, ◌≤◌, ℕ, zero, suc, Bool, true, false, List, [], ◌∷◌, Option, Some, None, inl, inr, refl, sym, ap, ◌∙◌, subst, arith}
use Rattle.smf_contract.specs.declared.cookie.Method.{Method}
use Rattle.smf_state.specs.declared.step.Proposal.{Proposal}
use Rattle.smf_model.specs.declared.held.Instance.{Instance}
use Rattle.smf_model.specs.History.{History}
use Rattle.smf_model.specs.Contents.{Holdings}
use Rattle.smf_model.specs.Look.{launch_of}
use Rattle.smf_model.proofs.LawLists.{some_same}
use Rattle.smf_wire.specs.declared.message.Message.{Message}
use Rattle.smf_wire.specs.declared.message.Message.TheVariants as messages
use Rattle.smf_restarter.specs.declared.known.After.{After}
use Rattle.smf_restarter.specs.declared.known.KnownInstance.{KnownInstance}
use Rattle.smf_restarter.specs.declared.known.Owed.{Owed}
use Rattle.smf_restarter.specs.declared.known.Phase.{Phase}
use Rattle.smf_restarter.specs.declared.known.Phase.TheVariants as phases
use Rattle.smf_restarter.specs.Knowledge.{Knowledge, known_instance}
use Rattle.smf_world.specs.declared.item.Item.{Item}
use Rattle.smf_safety.proofs.DecidedOwed.{AllInformed, begun_on, known_number}
use Rattle.smf_safety.proofs.KnowClauses.{IsAwaitedBy, IsDeadFor, IsInPhase, IsInformed, IsOwing as OwesWell, run_under}
use Rattle.smf_safety.proofs.LiveClauses.{AllFreeTheOver, FreesTheOver, IsOver, IsOwed, Lives, frees}
use Rattle.smf_world.proofs.LiveEach.{each_in}
use Rattle.smf_safety.proofs.LiveEvents.{IsStartOf}
use Rattle.smf_world.proofs.LiveLists.{Each, IsIn}
use Rattle.smf_world.proofs.RowClauses.{AreFit, IsOpen, WasProposed, WasSaid, fits}

-- ---- a row with a live run

no_run : (o : Option ℕ) (run : ℕ) → o ≡ None → o ≡ Some run → ⊥
no_run o run e f = cc

low : (m : ℕ) → (m ≡ 0 → ⊥) → 1 ≤ m
low zero f = absurd (f refl)
low (suc m) f = omega arith

-- a row with a live run has a number, and a proposal that is open for it is the owner's
pub has_number : (h : Holdings) (q : Proposal) (o : IsOpen h q) (run : ℕ) → AreFit h → o.of.row.live ≡ Some run
    → 1 ≤ o.of.row.number
has_number h q o run fit live =
    low o.of.row.number (λ z. no_run o.of.row.live run ((fit q.instance o.of o.there).zero z).live live)

pub open_owner : (h : Holdings) (q : Proposal) (o : IsOpen h q) (run : ℕ) → AreFit h → o.of.row.live ≡ Some run
    → o.of.row.owner ≡ q.proposer
open_owner h q o run fit live = by o.owner
  where
    by : (o.of.row.number ≡ 0) ⊎ (o.of.row.owner ≡ q.proposer) → o.of.row.owner ≡ q.proposer
    by (inl z) = absurd (no_run o.of.row.live run ((fit q.instance o.of o.there).zero z).live live)
    by (inr e) = e

-- ---- who owes awaits nothing

past : (q m : ℕ) → q ≡ m + 1 → q ≤ m → ⊥
past q m e le = omega arith

clash : (b : Bool) → b ≡ true → b ≡ false → ⊥
clash b e f = cc

open_lives : (h : Holdings) (q : Proposal) (k : Knowledge) (o : IsOpen h q) → IsDeadFor h k q
    → o.of.row.owner ≡ k.name → 1 ≤ o.of.row.number → ⊥
open_lives h q k o dead owner number = by (dead o.of o.there owner number o.of o.there)
  where
    by : (q.number ≤ o.of.row.number) ⊎ (fits o.of.row q.step ≡ false) → ⊥
    by (inl le) = past q.number o.of.row.number o.number le
    by (inr f) = clash (fits o.of.row q.step) o.fits f

owes_or_waits : (p : Phase) (o : Owed) (q : Proposal) (after : After) → p ≡ phases.Owes o → p ≡ phases.Waiting q after
    → ⊥
owes_or_waits p o q after e f = let g : phases.Owes o ≡ phases.Waiting q after = sym e ∙ f in cc

-- no start of an instance is owed if a proposal that can still be granted would free its live run
pub owed_by_none : (y : History) (h : Holdings) (ms : List Message) (t : List Item) (ks : List Knowledge)
    (q : Proposal) (o : IsOpen h q) (run : ℕ) → AllInformed y h ms t ks → AreFit h → WasProposed q ms
    → o.of.row.live ≡ Some run → IsOwed ks q.instance run → ⊥
owed_by_none y h ms t ks q o run all fit said live x =
    by (k.dead q said (record { proposer = proposer; launch = o.launch ∙ (ap (launch_of h) proposer ∙ sym k.launch) }))
  where
    k : IsInformed y h ms (begun_on t) x.restarter
    k = each_in (IsInformed y h ms (begun_on t)) x.restarter ks all x.is_launched

    a : OwesWell y h (begun_on t) x.restarter q.instance x.of.row x.owed
    a = subst (IsInPhase y h ms (begun_on t) x.restarter q.instance x.of.row) x.owes
        (k.each q.instance x.of x.is_known).phase

    owner : o.of.row.owner ≡ x.restarter.name
    owner = ap (λ (i : Instance). i.row.owner) (some_same o.of a.of (sym o.there ∙ a.there)) ∙ a.owner

    proposer : q.proposer ≡ x.restarter.name
    proposer = sym (open_owner h q o run fit live) ∙ owner

    by : IsDeadFor h x.restarter q ⊎ IsAwaitedBy x.restarter q → ⊥
    by (inl d) = open_lives h q x.restarter o d owner (has_number h q o run fit live)
    by (inr w) =
        let same : x.of ≡ w.of = some_same x.of w.of (sym x.is_known ∙ w.is_known) in
        owes_or_waits x.of.phase x.owed q w.after x.owes (ap (λ (i : KnownInstance). i.phase) same ∙ w.phase)

-- ---- what is left to say

-- the live run that a proposal would free does not live, if the proposal can still be granted
abbrev pub FreesTheDead : Holdings → List Item → Message → Type 0
FreesTheDead h t (messages.Propose q) =
    (o : IsOpen h q) (run : ℕ) → frees q.step ≡ true → o.of.row.live ≡ Some run → Lives q.instance run t → ⊥
FreesTheDead h t _ = Unit {0}

free_over : (y : History) (h : Holdings) (ms : List Message) (t : List Item) (ks : List Knowledge) (m : Message)
    → AllInformed y h ms t ks → AreFit h → WasSaid m ms → FreesTheDead h t m → FreesTheOver h ks t m
free_over y h ms t ks (messages.Propose q) all fit said dead =
    λ o run f live. record { dead = dead o run f live; unowed = owed_by_none y h ms t ks q o run all fit said live }
free_over y h ms t ks (messages.Join name launch) all fit said dead = tt
free_over y h ms t ks (messages.Rows name launch rows) all fit said dead = tt
free_over y h ms t ks (messages.Ack name launch serial n row) all fit said dead = tt
free_over y h ms t ks (messages.Nack name launch serial n why row) all fit said dead = tt
free_over y h ms t ks messages.AskView all fit said dead = tt
free_over y h ms t ks (messages.AskChange since) all fit said dead = tt
free_over y h ms t ks (messages.View v) all fit said dead = tt
free_over y h ms t ks (messages.Changes news) all fit said dead = tt
free_over y h ms t ks (messages.Order o) all fit said dead = tt

pub over_dead : (h : Holdings) (ks : List Knowledge) (t u : List Item) (m : Message)
    → ((n run : ℕ) → IsOver ks t n run → Lives n run u → ⊥) → FreesTheOver h ks t m → FreesTheDead h u m
over_dead h ks t u (messages.Propose q) later over = λ o run f live. later q.instance run (over o run f live)
over_dead h ks t u (messages.Join name launch) later over = tt
over_dead h ks t u (messages.Rows name launch rows) later over = tt
over_dead h ks t u (messages.Ack name launch serial n row) later over = tt
over_dead h ks t u (messages.Nack name launch serial n why row) later over = tt
over_dead h ks t u messages.AskView later over = tt
over_dead h ks t u (messages.AskChange since) later over = tt
over_dead h ks t u (messages.View v) later over = tt
over_dead h ks t u (messages.Changes news) later over = tt
over_dead h ks t u (messages.Order o) later over = tt

each_among : (P Q : Message → Type 0) (all ms : List Message) → ((m : Message) → IsIn m ms → WasSaid m all)
    → ((m : Message) → WasSaid m all → P m → Q m) → Each P ms → Each Q ms
each_among P Q all [] said f a = tt
each_among P Q all (m ∷ ms) said f a =
    (f m (said m (inl refl)) a.0, each_among P Q all ms (λ x i. said x (inr i)) f a.1)

pub all_free_over : (y : History) (h : Holdings) (ms : List Message) (t : List Item) (ks : List Knowledge)
    → AllInformed y h ms t ks → AreFit h → Each (FreesTheDead h t) ms → AllFreeTheOver h ks t ms
all_free_over y h ms t ks all fit a =
    each_among (FreesTheDead h t) (FreesTheOver h ks t) ms ms (λ m i. i)
    (λ m said dead. free_over y h ms t ks m all fit said dead) a

-- ---- a start that is begun was owed

pub owed_of : (y : History) (h : Holdings) (ms : List Message) (t : List Item) (ks : List Knowledge) (n run : ℕ)
    → AllInformed y h ms t ks → IsStartOf ks n run → IsOwed ks n run
owed_of y h ms t ks n run all s =
    record {
      restarter = s.by.restarter;
      of = s.by.of;
      owed = s.by.owed;
      is_launched = s.by.is_launched;
      is_known = subst (λ (m : ℕ). known_instance s.by.restarter m ≡ Some s.by.of)
          (sym (known_number s.by.restarter s.by.instance s.by.of s.by.is_known) ∙ s.instance) s.by.is_known;
      owes = s.by.owes;
      start = s.start;
      live = ap (λ (m : Method). run_under m s.by.of.row) (sym s.start) ∙ (a.run ∙ ap (λ (r : ℕ). Some r) s.run_is);
    }
  where
    k : IsInformed y h ms (begun_on t) s.by.restarter
    k = each_in (IsInformed y h ms (begun_on t)) s.by.restarter ks all s.by.is_launched

    a : OwesWell y h (begun_on t) s.by.restarter s.by.instance s.by.of.row s.by.owed
    a = subst (IsInPhase y h ms (begun_on t) s.by.restarter s.by.instance s.by.of.row) s.by.owes
        (k.each s.by.instance s.by.of s.by.is_known).phase
