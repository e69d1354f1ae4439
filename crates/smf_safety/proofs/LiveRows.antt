-- An accepted command that is no boot keeps the clauses on the starts that live, on who knows them, and on who may free
-- them.
use Rattle.std.proofs.Common.{◌≡◌, ◌⊎◌, ◌+◌, ◌≤◌, not, ℕ, Bool, true, false, List, [], ◌∷◌, Option, Some, None, is_some, inl, inr, refl, sym, ap, ◌∙◌, subst, arith}
use Rattle.std.specs.Prelude.{IsSome}
use Rattle.smf_state.specs.declared.row.Row.{Row}
use Rattle.smf_state.specs.declared.state.Duration.{Duration}
use Rattle.smf_state.specs.declared.step.Proposal.{Proposal}
use Rattle.smf_state.specs.declared.step.Step.{Step}
use Rattle.smf_state.specs.declared.step.Step.TheVariants.{Move, Start, Stop, Refresh, End, Note}
use Rattle.smf_state.specs.Rows.{run_if_kept, row_after_step}
use Rattle.smf_model.specs.declared.command.Command.{Command}
use Rattle.smf_model.specs.declared.command.Command.TheVariants as commands
use Rattle.smf_model.specs.declared.held.Instance.{Instance}
use Rattle.smf_model.specs.Contents.{Holdings}
use Rattle.smf_model.specs.Laws.{Stays}
use Rattle.smf_model.specs.Look.{instance, launch_of}
use Rattle.smf_wire.specs.declared.message.Message.{Message}
use Rattle.smf_wire.specs.declared.message.Message.TheVariants as messages
use Rattle.smf_restarter.specs.Knowledge.{Knowledge}
use Rattle.smf_restarter.specs.Runs.{run_at}
use Rattle.smf_world.specs.declared.item.Item.{Item}
use Rattle.smf_safety.proofs.LiveClauses.{AllFreeTheOver, FreesTheOver, IsOver, IsRowsLive, KnowsLive, LiveInRows, Lives, frees}
use Rattle.smf_world.proofs.LiveLists.{Each}
use Rattle.smf_world.proofs.RowClauses.{AreFit, IsOpen, IsUnbegun, fits}
use Rattle.smf_world.proofs.RowMoves.{IsGrant, IsRead, Moves, RowMoves, RowPut, absent, boots, goes, granted, handed, joins, leaves, quiet}
use Rattle.smf_safety.proofs.RowSteps.{is_tested}
use Rattle.smf_safety.proofs.SaidClauses.{IsProposal, IsSaid}

no_run : (o : Option ℕ) (run : ℕ) → o ≡ None → o ≡ Some run → ⊥
no_run o run e f = cc

no_instance : (o : Option Instance) (i : Instance) → o ≡ None → o ≡ Some i → ⊥
no_instance o i e f = cc

one_instance : (o : Option Instance) (i j : Instance) → o ≡ Some i → o ≡ Some j → i ≡ j
one_instance o i j e f = let same : Some i ≡ Some j = sym e ∙ f in cc

-- ---- a grant

start_unfit : (r : Row) (live run snapshot ignore base : ℕ) (d : Duration) → r.live ≡ Some live
    → fits r (Start run snapshot d ignore base) ≡ true → ⊥
start_unfit r live run snapshot ignore base d e f =
    let still : is_some r.live ≡ false = (is_tested r (Start run snapshot d ignore base) f).live in
    let some : is_some r.live ≡ true = rw e refl in
    cc

keep_true : (keep : Bool) → not keep ≡ false → keep ≡ true
keep_true true e = refl
keep_true false e = absurd cc

-- a step that frees no run leaves the live one
stepped_live : (r : Row) (live revision : ℕ) (s : Step) → r.live ≡ Some live → fits r s ≡ true → frees s ≡ false
    → (row_after_step r s revision).live ≡ Some live
stepped_live r live revision (Move to) e f g = e
stepped_live r live revision (Start run snapshot d ignore base) e f g =
    absurd (start_unfit r live run snapshot ignore base d e f)
stepped_live r live revision (Stop to cause run) e f g = e
stepped_live r live revision (Refresh run) e f g = e
stepped_live r live revision (End to keep failed cause) e f g =
    ap (λ (b : Bool). run_if_kept b r.live) (keep_true keep g) ∙ e
stepped_live r live revision (Note bits keep) e f g = ap (λ (b : Bool). run_if_kept b r.live) (keep_true keep g) ∙ e

fits_read : (r x : Row) (s : Step) → IsRead r x → fits r s ≡ fits x s
fits_read r x (Move to) e = ap (λ (y : Row). fits y (Move to)) (sym e.same)
fits_read r x (Start run snapshot d ignore base) e =
    ap (λ (y : Row). fits y (Start run snapshot d ignore base)) (sym e.same)
fits_read r x (Stop to cause run) e = ap (λ (y : Row). fits y (Stop to cause run)) (sym e.same)
fits_read r x (Refresh run) e = ap (λ (y : Row). fits y (Refresh run)) (sym e.same)
fits_read r x (End to keep failed cause) e = ap (λ (y : Row). fits y (End to keep failed cause)) (sym e.same)
fits_read r x (Note bits keep) e = ap (λ (y : Row). fits y (Note bits keep)) (sym e.same)

grant_keeps : (h : Holdings) (m live : ℕ) (p : Proposal) (before after : Row) → IsGrant h m p before after
    → before.live ≡ Some live → frees p.step ≡ false → after.live ≡ Some live
grant_keeps h m live p before after g e f =
    ap (λ (r : Row). r.live) g.left
    ∙ stepped_live g.read live (h.revision + 1) p.step (ap (λ (r : Row). r.live) g.reads.same ∙ e)
    (sym (fits_read before g.read p.step g.reads) ∙ g.fits) f

open_by : (h : Holdings) (m : ℕ) (p : Proposal) (i : Instance) (after : Row) → instance h p.instance ≡ Some i
    → IsGrant h m p i.row after → IsOpen h p
open_by h m p i after there g =
    record {
      of = i;
      there = there;
      owner = by g.reads.owner;
      launch = g.launch;
      number = g.number;
      fits = g.fits;
    }
  where
    by : (i.row.number ≡ 0) ⊎ (g.read.owner ≡ i.row.owner) → (i.row.number ≡ 0) ⊎ (i.row.owner ≡ p.proposer)
    by (inl z) = inl z
    by (inr e) = inr (sym e ∙ g.owner)

-- ---- L.live

-- a grant frees no run that lives
grant_live : (h : Holdings) (m : ℕ) (ks : List Knowledge) (t : List Item) (n live : ℕ) (p : Proposal) (i j : Instance)
    (b : Bool) → frees p.step ≡ b → p.instance ≡ n → instance h n ≡ Some i → IsGrant h m p i.row j.row
    → FreesTheOver h ks t (messages.Propose p) → i.row.live ≡ Some live → Lives n live t → j.row.live ≡ Some live
unfolding open_by
grant_live h m ks t n live p i j false e at there g over is lives = grant_keeps h m live p i.row j.row g is e
grant_live h m ks t n live p i j true e at there g over is lives =
    let here : instance h p.instance ≡ Some i = ap (instance h) at ∙ there in
    let dead : IsOver ks t p.instance live = over (open_by h m p i j.row here g) live e is in
    absurd (dead.dead (subst (λ (l : ℕ). Lives l live t) (sym at) lives))

-- if the command is a proposal that frees a run, that run is over
abbrev pub GivesTheOver : Holdings → List Knowledge → List Item → Command → Type 0
GivesTheOver h ks t c = (p : Proposal) → c ≡ commands.Propose p → FreesTheOver h ks t (messages.Propose p)

live_put : (h : Holdings) (m : ℕ) (c : Command) (ks : List Knowledge) (t : List Item) (n live : ℕ) (i j : Instance)
    → instance h n ≡ Some i → RowPut h m c n i.row j.row → GivesTheOver h ks t c → i.row.live ≡ Some live
    → Lives n live t → j.row.live ≡ Some live
live_put h m c ks t n live i j there (quiet q) over is lives = ap (λ (r : Row). r.live) q.stays.same ∙ is
live_put h m c ks t n live i j there (granted p e at g) over is lives =
    grant_live h m ks t n live p i j (frees p.step) refl at there g (over p e) is lives
live_put h m c ks t n live i j there (handed e o) over is lives = absurd (no_run i.row.live live o.rest.live is)

live_moves : (h k : Holdings) (c : Command) (ks : List Knowledge) (t : List Item) (n live : ℕ)
    → RowMoves h k.next_snapshot c n (instance h n) (instance k n) → (c ≡ commands.Boot → ⊥) → GivesTheOver h ks t c
    → IsRowsLive h n live → Lives n live t → IsRowsLive k n live
live_moves h k c ks t n live (absent o p) no_boot over r lives = absurd (no_instance (instance h n) r.of o r.is_there)
live_moves h k c ks t n live (joins j o p e f) no_boot over r lives =
    absurd (no_instance (instance h n) r.of o r.is_there)
live_moves h k c ks t n live (boots i j owner o p e f) no_boot over r lives = absurd (no_boot e)
live_moves h k c ks t n live (leaves i o p e rest) no_boot over r lives =
    let one : r.of ≡ i = one_instance (instance h n) r.of i r.is_there o in
    absurd (no_run i.row.live live rest.live (subst (λ (x : Instance). x.row.live ≡ Some live) one r.live))
live_moves h k c ks t n live (goes i j o p put) no_boot over r lives =
    let one : r.of ≡ i = one_instance (instance h n) r.of i r.is_there o in
    let is : i.row.live ≡ Some live = subst (λ (x : Instance). x.row.live ≡ Some live) one r.live in
    record { of = j; is_there = p; live = live_put h k.next_snapshot c ks t n live i j o put over is lives }

pub live_commanded : (h k : Holdings) (c : Command) (ks : List Knowledge) (t : List Item) → Moves h c k
    → (c ≡ commands.Boot → ⊥) → GivesTheOver h ks t c → LiveInRows h t → LiveInRows k t
live_commanded h k c ks t moves no_boot over live n run lives =
    live_moves h k c ks t n run (moves.rows n) no_boot over (live n run lives) lives

-- ---- L.knows

owner_put : (h : Holdings) (m : ℕ) (c : Command) (n live : ℕ) (i j : Instance) → RowPut h m c n i.row j.row
    → (i.row.number ≡ 0 → IsUnbegun i.row) → i.row.live ≡ Some live → i.row.owner ≡ j.row.owner
owner_put h m c n live i j (quiet q) zero is = by q.stays.owner
  where
    by : (i.row.number ≡ 0) ⊎ (j.row.owner ≡ i.row.owner) → i.row.owner ≡ j.row.owner
    by (inl z) = absurd (no_run i.row.live live (zero z).live is)
    by (inr e) = sym e
owner_put h m c n live i j (granted p e at g) zero is = by g.reads.owner
  where
    left : (s : Step) → (row_after_step g.read s (h.revision + 1)).owner ≡ g.read.owner
    left (Move to) = refl
    left (Start run snapshot d ignore base) = refl
    left (Stop to cause run) = refl
    left (Refresh run) = refl
    left (End to keep failed cause) = refl
    left (Note bits keep) = refl

    by : (i.row.number ≡ 0) ⊎ (g.read.owner ≡ i.row.owner) → i.row.owner ≡ j.row.owner
    by (inl z) = absurd (no_run i.row.live live (zero z).live is)
    by (inr d) = sym (ap (λ (r : Row). r.owner) g.left ∙ left p.step ∙ d)
owner_put h m c n live i j (handed e o) zero is = absurd (no_run i.row.live live o.rest.live is)

knows_moves : (h k : Holdings) (c : Command) (t : List Item) (x : Knowledge) (n live : ℕ) (j : Instance)
    → RowMoves h k.next_snapshot c n (instance h n) (instance k n) → (c ≡ commands.Boot → ⊥) → AreFit h
    → IsRowsLive h n live
    → instance k n ≡ Some j → j.row.owner ≡ x.name
    → ((i : Instance) → instance h n ≡ Some i → i.row.owner ≡ x.name → IsSome (run_at x n live))
    → IsSome (run_at x n live)
knows_moves h k c t x n live j (absent o p) no_boot fit r there mine knows =
    absurd (no_instance (instance h n) r.of o r.is_there)
knows_moves h k c t x n live j (joins l o p e f) no_boot fit r there mine knows =
    absurd (no_instance (instance h n) r.of o r.is_there)
knows_moves h k c t x n live j (boots i l owner o p e f) no_boot fit r there mine knows = absurd (no_boot e)
knows_moves h k c t x n live j (leaves i o p e rest) no_boot fit r there mine knows =
    absurd (no_instance (instance k n) j p there)
knows_moves h k c t x n live j (goes i l o p put) no_boot fit r there mine knows =
    let one : r.of ≡ i = one_instance (instance h n) r.of i r.is_there o in
    let same : l ≡ j = one_instance (instance k n) l j p there in
    let is : i.row.live ≡ Some live = subst (λ (y : Instance). y.row.live ≡ Some live) one r.live in
    knows i o (owner_put h k.next_snapshot c n live i l put (fit n i o).zero is
    ∙ ap (λ (y : Instance). y.row.owner) same ∙ mine)

pub knows_commanded : (h k : Holdings) (c : Command) (t : List Item) (x : Knowledge) → Moves h c k
    → (c ≡ commands.Boot → ⊥) → AreFit h → LiveInRows h t → KnowsLive h t x → KnowsLive k t x
knows_commanded h k c t x moves no_boot fit live knows up n run j there mine lives =
    knows_moves h k c t x n run j (moves.rows n) no_boot fit (live n run lives) there mine
    (λ i o e. knows up n run i o e lives)

-- ---- L.frees

fits_stays : (r s : Row) (p : Step) → Stays r s → frees p ≡ true → fits s p ≡ fits r p
fits_stays r s (Move to) st e = absurd cc
fits_stays r s (Start run snapshot d ignore base) st e = absurd cc
fits_stays r s (Stop to cause run) st e = absurd cc
fits_stays r s (Refresh run) st e = absurd cc
fits_stays r s (End to keep failed cause) st e = ap (λ (x : Row). fits x (End to keep failed cause)) st.same
fits_stays r s (Note bits keep) st e = ap (λ (x : Row). fits x (Note bits keep)) st.same

past_number : (q i j : ℕ) → j ≡ i + 1 → q ≡ j + 1 → q ≤ i + 1 → ⊥
past_number q i j e f le = omega arith

launch_before : (q a b : ℕ) → q ≤ a → a ≤ b → q ≡ b → q ≡ a
launch_before q a b e f g = omega arith

open_before : (h k : Holdings) (q : Proposal) (i : Instance) (o : IsOpen k q) → Stays i.row o.of.row
    → instance h q.instance ≡ Some i → IsProposal h q → launch_of h q.proposer ≤ launch_of k q.proposer
    → frees q.step ≡ true → IsOpen h q
open_before h k q i o st there proposal rises f =
    record {
      of = i;
      there = there;
      owner = by o.owner st.owner;
      launch = launch_before q.launch (launch_of h q.proposer) (launch_of k q.proposer) proposal.launch rises o.launch;
      number = o.number ∙ ap (λ (r : Row). r.number + 1) st.same;
      fits = sym (fits_stays i.row o.of.row q.step st f) ∙ o.fits;
    }
  where
    by : (o.of.row.number ≡ 0) ⊎ (o.of.row.owner ≡ q.proposer) → (i.row.number ≡ 0) ⊎ (o.of.row.owner ≡ i.row.owner)
        → (i.row.number ≡ 0) ⊎ (i.row.owner ≡ q.proposer)
    by (inl z) e = inl (sym (ap (λ (r : Row). r.number) st.same) ∙ z)
    by (inr e) (inl z) = inl z
    by (inr e) (inr d) = inr (sym d ∙ e)

frees_put : (h k : Holdings) (c : Command) (ks : List Knowledge) (t : List Item) (q : Proposal) (i j : Instance)
    (o : IsOpen k q) (run : ℕ) → instance h q.instance ≡ Some i → o.of ≡ j
    → RowPut h k.next_snapshot c q.instance i.row j.row
    → IsProposal h q → launch_of h q.proposer ≤ launch_of k q.proposer → FreesTheOver h ks t (messages.Propose q)
    → frees q.step ≡ true → o.of.row.live ≡ Some run → IsOver ks t q.instance run
unfolding open_before
frees_put h k c ks t q i j o run there one (quiet s) proposal rises over f is =
    let st : Stays i.row o.of.row = subst (λ (x : Instance). Stays i.row x.row) (sym one) s.stays in
    over (open_before h k q i o st there proposal rises f) run f (sym (ap (λ (r : Row). r.live) st.same) ∙ is)
frees_put h k c ks t q i j o run there one (granted p e at g) proposal rises over f is =
    let counted : j.row.number ≡ i.row.number + 1 =
    ap (λ (r : Row). r.number) g.left ∙ ap (λ (r : Row). r.number + 1) g.reads.same in
    absurd (past_number q.number i.row.number j.row.number counted
    (subst (λ (x : Instance). q.number ≡ x.row.number + 1) one o.number) (proposal.number i there))
frees_put h k c ks t q i j o run there one (handed e d) proposal rises over f is =
    absurd (past_number q.number i.row.number j.row.number (ap (λ (r : Row). r.number) d.left)
    (subst (λ (x : Instance). q.number ≡ x.row.number + 1) one o.number) (proposal.number i there))

frees_moves : (h k : Holdings) (c : Command) (ks : List Knowledge) (t : List Item) (q : Proposal)
    → RowMoves h k.next_snapshot c q.instance (instance h q.instance) (instance k q.instance) → IsProposal h q
    → launch_of h q.proposer ≤ launch_of k q.proposer
    → FreesTheOver h ks t (messages.Propose q) → FreesTheOver k ks t (messages.Propose q)
frees_moves h k c ks t q (absent o p) proposal rises over x run f is =
    absurd (no_instance (instance k q.instance) x.of p x.there)
frees_moves h k c ks t q (leaves i o p e rest) proposal rises over x run f is =
    absurd (no_instance (instance k q.instance) x.of p x.there)
frees_moves h k c ks t q (joins j o p e new) proposal rises over x run f is =
    let one : x.of ≡ j = one_instance (instance k q.instance) x.of j x.there p in
    absurd (no_run x.of.row.live run (ap (λ (y : Instance). y.row.live) one ∙ ap (λ (r : Row). r.live) new) is)
frees_moves h k c ks t q (boots i j owner o p e new) proposal rises over x run f is =
    let one : x.of ≡ j = one_instance (instance k q.instance) x.of j x.there p in
    absurd (no_run x.of.row.live run (ap (λ (y : Instance). y.row.live) one ∙ ap (λ (r : Row). r.live) new) is)
frees_moves h k c ks t q (goes i j o p put) proposal rises over x run f is =
    frees_put h k c ks t q i j x run o (one_instance (instance k q.instance) x.of j x.there p) put proposal rises over
    f is

-- a message of these
pub free_commanded : (h k : Holdings) (c : Command) (ks : List Knowledge) (t : List Item) (ms : List Message)
    (m : Message) → Moves h c k → IsSaid h ms m → FreesTheOver h ks t m → FreesTheOver k ks t m
free_commanded h k c ks t ms (messages.Propose q) moves said over =
    frees_moves h k c ks t q (moves.rows q.instance) said (moves.launches q.proposer) over
free_commanded h k c ks t ms (messages.Join name launch) moves said over = tt
free_commanded h k c ks t ms (messages.Rows name launch rows) moves said over = tt
free_commanded h k c ks t ms (messages.Ack name launch serial n row) moves said over = tt
free_commanded h k c ks t ms (messages.Nack name launch serial n why row) moves said over = tt
free_commanded h k c ks t ms messages.AskView moves said over = tt
free_commanded h k c ks t ms (messages.AskChange since) moves said over = tt
free_commanded h k c ks t ms (messages.View v) moves said over = tt
free_commanded h k c ks t ms (messages.Changes news) moves said over = tt
free_commanded h k c ks t ms (messages.Order o) moves said over = tt

pub all_free_commanded : (h k : Holdings) (c : Command) (ks : List Knowledge) (t : List Item) (all ms : List Message)
    → Moves h c k → Each (IsSaid h all) ms → AllFreeTheOver h ks t ms → AllFreeTheOver k ks t ms
all_free_commanded h k c ks t all [] moves said over = tt
all_free_commanded h k c ks t all (m ∷ ms) moves said over =
    (free_commanded h k c ks t all m moves said.0 over.0, all_free_commanded h k c ks t all ms moves said.1 over.1)
