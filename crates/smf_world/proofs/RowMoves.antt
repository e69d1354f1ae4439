-- The effect of a command on the row of an instance, and the answer to a proposal.
use Rattle.std.specs.Prelude.{◌≡◌, ◌⊎◌, ◌+◌, ◌≤◌, ℕ, true, false, List, [], Option, Some, None}
use Rattle.smf_fmri.specs.ByKey.{list_with_item as put_in, without}
use Rattle.smf_state.specs.declared.row.Row.{Row}
use Rattle.smf_state.specs.declared.state.State.TheVariants.{Uninitialized, Disabled}
use Rattle.smf_state.specs.declared.step.Proposal.{Proposal}
use Rattle.smf_state.specs.Rows.{fresh, row_with_numbers, refusal, row_after_step}
use Rattle.smf_state.specs.States.{runs}
use Rattle.smf_model.specs.declared.change.Outcome.{Outcome}
use Rattle.smf_model.specs.declared.command.Command.{Command}
use Rattle.smf_model.specs.declared.command.Command.TheVariants as commands
use Rattle.smf_model.specs.declared.command.Edit.TheVariants as edits
use Rattle.smf_model.specs.declared.command.CommandReply.TheVariants as replies
use Rattle.smf_state.specs.declared.refusal.Why.{Why}
use Rattle.smf_state.specs.declared.refusal.Why.TheVariants as whys
use Rattle.smf_model.specs.declared.held.Instance.{Instance}
use Rattle.smf_model.specs.Contents.{Holdings}
use Rattle.smf_model.specs.Laws.{IsNumbered, Stays}
use Rattle.smf_model.specs.Look.{by_instance, holdings_after_changes, instance, instances, launch_of, put_over}
use Rattle.smf_model.specs.Next.{instance_after_boot, booted_row, is_again, is_other_snapshot, moved_row, new_instance}
use Rattle.smf_model.specs.GeneralGroup.{Groups, current}
use Rattle.smf_model.proofs.Written.{AreHeldAtZero, put_each}
use Rattle.smf_world.proofs.RowClauses.{fits}

-- ---- one row

-- a row as it is read: while its number is 0 its owner may be another
pub record IsRead (before read : Row) : Type 0 where
  pub same : read ≡ record before { owner = read.owner }
  pub owner : (before.number ≡ 0) ⊎ (read.owner ≡ before.owner)

-- the snapshot stays, or is the one that is taken now; m is the number that comes next after it
abbrev pub TakesOrKeeps : Holdings → ℕ → Row → Row → Type 0
TakesOrKeeps h m before after =
    (after.running ≡ before.running) ⊎ ((after.running ≡ Some h.next_snapshot) × (m ≡ h.next_snapshot + 1))

-- it stays but for what is asked, the snapshot, the last refresh, and the owner under number 0
pub record IsQuiet (h : Holdings) (m : ℕ) (before after : Row) : Type 0 where
  pub stays : Stays before after
  pub running : TakesOrKeeps h m before after

-- nothing is under way
pub record IsAtRest (r : Row) : Type 0 where
  pub stopped : runs r.state ≡ false
  pub next : r.next ≡ None
  pub live : r.live ≡ None
  pub side : r.side ≡ None

-- a proposal is granted anew: it is the owner's, of its last launch, of the next number, and its step fits. The step
-- makes the row, with the proposal's launch and serial
pub record IsGrant (h : Holdings) (m : ℕ) (p : Proposal) (before after : Row) : Type 0 where
  pub read : Row
  pub reads : IsRead before read
  pub owner : read.owner ≡ p.proposer
  pub launch : p.launch ≡ launch_of h p.proposer
  pub number : p.number ≡ before.number + 1
  pub fits : fits before p.step ≡ true
  pub new : is_again read p ≡ false
  pub left : after ≡ record (row_with_numbers (row_after_step read p.step (h.revision + 1)) (read.number + 1) p)
      { running = after.running }
  pub running : TakesOrKeeps h m before after
  pub first : (after.running ≡ before.running) ⊎ (before.state ≡ Uninitialized)

-- a row moves to another restarter
pub record IsHandedOver (h : Holdings) (m : ℕ) (before after : Row) : Type 0 where
  pub owner : List ℕ
  pub rest : IsAtRest before
  pub state : (before.state ≡ Uninitialized) ⊎ (before.state ≡ Disabled)
  pub left : after ≡ moved_row before h.next_snapshot owner
  pub taken : m ≡ h.next_snapshot + 1

-- ---- all rows

-- a row that a command puts over another; m is the number of the snapshot that comes next
pub data RowPut (h : Holdings) (m : ℕ) (c : Command) (n : ℕ) (before after : Row) : Type 0 where
  quiet : IsQuiet h m before after → RowPut h m c n before after
  granted : (p : Proposal) → c ≡ commands.Propose p → p.instance ≡ n → IsGrant h m p before after
      → RowPut h m c n before after
  handed : c ≡ commands.Edit (edits.Refresh n) → IsHandedOver h m before after → RowPut h m c n before after

-- the list of instances that a command makes
pub data ListPut (h : Holdings) (m : ℕ) (c : Command) (xs : List Instance) : Type 0 where
  alike : xs ≡ instances h → ListPut h m c xs
  joined : (name : List ℕ) → xs ≡ put_in by_instance (new_instance h name) (instances h) → ListPut h m c xs
  left : (n : ℕ) (i : Instance) → instance h n ≡ Some i → c ≡ commands.Edit (edits.DeleteInstance n) → IsAtRest i.row
      → xs ≡ without by_instance n (instances h) → ListPut h m c xs
  put : (n : ℕ) (i x : Instance) → instance h n ≡ Some i → x.number ≡ n → RowPut h m c n i.row x.row
      → xs ≡ put_over x (instances h) → ListPut h m c xs
  each : c ≡ commands.Boot → (gs : Groups) → xs ≡ put_each (instance_after_boot gs) (instances h) (instances h)
      → ListPut h m c xs

-- the list that it leaves: owners may be written afterwards, into rows with number 0
pub data ListLeft (h : Holdings) (m : ℕ) (c : Command) (xs : List Instance) : Type 0 where
  as_put : ListPut h m c xs → ListLeft h m c xs
  written : (ys : List Instance) → ListPut h m c ys → (gs : Groups) (js : List Instance)
      → (IsNumbered h → AreHeldAtZero ys js) → xs ≡ put_each (current gs) js ys → ListLeft h m c xs

-- the instance n before a command and after it
pub data RowMoves (h : Holdings) (m : ℕ) (c : Command) (n : ℕ) (o p : Option Instance) : Type 0 where
  absent : o ≡ None → p ≡ None → RowMoves h m c n o p
  goes : (i j : Instance) → o ≡ Some i → p ≡ Some j → RowPut h m c n i.row j.row → RowMoves h m c n o p
  joins : (j : Instance) → o ≡ None → p ≡ Some j → n ≡ h.next_instance → j.row ≡ fresh j.row.owner
      → RowMoves h m c n o p
  leaves : (i : Instance) → o ≡ Some i → p ≡ None → c ≡ commands.Edit (edits.DeleteInstance n) → IsAtRest i.row
      → RowMoves h m c n o p
  boots : (i j : Instance) (owner : List ℕ) → o ≡ Some i → p ≡ Some j → c ≡ commands.Boot
      → j.row ≡ booted_row i.row owner → RowMoves h m c n o p

-- the value that a command makes, if it makes a revision
pub record Moves (h : Holdings) (c : Command) (k : Holdings) : Type 0 where
  pub rows : (n : ℕ) → RowMoves h k.next_snapshot c n (instance h n) (instance k n)
  pub revision : k.revision ≡ h.revision + 1
  pub next_instance : h.next_instance ≤ k.next_instance
  pub next_snapshot : h.next_snapshot ≤ k.next_snapshot
  pub launches : (name : List ℕ) → launch_of h name ≤ launch_of k name

-- ---- answers

-- why a proposal is refused, with the row as it is read
abbrev pub Refuses : Holdings → Proposal → Why → Option Row → Type 0
Refuses h p whys.NoSuch None = instance h p.instance ≡ None
Refuses h p whys.Launch (Some r) = (p.launch ≡ 0) ⊎ (p.launch ≡ launch_of h p.proposer → ⊥)
Refuses h p whys.Owner (Some r) = r.owner ≡ p.proposer → ⊥
Refuses h p whys.Number (Some r) = (r.owner ≡ p.proposer) × (p.number ≡ r.number + 1 → ⊥)
Refuses h p whys.Snapshot (Some r) = (r.owner ≡ p.proposer) × (is_other_snapshot r p.step ≡ true)
Refuses h p (whys.Step fault) (Some r) = (r.owner ≡ p.proposer) × (refusal r p.step ≡ Some fault)
Refuses h p why r = ⊥

-- the row of n as it is read, if it is there
abbrev pub IsRowRead : Holdings → ℕ → Option Row → Type 0
IsRowRead h n None = instance h n ≡ None
IsRowRead h n (Some r) = (i : Instance) × (instance h n ≡ Some i) × IsRead i.row r

pub record IsRefused (h : Holdings) (p : Proposal) (why : Why) (r : Option Row) : Type 0 where
  pub row : IsRowRead h p.instance r
  pub reason : Refuses h p why r

-- the proposal was the last that was granted to the row
pub record IsAgain (h : Holdings) (p : Proposal) (r : Row) : Type 0 where
  pub of : Instance
  pub there : instance h p.instance ≡ Some of
  pub reads : IsRead of.row r
  pub owner : r.owner ≡ p.proposer
  pub launch : r.launch ≡ p.launch
  pub serial : r.serial ≡ p.serial

pub record IsGranted (h : Holdings) (p : Proposal) (k : Holdings) (r : Row) : Type 0 where
  pub before : Instance
  pub after : Instance
  pub there : instance h p.instance ≡ Some before
  pub is : instance k p.instance ≡ Some after
  pub row : after.row ≡ r
  pub grant : IsGrant h k.next_snapshot p before.row after.row

-- the answer to a proposal
pub data Answers (h : Holdings) (p : Proposal) (a : Outcome) : Type 0 where
  anew : (r : Row) → a.reply ≡ replies.Granted r → IsGranted h p (holdings_after_changes h a.changes) r → Answers h p a
  again : (r : Row) → a.reply ≡ replies.Granted r → a.changes ≡ [] → IsAgain h p r → Answers h p a
  refused : (why : Why) (r : Option Row) → a.reply ≡ replies.Stale why r → a.changes ≡ [] → IsRefused h p why r
      → Answers h p a
  limited : a.reply ≡ replies.Limit → a.changes ≡ [] → Answers h p a
