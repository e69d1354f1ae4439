-- The laws that hold for every repository and every command.
use Rattle.std.specs.Prelude.{◌≡◌, ◌⊎◌, ℕ, ◌+◌, ◌<◌, ◌≤◌, List, [], ◌∷◌, Bool, true, false, Option, Some, None, find}
use Rattle.smf_state.specs.declared.row.Row.{Row}
use Rattle.smf_state.specs.declared.state.State.TheVariants.{Uninitialized, Disabled}
use Rattle.smf_state.specs.declared.step.Proposal.{Proposal}
use Rattle.smf_state.specs.Rows.{GoesOn, fresh}
use Rattle.smf_model.specs.declared.command.Command.{Command}
use Rattle.smf_model.specs.declared.command.Command.TheVariants as commands
use Rattle.smf_model.specs.declared.command.Edit.TheVariants as asked_for
use Rattle.smf_model.specs.declared.command.CommandReply.{CommandReply}
use Rattle.smf_model.specs.declared.command.CommandReply.TheVariants.{Made, Granted, Done}
use Rattle.smf_fmri.specs.ByKey.{Rises, lookup}
use Rattle.smf_model.specs.declared.held.Instance.{Instance}
use Rattle.smf_model.specs.declared.held.InstanceName.{InstanceName}
use Rattle.smf_model.specs.declared.held.Snapshot.{Snapshot}
use Rattle.smf_model.specs.Dates.{IsDated}
use Rattle.smf_model.specs.Contents.{Holdings}
use Rattle.smf_model.specs.Look.{bare, by_entry, by_instance, by_launch, by_name, by_service}
use Rattle.smf_model.specs.Look.{by_snapshot, has_number, instance, instance_by_name, snapshot}
use Rattle.smf_model.specs.Next.{current_instance, is_again, next}

-- ---- replies

abbrev pub is_refusal : CommandReply → Bool
is_refusal (Made n) = false
is_refusal (Granted row) = false
is_refusal Done = false
is_refusal _ = true

-- the answer to an accepted command that is no proposal
abbrev pub is_accepted : CommandReply → Bool
is_accepted (Made n) = true
is_accepted Done = true
is_accepted _ = false

-- the proposal that was granted last is granted again, and leaves what is held
abbrev pub IsGrantedAgain : Holdings → Proposal → Instance → Type 0
IsGrantedAgain h p i =
    current_instance h p.instance ≡ Some i → is_again i.row p ≡ true → next h (commands.Propose p) ≡ (h, Granted i.row)

-- a command that is accepted makes one revision
abbrev pub MakesRevision : Holdings → Command → Type 0
MakesRevision h c = is_accepted (next h c).1 ≡ true → (next h c).0.revision ≡ h.revision + 1

-- ---- numbers

-- every list stands in the order of its keys
pub record IsOrdered (h : Holdings) : Type 0 where
  pub services : Rises by_service h.services
  pub instances : Rises by_entry h.instances
  pub names : Rises by_name h.names
  pub snapshots : Rises by_snapshot h.snapshots
  pub launches : Rises by_launch h.launches

-- each name that is given is that of the instance with its number, and each instance has been given its name
pub record IsIndexed (is : List Instance) (names : List InstanceName) : Type 0 where
  pub right : (name : List ℕ) (e : InstanceName) → lookup by_name names name ≡ Some e
      → (i : Instance) × (lookup by_instance is e.number ≡ Some i) × (i.name ≡ name)
  pub whole : (n : ℕ) (i : Instance) → lookup by_instance is n ≡ Some i
      → lookup by_name names i.name ≡ Some (record { name = i.name; number = n })

-- every list is in order, and numbers of instances begin at 1. No instance or snapshot has the next number of its kind,
-- or a greater one. No row keeps a revision that is still to come. Instances are found by their names
pub record IsNumbered (h : Holdings) : Type 0 where
  pub ordered : IsOrdered h
  pub first : 1 ≤ h.next_instance
  pub none_at_zero : instance h 0 ≡ None
  pub instances : (n : ℕ) → h.next_instance ≤ n → instance h n ≡ None
  pub snapshots : (n : ℕ) → h.next_snapshot ≤ n → snapshot h n ≡ None
  pub dated : IsDated h
  pub indexed : IsIndexed (bare h.instances) h.names

-- no number is found a second time
abbrev pub AreApart : List Instance → Type 0
AreApart [] = Unit {0}
AreApart (i ∷ is) = (find (has_number i.number) is ≡ None) × AreApart is

-- an instance whose number was given, and that is gone, stays gone
abbrev pub InstanceStaysGone : Holdings → Command → ℕ → Type 0
InstanceStaysGone h c n = n < h.next_instance → instance h n ≡ None → instance (next h c).0 n ≡ None

abbrev pub SnapshotStaysGone : Holdings → Command → ℕ → Type 0
SnapshotStaysGone h c n = n < h.next_snapshot → snapshot h n ≡ None → snapshot (next h c).0 n ≡ None

abbrev pub add_instance_command : List ℕ → List ℕ → Command
add_instance_command service name = commands.Edit (asked_for.AddInstance service name)

-- an instance that is added gets the number that came next
abbrev pub GetsNextNumber : Holdings → List ℕ → List ℕ → ℕ → Type 0
GetsNextNumber h service name n =
    (next h (add_instance_command service name)).1 ≡ Made n
    → (n ≡ h.next_instance) × ((next h (add_instance_command service name)).0.next_instance ≡ n + 1)

-- ---- names

abbrev pub IsFoundByName : Holdings → ℕ → Instance → Type 0
IsFoundByName h n i = instance h n ≡ Some i → instance_by_name h i.name ≡ Some i

abbrev pub HasTheName : Holdings → List ℕ → Instance → Type 0
HasTheName h name i = instance_by_name h name ≡ Some i → i.name ≡ name

-- ---- snapshots

-- a snapshot stays as it is, or its instance is deleted
abbrev pub SnapshotStays : Holdings → Command → ℕ → Snapshot → Type 0
SnapshotStays h c n s =
    snapshot h n ≡ Some s
    → (snapshot (next h c).0 n ≡ Some s) ⊎ (c ≡ commands.Edit (asked_for.DeleteInstance s.instance))

-- ---- rows

-- neither the number of the row of instance n nor its greatest run falls
abbrev pub RowRises : Holdings → Command → ℕ → Instance → Instance → Type 0
RowRises h c n i j =
    instance h n ≡ Some i
    → instance (next h c).0 n ≡ Some j
    → (i.row.number ≤ j.row.number) × (i.row.last ≤ j.row.last)

-- a row stays but for its asks, the snapshot `running` and the last refresh.
-- Its owner stays if its number is not 0
pub record Stays (before after : Row) : Type 0 where
  pub same : after
      ≡ record before { owner = after.owner; asks = after.asks; running = after.running; refresh = after.refresh }
  pub owner : (before.number ≡ 0) ⊎ (after.owner ≡ before.owner)

-- uninitialized under the next number, with nothing under way, no live run and no granted proposal;
-- the greatest run stays
pub record BeginsAnew (before after : Row) : Type 0 where
  pub number : after.number ≡ before.number + 1
  pub state : after.state ≡ Uninitialized
  pub next : after.next ≡ None
  pub live : after.live ≡ None
  pub side : after.side ≡ None
  pub last : after.last ≡ before.last
  pub launch : after.launch ≡ 0
  pub serial : after.serial ≡ 0

-- how the row of the instance n goes on under a command
pub data RowFollows (c : Command) (n : ℕ) (before after : Row) : Type 0 where
  stays : Stays before after → RowFollows c n before after
  steps : (p : Proposal) → c ≡ commands.Propose p → p.instance ≡ n → GoesOn before after → RowFollows c n before after
  boots : c ≡ commands.Boot → BeginsAnew before after → RowFollows c n before after
  moves : c ≡ commands.Edit (asked_for.Refresh n) → (before.state ≡ Uninitialized) ⊎ (before.state ≡ Disabled)
      → BeginsAnew before after → RowFollows c n before after

-- the instance n after a command, by what it was before: an instance that was not there has the fresh row of its owner
abbrev pub Follows : Command → ℕ → Option Instance → Instance → Type 0
Follows c n None after = after.row ≡ fresh after.row.owner
Follows c n (Some before) after = RowFollows c n before.row after.row

abbrev pub RowGoesOn : Holdings → Command → ℕ → Instance → Type 0
RowGoesOn h c n j = instance (next h c).0 n ≡ Some j → Follows c n (instance h n) j
