-- How instances begin anew: at a move to another restarter, and at a boot.
use Rattle.std.specs.Prelude.{◌≡◌, ◌⊎◌, ◌+◌, ◌<◌, ℕ, List, true, false, Some, None, filter, not, option_map}
use Rattle.std.specs.Int.RustNames.{bit_or}
use Rattle.smf_fmri.specs.ByKey.{lookup}
use Rattle.smf_state.specs.declared.row.Row.{Row}
use Rattle.smf_state.specs.declared.state.State.TheVariants.{Uninitialized, Disabled}
use Rattle.smf_state.specs.Rows.{greatest_number}
use Rattle.smf_state.specs.States.{runs}
use Rattle.smf_value.specs.Groups.{GroupRecord}
use Rattle.smf_model.specs.declared.command.Command.{Command}
use Rattle.smf_model.specs.declared.command.Command.TheVariants as commands
use Rattle.smf_model.specs.declared.command.Edit.TheVariants as asked_for
use Rattle.smf_model.specs.declared.command.CommandReply.{CommandReply}
use Rattle.smf_model.specs.declared.command.CommandReply.TheVariants.{Done, Limit}
use Rattle.smf_model.specs.declared.held.Instance.{Instance}
use Rattle.smf_model.specs.declared.held.Launch.{Launch}
use Rattle.smf_model.specs.declared.held.Owner.{Owner}
use Rattle.smf_model.specs.Contents.{Holdings}
use Rattle.smf_model.specs.Laws.{BeginsAnew}
use Rattle.smf_model.specs.Look.{by_launch, groups_of, instance, groups_if_there}
use Rattle.smf_model.specs.Next.{greatest, next}
use Rattle.smf_model.specs.GeneralGroup.{is_readable, owner_by, setting}
use Rattle.smf_laws.specs.Effects.{IsSnapped}

-- a row begins anew, with nothing asked and no failure counted
pub record BeginsClean (before after : Row) : Type 0 where
  pub anew : BeginsAnew before after
  pub asks : after.asks.0 ≡ 0
  pub failed : after.failed ≡ 0

-- a granted step counts a row on
abbrev pub IsStep : Command → Type 0
IsStep (commands.Propose p) = Unit {0}
IsStep _ = ⊥

-- a row whose number is another by no granted step begins anew
abbrev pub BeginsOrStays : Holdings → Command → ℕ → Instance → Instance → Type 0
BeginsOrStays h c n i j =
    instance h n ≡ Some i → instance (next h c).0 n ≡ Some j → (IsStep c → ⊥)
    → (j.row.number ≡ i.row.number) ⊎ BeginsClean i.row j.row

-- ---- refresh

abbrev pub refresh_command : ℕ → Command
refresh_command n = commands.Edit (asked_for.Refresh n)

-- `general/restarter` can be read, and means another than the owner
pub record IsToMove (i : Instance) (h : Holdings) : Type 0 where
  pub readable : is_readable (setting (groups_of h) i) ≡ true
  pub other : owner_by (setting (groups_of h) i) ≡ i.row.owner → ⊥

-- it is uninitialized or disabled, with nothing under way and no run
pub record IsIdle (r : Row) : Type 0 where
  pub state : (r.state ≡ Uninitialized) ⊎ (r.state ≡ Disabled)
  pub next : r.next ≡ None
  pub live : r.live ≡ None
  pub side : r.side ≡ None

-- i was idle, and begins anew as j under the restarter that was set
pub record IsMoved (i : Instance) (h : Holdings) (j : Instance) : Type 0 where
  pub was_idle : IsIdle i.row
  pub anew : BeginsClean i.row j.row
  pub owner : j.row.owner ≡ owner_by (setting (groups_of h) i)
  pub cause : j.row.cause ≡ None
  pub running : j.row.running ≡ Some h.next_snapshot
  pub rest : j
      ≡ record i {
        row = record i.row {
          owner = j.row.owner;
          number = j.row.number;
          state = j.row.state;
          failed = j.row.failed;
          asks = j.row.asks;
          cause = j.row.cause;
          running = j.row.running;
          launch = j.row.launch;
          serial = j.row.serial;
        };
      }

-- i becomes j under the same restarter. If it runs, its refresh method is asked for
pub record IsRefreshed (i : Instance) (h : Holdings) (j : Instance) : Type 0 where
  pub running : j.row.running ≡ Some h.next_snapshot
  pub runs_on : runs i.row.state ≡ true
      → (j.row.refresh ≡ h.revision + 1) × (j.row.asks.0 ≡ bit_or i.row.asks.0 128)
  pub idles_on : runs i.row.state ≡ false → (j.row.refresh ≡ i.row.refresh) × (j.row.asks ≡ i.row.asks)
  pub rest : j
      ≡ record i {
        row = record i.row { running = j.row.running; refresh = j.row.refresh; asks = j.row.asks };
      }

-- i was refreshed. It moves if another restarter is set, and stays if not
pub record IsAfterRefresh (i : Instance) (h k : Holdings) : Type 0 where
  pub after : Instance
  pub is_there : instance k i.number ≡ Some after
  pub moves : IsToMove i h → IsMoved i h after
  pub stays : (IsToMove i h → ⊥) → IsRefreshed i h after
  pub snapped : IsSnapped i h k
  pub others : (m : ℕ) → (m ≡ i.number → ⊥) → instance k m ≡ instance h m
  pub groups : (owner : Owner) → groups_if_there k owner ≡ groups_if_there h owner
  pub names : k.names ≡ h.names
  pub launches : k.launches ≡ h.launches
  pub next_instance : k.next_instance ≡ h.next_instance
  pub revision : k.revision ≡ h.revision + 1

-- ---- boot

-- no launch and no row number is at its last, and a revision is left
pub record MayBoot (h : Holdings) : Type 0 where
  pub launches : (name : List ℕ) (l : Launch) → lookup by_launch h.launches name ≡ Some l → l.count < greatest
  pub numbers : (n : ℕ) (i : Instance) → instance h n ≡ Some i → i.row.number < greatest_number
  pub revision : h.revision < greatest

-- a boot is done if it may be, and is past a limit if not
abbrev pub IsBootAnswer : Holdings → CommandReply → Type 0
IsBootAnswer h r = ((r ≡ Done) × MayBoot h) ⊎ ((r ≡ Limit) × (MayBoot h → ⊥))

abbrev pub once_more : Launch → Launch
once_more l = record { restarter = l.restarter; count = l.count + 1 }

abbrev pub persistent_groups : List GroupRecord → List GroupRecord
persistent_groups gs = filter (λ g. not g.non_persistent) gs

-- i begins anew as j under the restarter that is set then
pub record BeginsAgain (i : Instance) (k : Holdings) (j : Instance) : Type 0 where
  pub anew : BeginsClean i.row j.row
  pub owner : j.row.owner ≡ owner_by (setting (groups_of k) i)
  pub rest : j
      ≡ record i {
        row = record i.row {
          owner = j.row.owner;
          number = j.row.number;
          state = j.row.state;
          next = j.row.next;
          live = j.row.live;
          side = j.row.side;
          failed = j.row.failed;
          asks = j.row.asks;
          launch = j.row.launch;
          serial = j.row.serial;
        };
      }

-- each restarter is launched once more, each instance begins anew, and no group is left that does not outlast a boot
pub record IsBooted (h k : Holdings) : Type 0 where
  pub launches : (name : List ℕ)
      → lookup by_launch k.launches name ≡ option_map once_more (lookup by_launch h.launches name)
  pub anew : (n : ℕ) (i : Instance) → instance h n ≡ Some i
      → (j : Instance) × (instance k n ≡ Some j) × BeginsAgain i k j
  pub no_more : (n : ℕ) → instance h n ≡ None → instance k n ≡ None
  pub groups : (owner : Owner) → groups_if_there k owner ≡ option_map persistent_groups (groups_if_there h owner)
  pub names : k.names ≡ h.names
  pub snapshots : k.snapshots ≡ h.snapshots
  pub next_instance : k.next_instance ≡ h.next_instance
  pub next_snapshot : k.next_snapshot ≡ h.next_snapshot
  pub revision : k.revision ≡ h.revision + 1
