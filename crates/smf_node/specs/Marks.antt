-- The marks and counts of a schedule, seen with the world that they belong to.
use Rattle.std.specs.Prelude.{◌≡◌, ℕ, List, ◌==◌, ◌&&◌, Bool, true, length, nat_le, reverse, take}
use Rattle.std.specs.List.{list_all}
use Rattle.smf_contract.specs.Entries.{has_members}
use Rattle.smf_past.specs.Forgotten.{IsCaughtUp}
use Rattle.smf_past.specs.Remains.{remains}
use Rattle.smf_world.specs.Schedule.{Progress, begun_at}
use Rattle.smf_world.specs.World.{World}
use Rattle.smf_node.specs.declared.marks.Marks.{Marks}

unfoldable pub progress_of : World → Marks → Progress
progress_of w m =
    record {
      world = w;
      delivered = reverse m.delivered.items;
      early = m.early.items;
      next = m.next;
      lost = m.lost.items;
      refuse = m.refuse;
      looked = m.looked;
      unheard = m.unheard.items;
      heard = m.heard.items;
    }

-- Each message was delivered in its turn, and none is still to be lost. All that happened to contracts was looked at, and
-- what nobody has heard of it is of contracts that have members.
unfoldable pub is_told : Progress → Bool
is_told p =
    nat_le (length p.world.sent) p.next
    && (length p.lost == 0
    && (p.looked == length p.world.table.events
    && list_all (λ e. has_members e.contract p.world.table.members) p.unheard))

-- the past may go
pub record MayForget (p : Progress) : Type 0 where
  pub told : is_told p ≡ true
  pub caught_up : IsCaughtUp p.world

-- the past goes, and what is over: messages that were sent before are gone, and their marks
abbrev pub remaining_progress : Progress → Progress
remaining_progress p =
    record (begun_at (remains p.world)) {
      refuse = p.refuse;
      looked = length (remains p.world).table.events;
      unheard = p.unheard;
      heard = p.heard;
    }

-- the places of the last messages that were delivered, the oldest of them first
unfoldable pub last_delivered : ℕ → Progress → List ℕ
last_delivered k p = reverse (take k p.delivered)
