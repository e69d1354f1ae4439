-- What children tell, and what comes of what is asked of them.
use Rattle.std.specs.Prelude.{ℕ, List, [], ◌∷◌, Bool, true, false, if◌then◌else◌, Option, Some, None, is_some, option_map}
use Rattle.smf_contract.specs.declared.contract.Member.{Member}
use Rattle.smf_contract.specs.declared.event.ContractEvent.{ContractEvent}
use Rattle.smf_contract.specs.declared.event.EventKind.{EventKind}
use Rattle.smf_contract.specs.declared.event.EventKind.TheVariants as kinds
use Rattle.smf_contract.specs.declared.event.Failure.TheVariants.{Core, Signal, Hwerr}
use Rattle.smf_contract.specs.Entries.{Contracts, first_member, has_members, home}
use Rattle.smf_world.specs.declared.event.Event.{Event as WorldEvent}
use Rattle.smf_world.specs.declared.event.Event.TheVariants as events
use Rattle.smf_world.specs.declared.event.ProcessEvent.{ProcessEvent}
use Rattle.smf_world.specs.declared.event.ProcessEvent.TheVariants.{Fork, Exit, Fail}
use Rattle.smf_world.specs.declared.work.Work.{Work}
use Rattle.smf_world.specs.Happens.{world_after, happens}
use Rattle.smf_world.specs.World.{World}
use Rattle.smf_machine.specs.declared.polls.News.{News}

-- ---- what comes of what is asked

abbrev pub done_if : Bool → World → Work → World
done_if true w k = world_after w k
done_if false w k = w

abbrev pub happens_if : Bool → World → WorldEvent → World
happens_if true w e = happens w e
happens_if false w e = w

-- ---- what is told

abbrev pub news : ProcessEvent → ℕ → News
news what p = record { process = p; what = what }

-- the news of an event for a process; a fork may have come of any member of the contract, which is the same
abbrev pub news_of_kind : Contracts → ℕ → EventKind → Option News
news_of_kind t id kinds.Empty = None
news_of_kind t id (kinds.Fork p) = option_map (news Fork) (first_member id t.members)
news_of_kind t id (kinds.Exit p exit) = Some (news (Exit exit) p)
news_of_kind t id (kinds.Core p) = Some (news (Fail Core) p)
news_of_kind t id (kinds.Signal p) = Some (news (Fail Signal) p)
news_of_kind t id (kinds.Hwerr p) = Some (news (Fail Hwerr) p)

abbrev pub news_if : Bool → News → Option News
news_if true n = Some n
news_if false n = None

abbrev pub news_in : Contracts → Option News → Option News
news_in t None = None
news_in t (Some n) = news_if (is_some (home t.members n.process)) n

-- its news, if the process has not ended
unfoldable pub news_of : Contracts → ContractEvent → Option News
news_of t e = news_in t (news_of_kind t e.contract e.kind)

abbrev pub world_after_news : Option News → World → World
world_after_news None w = w
world_after_news (Some n) w = happens w (events.Process n.process n.what)

-- the event that children gave, or none, happened
abbrev pub world_after_poll : Option ContractEvent → World → World
world_after_poll None w = w
world_after_poll (Some e) w = world_after_news (news_of w.table e) w

-- the contract that a process was in, if it has no members now
abbrev pub emptied_one : List Member → Option ℕ → List ℕ
emptied_one ms None = []
emptied_one ms (Some id) = if has_members id ms then [] else id ∷ []
