-- At most one start of an instance lives, whatever happens after a boot of the value that was found.
use Rattle.std.proofs.Common.{◌≡◌, ◌⊎◌, ℕ, List, [], ◌∷◌, inl, inr}
use Rattle.smf_model.specs.declared.command.Command.TheVariants as commands
use Rattle.smf_model.specs.declared.command.CommandReply.TheVariants as replies
use Rattle.smf_model.specs.Contents.{Holdings}
use Rattle.smf_model.specs.Laws.{IsNumbered}
use Rattle.smf_model.specs.Next.{next}
use Rattle.smf_wire.specs.declared.message.Message.{Message}
use Rattle.smf_wire.specs.declared.message.Message.TheVariants as messages
use Rattle.smf_world.specs.declared.event.Event.{Event}
use Rattle.smf_world.specs.declared.event.Event.TheVariants as events
use Rattle.smf_world.specs.declared.item.Item.{Item}
use Rattle.smf_world.specs.Happens.{happens}
use Rattle.smf_world.specs.Runs.{run}
use Rattle.smf_world.specs.Safe.{OneLive}
use Rattle.smf_world.specs.World.{World, initial_world}
use Rattle.smf_safety.proofs.KnowStarts.{Stands, owed_fresh, owed_well, stands_event, stands_first}
use Rattle.smf_safety.proofs.LiveClauses.{AllFreeTheOver, LiveInRows, Lives}
use Rattle.smf_world.proofs.LiveEach.{each_all}
use Rattle.smf_safety.proofs.LiveEvents.{IsStartOf, lives_event}
use Rattle.smf_safety.proofs.LiveKnows.{knows_event, knows_first}
use Rattle.smf_world.proofs.LiveLists.{Each}
use Rattle.smf_safety.proofs.LiveOverFrees.{frees_event}
use Rattle.smf_safety.proofs.LiveOverOpen.{FreesTheDead, all_free_over}
use Rattle.smf_safety.proofs.LiveOverRows.{live_event}
use Rattle.smf_safety.proofs.LiveStarts.{one_live_event, one_live_first}
use Rattle.smf_safety.proofs.LiveTrue.{KnowsWell}
use Rattle.smf_safety.proofs.TablesClauses.{IsTable}
use Rattle.smf_safety.proofs.TablesKept.{first_table, table_event}

-- the clauses on a world, its contract table and its starts that live hold
pub record LivesWell (w : World) : Type 0 where
  pub stands : Stands w
  pub table : IsTable w.table w.trail
  pub live : LiveInRows w.now w.trail
  pub frees : AllFreeTheOver w.now w.restarters w.trail w.sent
  pub knows : Each (KnowsWell w.now w.trail) w.restarters
  pub one : OneLive w.trail

pub lives_well_event : (w : World) (e : Event) → LivesWell w → LivesWell (happens w e)
lives_well_event w e s =
    record {
      stands = stands_event w e s.stands;
      table = table_event w e s.table;
      live = live_event w e s.stands s.frees s.live s.one;
      frees = frees_event w e s.stands s.frees s.knows;
      knows = knows_event w e s.stands s.table s.live s.knows;
      one = one_live_event w e (owed_fresh w s.stands) (owed_well w s.stands)
          (record { live = s.live; once = s.stands.once; one = s.one });
    }

pub lives_well_run : (es : List Event) (w : World) → LivesWell w → LivesWell (run es w)
lives_well_run [] w s = s
lives_well_run (e ∷ es) w s = lives_well_run es (happens w e) (lives_well_event w e s)

-- ---- a boot of what was found

nothing_lives : (h : Holdings) (n run : ℕ) → Lives n run (happens (initial_world h) events.Boot).trail → ⊥
nothing_lives h n run l = by (lives_event (initial_world h) events.Boot n run l)
  where
    by : Lives n run [] ⊎ IsStartOf [] n run → ⊥
    by (inl x) = x
    by (inr s) = s.by.is_launched

none_frees : (h : Holdings) (t : List Item) → ((n run : ℕ) → Lives n run t → ⊥) → (m : Message) → FreesTheDead h t m
none_frees h t none (messages.Propose q) = λ o run free live lives. none q.instance run lives
none_frees h t none (messages.Join name launch) = tt
none_frees h t none (messages.Rows name launch rows) = tt
none_frees h t none (messages.Ack name launch serial n row) = tt
none_frees h t none (messages.Nack name launch serial n why row) = tt
none_frees h t none messages.AskView = tt
none_frees h t none (messages.AskChange since) = tt
none_frees h t none (messages.View v) = tt
none_frees h t none (messages.Changes news) = tt
none_frees h t none (messages.Order o) = tt

pub lives_well_first : (h : Holdings) → IsNumbered h → (next h commands.Boot).1 ≡ replies.Done
    → LivesWell (happens (initial_world h) events.Boot)
lives_well_first h numbered done =
    let w : World = happens (initial_world h) events.Boot in
    let s : Stands w = stands_first h numbered done in
    record {
      stands = s;
      table = table_event (initial_world h) events.Boot first_table;
      live = λ n run l. absurd (nothing_lives h n run l);
      frees = all_free_over w.history w.now w.sent w.trail w.restarters s.informed.informed s.rows.fit
          (each_all (FreesTheDead w.now w.trail) (none_frees w.now w.trail (nothing_lives h)) w.sent);
      knows = knows_first h;
      one = one_live_first h;
    }

pub run_lives_well : (h : Holdings) (es : List Event) → IsNumbered h → (next h commands.Boot).1 ≡ replies.Done
    → LivesWell (run es (happens (initial_world h) events.Boot))
run_lives_well h es numbered done =
    lives_well_run es (happens (initial_world h) events.Boot) (lives_well_first h numbered done)

-- at most one start lives
pub run_lives : (h : Holdings) (es : List Event) → IsNumbered h → (next h commands.Boot).1 ≡ replies.Done
    → OneLive (run es (happens (initial_world h) events.Boot)).trail
run_lives h es numbered done = (run_lives_well h es numbered done).one
