-- After a boot that is refused the trail does not show how rows began.
use Rattle.std.proofs.Common.{◌≡◌, ◌≤◌, ◌==◌, ℕ, Bool, true, false, cond, List, [], ◌∷◌, Option, Some, None, refl, sym, subst, arith}
use Rattle.std.specs.Ordering.{is_eq, nat_cmp}
use Rattle.std.proofs.lemmas.Bool.Decides.{nat_tests}
use Rattle.smf_state.specs.Rows.{result_of_proposal, fresh}
use Rattle.smf_state.specs.declared.state.State.TheVariants.{Uninitialized, Disabled}
use Rattle.smf_model.specs.Contents.{Holdings}
use Rattle.smf_model.specs.declared.held.Instance.{Instance}
use Rattle.smf_model.specs.Dates.{IsDated, revision_of}
use Rattle.smf_model.specs.Laws.{IsIndexed, IsNumbered}
use Rattle.smf_model.specs.Look.{bare, groups_of, holdings_after_changes}
use Rattle.smf_state.specs.OwnName.{startd}
use Rattle.smf_model.specs.GeneralGroup.{current, is_instance_enabled, setting}
use Rattle.smf_model.specs.Shown.{view, rows_of}
use Rattle.smf_model.specs.Next.{answer, outcome_of_command, asked_boot, asked_edit, asked_launch, greatest, next}
use Rattle.smf_model.proofs.LawDates.{fresh_date}
use Rattle.smf_model.proofs.LawLists.{no_such, some_same}
use Rattle.smf_model.proofs.LawNumbers.{first_numbers}
use Rattle.smf_model.proofs.Names.{index_added}
use Rattle.smf_contract.specs.Called.{table_after_contract_call, emptied_by}
use Rattle.smf_engine.specs.Orders.{order}
use Rattle.smf_restarter.specs.Answers.{change_on_list}
use Rattle.smf_restarter.specs.Changes.{knowledge_after}
use Rattle.smf_restarter.specs.Replies.{reply_to_message}
use Rattle.smf_restarter.specs.Ticks.{own_tick}
use Rattle.smf_world.specs.declared.event.Event.{Event}
use Rattle.smf_world.specs.declared.event.Event.TheVariants as events
use Rattle.smf_world.specs.declared.item.Item.{Item}
use Rattle.smf_world.specs.declared.item.Item.TheVariants.{Boot, Committed}
use Rattle.smf_world.specs.Happens.{world_after, happens}
use Rattle.smf_world.specs.Items.{items_of}
use Rattle.smf_world.specs.Runs.{run}
use Rattle.smf_world.specs.Safe.{AlongTheDiagram, Last, RowFollows, commits}
use Rattle.smf_world.specs.Worked.{work_of_turn, answer_of, call_of, work_of_call, work_of_command, work_of_delivery, heard_by, work_of_event}
use Rattle.smf_world.specs.World.{initial_world}
use Rattle.smf_world.proofs.CommitLists.{has_not}
use Rattle.smf_world.proofs.Pushed.{last_commits}

abbrev alone : Instance
alone = record { number = 1; name = 97 ∷ []; row = fresh startd; start = None; previous = None }

-- one instance, and a restarter that cannot be launched again
abbrev pub limited : Holdings
limited = record {
  revision = 0;
  services = [];
  instances = record { instance = alone; groups = [] } ∷ [];
  names = record { name = alone.name; number = alone.number } ∷ [];
  snapshots = [];
  launches = record { restarter = 98 ∷ []; count = greatest } ∷ [];
  next_instance = 2;
  next_snapshot = 1;
}

-- svc.startd's restarter is launched and learns its row, and then an order
abbrev pub schedule : List Event
schedule =
    events.Launch startd ∷ events.OwnTick startd ∷ events.Deliver 0 ∷ events.Deliver 1 ∷ events.OwnTick startd
    ∷ events.Ask ∷ events.Deliver 2 ∷ events.Deliver 3 ∷ events.Orders ∷ events.Deliver 4 ∷ events.Deliver 5 ∷ []

shows : commits (run schedule (happens (initial_world limited) events.Boot)).trail ≡ Committed 1 1 Disabled None ∷ []
unfolding next outcome_of_command asked_boot asked_launch asked_edit answer result_of_proposal holdings_after_changes
    current is_instance_enabled setting view rows_of groups_of order knowledge_after reply_to_message change_on_list
    own_tick table_after_contract_call emptied_by items_of work_of_command work_of_delivery heard_by work_of_turn
    answer_of call_of work_of_call work_of_event world_after happens
shows = refl

is_other : (n : ℕ) → 2 ≤ n → (1 == n) ≡ false
is_other n le = grind (arith, nat_tests)

one_alone : (n : ℕ) → 2 ≤ n → is_eq (nat_cmp 1 n) ≡ false
one_alone n le = has_not 1 n (is_other n le)

one_indexed : IsIndexed (bare limited.instances) limited.names
one_indexed = index_added alone [] [] first_numbers.indexed refl refl

one_dated : IsDated limited
one_dated n i kind e = by (is_eq (nat_cmp 1 n)) e
  where
    by : (b : Bool) → cond b (Some alone) None ≡ Some i → revision_of kind i.row ≤ 0
    by true e =
        let zero_date : revision_of kind alone.row ≡ 0 = fresh_date kind startd in
        subst (λ (x : Instance). revision_of kind x.row ≤ 0) (some_same alone i e) (omega arith)
    by false e = absurd (no_such None i refl e)

pub limited_numbered : IsNumbered limited
limited_numbered =
    record {
      ordered = record { services = tt; instances = (tt, tt); names = (tt, tt); snapshots = tt; launches = (tt, tt) };
      first = omega arith;
      none_at_zero = refl;
      instances = λ n le. rw (one_alone n le) refl;
      snapshots = λ n le. refl;
      dated = one_dated;
      indexed = one_indexed;
    }

commits_along : (t : List Item) → AlongTheDiagram t → AlongTheDiagram (commits t)
commits_along [] a = a
commits_along (Committed j m state next ∷ t) a =
    (subst (λ (o : Option Last). RowFollows o m state) (sym (last_commits j t)) a.0, commits_along t a.1)
commits_along (Boot ∷ t) a = commits_along t a
commits_along (item ∷ t) a = commits_along t a

-- an instance that is first disabled
first_disabled : AlongTheDiagram (Committed 1 1 Disabled None ∷ []) → ⊥
first_disabled a = let e : Disabled ≡ Uninitialized = a.0 in cc

not_along : AlongTheDiagram (run schedule (happens (initial_world limited) events.Boot)).trail → ⊥
not_along a =
    first_disabled
    (subst AlongTheDiagram shows (commits_along (run schedule (happens (initial_world limited) events.Boot)).trail a))

pub boot_needed : (h : Holdings) × (es : List Event) × IsNumbered h
    × (AlongTheDiagram (run es (happens (initial_world h) events.Boot)).trail → ⊥)
boot_needed = (limited, schedule, limited_numbered, not_along)
