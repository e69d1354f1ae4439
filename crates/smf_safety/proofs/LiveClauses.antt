-- Runs: which were begun, which live, and what restarters know of them.
use Rattle.std.specs.Prelude.{◌≡◌, ◌⊎◌, ℕ, ◌==◌, not, List, [], ◌∷◌, filter, Bool, true, false, if◌then◌else◌, Some, IsSome}
use Rattle.smf_contract.specs.declared.cookie.Method.TheVariants as methods
use Rattle.smf_state.specs.declared.step.Step.{Step}
use Rattle.smf_state.specs.declared.step.Step.TheVariants as steps
use Rattle.smf_model.specs.declared.held.Instance.{Instance}
use Rattle.smf_model.specs.Contents.{Holdings}
use Rattle.smf_model.specs.Look.{instance}
use Rattle.smf_wire.specs.declared.message.Message.{Message}
use Rattle.smf_wire.specs.declared.message.Message.TheVariants as messages
use Rattle.smf_restarter.specs.declared.known.KnownInstance.{KnownInstance}
use Rattle.smf_restarter.specs.declared.known.KnownRun.{KnownRun}
use Rattle.smf_restarter.specs.declared.known.Owed.{Owed}
use Rattle.smf_restarter.specs.declared.known.Phase.TheVariants as phases
use Rattle.smf_restarter.specs.declared.known.Stage.TheVariants as stages
use Rattle.smf_restarter.specs.Knowledge.{Knowledge, known_instance}
use Rattle.smf_restarter.specs.Runs.{run_at}
use Rattle.smf_world.specs.declared.item.Item.{Item}
use Rattle.smf_world.specs.declared.item.Item.TheVariants.{Boot, Emptied, Spawned}
use Rattle.smf_world.specs.Safe.{WasSpawned, is_start}
use Rattle.smf_world.proofs.LiveLists.{Each, IsIn}
use Rattle.smf_world.proofs.RowClauses.{IsOpen}

-- ---- runs that were begun

-- Once: no run of an instance is begun twice
abbrev pub Once : List Item → Type 0
Once [] = Unit {0}
Once (Spawned c i run method revision command ∷ trail) = (WasSpawned i run trail → ⊥) × Once trail
Once (item ∷ trail) = Once trail

-- ---- starts that live

-- the contract of a start that lives, with its run
pub record LiveRun : Type 0 where
  pub contract : ℕ
  pub instance : ℕ
  pub run : ℕ

abbrev pub begun_run : Bool → ℕ → ℕ → ℕ → List LiveRun → List LiveRun
begun_run true c i run ls = if c == 0 then ls else record { contract = c; instance = i; run = run } ∷ ls
begun_run false c i run ls = ls

-- the runs that live after a trail, as `live_starts` has them
abbrev pub live_runs : List Item → List LiveRun
live_runs [] = []
live_runs (Spawned c i run method revision command ∷ trail) = begun_run (is_start method) c i run (live_runs trail)
live_runs (Emptied c ∷ trail) = filter (λ l. not (l.contract == c)) (live_runs trail)
live_runs (Boot ∷ trail) = []
live_runs (item ∷ trail) = live_runs trail

abbrev pub IsAmong : ℕ → ℕ → List LiveRun → Type 0
IsAmong n run [] = ⊥
IsAmong n run (l ∷ ls) = ((l.instance ≡ n) × (l.run ≡ run)) ⊎ IsAmong n run ls

-- the start of this run lives
abbrev pub Lives : ℕ → ℕ → List Item → Type 0
Lives n run trail = IsAmong n run (live_runs trail)

-- L.live: a start that lives is the live run of its instance's row
pub record IsRowsLive (h : Holdings) (n run : ℕ) : Type 0 where
  pub of : Instance
  pub is_there : instance h n ≡ Some of
  pub live : of.row.live ≡ Some run

abbrev pub LiveInRows : Holdings → List Item → Type 0
LiveInRows h trail = (n run : ℕ) → Lives n run trail → IsRowsLive h n run

-- ---- what restarters know of runs

-- L.empty: a run that is known empty does not live
abbrev pub EmptyIsDead : List Item → Knowledge → Type 0
EmptyIsDead trail k = (n run : ℕ) (r : KnownRun) → run_at k n run ≡ Some r → r.empty ≡ true → Lives n run trail → ⊥

-- L.knows: who is up knows each start that lives of the instances that it runs
abbrev pub KnowsLive : Holdings → List Item → Knowledge → Type 0
KnowsLive h trail k =
    k.stage ≡ stages.Up → (n run : ℕ) (i : Instance) → instance h n ≡ Some i → i.row.owner ≡ k.name → Lives n run trail
    → IsSome (run_at k n run)

-- ---- proposals that free a live run

abbrev pub frees : Step → Bool
frees (steps.End to keep failed cause) = not keep
frees (steps.Note bits keep) = not keep
frees _ = false

-- a start of this run is owed by one of these
pub record IsOwed (ks : List Knowledge) (n run : ℕ) : Type 0 where
  pub restarter : Knowledge
  pub of : KnownInstance
  pub owed : Owed
  pub is_launched : IsIn restarter ks
  pub is_known : known_instance restarter n ≡ Some of
  pub owes : of.phase ≡ phases.Owes owed
  pub start : owed.method ≡ methods.Start
  pub live : of.row.live ≡ Some run

-- a run that neither lives nor will
pub record IsOver (ks : List Knowledge) (trail : List Item) (n run : ℕ) : Type 0 where
  pub dead : Lives n run trail → ⊥
  pub unowed : IsOwed ks n run → ⊥

-- L.frees: the live run that a proposal would free is over, if the proposal can still be granted
abbrev pub FreesTheOver : Holdings → List Knowledge → List Item → Message → Type 0
FreesTheOver h ks trail (messages.Propose q) =
    (o : IsOpen h q) (run : ℕ) → frees q.step ≡ true → o.of.row.live ≡ Some run → IsOver ks trail q.instance run
FreesTheOver h ks trail _ = Unit {0}

abbrev pub AllFreeTheOver : Holdings → List Knowledge → List Item → List Message → Type 0
AllFreeTheOver h ks trail sent = Each (FreesTheOver h ks trail) sent
