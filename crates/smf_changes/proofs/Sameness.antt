-- The test of two view items holds if they are equal, and only then.
use Rattle.std.proofs.Common.{◌≡◌, nat_eq, Bool, Option, Some, None, refl, ap}
use Rattle.std.specs.Bool.{Decides}
use Rattle.std.specs.Cmp.{booleans_Decides}
use Rattle.std.specs.Option.{option_eq}
use Rattle.std.proofs.lemmas.Bool.Decides.{Decides-and, Decides-eqb, Decides-like}
use Rattle.smf_fmri.proofs.Patterns.{same_text as text_is}
use Rattle.smf_state.specs.declared.row.Row.{Row}
use Rattle.smf_state.specs.declared.state.Cause.{Cause}
use Rattle.smf_state.specs.declared.state.Cause.TheVariants.{Error, NonError, Admin, Config}
use Rattle.smf_state.specs.declared.state.Duration.{Duration}
use Rattle.smf_state.specs.declared.state.Duration.TheVariants.{Contract, Transient, Child}
use Rattle.smf_state.specs.declared.state.State.{State}
use Rattle.smf_state.specs.declared.state.State.TheVariants.{Uninitialized, Disabled, Offline, Online, Degraded, Maintenance}
use Rattle.smf_state.specs.declared.view.ViewItem.{ViewItem}
use Rattle.smf_state.specs.Rows.{same_state}
use Rattle.smf_changes.specs.Same.{same_cause, same_duration, same_item, same_marks, same_row, same_runs, same_standing, same_text}

-- ---- parts

inside : {X : Type 0} (x y : X) → Some x ≡ Some y → x ≡ y
inside x y e = cc

pub option_is : {X : Type 0} (same : X → X → Bool) → ((x y : X) → Decides (same x y) (x ≡ y)) → (o p : Option X)
    → Decides (option_eq same o p) (o ≡ p)
option_is same decides None None = (λ e. refl, λ e. refl)
option_is same decides None (Some y) = (λ e. absurd cc, λ e. absurd cc)
option_is same decides (Some x) None = (λ e. absurd cc, λ e. absurd cc)
option_is same decides (Some x) (Some y) = (λ e. ap Some ((decides x y).0 e), λ e. (decides x y).1 (inside x y e))

state_is : (a b : State) → Decides (same_state a b) (a ≡ b)
state_is Uninitialized Uninitialized = (λ e. refl, λ e. refl)
state_is Uninitialized Disabled = (λ e. absurd cc, λ e. absurd cc)
state_is Uninitialized Offline = (λ e. absurd cc, λ e. absurd cc)
state_is Uninitialized Online = (λ e. absurd cc, λ e. absurd cc)
state_is Uninitialized Degraded = (λ e. absurd cc, λ e. absurd cc)
state_is Uninitialized Maintenance = (λ e. absurd cc, λ e. absurd cc)
state_is Disabled Uninitialized = (λ e. absurd cc, λ e. absurd cc)
state_is Disabled Disabled = (λ e. refl, λ e. refl)
state_is Disabled Offline = (λ e. absurd cc, λ e. absurd cc)
state_is Disabled Online = (λ e. absurd cc, λ e. absurd cc)
state_is Disabled Degraded = (λ e. absurd cc, λ e. absurd cc)
state_is Disabled Maintenance = (λ e. absurd cc, λ e. absurd cc)
state_is Offline Uninitialized = (λ e. absurd cc, λ e. absurd cc)
state_is Offline Disabled = (λ e. absurd cc, λ e. absurd cc)
state_is Offline Offline = (λ e. refl, λ e. refl)
state_is Offline Online = (λ e. absurd cc, λ e. absurd cc)
state_is Offline Degraded = (λ e. absurd cc, λ e. absurd cc)
state_is Offline Maintenance = (λ e. absurd cc, λ e. absurd cc)
state_is Online Uninitialized = (λ e. absurd cc, λ e. absurd cc)
state_is Online Disabled = (λ e. absurd cc, λ e. absurd cc)
state_is Online Offline = (λ e. absurd cc, λ e. absurd cc)
state_is Online Online = (λ e. refl, λ e. refl)
state_is Online Degraded = (λ e. absurd cc, λ e. absurd cc)
state_is Online Maintenance = (λ e. absurd cc, λ e. absurd cc)
state_is Degraded Uninitialized = (λ e. absurd cc, λ e. absurd cc)
state_is Degraded Disabled = (λ e. absurd cc, λ e. absurd cc)
state_is Degraded Offline = (λ e. absurd cc, λ e. absurd cc)
state_is Degraded Online = (λ e. absurd cc, λ e. absurd cc)
state_is Degraded Degraded = (λ e. refl, λ e. refl)
state_is Degraded Maintenance = (λ e. absurd cc, λ e. absurd cc)
state_is Maintenance Uninitialized = (λ e. absurd cc, λ e. absurd cc)
state_is Maintenance Disabled = (λ e. absurd cc, λ e. absurd cc)
state_is Maintenance Offline = (λ e. absurd cc, λ e. absurd cc)
state_is Maintenance Online = (λ e. absurd cc, λ e. absurd cc)
state_is Maintenance Degraded = (λ e. absurd cc, λ e. absurd cc)
state_is Maintenance Maintenance = (λ e. refl, λ e. refl)

cause_is : (a b : Cause) → Decides (same_cause a b) (a ≡ b)
cause_is Error Error = (λ e. refl, λ e. refl)
cause_is Error NonError = (λ e. absurd cc, λ e. absurd cc)
cause_is Error Admin = (λ e. absurd cc, λ e. absurd cc)
cause_is Error Config = (λ e. absurd cc, λ e. absurd cc)
cause_is NonError Error = (λ e. absurd cc, λ e. absurd cc)
cause_is NonError NonError = (λ e. refl, λ e. refl)
cause_is NonError Admin = (λ e. absurd cc, λ e. absurd cc)
cause_is NonError Config = (λ e. absurd cc, λ e. absurd cc)
cause_is Admin Error = (λ e. absurd cc, λ e. absurd cc)
cause_is Admin NonError = (λ e. absurd cc, λ e. absurd cc)
cause_is Admin Admin = (λ e. refl, λ e. refl)
cause_is Admin Config = (λ e. absurd cc, λ e. absurd cc)
cause_is Config Error = (λ e. absurd cc, λ e. absurd cc)
cause_is Config NonError = (λ e. absurd cc, λ e. absurd cc)
cause_is Config Admin = (λ e. absurd cc, λ e. absurd cc)
cause_is Config Config = (λ e. refl, λ e. refl)

duration_is : (a b : Duration) → Decides (same_duration a b) (a ≡ b)
duration_is Contract Contract = (λ e. refl, λ e. refl)
duration_is Contract Transient = (λ e. absurd cc, λ e. absurd cc)
duration_is Contract Child = (λ e. absurd cc, λ e. absurd cc)
duration_is Transient Contract = (λ e. absurd cc, λ e. absurd cc)
duration_is Transient Transient = (λ e. refl, λ e. refl)
duration_is Transient Child = (λ e. absurd cc, λ e. absurd cc)
duration_is Child Contract = (λ e. absurd cc, λ e. absurd cc)
duration_is Child Transient = (λ e. absurd cc, λ e. absurd cc)
duration_is Child Child = (λ e. refl, λ e. refl)

-- both rows have the same owner, number, state, next state and asks
abbrev IsSameStanding : Row → Row → Type 0
IsSameStanding a b = ((((a.owner ≡ b.owner) × (a.number ≡ b.number)) × (a.state ≡ b.state)) × (a.next ≡ b.next))
    × (a.asks.0 ≡ b.asks.0)

standing_is : (a b : Row) → Decides (same_standing a b) (IsSameStanding a b)
standing_is a b =
    Decides-and _ _
    (Decides-and _ _
    (Decides-and _ _ (Decides-and _ _ (text_is a.owner b.owner) (Decides-eqb a.number b.number))
    (state_is a.state b.state)) (option_is same_state state_is a.next b.next)) (Decides-eqb a.asks.0 b.asks.0)

-- its runs
abbrev AreSameRuns : Row → Row → Type 0
AreSameRuns a b =
    ((((((a.live ≡ b.live) × (a.side ≡ b.side)) × (a.last ≡ b.last)) × (a.failed ≡ b.failed)) × (a.cause ≡ b.cause))
    × (a.duration ≡ b.duration)) × (a.ignore ≡ b.ignore)

runs_are : (a b : Row) → Decides (same_runs a b) (AreSameRuns a b)
runs_are a b =
    Decides-and _ _
    (Decides-and _ _
    (Decides-and _ _
    (Decides-and _ _
    (Decides-and _ _
    (Decides-and _ _ (option_is nat_eq Decides-eqb a.live b.live) (option_is nat_eq Decides-eqb a.side b.side))
    (Decides-eqb a.last b.last)) (Decides-eqb a.failed b.failed)) (option_is same_cause cause_is a.cause b.cause))
    (duration_is a.duration b.duration)) (Decides-eqb a.ignore b.ignore)

-- the revisions and numbers that it keeps
abbrev AreSameMarks : Row → Row → Type 0
AreSameMarks a b =
    ((((((((a.base ≡ b.base) × (a.err ≡ b.err)) × (a.stop ≡ b.stop)) × (a.refresh ≡ b.refresh)) × (a.start ≡ b.start))
    × (a.running ≡ b.running)) × (a.begun ≡ b.begun)) × (a.launch ≡ b.launch)) × (a.serial ≡ b.serial)

marks_are : (a b : Row) → Decides (same_marks a b) (AreSameMarks a b)
marks_are a b =
    Decides-and _ _
    (Decides-and _ _
    (Decides-and _ _
    (Decides-and _ _
    (Decides-and _ _
    (Decides-and _ _
    (Decides-and _ _ (Decides-and _ _ (Decides-eqb a.base b.base) (Decides-eqb a.err b.err))
    (Decides-eqb a.stop b.stop)) (Decides-eqb a.refresh b.refresh)) (Decides-eqb a.start b.start))
    (option_is nat_eq Decides-eqb a.running b.running)) (option_is nat_eq Decides-eqb a.begun b.begun))
    (Decides-eqb a.launch b.launch)) (Decides-eqb a.serial b.serial)

abbrev AreSameRows : Row → Row → Type 0
AreSameRows a b = (IsSameStanding a b × AreSameRuns a b) × AreSameMarks a b

row_from : (a b : Row) → AreSameRows a b → a ≡ b
row_from a b t = λ j. record {
  owner = t.0.0.0.0.0.0 j;
  number = t.0.0.0.0.0.1 j;
  state = t.0.0.0.0.1 j;
  next = t.0.0.0.1 j;
  asks = record { 0 = t.0.0.1 j };
  live = t.0.1.0.0.0.0.0.0 j;
  side = t.0.1.0.0.0.0.0.1 j;
  last = t.0.1.0.0.0.0.1 j;
  failed = t.0.1.0.0.0.1 j;
  cause = t.0.1.0.0.1 j;
  duration = t.0.1.0.1 j;
  ignore = t.0.1.1 j;
  base = t.1.0.0.0.0.0.0.0.0 j;
  err = t.1.0.0.0.0.0.0.0.1 j;
  stop = t.1.0.0.0.0.0.0.1 j;
  refresh = t.1.0.0.0.0.0.1 j;
  start = t.1.0.0.0.0.1 j;
  running = t.1.0.0.0.1 j;
  begun = t.1.0.0.1 j;
  launch = t.1.0.1 j;
  serial = t.1.1 j;
}

row_to : (a b : Row) → a ≡ b → AreSameRows a b
row_to a b e = (
  (
    (
      (
        ((ap (λ (r : Row). r.owner) e, ap (λ (r : Row). r.number) e), ap (λ (r : Row). r.state) e),
        ap (λ (r : Row). r.next) e,
      ),
      ap (λ (r : Row). r.asks.0) e,
    ),
    (
      (
        (
          (
            ((ap (λ (r : Row). r.live) e, ap (λ (r : Row). r.side) e), ap (λ (r : Row). r.last) e),
            ap (λ (r : Row). r.failed) e,
          ),
          ap (λ (r : Row). r.cause) e,
        ),
        ap (λ (r : Row). r.duration) e,
      ),
      ap (λ (r : Row). r.ignore) e,
    ),
  ),
  (
    (
      (
        (
          (
            (
              ((ap (λ (r : Row). r.base) e, ap (λ (r : Row). r.err) e), ap (λ (r : Row). r.stop) e),
              ap (λ (r : Row). r.refresh) e,
            ),
            ap (λ (r : Row). r.start) e,
          ),
          ap (λ (r : Row). r.running) e,
        ),
        ap (λ (r : Row). r.begun) e,
      ),
      ap (λ (r : Row). r.launch) e,
    ),
    ap (λ (r : Row). r.serial) e,
  ),
)

pub row_is : (a b : Row) → Decides (same_row a b) (a ≡ b)
row_is a b = Decides-like _ (row_from a b) (row_to a b)
    (Decides-and _ _ (Decides-and _ _ (standing_is a b) (runs_are a b)) (marks_are a b))

-- ---- the whole

abbrev AreSameItems : ViewItem → ViewItem → Type 0
AreSameItems a b =
    (((((a.instance ≡ b.instance) × (a.name ≡ b.name)) × (a.enabled ≡ b.enabled)) × (a.readable ≡ b.readable))
    × (a.row ≡ b.row)) × (a.body ≡ b.body)

item_from : (a b : ViewItem) → AreSameItems a b → a ≡ b
item_from a b t =
    λ j. record {
      instance = t.0.0.0.0.0 j;
      name = t.0.0.0.0.1 j;
      enabled = t.0.0.0.1 j;
      readable = t.0.0.1 j;
      row = t.0.1 j;
      body = t.1 j;
    }

item_to : (a b : ViewItem) → a ≡ b → AreSameItems a b
item_to a b e = (
  (
    (
      ((ap (λ (x : ViewItem). x.instance) e, ap (λ (x : ViewItem). x.name) e), ap (λ (x : ViewItem). x.enabled) e),
      ap (λ (x : ViewItem). x.readable) e,
    ),
    ap (λ (x : ViewItem). x.row) e,
  ),
  ap (λ (x : ViewItem). x.body) e,
)

pub item_is : (a b : ViewItem) → Decides (same_item a b) (a ≡ b)
unfolding same_item
item_is a b =
    Decides-like _ (item_from a b) (item_to a b)
    (Decides-and _ _
    (Decides-and _ _
    (Decides-and _ _
    (Decides-and _ _ (Decides-and _ _ (Decides-eqb a.instance b.instance) (text_is a.name b.name))
    (booleans_Decides a.enabled b.enabled)) (booleans_Decides a.readable b.readable)) (row_is a.row b.row))
    (option_is same_text text_is a.body b.body))

pub items_are : (o p : Option ViewItem) → Decides (option_eq same_item o p) (o ≡ p)
items_are o p = option_is same_item item_is o p
