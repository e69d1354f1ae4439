-- A start that is owed was decided on a value of the history, and announced by a later one.
use Rattle.std.proofs.Common.{◌≡◌, ◌+◌, ◌<◌, ℕ, Bool, true, false, List, [], ◌∷◌, Some, sym, ap, ◌∙◌, subst}
use Rattle.smf_state.specs.declared.row.Row.{Row}
use Rattle.smf_state.specs.declared.state.State.TheVariants.{Offline, Online}
use Rattle.smf_method.specs.declared.call.ReadMethod.{ReadMethod}
use Rattle.smf_model.specs.declared.held.Instance.{Instance}
use Rattle.smf_model.specs.History.{History}
use Rattle.smf_model.specs.Contents.{Holdings}
use Rattle.smf_model.specs.Look.{instance}
use Rattle.smf_world.specs.declared.item.Item.{Item}
use Rattle.smf_world.specs.declared.item.Item.TheVariants.{Boot, Committed, Held, Spawned, Emptied}
use Rattle.smf_world.specs.Safe.{IsAnnounced, IsReady, IsWellDecided, StartDecided, StartsDecided, WasSpawned, is_start}
use Rattle.smf_world.proofs.DecidedClauses.{IsReadyAt}
use Rattle.smf_world.proofs.DecidedHistory.{Grew}
use Rattle.smf_safety.proofs.DecidedLast.{AreLast, item_at}
use Rattle.smf_world.proofs.TrailItems.{noted, noted_more}
use Rattle.smf_world.proofs.RowClauses.{AreAnnounced, WasAnnounced}

-- an owed start: the row is the one that its grant left. On the revision of the decision the instance was ready, under
-- the number before, with the snapshot that the start began with
pub record IsOwedStart (y : History) (h : Holdings) (i run revision : ℕ) (command : List ℕ) : Type 0 where
  pub of : Instance
  pub number : ℕ
  pub snapshot : ℕ
  pub read : ReadMethod
  pub row : Row
  pub is_there : instance h i ≡ Some of
  pub offline : of.row.state ≡ Offline
  pub next : of.row.next ≡ Some Online
  pub live : of.row.live ≡ Some run
  pub base : of.row.base ≡ revision
  pub begun : of.row.begun ≡ Some snapshot
  pub number_is : of.row.number ≡ number + 1
  pub ready : IsReadyAt y revision i number snapshot read row
  pub command_is : read.call.command ≡ command

is_ready : (y : History) (i revision number snapshot : ℕ) (read : ReadMethod) (row : Row) (command : List ℕ)
    (r : IsReadyAt y revision i number snapshot read row) → read.call.command ≡ command → IsReady r.value i row command
is_ready y i revision number snapshot read row command r e =
    record {
      item = r.item;
      read = read;
      found = r.found;
      row_of = r.row_is;
      offline = r.offline;
      at_rest = r.at_rest;
      enabled = r.enabled;
      sound = r.sound;
      met = r.met;
      method = r.method;
      command_of = e;
    }

is_announced : (y : History) (h : Holdings) (i run revision : ℕ) (command : List ℕ)
    (o : IsOwedStart y h i run revision command) (a : WasAnnounced y i o.of.row)
    → IsAnnounced o.row a.of.row run revision
is_announced y h i run revision command o a =
    let counted : o.of.row.number ≡ o.row.number + 1 =
    subst (λ (m : ℕ). o.of.row.number ≡ m + 1) (sym o.ready.number_is) o.number_is in
    record {
      number = a.number ∙ counted;
      state = a.state;
      next = a.next;
      live = a.live ∙ o.live;
      base = a.base ∙ o.base;
      snapshot = a.snapshot ∙ o.begun ∙ sym o.ready.snapshot_is;
    }

last_is : (i number : ℕ) (r : Row) → r.number ≡ number → r.state ≡ Offline → r.next ≡ Some Online
    → item_at i r ≡ Committed i number Offline (Some Online)
last_is i number r e f g = λ j. Committed i (e j) (f j) (g j)

-- a start that is owed, whose run was not begun before
pub well_decided : (y : History) (h : Holdings) (trail : List Item) (i run revision : ℕ) (command : List ℕ)
    → IsOwedStart y h i run revision command → AreAnnounced y h → AreLast h trail → (WasSpawned i run trail → ⊥)
    → IsWellDecided y trail i run revision command
well_decided y h trail i run revision command o announced last fresh =
    let a : WasAnnounced y i o.of.row = announced i o.of o.is_there o.offline o.next in
    let counted : o.of.row.number ≡ o.row.number + 1 =
    subst (λ (m : ℕ). o.of.row.number ≡ m + 1) (sym o.ready.number_is) o.number_is in
    record {
      decided_on = o.ready.value;
      announced_by = a.value;
      later = a.revision;
      row = o.row;
      start = a.of;
      value = o.ready.value_is;
      ready = is_ready y i revision o.number o.snapshot o.read o.row command o.ready o.command_is;
      after = subst (λ (m : ℕ). m < a.revision) o.base a.after;
      later_value = a.at;
      started = a.there;
      announced = is_announced y h i run revision command o a;
      newest = last i o.of o.is_there
          ∙ ap (λ (x : Item). Some x) (last_is i (o.row.number + 1) o.of.row counted o.offline o.next);
      fresh = fresh;
    }

-- ---- a history that grew

well_later : (y z : History) → Grew y z → (trail : List Item) (i run revision : ℕ) (command : List ℕ)
    → IsWellDecided y trail i run revision command → IsWellDecided z trail i run revision command
well_later y z g trail i run revision command d =
    record {
      decided_on = d.decided_on;
      announced_by = d.announced_by;
      later = d.later;
      row = d.row;
      start = d.start;
      value = g revision d.decided_on d.value;
      ready = d.ready;
      after = d.after;
      later_value = g d.later d.announced_by d.later_value;
      started = d.started;
      announced = d.announced;
      newest = d.newest;
      fresh = d.fresh;
    }

start_later : (y z : History) → Grew y z → (trail : List Item) (b : Bool) (i run revision : ℕ) (command : List ℕ)
    → StartDecided y trail b i run revision command → StartDecided z trail b i run revision command
start_later y z g trail true i run revision command d = well_later y z g trail i run revision command d
start_later y z g trail false i run revision command d = tt

pub starts_later : (y z : History) → Grew y z → (trail : List Item) → StartsDecided y trail → StartsDecided z trail
starts_later y z g [] a = tt
starts_later y z g (Spawned c i run method revision command ∷ trail) a =
    (start_later y z g trail (is_start method) i run revision command a.0, starts_later y z g trail a.1)
starts_later y z g (Committed j n s next ∷ trail) a = starts_later y z g trail a
starts_later y z g (Held name launch j n s ∷ trail) a = starts_later y z g trail a
starts_later y z g (Emptied c ∷ trail) a = starts_later y z g trail a
starts_later y z g (Boot ∷ trail) a = starts_later y z g trail a

-- ---- a longer trail

-- none of these is a method that is begun
abbrev pub NoneBegun : List Item → Type 0
NoneBegun [] = Unit {0}
NoneBegun (Spawned c i run method revision command ∷ xs) = ⊥
NoneBegun (x ∷ xs) = NoneBegun xs

pub starts_past : (y : History) (xs trail : List Item) → NoneBegun xs → StartsDecided y trail
    → StartsDecided y (noted xs trail)
starts_past y [] t a d = d
starts_past y (Spawned c i run method revision command ∷ xs) t a d = absurd a
starts_past y (Committed j n s next ∷ xs) t a d =
    subst (StartsDecided y) (sym (noted_more (Committed j n s next) xs t))
    (starts_past y xs (Committed j n s next ∷ t) a d)
starts_past y (Held name launch j n s ∷ xs) t a d =
    subst (StartsDecided y) (sym (noted_more (Held name launch j n s) xs t))
    (starts_past y xs (Held name launch j n s ∷ t) a d)
starts_past y (Emptied c ∷ xs) t a d =
    subst (StartsDecided y) (sym (noted_more (Emptied c) xs t)) (starts_past y xs (Emptied c ∷ t) a d)
starts_past y (Boot ∷ xs) t a d = subst (StartsDecided y) (sym (noted_more Boot xs t)) (starts_past y xs (Boot ∷ t) a d)
