-- The end of a run and of the close after it.
use Rattle.std.proofs.Common.{◌≡◌, ◌≢◌, ◌⊎◌, inl, inr, ℕ, List, Option, sym, subst}
use Rattle.std_io.specs.declared.io.error.Error.{Error}
use Rattle.sqlite.specs.Closing.{IsCopied}
use Rattle.sqlite.specs.Effect.{Database}
use Rattle.sqlite.specs.Files.{file_state, over_files}
use Rattle.sqlite.specs.Held.{Held}
use Rattle.sqlite.specs.State.{State}
use Rattle.sqlite_disk.specs.declared.Disk.{Ghosts}
use Rattle.sqlite_disk.specs.declared.Files.{Files}
use Rattle.sqlite_store.specs.declared.store.FileStore.{FileStore}
use Rattle.smf_lines.specs.Told.{IsTold}
use Rattle.smf_model.specs.Contents.{Holdings}
use Rattle.smf_store.specs.Holds.{Keeps, Stands, StandsIn}
use Rattle.smf_runs.specs.Cfgs.{IsLeft}
use Rattle.smf_runs.specs.Closed.{HoldLeft, IsCopiedOut, IsEndedAfter, IsUncopied, not_closed}
use Rattle.smf_runs.specs.Closed.IsEndedAfter.{ended, uncopied}

-- the end of a run that a fault ended, or whose database could not be closed
pub ended_after : {D : Type 0} {g : Ghosts D} (Done : Held (FileStore D g) → ℕ → Type 0)
    (Ended : Held (FileStore D g) → Option (List ℕ) → Type 0) (tells : Error → Type 0) (after : Held (FileStore D g))
    (status : ℕ) (files : Files D) (mid new : Option (List ℕ))
    → (status ≢ 3 → Done after status) → (status ≡ 3 → Ended after mid)
    → ((status ≡ 3) × (new ≡ mid) × (IsCopiedOut after files ⊎ IsUncopied after files))
    ⊎ ((status ≢ 3) × IsUncopied after files × IsTold tells mid new not_closed)
    → IsEndedAfter Done Ended tells files new
ended_after Done Ended tells after status files mid new done end (inl (three, same, how)) =
    ended after (subst (Ended after) (sym same) (end three)) how
ended_after Done Ended tells after status files mid new done end (inr (other, left, told)) =
    uncopied after status mid (done other) left told

-- a store that stands, by its trees
stands_in : (db : Database) (h : Holdings) → Stands db h → StandsIn db.trees h
stands_in db h s = (db.schema, s)

kept_in : (s : State) (h : Holdings) → Keeps s h → StandsIn s.committed.trees h
kept_in s h k = stands_in s.committed h (subst (λ db. Stands db h) (sym k.settled) k.stands)

pub held_left : {D : Type 0} (g : Ghosts D) (after : Held (FileStore D g)) (files : Files D) (left : Holdings)
    → IsLeft over_files after left → IsCopied after files → HoldLeft g files left
held_left g after files left is copied =
    record {
      trees = (file_state after).committed.trees;
      stands = kept_in (file_state after) left (is (record { clean = copied.was_clean; is_open = copied.was_open }));
      alone = copied.seen;
    }
