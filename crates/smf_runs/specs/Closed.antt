-- A run over a database in two files, which is closed at its end: then the database file alone holds what the run left.
use Rattle.std.specs.Prelude.{◌≡◌, ◌⊎◌, ℕ, List, codes, Option}
use Rattle.std_io.specs.declared.io.error.Error.{Error}
use Rattle.sqlite.specs.declared.error.Error.{Error as StoreError}
use Rattle.sqlite.specs.Closing.{HoldsAlone, IsCopied}
use Rattle.sqlite.specs.Files.{FailsToClose, IsClosed, image_of}
use Rattle.sqlite.specs.Held.{Held}
use Rattle.sqlite_disk.specs.declared.Disk.{Ghosts}
use Rattle.sqlite_disk.specs.declared.Files.{Files}
use Rattle.sqlite_store.specs.declared.store.FileStore.{FileStore}
use Rattle.sqlite_store.specs.FileStore as stores
use Rattle.sqlite_trees.specs.Tree.{Trees}
use Rattle.sqlite_trees.specs.View.{IsClean}
use Rattle.sqlite_wal.specs.Reads.{AreClean}
use Rattle.smf_lines.specs.Told.{IsTold}
use Rattle.smf_model.specs.Contents.{Holdings}
use Rattle.smf_store.specs.Holds.{StandsIn}

-- ---- a close

-- the last commit is in the database file, if both files have given back what was written
abbrev pub IsCopiedOut : {D : Type 0} {g : Ghosts D} → Held (FileStore D g) → Files D → Type 0
IsCopiedOut {g = g} after files = AreClean g files.log files.db → IsCopied after files

-- it could not be copied, for this reason
pub record IsUncopied {D : Type 0} {g : Ghosts D} (after : Held (FileStore D g)) (files : Files D) : Type 0 where
  pub store : FileStore D g
  pub fault : StoreError
  pub closed : IsClosed after store
  pub fails : IsClean (stores.view store) → FailsToClose after store fault
  pub files_are : (files.log, files.db) ≡ stores.files store

abbrev pub not_closed : List ℕ
not_closed = codes "smf: store: database failed"

-- ---- the end of a run

-- no fault ended the run, and the database was closed
pub record IsClosedAfter {D : Type 0} {g : Ghosts D} (Done : Held (FileStore D g) → Type 0)
    (files : Files D) : Type 0 where
  pub after : Held (FileStore D g)
  pub done : Done after
  pub copied : IsCopiedOut after files

-- a fault ended it, and the database was closed if possible; or no fault did, and the database could not be closed,
-- which was told
pub data IsEndedAfter {D : Type 0} {g : Ghosts D} (Done : Held (FileStore D g) → ℕ → Type 0)
    (Ended : Held (FileStore D g) → Option (List ℕ) → Type 0) (tells : Error → Type 0) (files : Files D)
    (told_new : Option (List ℕ)) : Type 0 where
  ended : (after : Held (FileStore D g)) → Ended after told_new → IsCopiedOut after files ⊎ IsUncopied after files
      → IsEndedAfter Done Ended tells files told_new
  uncopied : (after : Held (FileStore D g)) (status : ℕ) (told : Option (List ℕ)) → Done after status
      → IsUncopied after files
      → IsTold tells told told_new not_closed → IsEndedAfter Done Ended tells files told_new

-- ---- what stands in the file

-- the two files hold this value, and so does the database file with no log
pub record HoldLeft {D : Type 0} (g : Ghosts D) (files : Files D) (left : Holdings) : Type 0 where
  pub trees : Trees
  pub stands : StandsIn trees left
  pub alone : HoldsAlone (image_of g files) trees
