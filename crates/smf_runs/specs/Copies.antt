-- The start of a run over a copy in memory of a database's files.
use Rattle.std.specs.Prelude.{◌≡◌, IsTrue}
use Rattle.sqlite.specs.declared.error.Error.{Error}
use Rattle.sqlite.specs.declared.error.Error.TheVariants.{SqliteFailure}
use Rattle.sqlite.specs.declared.error.ErrorCode.TheVariants.{OutOfMemory}
use Rattle.sqlite.specs.declared.file.Leftover.{Leftover}
use Rattle.sqlite.specs.Files.{FailsToOpenFiles, IsCleanLeft, IsOpened, file_state, image_of}
use Rattle.sqlite.specs.Held.{Held, IsNew}
use Rattle.sqlite.specs.Opening.{is_open_error}
use Rattle.sqlite.specs.Start.{FindsIn}
use Rattle.sqlite_disk.specs.declared.Disk.{Ghosts}
use Rattle.sqlite_disk.specs.declared.Files.{Files}
use Rattle.sqlite_store.specs.declared.store.FileStore.{FileStore}
use Rattle.sqlite_wal.specs.Recovery.{Image}
use Rattle.smf_store.specs.declared.file_bytes.FileBytes.{FileBytes}

abbrev pub image_in : FileBytes → Image
image_in found = record { log = found.log.items; db = found.db.items }

-- ---- a copy that does not open

-- these files did not open as a database, for this reason
pub record IsUnopened {D : Type 0} (g : Ghosts D) (files : Files D) (fault : Error) : Type 0 where
  pub named : IsTrue (is_open_error fault)
  pub left : Leftover D g
  pub why : IsCleanLeft left → FailsToOpenFiles files left fault

-- there was no memory for a copy of these bytes, or files that hold them did not open
pub data IsUncopied {D : Type 0} (g : Ghosts D) (image : Image) (fault : Error) : Type 0 where
  no_memory : fault ≡ SqliteFailure OutOfMemory → IsUncopied g image fault
  unopened : (files : Files D) → image_of g files ≡ image → IsUnopened g files fault → IsUncopied g image fault

-- ---- a run over a copy

-- a new database found the content of these bytes, and the run was over that database
pub record IsOverCopy {D : Type 0} (g : Ghosts D) (image : Image)
    (Ran : Held (FileStore D g) → Held (FileStore D g) → Type 0) : Type 0 where
  pub conn : Held (FileStore D g)
  pub after : Held (FileStore D g)
  pub found : FindsIn image (file_state conn)
  pub opened : IsOpened conn
  pub fresh : IsNew conn
  pub ran : Ran conn after
