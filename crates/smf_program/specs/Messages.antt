-- The message about a database that the library does not open.
use Rattle.std.specs.Prelude.{ℕ, List, codes}
use Rattle.sqlite.specs.declared.error.Error.{Error}
use Rattle.sqlite.specs.declared.error.Error.TheVariants.{SqliteFailure}
use Rattle.sqlite.specs.declared.error.ErrorCode.{ErrorCode}
use Rattle.sqlite.specs.declared.error.ErrorCode.TheVariants as code

-- the library's error, and on a second line the reason that its code gives, if it gives one
abbrev pub failed_because : ErrorCode → List ℕ
failed_because code.DatabaseBusy = codes "smf: store: database failed\nsmf: store: in use by another program"
failed_because code.CannotOpen = codes "smf: store: database failed\nsmf: store: not there, or no right to open it"
failed_because code.NotADatabase = codes "smf: store: database failed\nsmf: store: no database that can be read"
failed_because code.DatabaseCorrupt = codes "smf: store: database failed\nsmf: store: a page is damaged"
failed_because code.DiskFull = codes "smf: store: database failed\nsmf: store: disk full"
failed_because code.SystemIoFailure = codes "smf: store: database failed\nsmf: store: a read or a write failed"
failed_because _ = codes "smf: store: database failed"

abbrev pub database_text : Error → List ℕ
database_text (SqliteFailure code.OutOfMemory) = codes "smf: no memory"
database_text (SqliteFailure why) = failed_because why
database_text _ = codes "smf: store: database failed"
