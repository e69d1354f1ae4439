-- Which errors say that a process shows nothing.
use Rattle.std.specs.Prelude.{ℤ, Bool, true, false, ◌||◌, Option, Some, None}
use Rattle.std.specs.Ordering.{int_eq}
use Rattle.std_io.specs.IoError.{error_kind, raw_os_error}
use Rattle.std_io.specs.declared.io.error.Error.{Error}
use Rattle.std_io.specs.declared.io.kind.ErrorKind.{ErrorKind}
use Rattle.std_io.specs.declared.io.kind.ErrorKind.TheVariants as kinds
use Rattle.smf_sweep.specs.declared.sight.TheConstants.{NO_PROCESS}

-- the process has no folder any more, or its user alone may see this
abbrev pub is_hidden_kind : ErrorKind → Bool
is_hidden_kind kinds.NotFound = true
is_hidden_kind kinds.PermissionDenied = true
is_hidden_kind _ = false

abbrev pub is_no_process : Option ℤ → Bool
is_no_process None = false
is_no_process (Some number) = int_eq number NO_PROCESS

abbrev pub is_hidden : Error → Bool
is_hidden e = is_hidden_kind (error_kind e) || is_no_process (raw_os_error e)
