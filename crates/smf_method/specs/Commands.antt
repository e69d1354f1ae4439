-- The commands that methods run.
use Rattle.std.specs.Prelude.{◌≡◌, ℕ, ◌==◌, ◌||◌, List, length, nat_eq, Bool, true, false, codes, Option, Some, None, if◌then◌else◌}
use Rattle.std.specs.Char.{is_ascii_digit, is_ascii_uppercase}
use Rattle.std.specs.Cmp.Lexicographic.{pointwise}
use Rattle.std.specs.List.{list_all}
use Rattle.smf_fmri.specs.Name.{strip}
use Rattle.smf_value.specs.Texts.{is_plain}
use Rattle.smf_method.specs.declared.command.Builtin.{Builtin}
use Rattle.smf_method.specs.declared.command.Builtin.TheVariants.{True, Kill}

-- a text of ASCII without control characters
pub record IsCommand (text : List ℕ) : Type 0 where
  pub plain : list_all is_plain text ≡ true

abbrev pub command_of : List ℕ → Option (List ℕ)
command_of text = if list_all is_plain text then Some text else None

-- a signal is named by capital letters and digits
abbrev pub is_signal_byte : ℕ → Bool
is_signal_byte b = is_ascii_uppercase b || is_ascii_digit b

abbrev pub is_signal : List ℕ → Bool
is_signal text = if length text == 0 then false else list_all is_signal_byte text

abbrev pub is_signal_behind : Option (List ℕ) → Bool
is_signal_behind None = false
is_signal_behind (Some signal) = is_signal signal

-- `:kill`, or `:kill -` and a signal
abbrev pub is_kill : List ℕ → Bool
is_kill text = pointwise nat_eq text (codes ":kill") || is_signal_behind (strip (codes ":kill -") text)

-- which command is built in
abbrev pub builtin : List ℕ → Option Builtin
builtin text = if pointwise nat_eq text (codes ":true") then Some True else if is_kill text then Some Kill else None
