-- The history of a repository: the commands that made its revisions, newest first, and each value that they made.
use Rattle.std.specs.Prelude.{◌≡◌, ℕ, ◌+◌, ◌≤◌, ◌==◌, not, List, [], ◌∷◌, Bool, true, false, Option, find, IsSome}
use Rattle.smf_model.specs.declared.command.Command.{Command}
use Rattle.smf_model.specs.Contents.{Holdings}
use Rattle.smf_model.specs.Next.{next}

-- a first value, and the commands that were accepted since, newest first
pub record History : Type 0 where
  pub first : Holdings
  pub past : List Command

-- the value after these commands, one after another, the newest first in the list
abbrev pub holdings_after_commands : Holdings → List Command → Holdings
holdings_after_commands h [] = h
holdings_after_commands h (c ∷ cs) = (next (holdings_after_commands h cs) c).0

-- the newest value
abbrev pub now : History → Holdings
now y = holdings_after_commands y.first y.past

-- ---- one command more

abbrev pub is_revised : Holdings → Holdings → Bool
is_revised before after = not (after.revision == before.revision)

abbrev pub history_if_revised : History → Command → Bool → History
history_if_revised y c true = record y { past = c ∷ y.past }
history_if_revised y c false = y

-- a command that makes a revision is noted; any other leaves the history
unfoldable pub history_after : History → Command → History
history_after y c = history_if_revised y c (is_revised (now y) (next (now y) c).0)

-- the history of these commands, accepted or refused, newest first
abbrev pub history : Holdings → List Command → History
history h [] = record { first = h; past = [] }
history h (c ∷ cs) = history_after (history h cs) c

-- ---- its values

-- a value after the first, and the command that made it
pub record Entry : Type 0 where
  pub command : Command
  pub value : Holdings

abbrev pub entries_of : Holdings → List Command → List Entry
entries_of h [] = []
entries_of h (c ∷ cs) = record { command = c; value = holdings_after_commands h (c ∷ cs) } ∷ entries_of h cs

abbrev pub entries : History → List Entry
entries y = entries_of y.first y.past

abbrev pub values_of : Holdings → List Entry → List Holdings
values_of h [] = h ∷ []
values_of h (e ∷ es) = e.value ∷ values_of h es

-- all values, newest first
abbrev pub values : History → List Holdings
values y = values_of y.first (entries y)

abbrev pub has_revision : ℕ → Holdings → Bool
has_revision n h = h.revision == n

-- the value of a revision
abbrev pub value_at : History → ℕ → Option Holdings
value_at y n = find (has_revision n) (values y)

-- each revision from the first on has its value
abbrev pub HasValueAt : Holdings → List Command → ℕ → Type 0
HasValueAt h cs n = h.revision ≤ n → n ≤ (holdings_after_commands h cs).revision → IsSome (value_at (history h cs) n)

-- ---- in turn

-- the value before these entries' next
abbrev pub newest : Holdings → List Entry → Holdings
newest h [] = h
newest h (e ∷ es) = e.value

-- a value is what its command makes of the one before, under the next revision
pub record IsNext (before : Holdings) (e : Entry) : Type 0 where
  pub step : e.value ≡ (next before e.command).0
  pub revision : e.value.revision ≡ before.revision + 1

abbrev pub AreInTurn : Holdings → List Entry → Type 0
AreInTurn h [] = Unit {0}
AreInTurn h (e ∷ es) = IsNext (newest h es) e × AreInTurn h es
