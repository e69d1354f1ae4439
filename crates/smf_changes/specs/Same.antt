-- A test of two view items: it holds if every field is the same.
use Rattle.std.specs.Prelude.{◌==◌, ◌&&◌, ℕ, List, nat_eq, Bool, true, false}
use Rattle.std.specs.Bool.{beq}
use Rattle.std.specs.Option.{option_eq}
use Rattle.std.specs.Cmp.Lexicographic.{pointwise}
use Rattle.smf_state.specs.declared.row.Row.{Row}
use Rattle.smf_state.specs.declared.state.Cause.{Cause}
use Rattle.smf_state.specs.declared.state.Cause.TheVariants.{Error, NonError, Admin, Config}
use Rattle.smf_state.specs.declared.state.Duration.{Duration}
use Rattle.smf_state.specs.declared.state.Duration.TheVariants.{Contract, Transient, Child}
use Rattle.smf_state.specs.declared.view.ViewItem.{ViewItem}
use Rattle.smf_state.specs.Rows.{same_state}

abbrev pub same_text : List ℕ → List ℕ → Bool
same_text a b = pointwise nat_eq a b

abbrev pub same_cause : Cause → Cause → Bool
same_cause Error Error = true
same_cause NonError NonError = true
same_cause Admin Admin = true
same_cause Config Config = true
same_cause _ _ = false

abbrev pub same_duration : Duration → Duration → Bool
same_duration Contract Contract = true
same_duration Transient Transient = true
same_duration Child Child = true
same_duration _ _ = false

-- both rows have the same owner, number, state, next state and asks
abbrev pub same_standing : Row → Row → Bool
same_standing a b =
    same_text a.owner b.owner
    && (a.number == b.number)
    && same_state a.state b.state
    && option_eq same_state a.next b.next
    && (a.asks.0 == b.asks.0)

-- its runs
abbrev pub same_runs : Row → Row → Bool
same_runs a b =
    option_eq nat_eq a.live b.live
    && option_eq nat_eq a.side b.side
    && (a.last == b.last)
    && (a.failed == b.failed)
    && option_eq same_cause a.cause b.cause
    && same_duration a.duration b.duration
    && (a.ignore == b.ignore)

-- the revisions and numbers that it keeps
abbrev pub same_marks : Row → Row → Bool
same_marks a b =
    (a.base == b.base)
    && (a.err == b.err)
    && (a.stop == b.stop)
    && (a.refresh == b.refresh)
    && (a.start == b.start)
    && option_eq nat_eq a.running b.running
    && option_eq nat_eq a.begun b.begun
    && (a.launch == b.launch)
    && (a.serial == b.serial)

abbrev pub same_row : Row → Row → Bool
same_row a b = same_standing a b && same_runs a b && same_marks a b

unfoldable pub same_item : ViewItem → ViewItem → Bool
same_item a b =
    (a.instance == b.instance)
    && same_text a.name b.name
    && beq a.enabled b.enabled
    && beq a.readable b.readable
    && same_row a.row b.row
    && option_eq same_text a.body b.body
