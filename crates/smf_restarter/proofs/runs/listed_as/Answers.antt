use Rattle.std.proofs.Common.{refl}
use Rattle.smf_restarter.proofs.runs.listed_as.Goals as goal

-- the failures that count are those of the instance that is known
pub returns : goal.returns
returns c =
    let ignore = c.ignore_of-ignore.ensures in
    let holder = c.is_held_by.ensures in
    let events = c.any_exit_of.ensures in
    rw (holder, c.actor.ensures, c.has_none.ensures, c.any_failure.ensures, ignore, c.known_instance.ensures) (
    rw (events, c.as_slice.ensures, c.as_slice-2.ensures, c.as_slice-3.ensures) refl)
