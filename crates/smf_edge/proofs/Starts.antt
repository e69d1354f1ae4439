-- The log of what was started, over several calls.
use Rattle.std.proofs.Common.{◌≡◌, ℕ, ◌<◌, List, [], ◌∷◌, ◌++◌, Bool, true, Option, Some, None, get_or, length, position, refl, subst, sym, ap, ◌∙◌, append_assoc, append-nil}
use Rattle.std.proofs.lemmas.Option.{slice_get-get_or}
use Rattle.std.specs.List.{AllByRecursion}
use Rattle.std.specs.declared.alloc.Global.{Global}
use Rattle.std.specs.declared.process.Command.{Command}
use Rattle.std.specs.declared.process.ExitStatus.{ExitStatus}
use Rattle.smf_edge.specs.declared.child.Kid.{Kid}
use Rattle.smf_edge.specs.Ends.{IsGroupKill}
use Rattle.smf_edge.specs.Facts.{Facts}
use Rattle.smf_edge.specs.Processes.{HasLeft, OneHasLeft, SomeKid, is_kid_of}
use Rattle.smf_edge.specs.Shell.{is_child}
use Rattle.smf_edge.specs.Starts.{IsKillOf, OnlyKills, StartedProgram, log_with, log_with_start, started_program}
use Rattle.smf_edge.proofs.Places.{some_kid}

nothing_more : (log : Option (List StartedProgram)) → log ≡ log_with [] log
nothing_more None = refl
nothing_more (Some starts) = ap Some (sym (append-nil starts))

both : (first more : List StartedProgram) (log : Option (List StartedProgram))
    → log_with more (log_with first log) ≡ log_with (first ++ more) log
both first more None = refl
both first more (Some starts) = ap Some (append_assoc starts first more)

pub no_kills : (Of : ℕ → Type 0) (old new : Option (List StartedProgram)) → new ≡ old → OnlyKills Of old new
no_kills Of old new e = ([], e ∙ nothing_more old, tt)

pub one_kill : (Of : ℕ → Type 0) (group : ℕ) (program : Command Global) (made : Bool)
    (old new : Option (List StartedProgram)) → Of group → IsGroupKill group program
    → new ≡ log_with_start program made old → OnlyKills Of old new
one_kill Of group program made old new of kill e =
    (started_program program made ∷ [], e, ((group, of, kill.program, kill.args, kill.clears), tt))

-- all groups of which one holds are groups of which the other does
all_of : (Of Other : ℕ → Type 0) (starts : List StartedProgram) → ((group : ℕ) → Of group → Other group)
    → AllByRecursion (IsKillOf Of) starts → AllByRecursion (IsKillOf Other) starts
all_of Of Other [] each all = tt
all_of Of Other (start ∷ starts) each all = (
  (all.0.0, each all.0.0 all.0.1, all.0.2, all.0.3, all.0.4),
  all_of Of Other starts each all.1,
)

pub kills_of : (Of Other : ℕ → Type 0) (old new : Option (List StartedProgram)) → ((group : ℕ) → Of group → Other group)
    → OnlyKills Of old new → OnlyKills Other old new
kills_of Of Other old new each kills = (kills.0, kills.1, all_of Of Other kills.0 each kills.2)

all_both : (Of : ℕ → Type 0) (first more : List StartedProgram) → AllByRecursion (IsKillOf Of) first
    → AllByRecursion (IsKillOf Of) more → AllByRecursion (IsKillOf Of) (first ++ more)
all_both Of [] more all others = others
all_both Of (start ∷ starts) more all others = (all.0, all_both Of starts more all.1 others)

pub kills_then : (Of : ℕ → Type 0) (old between new : Option (List StartedProgram)) → OnlyKills Of old between
    → OnlyKills Of between new → OnlyKills Of old new
kills_then Of old between new first more = (
  first.0 ++ more.0,
  more.1 ∙ ap (log_with more.0) first.1 ∙ both first.0 more.0 old,
  all_both Of first.0 more.0 first.2 more.2,
)

-- the same, of equal processes and of an equal log before
pub kills_from : {C : Type 0} (Of : List (Kid C) → ℕ → Type 0) (kids was : List (Kid C))
    (between old new : Option (List StartedProgram)) → kids ≡ was → between ≡ old → OnlyKills (Of kids) between new
    → OnlyKills (Of was) old new
kills_from {C} Of kids was between old new same log kills =
    let K : List (Kid C) → Type 0 = λ ks. OnlyKills (Of ks) between new in
    let L : Option (List StartedProgram) → Type 0 = λ first. OnlyKills (Of was) first new in
    subst L log (subst K same kills)

-- what a process left is what one of them left
pub one_left : {C : Type 0} (facts : Facts C) (kids : List (Kid C)) (k : ℕ) (d : Kid C)
    (old between new : Option (List StartedProgram)) → k < length kids → OnlyKills (OneHasLeft facts kids) old between
    → OnlyKills (λ group. HasLeft facts group (get_or kids k d)) between new
    → OnlyKills (OneHasLeft facts kids) old new
one_left facts kids k d old between new low first more =
    kills_then (OneHasLeft facts kids) old between new first
    (kills_of (λ group. HasLeft facts group (get_or kids k d)) (OneHasLeft facts kids) between new
    (λ group left. (k, get_or kids k d, slice_get-get_or kids k d low, left)) more)

-- what holds of a process holds of the process of its contract
pub some_kills : {C : Type 0} (Of : ℕ → Kid C → Type 0) (id : ℕ) (kids : List (Kid C)) (k : ℕ) (d : Kid C)
    (old new : Option (List StartedProgram)) → position (is_kid_of id) kids ≡ Some k
    → OnlyKills (λ group. Of group (get_or kids k d)) old new
    → OnlyKills (λ group. SomeKid id kids (Of group)) old new
some_kills Of id kids k d old new at kills =
    kills_of (λ group. Of group (get_or kids k d)) (λ group. SomeKid id kids (Of group)) old new
    (λ group of. some_kid id kids k d (Of group) at of) kills

-- the group of a process that ended, by its number
pub left_kills : {C : Type 0} (facts : Facts C) (kid : Kid C) (status : ExitStatus)
    (old new : Option (List StartedProgram)) → facts.has_ended kid.child status
    → OnlyKills (λ group. (is_child kid.style ≡ true) × (group ≡ kid.group)) old new
    → OnlyKills (λ group. HasLeft facts group kid) old new
left_kills facts kid status old new ended kills =
    kills_of (λ group. (is_child kid.style ≡ true) × (group ≡ kid.group)) (λ group. HasLeft facts group kid) old new
    (λ group of. record { status = status; ended = ended; child = of.0; is = sym of.1 }) kills
