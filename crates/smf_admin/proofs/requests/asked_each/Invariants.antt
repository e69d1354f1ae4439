use Rattle.std.proofs.Common.{◌≡◌, ◌++◌, drop}
use Rattle.std.specs.Prelude.{map}
use Rattle.smf_admin.specs.Requests.{asked_of}
use Rattle.smf_admin.proofs.requests.asked_each.Given as goal

abbrev pub invariant-loop-word : goal.invariant-loop-word
invariant-loop-word l = l.all ++ map (asked_of l.view.items l.command) (drop l.word-index l.words)
    ≡ map (asked_of l.view.items l.command) l.words
