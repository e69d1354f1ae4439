use Rattle.std.proofs.Common.{◌≡◌, ◌++◌, drop}
use Rattle.smf_admin.proofs.requests.copies.Given as goal

abbrev pub invariant-loop-word : goal.invariant-loop-word
invariant-loop-word l = l.all ++ drop l.word-index l.words ≡ l.words
