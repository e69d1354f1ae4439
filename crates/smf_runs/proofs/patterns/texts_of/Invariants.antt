use Rattle.std.proofs.Common.{◌≡◌, ◌++◌, drop, map}
use Rattle.smf_runs.proofs.patterns.texts_of.Given as goal

abbrev pub invariant-loop-word : goal.invariant-loop-word
invariant-loop-word l = l.all ++ map (λ w. w.now) (drop l.word-index l.words) ≡ map (λ w. w.now) l.words
