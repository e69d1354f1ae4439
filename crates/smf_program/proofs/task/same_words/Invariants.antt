use Rattle.std.proofs.Common.{◌≡◌, ◌++◌, drop, map}
use Rattle.smf_program.proofs.task.same_words.Given as goal

abbrev pub invariant-loop-word : goal.invariant-loop-word
invariant-loop-word l = map (λ w. w.now) l.all.items ++ map (λ w. w.now) (drop l.word-index l.words)
    ≡ map (λ w. w.now) l.words
