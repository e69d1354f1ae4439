use Rattle.std.proofs.Common.{◌≡◌, ◌+◌, drop, length}
use Rattle.smf_svccfg.specs.Lines.{words_before_close}
use Rattle.smf_svccfg.proofs.Parentheses.{behind}
use Rattle.smf_svccfg.proofs.arguments.words_before_close.Given as goal

abbrev pub invariant-loop-token : goal.invariant-loop-token
invariant-loop-token l =
    record {
      counts : l.left + l.token-index ≡ length l.tokens;
      gives : behind l.words (words_before_close (drop l.token-index l.tokens)) ≡ words_before_close l.tokens;
    }
