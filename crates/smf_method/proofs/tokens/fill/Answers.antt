use Rattle.std.proofs.Common.{drop, string_bytes}
use Rattle.smf_method.specs.Tokens.{names_of}
use Rattle.smf_method.proofs.TokenSteps.{fill_ends, nothing_left}
use Rattle.smf_method.proofs.tokens.fill.Goals as goal

pub returns : goal.returns
returns c =
    fill_ends (names_of c.args.restarter.now c.args.method c.args.instance.now) c.args.bytes.now
    (string_bytes c.loop-b.text) (drop c.loop-b.b-index c.args.bytes.now) c.loop-b.is_behind_percent
    c.loop-b.invariant (nothing_left _ _ c.loop-b-test.false)
