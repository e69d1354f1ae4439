use Rattle.std.proofs.Common.{◌≡◌, ◌++◌, drop}
use Rattle.smf_toml.specs.Pieces.{text_options}
use Rattle.smf_toml.proofs.pieces.put_each_option.Given as goal

abbrev pub invariant-loop-text : goal.invariant-loop-text
invariant-loop-text l =
    l.out.items ++ text_options l.word (drop l.text-index l.texts) ≡ l.fn.out.items ++ text_options l.word l.texts
