use Rattle.std.proofs.Common.{◌≡◌, ◌++◌, filter, length}
use denote.Text.{Utf8}
use denote.Shadow.{shadow}
use Rattle.std.specs.List.{slice_split}
use Rattle.smf_svccfg.specs.Words.{is_blank, is_word}
use Rattle.smf_svccfg.proofs.line_words.split.Given as goal

-- each `&str` that the loop changes is text
abbrev pub invariant-loop-word : goal.invariant-loop-word
invariant-loop-word l =
    record {
      text : shadow (Utf8 l.rest);
      words : l.all ++ filter is_word (slice_split is_blank l.rest)
          ≡ filter is_word (slice_split is_blank l.fn.text);
    }

abbrev pub decreases-loop-word : goal.decreases-loop-word
decreases-loop-word l = length l.rest
