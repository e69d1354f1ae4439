use Rattle.std.proofs.Common.{◌≡◌, length}
use denote.Text.{Utf8}
use denote.Shadow.{shadow}
use Rattle.smf_script.specs.Requests.{front}
use Rattle.smf_script.proofs.request.front.Given as goal

-- the rest is text, as each `&str` that a loop changes
abbrev pub invariant-loop-behind : goal.invariant-loop-behind
invariant-loop-behind l = record { text : shadow (Utf8 l.rest); same : front l.rest ≡ front l.fn.text }

abbrev pub decreases-loop-behind : goal.decreases-loop-behind
decreases-loop-behind l = length l.rest
