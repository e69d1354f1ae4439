use Rattle.std.proofs.Common.{◌≡◌, ◌++◌, drop}
use Rattle.smf_reasons.specs.ViewHints.{programs_of}
use Rattle.smf_reasons.proofs.view_hints.push_all_programs.Given as goal

abbrev pub invariant-loop-member : goal.invariant-loop-member
invariant-loop-member l =
    l.all ++ programs_of (drop l.member-index l.members) ≡ l.fn.all ++ programs_of l.members
