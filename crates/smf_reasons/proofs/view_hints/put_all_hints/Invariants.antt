use Rattle.std.proofs.Common.{◌≡◌, ◌++◌, drop, flat_map, string_bytes}
use Rattle.smf_reasons.specs.ViewHints.{hint_text, member_hints}
use Rattle.smf_reasons.proofs.view_hints.put_all_hints.Given as goal

abbrev pub invariant-loop-member : goal.invariant-loop-member
invariant-loop-member l =
    string_bytes l.out ++ flat_map (member_hints l.missing l.members) (drop l.member-index l.members)
    ≡ string_bytes l.fn.out ++ hint_text l.missing l.members
