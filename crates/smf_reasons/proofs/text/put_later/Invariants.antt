use Rattle.std.proofs.Common.{◌≡◌, ◌++◌, drop, string_bytes}
use Rattle.std.specs.List.{flat_map}
use Rattle.smf_reasons.specs.Texts.{later_standing}
use Rattle.smf_reasons.proofs.text.put_later.Given as goal

abbrev pub invariant-loop-standing : goal.invariant-loop-standing
invariant-loop-standing l = string_bytes l.out ++ flat_map later_standing (drop l.standing-index l.standings)
    ≡ string_bytes l.fn.out ++ flat_map later_standing l.standings
