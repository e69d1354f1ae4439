-- The rules in words.
use Rattle.std.specs.Prelude.{ℕ, List, codes}
use Rattle.smf_chronicle.specs.declared.rule.Rule.{Rule}
use Rattle.smf_chronicle.specs.declared.rule.Rule.TheVariants.{FoundLate, TwoLive, HeldUncommitted, CommittedTwice, OffTheDiagram}

abbrev pub rule_text : Rule → List ℕ
rule_text FoundLate = codes "found after the begin of a life"
rule_text TwoLive = codes "two live starts"
rule_text HeldUncommitted = codes "held and not committed"
rule_text CommittedTwice = codes "committed twice"
rule_text OffTheDiagram = codes "not along the diagram"
