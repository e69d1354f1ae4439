use Rattle.std.proofs.Common.{codes, string_bytes}
use Rattle.std.proofs.lemmas.Result.{on_ok_weaker}
use Rattle.smf_reasons.specs.Texts.{grouping_text, standings_text}
use Rattle.smf_reasons.proofs.Pieces.{chain_7, put_last}
use Rattle.smf_reasons.proofs.text.put_unmet.Goals as goal

pub returns : goal.returns
returns c =
    on_ok_weaker c.push_str-6.result
    (λ p. chain_7 (string_bytes c.args.out.now) (string_bytes c.push_str.new.self)
    (string_bytes c.put_standings.new.out) (string_bytes c.push_str-2.new.self)
    (string_bytes c.push_str-3.new.self) (string_bytes c.push_str-4.new.self) (string_bytes c.push_str-5.new.self)
    (string_bytes c.push_str-6.new.self)
    (codes "Dependency ") (standings_text c.args.standings.now) (codes " (group ") c.args.group.now
    (codes ", ") c.grouping_text.result.now (grouping_text c.args.grouping) (codes ").")
    c.in_ok-push_str.ensures.bytes c.in_ok-put_standings.ensures c.in_ok-push_str-2.ensures.bytes
    c.in_ok-push_str-3.ensures.bytes c.in_ok-push_str-4.ensures.bytes c.in_ok-push_str-5.ensures.bytes
    c.grouping_text.ensures p)
    (put_last c.push_str-6.result (string_bytes c.push_str-6.new.self) (string_bytes c.push_str-5.new.self)
    (codes ").") c.push_str-6.ensures.bytes)
