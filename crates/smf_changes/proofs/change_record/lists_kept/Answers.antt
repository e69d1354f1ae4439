use Rattle.std.proofs.Common.{List, ℕ, length, Option, sym, ap, ◌∙◌}
use Rattle.smf_changes.specs.Recorded.{with_stale}
use Rattle.smf_changes.proofs.Records.{as_many, one_more}
use Rattle.smf_changes.proofs.change_record.lists_kept.Goals as goal

pub returns-in-Some : goal.returns-in-Some
returns-in-Some c =
    one_more c.in-Some.field-0 c.args.older.now c.if-older-lt-MOST_RECENT.true
    ∙ ap (λ (o : Option (List ℕ)). length (with_stale o c.args.older.now)) (sym c.in-Some.is)

pub returns-in-Some-2 : goal.returns-in-Some-2
returns-in-Some-2 c =
    as_many c.in-Some-2.field-0 c.args.older.now c.if-older-lt-MOST_RECENT.false
    ∙ ap (λ (o : Option (List ℕ)). length (with_stale o c.args.older.now)) (sym c.in-Some-2.is)
