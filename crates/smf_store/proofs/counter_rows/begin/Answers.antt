use Rattle.std.proofs.Common.{[], ◌∷◌, ◌++◌, ◌∙◌, ap, ap₂}
use Rattle.smf_model.specs.declared.change.Change.TheVariants.{NextInstance, NextSnapshot, SetRevision}
use Rattle.smf_model.specs.Look.{holdings_after_changes}
use Rattle.smf_store.proofs.counter_rows.begin.Goals as goal

pub returns : goal.returns
unfolding holdings_after_changes
returns c =
    let n = c.args.counters.now in
    let one = c.in_ok-push.ensures.ok ∙ ap (λ l. l ++ SetRevision n.revision ∷ []) c.new-changes.ensures in
    let two = c.in_ok-push-2.ensures.ok ∙ ap (λ l. l ++ NextInstance n.next_instance ∷ []) one in
    let three = c.in_ok-push-3.ensures.ok ∙ ap (λ l. l ++ NextSnapshot n.next_snapshot ∷ []) two in
    let e = c.new-tables.ensures in
    c.in_ok-make.ensures.ok ∙ ap₂ holdings_after_changes e three
