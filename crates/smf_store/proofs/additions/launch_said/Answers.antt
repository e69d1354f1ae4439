use Rattle.std.proofs.Common.{◌≡◌, ◌∙◌, Some, ap, rules}
use Rattle.sqlite.specs.declared.types.Value.TheVariants.{Text}
use Rattle.smf_fmri.specs.Patterns.{read_short}
use Rattle.smf_fmri.proofs.Short.{short_is_name}
use Rattle.smf_store.proofs.additions.launch_said.Goals as goal

pub returns-clause-shows : goal.returns-clause-shows
returns-clause-shows c =
    let read : read_short c.in-Some.text.now ≡ Some c.in-Some-2.restarter = search rules in
    let same = (short_is_name c.in-Some.text.now c.in-Some-2.restarter read).0 in
    record { restarter_is = c.in-Some.ensures.shows ∙ ap Text same; count_is = c.in-Some-number_at.ensures.shows }
