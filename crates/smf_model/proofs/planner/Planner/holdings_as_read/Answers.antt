use Rattle.std.proofs.Common.{◌≡◌, ap, ◌∙◌, subst}
use Rattle.smf_fmri.specs.ByKey.{Rises}
use Rattle.smf_model.specs.Copied.{reads_written}
use Rattle.smf_model.specs.Contents.{Holdings}
use Rattle.smf_model.specs.Look.{by_entry, groups_of, holdings_after_changes}
use Rattle.smf_model.proofs.ReadAnew.{copied_is}
use Rattle.smf_model.proofs.planner.Planner.holdings_as_read.Goals as goal

pub returns : goal.returns
returns c =
    let all : c.entries.result.now ≡ c.args.self.now.instances =
    c.entries.ensures.all ∙ ap (λ (h : Holdings). h.instances) c.self.view_is in
    let changes : c.in_ok-changes.changes ≡ reads_written (groups_of c.args.self.now) c.args.self.now.instances =
    c.in_ok-changes.ensures ∙ ap (reads_written (groups_of c.args.self.now)) all in
    let made : c.make.new.self ≡ holdings_after_changes c.args.self.now c.in_ok-changes.changes =
    c.in_ok-make.ensures.ok
    ∙ ap (λ (h : Holdings). holdings_after_changes h c.in_ok-changes.changes)
    (c.in_ok-copy.ensures.cases ∙ c.self.view_is) in
    let P : Holdings → Type 0 = λ h. Rises by_entry h.instances in
    copied_is c.args.self.now c.make.new.self c.in_ok-changes.changes
    (subst P c.self.view_is c.entries.ensures.rises) changes made
