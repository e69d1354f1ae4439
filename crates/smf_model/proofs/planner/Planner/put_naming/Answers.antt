use Rattle.std.proofs.Common.{subst}
use Rattle.smf_fmri.specs.ByKey.{Rises}
use Rattle.smf_model.specs.Contents.{Holdings}
use Rattle.smf_model.specs.Look.{by_entry}
use Rattle.smf_model.proofs.OwnersPut.{put_done}
use Rattle.smf_model.proofs.planner.Planner.put_naming.Goals as goal

pub returns : goal.returns
returns c =
    let P : Holdings → Type 0 = λ h. Rises by_entry h.instances in
    let rises : Rises by_entry c.args.self.now.instances = subst P c.self.view_is c.entries-entries.ensures.rises in
    rw (
      c.in_ok-outcome.ensures,
      c.in_ok-clone.ensures.cases,
      c.in_ok-written.ensures,
      put_done c.args.self.now c.args.owner.now c.args.groups c.requires rises,
    ) at c.and_changes.ensures
