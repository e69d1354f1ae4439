use Rattle.std.proofs.Common.{◌∙◌, ℕ, List, ap, subst, sym}
use Rattle.std.specs.List.{position}
use Rattle.smf_fmri.specs.ByKey.{Rises, has_key}
use Rattle.smf_dep.specs.Departures.{by_itself}
use Rattle.smf_dep.proofs.ByNumber.{not_placed, placed}
use Rattle.smf_dep.proofs.roll.place_of_number.Goals as goal

pub returns-in-Ok : goal.returns-in-Ok
returns-in-Ok c =
    sym (placed by_itself c.args.instance c.in-Ok.place c.as_slice.result.now c.in-Ok.ensures.found)
    ∙ ap (position (has_key by_itself c.args.instance)) c.as_slice.ensures.all

pub returns-in-Err : goal.returns-in-Err
returns-in-Err c =
    let P : List ℕ → Type 0 = Rises by_itself in
    let rises : Rises by_itself c.as_slice.result.now = subst P (sym c.as_slice.ensures.all) c.as_slice.ensures.rises in
    sym (not_placed by_itself c.args.instance c.in-Err.field-0 c.as_slice.result.now rises c.in-Err.ensures.absent)
    ∙ ap (position (has_key by_itself c.args.instance)) c.as_slice.ensures.all
