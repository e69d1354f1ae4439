use Rattle.std.proofs.Common.{◌≡◌, ◌∷◌, List, ℕ, map, option_map, take, refl, ap, ◌∙◌}
use Rattle.smf_state.specs.Patched.{view_after_changes}
use Rattle.smf_changes.specs.Changes.{as_it_is, most_recent}
use Rattle.smf_changes.specs.Recorded.{touched_by}
use Rattle.smf_changes.proofs.Records.{kept_settled}
use Rattle.smf_changes.proofs.change_record.Kept.settle.Goals as goal

pub returns-clause-kept : goal.returns-clause-kept
returns-clause-kept g c =
    let h = c.args.plain.now.held in
    let touched : c.in_ok-touched.touched ≡ touched_by h c.in-Some.olds =
    c.in_ok-touched.ensures ∙ ap (touched_by h) c.as_slice.ensures in
    kept_settled c.args.self.now _ h c.in-Some.olds c.in-Some.is refl
    (c.put_newest.ensures ∙ (λ j. take most_recent (touched j ∷ c.in_ok-reserve.ensures.items j)))
    (c.in_ok-patch_shown.ensures.ok
    ∙ ap (λ (ns : List ℕ). option_map (λ v. view_after_changes v h.revision (map (as_it_is h) ns))
    c.args.self.now.shown) (c.as_slice-2.ensures ∙ touched))
    refl refl c.requires
