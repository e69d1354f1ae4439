use Rattle.std.proofs.Common.{◌≡◌, ◌-◌, List, length, Some, sym, ap, ◌∙◌}
use Rattle.std.specs.Prelude.{slice_get}
use Rattle.std.specs.Option.{option_to_list}
use Rattle.smf_model.specs.declared.held.InstanceName.{InstanceName}
use Rattle.smf_admin.proofs.Named.{full_match}
use Rattle.smf_admin.proofs.instances.match_of.Goals as goal

pub returns : goal.returns
returns c =
    let all = c.as_slice-names.ensures.all in
    let low : slice_get c.args.view.now.items 0 ≡ Some c.in_ok-first.first.now =
    sym (c.in_ok-first.ensures.value ∙ ap (λ (s : List InstanceName). slice_get s 0) all) in
    let high : slice_get c.args.view.now.items (length c.args.view.now.items - 1) ≡ Some c.in_ok-last.last.now =
    sym (c.in_ok-last.ensures.value ∙ ap (λ (s : List InstanceName). slice_get s (length s - 1)) all) in
    full_match c.args.view.now.items c.args.name.now c.in_ok-first.first.now c.in_ok-last.last.now
    c.as_slice-names.ensures.rises low high c.print-low.ensures.named c.print-high.ensures.named
    c.print-own.ensures.named
    ∙ ap option_to_list (sym c.get.ensures)
