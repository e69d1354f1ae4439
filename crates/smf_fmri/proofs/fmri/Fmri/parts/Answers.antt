use Rattle.std.proofs.Common.{◌≡◌, List, ℕ, Option, Some, None, drop, ◌∙◌, ap}
use Rattle.smf_fmri.specs.Name.{strip, short}
use Rattle.smf_fmri.specs.Patterns.{parts_of}
use Rattle.smf_fmri.proofs.Whole.{shown_strips}
use Rattle.smf_fmri.proofs.fmri.Fmri.parts.Goals as goal

pub unreachable-requires : goal.unreachable-requires
unreachable-requires c =
    let none : ◌≡◌ {A = Option (List ℕ)} None (strip short c.as_str.result.now) = c.in_default.ensures in
    let some : strip short c.as_str.result.now ≡ Some (drop 5 c.args.self.now) =
    shown_strips _ _ _ c.self.invariant c.self.view_is c.as_str.ensures.value in
    cc

pub returns : goal.returns
returns c =
    let found : ◌≡◌ {A = Option (List ℕ)} (Some c.in-Some.body.now) (strip short c.as_str.result.now) =
    c.in-Some.ensures in
    let some : strip short c.as_str.result.now ≡ Some (drop 5 c.args.self.now) =
    shown_strips _ _ _ c.self.invariant c.self.view_is c.as_str.ensures.value in
    let body : c.in-Some.body.now ≡ drop 5 c.args.self.now = cc in
    c.parts_of.ensures ∙ ap parts_of body
