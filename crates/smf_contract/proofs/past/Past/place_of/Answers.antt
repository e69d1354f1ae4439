use Rattle.std.proofs.Common.{◌≡◌, sym, ap, ◌∙◌, arith}
use Rattle.std.specs.Prelude.{position}
use Rattle.smf_contract.specs.Entries.{is_event, last_event}
use Rattle.smf_contract.specs.Trail.{Happenings}
use Rattle.smf_contract.proofs.Trails.{place_above, place_zero}
use Rattle.smf_contract.proofs.past.Past.place_of.Goals as goal

pub returns-then-number-eq0 : goal.returns-then-number-eq0
returns-then-number-eq0 c =
    sym (place_zero c.args.contract c.args.number c.self.inside.events.items c.self.invariant.events.numbered
    c.if-number-eq0.true)
    ∙ ap (λ (h : Happenings). position (is_event c.args.contract c.args.number) h.events) c.self.view_is

pub returns-then-last-number : goal.returns-then-last-number
returns-then-last-number c =
    let count : c.last-last.result.count ≡ last_event c.args.contract c.self.inside.events.items =
    c.last-last.ensures.count ∙ ap (λ (h : Happenings). last_event c.args.contract h.events) (sym c.self.view_is) in
    sym (place_above c.args.contract c.args.number c.self.inside.events.items c.self.invariant.events.numbered
    (omega (arith, count, c.if-last-number.true)))
    ∙ ap (λ (h : Happenings). position (is_event c.args.contract c.args.number) h.events) c.self.view_is
