use Rattle.std.proofs.Common.{List, sym, ap, subst, ◌∙◌}
use Rattle.smf_contract.specs.declared.past.Last.{Last}
use Rattle.smf_contract.specs.Entries.{last_event}
use Rattle.smf_contract.specs.Trail.{AreTraced, Happenings, until}
use Rattle.smf_contract.proofs.Trails.{traced_begun}
use Rattle.smf_contract.proofs.past.Past.begin.Goals as goal

-- the last event that is kept of the contract stays
pub invariant_of-self : goal.invariant_of-self
invariant_of-self c =
    let was = c.self.inside in
    let begun : Last =
    record { contract = c.get-id.result; count = c.last-last.result.count; until = c.last-last.result.until } in
    subst (λ (ls : List Last). AreTraced was.events.items was.before.items ls) (sym c.put_last.ensures.put)
    (traced_begun was.events.items was.before.items was.lasts.items begun c.self.invariant
    (c.last-last.ensures.count ∙ ap (λ (h : Happenings). last_event c.get-id.result h.events) (sym c.self.view_is))
    (c.last-last.ensures.until ∙ ap (λ (h : Happenings). until c.get-id.result h.events) (sym c.self.view_is)))
