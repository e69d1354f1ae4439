use Rattle.std.proofs.Common.{◌≡◌, ℕ, filter, ap, subst, ◌∙◌}
use Rattle.smf_contract.specs.Entries.{is_event_of, is_given}
use Rattle.smf_contract.specs.Trail.{Happenings}
use Rattle.smf_contract.proofs.Trails.{all_given}
use Rattle.smf_contract.proofs.past.Past.events_of.Goals as goal

pub returns : goal.returns
returns c =
    c.in_ok-found.ensures
    ∙ ap (λ (n : ℕ). filter (is_given c.args.id n c.zero-2.result) c.args.self.now.events) c.zero.ensures
    ∙ ap (λ (n : ℕ). filter (is_given c.args.id 0 n) c.args.self.now.events) c.zero-2.ensures
    ∙ subst (λ (h : Happenings). filter (is_given c.args.id 0 0) h.events ≡ filter (is_event_of c.args.id) h.events)
    c.self.view_is
    (all_given c.args.id c.self.inside.events.items c.self.invariant.events.numbered)
