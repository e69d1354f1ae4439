use Rattle.std.proofs.Common.{◌≡◌, ℕ, Bool, true, false, List, filter, take, sym, ap, ◌∙◌}
use Rattle.smf_contract.specs.declared.event.ContractEvent.{ContractEvent}
use Rattle.smf_contract.specs.Entries.{has_members}
use Rattle.smf_contract.specs.Trail.{Happenings}
use Rattle.smf_contract.proofs.ThinTables.{gone_passed, kept_noted}
use Rattle.smf_contract.proofs.past.events_with_members.Goals.{then-has_members+in_ok-reserve, else-has_members}
use Rattle.smf_contract.proofs.past.events_with_members.Goals as goal

pub loop-event-preserved : goal.loop-event-preserved
loop-event-preserved c =
    let q : ℕ → Bool = λ (id : ℕ). has_members id c.args.members.now.members in
    let es : List ContractEvent = c.args.events.now in
    let e : ContractEvent = c.event-item.result in
    elim c.if-has_members.branch [
      | then-has_members+in_ok-reserve w ↦
          let passes : q e.contract ≡ true = sym c.has_members.ensures ∙ w.if-has_members.true in
          let before : w.reserve.new.self.events ≡ filter (λ (x : ContractEvent). q x.contract) (take c.loop-event.event-index es) =
          w.reserve.ensures.events ∙ c.loop-event.invariant in
          ap (λ (h : Happenings). h.events) w.past-is ∙ w.note.ensures.noted
          ∙ kept_noted q es w.reserve.new.self.events c.loop-event.event-index e c.requires c.loop-event-test.true c.event-item.is
          passes before
      | else-has_members w ↦
          let goes : q e.contract ≡ false = sym c.has_members.ensures ∙ w.if-has_members.false in
          ap (λ (h : Happenings). h.events) w.past-is
          ∙ gone_passed q es c.loop-event.past.events c.loop-event.event-index e c.loop-event-test.true
          c.event-item.is goes c.loop-event.invariant
    ]
