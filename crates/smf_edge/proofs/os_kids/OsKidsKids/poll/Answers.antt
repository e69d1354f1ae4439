use Rattle.std.proofs.Common.{◌≡◌, ◌≢◌, ℕ, List, [], Option, refl, subst, sym, ap, filter, ◌∙◌, inr}
use Rattle.smf_contract.specs.declared.call.ContractCall.TheVariants as calls
use Rattle.smf_contract.specs.declared.event.ContractEvent.{ContractEvent}
use Rattle.smf_contract.specs.Called.{table_after_contract_call}
use Rattle.smf_edge.specs.declared.child.Kid.{Kid}
use Rattle.smf_edge.specs.declared.child.Sight.{Sight}
use Rattle.smf_edge.specs.Books.{ledger_of}
use Rattle.smf_edge.specs.Processes.{AllRun, AreSeen, HasExit, OneFails, OneHasLeft, SomeKid, contracts, is_other_role, roles}
use Rattle.smf_edge.specs.Steps.{IsPolled}
use Rattle.smf_edge.proofs.Places.{left_contracts, left_roles, others_of, same_back, some_is}
use Rattle.smf_edge.proofs.Manned.{manned_along, manned_polled, manned_told, member_is_there}
use Rattle.smf_edge.proofs.Starts.{kills_from, no_kills}
use Rattle.smf_edge.proofs.os_kids.OsKidsKids.poll.Goals as goal

pub returns-in-Some-2-clause-seen : goal.returns-in-Some-2-clause-seen
returns-in-Some-2-clause-seen g c =
    let none = c.in_default.ensures.none in
    let Q : ContractEvent → Type 0 = λ e. c.give.new.self.pending.items ≢ [] in
    let some = some_is c.in_ok-event.field-0 c.in-Some-2.event Q c.in-Some-2.is c.in_ok-event.ensures.pending in
    let view = c.self.view_is in
    inr (
      sym (ap (λ h. h.ledger.due) view) ∙ none.1,
      ap roles c.forget.ensures ∙ others_of c.in-Some-2.event.contract c.self.inside.children.items
          ∙ ap (λ h. filter (is_other_role c.in-Some-2.event.contract) (roles h.kids)) view,
      λ e. absurd (some (ap (λ l. l.pending) none.0 ∙ ap (λ h. h.ledger.pending) view ∙ e)),
    )

pub invariant_of-self-in-Some-2 : goal.invariant_of-self-in-Some-2
invariant_of-self-in-Some-2 g c =
    let none = c.in_default.ensures.none in
    let Q : ContractEvent → Type 0 = λ e. c.give.new.self.pending.items ≢ [] in
    let some = some_is c.in_ok-event.field-0 c.in-Some-2.event Q c.in-Some-2.is c.in_ok-event.ensures.pending in
    let N : Option ContractEvent → Type 0 = λ o. IsPolled o (ledger_of c.give.new.self) (ledger_of c.take.new.self) in
    let before = manned_along _ (ledger_of c.give.new.self) _ _ (sym none.0) refl c.self.invariant.manned in
    let left = left_contracts c.in-Some-2.event.contract c.forget.new.kids.items c.self.inside.children.items
    (ap roles c.forget.ensures ∙ others_of c.in-Some-2.event.contract c.self.inside.children.items) in
    record {
      sound = c.take.ensures.sound;
      manned = manned_along _ _ _ _ refl (sym left)
          (manned_polled c.in-Some-2.event (ledger_of c.give.new.self) (ledger_of c.take.new.self)
          (contracts c.self.inside.children.items) c.give.ensures.sound.ordered.members_ascend before
          (ap (λ l. l.due) none.0 ∙ none.1) some (subst N c.in-Some-2.is c.in_ok-event.ensures.taken));
    }

pub find-requires-clause-member : goal.find-requires-clause-member
find-requires-clause-member g c =
    let N : Option ContractEvent → Type 0 = λ o. IsPolled o (ledger_of c.give.new.self) (ledger_of c.take.new.self) in
    let nothing = subst N c.in_default-2.is c.in_ok-event.ensures.taken in
    let before = manned_along _ (ledger_of c.take.new.self) _ _
    (sym (nothing.0 ∙ c.in_default.ensures.none.0)) refl c.self.invariant.manned in
    let S : Sight → Type 0 = λ sight. AreSeen g.R.System.facts sight c.deref_mut.result.now in
    let K : List (Kid g.row.R-Started.Denot) → Type 0 =
    λ ks. SomeKid c.in-Ended.contract ks (HasExit g.R.System.facts c.in-Ended.exit) in
    let kid = subst K c.deref_mut.ensures.value (subst S c.in-Ended.is c.in_ok-sight.ensures.seen) in
    member_is_there c.in-Ended.contract (ledger_of c.take.new.self) c.self.inside.children.items
    (HasExit g.R.System.facts c.in-Ended.exit) before kid

pub returns-in-Failed-clause-failed : goal.returns-in-Failed-clause-failed
returns-in-Failed-clause-failed g c = λ _.
    let S : Sight → Type 0 = λ sight. AreSeen g.R.System.facts sight c.deref_mut.result.now in
    let K : List (Kid g.row.R-Started.Denot) → Type 0 = λ ks. OneFails g.R.System.facts ks in
    subst K (c.deref_mut.ensures.value ∙ ap (λ h. h.kids) c.self.view_is)
    (subst S c.in-Failed.is c.in_ok-sight.ensures.seen)

pub returns-in-Running-clause-seen : goal.returns-in-Running-clause-seen
returns-in-Running-clause-seen g c =
    let S : Sight → Type 0 = λ sight. AreSeen g.R.System.facts sight c.deref_mut.result.now in
    let K : List (Kid g.row.R-Started.Denot) → Type 0 = λ ks. AllRun g.R.System.facts ks in
    let same = same_back c.self.inside.children.len c.self.inside.children.items c.deref_mut.result.now
    c.see_all.new.kids c.deref_mut.ensures.value c.deref_mut.ensures.len c.see_all.ensures.same in (
      same ∙ ap (λ h. roles h.kids) c.self.view_is,
      subst K (c.deref_mut.ensures.value ∙ ap (λ h. h.kids) c.self.view_is)
          (subst S c.in-Running.is c.in_ok-sight.ensures.seen),
    )

pub returns-in_ok-event-in-Ended-clause-seen : goal.returns-in_ok-event-in-Ended-clause-seen
returns-in_ok-event-in-Ended-clause-seen g c =
    let none = c.in_default.ensures.none in
    let view = c.self.view_is in
    let N : Option ContractEvent → Type 0 = λ o. IsPolled o (ledger_of c.give.new.self) (ledger_of c.take.new.self) in
    let nothing = subst N c.in_default-2.is c.in_ok-event.ensures.taken in
    let told = c.in_ok-event-in-Ended.ensures.told in
    let S : Sight → Type 0 = λ sight. AreSeen g.R.System.facts sight c.deref_mut.result.now in
    let K : List (Kid g.row.R-Started.Denot) → Type 0 =
    λ ks. SomeKid c.in-Ended.contract ks (HasExit g.R.System.facts c.in-Ended.exit) in
    let kid = subst K (c.deref_mut.ensures.value ∙ ap (λ h. h.kids) view)
    (subst S c.in-Ended.is c.in_ok-sight.ensures.seen) in
    let I : ℕ → Type 0 = λ n. SomeKid n c.args.self.now.kids (HasExit g.R.System.facts c.in-Ended.exit) in
    let F : ℕ → Type 0 = λ n. roles c.forget-in-Ended.new.kids.items
    ≡ filter (is_other_role n) (roles c.args.self.now.kids) in
    let left = left_roles c.in-Ended.contract c.self.inside.children.len c.self.inside.children.items
    c.deref_mut.result.now c.see_all.new.kids c.forget-in-Ended.new.kids.items c.forget-in-Ended.ensures
    c.deref_mut.ensures.value c.deref_mut.ensures.len c.see_all.ensures.same in
    inr (
      sym (ap (λ h. h.ledger.due) view) ∙ none.1,
      subst F (sym told.2.of) (left ∙ ap (λ h. filter (is_other_role c.in-Ended.contract) (roles h.kids)) view),
      λ _. record {
        exit = c.in-Ended.exit;
        process = told.0;
        kid = subst I (sym told.2.of) kid;
        table = told.2.table
            ∙ ap (λ l. table_after_contract_call l.table (calls.Exit told.0 c.in-Ended.exit)) (nothing.0 ∙ none.0)
            ∙ ap (λ h. table_after_contract_call h.ledger.table (calls.Exit told.0 c.in-Ended.exit)) view;
      },
    )

pub invariant_of-self-in-Ended : goal.invariant_of-self-in-Ended
invariant_of-self-in-Ended g c =
    let N : Option ContractEvent → Type 0 = λ o. IsPolled o (ledger_of c.give.new.self) (ledger_of c.take.new.self) in
    let nothing = subst N c.in_default-2.is c.in_ok-event.ensures.taken in
    let told = c.in_ok-event-in-Ended.ensures.told in
    let before = manned_along _ (ledger_of c.take.new.self) _ _
    (sym (nothing.0 ∙ c.in_default.ensures.none.0)) refl c.self.invariant.manned in
    let left = left_roles c.in-Ended.contract c.self.inside.children.len c.self.inside.children.items
    c.deref_mut.result.now c.see_all.new.kids c.forget-in-Ended.new.kids.items c.forget-in-Ended.ensures
    c.deref_mut.ensures.value c.deref_mut.ensures.len c.see_all.ensures.same in
    let after = manned_told c.in_ok-event-in-Ended.event c.in-Ended.contract told.0 c.in-Ended.exit
    (ledger_of c.take.new.self) (ledger_of c.find.new.self)
    (contracts c.self.inside.children.items) c.take.ensures.sound.ordered.members_ascend before told.1 told.2 in
    record {
      sound = c.find.ensures.sound;
      manned = manned_along _ _ _ _ refl
          (sym (left_contracts c.in-Ended.contract c.forget-in-Ended.new.kids.items c.self.inside.children.items
          left)) after;
    }

pub returns-in-Some-clause-kills : goal.returns-in-Some-clause-kills
returns-in-Some-clause-kills g c =
    no_kills _ _ _ (ap (λ h. h.started) c.self.view_is)

pub returns-in_err-event-clause-kills : goal.returns-in_err-event-clause-kills
returns-in_err-event-clause-kills g c =
    no_kills _ _ _ (ap (λ h. h.started) c.self.view_is)

pub returns-in-Some-2-clause-kills : goal.returns-in-Some-2-clause-kills
returns-in-Some-2-clause-kills g c =
    no_kills _ _ _ (ap (λ h. h.started) c.self.view_is)

pub returns-in_err-sight-clause-kills : goal.returns-in_err-sight-clause-kills
returns-in_err-sight-clause-kills g c =
    kills_from (OneHasLeft g.R.System.facts) _ _ _ _ _ (c.deref_mut.ensures.value ∙ ap (λ h. h.kids) c.self.view_is)
    (ap (λ h. h.started) c.self.view_is) c.see_all.ensures.kills

pub returns-in-Running-clause-kills : goal.returns-in-Running-clause-kills
returns-in-Running-clause-kills g c =
    kills_from (OneHasLeft g.R.System.facts) _ _ _ _ _ (c.deref_mut.ensures.value ∙ ap (λ h. h.kids) c.self.view_is)
    (ap (λ h. h.started) c.self.view_is) c.see_all.ensures.kills

pub returns-in-Failed-clause-kills : goal.returns-in-Failed-clause-kills
returns-in-Failed-clause-kills g c =
    kills_from (OneHasLeft g.R.System.facts) _ _ _ _ _ (c.deref_mut.ensures.value ∙ ap (λ h. h.kids) c.self.view_is)
    (ap (λ h. h.started) c.self.view_is) c.see_all.ensures.kills

pub returns-in_err-event-in-Ended-clause-kills : goal.returns-in_err-event-in-Ended-clause-kills
returns-in_err-event-in-Ended-clause-kills g c =
    kills_from (OneHasLeft g.R.System.facts) _ _ _ _ _ (c.deref_mut.ensures.value ∙ ap (λ h. h.kids) c.self.view_is)
    (ap (λ h. h.started) c.self.view_is) c.see_all.ensures.kills

pub returns-in_ok-event-in-Ended-clause-kills : goal.returns-in_ok-event-in-Ended-clause-kills
returns-in_ok-event-in-Ended-clause-kills g c =
    kills_from (OneHasLeft g.R.System.facts) _ _ _ _ _ (c.deref_mut.ensures.value ∙ ap (λ h. h.kids) c.self.view_is)
    (ap (λ h. h.started) c.self.view_is) c.see_all.ensures.kills
