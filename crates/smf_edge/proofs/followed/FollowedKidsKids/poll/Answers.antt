use Rattle.std.proofs.Common.{List, ◌++◌, Some, refl, subst, sym, ap, ◌∙◌, inl, inr, take, drop, length}
use Rattle.smf_edge.specs.declared.deed.Happening.{Happening}
use Rattle.smf_edge.specs.Ledgers.{Ledger}
use Rattle.smf_edge.specs.Processes.{HasTold}
use Rattle.smf_edge.specs.declared.kid.Kid.{Kid}
use Rattle.smf_edge.specs.declared.sights.Sight.{Sight}
use Rattle.smf_edge.specs.declared.sights.Sight.TheVariants as sights
use Rattle.smf_edge.specs.Books.{ledger_of}
use Rattle.smf_edge.specs.Followed.{Following}
use Rattle.smf_edge.specs.Sights.{AreSeen, EmptiesOnly, OneFails, OneSeen, PollsEvent, TellsEnd, TellsFork, TellsLast}
use Rattle.smf_edge.proofs.Preservation.{followed_along}
use Rattle.smf_edge.proofs.Polls.{empties, gone_kid, left_kid, member_is_there, over_kid, poll_gone, poll_left, poll_over}
use Rattle.smf_edge.proofs.followed.FollowedKidsKids.poll.Goals as goal

pub find-requires-clause-member : goal.find-requires-clause-member
find-requires-clause-member g c =
    let l = ledger_of c.give.new.self in
    let items = c.self.inside.kids.items in
    let before = followed_along _ l _ _ (sym c.in_default.ensures.none.0) refl c.self.invariant.followed in
    let S : Sight → Type 0 = λ sight. AreSeen g.C.Contracts.facts l.table sight c.deref_mut.result.now in
    let K : List (Kid g.row.C-Held.Denot) → Type 0 =
    λ ks. OneSeen g.C.Contracts.facts l.table (sights.Left c.in-Left.id c.in-Left.end) ks in
    let one = subst K c.deref_mut.ensures.value (subst S c.in-Left.is c.see_all-sight.ensures.seen) in
    member_is_there c.in-Left.id l items _ before (left_kid g.C.Contracts.facts c.in-Left.id c.in-Left.end l items one)

pub find-requires-in-Over-clause-member : goal.find-requires-in-Over-clause-member
find-requires-in-Over-clause-member g c =
    let l = ledger_of c.give.new.self in
    let items = c.self.inside.kids.items in
    let before = followed_along _ l _ _ (sym c.in_default.ensures.none.0) refl c.self.invariant.followed in
    let S : Sight → Type 0 = λ sight. AreSeen g.C.Contracts.facts l.table sight c.deref_mut.result.now in
    let K : List (Kid g.row.C-Held.Denot) → Type 0 =
    λ ks. OneSeen g.C.Contracts.facts l.table (sights.Over c.in-Over.id c.in-Over.end) ks in
    let one = subst K c.deref_mut.ensures.value (subst S c.in-Over.is c.see_all-sight.ensures.seen) in
    member_is_there c.in-Over.id l items _ before (over_kid g.C.Contracts.facts c.in-Over.id c.in-Over.end l items one)

pub find-requires-in-Gone-clause-member : goal.find-requires-in-Gone-clause-member
find-requires-in-Gone-clause-member g c =
    let l = ledger_of c.give.new.self in
    let items = c.self.inside.kids.items in
    let before = followed_along _ l _ _ (sym c.in_default.ensures.none.0) refl c.self.invariant.followed in
    let S : Sight → Type 0 = λ sight. AreSeen g.C.Contracts.facts l.table sight c.deref_mut.result.now in
    let K : List (Kid g.row.C-Held.Denot) → Type 0 =
    λ ks. OneSeen g.C.Contracts.facts l.table (sights.Gone c.in-Gone.id c.in-Gone.end) ks in
    let one = subst K c.deref_mut.ensures.value (subst S c.in-Gone.is c.see_all-sight.ensures.seen) in
    member_is_there c.in-Gone.id l items _ before (gone_kid g.C.Contracts.facts c.in-Gone.id c.in-Gone.end l items one)

pub find-requires-clause-none_pending : goal.find-requires-clause-none_pending
find-requires-clause-none_pending g c =
    let before = followed_along _ (ledger_of c.give.new.self) _ _ (sym c.in_default.ensures.none.0) refl
    c.self.invariant.followed in
    before.pending

pub find-requires-in-Over-clause-none_pending : goal.find-requires-in-Over-clause-none_pending
find-requires-in-Over-clause-none_pending g c =
    let before = followed_along _ (ledger_of c.give.new.self) _ _ (sym c.in_default.ensures.none.0) refl
    c.self.invariant.followed in
    before.pending

pub find-requires-in-Gone-clause-none_pending : goal.find-requires-in-Gone-clause-none_pending
find-requires-in-Gone-clause-none_pending g c =
    let before = followed_along _ (ledger_of c.give.new.self) _ _ (sym c.in_default.ensures.none.0) refl
    c.self.invariant.followed in
    before.pending

pub returns-in-Failed-clause-failed : goal.returns-in-Failed-clause-failed
returns-in-Failed-clause-failed g c = λ _.
    let S : Sight → Type 0 =
    λ sight. AreSeen g.C.Contracts.facts (ledger_of c.give.new.self).table sight c.deref_mut.result.now in
    let K : List (Kid g.row.C-Held.Denot) → Type 0 = λ ks. OneFails g.C.Contracts.facts ks in
    subst K (c.deref_mut.ensures.value ∙ ap (λ h. h.kids) c.self.view_is)
    (subst S c.in-Failed.is c.see_all-sight.ensures.seen)

pub invariant_of-self-in-Left : goal.invariant_of-self-in-Left
invariant_of-self-in-Left g c =
    let l = ledger_of c.give.new.self in
    let m = ledger_of c.find.new.self in
    let items = c.self.inside.kids.items in
    let now = take c.self.inside.kids.len
    (c.put.new.kids ++ drop (length c.put.new.kids)
    (take c.self.inside.kids.len
    (c.see_all-sight.new.kids ++ drop (length c.see_all-sight.new.kids) c.self.inside.kids.items))) in
    let before = followed_along _ l _ _ (sym c.in_default.ensures.none.0) refl c.self.invariant.followed in
    let S : Sight → Type 0 = λ sight. AreSeen g.C.Contracts.facts l.table sight c.deref_mut.result.now in
    let one = subst S c.in-Left.is c.see_all-sight.ensures.seen in
    let both = poll_left g.C.Contracts.facts c.in-Left.id c.in-Left.end c.in_ok-event-in-Left.event
    c.self.inside.kids.len l m items c.deref_mut.result.now c.see_all-sight.new.kids
    c.deref_mut-in-Left.result.now c.put.new.kids now c.give.ensures.sound c.in_ok-event-in-Left.ensures.room
    before c.deref_mut.ensures.value c.deref_mut.ensures.len c.see_all-sight.ensures.same one
    c.deref_mut-in-Left.ensures.value c.deref_mut-in-Left.ensures.len c.in_ok-event-in-Left.ensures.told
    c.put.ensures refl in
    record { sound = c.find.ensures.sound; followed = both.1 }

pub invariant_of-self-in-Over : goal.invariant_of-self-in-Over
invariant_of-self-in-Over g c =
    let l = ledger_of c.give.new.self in
    let m = ledger_of c.find-in-Over.new.self in
    let items = c.self.inside.kids.items in
    let now = take c.self.inside.kids.len
    (c.put-in-Over.new.kids ++ drop (length c.put-in-Over.new.kids)
    (take c.self.inside.kids.len
    (c.see_all-sight.new.kids ++ drop (length c.see_all-sight.new.kids) c.self.inside.kids.items))) in
    let before = followed_along _ l _ _ (sym c.in_default.ensures.none.0) refl c.self.invariant.followed in
    let S : Sight → Type 0 = λ sight. AreSeen g.C.Contracts.facts l.table sight c.deref_mut.result.now in
    let one = subst S c.in-Over.is c.see_all-sight.ensures.seen in
    let both = poll_over g.C.Contracts.facts c.in-Over.id c.in-Over.end c.in_ok-event-in-Over.event
    c.self.inside.kids.len l m items c.deref_mut.result.now c.see_all-sight.new.kids
    c.deref_mut-in-Over.result.now c.put-in-Over.new.kids now c.give.ensures.sound
    c.in_ok-event-in-Over.ensures.room before c.deref_mut.ensures.value c.deref_mut.ensures.len
    c.see_all-sight.ensures.same one c.deref_mut-in-Over.ensures.value c.deref_mut-in-Over.ensures.len
    (subst (λ (h : Happening). HasTold c.in-Over.id h l m c.in_ok-event-in-Over.event) c.end_event.ensures
    c.in_ok-event-in-Over.ensures.told) c.put-in-Over.ensures refl in
    record { sound = c.find-in-Over.ensures.sound; followed = both.1 }

pub invariant_of-self-in-Gone : goal.invariant_of-self-in-Gone
invariant_of-self-in-Gone g c =
    let l = ledger_of c.give.new.self in
    let m = ledger_of c.find-in-Gone.new.self in
    let items = c.self.inside.kids.items in
    let now = c.forget.new.kids.items in
    let before = followed_along _ l _ _ (sym c.in_default.ensures.none.0) refl c.self.invariant.followed in
    let S : Sight → Type 0 = λ sight. AreSeen g.C.Contracts.facts l.table sight c.deref_mut.result.now in
    let one = subst S c.in-Gone.is c.see_all-sight.ensures.seen in
    let both = poll_gone g.C.Contracts.facts c.in-Gone.id c.in-Gone.end c.in_ok-event-in-Gone.event
    c.self.inside.kids.len l m items c.deref_mut.result.now c.see_all-sight.new.kids now c.give.ensures.sound
    c.in_ok-event-in-Gone.ensures.room before c.deref_mut.ensures.value c.deref_mut.ensures.len
    c.see_all-sight.ensures.same one
    (subst (λ (h : Happening). HasTold c.in-Gone.id h l m c.in_ok-event-in-Gone.event) c.end_event-in-Gone.ensures
    c.in_ok-event-in-Gone.ensures.told) c.forget.ensures in
    record { sound = c.find-in-Gone.ensures.sound; followed = both.1 }

pub returns-in_ok-event-in-Left-clause-seen : goal.returns-in_ok-event-in-Left-clause-seen
returns-in_ok-event-in-Left-clause-seen g c =
    let l = ledger_of c.give.new.self in
    let m = ledger_of c.find.new.self in
    let items = c.self.inside.kids.items in
    let now = take c.self.inside.kids.len
    (c.put.new.kids ++ drop (length c.put.new.kids)
    (take c.self.inside.kids.len
    (c.see_all-sight.new.kids ++ drop (length c.see_all-sight.new.kids) c.self.inside.kids.items))) in
    let before = followed_along _ l _ _ (sym c.in_default.ensures.none.0) refl c.self.invariant.followed in
    let S : Sight → Type 0 = λ sight. AreSeen g.C.Contracts.facts l.table sight c.deref_mut.result.now in
    let one = subst S c.in-Left.is c.see_all-sight.ensures.seen in
    let both = poll_left g.C.Contracts.facts c.in-Left.id c.in-Left.end c.in_ok-event-in-Left.event
    c.self.inside.kids.len l m items c.deref_mut.result.now c.see_all-sight.new.kids
    c.deref_mut-in-Left.result.now c.put.new.kids now c.give.ensures.sound c.in_ok-event-in-Left.ensures.room
    before c.deref_mut.ensures.value c.deref_mut.ensures.len c.see_all-sight.ensures.same one
    c.deref_mut-in-Left.ensures.value c.deref_mut-in-Left.ensures.len c.in_ok-event-in-Left.ensures.told
    c.put.ensures refl in
    let Q : Ledger → Type 0 = λ k. TellsFork g.C.Contracts.facts c.in_ok-event-in-Left.event k m items now in
    let tells = subst Q c.in_default.ensures.none.0 both.0 in
    let polls : PollsEvent g.C.Contracts.facts c.in_ok-event-in-Left.event
    (ledger_of c.self.inside.book) m items now = inr (c.in_default.ensures.none.1, inl tells) in
    let V : Following g.row.C-Held.Denot → Type 0 =
    λ h. PollsEvent g.C.Contracts.facts c.in_ok-event-in-Left.event h.ledger m h.kids now in
    subst V c.self.view_is polls

pub returns-in_ok-event-in-Left-clause-empties : goal.returns-in_ok-event-in-Left-clause-empties
returns-in_ok-event-in-Left-clause-empties g c =
    let l = ledger_of c.give.new.self in
    let m = ledger_of c.find.new.self in
    let items = c.self.inside.kids.items in
    let now = take c.self.inside.kids.len
    (c.put.new.kids ++ drop (length c.put.new.kids)
    (take c.self.inside.kids.len
    (c.see_all-sight.new.kids ++ drop (length c.see_all-sight.new.kids) c.self.inside.kids.items))) in
    let before = followed_along _ l _ _ (sym c.in_default.ensures.none.0) refl c.self.invariant.followed in
    let S : Sight → Type 0 = λ sight. AreSeen g.C.Contracts.facts l.table sight c.deref_mut.result.now in
    let one = subst S c.in-Left.is c.see_all-sight.ensures.seen in
    let both = poll_left g.C.Contracts.facts c.in-Left.id c.in-Left.end c.in_ok-event-in-Left.event
    c.self.inside.kids.len l m items c.deref_mut.result.now c.see_all-sight.new.kids
    c.deref_mut-in-Left.result.now c.put.new.kids now c.give.ensures.sound c.in_ok-event-in-Left.ensures.room
    before c.deref_mut.ensures.value c.deref_mut.ensures.len c.see_all-sight.ensures.same one
    c.deref_mut-in-Left.ensures.value c.deref_mut-in-Left.ensures.len c.in_ok-event-in-Left.ensures.told
    c.put.ensures refl in
    let Q : Ledger → Type 0 = λ k. TellsFork g.C.Contracts.facts c.in_ok-event-in-Left.event k m items now in
    let tells = subst Q c.in_default.ensures.none.0 both.0 in
    let polls : PollsEvent g.C.Contracts.facts c.in_ok-event-in-Left.event
    (ledger_of c.self.inside.book) m items now = inr (c.in_default.ensures.none.1, inl tells) in
    let V : Following g.row.C-Held.Denot → Type 0 = λ h. EmptiesOnly g.C.Contracts.facts h.kids h.ledger m in
    subst V c.self.view_is
    (empties g.C.Contracts.facts (Some c.in_ok-event-in-Left.event)
    (ledger_of c.self.inside.book) m items now c.self.invariant.followed both.1 polls)

pub returns-in_ok-event-in-Over-clause-seen : goal.returns-in_ok-event-in-Over-clause-seen
returns-in_ok-event-in-Over-clause-seen g c =
    let l = ledger_of c.give.new.self in
    let m = ledger_of c.find-in-Over.new.self in
    let items = c.self.inside.kids.items in
    let now = take c.self.inside.kids.len
    (c.put-in-Over.new.kids ++ drop (length c.put-in-Over.new.kids)
    (take c.self.inside.kids.len
    (c.see_all-sight.new.kids ++ drop (length c.see_all-sight.new.kids) c.self.inside.kids.items))) in
    let before = followed_along _ l _ _ (sym c.in_default.ensures.none.0) refl c.self.invariant.followed in
    let S : Sight → Type 0 = λ sight. AreSeen g.C.Contracts.facts l.table sight c.deref_mut.result.now in
    let one = subst S c.in-Over.is c.see_all-sight.ensures.seen in
    let both = poll_over g.C.Contracts.facts c.in-Over.id c.in-Over.end c.in_ok-event-in-Over.event
    c.self.inside.kids.len l m items c.deref_mut.result.now c.see_all-sight.new.kids
    c.deref_mut-in-Over.result.now c.put-in-Over.new.kids now c.give.ensures.sound
    c.in_ok-event-in-Over.ensures.room before c.deref_mut.ensures.value c.deref_mut.ensures.len
    c.see_all-sight.ensures.same one c.deref_mut-in-Over.ensures.value c.deref_mut-in-Over.ensures.len
    (subst (λ (h : Happening). HasTold c.in-Over.id h l m c.in_ok-event-in-Over.event) c.end_event.ensures
    c.in_ok-event-in-Over.ensures.told) c.put-in-Over.ensures refl in
    let Q : Ledger → Type 0 = λ k. TellsEnd c.in_ok-event-in-Over.event k m items now in
    let tells = subst Q c.in_default.ensures.none.0 both.0 in
    let polls : PollsEvent g.C.Contracts.facts c.in_ok-event-in-Over.event
    (ledger_of c.self.inside.book) m items now = inr (c.in_default.ensures.none.1, inr (inl tells)) in
    let V : Following g.row.C-Held.Denot → Type 0 =
    λ h. PollsEvent g.C.Contracts.facts c.in_ok-event-in-Over.event h.ledger m h.kids now in
    subst V c.self.view_is polls

pub returns-in_ok-event-in-Over-clause-empties : goal.returns-in_ok-event-in-Over-clause-empties
returns-in_ok-event-in-Over-clause-empties g c =
    let l = ledger_of c.give.new.self in
    let m = ledger_of c.find-in-Over.new.self in
    let items = c.self.inside.kids.items in
    let now = take c.self.inside.kids.len
    (c.put-in-Over.new.kids ++ drop (length c.put-in-Over.new.kids)
    (take c.self.inside.kids.len
    (c.see_all-sight.new.kids ++ drop (length c.see_all-sight.new.kids) c.self.inside.kids.items))) in
    let before = followed_along _ l _ _ (sym c.in_default.ensures.none.0) refl c.self.invariant.followed in
    let S : Sight → Type 0 = λ sight. AreSeen g.C.Contracts.facts l.table sight c.deref_mut.result.now in
    let one = subst S c.in-Over.is c.see_all-sight.ensures.seen in
    let both = poll_over g.C.Contracts.facts c.in-Over.id c.in-Over.end c.in_ok-event-in-Over.event
    c.self.inside.kids.len l m items c.deref_mut.result.now c.see_all-sight.new.kids
    c.deref_mut-in-Over.result.now c.put-in-Over.new.kids now c.give.ensures.sound
    c.in_ok-event-in-Over.ensures.room before c.deref_mut.ensures.value c.deref_mut.ensures.len
    c.see_all-sight.ensures.same one c.deref_mut-in-Over.ensures.value c.deref_mut-in-Over.ensures.len
    (subst (λ (h : Happening). HasTold c.in-Over.id h l m c.in_ok-event-in-Over.event) c.end_event.ensures
    c.in_ok-event-in-Over.ensures.told) c.put-in-Over.ensures refl in
    let Q : Ledger → Type 0 = λ k. TellsEnd c.in_ok-event-in-Over.event k m items now in
    let tells = subst Q c.in_default.ensures.none.0 both.0 in
    let polls : PollsEvent g.C.Contracts.facts c.in_ok-event-in-Over.event
    (ledger_of c.self.inside.book) m items now = inr (c.in_default.ensures.none.1, inr (inl tells)) in
    let V : Following g.row.C-Held.Denot → Type 0 = λ h. EmptiesOnly g.C.Contracts.facts h.kids h.ledger m in
    subst V c.self.view_is
    (empties g.C.Contracts.facts (Some c.in_ok-event-in-Over.event)
    (ledger_of c.self.inside.book) m items now c.self.invariant.followed both.1 polls)

pub returns-in_ok-event-in-Gone-clause-seen : goal.returns-in_ok-event-in-Gone-clause-seen
returns-in_ok-event-in-Gone-clause-seen g c =
    let l = ledger_of c.give.new.self in
    let m = ledger_of c.find-in-Gone.new.self in
    let items = c.self.inside.kids.items in
    let now = c.forget.new.kids.items in
    let before = followed_along _ l _ _ (sym c.in_default.ensures.none.0) refl c.self.invariant.followed in
    let S : Sight → Type 0 = λ sight. AreSeen g.C.Contracts.facts l.table sight c.deref_mut.result.now in
    let one = subst S c.in-Gone.is c.see_all-sight.ensures.seen in
    let both = poll_gone g.C.Contracts.facts c.in-Gone.id c.in-Gone.end c.in_ok-event-in-Gone.event
    c.self.inside.kids.len l m items c.deref_mut.result.now c.see_all-sight.new.kids now c.give.ensures.sound
    c.in_ok-event-in-Gone.ensures.room before c.deref_mut.ensures.value c.deref_mut.ensures.len
    c.see_all-sight.ensures.same one
    (subst (λ (h : Happening). HasTold c.in-Gone.id h l m c.in_ok-event-in-Gone.event) c.end_event-in-Gone.ensures
    c.in_ok-event-in-Gone.ensures.told) c.forget.ensures in
    let Q : Ledger → Type 0 = λ k. TellsLast g.C.Contracts.facts c.in_ok-event-in-Gone.event k m items now in
    let tells = subst Q c.in_default.ensures.none.0 both.0 in
    let polls : PollsEvent g.C.Contracts.facts c.in_ok-event-in-Gone.event
    (ledger_of c.self.inside.book) m items now = inr (c.in_default.ensures.none.1, inr (inr tells)) in
    let V : Following g.row.C-Held.Denot → Type 0 =
    λ h. PollsEvent g.C.Contracts.facts c.in_ok-event-in-Gone.event h.ledger m h.kids now in
    subst V c.self.view_is polls

pub returns-in_ok-event-in-Gone-clause-empties : goal.returns-in_ok-event-in-Gone-clause-empties
returns-in_ok-event-in-Gone-clause-empties g c =
    let l = ledger_of c.give.new.self in
    let m = ledger_of c.find-in-Gone.new.self in
    let items = c.self.inside.kids.items in
    let now = c.forget.new.kids.items in
    let before = followed_along _ l _ _ (sym c.in_default.ensures.none.0) refl c.self.invariant.followed in
    let S : Sight → Type 0 = λ sight. AreSeen g.C.Contracts.facts l.table sight c.deref_mut.result.now in
    let one = subst S c.in-Gone.is c.see_all-sight.ensures.seen in
    let both = poll_gone g.C.Contracts.facts c.in-Gone.id c.in-Gone.end c.in_ok-event-in-Gone.event
    c.self.inside.kids.len l m items c.deref_mut.result.now c.see_all-sight.new.kids now c.give.ensures.sound
    c.in_ok-event-in-Gone.ensures.room before c.deref_mut.ensures.value c.deref_mut.ensures.len
    c.see_all-sight.ensures.same one
    (subst (λ (h : Happening). HasTold c.in-Gone.id h l m c.in_ok-event-in-Gone.event) c.end_event-in-Gone.ensures
    c.in_ok-event-in-Gone.ensures.told) c.forget.ensures in
    let Q : Ledger → Type 0 = λ k. TellsLast g.C.Contracts.facts c.in_ok-event-in-Gone.event k m items now in
    let tells = subst Q c.in_default.ensures.none.0 both.0 in
    let polls : PollsEvent g.C.Contracts.facts c.in_ok-event-in-Gone.event
    (ledger_of c.self.inside.book) m items now = inr (c.in_default.ensures.none.1, inr (inr tells)) in
    let V : Following g.row.C-Held.Denot → Type 0 = λ h. EmptiesOnly g.C.Contracts.facts h.kids h.ledger m in
    subst V c.self.view_is
    (empties g.C.Contracts.facts (Some c.in_ok-event-in-Gone.event)
    (ledger_of c.self.inside.book) m items now c.self.invariant.followed both.1 polls)
