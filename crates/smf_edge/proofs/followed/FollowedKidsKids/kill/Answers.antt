use Rattle.std.proofs.Common.{◌⊎◌, ◌<◌, ℕ, List, refl, subst, sym, ap, filter, ◌∙◌}
use Rattle.smf_edge.specs.Ledgers.{Ledger, members_left}
use Rattle.smf_edge.specs.Steps.{IsKilled}
use Rattle.smf_edge.specs.declared.kid.Kid.{Kid}
use Rattle.smf_edge.specs.Books.{ledger_of}
use Rattle.smf_edge.specs.Phases.{IsAbsent, SomeKid, is_other_post, posts}
use Rattle.smf_edge.proofs.Preservation.{followed_along, followed_killed}
use Rattle.smf_edge.proofs.FollowedPlaces.{left_posts}
use Rattle.smf_edge.proofs.Polls.{living_kid}
use Rattle.smf_edge.proofs.followed.FollowedKidsKids.kill.Goals as goal

pub returns-then-not-end_one-clause-failed : goal.returns-then-not-end_one-clause-failed
returns-then-not-end_one-clause-failed g c = λ _.
    let N : List (Kid g.row.C-Held.Denot) → Type 0 = λ ks. IsAbsent c.args.id (posts ks)
    ⊎ SomeKid c.args.id ks (λ kid. g.C.Contracts.facts.may_live kid.held) in
    let S : List (Kid g.row.C-Held.Denot) → Type 0 =
    λ ks. SomeKid c.args.id ks (λ kid. g.C.Contracts.facts.may_live kid.held) in
    let failed = subst N c.deref_mut.ensures.value (c.end_one.ensures.living c.if-not-end_one.true) in
    let L : Ledger → Type 0 = λ l. 0 < members_left l c.args.id in
    subst S (ap (λ h. h.kids) c.self.view_is)
    (living_kid c.args.id (ledger_of c.self.inside.book) c.self.inside.kids.items
    (λ kid. g.C.Contracts.facts.may_live kid.held) c.self.invariant.followed
    (subst L c.prepare_kill.ensures.same c.in_ok-kill.ensures.some) failed)

pub returns-clause-ended : goal.returns-clause-ended
returns-clause-ended g c =
    let P : List (Kid g.row.C-Held.Denot) → Type 0 =
    λ ks. SomeKid c.args.id ks (λ kid. g.C.Contracts.facts.is_ended kid.held) in
    subst P (c.deref_mut.ensures.value ∙ ap (λ h. h.kids) c.self.view_is) (c.end_one.ensures.ended c.if-not-end_one.false)

pub returns-clause-forgotten : goal.returns-clause-forgotten
returns-clause-forgotten g c =
    left_posts c.args.id c.self.inside.kids.len c.self.inside.kids.items c.deref_mut.result.now c.end_one.new.kids
    c.forget.new.kids.items c.forget.ensures c.deref_mut.ensures.value c.deref_mut.ensures.len
    c.end_one.ensures.same
    ∙ ap (λ h. filter (is_other_post c.args.id) (posts h.kids)) c.self.view_is

pub invariant_of-self-2 : goal.invariant_of-self-2
invariant_of-self-2 g c =
    let members_left =
    left_posts c.args.id c.self.inside.kids.len c.self.inside.kids.items c.deref_mut.result.now c.end_one.new.kids
    c.forget.new.kids.items c.forget.ensures c.deref_mut.ensures.value c.deref_mut.ensures.len
    c.end_one.ensures.same in
    let before = followed_along _ (ledger_of c.prepare_kill.new.self) _ _
    (sym c.prepare_kill.ensures.same) refl c.self.invariant.followed in
    let K : ℕ → Type 0 = λ n. IsKilled n (ledger_of c.prepare_kill.new.self) (ledger_of c.kill.new.self) in
    let killed = subst K c.in_ok-kill.ensures.kill.0 c.kill.ensures.killed in
    record {
      sound = c.kill.ensures.sound;
      followed = followed_along _ _ _ _ refl (sym members_left)
          (followed_killed c.args.id (ledger_of c.prepare_kill.new.self) (ledger_of c.kill.new.self)
          (posts c.self.inside.kids.items) before killed);
    }
