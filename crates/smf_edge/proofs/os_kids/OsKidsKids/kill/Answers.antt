use Rattle.std.proofs.Common.{◌<◌, ℕ, List, refl, subst, sym, ap, filter, ◌∙◌}
use Rattle.smf_edge.specs.declared.child.Kid.{Kid}
use Rattle.smf_edge.specs.Books.{ledger_of}
use Rattle.smf_edge.specs.Ledgers.{Ledger, members_left}
use Rattle.smf_edge.specs.Processes.{IsEnded, IsNotEnded, KidIsToEnd, NoneOrSome, SomeKid, contracts, is_other_role, roles}
use Rattle.smf_edge.specs.Steps.{IsKilled}
use Rattle.smf_edge.proofs.Manned.{manned_along, manned_killed, some_of}
use Rattle.smf_edge.proofs.Places.{left_contracts, left_roles}
use Rattle.smf_edge.proofs.Starts.{kills_from, no_kills}
use Rattle.smf_edge.proofs.os_kids.OsKidsKids.kill.Goals as goal

pub returns-then-not-branch-clause-failed : goal.returns-then-not-branch-clause-failed
returns-then-not-branch-clause-failed g c = λ _.
    let N : List (Kid g.row.R-Started.Denot) → Type 0 = λ ks. NoneOrSome c.args.id ks (IsNotEnded g.R.System.facts) in
    let S : List (Kid g.row.R-Started.Denot) → Type 0 = λ ks. SomeKid c.args.id ks (IsNotEnded g.R.System.facts) in
    let failed = subst N c.deref_mut.ensures.value (c.in_ok-end_all.ensures.failed c.if-not-branch.true) in
    let L : Ledger → Type 0 = λ l. 0 < members_left l c.args.id in
    subst S (ap (λ h. h.kids) c.self.view_is)
    (some_of c.args.id (ledger_of c.self.inside.book) c.self.inside.children.items
    (IsNotEnded g.R.System.facts) c.self.invariant.manned
    (subst L c.prepare_kill.ensures.same c.in_ok-kill.ensures.some) failed)

pub returns-clause-ended : goal.returns-clause-ended
returns-clause-ended g c =
    let P : List (Kid g.row.R-Started.Denot) → Type 0 = λ ks. SomeKid c.args.id ks (IsEnded g.R.System.facts) in
    subst P (c.deref_mut.ensures.value ∙ ap (λ h. h.kids) c.self.view_is)
    (c.in_ok-end_all.ensures.ended c.if-not-branch.false)

pub returns-clause-forgotten : goal.returns-clause-forgotten
returns-clause-forgotten g c =
    left_roles c.args.id c.self.inside.children.len c.self.inside.children.items c.deref_mut.result.now
    c.end_all.new.kids c.forget.new.kids.items c.forget.ensures c.deref_mut.ensures.value c.deref_mut.ensures.len
    c.end_all.ensures.same
    ∙ ap (λ h. filter (is_other_role c.args.id) (roles h.kids)) c.self.view_is

pub invariant_of-self-2 : goal.invariant_of-self-2
invariant_of-self-2 g c =
    let members_left =
    left_roles c.args.id c.self.inside.children.len c.self.inside.children.items c.deref_mut.result.now
    c.end_all.new.kids c.forget.new.kids.items c.forget.ensures c.deref_mut.ensures.value c.deref_mut.ensures.len
    c.end_all.ensures.same in
    let before = manned_along _ (ledger_of c.prepare_kill.new.self) _ _
    (sym c.prepare_kill.ensures.same) refl c.self.invariant.manned in
    let K : ℕ → Type 0 = λ n. IsKilled n (ledger_of c.prepare_kill.new.self) (ledger_of c.kill.new.self) in
    let killed = subst K c.in_ok-kill.ensures.kill.0 c.kill.ensures.killed in
    let after = manned_killed c.args.id (ledger_of c.prepare_kill.new.self) (ledger_of c.kill.new.self)
    (contracts c.self.inside.children.items) before killed in
    record {
      sound = c.kill.ensures.sound;
      manned = manned_along _ _ _ _ refl
          (sym (left_contracts c.args.id c.forget.new.kids.items c.self.inside.children.items members_left)) after;
    }

pub returns-in_err-kill-clause-kills : goal.returns-in_err-kill-clause-kills
returns-in_err-kill-clause-kills g c =
    no_kills _ _ _ (ap (λ h. h.started) c.self.view_is)

pub returns-in_err-end_all-clause-kills : goal.returns-in_err-end_all-clause-kills
returns-in_err-end_all-clause-kills g c =
    kills_from (KidIsToEnd g.R.System.facts c.args.id) _ _ _ _ _ (c.deref_mut.ensures.value ∙ ap (λ h. h.kids) c.self.view_is)
    (ap (λ h. h.started) c.self.view_is) c.end_all.ensures.kills

pub returns-then-not-branch-clause-kills : goal.returns-then-not-branch-clause-kills
returns-then-not-branch-clause-kills g c =
    kills_from (KidIsToEnd g.R.System.facts c.args.id) _ _ _ _ _ (c.deref_mut.ensures.value ∙ ap (λ h. h.kids) c.self.view_is)
    (ap (λ h. h.started) c.self.view_is) c.end_all.ensures.kills

pub returns-clause-kills : goal.returns-clause-kills
returns-clause-kills g c =
    kills_from (KidIsToEnd g.R.System.facts c.args.id) _ _ _ _ _ (c.deref_mut.ensures.value ∙ ap (λ h. h.kids) c.self.view_is)
    (ap (λ h. h.started) c.self.view_is) c.end_all.ensures.kills
