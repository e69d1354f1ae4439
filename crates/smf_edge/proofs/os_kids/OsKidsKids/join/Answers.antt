use Rattle.std.proofs.Common.{◌<◌, List, refl, subst, sym, ap, arith, ◌∙◌}
use Rattle.std.proofs.lemmas.Result.{on_ok_weaker}
use Rattle.smf_contract.specs.declared.event.Exit.{Exit}
use Rattle.smf_edge.specs.declared.child.Kid.{Kid}
use Rattle.smf_edge.specs.declared.deed.Happening.TheVariants.{Exit as Exits}
use Rattle.smf_edge.specs.Books.{ledger_of}
use Rattle.smf_edge.specs.Ledgers.{members_left}
use Rattle.smf_edge.specs.Processes.{HasExit, HasNoExit, KidHasLeft, NoneOrSome, SomeKid}
use Rattle.smf_edge.specs.Steps.{ledger_with_member_event}
use Rattle.smf_edge.proofs.Manned.{manned_along, manned_happen, no_device, some_of}
use Rattle.smf_edge.proofs.Places.{none_is, same_back, same_contracts, some_is}
use Rattle.smf_edge.proofs.Starts.{kills_from, no_kills}
use Rattle.smf_edge.proofs.os_kids.OsKidsKids.join.Goals as goal

pub returns-in-None-clause-failed : goal.returns-in-None-clause-failed
returns-in-None-clause-failed g c = λ _.
    let N : List (Kid g.row.R-Started.Denot) → Type 0 = λ ks. NoneOrSome c.args.id ks (HasNoExit g.R.System.facts) in
    let S : List (Kid g.row.R-Started.Denot) → Type 0 = λ ks. SomeKid c.args.id ks (HasNoExit g.R.System.facts) in
    let failed = none_is c.in_ok-told.told (N c.deref_mut.result.now) c.in-None.is c.in_ok-told.ensures.failed in
    let some : 0 < members_left (ledger_of c.self.inside.book) c.args.id =
    omega (arith, c.if-members_left-eq0.false, c.members_left.ensures) in
    let one = some_of c.args.id (ledger_of c.self.inside.book) c.self.inside.children.items
    (HasNoExit g.R.System.facts) c.self.invariant.manned some (subst N c.deref_mut.ensures.value failed) in
    subst S (ap (λ h. h.kids) c.self.view_is) one

pub returns-in-Some-clause-failed : goal.returns-in-Some-clause-failed
returns-in-Some-clause-failed g c = no_device c.happen.result _ _ c.happen.ensures.fault

pub returns-in-Some-clause-ended : goal.returns-in-Some-clause-ended
returns-in-Some-clause-ended g c =
    let P : List (Kid g.row.R-Started.Denot) → Type 0 =
    λ ks. SomeKid c.args.id ks (HasExit g.R.System.facts c.in-Some.exit) in
    let Q : Exit → Type 0 = λ exit. SomeKid c.args.id c.deref_mut.result.now (HasExit g.R.System.facts exit) in
    let ended = subst P (c.deref_mut.ensures.value ∙ ap (λ h. h.kids) c.self.view_is)
    (some_is c.in_ok-told.told c.in-Some.exit Q c.in-Some.is c.in_ok-told.ensures.ended) in
    on_ok_weaker c.happen.result
    (λ e. (
      c.in-Some.exit,
      ended,
      e
          ∙ ap (λ h. ledger_with_member_event h.ledger c.args.id (Exits c.in-Some.exit)) c.self.view_is,
    ))
    c.happen.ensures.happened

pub invariant_of-self-in-Some : goal.invariant_of-self-in-Some
invariant_of-self-in-Some g c =
    let same = same_back c.self.inside.children.len c.self.inside.children.items c.deref_mut.result.now
    c.wait_for.new.kids c.deref_mut.ensures.value c.deref_mut.ensures.len c.wait_for.ensures.same in
    record {
      sound = c.happen.ensures.sound;
      manned = manned_along _ _ _ _ refl (sym (same_contracts _ c.self.inside.children.items same))
          (manned_happen c.happen.result c.args.id c.in-Some.exit (ledger_of c.self.inside.book)
          (ledger_of c.happen.new.self) _ c.happen.ensures.happened c.happen.ensures.err c.self.invariant.manned);
    }

pub returns-then-members_left-eq0-clause-kills : goal.returns-then-members_left-eq0-clause-kills
returns-then-members_left-eq0-clause-kills g c = no_kills _ c.args.self.now.started c.args.self.now.started refl

pub returns-in_err-told-clause-kills : goal.returns-in_err-told-clause-kills
returns-in_err-told-clause-kills g c =
    kills_from (KidHasLeft g.R.System.facts c.args.id) _ _ _ _ _ (c.deref_mut.ensures.value ∙ ap (λ h. h.kids) c.self.view_is)
    (ap (λ h. h.started) c.self.view_is) c.wait_for.ensures.kills

pub returns-in-Some-clause-kills : goal.returns-in-Some-clause-kills
returns-in-Some-clause-kills g c =
    kills_from (KidHasLeft g.R.System.facts c.args.id) _ _ _ _ _ (c.deref_mut.ensures.value ∙ ap (λ h. h.kids) c.self.view_is)
    (ap (λ h. h.started) c.self.view_is) c.wait_for.ensures.kills

pub returns-in-None-clause-kills : goal.returns-in-None-clause-kills
returns-in-None-clause-kills g c =
    kills_from (KidHasLeft g.R.System.facts c.args.id) _ _ _ _ _ (c.deref_mut.ensures.value ∙ ap (λ h. h.kids) c.self.view_is)
    (ap (λ h. h.started) c.self.view_is) c.wait_for.ensures.kills
