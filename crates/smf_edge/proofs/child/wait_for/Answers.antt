use Rattle.std.proofs.Common.{refl, sym, ◌∙◌}
use Rattle.smf_edge.specs.Processes.{HasExit, HasLeft, HasNoExit}
use Rattle.smf_edge.proofs.Places.{none_or_some_if, same_kids, some_kid_if}
use Rattle.smf_edge.proofs.Starts.{no_kills, some_kills}
use Rattle.smf_edge.proofs.child.wait_for.Goals as goal

pub returns-in-Some-clause-same : goal.returns-in-Some-clause-same
returns-in-Some-clause-same g c =
    same_kids c.args.kids.now c.in-Some.place c.wait.new.kid c.index-kids-place.result c.wait.ensures.same

pub returns-in-Some-clause-ended : goal.returns-in-Some-clause-ended
returns-in-Some-clause-ended g c =
    some_kid_if c.args.contract c.args.kids.now c.in-Some.place c.index-kids-place.result
    (HasExit g.R.System.facts) c.wait.result (sym c.place_of.ensures ∙ c.in-Some.is) c.wait.ensures.ended

pub returns-in-Some-clause-failed : goal.returns-in-Some-clause-failed
returns-in-Some-clause-failed g c =
    none_or_some_if c.args.contract c.args.kids.now c.in-Some.place c.index-kids-place.result
    (HasNoExit g.R.System.facts) c.wait.result (sym c.place_of.ensures ∙ c.in-Some.is) c.wait.ensures.failed

pub returns-in-Some-clause-kills : goal.returns-in-Some-clause-kills
returns-in-Some-clause-kills g c =
    some_kills (HasLeft g.R.System.facts) c.args.contract c.args.kids.now c.in-Some.place c.index-kids-place.result _ _
    (sym c.place_of.ensures ∙ c.in-Some.is) c.wait.ensures.kills

pub returns-in-None-clause-kills : goal.returns-in-None-clause-kills
returns-in-None-clause-kills g c = no_kills _ _ _ refl
