use Rattle.std.proofs.Common.{refl, sym, ◌∙◌}
use Rattle.smf_edge.specs.Processes.{IsEnded, IsNotEnded, IsToEnd}
use Rattle.smf_edge.proofs.Places.{ended_if, not_ended_if, same_kids}
use Rattle.smf_edge.proofs.Starts.{no_kills, some_kills}
use Rattle.smf_edge.proofs.child.end_all.Goals as goal

pub returns-in-Some-clause-same : goal.returns-in-Some-clause-same
returns-in-Some-clause-same g c =
    same_kids c.args.kids.now c.in-Some.place c.end.new.kid c.index-kids-place.result c.end.ensures.same

pub returns-in-Some-clause-ended : goal.returns-in-Some-clause-ended
returns-in-Some-clause-ended g c =
    ended_if c.args.contract c.args.kids.now c.in-Some.place c.index-kids-place.result
    (IsEnded g.R.System.facts) c.end.result (sym c.place_of.ensures ∙ c.in-Some.is) c.end.ensures.ended

pub returns-in-Some-clause-failed : goal.returns-in-Some-clause-failed
returns-in-Some-clause-failed g c =
    not_ended_if c.args.contract c.args.kids.now c.in-Some.place c.index-kids-place.result
    (IsNotEnded g.R.System.facts) c.end.result (sym c.place_of.ensures ∙ c.in-Some.is) c.end.ensures.failed

pub returns-in-Some-clause-kills : goal.returns-in-Some-clause-kills
returns-in-Some-clause-kills g c =
    some_kills (IsToEnd g.R.System.facts) c.args.contract c.args.kids.now c.in-Some.place c.index-kids-place.result _ _
    (sym c.place_of.ensures ∙ c.in-Some.is) c.end.ensures.kills

pub returns-in-None-clause-kills : goal.returns-in-None-clause-kills
returns-in-None-clause-kills g c = no_kills _ _ _ refl
