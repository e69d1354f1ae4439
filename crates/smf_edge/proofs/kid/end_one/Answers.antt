use Rattle.std.proofs.Common.{sym, ◌∙◌, inl, inr}
use Rattle.smf_edge.proofs.FollowedPlaces.{absent_at, same_kids, some_kid}
use Rattle.smf_edge.proofs.kid.end_one.Goals as goal

pub returns-in-Some-clause-same : goal.returns-in-Some-clause-same
returns-in-Some-clause-same g c =
    same_kids c.args.kids.now c.in-Some.place c.end.new.kid c.index-kids-place.result c.end.ensures.same

pub returns-in-Some-clause-ended : goal.returns-in-Some-clause-ended
returns-in-Some-clause-ended g c = λ done.
    some_kid c.args.contract c.args.kids.now c.in-Some.place c.index-kids-place.result
    (λ kid. g.C.Contracts.facts.is_ended kid.held) (sym c.place_of.ensures ∙ c.in-Some.is)
    (c.end.ensures.ended done)

pub returns-in-Some-clause-living : goal.returns-in-Some-clause-living
returns-in-Some-clause-living g c = λ failed.
    inr (some_kid c.args.contract c.args.kids.now c.in-Some.place c.index-kids-place.result
    (λ kid. g.C.Contracts.facts.may_live kid.held) (sym c.place_of.ensures ∙ c.in-Some.is)
    (c.end.ensures.living failed))

pub returns-in-None-clause-living : goal.returns-in-None-clause-living
returns-in-None-clause-living g c =
    λ _. inl (absent_at c.args.contract c.args.kids.now (sym c.place_of.ensures ∙ c.in-None.is))
