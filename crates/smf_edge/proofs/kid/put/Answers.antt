use Rattle.std.proofs.Common.{refl, sym, ◌∙◌, inl, inr}
use Rattle.smf_edge.proofs.FollowedPlaces.{absent_at, put_at}
use Rattle.smf_edge.proofs.kid.put.Goals as goal

pub returns-in-Some : goal.returns-in-Some
returns-in-Some g c =
    inr (put_at c.args.contract c.args.phase c.args.kids.now c.in-Some.place _ c.index-kids-place.result
    (sym c.place_of.ensures ∙ c.in-Some.is) refl refl)

pub returns-in_default : goal.returns-in_default
returns-in_default g c = inl (absent_at c.args.contract c.args.kids.now (sym c.place_of.ensures ∙ c.in_default.is))
