use Rattle.std.proofs.Common.{◌+◌, refl, arith, sym, subst, ◌∙◌, get_or}
use Rattle.std.proofs.lemmas.Option.{slice_get-get_or}
use Rattle.smf_edge.specs.declared.child.Kid.{Kid}
use Rattle.smf_edge.specs.declared.child.Sight.{Sight}
use Rattle.smf_edge.specs.Processes.{HasLeft, IsSeen}
use Rattle.smf_edge.specs.Starts.{OnlyKills}
use Rattle.smf_edge.proofs.Places.{SeenUpTo, here_left, left_after, same_kids, seen_all, seen_more}
use Rattle.smf_edge.proofs.Starts.{no_kills, one_left}
use Rattle.smf_edge.proofs.child.see_all.Goals.{in-Failed, in-Running}
use Rattle.smf_edge.proofs.child.see_all.Goals as goal

pub returns-in_err-seen-clause-same : goal.returns-in_err-seen-clause-same
returns-in_err-seen-clause-same g c =
    same_kids c.loop-kid.kid-items c.loop-kid.kid-index c.see.new.kid c.kid-item.result c.see.ensures.same
    ∙ c.loop-kid.invariant.same

pub returns-in-Ended-clause-same : goal.returns-in-Ended-clause-same
returns-in-Ended-clause-same g c =
    same_kids c.loop-kid.kid-items c.loop-kid.kid-index c.see.new.kid c.kid-item.result c.see.ensures.same
    ∙ c.loop-kid.invariant.same

pub returns-in-Ended-clause-seen : goal.returns-in-Ended-clause-seen
returns-in-Ended-clause-seen g c =
    let here = here_left c.loop-kid.kid-items c.args.kids.now c.loop-kid.kid-index c.kid-item.result
    c.loop-kid-test.true c.loop-kid.invariant.same c.loop-kid.invariant.left in
    let S : Sight → Type 0 =
    λ s. IsSeen g.R.System.facts s (get_or c.args.kids.now c.loop-kid.kid-index c.kid-item.result) in
    let Q : Kid g.row.R-Started.Denot → Type 0 = λ kid. IsSeen g.R.System.facts c.in_ok-seen.seen kid in
    let seen = subst S c.in-Ended.is (subst Q here.0 c.in_ok-seen.ensures.seen) in (
      c.loop-kid.kid-index,
      get_or c.args.kids.now c.loop-kid.kid-index c.kid-item.result,
      slice_get-get_or c.args.kids.now c.loop-kid.kid-index c.kid-item.result c.loop-kid-test.true,
      sym seen.0,
      seen.1,
    )

pub loop-kid-preserved : goal.loop-kid-preserved
loop-kid-preserved g c =
    let here = here_left c.loop-kid.kid-items c.args.kids.now c.loop-kid.kid-index c.kid-item.result
    c.loop-kid-test.true c.loop-kid.invariant.same c.loop-kid.invariant.left in
    let S : Sight → Type 0 =
    λ s. IsSeen g.R.System.facts s (get_or c.args.kids.now c.loop-kid.kid-index c.kid-item.result) in
    let Q : Kid g.row.R-Started.Denot → Type 0 = λ kid. IsSeen g.R.System.facts c.in_ok-seen.seen kid in
    let found = subst Q here.0 c.in_ok-seen.ensures.seen in
    let P : Sight → Type 0 = λ s. SeenUpTo g.R.System.facts (c.loop-kid.kid-index + 1) s c.args.kids.now in
    let K : Kid g.row.R-Started.Denot → Type 0 = λ kid. OnlyKills (λ group. HasLeft g.R.System.facts group kid)
    (g.R.System.starts c.loop-kid.system) (g.R.System.starts c.see.new.system) in
    record {
      kills = one_left g.R.System.facts c.args.kids.now c.loop-kid.kid-index c.kid-item.result _ _ _
          c.loop-kid-test.true c.loop-kid.invariant.kills (subst K here.0 c.see.ensures.kills);
      same = same_kids c.loop-kid.kid-items c.loop-kid.kid-index c.see.new.kid c.kid-item.result c.see.ensures.same
          ∙ c.loop-kid.invariant.same;
      left = left_after c.loop-kid.kid-items c.args.kids.now c.loop-kid.kid-index c.see.new.kid here.1;
      seen = elim c.match-seen.branch [
        | in-Failed w ↦ subst P (sym w.sight-is) (
          c.loop-kid.kid-index,
          get_or c.args.kids.now c.loop-kid.kid-index c.kid-item.result,
          slice_get-get_or c.args.kids.now c.loop-kid.kid-index c.kid-item.result c.loop-kid-test.true,
          subst S w.in-Failed.is found,
        )
        | in-Running w ↦ subst P (sym w.sight-is)
            (seen_more g.R.System.facts c.loop-kid.sight c.args.kids.now c.loop-kid.kid-index c.kid-item.result
            (subst S w.in-Running.is found) c.loop-kid.invariant.seen)
      ];
    }

pub returns-clause-seen : goal.returns-clause-seen
returns-clause-seen g c =
    seen_all g.R.System.facts c.loop-kid.sight c.args.kids.now c.loop-kid.kid-index c.loop-kid-test.false
    c.loop-kid.invariant.seen

pub returns-in_err-seen-clause-kills : goal.returns-in_err-seen-clause-kills
returns-in_err-seen-clause-kills g c =
    let here = here_left c.loop-kid.kid-items c.args.kids.now c.loop-kid.kid-index c.kid-item.result
    c.loop-kid-test.true c.loop-kid.invariant.same c.loop-kid.invariant.left in
    let K : Kid g.row.R-Started.Denot → Type 0 = λ kid. OnlyKills (λ group. HasLeft g.R.System.facts group kid)
    (g.R.System.starts c.loop-kid.system) (g.R.System.starts c.see.new.system) in
    one_left g.R.System.facts c.args.kids.now c.loop-kid.kid-index c.kid-item.result _ _ _ c.loop-kid-test.true
    c.loop-kid.invariant.kills (subst K here.0 c.see.ensures.kills)

pub returns-in-Ended-clause-kills : goal.returns-in-Ended-clause-kills
returns-in-Ended-clause-kills g c =
    let here = here_left c.loop-kid.kid-items c.args.kids.now c.loop-kid.kid-index c.kid-item.result
    c.loop-kid-test.true c.loop-kid.invariant.same c.loop-kid.invariant.left in
    let K : Kid g.row.R-Started.Denot → Type 0 = λ kid. OnlyKills (λ group. HasLeft g.R.System.facts group kid)
    (g.R.System.starts c.loop-kid.system) (g.R.System.starts c.see.new.system) in
    one_left g.R.System.facts c.args.kids.now c.loop-kid.kid-index c.kid-item.result _ _ _ c.loop-kid-test.true
    c.loop-kid.invariant.kills (subst K here.0 c.see.ensures.kills)

pub loop-kid-init : goal.loop-kid-init
loop-kid-init g c = record {
  same = refl;
  left = refl;
  kills = no_kills _ _ _ refl;
  seen = λ k low kid e. absurd (omega (arith, low));
}
