use Rattle.std.proofs.Common.{◌+◌, sym, subst, ◌∙◌, get_or}
use Rattle.std.proofs.lemmas.Option.{slice_get-get_or}
use Rattle.smf_edge.specs.declared.kid.Kid.{Kid}
use Rattle.smf_edge.specs.declared.sights.Sight.{Sight}
use Rattle.smf_edge.specs.Books.{ledger_of}
use Rattle.smf_edge.specs.Sights.{IsSeen}
use Rattle.smf_edge.proofs.FollowedPlaces.{SeenUpTo, here_left, left_after, same_kids, seen_all, seen_more}
use Rattle.smf_edge.proofs.sights.see_all.Goals.{in-Failed, in-Still}
use Rattle.smf_edge.proofs.sights.see_all.Goals as goal

pub returns-in-Left-clause-same : goal.returns-in-Left-clause-same
returns-in-Left-clause-same g c =
    same_kids c.loop-kid.kid-items c.loop-kid.kid-index c.see-seen.new.kid c.kid-item.result c.see-seen.ensures.same
    ∙ c.loop-kid.invariant.same

pub returns-in-Over-clause-same : goal.returns-in-Over-clause-same
returns-in-Over-clause-same g c =
    same_kids c.loop-kid.kid-items c.loop-kid.kid-index c.see-seen.new.kid c.kid-item.result c.see-seen.ensures.same
    ∙ c.loop-kid.invariant.same

pub returns-in-Gone-clause-same : goal.returns-in-Gone-clause-same
returns-in-Gone-clause-same g c =
    same_kids c.loop-kid.kid-items c.loop-kid.kid-index c.see-seen.new.kid c.kid-item.result c.see-seen.ensures.same
    ∙ c.loop-kid.invariant.same

pub returns-in-Left-clause-none : goal.returns-in-Left-clause-none
returns-in-Left-clause-none g c = c.see-seen.ensures.none ∙ c.loop-kid.invariant.none

pub returns-in-Left-clause-seen : goal.returns-in-Left-clause-seen
returns-in-Left-clause-seen g c =
    let here = here_left c.loop-kid.kid-items c.args.kids.now c.loop-kid.kid-index c.kid-item.result
    c.loop-kid-test.true c.loop-kid.invariant.same c.loop-kid.invariant.left in
    let t = (ledger_of c.args.book.now).table in
    let S : Sight → Type 0 =
    λ s. IsSeen g.C.Contracts.facts t s (get_or c.args.kids.now c.loop-kid.kid-index c.kid-item.result) in
    let Q : Kid g.row.C-Held.Denot → Type 0 = λ kid. IsSeen g.C.Contracts.facts t c.see-seen.result kid in
    let seen = subst S c.in-Left.is (subst Q here.0 c.see-seen.ensures.seen) in (
      c.loop-kid.kid-index,
      get_or c.args.kids.now c.loop-kid.kid-index c.kid-item.result,
      slice_get-get_or c.args.kids.now c.loop-kid.kid-index c.kid-item.result c.loop-kid-test.true,
      seen,
    )

pub returns-in-Over-clause-none : goal.returns-in-Over-clause-none
returns-in-Over-clause-none g c = c.see-seen.ensures.none ∙ c.loop-kid.invariant.none

pub returns-in-Over-clause-seen : goal.returns-in-Over-clause-seen
returns-in-Over-clause-seen g c =
    let here = here_left c.loop-kid.kid-items c.args.kids.now c.loop-kid.kid-index c.kid-item.result
    c.loop-kid-test.true c.loop-kid.invariant.same c.loop-kid.invariant.left in
    let t = (ledger_of c.args.book.now).table in
    let S : Sight → Type 0 =
    λ s. IsSeen g.C.Contracts.facts t s (get_or c.args.kids.now c.loop-kid.kid-index c.kid-item.result) in
    let Q : Kid g.row.C-Held.Denot → Type 0 = λ kid. IsSeen g.C.Contracts.facts t c.see-seen.result kid in
    let seen = subst S c.in-Over.is (subst Q here.0 c.see-seen.ensures.seen) in (
      c.loop-kid.kid-index,
      get_or c.args.kids.now c.loop-kid.kid-index c.kid-item.result,
      slice_get-get_or c.args.kids.now c.loop-kid.kid-index c.kid-item.result c.loop-kid-test.true,
      seen,
    )

pub returns-in-Gone-clause-none : goal.returns-in-Gone-clause-none
returns-in-Gone-clause-none g c = c.see-seen.ensures.none ∙ c.loop-kid.invariant.none

pub returns-in-Gone-clause-seen : goal.returns-in-Gone-clause-seen
returns-in-Gone-clause-seen g c =
    let here = here_left c.loop-kid.kid-items c.args.kids.now c.loop-kid.kid-index c.kid-item.result
    c.loop-kid-test.true c.loop-kid.invariant.same c.loop-kid.invariant.left in
    let t = (ledger_of c.args.book.now).table in
    let S : Sight → Type 0 =
    λ s. IsSeen g.C.Contracts.facts t s (get_or c.args.kids.now c.loop-kid.kid-index c.kid-item.result) in
    let Q : Kid g.row.C-Held.Denot → Type 0 = λ kid. IsSeen g.C.Contracts.facts t c.see-seen.result kid in
    let seen = subst S c.in-Gone.is (subst Q here.0 c.see-seen.ensures.seen) in (
      c.loop-kid.kid-index,
      get_or c.args.kids.now c.loop-kid.kid-index c.kid-item.result,
      slice_get-get_or c.args.kids.now c.loop-kid.kid-index c.kid-item.result c.loop-kid-test.true,
      seen,
    )

pub loop-kid-preserved : goal.loop-kid-preserved
loop-kid-preserved g c =
    let here = here_left c.loop-kid.kid-items c.args.kids.now c.loop-kid.kid-index c.kid-item.result
    c.loop-kid-test.true c.loop-kid.invariant.same c.loop-kid.invariant.left in
    let t = (ledger_of c.args.book.now).table in
    let S : Sight → Type 0 =
    λ s. IsSeen g.C.Contracts.facts t s (get_or c.args.kids.now c.loop-kid.kid-index c.kid-item.result) in
    let Q : Kid g.row.C-Held.Denot → Type 0 = λ kid. IsSeen g.C.Contracts.facts t c.see-seen.result kid in
    let found = subst Q here.0 c.see-seen.ensures.seen in
    let P : Sight → Type 0 = λ s. SeenUpTo g.C.Contracts.facts (c.loop-kid.kid-index + 1) s c.args.kids.now in
    record {
      same = same_kids c.loop-kid.kid-items c.loop-kid.kid-index c.see-seen.new.kid c.kid-item.result
          c.see-seen.ensures.same ∙ c.loop-kid.invariant.same;
      none = c.see-seen.ensures.none ∙ c.loop-kid.invariant.none;
      left = left_after c.loop-kid.kid-items c.args.kids.now c.loop-kid.kid-index c.see-seen.new.kid here.1;
      seen = elim c.match-seen.branch [
        | in-Failed w ↦ subst P (sym w.sight-is) (
          c.loop-kid.kid-index,
          get_or c.args.kids.now c.loop-kid.kid-index c.kid-item.result,
          slice_get-get_or c.args.kids.now c.loop-kid.kid-index c.kid-item.result c.loop-kid-test.true,
          (subst S w.in-Failed.is found).seen,
        )
        | in-Still w ↦ subst P (sym w.sight-is)
            (seen_more g.C.Contracts.facts c.loop-kid.sight c.args.kids.now c.loop-kid.kid-index c.kid-item.result
            (subst S w.in-Still.is found).seen c.loop-kid.invariant.seen)
      ];
    }

pub returns-clause-seen : goal.returns-clause-seen
returns-clause-seen g c =
    seen_all g.C.Contracts.facts (ledger_of c.args.book.now).table c.loop-kid.sight c.args.kids.now
    c.loop-kid.kid-index c.loop-kid-test.false c.loop-kid.invariant.seen
