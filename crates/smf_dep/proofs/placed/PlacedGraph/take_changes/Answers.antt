use Rattle.std.proofs.Common.{◌≡◌, ◌∙◌, ◌++◌, ℕ, List, Option, ap, subst}
use Rattle.std.specs.Prelude.{IfSome}
use Rattle.smf_links.specs.Blockage.{IsOut}
use Rattle.smf_dep.specs.declared.change.MemberChanges.{MemberChanges}
use Rattle.smf_dep.specs.declared.member.GraphMember.{GraphMember}
use Rattle.smf_dep.specs.Departures.{AreChanges}
use Rattle.smf_dep.specs.Updates.{OthersStay, with_placed}
use Rattle.smf_dep.proofs.placed.PlacedGraph.take_changes.Goals as goal

pub returns-clause-taken : goal.returns-clause-taken
returns-clause-taken c =
    let P : Option MemberChanges → Type 0 = λ o. IfSome o (λ all. AreChanges c.args.changes.now all.placed.items
    all.arrivals.items all.leavers.items c.as_slice.result.now) in
    let all = subst P c.in-Some.is c.in_ok-all.ensures in
    let shown : c.as_slice.result.now ≡ c.args.self.now = c.as_slice.ensures.value ∙ c.self.view_is in
    let same : c.take_index.new.self ≡ c.args.self.now = c.in_ok-index.ensures.same in
    let Q : List GraphMember → Type 0 = AreChanges c.args.changes.now c.in-Some.all.placed.items
    c.in-Some.all.arrivals.items c.in-Some.all.leavers.items in
    let changes = subst Q shown all in
    let R : List GraphMember → Type 0 = λ l. OthersStay l c.change.new.self c.in_ok-touched.touched in
    record {
      with = c.in_ok-touched.ensures.with
          ∙ ap (λ l. with_placed c.in-Some.all.placed.items l ++ c.in-Some.all.arrivals.items) same ∙ changes.put;
      others = subst R same c.in_ok-touched.ensures.others;
      left = λ n out. let S : List ℕ → Type 0 = IsOut n in subst S changes.left (c.in_ok-touched.ensures.left n out);
    }
