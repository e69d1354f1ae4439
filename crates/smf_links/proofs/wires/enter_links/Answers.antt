use Rattle.std.proofs.Common.{ℕ, List, refl, subst}
use Rattle.smf_links.specs.declared.link.Link.{Link}
use Rattle.smf_links.specs.Wires.{EntersCited}
use Rattle.smf_links.proofs.Spots.{each_all, each_none, keeps_same, keeps_then, links_more}
use Rattle.smf_links.proofs.wires.enter_links.Goals as goal

pub loop-at-init : goal.loop-at-init
loop-at-init c =
    record {
      keeps = keeps_same c.args.entries.now.items c.args.entries.now.items refl;
      enters = each_none (λ j (m : Link). EntersCited c.args.entries.now.items c.args.node j m.cited) c.args.links.now;
    }

pub loop-at-preserved : goal.loop-at-preserved
loop-at-preserved c =
    let P : List (List ℕ) → Type 0 = EntersCited c.enter_cited.new.entries.items c.args.node c.loop-at.at in
    record {
      keeps = keeps_then c.args.entries.now.items c.loop-at.entries.items c.enter_cited.new.entries.items
          c.loop-at.invariant.keeps c.in_ok-enter_cited.ensures.keeps;
      enters = links_more c.loop-at.entries.items c.enter_cited.new.entries.items c.args.node
          c.args.links.now c.loop-at.at c.index-links-at.result c.index-links-at.is
          c.in_ok-enter_cited.ensures.keeps (subst P c.as_slice.ensures c.in_ok-enter_cited.ensures.enters)
          c.loop-at.invariant.enters;
    }

pub returns-clause-enters : goal.returns-clause-enters
returns-clause-enters c =
    each_all (λ j (m : Link). EntersCited c.loop-at.entries.items c.args.node j m.cited)
    c.args.links.now c.loop-at.at c.loop-at-test.false c.loop-at.invariant.enters

pub returns-in_err-enter_cited-clause-keeps : goal.returns-in_err-enter_cited-clause-keeps
returns-in_err-enter_cited-clause-keeps c =
    keeps_then c.args.entries.now.items c.loop-at.entries.items c.enter_cited.new.entries.items
    c.loop-at.invariant.keeps c.in_err-enter_cited.ensures.keeps
