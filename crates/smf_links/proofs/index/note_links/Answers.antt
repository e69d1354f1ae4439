use Rattle.std.proofs.Common.{◌+◌, ◌≤◌, ℕ, List, ap, arith, refl, subst}
use Rattle.smf_links.specs.Stamps.{AreOut, Avoid, Notes, total}
use Rattle.smf_links.proofs.Citations.{citations_room, keeps_same, keeps_then, leads_first, links_end, links_more}
use Rattle.smf_links.proofs.index.note_links.Goals as goal

pub loop-link-init : goal.loop-link-init
loop-link-init c =
    record {
      leads = leads_first Avoid c.args.at c.args.links.now c.args.citing.now.items;
      keeps = keeps_same c.args.citing.now.items c.args.citing.now.items refl;
      space = omega arith;
    }

pub loop-link-preserved : goal.loop-link-preserved
loop-link-preserved c =
    let P : List (List ℕ) → Type 0 =
    λ l. Notes (λ p. AreOut p l) c.args.at c.loop-link.citing.items c.note_cited.new.citing.items in
    let step : P c.link-item.result.cited = subst P c.as_slice.ensures c.in_ok-note_cited.ensures.notes in
    let same = ap total c.as_slice.ensures in
    let more : total c.note_cited.new.citing.items
    ≤ total c.loop-link.citing.items + total c.link-item.result.cited =
    omega (arith, c.in_ok-note_cited.ensures.space, same) in
    record {
      leads = links_more c.args.at c.args.links.now c.loop-link.link-index c.link-item.result c.args.citing.now.items
          c.loop-link.citing.items
          c.note_cited.new.citing.items c.loop-link-test.true c.link-item.is step c.loop-link.invariant.leads;
      keeps = keeps_then c.args.citing.now.items c.loop-link.citing.items c.note_cited.new.citing.items
          c.loop-link.invariant.keeps c.in_ok-note_cited.ensures.keeps;
      space = citations_room c.args.links.now c.loop-link.link-index c.link-item.result
          (total c.loop-link.citing.items) (total c.args.citing.now.items) (total c.note_cited.new.citing.items)
          c.loop-link-test.true c.link-item.is more c.loop-link.invariant.space;
    }

pub returns-clause-notes : goal.returns-clause-notes
returns-clause-notes c =
    links_end c.args.at c.args.links.now c.loop-link.link-index c.args.citing.now.items
    c.loop-link.citing.items c.loop-link-test.false c.loop-link.invariant.leads

pub returns-in_err-note_cited-clause-keeps : goal.returns-in_err-note_cited-clause-keeps
returns-in_err-note_cited-clause-keeps c =
    keeps_then c.args.citing.now.items c.loop-link.citing.items c.note_cited.new.citing.items
    c.loop-link.invariant.keeps c.in_err-note_cited.ensures.keeps

pub returns-in_err-note_cited-clause-space : goal.returns-in_err-note_cited-clause-space
returns-in_err-note_cited-clause-space c =
    let same = ap total c.as_slice.ensures in
    let more : total c.note_cited.new.citing.items
    ≤ total c.loop-link.citing.items + total c.link-item.result.cited =
    omega (arith, c.in_err-note_cited.ensures.space, same) in
    let all = citations_room c.args.links.now c.loop-link.link-index c.link-item.result
    (total c.loop-link.citing.items) (total c.args.citing.now.items) (total c.note_cited.new.citing.items)
    c.loop-link-test.true c.link-item.is more c.loop-link.invariant.space in
    omega arith
