use Rattle.std.proofs.Common.{List, subst}
use Rattle.smf_links.specs.declared.link.Link.{Link}
use Rattle.smf_links.specs.Stamps.{Avoid, Notes}
use Rattle.smf_links.proofs.Citations.{begun_all, begun_more}
use Rattle.smf_links.proofs.index.index_of.Goals as goal

pub loop-at-preserved : goal.loop-at-preserved
loop-at-preserved c =
    let P : List Link → Type 0 =
    λ l. Notes (λ p. Avoid p l) c.loop-at.at c.loop-at.citing.items c.note_links.new.citing.items in
    let step : P c.index-nodes-at.result.links = subst P c.as_slice.ensures c.in_ok-note_links.ensures.notes in
    begun_more c.args.nodes.now c.loop-at.citing.items c.note_links.new.citing.items c.loop-at.at
    c.index-nodes-at.result c.index-nodes-at.is step c.loop-at.invariant

pub returns : goal.returns
returns c = begun_all c.args.nodes.now c.loop-at.citing.items c.loop-at.at c.loop-at-test.false c.loop-at.invariant
