use Rattle.std.proofs.Common.{refl, arith}
use Rattle.std.specs.Vec.{vec_capacity}
use Rattle.smf_links.proofs.Reach.{reached}
use Rattle.smf_links.proofs.Relinks.{relink_differs}
use Rattle.smf_links.proofs.Turns.{turn_touched}
use Rattle.smf_links.proofs.kept.relink_one.Goals as goal

pub settle_touched-free-requires-clause-touched : goal.settle_touched-free-requires-clause-touched
settle_touched-free-requires-clause-touched c =
    turn_touched c.args.nodes.now.items c.as_slice.result.now c.put_placed.new.nodes.items c.args.stamps.now
    c.args.citing.now c.args.entries.now c.args.next (vec_capacity c.args.work.now) c.args.placed
    c.as_slice.ensures.value c.put_placed.ensures.nodes c.requires.within c.requires.prepared c.requires.kept

pub returns-clause-reaches : goal.returns-clause-reaches
returns-clause-reaches c =
    let settled = c.settle_touched-free in
    reached c.args.nodes.now.items c.args.nodes.now.items c.as_slice.result.now c.put_placed.new.nodes.items
    c.args.citing.now c.args.citing.now c.args.stamps.now c.args.stamps.now settled.new.stamps
    settled.new.work.items c.as_slice-2.result.now c.args.touched.now.items c.note.new.touched.items c.args.next
    settled.result (vec_capacity c.args.work.now) (vec_capacity settled.new.work) c.args.placed.place c.len.result
    refl c.as_slice.ensures.value refl refl c.as_slice-2.ensures.value
    (relink_differs c.args.nodes.now.items c.put_placed.new.nodes.items c.args.placed.place c.args.placed.node
    c.put_placed.ensures.nodes) c.requires.within (omega (arith, c.len.ensures)) c.requires.kept
    settled.ensures.kept settled.ensures.touches c.note.ensures.noted
