use Rattle.std.proofs.Common.{◌≡◌, length, ap, ◌∙◌, arith, length-set}
use Rattle.std.specs.Vec.Iter.{into_iter_items}
use Rattle.smf_links.specs.Relinks.{relink_of, relinks_of}
use Rattle.smf_links.proofs.Turns.{leads_more, next_ready, turn_nodes, turn_within}
use Rattle.smf_links.proofs.kept.relink_all.Goals as goal

pub loop-placed-preserved : goal.loop-placed-preserved
loop-placed-preserved c =
    let was = c.loop-placed in
    let turn = c.relink_one-free in
    let left = into_iter_items was.placed-iterator in
    let rest = into_iter_items c.next.new.self in
    let p = c.in-Some.placed in
    let steps : left ≡ _ = c.in-Some.ensures.steps.0 in
    let size : length turn.new.nodes.items ≡ length was.nodes.items =
    ap length turn.ensures.nodes ∙ length-set was.nodes.items p.place p.node in
    record {
      next = turn.ensures.next;
      within = turn_within was.nodes.items turn.new.nodes.items left rest p steps turn.ensures.nodes
          was.invariant.within;
      room = let before = was.invariant.room in let more = turn.ensures.room in omega arith;
      kept = turn.ensures.kept;
      tallied = turn.ensures.tallied;
      prepared = (next_ready c.args.citing.now c.args.entries.now left rest p steps was.invariant.prepared).1;
      nodes = turn_nodes was.nodes.items turn.new.nodes.items _ left rest p steps turn.ensures.nodes
          was.invariant.nodes;
      leads = leads_more c.args.nodes.now.items was.nodes.items turn.new.nodes.items (relinks_of c.args.all.items)
          (relinks_of left) (relinks_of rest) (relink_of p) c.args.touched.now.items was.touched.items
          turn.new.touched.items (ap relinks_of steps) turn.ensures.nodes turn.ensures.reaches was.invariant.leads;
      capacity = let before = was.invariant.capacity in let more = turn.ensures.room in omega arith;
    }
