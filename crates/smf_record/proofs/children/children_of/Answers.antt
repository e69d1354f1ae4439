use Rattle.std.proofs.Common.{rules}
use Rattle.smf_edge.specs.Phases.{posts}
use Rattle.smf_record.proofs.Finding.{ascend_push, found_push, kids_push}
use Rattle.smf_record.proofs.children.children_of.Goals as goal

pub loop-one-preserved : goal.loop-one-preserved
loop-one-preserved c =
    let old = c.loop-one.children in
    let new = c.push.new.self in
    let f = c.one-item.result in
    let i = c.loop-one.invariant in
    record {
      ascend = ascend_push old.found.items new.found.items f old.last new.last c.in_ok-push.ensures.found
          c.in_ok-push.ensures.last (search rules) i.ascend;
      kids = kids_push old.found.items new.found.items f (posts old.kids.items) (posts new.kids.items)
          c.in_ok-push.ensures.found c.in_ok-push.ensures.kids i.kids;
      found = found_push c.args.found.now c.loop-one.one-index f old.found.items new.found.items
          c.loop-one-test.true c.one-item.is i.found c.in_ok-push.ensures.found;
    }
