use Rattle.std.proofs.Common.{◌∙◌, arith}
use Rattle.std.specs.Vec.{vec_capacity}
use Rattle.smf_links.proofs.FlagChanges.{begin_anew, begin_touched}
use Rattle.smf_links.proofs.Work.{citing_most}
use Rattle.smf_links.proofs.kept.begin.Goals as goal

pub add_touched-requires-clause-room : goal.add_touched-requires-clause-room
add_touched-requires-clause-room c =
    let most = citing_most c.args.citing.now c.args.place in let space = c.requires.touched.space in let same =
    c.clear.ensures.capacity in omega arith

pub returns-clause-begun : goal.returns-clause-begun
returns-clause-begun c =
    begin_touched c.args.nodes.now c.args.stamps.now c.args.citing.now c.args.next (vec_capacity c.args.work.now)
    (vec_capacity c.add_touched.new.work) c.args.place c.add_touched.new.work.items
    c.add_touched.ensures.items (omega (arith, c.clear.ensures.capacity, c.add_touched.ensures.capacity))
    c.requires.touched

pub returns-then-next-gt-LAST-clause-begun : goal.returns-then-next-gt-LAST-clause-begun
returns-then-next-gt-LAST-clause-begun c =
    begin_anew c.args.nodes.now c.clear-then-next-gt-LAST.new.stamps c.args.citing.now
    (vec_capacity c.add_all.new.work) c.add_all.new.work.items c.requires.touched.index
    (c.clear-then-next-gt-LAST.ensures.size ∙ c.requires.touched.size) c.clear-then-next-gt-LAST.ensures.none
    c.add_all.ensures.each c.add_all.ensures.size
    (omega (arith, c.requires.touched.space, c.clear.ensures.capacity, c.add_all.ensures.capacity))
