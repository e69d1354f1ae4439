use Rattle.smf_links.proofs.Citations.{keeps_then}
use Rattle.smf_links.proofs.Prepared.{prepared_more, relinks_more}
use Rattle.smf_links.proofs.Spots.{keeps_then as spots_then}
use Rattle.smf_links.proofs.rewire.prepare_all.Goals as goal

pub loop-relink-preserved : goal.loop-relink-preserved
loop-relink-preserved c =
    let was = c.loop-relink in
    let made = c.in_ok-placed.ensures in
    record {
      citing = keeps_then c.args.citing.now.items was.citing.items c.prepare_node.new.citing.items
          was.invariant.citing made.citing;
      space = λ room. made.space (was.invariant.space room);
      note_count = made.note_count;
      entries = spots_then c.args.entries.now.items was.entries.items c.prepare_node.new.entries.items
          was.invariant.entries made.entries;
      prepared = prepared_more was.citing.items c.prepare_node.new.citing.items was.entries.items
          c.prepare_node.new.entries.items was.all.items c.push.new.self.items c.in_ok-placed.placed
          c.in_ok-push.ensures.items made.citing made.entries was.invariant.prepared made.prepared;
      same = relinks_more was.all.items c.push.new.self.items c.in_ok-placed.placed c.in-Some.relink _ _
          c.args.relinks.items c.in_ok-push.ensures.items made.same c.in-Some.ensures.steps.0 was.invariant.same;
    }

pub returns-in_err-placed-clause-citing : goal.returns-in_err-placed-clause-citing
returns-in_err-placed-clause-citing c =
    keeps_then c.args.citing.now.items c.loop-relink.citing.items c.prepare_node.new.citing.items
    c.loop-relink.invariant.citing c.in_err-placed.ensures.citing

pub returns-in_err-placed-clause-entries : goal.returns-in_err-placed-clause-entries
returns-in_err-placed-clause-entries c =
    spots_then c.args.entries.now.items c.loop-relink.entries.items c.prepare_node.new.entries.items
    c.loop-relink.invariant.entries c.in_err-placed.ensures.entries

pub returns-in_err-push-clause-citing : goal.returns-in_err-push-clause-citing
returns-in_err-push-clause-citing c =
    keeps_then c.args.citing.now.items c.loop-relink.citing.items c.prepare_node.new.citing.items
    c.loop-relink.invariant.citing c.in_ok-placed.ensures.citing

pub returns-in_err-push-clause-entries : goal.returns-in_err-push-clause-entries
returns-in_err-push-clause-entries c =
    spots_then c.args.entries.now.items c.loop-relink.entries.items c.prepare_node.new.entries.items
    c.loop-relink.invariant.entries c.in_ok-placed.ensures.entries
