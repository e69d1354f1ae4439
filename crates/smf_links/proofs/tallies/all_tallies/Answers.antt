use Rattle.smf_links.specs.Blockage.{off_at, runs_at}
use Rattle.smf_links.specs.Stamps.{has_stamp}
use Rattle.smf_links.proofs.TallyUpdates.{all_tallied}
use Rattle.smf_links.proofs.tallies.all_tallies.Goals as goal

pub returns : goal.returns
returns c =
    record {
      wired = c.requires.wired;
      size = c.requires.size;
      tallied = all_tallied c.args.nodes.now (runs_at c.args.nodes.now) (off_at c.args.nodes.now)
          (has_stamp c.args.stamps.now) c.in_ok-tallies.tallies.items c.in_ok-tallies.ensures;
    }
