use Rattle.smf_links.proofs.Spots.{has_one, keeps_one}
use Rattle.smf_links.proofs.wires.enter.Goals as goal

pub returns-clause-keeps : goal.returns-clause-keeps
returns-clause-keeps c =
    keeps_one c.args.entries.now.items c.push_spot.new.entries.items c.args.spot.now c.args.place
    c.in_ok-push_spot.ensures.ok

pub returns-clause-enters : goal.returns-clause-enters
returns-clause-enters c =
    has_one c.args.entries.now.items c.push_spot.new.entries.items c.args.spot.now c.args.place
    c.in_ok-push_spot.ensures.ok
