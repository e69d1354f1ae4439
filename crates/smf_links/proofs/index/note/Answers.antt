use Rattle.smf_links.proofs.Citations.{keeps_one, noted_one, total_one}
use Rattle.smf_links.proofs.index.note.Goals as goal

pub returns-clause-keeps : goal.returns-clause-keeps
returns-clause-keeps c =
    keeps_one c.args.citing.now.items c.push_place.new.citing.items c.args.at c.args.place c.in_ok-push_place.ensures.ok

pub returns-clause-space : goal.returns-clause-space
returns-clause-space c =
    total_one c.args.citing.now.items c.push_place.new.citing.items c.args.at c.args.place c.in_ok-push_place.ensures.ok

pub returns-clause-notes : goal.returns-clause-notes
returns-clause-notes c =
    noted_one c.args.citing.now.items c.push_place.new.citing.items c.args.at c.args.place c.in_ok-push_place.ensures.ok
