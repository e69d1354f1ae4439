use Rattle.std.proofs.Common.{sym, ◌∙◌}
use Rattle.smf_dep.specs.Index.{is_naming_at}
use Rattle.smf_dep.proofs.NamingPlaces.{found_one}
use Rattle.smf_dep.proofs.index.put_if_naming.Goals as goal

pub returns-in_ok-put : goal.returns-in_ok-put
returns-in_ok-put c =
    found_one (is_naming_at c.args.arrivals.now c.args.members.now) c.args.place c.args.found.now c.put.new.self
    (sym c.is_naming_at.ensures ∙ c.if-is_naming_at.true) c.in_ok-put.ensures.ok
