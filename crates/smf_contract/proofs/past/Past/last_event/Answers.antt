use Rattle.std.proofs.Common.{◌≤◌, length, arith}
use Rattle.std.proofs.lemmas.List.Sums.{count_by-le-length}
use Rattle.smf_contract.specs.Entries.{is_event_of, last_event}
use Rattle.smf_contract.proofs.past.Past.last_event.Goals as goal

pub returns-clause-bound : goal.returns-clause-bound
returns-clause-bound c =
    let low : last_event c.get.result c.args.self.now.events ≤ length c.args.self.now.events =
    count_by-le-length (is_event_of c.get.result) c.args.self.now.events in
    omega (arith, low, c.last-last.ensures.count, c.count-count.ensures.exact, c.count-count.ensures.bound)
