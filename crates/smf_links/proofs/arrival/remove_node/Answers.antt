use Rattle.std.proofs.Common.{◌≤◌, ◌-◌, List, ℕ, length, subst, sym}
use Rattle.smf_links.specs.Stamps.{total}
use Rattle.smf_links.proofs.Departures.{kept_left, tallied_left, total_left}
use Rattle.smf_links.proofs.arrival.remove_node.Goals as goal

pub returns-clause-kept : goal.returns-clause-kept
returns-clause-kept c = λ next capacity h.
    kept_left c.args.nodes.now.items c.take_last.new.items.items c.args.stamps.now.items
    c.take_last-2.new.items.items c.args.citing.now.items c.take_last-3.new.items.items next capacity
    c.take_last.ensures c.take_last-2.ensures c.take_last-3.ensures c.requires h

pub returns-clause-tallied : goal.returns-clause-tallied
returns-clause-tallied c = λ h.
    tallied_left c.args.nodes.now.items c.take_last.new.items.items c.args.stamps.now.items
    c.take_last-2.new.items.items c.args.entries.now.items c.take_last-5.new.items.items c.args.tallies.now.items
    c.take_last-6.new.items.items c.take_last.ensures c.take_last-2.ensures c.take_last-5.ensures
    c.take_last-6.ensures c.requires h

pub returns-clause-total : goal.returns-clause-total
returns-clause-total c =
    let F : List (List ℕ) → Type 0 = λ l. total l ≤ total c.args.citing.now.items in
    subst F (sym c.take_last-3.ensures) (total_left c.args.citing.now.items (length c.args.citing.now.items - 1))
