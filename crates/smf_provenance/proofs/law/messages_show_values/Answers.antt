use Rattle.smf_provenance.proofs.Valued.{changes_show, order_shows, view_shows}
use Rattle.smf_provenance.proofs.law.messages_show_values.Goals as goal

pub returns-clause-view : goal.returns-clause-view
returns-clause-view c = view_shows

pub returns-clause-changes : goal.returns-clause-changes
returns-clause-changes c = changes_show

pub returns-clause-order : goal.returns-clause-order
returns-clause-order c = order_shows
