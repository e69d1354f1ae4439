use Rattle.std.proofs.Common.{◌≡◌, ◌<◌, ◌∙◌, None, ap, sym, subst, rules}
use Rattle.smf_model.specs.declared.change.Change.TheVariants.{AddSnapshot}
use Rattle.smf_model.specs.declared.held.Snapshot.{Snapshot}
use Rattle.smf_model.specs.Look.{holdings_after_change, snapshot}
use Rattle.smf_store.specs.Gathered.{AddsSnapshotRow}
use Rattle.smf_store.specs.Shown.{ShowsSnapshot}
use Rattle.smf_store.proofs.Gathers.{reads_snapshot}
use Rattle.smf_store.proofs.additions.add_snapshot.Goals as goal

pub returns-clause-added : goal.returns-clause-added
returns-clause-added c =
    let s = c.in-Some.snapshot in
    let k = c.args.tables.now in
    let none : snapshot k s.number ≡ None = search rules in
    let below : s.number < k.next_snapshot = search rules in
    let shows : ShowsSnapshot s c.args.row.now = search rules in
    let put = c.in_ok-make_one.ensures
    ∙ ap (λ (t : Snapshot). holdings_after_change k (AddSnapshot t)) c.in_ok-stored.ensures in
    λ taken. subst (AddsSnapshotRow c.args.row.now k) (sym put) (reads_snapshot k s below none c.args.row.now shows)
