use Rattle.std.proofs.Common.{◌≡◌, false, sym, subst, rules}
use Rattle.std.specs.List.{list_any}
use Rattle.smf_fmri.specs.ByKey.{has_key}
use Rattle.smf_model.specs.Look.{by_launch}
use Rattle.smf_store.specs.Gathered.{AddsLaunchRow}
use Rattle.smf_store.specs.Shown.{ShowsLaunch}
use Rattle.smf_store.proofs.Gathers.{reads_launch}
use Rattle.smf_store.proofs.Groups.{none_found}
use Rattle.smf_store.proofs.additions.add_launch.Goals as goal

pub returns-clause-added : goal.returns-clause-added
returns-clause-added c =
    let k = c.args.tables.now in
    let l = c.in-Some.launch in
    let fresh : list_any (has_key by_launch l.restarter) k.launches ≡ false = search rules in
    let shows : ShowsLaunch l c.args.row.now = search rules in
    λ taken. subst (AddsLaunchRow c.args.row.now k) (sym c.in_ok-make_one.ensures)
    (reads_launch k l (none_found (has_key by_launch l.restarter) k.launches fresh) c.args.row.now shows)
