use Rattle.std.proofs.Common.{◌≤◌, drop}
use Rattle.smf_dep.proofs.NamingRelinks.{LeadsTo}
use Rattle.smf_dep.proofs.relink.relinks_to.Given as goal

abbrev pub invariant-loop-place : goal.invariant-loop-place
invariant-loop-place l =
    record {
      past : l.count ≤ l.place;
      leads : LeadsTo l.members (drop l.count l.members) l.count l.place l.naming l.all.items;
    }
