use Rattle.std.proofs.Common.{◌≡◌, ◌++◌, drop}
use Rattle.smf_dep.proofs.link.copy_of_links.Given as goal

abbrev pub invariant-loop-link : goal.invariant-loop-link
invariant-loop-link l = l.copy ++ drop l.link-index l.links ≡ l.links
