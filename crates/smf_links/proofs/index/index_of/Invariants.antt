use Rattle.smf_links.proofs.Citations.{IsBegun}
use Rattle.smf_links.proofs.index.index_of.Given as goal

abbrev pub invariant-loop-at : goal.invariant-loop-at
invariant-loop-at l = IsBegun l.nodes l.citing.items l.at
