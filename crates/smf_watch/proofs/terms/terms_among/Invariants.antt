use Rattle.std.proofs.Common.{◌≡◌, ◌++◌, drop}
use Rattle.smf_watch.specs.Terms.{terms_among}
use Rattle.smf_watch.proofs.terms.terms_among.Given as goal

abbrev pub invariant-loop-entry : goal.invariant-loop-entry
invariant-loop-entry g l = l.terms ++ terms_among l.repository.held (drop l.entry-index l.entries)
    ≡ terms_among l.repository.held l.entries
