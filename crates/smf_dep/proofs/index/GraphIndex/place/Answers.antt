use Rattle.std.proofs.Common.{sym}
use Rattle.smf_dep.specs.Updates.{with_placed}
use Rattle.smf_dep.proofs.NamedPlaces.{indexed_named}
use Rattle.smf_dep.proofs.Relinked.{names_of_all}
use Rattle.smf_dep.proofs.index.GraphIndex.place.Goals as goal

pub returns : goal.returns
returns c = λ ms named h.
    let ps = c.args.placed.now in
    record {
      names = indexed_named c.args.self.now.names ms (with_placed ps ms) (sym (names_of_all ps ms named)) h.names;
      citers = c.in_ok-place.ensures ms h.citers;
    }
