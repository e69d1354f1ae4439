use Rattle.std.proofs.Common.{List, ℕ, subst}
use Rattle.smf_dep.specs.Index.{AreMissed, Finds, is_naming_at}
use Rattle.smf_dep.proofs.NamingPlaces.{naming_exact}
use Rattle.smf_dep.proofs.index.GraphIndex.naming.Goals as goal

pub returns : goal.returns
returns c =
    let arrivals = c.args.arrivals.now in
    let P : List ℕ → Type 0 =
    λ l. Finds (λ a. AreMissed c.args.self.now.citers a arrivals) (is_naming_at arrivals c.args.members.now) l
    c.put_naming_all.new.found in
    naming_exact c.args.self.now.citers c.args.members.now arrivals c.put_naming_all.new.found c.requires.citers
    (subst P c.new-found.ensures c.in_ok-put_naming_all.ensures) c.as_slice-rises.ensures.rises
