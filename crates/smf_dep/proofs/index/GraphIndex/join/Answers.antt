use Rattle.smf_dep.proofs.index.GraphIndex.join.Goals as goal

pub returns : goal.returns
returns c = λ ms size h.
    record { names = c.in_ok-join.ensures ms size h.names; citers = c.in_ok-join-2.ensures ms size h.citers }
