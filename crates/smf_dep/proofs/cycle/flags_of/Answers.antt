use Rattle.smf_dep.proofs.cycle.flags_of.Goals as goal

pub returns : goal.returns
returns c = record { size = c.in_ok-flags.ensures.length; exact = c.in_ok-flags.ensures.exact }
