use Rattle.std.proofs.Common.{refl}
use Rattle.smf_fmri.specs.Counts.{read_count}
use Rattle.smf_fmri.specs.Name.{strip}
use Rattle.smf_reasons.specs.Hints.{program_of, signal_hint}
use Rattle.smf_reasons.proofs.hint_law.hints_are_told_so.Goals as goal

pub returns-clause-signals : goal.returns-clause-signals
unfolding signal_hint strip read_count
returns-clause-signals c = (refl, refl, refl, refl)

pub returns-clause-found : goal.returns-clause-found
unfolding program_of strip
returns-clause-found c = (refl, refl, refl, refl)

pub returns-clause-programs : goal.returns-clause-programs
unfolding program_of strip
returns-clause-programs c = (refl, refl)
