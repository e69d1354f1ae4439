use Rattle.std.proofs.Common.{refl}
use Rattle.smf_svccfg.specs.Lines.{line_of}
use Rattle.smf_svccfg.specs.Tokens.{read_from, tokens_of}
use Rattle.smf_value.specs.Names.{read_name}
use Rattle.smf_meaning.proofs.examples.lines_of_svccfg_are_read_so.Goals as goal

pub returns-clause-nothing : goal.returns-clause-nothing
unfolding line_of tokens_of read_from read_name
returns-clause-nothing c = (refl, refl, refl, refl)

pub returns-clause-blanks : goal.returns-clause-blanks
unfolding line_of tokens_of read_from read_name
returns-clause-blanks c = refl

pub returns-clause-values : goal.returns-clause-values
unfolding line_of tokens_of read_from read_name
returns-clause-values c = (refl, refl, refl)

pub returns-clause-quotes : goal.returns-clause-quotes
unfolding line_of tokens_of read_from read_name
returns-clause-quotes c = (refl, refl)

pub returns-clause-kinds : goal.returns-clause-kinds
unfolding line_of tokens_of read_from read_name
returns-clause-kinds c = (refl, refl)

pub returns-clause-groups : goal.returns-clause-groups
unfolding line_of tokens_of read_from read_name
returns-clause-groups c = (refl, refl)

pub returns-clause-components : goal.returns-clause-components
unfolding line_of tokens_of read_from read_name
returns-clause-components c = (refl, refl)

pub returns-clause-ends : goal.returns-clause-ends
unfolding line_of tokens_of read_from read_name
returns-clause-ends c = (refl, refl, refl, refl)
