use Rattle.std.proofs.Common.{rules, tests}
use Rattle.std.proofs.lemmas.Iterator.{items_from_collect}
use Rattle.std.proofs.lemmas.Iterator.Consumers.{YieldsList-from_filter_map}
use Rattle.std.proofs.lemmas.Iterator.Splits.{YieldsList-from_lines}
use Rattle.smf_sweep.specs.Children.{read_child}
use Rattle.smf_sweep.proofs.child.children_in.Goals as goal

pub returns : goal.returns
returns c = items_from_collect _ c.collect.ensures.ran
    (YieldsList-from_filter_map _ (read_child c.args.boot.now)
    (YieldsList-from_lines c.args.text.now cc) c.filter_map.ensures.closure (λ x r q k. search (rules, tests)))
