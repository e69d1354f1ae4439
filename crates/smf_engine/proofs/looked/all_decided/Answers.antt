use Rattle.std.proofs.Common.{◌∙◌, List, ℕ, ap, subst, sym, map}
use Rattle.smf_engine.specs.Coverage.{CoversBut}
use Rattle.smf_engine.proofs.Coverage.{none_known}
use Rattle.smf_engine.proofs.looked.all_decided.Goals as goal

pub judge_all-requires-clause-others : goal.judge_all-requires-clause-others
judge_all-requires-clause-others c =
    let P : List ℕ → Type 0 = λ ns. CoversBut c.deref.result.now c.args.view.now.items ns in
    subst P (sym c.new-decided.ensures)
    (none_known c.args.view.now.items c.deref.result.now
    (c.deref.ensures.value ∙ c.in_ok-numbers.ensures ∙ ap (map (λ i. i.instance)) c.items.ensures.all))
