use Rattle.std.proofs.Common.{rules, sym, ◌∙◌}
use Rattle.smf_script.proofs.Fronts.{front_all, front_more}
use Rattle.smf_script.proofs.request.front.Goals as goal

pub loop-behind-preserved : goal.loop-behind-preserved
loop-behind-preserved c =
    record { text = search rules; same = sym (front_more _ _ c.in-Some.ensures).0 ∙ c.loop-behind.invariant.same }

pub loop-behind-smaller : goal.loop-behind-smaller
loop-behind-smaller c = (front_more _ _ c.in-Some.ensures).1

pub returns-in-None : goal.returns-in-None
returns-in-None c = sym (front_all _ c.in-None.ensures) ∙ c.loop-behind.invariant.same
