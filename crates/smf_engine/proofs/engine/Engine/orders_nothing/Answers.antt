use Rattle.std.proofs.Common.{Option, Some, None, subst, sym}
use Rattle.smf_state.specs.declared.view.View.{View}
use Rattle.smf_engine.specs.declared.looked.Looked.{Looked}
use Rattle.smf_engine.specs.Coverage.{IsBeside}
use Rattle.smf_engine.proofs.engine.Engine.orders_nothing.Goals as goal

-- nothing was looked at
beside_nothing : (seen : Option View) → IsBeside seen None
beside_nothing None = tt
beside_nothing (Some v) = tt

pub invariant_of-self-2 : goal.invariant_of-self-2
invariant_of-self-2 c =
    let P : Option Looked → Type 0 = IsBeside c.self.inside.seen in
    subst P (sym c.take.ensures.after) (beside_nothing c.self.inside.seen)
