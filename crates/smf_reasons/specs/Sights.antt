-- A view's engine, members and graph, by which its reasons are found.
use Rattle.std.specs.Prelude.{◌≡◌, Some}
use Rattle.smf_state.specs.declared.view.View.{View}
use Rattle.smf_dep.specs.Members.{members}
use Rattle.smf_reasons.specs.declared.reasons.Sight.{Sight}

pub record IsSight (v : View) (s : Sight) : Type 0 where
  pub holds : s.engine ≡ Some v
  pub shown : s.members ≡ members v.items
  pub linked : s.graph ≡ members v.items
