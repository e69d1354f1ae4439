-- The service above an instance does not depend on who runs the instance.
use Rattle.std.proofs.Common.{◌≡◌, ℕ, List, Bool, true, false, Option, Some, None, refl, sym, ◌∙◌, ap}
use Rattle.std.specs.Prelude.{option_map}
use Rattle.smf_model.specs.declared.held.Instance.{Instance}
use Rattle.smf_model.specs.declared.general_group.Setting.{Setting}
use Rattle.smf_model.specs.Contents.{Holdings}
use Rattle.smf_model.specs.Look.{groups_of, instance}
use Rattle.smf_model.specs.Next.{current_instance}
use Rattle.smf_model.specs.GeneralGroup.{Groups, current, owned_by_setting, service_fmri}
use Rattle.smf_svccfg.specs.declared.selection.Selection.TheVariants as selected
use Rattle.smf_svccfg.specs.Judged.{above_instance}

same_name : (b : Bool) (s : Setting) (i : Instance) → (owned_by_setting b s i).name ≡ i.name
same_name true s i = refl
same_name false s i = refl

current_name : (gs : Groups) (i : Instance) → (current gs i).name ≡ i.name
unfolding current
current_name gs i = same_name _ _ i

above_current : (gs : Groups) (i : Option Instance) → above_instance (option_map (current gs) i) ≡ above_instance i
above_current gs None = refl
above_current gs (Some i) = ap (λ name. selected.Service (service_fmri name)) (current_name gs i)

pub above_found : (h : Holdings) (n : ℕ) (read : Option Instance) (i : Instance) (service : List ℕ)
    → read ≡ current_instance h n → read ≡ Some i → service ≡ service_fmri i.name
    → selected.Service service ≡ above_instance (instance h n)
above_found h n read i service e is named =
    ap selected.Service named ∙ ap above_instance (sym is ∙ e) ∙ above_current (groups_of h) (instance h n)
