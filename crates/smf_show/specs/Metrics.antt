-- Instances as metrics.
use Rattle.std.specs.Prelude.{ℕ, ◌++◌, List, Bool, true, false, codes}
use Rattle.std.specs.List.{flat_map}
use Rattle.smf_state.specs.States.{state_text}
use Rattle.smf_show.specs.declared.shown.Shown.{Shown}

-- ---- names, and what they mean

unfoldable pub state_metric : List ℕ
state_metric = codes "smf_instance_state"

unfoldable pub state_help : List ℕ
state_help = codes "The state of an instance, in a label."

unfoldable pub enabled_metric : List ℕ
enabled_metric = codes "smf_instance_enabled"

unfoldable pub enabled_help : List ℕ
enabled_help = codes "Whether an instance is enabled."

-- ---- lines

unfoldable pub head : List ℕ → List ℕ → List ℕ
head metric help =
    codes "# HELP " ++ metric ++ codes " " ++ help ++ codes "\n# TYPE " ++ metric ++ codes " gauge\n"

unfoldable pub state_line : Shown → List ℕ
state_line s =
    state_metric ++ codes "{fmri=\"" ++ s.name ++ codes "\",state=\"" ++ state_text s.state ++ codes "\"} 1\n"

abbrev pub digit_of : Bool → List ℕ
digit_of true = codes "1"
digit_of false = codes "0"

unfoldable pub enabled_line : Shown → List ℕ
enabled_line s = enabled_metric ++ codes "{fmri=\"" ++ s.name ++ codes "\"} " ++ digit_of s.enabled ++ codes "\n"

-- a line for each instance in each of the two
unfoldable pub metrics_text : List Shown → List ℕ
metrics_text all =
    head state_metric state_help ++ flat_map state_line all ++ head enabled_metric enabled_help
    ++ flat_map enabled_line all
