use Rattle.std.proofs.Common.{◌≡◌, ◌≤◌, ◌∙◌, ℕ, List, Some, Result, Ok, Err, ap}
use Rattle.std.specs.Prelude.{IfOk}
use Rattle.serde_json.specs.Data.{Data, depth}
use Rattle.serde_json.specs.Read.{max_depth, read}
use Rattle.serde_json.specs.View.{view}
use Rattle.smf_show.specs.Json.{all_data}
use Rattle.smf_show.proofs.Depths.{all_shallow}
use Rattle.smf_show.proofs.json.json_text.Goals as goal

read_whole : {E : Type 0} (r : Result (List ℕ) E) (d e : Data) → d ≡ e → depth e ≤ max_depth
    → IfOk r (λ text. depth d ≤ max_depth → read text ≡ Some d) → IfOk r (λ text. read text ≡ Some e)
read_whole (Ok text) d e same shallow reads = reads (rw same shallow) ∙ ap Some same
read_whole (Err fault) d e same shallow reads = reads

pub returns : goal.returns
returns c =
    read_whole c.text_of.result (view c.in_ok-data.data) (all_data c.args.instances.now) c.in_ok-data.ensures
    (all_shallow c.args.instances.now) c.text_of.ensures
