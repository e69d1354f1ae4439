use Rattle.std.proofs.Common.{◌∙◌, ◌++◌, ap, append_assoc, codes, string_bytes}
use Rattle.std.specs.Fmt.{decimal}
use Rattle.smf_stops.specs.Text.{line_end}
use Rattle.smf_stops.proofs.text.put_all_seconds.Goals as goal

pub returns : goal.returns
returns c =
    c.in_ok-push_str.ensures.bytes
    ∙ (ap (λ l. l ++ line_end) c.in_ok-put_seconds.ensures
    ∙ append_assoc (string_bytes c.args.out.now) (codes "in all at most " ++ decimal c.args.seconds ++ codes " s")
    line_end)
