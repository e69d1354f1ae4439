use Rattle.smf_show.proofs.Escaped.{escaped_is_text}
use Rattle.smf_show.proofs.properties.put_escaped_text.Goals as goal

pub unreachable-requires : goal.unreachable-requires
unreachable-requires c =
    c.in_default.ensures.cases.0
    (rw (c.as_slice.ensures.value, c.in_ok-bytes.ensures, c.as_bytes.ensures.value)
    (escaped_is_text c.args.text.now c.utf8.text))
