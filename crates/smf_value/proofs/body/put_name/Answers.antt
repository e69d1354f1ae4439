use Rattle.std.proofs.Common.{arith}
use Rattle.smf_value.proofs.Names.{name_is_short}
use Rattle.smf_value.proofs.body.put_name.Goals as goal

pub overflow_cast-text : goal.overflow_cast-text
overflow_cast-text c =
    rw (c.as_bytes-text.ensures.value, c.as_str.ensures.value)
    (let low = name_is_short c.args.name.now c.as_str.ensures.name in omega arith)
