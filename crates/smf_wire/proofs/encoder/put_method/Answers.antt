use Rattle.smf_wire.proofs.Parts.{always}
use Rattle.smf_wire.proofs.encoder.put_method.Goals as goal

pub returns-clause-known : goal.returns-clause-known
returns-clause-known c =
    always c.write.result
    (record { timeout = c.seconds_of-seconds.ensures.known; command = record { plain = c.as_str.ensures.plain } })
