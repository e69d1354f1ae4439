use Rattle.smf_method.specs.Tokens.{names_of}
use Rattle.smf_method.proofs.PlainTexts.{filled_is_plain}
use Rattle.smf_method.proofs.call.command_in.Goals as goal

pub new-command-requires : goal.new-command-requires
new-command-requires c =
    let names = names_of c.args.restarter.now c.args.method c.args.instance.now in
    rw (c.in_ok-text.ensures, c.as_bytes.ensures.value)
    (filled_is_plain names c.args.exec.now c.print-restarter.ensures.named.reads c.print-instance.ensures.named.reads
    c.requires)
