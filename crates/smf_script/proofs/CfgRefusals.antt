-- A refused edit leaves the holdings as they were.
use Rattle.std.proofs.Common.{◌≡◌, true, ap, sym, ◌∙◌}
use Rattle.smf_model.specs.declared.command.Command.{Command}
use Rattle.smf_model.specs.declared.command.CommandReply.{CommandReply}
use Rattle.smf_model.specs.Contents.{Holdings}
use Rattle.smf_model.specs.Laws.{is_refusal}
use Rattle.smf_model.specs.Next.{next}
use Rattle.smf_model.proofs.LawOutcomes.{unchanged}

-- a refused command leaves what was held
pub refused_keeps : (h h' : Holdings) (c : Command) (reply : CommandReply) → next h c ≡ (h', reply)
    → is_refusal reply ≡ true → h' ≡ h
refused_keeps h h' c reply is refused =
    let said : is_refusal (next h c).1 ≡ true = ap (λ r. is_refusal r.1) is ∙ refused in
    sym (ap (λ r. r.0) is) ∙ unchanged h c said
