use Rattle.std.proofs.Common.{◌∙◌, sym}
use Rattle.smf_script.proofs.CfgRefusals.{refused_keeps}
use Rattle.smf_script.proofs.cfg_line.give.Goals as goal

pub returns-then-is_refusal-clause-kept : goal.returns-then-is_refusal-clause-kept
returns-then-is_refusal-clause-kept g c =
    refused_keeps _ _ _ _ c.in_ok-reply.ensures.exact (sym c.is_refusal.ensures ∙ c.if-is_refusal.true)
