-- What becomes of a node when svccfg does a line over it.
use Rattle.std.proofs.Common.{◌≡◌, inl, inr, Result, Ok, Err}
use Rattle.smf_script.specs.declared.cfg_fault.SessionFault.{SessionFault}
use Rattle.smf_script.specs.declared.cfg_fault.SessionFault.TheVariants.{Refused, Repo}
use Rattle.smf_script.specs.declared.cfg_output.Output.{Output}
use Rattle.smf_script.specs.CfgLines.{IsGivenOr}
use Rattle.smf_model.specs.declared.command.CommandReply.{CommandReply}
use Rattle.smf_model.specs.declared.command.Edit.{Edit}
use Rattle.smf_model.specs.declared.journal.RepoFault.{RepoFault}
use Rattle.smf_model.specs.declared.journal.RepoFault.TheVariants as journals
use Rattle.smf_node.specs.Clients.{IsEditOf}
use Rattle.smf_script.specs.Session.{progress_behind}
use Rattle.smf_script.proofs.Later.{later_on, later_still}
use Rattle.smf_svccfg.specs.declared.fault.CfgFault.{CfgFault}
use Rattle.smf_svccfg.specs.declared.selection.Judged.{Judged}
use Rattle.smf_svccfg.specs.declared.selection.Judged.TheVariants as judgements
use Rattle.smf_world.specs.declared.event.Event.TheVariants as events
use Rattle.smf_world.specs.Reached.{IsLater}
use Rattle.smf_world.specs.Schedule.{Progress}

-- the node was given what a line is judged to be, or memory ran out before
abbrev pub WasGiven : (RepoFault → Type 0) → Result Judged CfgFault → Progress → Progress → Result Output SessionFault
    → Type 0
WasGiven stores r before after given =
    IsGivenOr (λ (p : Progress) (edit : Edit) (end : Result CommandReply RepoFault) (q : Progress). IsEditOf stores p edit end q) r before after given

-- ---- a line that was done

pub done_behind : (stores : RepoFault → Type 0) (r : Result Judged CfgFault) (p after : Progress) (output : Output)
    → WasGiven stores r p after (Ok output) → after ≡ progress_behind p r
done_behind stores (Ok judgements.Nothing) p after output (inl h) = h.0
done_behind stores (Ok (judgements.Select found)) p after output (inl h) = h.0
done_behind stores (Ok (judgements.Edit edit next)) p after output (inl h) = h.1.end_is.0
done_behind stores (Ok (judgements.Print text)) p after output (inl h) = h.0
done_behind stores (Ok judgements.End) p after output (inl h) = h.0
done_behind stores (Err fault) p after output (inl h) = h.0
done_behind stores r p after output (inr h) = (let no : Ok output ≡ Err (Repo journals.Memory) = h.0 in absurd cc)

pub refused_behind : (stores : RepoFault → Type 0) (r : Result Judged CfgFault) (p after : Progress)
    (reply : CommandReply) → WasGiven stores r p after (Err (Refused reply)) → after ≡ progress_behind p r
refused_behind stores (Ok judgements.Nothing) p after reply (inl h) = absurd h.1
refused_behind stores (Ok (judgements.Select found)) p after reply (inl h) = absurd h.1
refused_behind stores (Ok (judgements.Edit edit next)) p after reply (inl h) = h.end_is.0
refused_behind stores (Ok (judgements.Print text)) p after reply (inl h) = absurd h.1
refused_behind stores (Ok judgements.End) p after reply (inl h) = absurd h.1
refused_behind stores (Err fault) p after reply (inl h) = absurd h.1
refused_behind stores r p after reply (inr h) =
    (let no : Err (Refused reply) ≡ Err (Repo journals.Memory) = h.0 in absurd cc)

-- ---- what follows of the world

pub later_judged : (r : Result Judged CfgFault) (p after : Progress) → after ≡ progress_behind p r
    → IsLater p.world after.world
later_judged (Ok judgements.Nothing) p after is = later_still p after is
later_judged (Ok (judgements.Select found)) p after is = later_still p after is
later_judged (Ok (judgements.Edit edit next)) p after is = later_on p after (events.Client edit) is
later_judged (Ok (judgements.Print text)) p after is = later_still p after is
later_judged (Ok judgements.End) p after is = later_still p after is
later_judged (Err fault) p after is = later_still p after is
