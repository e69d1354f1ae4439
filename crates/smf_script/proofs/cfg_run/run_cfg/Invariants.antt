use Rattle.std.proofs.Common.{◌≡◌, ◌+◌, false}
use Rattle.smf_lines.specs.Faults.{count_after}
use Rattle.smf_model.specs.Clients.{IsEditedAlone}
use Rattle.smf_script.specs.CfgRuns.{start_place}
use Rattle.smf_script.proofs.CfgProgress.{Goes}
use Rattle.smf_script.proofs.cfg_run.run_cfg.Given as goal

abbrev pub invariant-loop-selection : goal.invariant-loop-selection
invariant-loop-selection g l =
    record {
      so_far : Goes (start_place (g.C.Client.held l.fn.client)) (g.R.LineReader.remaining l.fn.reader)
          (g.R.LineReader.remaining l.reader) (l.turns.left + l.turns.interrupted) l.turns.left
          (g.W.TextWriter.contents l.fn.out) (g.E.TextWriter.contents l.fn.errors) (g.C.Client.held l.client)
          l.selection (g.W.TextWriter.contents l.out) (g.E.TextWriter.contents l.errors) l.is_fine false;
      edits : IsEditedAlone g.C.Client.held g.C.Client.follows l.fn.client l.client;
      interrupted : g.R.LineReader.interrupted l.reader
          ≡ count_after (g.R.LineReader.interrupted l.fn.reader) l.turns.interrupted;
      failed : g.R.LineReader.has_failed l.reader ≡ g.R.LineReader.has_failed l.fn.reader;
    }

abbrev pub decreases-loop-selection : goal.decreases-loop-selection
decreases-loop-selection g l = l.turns.left
