use Rattle.std.proofs.Common.{◌≡◌, ◌+◌}
use Rattle.smf_lines.specs.Faults.{count_after}
use Rattle.smf_edge.specs.Answers.{children_state}
use Rattle.smf_script.proofs.Steps.{Goes}
use Rattle.smf_script.specs.Script.{first_session}
use Rattle.smf_world.specs.Reached.{IsLater}
use Rattle.smf_script.proofs.script.do_lines.Given as goal

abbrev pub invariant-loop-selection : goal.invariant-loop-selection
invariant-loop-selection g l =
    record {
      so_far : Goes g.K.Kids.skills (first_session l.fn.node) (g.R.LineReader.remaining l.fn.reader)
          (g.R.LineReader.remaining l.reader) (l.turns.left + l.turns.interrupted)
          (children_state (g.K.Kids.ledger l.fn.kids) (g.K.Kids.failures l.fn.kids))
          (children_state (g.K.Kids.ledger l.kids) (g.K.Kids.failures l.kids))
          (g.W.TextWriter.contents l.fn.writer) (g.W.TextWriter.contents l.writer) l.node l.selection l.fine;
      later : IsLater l.fn.node.world l.node.world;
      interrupted : g.R.LineReader.interrupted l.reader
          ≡ count_after (g.R.LineReader.interrupted l.fn.reader) l.turns.interrupted;
      failed : g.R.LineReader.has_failed l.reader ≡ g.R.LineReader.has_failed l.fn.reader;
    }

abbrev pub decreases-loop-selection : goal.decreases-loop-selection
decreases-loop-selection g l = l.turns.left
