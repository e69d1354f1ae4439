use Rattle.std.proofs.Common.{◌+◌, drop, ◌∙◌, arith}
use Rattle.std.proofs.lemmas.Grind.{common_steps}
use Rattle.sqlite.specs.Held.{state}
use Rattle.sqlite.proofs.StateLemmas.{survives_then}
use Rattle.smf_store.proofs.Commits.{reached_more}
use Rattle.smf_store.proofs.writes.write_each.Goals as goal

pub loop-change-preserved : goal.loop-change-preserved
loop-change-preserved g c =
    let old = state g.S.Store c.args.tx.now.conn.now in
    let mid = state g.S.Store c.loop-change.tx.conn.now in
    let new = state g.S.Store c.write_change.new.tx.conn.now in
    record {
      same = c.write_change.ensures.same_reference ∙ c.loop-change.invariant.same;
      reached = λ clean. reached_more (drop c.loop-change.change-index c.args.changes.now) c.args.changes.now _
          (drop (c.loop-change.change-index + 1) c.args.changes.now) old mid new
          (c.loop-change.invariant.reached (omega (arith, c.write_change.ensures.crash.clean)))
          (grind (arith, common_steps)) (c.in_ok-write_change.ensures.ok clean);
      crash = survives_then old mid new _ _ (λ _. ⊥) (λ _ db none. none)
          (λ _ db none. none) c.loop-change.invariant.crash c.write_change.ensures.crash;
    }
