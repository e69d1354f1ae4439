use Rattle.std.proofs.Common.{◌+◌, take, ◌∙◌, arith}
use Rattle.std.proofs.lemmas.Grind.{common_steps}
use Rattle.sqlite.specs.Held.{state}
use Rattle.sqlite.proofs.StateLemmas.{survives_then}
use Rattle.smf_store.proofs.Shows.{growing_more}
use Rattle.smf_store.proofs.rows.insert_groups.Goals as goal

pub loop-group-preserved : goal.loop-group-preserved
loop-group-preserved g c =
    let old = state g.S.Store c.args.tx.now.conn.now in
    let mid = state g.S.Store c.loop-group.tx.conn.now in
    let new = state g.S.Store c.insert_group.new.tx.conn.now in
    record {
      same = c.insert_group.ensures.same_reference ∙ c.loop-group.invariant.same;
      inside = λ clean. (c.in_ok-insert_group.ensures.ok clean).shows.mode;
      growing = λ clean. growing_more c.args.service.now c.args.number _ _
          (take (c.loop-group.group-index + 1) c.args.groups.now) old mid new
          (c.loop-group.invariant.growing (omega (arith, c.insert_group.ensures.crash.clean)))
          (grind (arith, common_steps)) (c.in_ok-insert_group.ensures.ok clean);
      crash = survives_then old mid new _ _ (λ _. ⊥) (λ _ db none. none)
          (λ _ db none. none) c.loop-group.invariant.crash c.insert_group.ensures.crash;
    }
