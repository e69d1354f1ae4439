use Rattle.std.proofs.Common.{rules, arith, w64, FitsSigned, to_z-of_z, sym, ap₂, ◌++◌, ◌∷◌, ◌∙◌}
use Rattle.sqlite.specs.Held.{state}
use Rattle.sqlite.specs.State.{HasCleanDisk}
use Rattle.smf_store.proofs.Makes as made
use Rattle.smf_store.proofs.changes.put_instance.Goals as goal

pub returns-clause-ok : goal.returns-clause-ok
returns-clause-ok g c clean =
    let s0 = state g.S.Store c.args.tx.now.conn.now in
    let s1 = state g.S.Store c.name_of.new.tx.conn.now in
    let s2 = state g.S.Store c.drop_instance.new.tx.conn.now in
    let s3 = state g.S.Store c.insert_instance.new.tx.conn.now in
    let k3 : HasCleanDisk s3 = clean in
    let k2 : HasCleanDisk s2 = omega (arith, k3, c.insert_instance.ensures.crash.clean) in
    let k1 : HasCleanDisk s1 = omega (arith, k2, c.drop_instance.ensures.crash.clean) in
    let fits : FitsSigned w64 c.in_ok-id.id = search rules in
    let whole = c.in_ok-columns.ensures.joined
    ∙ ap₂ (λ a b. a ++ 58 ∷ b) (sym (c.are_same.ensures.service (search rules)))
    (sym (c.are_same.ensures.name (search rules))) in
    made.makes_instance s0 s1 s2 s3 c.args.instance.now c.in-Some.read c.in_ok-id.ensures.some whole
    (rw (to_z-of_z fits, c.in_ok-id.ensures.id, c.in-Some.is) at (c.in_ok-read.ensures.ok k1))
    (rw (to_z-of_z fits, c.in_ok-id.ensures.id) at (c.in_ok-drop_instance.ensures.ok k2))
    (c.in_ok-insert_instance.ensures.ok k3)
