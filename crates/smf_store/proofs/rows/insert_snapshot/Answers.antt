use Rattle.std.proofs.Common.{◌≡◌, pos, ap, ◌∙◌, rules, w64, FitsSigned, to_z-of_z}
use Rattle.sqlite.specs.Held.{state}
use Rattle.smf_model.specs.declared.held.Snapshot.{Snapshot}
use Rattle.smf_store.proofs.Shows.{adds_snapshot}
use Rattle.smf_store.proofs.rows.insert_snapshot.Goals as goal

pub returns-clause-ok : goal.returns-clause-ok
returns-clause-ok g c clean =
    let fits : FitsSigned w64 c.integer_of-id.result = search rules in
    let small : FitsSigned w64 c.integer_of-instance.result = search rules in
    let s = c.args.s.now in
    let number : c.integer_of-id.result ≡ pos s.number =
    c.integer_of-id.ensures ∙ ap (λ (t : Snapshot). pos t.number) c.snapshot-snapshot.ensures in
    let owner : c.integer_of-instance.result ≡ pos s.instance =
    c.integer_of-instance.ensures ∙ ap (λ (t : Snapshot). pos t.instance) c.snapshot-snapshot.ensures in
    adds_snapshot s c.integer_of-id.result c.integer_of-instance.result c.body.result.now
    (state g.S.Store c.args.tx.now.conn.now) (state g.S.Store c.add_snapshot.new.tx.conn.now)
    c.body.ensures.formed.0 c.body.ensures.formed.1 number owner c.body.ensures.spelled
    (rw (to_z-of_z fits, to_z-of_z small, c.as_slice.ensures) at (c.in_ok-add_snapshot.ensures.ok clean))
