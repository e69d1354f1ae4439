use Rattle.std.proofs.Common.{◌++◌, ◌∷◌, [], sym, subst, rules}
use Rattle.smf_store.specs.Gathered.{AreRead}
use Rattle.smf_store.specs.Shown.{ShowsInstance}
use Rattle.smf_store.proofs.Gathers.{reads_instance, unnamed_is}
use Rattle.smf_store.proofs.additions.add_instance.Goals as goal

pub returns-clause-added : goal.returns-clause-added
returns-clause-added c = λ taken rows a.
    let i = c.in-Some.instance in
    let k = c.args.tables.now in
    let new = c.in_ok-new.ensures in
    let is = c.if-not-new.false in
    let shows : ShowsInstance i c.args.row.now = search rules in
    subst (AreRead (record rows { instances = rows.instances ++ c.args.row.now ∷ [] }))
    (sym c.in_ok-make_instance.ensures)
    (reads_instance k i (new.above is) (new.below is) (new.none is)
    (unnamed_is k i.name a.numbered.indexed (new.unnamed is)) (new.dated is) c.args.row.now shows rows a)
