use Rattle.std.proofs.Common.{map}
use Rattle.smf_dep.specs.Updates.{number, number_at}
use Rattle.smf_dep.proofs.Leaving.{out_after, out_before}
use Rattle.smf_dep.proofs.Updates.{named_by, named_by_all}
use Rattle.smf_dep.proofs.update.put_touched.Goals as goal

pub returns-then-places-capacity-clause-touched : goal.returns-then-places-capacity-clause-touched
returns-then-places-capacity-clause-touched c = λ a m at out.
    named_by_all c.args.members.now c.args.places.now a m at
    (out_after m.instance c.args.numbers.now.items (map number c.args.members.now) c.put_all_numbers.new.numbers.items
    c.put_all_numbers.ensures out)

pub returns-then-places-capacity-clause-grown : goal.returns-then-places-capacity-clause-grown
returns-then-places-capacity-clause-grown c = λ n out.
    out_before n c.args.numbers.now.items (map number c.args.members.now) c.put_all_numbers.new.numbers.items
    c.put_all_numbers.ensures out

pub returns-clause-touched : goal.returns-clause-touched
returns-clause-touched c = λ a m at out.
    named_by c.args.members.now c.args.places.now a m at
    (out_after m.instance c.args.numbers.now.items (map (number_at c.args.members.now) c.args.places.now)
    c.put_numbers.new.numbers.items c.put_numbers.ensures out)

pub returns-clause-grown : goal.returns-clause-grown
returns-clause-grown c = λ n out.
    out_before n c.args.numbers.now.items (map (number_at c.args.members.now) c.args.places.now)
    c.put_numbers.new.numbers.items c.put_numbers.ensures out
