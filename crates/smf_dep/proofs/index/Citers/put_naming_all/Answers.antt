use Rattle.std.proofs.Common.{subst}
use Rattle.smf_dep.specs.declared.member.GraphMember.{GraphMember}
use Rattle.smf_dep.specs.Index.{AreMissed, Finds, IsMissed, is_naming_at}
use Rattle.smf_dep.proofs.NamingPlaces.{missed_end, missed_more, seeks_first}
use Rattle.smf_dep.proofs.index.Citers.put_naming_all.Goals as goal

pub loop-one-init : goal.loop-one-init
loop-one-init c =
    seeks_first (AreMissed c.args.self.now) (is_naming_at c.args.arrivals.now c.args.members.now) c.args.arrivals.now
    c.args.found.now

pub loop-one-preserved : goal.loop-one-preserved
loop-one-preserved c =
    let test = is_naming_at c.args.arrivals.now c.args.members.now in
    let P : GraphMember → Type 0 =
    λ m. Finds (λ a. IsMissed c.args.self.now a m) test c.loop-one.found c.put_naming_of.new.found in
    missed_more c.args.self.now test c.args.arrivals.now c.loop-one.one-index c.one-item.result c.args.found.now
    c.loop-one.found c.put_naming_of.new.found c.loop-one-test.true c.one-item.is
    (subst P c.member.ensures c.in_ok-put_naming_of.ensures) c.loop-one.invariant

pub returns : goal.returns
returns c =
    missed_end c.args.self.now (is_naming_at c.args.arrivals.now c.args.members.now) c.args.arrivals.now
    c.loop-one.one-index c.args.found.now c.loop-one.found c.loop-one-test.false c.loop-one.invariant
