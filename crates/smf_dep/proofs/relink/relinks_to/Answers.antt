use Rattle.std.proofs.Common.{arith, drop}
use Rattle.smf_dep.proofs.NamingRelinks.{leads_end, leads_first, leads_more}
use Rattle.smf_dep.proofs.relink.relinks_to.Goals as goal

pub loop-place-init : goal.loop-place-init
loop-place-init c =
    let all = c.args.members.now in
    record {
      past = omega arith;
      leads = leads_first all (drop c.args.count all) c.args.count c.args.naming.now c.in_ok-all.all.items
          c.in_ok-all.ensures;
    }

pub loop-place-preserved : goal.loop-place-preserved
loop-place-preserved c =
    let all = c.args.members.now in
    let past = c.loop-place.invariant.past in
    record {
      past = omega (arith, past);
      leads = leads_more all (drop c.args.count all) c.args.count c.loop-place.place c.args.naming.now
          c.loop-place.all.items c.push_relink.new.relinks.items past c.loop-place-test.true
          c.in_ok-push_relink.ensures c.loop-place.invariant.leads;
    }

pub returns : goal.returns
returns c =
    leads_end c.args.members.now c.args.count c.loop-place.place c.args.naming.now c.loop-place.all.items
    c.requires.count c.requires.naming c.loop-place-test.false c.loop-place.invariant.leads
