use Rattle.smf_dep.proofs.Found.{got_at}
use Rattle.smf_dep.proofs.NamingRelinks.{none_there, one_there}
use Rattle.smf_dep.proofs.relink.push_relink.Goals as goal

pub returns-in-None : goal.returns-in-None
returns-in-None c = none_there c.args.members.now c.args.place c.args.relinks.now.items c.in-None.ensures.lookup.3

pub returns-in_ok-push-in-Some : goal.returns-in_ok-push-in-Some
returns-in_ok-push-in-Some c =
    let all = c.args.members.now in
    let x = c.in-Some.member.now in
    one_there all c.args.names.now c.args.place x c.member.result.now c.in_ok-node-in-Some.node
    c.args.relinks.now.items c.push.new.self.items c.requires
    (got_at all c.args.place x c.in-Some.ensures.lookup.0 c.in-Some.ensures.lookup.1) c.member.ensures
    c.in_ok-node-in-Some.ensures c.in_ok-push-in-Some.ensures.items
