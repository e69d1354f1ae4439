use Rattle.std.proofs.Common.{◌≡◌, ◌++◌, List, ap, map, subst, sym, ◌∙◌}
use Rattle.std.proofs.lemmas.Result.{on_ok_weaker}
use Rattle.smf_dep.specs.declared.member.GraphMember.{GraphMember}
use Rattle.smf_dep.specs.Updates.{AreKnown, all_relinks, relink_of}
use Rattle.smf_dep.proofs.Linked.{after_part, first_within, known_joined, nodes_linked, within_linked}
use Rattle.smf_dep.proofs.relink.link_all.Goals as goal

pub relinks_to-requires-clause-count : goal.relinks_to-requires-clause-count
relinks_to-requires-clause-count c =
    first_within c.args.members.now c.args.count c.args.kept.now c.requires.joined

pub add_relinks-requires-clause-known : goal.add_relinks-requires-clause-known
add_relinks-requires-clause-known c =
    let all = c.args.members.now in
    let P : List GraphMember → Type 0 = λ l. AreKnown all l c.args.count c.args.kept.now in
    subst P (sym (after_part all c.args.count)) (known_joined all c.args.count c.args.kept.now c.requires.joined)

pub rewire-requires-clause-within : goal.rewire-requires-clause-within
rewire-requires-clause-within c =
    let all = c.args.members.now in
    let ps = c.args.placed.now in
    let made : c.add_relinks.new.relinks.items ≡ all_relinks all c.args.count ps =
    c.in_ok-add_relinks.ensures ∙ ap (λ l. l ++ map (relink_of all) ps) c.in_ok-relinks.ensures in
    within_linked ps all c.args.count c.args.kept.now c.add_relinks.new.relinks.items c.requires.joined
    c.requires.named made

pub returns-clause-linked : goal.returns-clause-linked
returns-clause-linked c =
    let all = c.args.members.now in
    let ps = c.args.placed.now in
    let made : c.add_relinks.new.relinks.items ≡ all_relinks all c.args.count ps =
    c.in_ok-add_relinks.ensures ∙ ap (λ l. l ++ map (relink_of all) ps) c.in_ok-relinks.ensures in
    on_ok_weaker c.rewire.result
    (λ e. nodes_linked ps all c.args.count c.args.kept.now c.rewire.new.kept c.add_relinks.new.relinks.items
    c.requires.joined c.requires.named made e) c.rewire.ensures.set
