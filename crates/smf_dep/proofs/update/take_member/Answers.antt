use Rattle.std.proofs.Common.{◌∙◌, List, ap, subst}
use Rattle.smf_dep.specs.declared.member.GraphMember.{GraphMember}
use Rattle.smf_dep.specs.Places.{flags_of}
use Rattle.smf_dep.specs.Updates.{FitsAt}
use Rattle.smf_dep.proofs.Updates.{fits_within, linked_again, member_taken, set_is_put}
use Rattle.smf_dep.proofs.update.take_member.Goals as goal

pub put_member-requires : goal.put_member-requires
put_member-requires c =
    let P : List GraphMember → Type 0 = λ l. FitsAt c.args.member l c.place_of-place.result in
    fits_within c.args.member c.args.members.now.items c.place_of-place.result
    (subst P c.as_slice.ensures.value c.place_of-place.ensures)

pub returns-clause-put : goal.returns-clause-put
returns-clause-put c =
    let P : List GraphMember → Type 0 = λ l. FitsAt c.args.member l c.place_of-place.result in
    c.put_member.ensures
    ∙ set_is_put c.args.member c.args.members.now.items c.place_of-place.result c.requires.rises
    (subst P c.as_slice.ensures.value c.place_of-place.ensures)

pub returns-clause-linked : goal.returns-clause-linked
returns-clause-linked c =
    let P : List GraphMember → Type 0 = λ l. FitsAt c.args.member l c.place_of-place.result in
    linked_again c.args.member c.args.members.now.items c.put_member.new.members.items c.args.kept.now
    c.set.new.self c.place_of-place.result c.flags_of-flags.result
    (subst P c.as_slice.ensures.value c.place_of-place.ensures) c.put_member.ensures
    (c.flags_of-flags.ensures ∙ ap flags_of c.member.ensures) c.requires.linked c.set.ensures.set

pub returns-clause-stays : goal.returns-clause-stays
returns-clause-stays c =
    let P : List GraphMember → Type 0 = λ l. FitsAt c.args.member l c.place_of-place.result in
    let fits = subst P c.as_slice.ensures.value c.place_of-place.ensures in
    member_taken c.args.member c.args.members.now.items c.put_member.new.members.items c.args.kept.now
    c.set.new.self c.place_of-place.result c.args.touched.now.items
    c.set.new.touched.items fits c.put_member.ensures c.requires.linked
    (linked_again c.args.member c.args.members.now.items c.put_member.new.members.items c.args.kept.now
    c.set.new.self c.place_of-place.result c.flags_of-flags.result
    fits c.put_member.ensures (c.flags_of-flags.ensures ∙ ap flags_of c.member.ensures) c.requires.linked c.set.ensures.set)
    c.set.ensures.reaches
