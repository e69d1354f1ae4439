use Rattle.std.proofs.Common.{◌∙◌, ap, sym, inr, refl}
use Rattle.smf_edge.proofs.Members.{home_of_first}
use Rattle.smf_edge.proofs.Reports.{found_by, is_there, sound_told}
use Rattle.smf_edge.proofs.book.Book.find.Goals as goal

pub unwrap-process-requires : goal.unwrap-process-requires
unwrap-process-requires c = is_there _ (λ none. c.requires.member (sym c.first_member.ensures ∙ none))

pub tell-requires-clause-member : goal.tell-requires-clause-member
tell-requires-clause-member c =
    home_of_first c.args.id c.unwrap-process.result _ _ c.requires.sound.ordered.members_ascend
    (sym c.first_member.ensures ∙ c.unwrap-process.ensures)

pub returns-clause-found : goal.returns-clause-found
returns-clause-found c =
    let member = home_of_first c.args.id c.unwrap-process.result _ _ c.requires.sound.ordered.members_ascend
    (sym c.first_member.ensures ∙ c.unwrap-process.ensures) in
    let told = c.in_ok-event.ensures.told in
    inr (found_by c.args.id c.unwrap-process.result c.args.happening c.in_ok-event.event _ _ _ _ told member
    c.requires.none_due refl (inr (c.requires.none_pending, ap (λ l. l.pending) told.is ∙ c.requires.none_pending)))

pub returns-clause-told : goal.returns-clause-told
returns-clause-told c =
    let member = home_of_first c.args.id c.unwrap-process.result _ _ c.requires.sound.ordered.members_ascend
    (sym c.first_member.ensures ∙ c.unwrap-process.ensures) in
    (c.unwrap-process.result, member, c.in_ok-event.ensures.told)

pub returns-clause-room : goal.returns-clause-room
returns-clause-room c = c.in_ok-event.ensures.room

pub returns-clause-sound : goal.returns-clause-sound
returns-clause-sound c =
    let member = home_of_first c.args.id c.unwrap-process.result _ _ c.requires.sound.ordered.members_ascend
    (sym c.first_member.ensures ∙ c.unwrap-process.ensures) in
    let told = c.in_ok-event.ensures.told in
    let found = found_by c.args.id c.unwrap-process.result c.args.happening c.in_ok-event.event _ _ _ _ told member
    c.requires.none_due refl
    (inr (c.requires.none_pending, ap (λ l. l.pending) told.is ∙ c.requires.none_pending)) in
    sound_told c.in_ok-event.event _ _ c.in_ok-event.ensures.room c.requires.sound found
