use Rattle.std.proofs.Common.{◌≡◌, ◌++◌, ◌∙◌, ap, map, sym}
use Rattle.std.proofs.lemmas.List.{append-nil, drop_all}
use Rattle.smf_dep.specs.Updates.{number}
use Rattle.smf_dep.proofs.Rolled.{rises_numbers}
use Rattle.smf_dep.proofs.roll.roll_of.Goals as goal

pub from_vec-requires : goal.from_vec-requires
from_vec-requires c =
    let numbers = c.loop-member.numbers.items in
    let all : numbers ≡ map number c.args.members.now =
    sym (append-nil numbers)
    ∙ ap (λ l. numbers ++ map number l)
    (sym (drop_all c.loop-member.member-index c.args.members.now c.loop-member-test.false))
    ∙ c.loop-member.invariant in
    rises_numbers c.args.members.now numbers all c.requires
