use Rattle.std.proofs.Common.{◌≡◌, ◌<◌, ◌∷◌, ◌++◌, [], List, length, sym, ap, subst, arith}
use Rattle.std.specs.Prelude.{min, vec_capacity}
use Rattle.smf_contract.specs.declared.contract.Member.{Member}
use Rattle.smf_contract.specs.Trail.{AreGrouped, Memberships}
use Rattle.smf_contract.proofs.Grouped.{grouped_more, same_length}
use Rattle.smf_contract.proofs.Begun.{ascends_higher}
use Rattle.smf_contract.proofs.members.Members.push.Goals as goal

pub put_home-requires-clause-room : goal.put_home-requires-clause-room
put_home-requires-clause-room c =
    let was = c.self.inside in
    let room : length was.all.items < min (vec_capacity was.all) (vec_capacity was.grouped) =
    rw (← c.self.view_is) at c.requires.room in
    let same : length was.grouped.items ≡ length was.all.items =
    same_length was.all.items was.grouped.items was.last c.self.invariant in
    omega (arith, room, same, was.grouped.ok.0)

-- the new number is the greatest
pub invariant_of-self : goal.invariant_of-self
invariant_of-self c =
    let was = c.self.inside in
    let pushed : c.push.new.self.items ≡ was.all.items ++ c.args.member ∷ [] =
    rw c.unwrap.ensures at c.push.ensures.items in
    let above : was.last < c.args.member.process =
    omega (arith, c.requires.later, ap (λ (h : Memberships). h.last) c.self.view_is) in
    let to_it : AreGrouped (was.all.items ++ c.args.member ∷ []) c.put_home.new.grouped.items c.args.member.process =
    subst (λ (gs : List Member). AreGrouped (was.all.items ++ c.args.member ∷ []) gs c.args.member.process)
    (sym c.put_home.ensures)
    (grouped_more c.args.member was.all.items was.grouped.items was.last above c.self.invariant) in
    subst (λ (ms : List Member). AreGrouped ms c.put_home.new.grouped.items c.args.last) (sym pushed)
    (record {
      ascends = ascends_higher 0 _ c.args.member.process c.args.last c.requires.last to_it.ascends;
      rises = to_it.rises;
      same = to_it.same;
    })
