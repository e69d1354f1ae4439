use Rattle.std.proofs.Common.{◌≡◌, ℕ, List, sym, ap, subst, ◌∙◌}
use Rattle.std.specs.List.{AllByRecursion as Every}
use Rattle.smf_fmri.specs.ByKey.{BelongsAt, Rises, StandsAt}
use Rattle.smf_fmri.specs.ByKey as by_key
use Rattle.smf_fmri.proofs.Places.{stands_within, without_at, without_before}
use Rattle.smf_contract.specs.declared.contract.Member.{Member}
use Rattle.smf_contract.specs.Entries.{without}
use Rattle.smf_contract.specs.Trail.{AreGrouped, Memberships, by_home, by_process}
use Rattle.smf_contract.proofs.Grouped.{grouped_without, one_home, without_process}
use Rattle.smf_contract.proofs.Halves.{rises_from}
use Rattle.smf_contract.proofs.members.Members.remove.Goals as goal

pub place_of-requires : goal.place_of-requires
place_of-requires c =
    rw c.deref.ensures.value
    (rises_from (λ (m : Member). m.process) 0 c.self.inside.all.items c.self.inside.last c.self.invariant.ascends)

pub remove-member-requires : goal.remove-member-requires
remove-member-requires c = rw (← c.deref.ensures.len) (stands_within by_process _ _ _ c.in-Ok.ensures.found)

pub returns-in-Ok-clause-members : goal.returns-in-Ok-clause-members
returns-in-Ok-clause-members c =
    let was = c.self.inside in
    let p : ℕ = c.args.process in
    let rises : Rises by_process was.all.items =
    rises_from (λ (m : Member). m.process) 0 was.all.items was.last c.self.invariant.ascends in
    let stands : StandsAt by_process p c.in-Ok.at was.all.items =
    rw (c.deref.ensures.value, c.get.ensures.value) at c.in-Ok.ensures.found in
    c.remove-member.ensures.items ∙ sym (without_at by_process p c.in-Ok.at was.all.items rises stands)
    ∙ without_process p was.all.items ∙ ap (λ (h : Memberships). without p h.members) c.self.view_is

-- a process has one home
pub invariant_of-self : goal.invariant_of-self
invariant_of-self c =
    let was = c.self.inside in
    let p : ℕ = c.args.process in
    let id : ℕ = c.get-in-Ok.result in
    let rises : Rises by_process was.all.items =
    rises_from (λ (m : Member). m.process) 0 was.all.items was.last c.self.invariant.ascends in
    let stands : StandsAt by_process p c.in-Ok.at was.all.items =
    rw (c.deref.ensures.value, c.get.ensures.value) at c.in-Ok.ensures.found in
    let all : c.remove-member.new.self.items ≡ without p was.all.items =
    c.remove-member.ensures.items ∙ sym (without_at by_process p c.in-Ok.at was.all.items rises stands)
    ∙ without_process p was.all.items in
    let home : Every (λ m. m.process ≡ p → m.contract ≡ id) was.all.items =
    subst (λ (n : ℕ). Every (λ m. m.process ≡ p → m.contract ≡ n) was.all.items)
    (sym (c.get-in-Ok.ensures.value ∙ ap (λ (m : Member). m.contract) c.remove-member.ensures.value))
    (one_home p c.in-Ok.at was.all.items c.remove-member.result rises stands) in
    let grouped : c.take_home.new.grouped.items ≡ by_key.without by_home (id, p) was.grouped.items =
    c.take_home.ensures
    ∙ ap (λ (n : ℕ). by_key.without by_home (id, n) was.grouped.items) c.get-in-Ok-2.ensures.value in
    subst (λ (ms : List Member). AreGrouped ms c.take_home.new.grouped.items was.last) (sym all)
    (subst (λ (gs : List Member). AreGrouped (without p was.all.items) gs was.last) (sym grouped)
    (grouped_without id p was.all.items was.grouped.items was.last home c.self.invariant))

pub returns-in_default-clause-members : goal.returns-in_default-clause-members
returns-in_default-clause-members c =
    let was = c.self.inside in
    let p : ℕ = c.args.process in
    let rises : Rises by_process was.all.items =
    rises_from (λ (m : Member). m.process) 0 was.all.items was.last c.self.invariant.ascends in
    let belongs : BelongsAt by_process p c.in_default.field-0 was.all.items =
    rw (c.deref.ensures.value, c.get.ensures.value) at c.in_default.ensures.absent in
    let stays : was.all.items ≡ without p was.all.items =
    sym (without_before by_process p c.in_default.field-0 was.all.items rises belongs)
    ∙ without_process p was.all.items in
    subst (λ (h : Memberships). h.members ≡ without p h.members) c.self.view_is stays
