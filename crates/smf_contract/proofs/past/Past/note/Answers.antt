use Rattle.std.proofs.Common.{◌≡◌, ◌+◌, ◌∷◌, ◌++◌, [], List, ℕ, length, sym, ap, subst, ◌∙◌, arith}
use Rattle.std.specs.Prelude.{nat_le, vec_len}
use Rattle.smf_contract.specs.declared.event.ContractEvent.{ContractEvent}
use Rattle.smf_contract.specs.declared.past.Last.{Last}
use Rattle.smf_contract.specs.Entries.{last_event}
use Rattle.smf_contract.specs.Trail.{AreTraced, Happenings, until}
use Rattle.smf_contract.proofs.Trails.{number_made, traced_noted}
use Rattle.smf_contract.proofs.past.Past.note.Goals as goal

pub invariant_of-self : goal.invariant_of-self
invariant_of-self c =
    let es : List ContractEvent = c.self.inside.events.items in
    let id : ℕ = c.get-id.result in
    let place : ℕ = c.last-last.result.until in
    let event : ContractEvent =
    record {
      contract = c.args.contract;
      number = c.unwrap-number.result;
      kind = c.args.kind;
      left = c.args.left;
    } in
    let noted : Last = record { contract = id; count = c.last_event-count.result + 1; until = c.len-until.result } in
    let same : id ≡ c.args.contract = c.get-id.ensures.value in
    let count : c.last_event-count.result ≡ last_event c.args.contract es =
    c.last_event-count.ensures.exact
    ∙ ap (λ (h : Happenings). last_event c.args.contract h.events) (sym c.self.view_is) in
    let number : c.unwrap-number.result ≡ c.last_event-count.result + 1 =
    number_made (nat_le (c.last_event-count.result + 1) 0x7fff_ffff_ffff_ffff)
    (c.last_event-count.result + 1) c.unwrap-number.result (sym c.new.ensures ∙ c.unwrap-number.ensures) in
    let tie : place ≡ until c.args.contract es =
    c.last-last.ensures.until ∙ ap (λ (h : Happenings). until id h.events) (sym c.self.view_is)
    ∙ ap (λ (n : ℕ). until n es) same in
    let pushed : c.push.new.self.items ≡ es ++ event ∷ [] = rw c.unwrap.ensures at c.push.ensures.items in
    let tied : c.push-2.new.self.items ≡ c.self.inside.before.items ++ place ∷ [] =
    rw c.unwrap-2.ensures at c.push-2.ensures.items in
    let long : vec_len c.push.new.self ≡ vec_len c.self.inside.events + 1 = rw c.unwrap.ensures at c.push.ensures.len in
    let last : noted.until ≡ length es + 1 = omega (arith, c.len-until.ensures, long, c.self.inside.events.ok.0) in
    subst (λ (ys : List ContractEvent). AreTraced ys c.push-2.new.self.items c.put_last.new.lasts.items) (sym pushed)
    (subst (λ (bs : List ℕ). AreTraced (es ++ event ∷ []) bs c.put_last.new.lasts.items) (sym tied)
    (subst (λ (ls : List Last). AreTraced (es ++ event ∷ []) (c.self.inside.before.items ++ place ∷ []) ls)
    (sym c.put_last.ensures.put)
    (traced_noted es c.self.inside.before.items c.self.inside.lasts.items event place noted c.self.invariant tie
    (number ∙ ap (λ (n : ℕ). n + 1) count) (sym same)
    (ap (λ (n : ℕ). n + 1) (count ∙ ap (λ (n : ℕ). last_event n es) (sym same))) last)))
