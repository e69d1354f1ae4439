use Rattle.std.proofs.Common.{◌≡◌, ◌++◌, ℕ, List, ap, drop, rules, sym, take, ◌∙◌, subst, length, arith}
use Rattle.std.specs.Prelude.{slice_index}
use Rattle.std.specs.Vec.{vec_capacity}
use Rattle.smf_links.specs.declared.link.GraphNode.{GraphNode}
use Rattle.smf_links.specs.Stamps.{IsIndex, total}
use Rattle.smf_links.proofs.FlagChanges.{begin_anew}
use Rattle.smf_links.specs.declared.wires.Spot.{Spot}
use Rattle.smf_links.specs.Wires.{AreEntered, links_at}
use Rattle.smf_links.proofs.TallyUpdates.{taken, tallied_same}
use Rattle.smf_links.proofs.kept.KeptVerdicts.of.Goals as goal

pub all_tallies-requires-clause-wired : goal.all_tallies-requires-clause-wired
all_tallies-requires-clause-wired c =
    let F : List GraphNode → Type 0 = λ l. AreEntered (links_at l) (length l) c.as_slice-6.result.now in
    let G : List (List Spot) → Type 0 =
    λ l. AreEntered (links_at c.as_slice-3.result.now) (length c.as_slice-3.result.now) l in
    subst F (c.as_slice-3.ensures.value ∙ sym c.as_slice-4.ensures.value)
    (subst G (sym c.as_slice-6.ensures.value) c.in_ok-entries.ensures)

pub settle-requires-clause-tallied : goal.settle-requires-clause-tallied
settle-requires-clause-tallied c =
    tallied_same c.as_slice-4.result.now c.as_slice-7.result.now c.as_slice-5.result.now c.as_mut_slice-2.result.now
    c.as_slice-6.result.now c.as_slice-9.result.now
    c.in_ok-tallies.tallies.items c.as_mut_slice.result.now
    (c.as_slice-4.ensures.value ∙ sym c.as_slice-7.ensures.value)
    (c.as_slice-5.ensures.value ∙ sym c.as_mut_slice-2.ensures.value)
    (c.as_slice-6.ensures.value ∙ sym c.as_slice-9.ensures.value)
    (sym c.as_mut_slice.ensures.value) c.in_ok-tallies.ensures

pub settle-requires-clause-begun : goal.settle-requires-clause-begun
settle-requires-clause-begun c =
    let index : IsIndex c.as_slice-7.result.now c.as_slice-8.result.now =
    let F : List GraphNode → Type 0 = λ l. IsIndex l c.as_slice-8.result.now in let G : List (List ℕ) → Type 0 =
    λ l. IsIndex c.as_slice.result.now l in
    subst F (c.as_slice.ensures.value ∙ sym c.as_slice-7.ensures.value)
    (subst G (sym c.as_slice-8.ensures.value) c.in_ok-citing.ensures) in
    let P : List ℕ → Type 0 = λ l. (a : ℕ) → slice_index l a ≡ 0 in
    let nodes = ap length c.as_slice-7.ensures.value in
    let stamps = ap length c.as_mut_slice-2.ensures.value in
    let size = c.in_ok-stamps.ensures.size in
    let count = c.add_all.ensures.size in
    begin_anew c.as_slice-7.result.now c.as_mut_slice-2.result.now c.as_slice-8.result.now
    (vec_capacity c.add_all.new.work) c.add_all.new.work.items index
    (omega arith) (subst P (sym c.as_mut_slice-2.ensures.value) c.in_ok-stamps.ensures.none)
    (λ a out. let low = c.add_all.ensures.each a out in omega arith)
    (omega arith)
    (let t = c.in_ok-total.ensures in
    let cs = ap total (c.as_slice-8.ensures.value ∙ sym c.as_slice-2.ensures.value) in
    let r = c.in_ok-room.ensures in let e = c.in_ok-work.ensures.exact in let more = c.add_all.ensures.capacity in
    omega arith)

pub invariant_of-result : goal.invariant_of-result
invariant_of-result c =
    let stamps : c.settle.new.stamps
    ≡ take c.in_ok-stamps.stamps.len
    (c.settle.new.stamps ++ drop (length c.settle.new.stamps) c.in_ok-stamps.stamps.items) =
    taken c.settle.new.stamps (drop (length c.settle.new.stamps) c.in_ok-stamps.stamps.items) c.in_ok-stamps.stamps.len
    (let a = c.as_mut_slice-2.ensures.len in let b = c.settle.auto.stamps in
    let d = ap length c.as_mut_slice-2.ensures.value in omega arith) in
    let tallies : c.settle.new.tallies
    ≡ take c.in_ok-tallies.tallies.len
    (c.settle.new.tallies ++ drop (length c.settle.new.tallies) c.in_ok-tallies.tallies.items) =
    taken c.settle.new.tallies (drop (length c.settle.new.tallies) c.in_ok-tallies.tallies.items)
    c.in_ok-tallies.tallies.len
    (let a = c.as_mut_slice.ensures.len in let b = c.settle.auto.tallies in
    let d = ap length c.as_mut_slice.ensures.value in omega arith) in (
      search rules,
      search rules,
      tallied_same c.as_slice-7.result.now c.args.nodes.items c.settle.new.stamps
          (take c.in_ok-stamps.stamps.len
          (c.settle.new.stamps ++ drop (length c.settle.new.stamps) c.in_ok-stamps.stamps.items))
          c.as_slice-9.result.now c.in_ok-entries.entries.items c.settle.new.tallies
          (take c.in_ok-tallies.tallies.len
          (c.settle.new.tallies ++ drop (length c.settle.new.tallies) c.in_ok-tallies.tallies.items))
          c.as_slice-7.ensures.value
          stamps c.as_slice-9.ensures.value tallies c.settle.ensures.tallied,
      search rules,
    )
