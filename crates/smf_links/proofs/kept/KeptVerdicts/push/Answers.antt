use Rattle.std.proofs.Common.{◌≡◌, ◌++◌, ◌∷◌, ◌∙◌, ℕ, [], List, ap, arith, drop, length, subst, sym, take}
use Rattle.std.specs.Vec.{vec_capacity}
use Rattle.smf_links.specs.declared.link.Link.{Link}
use Rattle.smf_links.specs.declared.link.GraphNode.{GraphNode}
use Rattle.smf_links.specs.Stamps.{AreFree, Avoid, IsKept, IsTouched, Notes, total}
use Rattle.smf_links.proofs.Arrivals.{arrival_touched, met_stays, prepared_kept, prepared_tallied, total_last}
use Rattle.smf_links.proofs.TallyUpdates.{taken, tallied_same}
use Rattle.smf_links.proofs.kept.KeptVerdicts.push.Goals as goal

pub invariant_of-self : goal.invariant_of-self
invariant_of-self c = (
  prepared_kept c.self.inside.nodes.items c.prepare_arrival.new.nodes.items c.self.inside.stamps.items
      c.prepare_arrival.new.stamps.items c.self.inside.citing.items c.prepare_arrival.new.citing.items
      c.self.inside.next (vec_capacity c.self.inside.work) (vec_capacity c.prepare_arrival.new.work)
      c.in_err-own.ensures.nodes c.in_err-own.ensures.stamps c.in_err-own.ensures.citing
      c.in_err-own.ensures.space c.self.invariant.0,
  c.self.invariant.1,
  prepared_tallied c.self.inside.nodes.items c.prepare_arrival.new.nodes.items c.self.inside.stamps.items
      c.prepare_arrival.new.stamps.items c.self.inside.entries.items c.prepare_arrival.new.entries.items
      c.self.inside.tallies.items c.prepare_arrival.new.tallies.items c.in_err-own.ensures.nodes
      c.in_err-own.ensures.stamps c.in_err-own.ensures.tallies c.in_err-own.ensures.entries c.self.invariant.2,
  c.in_err-own.ensures.note_count,
)

pub add_node-requires-clause-tallied : goal.add_node-requires-clause-tallied
add_node-requires-clause-tallied c =
    prepared_tallied c.self.inside.nodes.items c.prepare_arrival.new.nodes.items c.self.inside.stamps.items
    c.prepare_arrival.new.stamps.items c.self.inside.entries.items c.prepare_arrival.new.entries.items
    c.self.inside.tallies.items c.prepare_arrival.new.tallies.items c.in_ok-own.ensures.nodes
    c.in_ok-own.ensures.stamps c.in_ok-own.ensures.tallies c.in_ok-own.ensures.entries c.self.invariant.2

pub settle_touched-self-inside-requires-clause-touched : goal.settle_touched-self-inside-requires-clause-touched
settle_touched-self-inside-requires-clause-touched c =
    let room = vec_capacity c.prepare_arrival.new.work in
    let place : length c.self.inside.nodes.items ≡ c.len-place.result = omega (arith, c.len-place.ensures) in
    let N : List Link → Type 0 =
    λ l. Notes (λ p. Avoid p l) (length c.self.inside.nodes.items) c.self.inside.citing.items
    c.prepare_arrival.new.citing.items in
    let F : List GraphNode → Type 0 = λ l. AreFree l c.args.node in
    let G : ℕ → Type 0 =
    λ p. IsTouched c.as_slice-2.result.now c.as_mut_slice-2.result.now c.as_slice-3.result.now c.self.inside.next
    room p in
    subst G place
    (arrival_touched c.self.inside.nodes.items c.as_slice-2.result.now c.args.node c.self.inside.stamps.items
    c.as_mut_slice-2.result.now c.self.inside.citing.items c.prepare_arrival.new.citing.items
    c.as_slice-3.result.now c.self.inside.next (vec_capacity c.self.inside.work) room
    (c.as_slice-2.ensures.value ∙ c.add_node.ensures.nodes
    ∙ ap (λ (l : List GraphNode). l ++ c.args.node ∷ []) c.in_ok-own.ensures.nodes)
    (c.as_mut_slice-2.ensures.value ∙ c.add_node.ensures.stamps
    ∙ ap (λ l. l ++ 0 ∷ []) c.in_ok-own.ensures.stamps)
    (c.as_slice-3.ensures.value ∙ c.add_node.ensures.citing) (subst F (sym c.self.view_is) c.requires.free)
    (subst N c.as_slice.ensures c.in_ok-own.ensures.notes) c.in_ok-own.ensures.room c.self.invariant.0)

pub invariant_of-self-2 : goal.invariant_of-self-2
invariant_of-self-2 c =
    let stamps : c.settle_touched-self-inside.new.stamps
    ≡ take c.add_node.new.stamps.len
    (c.settle_touched-self-inside.new.stamps
    ++ drop (length c.settle_touched-self-inside.new.stamps) c.add_node.new.stamps.items) =
    taken c.settle_touched-self-inside.new.stamps
    (drop (length c.settle_touched-self-inside.new.stamps) c.add_node.new.stamps.items) c.add_node.new.stamps.len
    (let a = c.as_mut_slice-2.ensures.len in let b = c.settle_touched-self-inside.auto.stamps in
    let d = ap length c.as_mut_slice-2.ensures.value in omega arith) in
    let cap = vec_capacity c.settle_touched-self-inside.new.work in
    let next = c.settle_touched-self-inside.result in
    let F : List GraphNode → Type 0 =
    λ l. IsKept l c.settle_touched-self-inside.new.stamps c.as_slice-3.result.now next cap in
    let G : List (List ℕ) → Type 0 =
    λ l. IsKept c.add_node.new.nodes.items c.settle_touched-self-inside.new.stamps l next cap in
    let H : List ℕ → Type 0 =
    λ l. IsKept c.add_node.new.nodes.items l c.add_node.new.citing.items next cap in (
      subst H stamps
          (subst G c.as_slice-3.ensures.value
          (subst F c.as_slice-2.ensures.value c.settle_touched-self-inside.ensures.kept)),
      c.settle_touched-self-inside.ensures.next,
      tallied_same c.as_slice-2.result.now c.add_node.new.nodes.items c.settle_touched-self-inside.new.stamps _
          c.as_slice-4.result.now c.add_node.new.entries.items c.settle_touched-self-inside.new.tallies _
          c.as_slice-2.ensures.value stamps c.as_slice-4.ensures.value
          (taken c.settle_touched-self-inside.new.tallies _ c.add_node.new.tallies.len
          (let a = c.as_mut_slice.ensures.len in let b = c.settle_touched-self-inside.auto.tallies in
          let d = ap length c.as_mut_slice.ensures.value in omega arith))
          c.settle_touched-self-inside.ensures.tallied,
      (let count = c.in_ok-own.ensures.note_count in let e = ap total c.add_node.ensures.citing in
          let same = total_last c.prepare_arrival.new.citing.items in omega arith),
    )

pub returns-clause-met : goal.returns-clause-met
returns-clause-met c =
    met_stays c.args.self.now c.add_node.new.nodes.items c.args.node
    (c.add_node.ensures.nodes
    ∙ ap (λ (l : List GraphNode). l ++ c.args.node ∷ []) (c.in_ok-own.ensures.nodes ∙ c.self.view_is))
    c.requires.free
