use Rattle.std.proofs.Common.{◌+◌, ◌*◌, ◌≤◌, ℕ, List, length, refl, sym, subst}
use Rattle.std.specs.Vec.{vec_capacity}
use Rattle.smf_links.specs.declared.link.GraphNode.{GraphNode}
use Rattle.smf_links.specs.Stamps.{IsKept, total}
use Rattle.smf_links.proofs.Relinks.{kept_on, tallied_on}
use Rattle.smf_links.proofs.TallyUpdates.{tallied_same}
use Rattle.smf_links.proofs.kept.KeptVerdicts.relink.Goals as goal

pub invariant_of-self : goal.invariant_of-self
invariant_of-self c =
    let P : List GraphNode → Type 0 =
    λ l. length l + 1 + 3 * total c.self.inside.citing.items ≤ vec_capacity c.self.inside.work
    → length l + 1 + 3 * total c.prepare_all.new.citing.items ≤ vec_capacity c.prepare_all.new.work in (
      kept_on c.self.inside.nodes.items c.self.inside.stamps.items c.self.inside.citing.items
          c.prepare_all.new.citing.items c.self.inside.next (vec_capacity c.self.inside.work)
          (vec_capacity c.prepare_all.new.work) c.in_err-all.ensures.citing
          (subst P c.as_slice.ensures.value c.in_err-all.ensures.space) c.self.invariant.0,
      c.self.invariant.1,
      tallied_on c.self.inside.nodes.items c.self.inside.stamps.items c.self.inside.entries.items
          c.prepare_all.new.entries.items c.self.inside.tallies.items c.in_err-all.ensures.entries c.self.invariant.2,
      c.in_err-all.ensures.note_count,
    )

pub relink_all-self-inside-requires-clause-kept : goal.relink_all-self-inside-requires-clause-kept
relink_all-self-inside-requires-clause-kept c =
    let P : List GraphNode → Type 0 =
    λ l. length l + 1 + 3 * total c.self.inside.citing.items ≤ vec_capacity c.self.inside.work
    → length l + 1 + 3 * total c.prepare_all.new.citing.items ≤ vec_capacity c.prepare_all.new.work in
    let F : List ℕ → Type 0 =
    λ l. IsKept c.self.inside.nodes.items l c.as_slice-3.result.now c.self.inside.next
    (vec_capacity c.prepare_all.new.work) in
    let G : List (List ℕ) → Type 0 =
    λ l. IsKept c.self.inside.nodes.items c.self.inside.stamps.items l c.self.inside.next
    (vec_capacity c.prepare_all.new.work) in
    subst F (sym c.as_mut_slice-2.ensures.value)
    (subst G (sym c.as_slice-3.ensures.value)
    (kept_on c.self.inside.nodes.items c.self.inside.stamps.items c.self.inside.citing.items
    c.prepare_all.new.citing.items c.self.inside.next (vec_capacity c.self.inside.work)
    (vec_capacity c.prepare_all.new.work) c.in_ok-all.ensures.citing
    (subst P c.as_slice.ensures.value c.in_ok-all.ensures.space) c.self.invariant.0))

pub relink_all-self-inside-requires-clause-tallied : goal.relink_all-self-inside-requires-clause-tallied
relink_all-self-inside-requires-clause-tallied c =
    tallied_same c.self.inside.nodes.items c.self.inside.nodes.items c.self.inside.stamps.items
    c.as_mut_slice-2.result.now c.prepare_all.new.entries.items c.as_slice-4.result.now
    c.self.inside.tallies.items c.as_mut_slice.result.now refl (sym c.as_mut_slice-2.ensures.value)
    (sym c.as_slice-4.ensures.value) (sym c.as_mut_slice.ensures.value)
    (tallied_on c.self.inside.nodes.items c.self.inside.stamps.items c.self.inside.entries.items
    c.prepare_all.new.entries.items c.self.inside.tallies.items c.in_ok-all.ensures.entries c.self.invariant.2)
