use Rattle.std.proofs.Common.{ℕ, List, sym, subst, arith}
use Rattle.std.specs.Vec.{vec_capacity}
use Rattle.smf_links.specs.declared.link.GraphNode.{GraphNode}
use Rattle.smf_links.specs.Stamps.{IsTouched}
use Rattle.smf_links.proofs.FlagChanges.{flags_differ, touched}
use Rattle.smf_links.proofs.Reach.{reached}
use Rattle.smf_links.proofs.kept.KeptVerdicts.set.Goals as goal

pub settle_touched-self-inside-requires-clause-touched : goal.settle_touched-self-inside-requires-clause-touched
settle_touched-self-inside-requires-clause-touched c =
    let cap = vec_capacity c.self.inside.work in
    let F : List GraphNode → Type 0 =
    λ l. IsTouched l c.as_mut_slice-3.result.now c.as_slice-4.result.now c.self.inside.next cap c.args.place in
    let G : List ℕ → Type 0 =
    λ l. IsTouched c.change_flags.new.nodes.items l c.as_slice-4.result.now c.self.inside.next cap c.args.place in
    let H : List (List ℕ) → Type 0 =
    λ l. IsTouched c.change_flags.new.nodes.items c.self.inside.stamps.items l c.self.inside.next cap
    c.args.place in
    let I : List GraphNode → Type 0 =
    λ l. IsTouched l c.self.inside.stamps.items c.self.inside.citing.items c.self.inside.next cap c.args.place in
    subst F (sym c.as_slice-3.ensures.value)
    (subst G (sym c.as_mut_slice-3.ensures.value)
    (subst H (sym c.as_slice-4.ensures.value) (subst I (sym c.change_flags.ensures.nodes)
    (touched c.self.inside.nodes.items c.self.inside.stamps.items c.self.inside.citing.items c.self.inside.next cap
    c.args.place c.args.flags c.self.invariant.0))))

pub returns-clause-reaches : goal.returns-clause-reaches
returns-clause-reaches c =
    reached c.self.inside.nodes.items c.args.self.now c.as_slice-3.result.now c.change_flags.new.nodes.items
    c.self.inside.citing.items c.as_slice-4.result.now
    c.self.inside.stamps.items c.as_mut_slice-3.result.now c.settle_touched-self-inside.new.stamps
    c.settle_touched-self-inside.new.work.items c.as_slice-6.result.now
    c.args.touched.now.items c.note.new.touched.items c.self.inside.next c.settle_touched-self-inside.result
    (vec_capacity c.self.inside.work)
    (vec_capacity c.settle_touched-self-inside.new.work) c.args.place c.len.result c.self.view_is
    c.as_slice-3.ensures.value c.as_slice-4.ensures.value c.as_mut_slice-3.ensures.value
    c.as_slice-6.ensures.value
    (flags_differ c.self.inside.nodes.items c.change_flags.new.nodes.items c.args.place c.args.flags
    c.change_flags.ensures.nodes) c.requires.within
    (omega (arith, c.len.ensures)) c.self.invariant.0 c.settle_touched-self-inside.ensures.kept
    c.settle_touched-self-inside.ensures.touches
    c.note.ensures.noted
