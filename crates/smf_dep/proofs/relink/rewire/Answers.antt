use Rattle.std.proofs.Common.{◌≡◌, ◌<◌, List, ℕ, ap, length, map, subst, sym, ◌∙◌, arith}
use Rattle.std.proofs.lemmas.List.{length-map}
use Rattle.smf_links.specs.declared.link.GraphNode.{GraphNode}
use Rattle.smf_links.specs.declared.link.Relink.{Relink}
use Rattle.smf_links.specs.Relinks.{AreWithin}
use Rattle.smf_dep.specs.Places.{edges_by, edges_in, flag_at, flags_after}
use Rattle.smf_dep.proofs.Relinked.{edges_after, leaves_others}
use Rattle.smf_dep.proofs.relink.rewire.Goals as goal

pub turn_of-requires-clause-within : goal.turn_of-requires-clause-within
turn_of-requires-clause-within c =
    let size : length c.args.kept.now ≡ length c.args.cycles.now.edges.items =
    sym (ap length c.requires.edged ∙ length-map c.args.kept.now (λ (n : GraphNode). edges_in n.links)) in
    let P : ℕ → Type 0 = λ n. AreWithin n c.args.relinks.items in
    let Q : List Relink → Type 0 = AreWithin (length c.args.cycles.now.edges.items) in
    subst Q (sym c.as_slice.ensures.value) (subst P size c.requires.within)

pub returns-clause-edged : goal.returns-clause-edged
returns-clause-edged c =
    edges_after c.args.kept.now c.relink.new.self c.args.relinks.items c.in_ok-turn.turn.edges.items
    c.args.cycles.now.edges.items c.install.new.self.edges.items c.requires.edged
    (c.in_ok-turn.ensures.edges ∙ ap (map edges_by) c.as_slice.ensures.value) c.install.ensures.edges
    c.in_ok-relink.ensures.set

pub returns-clause-others : goal.returns-clause-others
returns-clause-others c =
    let size : length c.args.kept.now ≡ length c.args.cycles.now.edges.items =
    sym (ap length c.requires.edged ∙ length-map c.args.kept.now (λ (n : GraphNode). edges_in n.links)) in
    leaves_others c.args.kept.now c.relink.new.self c.args.relinks.items c.args.cycles.now.flags.items
    c.install.new.self.flags.items c.put_turned.new.touched.items c.relink.new.touched.items
    c.in_ok-relink.ensures.reaches
    (λ a out less.
    let counted = c.len-count.ensures in
    let within : a < c.len-count.result = omega (arith, counted, size, less) in
    ap (λ l. flag_at l a) c.install.ensures.flags
    ∙ sym (ap (λ l. flag_at (flags_after l c.in_ok-turn.turn.flags) a) c.as_slice-2.ensures.value)
    ∙ c.put_turned.ensures.stays a out within
    ∙ ap (λ l. flag_at l a) c.as_slice-2.ensures.value)
