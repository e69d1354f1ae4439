use Rattle.std.proofs.Common.{◌≤◌, ap, drop, length, length-take-le, sym, ◌∙◌, arith}
use Rattle.smf_lines.specs.Lines.{held_by, taken_by}
use Rattle.smf_lines.proofs.Parts.{part_fits, takes_front}
use Rattle.smf_lines.proofs.reader.RefSliceU8LineReader.take_part.Goals as goal

pub slice_bounds-keep-end : goal.slice_bounds-keep-end
slice_bounds-keep-end c =
    let fits : held_by c.part_of-part.result ≤ length c.args.self.now.now =
    rw c.part_of-part.ensures.exact (part_fits c.args.room c.args.self.now.now).0 in
    sym (length-take-le c.bytes_of_line.result c.args.self.now.now (omega arith))

pub behind-requires : goal.behind-requires
behind-requires c =
    let fits : taken_by c.part_of-part.result ≤ length c.args.self.now.now =
    rw c.part_of-part.ensures.exact (part_fits c.args.room c.args.self.now.now).1 in
    omega arith

pub returns-clause-exact : goal.returns-clause-exact
returns-clause-exact c =
    takes_front _ _ _ _ _ _ _ c.part_of-part.ensures.exact c.bytes_of_line.ensures
    (c.behind.ensures ∙ ap (λ n. drop n c.args.self.now.now) c.bytes_with_end.ensures) c.in_ok-keep.ensures.ok
