use Rattle.std.proofs.Common.{◌≡◌, ◌≤◌, [], take, length, length-take-le, refl, sym, ap, subst, ◌∙◌, arith}
use Rattle.std.specs.Io.BufRead.{FillKeeps}
use Rattle.std.specs.Io.KnownBytes.{Consumes}
use Rattle.std.proofs.BufReadLemmas.{Consumes_shown}
use Rattle.smf_lines.specs.Lines.{Took, held_by, part_of, taken_by}
use Rattle.smf_lines.proofs.Parts.{kept_all, part_fits, takes}
use Rattle.smf_lines.proofs.reader.take_from.Goals as goal

pub returns-then-eq-clause-exact : goal.returns-then-eq-clause-exact
returns-then-eq-clause-exact g c =
    record { bytes = []; took = (refl, c.fill_buf.follows.holds-at-none.0); keeps = kept_all _ c.requires }

pub slice_bounds-keep-end : goal.slice_bounds-keep-end
slice_bounds-keep-end g c =
    let fits : held_by c.part_of-part.result ≤ length c.in-Ok.shown.now =
    rw c.part_of-part.ensures.exact (part_fits c.args.room c.in-Ok.shown.now).0 in
    sym (length-take-le c.bytes_of_line.result c.in-Ok.shown.now (omega arith))

pub returns-clause-within : goal.returns-clause-within
returns-clause-within g c = rw c.part_of-part.ensures.exact (part_fits c.args.room c.in-Ok.shown.now).2

pub returns-clause-exact : goal.returns-clause-exact
returns-clause-exact g c =
    let shown = c.in-Ok.shown.now in
    let part = c.part_of-part.result in
    let rested = c.fill_buf.follows.lender-at-none in
    let filled = subst (FillKeeps _ (g.R.Read.remaining rested) (g.R.BufRead.consumable_len rested)) c.in-Ok.is
    c.fill_buf.follows.holds-at-none in
    let fits : taken_by part ≤ length shown = rw c.part_of-part.ensures.exact (part_fits c.args.room shown).1 in
    let within : c.bytes_with_end.result ≤ length shown = omega arith in
    let moved = Consumes_shown _ _ _ _ shown c.bytes_with_end.result within c.in-Ok.ensures.front c.in-Ok.ensures.end
    filled.0 filled.1 c.consume.ensures.bytes in
    let old = g.R.Read.remaining c.args.reader.now in
    let new = g.R.Read.remaining c.consume.new.self in
    let is : c.bytes_with_end.result ≡ taken_by (part_of c.args.room shown) =
    c.bytes_with_end.ensures ∙ ap taken_by c.part_of-part.ensures.exact in
    let has : c.bytes_of_line.result ≡ held_by (part_of c.args.room shown) =
    c.bytes_of_line.ensures ∙ ap held_by c.part_of-part.ensures.exact in
    let took : Took (part_of c.args.room shown) (take (held_by (part_of c.args.room shown)) shown) c.args.room old new =
    (takes c.args.room shown old new c.in-Ok.ensures.front c.in-Ok.ensures.end).3
    (subst (λ n. Consumes old new (take n shown)) is moved.0) in
    record {
      bytes = take c.bytes_of_line.result shown;
      took = rw (c.part_of-part.ensures.exact, has) took;
      keeps = c.in_ok-keep.ensures.ok;
    }
