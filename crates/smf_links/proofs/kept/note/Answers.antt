use Rattle.std.proofs.Common.{ℕ, ◌++◌, List, subst, arith}
use Rattle.smf_links.specs.Blockage.{IsOut}
use Rattle.smf_links.proofs.Work.{out_left, out_right}
use Rattle.smf_links.proofs.kept.note.Goals as goal

pub returns-clause-noted : goal.returns-clause-noted
returns-clause-noted c = λ a out low.
    let P : List ℕ → Type 0 = IsOut a in
    let both : IsOut a (c.args.touched.now.items ++ c.args.work.now) = subst P c.add.ensures.items out in (
      out_left a c.args.touched.now.items c.args.work.now both,
      out_right a c.args.touched.now.items c.args.work.now both,
    )

pub returns-then-len-work-clause-noted : goal.returns-then-len-work-clause-noted
returns-then-len-work-clause-noted c = λ a out low. let le = c.add_all.ensures.each a out in absurd (omega arith)
