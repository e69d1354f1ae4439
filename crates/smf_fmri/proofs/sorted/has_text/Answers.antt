use Rattle.std.specs.Cmp.Lexicographic.{texts_ties}
use Rattle.smf_fmri.proofs.sorted.has_text.Goals as goal

pub returns : goal.returns
returns g c = rw (c.eq.ensures, c.key_text.ensures) (texts_ties (g.T.TextKeyed.text c.args.item.now) c.args.text.now)
