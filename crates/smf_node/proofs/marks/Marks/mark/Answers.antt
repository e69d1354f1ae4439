use Rattle.smf_node.proofs.EventMarks.{boot_marked, delivery_marked}
use Rattle.smf_node.proofs.marks.Marks.mark.Goals as goal

pub returns-in-Deliver : goal.returns-in-Deliver
returns-in-Deliver c =
    λ w. delivery_marked _ _ _ _ _ _ c.in-Deliver.is (c.deliver.ensures w c.args.is_heard c.args.is_new)

pub returns-then-is_new : goal.returns-then-is_new
returns-then-is_new c = λ w. boot_marked _ _ _ _ _ c.in-Boot.is c.if-is_new.true (c.boot.ensures w)
