use Rattle.std.proofs.Common.{sym, ◌∙◌}
use Rattle.smf_script.proofs.Replies.{asked_by, refused_by}
use Rattle.smf_script.proofs.actions.join.Goals as goal

pub returns-in-One-clause-exact : goal.returns-in-One-clause-exact
returns-in-One-clause-exact g c =
    asked_by g.K.Kids.skills _ _ _ _ _ _ _
    _ _ (sym c.in-One.is ∙ c.in_ok-instance.ensures) c.wait.ensures.exact

pub returns-in-NoMatch-clause-exact : goal.returns-in-NoMatch-clause-exact
returns-in-NoMatch-clause-exact g c =
    asked_by g.K.Kids.skills _ _ _ _ _ _ _
    _ _ (sym c.in-NoMatch.is ∙ c.in_ok-instance.ensures)
    (refused_by _ _ _ _ _ _ c.refuse_word.ensures.flag c.refuse_word.ensures.put)

pub returns-in-Several-clause-exact : goal.returns-in-Several-clause-exact
returns-in-Several-clause-exact g c =
    asked_by g.K.Kids.skills _ _ _ _ _ _ _
    _ _ (sym c.in-Several.is ∙ c.in_ok-instance.ensures)
    (refused_by _ _ _ _ _ _ c.refuse_several.ensures.flag c.refuse_several.ensures.put)
