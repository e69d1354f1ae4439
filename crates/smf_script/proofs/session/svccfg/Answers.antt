use Rattle.std.proofs.Common.{inl, inr}
use Rattle.smf_script.proofs.Configuration.{done_behind, later_judged, refused_behind}
use Rattle.smf_script.proofs.May.{passed_on}
use Rattle.smf_script.specs.Session.{effect_of, svccfg}
use Rattle.smf_script.proofs.session.svccfg.Goals as goal

pub returns-in_ok-push_str-in-Ok-clause-later : goal.returns-in_ok-push_str-in-Ok-clause-later
returns-in_ok-push_str-in-Ok-clause-later g c =
    later_judged _ c.args.node.now c.do_cfg_line.new.client
    (done_behind g.J.Journal.write_fails _ c.args.node.now c.do_cfg_line.new.client c.in-Ok.output
    (rw c.in-Ok.is at c.do_cfg_line.ensures.given))

pub returns-in_ok-report-in-Err-Refused-clause-later : goal.returns-in_ok-report-in-Err-Refused-clause-later
returns-in_ok-report-in-Err-Refused-clause-later g c =
    later_judged _ c.args.node.now c.do_cfg_line.new.client
    (refused_behind g.J.Journal.write_fails _ c.args.node.now c.do_cfg_line.new.client c.in-Err-Refused.reply
    (rw (c.in-Err-Refused.is, c.in-Err-Refused.field-0-is) at c.do_cfg_line.ensures.given))

pub returns-in_err-push_str-in-Ok-clause-later : goal.returns-in_err-push_str-in-Ok-clause-later
returns-in_err-push_str-in-Ok-clause-later g c =
    later_judged _ c.args.node.now c.do_cfg_line.new.client
    (done_behind g.J.Journal.write_fails _ c.args.node.now c.do_cfg_line.new.client c.in-Ok.output
    (rw c.in-Ok.is at c.do_cfg_line.ensures.given))

pub returns-in_err-report-in-Err-Refused-clause-later : goal.returns-in_err-report-in-Err-Refused-clause-later
returns-in_err-report-in-Err-Refused-clause-later g c =
    later_judged _ c.args.node.now c.do_cfg_line.new.client
    (refused_behind g.J.Journal.write_fails _ c.args.node.now c.do_cfg_line.new.client c.in-Err-Refused.reply
    (rw (c.in-Err-Refused.is, c.in-Err-Refused.field-0-is) at c.do_cfg_line.ensures.given))

pub returns-in_err-push_str-in-Ok-clause-err : goal.returns-in_err-push_str-in-Ok-clause-err
unfolding effect_of svccfg
returns-in_err-push_str-in-Ok-clause-err g c =
    passed_on _ _ _ c.from_residual.ensures.1
    (record {
      may = tt;
      left = inr (inl (done_behind g.J.Journal.write_fails _ c.args.node.now c.do_cfg_line.new.client c.in-Ok.output
          (rw c.in-Ok.is at c.do_cfg_line.ensures.given)));
    })

pub returns-in_err-report-in-Err-Refused-clause-err : goal.returns-in_err-report-in-Err-Refused-clause-err
unfolding effect_of svccfg
returns-in_err-report-in-Err-Refused-clause-err g c =
    passed_on _ _ _ c.from_residual-in_err-report-in-Err-Refused.ensures.1
    (record {
      may = tt;
      left = inr (inl (refused_behind g.J.Journal.write_fails _ c.args.node.now c.do_cfg_line.new.client
          c.in-Err-Refused.reply (rw (c.in-Err-Refused.is, c.in-Err-Refused.field-0-is) at c.do_cfg_line.ensures.given)));
    })
