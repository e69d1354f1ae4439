use Rattle.smf_script.proofs.Later.{later_again_fails, later_losing, later_refusing, later_repeat}
use Rattle.smf_script.proofs.session.run_request.Goals as goal

pub returns-in_err-again-in-Again-clause-later : goal.returns-in_err-again-in-Again-clause-later
returns-in_err-again-in-Again-clause-later g c =
    later_again_fails g.J.Journal.write_fails c.args.node.now c.again.new.self _ _ c.in_err-again-in-Again.ensures.err

pub returns-in-Refuse-clause-later : goal.returns-in-Refuse-clause-later
returns-in-Refuse-clause-later g c = later_refusing _ c.args.node.now c.refuse.new.self c.refuse.ensures

pub returns-in_ok-lose-in-Lose-clause-later : goal.returns-in_ok-lose-in-Lose-clause-later
returns-in_ok-lose-in-Lose-clause-later g c =
    later_losing _ c.args.node.now c.lose.new.self c.in_ok-lose-in-Lose.ensures.ok

pub returns-in_ok-again-in-Again-clause-later : goal.returns-in_ok-again-in-Again-clause-later
returns-in_ok-again-in-Again-clause-later g c =
    later_repeat _ c.args.node.now c.again.new.self c.in_ok-again-in-Again.ensures.ok
