use Rattle.std.proofs.Common.{rules, string_bytes}
use Rattle.smf_sweep.proofs.Given.{gives_listed, if_err_given, on_ok_given}
use Rattle.smf_sweep.proofs.lister.Lister.start_by.Goals as goal

pub returns-clause-started : goal.returns-clause-started
returns-clause-started g c =
    on_ok_given c.start-2.result (gives_listed g.T.Starter.gives c.args.self.now.place
    (string_bytes c.args.self.now.boot) _ c.in_ok-program.program c.args.system.now c.start-2.new.self (search rules)
    c.in_ok-program.ensures c.start-2.ensures)

pub returns-clause-refused : goal.returns-clause-refused
returns-clause-refused g c =
    if_err_given c.start-2.result _ (gives_listed g.T.Starter.gives c.args.self.now.place
    (string_bytes c.args.self.now.boot) _ c.in_ok-program.program c.args.system.now c.start-2.new.self (search rules)
    c.in_ok-program.ensures c.start-2.ensures)
