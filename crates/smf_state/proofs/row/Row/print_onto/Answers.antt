use Rattle.smf_state.proofs.Spelled.{parts_printed, on_ok}
use Rattle.smf_state.proofs.row.Row.print_onto.Goals as goal

pub returns-clause-text : goal.returns-clause-text
returns-clause-text c =
    on_ok c.print_third.result
    (λ third. parts_printed c.args.self.now _ _ _ _ _ _ c.in_ok-print_first.ensures.text
    c.in_ok-push_str.ensures.bytes c.in_ok-print_second.ensures.text c.in_ok-push_str-2.ensures.bytes third)
    c.print_third.ensures.text
