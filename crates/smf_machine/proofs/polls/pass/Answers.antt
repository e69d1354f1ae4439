use Rattle.std.proofs.Common.{refl, ap, ◌∙◌}
use Rattle.smf_contract.specs.Called.{table_after_contract_call}
use Rattle.smf_machine.proofs.ProcessEvents.{passed}
use Rattle.smf_machine.proofs.polls.pass.Goals as goal
use Rattle.smf_machine.specs.Children.{emptied_one}

pub returns : goal.returns
returns c =
    λ h. passed h c.args.parts.now _ c.args.process c.args.what _ c.requires.ordered
    (c.call.ensures ∙ ap (table_after_contract_call c.args.parts.now.table.table) c.process_call.ensures)
    (c.contract_left_empty-id.ensures ∙ ap (emptied_one c.call.new.self.table.members) c.home-home.ensures)
    c.show.ensures refl refl refl refl refl
