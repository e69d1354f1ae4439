use Rattle.smf_contract.specs.Entries.{empty}
use Rattle.smf_contract.proofs.Begun.{found_next}
use Rattle.smf_contract.proofs.table.ContractTable.found.Goals as goal

pub loop-one-preserved : goal.loop-one-preserved
loop-one-preserved c =
    let next = found_next c.args.holder c.loop-one.table.table c.put_found.new.self.table empty c.args.found.now
    c.loop-one.one-index c.args.last c.one-item.result c.one-item.is c.loop-one-test.true
    c.in_ok-put_found.ensures.put c.loop-one.invariant.later c.loop-one.invariant.all in
    record { later = next.0; all = next.1 }
