use Rattle.std.proofs.Common.{◌≡◌, ◌+◌, ◌-◌, ◌<◌, ◌≤◌, ℕ, length, get_or, refl, ap, arith}
use Rattle.smf_contract.specs.declared.event.ContractEvent.{ContractEvent}
use Rattle.smf_contract.proofs.Trails.{IsBack, back_at, begins, place_found, place_further}
use Rattle.smf_contract.proofs.past.place_back.Goals as goal

pub loop-at-init : goal.loop-at-init
loop-at-init c =
    let begun = begins c.args.contract c.args.events.now c.args.last c.requires.last in
    record { within = begun.within; fixed = begun.fixed; count = omega (arith, begun.count, c.requires.to) }

pub returns-then-get-number : goal.returns-then-get-number
returns-then-get-number c =
    let e : ContractEvent = c.index-events-at.result in
    let m : ℕ = c.loop-at.at - 1 in
    let n : ℕ = get_or c.args.before.now m 0 in
    let within : m < length c.args.events.now = omega (arith, c.loop-at-test.true, c.loop-at.invariant.within) in
    let one : c.loop-at.at ≡ m + 1 = omega (arith, c.loop-at-test.true) in
    let known : IsBack c.args.contract c.args.events.now m e n =
    back_at c.args.contract c.args.events.now c.args.before.now c.loop-at.at m n e c.requires.tied within one
    c.loop-at.invariant.fixed c.index-events-at.is refl in
    let here : e.number ≡ (get_or c.args.events.now m e).number =
    ap (λ (x : ContractEvent). x.number) c.index-events-at.is in
    let high : e.number ≤ c.args.number = omega (arith, here, c.get.ensures.value, c.if-get-number.true) in
    record {
      exact = place_found c.args.contract c.args.number c.args.events.now c.loop-at.at m n e
          c.requires.tied.numbered within one c.loop-at.invariant.count known c.index-events-at.is high;
    }

pub loop-at-smaller : goal.loop-at-smaller
loop-at-smaller c =
    let e : ContractEvent = c.index-events-at.result in
    let m : ℕ = c.loop-at.at - 1 in
    let n : ℕ = get_or c.args.before.now m 0 in
    let within : m < length c.args.events.now = omega (arith, c.loop-at-test.true, c.loop-at.invariant.within) in
    let one : c.loop-at.at ≡ m + 1 = omega (arith, c.loop-at-test.true) in
    let known : IsBack c.args.contract c.args.events.now m e n =
    back_at c.args.contract c.args.events.now c.args.before.now c.loop-at.at m n e c.requires.tied within one
    c.loop-at.invariant.fixed c.index-events-at.is refl in
    omega (arith, known.below, c.loop-at-test.true)

pub loop-at-preserved : goal.loop-at-preserved
loop-at-preserved c =
    let e : ContractEvent = c.index-events-at.result in
    let m : ℕ = c.loop-at.at - 1 in
    let n : ℕ = get_or c.args.before.now m 0 in
    let within : m < length c.args.events.now = omega (arith, c.loop-at-test.true, c.loop-at.invariant.within) in
    let one : c.loop-at.at ≡ m + 1 = omega (arith, c.loop-at-test.true) in
    let known : IsBack c.args.contract c.args.events.now m e n =
    back_at c.args.contract c.args.events.now c.args.before.now c.loop-at.at m n e c.requires.tied within one
    c.loop-at.invariant.fixed c.index-events-at.is refl in
    let here : e.number ≡ (get_or c.args.events.now m e).number =
    ap (λ (x : ContractEvent). x.number) c.index-events-at.is in
    let low : c.args.number < e.number = omega (arith, here, c.get.ensures.value, c.if-get-number.false) in
    record {
      within = omega (arith, known.below, within);
      fixed = known.fixed;
      count = place_further c.args.contract c.args.number c.args.events.now m n e c.requires.tied.numbered within
          known c.index-events-at.is low;
    }
