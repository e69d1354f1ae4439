use Rattle.std.proofs.Common.{◌≡◌, ◌+◌, ◌-◌, ◌<◌, ◌∷◌, ◌++◌, [], ℕ, Bool, List, filter, length, get_or, reverse, take, add-one, refl, sym, ap, ◌∙◌, arith}
use Rattle.smf_contract.specs.declared.event.ContractEvent.{ContractEvent}
use Rattle.smf_contract.specs.Entries.{is_given}
use Rattle.smf_contract.proofs.Trails.{IsBack, back_at, begins, given_first, given_more, none_given, only_given}
use Rattle.smf_contract.proofs.past.given_back.Goals as goal

pub loop-at-init : goal.loop-at-init
loop-at-init c =
    let begun = begins c.args.id c.args.events.now c.args.last c.requires.last in
    let p : ContractEvent → Bool = is_given c.args.id c.args.number c.args.acknowledged in
    record {
      within = begun.within;
      fixed = begun.fixed;
      so_far = given_first (filter p (take c.args.last c.args.events.now)) c.new-found.result.items
          (filter p c.args.events.now) c.new-found.ensures.items
          (begun.kept p (only_given c.args.id c.args.number c.args.acknowledged));
    }

pub returns-then-not-is_given : goal.returns-then-not-is_given
returns-then-not-is_given c =
    let e : ContractEvent = c.index-events-at.result in
    let m : ℕ = c.loop-at.at - 1 in
    let n : ℕ = get_or c.args.before.now m 0 in
    let within : m < length c.args.events.now = omega (arith, c.loop-at-test.true, c.loop-at.invariant.within) in
    let one : c.loop-at.at ≡ m + 1 = omega (arith, c.loop-at-test.true) in
    let known : IsBack c.args.id c.args.events.now m e n =
    back_at c.args.id c.args.events.now c.args.before.now c.loop-at.at m n e c.requires.tied within one
    c.loop-at.invariant.fixed c.index-events-at.is refl in
    let none : filter (is_given c.args.id c.args.number c.args.acknowledged) (take c.loop-at.at c.args.events.now)
    ≡ [] =
    none_given c.args.id c.args.number c.args.acknowledged c.args.events.now c.loop-at.at m n e
    c.requires.tied.numbered within one known c.index-events-at.is (sym c.if-not-is_given.ensures) in
    sym (ap (λ (ys : List ContractEvent). ys ++ reverse c.loop-at.found.items) none) ∙ c.loop-at.invariant.so_far

pub loop-at-smaller : goal.loop-at-smaller
loop-at-smaller c =
    let e : ContractEvent = c.index-events-at.result in
    let m : ℕ = c.loop-at.at - 1 in
    let n : ℕ = get_or c.args.before.now m 0 in
    let within : m < length c.args.events.now = omega (arith, c.loop-at-test.true, c.loop-at.invariant.within) in
    let one : c.loop-at.at ≡ m + 1 = omega (arith, c.loop-at-test.true) in
    let known : IsBack c.args.id c.args.events.now m e n =
    back_at c.args.id c.args.events.now c.args.before.now c.loop-at.at m n e c.requires.tied within one
    c.loop-at.invariant.fixed c.index-events-at.is refl in
    omega (arith, known.below, c.loop-at-test.true)

pub loop-at-preserved : goal.loop-at-preserved
loop-at-preserved c =
    let e : ContractEvent = c.index-events-at.result in
    let m : ℕ = c.loop-at.at - 1 in
    let n : ℕ = get_or c.args.before.now m 0 in
    let es : List ContractEvent = c.args.events.now in
    let p : ContractEvent → Bool = is_given c.args.id c.args.number c.args.acknowledged in
    let within : m < length c.args.events.now = omega (arith, c.loop-at-test.true, c.loop-at.invariant.within) in
    let one : c.loop-at.at ≡ m + 1 = omega (arith, c.loop-at-test.true) in
    let known : IsBack c.args.id c.args.events.now m e n =
    back_at c.args.id c.args.events.now c.args.before.now c.loop-at.at m n e c.requires.tied within one
    c.loop-at.invariant.fixed c.index-events-at.is refl in
    let split : filter p (take c.loop-at.at es) ≡ filter p (take n es) ++ filter p (e ∷ []) =
    ap (λ (k : ℕ). filter p (take k es)) (one ∙ add-one m)
    ∙ known.kept p (only_given c.args.id c.args.number c.args.acknowledged) in
    record {
      within = omega (arith, known.below, within);
      fixed = known.fixed;
      so_far = ap (λ (ys : List ContractEvent). filter p (take n es) ++ reverse ys) c.in_ok-push.ensures.items
          ∙ given_more p (filter p (take n es)) (filter p (take c.loop-at.at es)) c.loop-at.found.items
          (filter p es) e split (sym c.if-not-is_given.ensures) c.loop-at.invariant.so_far;
    }
