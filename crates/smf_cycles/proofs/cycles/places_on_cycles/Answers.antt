use Rattle.std.proofs.Common.{ℕ, ◌+◌, length, ap, sym, ◌∙◌, arith}
use Rattle.std.proofs.lemmas.List.{length_push}
use Rattle.smf_cycles.specs.Paths.{IsOnCycle}
use Rattle.smf_cycles.proofs.Edgeless.{none_on_cycle}
use Rattle.smf_cycles.proofs.Flags.{flags_more}
use Rattle.smf_cycles.proofs.cycles.places_on_cycles.Goals as goal

pub loop-place-preserved : goal.loop-place-preserved
loop-place-preserved c =
    let before = c.loop-place.invariant in record {
      as_long = ap length c.in_ok-push.ensures.items ∙ length_push c.loop-place.flags.items c.in_ok-flag.flag
          ∙ ap (λ (n : ℕ). n + 1) before.as_long;
      exact = rw c.in_ok-push.ensures.items
          (flags_more (λ (a : ℕ). IsOnCycle c.args.edges.now a) c.loop-place.flags.items c.in_ok-flag.flag
          c.loop-place.place before.as_long before.exact c.in_ok-flag.ensures);
    }

pub returns-clause-exact : goal.returns-clause-exact
returns-clause-exact c = λ a low. c.loop-place.invariant.exact a (omega arith)

pub returns-then-all_lead_nowhere-clause-exact : goal.returns-then-all_lead_nowhere-clause-exact
returns-then-all_lead_nowhere-clause-exact c = λ a low.
    none_on_cycle c.args.edges.now c.in_ok-none.none.items (length c.args.edges.now)
    (sym c.all_lead_nowhere.ensures ∙ c.if-all_lead_nowhere.true) c.in_ok-none.ensures a
