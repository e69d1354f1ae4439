use Rattle.std.proofs.Common.{◌≡◌, ◌+◌, ◌∷◌, List, ℕ, Ok, drop, subst}
use Rattle.smf_value.specs.Edits.{group_result, read_values}
use Rattle.smf_value.specs.ValueTexts.{read_value}
use Rattle.smf_value.proofs.EditLoops.{after, left_at, text_more, pushed_of}
use Rattle.smf_value.proofs.edits.read_values.Goals as goal

pub loop-text-preserved : goal.loop-text-preserved
loop-text-preserved c =
    let texts = c.args.texts.now in
    let i = c.loop-text.text-index in
    let text = c.text-item.result in
    let left : drop i texts ≡ text ∷ drop (i + 1) texts = left_at texts i text c.loop-text-test.true c.text-item.is in
    let P : List (List ℕ) → Type 0 = λ l. after c.loop-text.values (read_values c.args.kind l)
    ≡ read_values c.args.kind texts in
    let one : group_result (read_value c.args.kind text) ≡ Ok c.in_ok-value.value =
    rw c.as_str.ensures at c.in_ok-value.ensures.exact in
    rw c.in_ok-push.ensures.ok (record {
      read = text_more c.args.kind c.loop-text.values text (drop (i + 1) texts) c.in_ok-value.value
          (read_values c.args.kind texts) one (subst P left c.loop-text.invariant.read);
      kinds = pushed_of c.args.kind c.loop-text.values c.in_ok-value.value c.loop-text.invariant.kinds
          c.in_ok-value.ensures.kind;
    })
