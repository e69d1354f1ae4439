use Rattle.std.proofs.Common.{◌≡◌, ◌∙◌, ◌∷◌, ◌+◌, List, Bool, false, drop, refl, sym, ap}
use Rattle.std.specs.List.{list_any}
use Rattle.smf_value.proofs.EditLoops.{left_at}
use Rattle.smf_model.specs.Look.{bare}
use Rattle.smf_model.specs.Next.{is_instance_of}
use Rattle.smf_model.proofs.boot_changes.has_instance.Goals as goal

passed_over : {X : Type 0} (p : X → Bool) (x : X) (xs : List X) → p x ≡ false → list_any p (x ∷ xs) ≡ list_any p xs
passed_over p x xs e = rw e refl

pub loop-entry-preserved : goal.loop-entry-preserved
loop-entry-preserved c =
    let i = c.loop-entry.entry-index in
    let x = c.entry-item.result in
    let p = is_instance_of c.args.service.now in
    let e : p x.instance ≡ false = sym c.in_ok-is_one.ensures ∙ c.if-is_one.false in
    let left = left_at c.args.entries.now i x c.loop-entry-test.true c.entry-item.is in
    sym (passed_over p x.instance (bare (drop (i + 1) c.args.entries.now)) e)
    ∙ sym (ap (λ l. list_any p (bare l)) left) ∙ c.loop-entry.invariant
