-- A boot that is refused for want of a number, without the changes that it would make.
use Rattle.std.proofs.Common.{◌≡◌, ◌∙◌, ◌+◌, ◌++◌, ℕ, [], ◌∷◌, Bool, true, false, ◌||◌, if◌then◌else◌, Option, Some, None, refl, sym, ap}
use Rattle.std.specs.Prelude.{is_none, nat_lt}
use Rattle.smf_model.specs.declared.change.Change.TheVariants.{SetRevision}
use Rattle.smf_model.specs.declared.command.Command.TheVariants as commands
use Rattle.smf_model.specs.declared.command.CommandReply.TheVariants.{Done, Limit}
use Rattle.smf_model.specs.Contents.{Holdings}
use Rattle.smf_model.specs.Next.{Asked, outcome_of_command, asked_boot, changes_for_boot, greatest, may_not_boot, refusal_with}
use Rattle.smf_node.specs.Faults.{is_limit, is_past_limit}

abbrev pub made : Holdings → Asked
made h = record { changes = changes_for_boot h ++ SetRevision (h.revision + 1) ∷ []; reply = Done }

abbrev pub next_one : ℕ → Option ℕ
next_one n = if nat_lt n greatest then Some (n + 1) else None

past_boot : (h : Holdings) → (may_not_boot h || is_none (next_one h.revision)) ≡ is_past_limit h commands.Boot
unfolding outcome_of_command asked_boot
past_boot h = by (may_not_boot h) (nat_lt h.revision greatest)
  where
    by : (a b : Bool) → (a || is_none (if b then Some (h.revision + 1) else None))
        ≡ is_limit (if a then refusal_with Limit else if b then made h else refusal_with Limit).reply
    by true b = refl
    by false true = refl
    by false false = refl

or_true : (a : Bool) → (a || true) ≡ true
or_true true = refl
or_true false = refl

or_false : (a : Bool) → (a || false) ≡ a
or_false true = refl
or_false false = refl

-- no revision is left
pub past_none : (h : Holdings) (o : Option ℕ) → o ≡ next_one h.revision → o ≡ None
    → true ≡ is_past_limit h commands.Boot
past_none h o e f =
    sym (ap (λ x. may_not_boot h || is_none x) (sym e ∙ f) ∙ or_true (may_not_boot h)) ∙ past_boot h

-- one is left
pub past_some : (h : Holdings) (o : Option ℕ) (n : ℕ) (b : Bool) → o ≡ next_one h.revision → o ≡ Some n
    → b ≡ may_not_boot h → b ≡ is_past_limit h commands.Boot
past_some h o n b e f g =
    g ∙ sym (ap (λ x. may_not_boot h || is_none x) (sym e ∙ f) ∙ or_false (may_not_boot h)) ∙ past_boot h
