-- The values that a crash leaves after edits that were given in turn.
use Rattle.std.proofs.Common.{◌≡◌, ◌⊎◌, List, [], ◌∷◌, Option, Some, inl, inr, refl, ap, subst}
use Rattle.smf_model.specs.declared.command.Command.TheVariants as commands
use Rattle.smf_model.specs.Contents.{Holdings}
use Rattle.smf_model.specs.Journals.{IsRevised}
use Rattle.smf_model.specs.Next.{next}
use Rattle.smf_model.specs.Whole.{Whole}
use Rattle.smf_model.specs.Clients.{AreGiven, Given, IsEdited, IsGiven, IsMadeByFirst, LeavesFirstOf, LeavesThisOrLater, held_behind, held_behind_all}

-- one edit more in front
made_behind : (g : Given) (gs : List Given) (h h' value : Holdings) → h' ≡ held_behind g.edit g.end h
    → IsMadeByFirst gs h' value → IsMadeByFirst (g ∷ gs) h value
made_behind g gs h h' value left m =
    record {
      first = g ∷ m.first;
      last = m.last;
      behind = m.behind;
      whole = ap (λ xs. g ∷ xs) m.whole;
      made = subst (λ k. value ≡ (next (held_behind_all m.first k) (commands.Edit m.last.edit)).0) left m.made;
    }

pub leaves_first : {J : Type 0} (is_clean is_sound : J → Type 0) (stands : J → Holdings → Type 0)
    (could : J → Option Holdings → Type 0) (before after : Whole J) (all : List Given)
    → AreGiven (λ r. r.held) (λ old edit end new. IsEdited is_clean is_sound stands could old edit new) before all
    after → LeavesFirstOf could before all after
leaves_first is_clean is_sound stands could before after [] same found may =
    inl (subst (λ r. could r.journal found) same may)
leaves_first is_clean is_sound stands could before after (g ∷ gs) (middle, is, on) found may =
    by (leaves_first is_clean is_sound stands could middle after gs on found may)
  where
    at_once : could before.journal found ⊎ (found ≡ Some (next before.held (commands.Edit g.edit)).0)
        → could before.journal found
        ⊎ ((value : Holdings) × (found ≡ Some value) × IsMadeByFirst (g ∷ gs) before.held value)
    at_once (inl old) = inl old
    at_once (inr new) =
        inr (
          (next before.held (commands.Edit g.edit)).0,
          new,
          record { first = []; last = g; behind = gs; whole = refl; made = refl },
        )

    once : could middle.journal found → could before.journal found
        ⊎ ((value : Holdings) × (found ≡ Some value) × IsMadeByFirst (g ∷ gs) before.held value)
    once left = at_once (is.behind.crash found left)

    by : could middle.journal found ⊎ ((value : Holdings) × (found ≡ Some value) × IsMadeByFirst gs middle.held value)
        → could before.journal found
        ⊎ ((value : Holdings) × (found ≡ Some value) × IsMadeByFirst (g ∷ gs) before.held value)
    by (inl left) = once left
    by (inr (value, is_value, made)) =
        inr (value, is_value, made_behind g gs before.held middle.held value is.left made)

-- the disk was clean before, if it is after
clean_before : {J : Type 0} (is_clean is_sound : J → Type 0) (stands : J → Holdings → Type 0)
    (could : J → Option Holdings → Type 0) (before after : Whole J) (all : List Given)
    → AreGiven (λ r. r.held) (λ old edit end new. IsEdited is_clean is_sound stands could old edit new) before all
    after → is_clean after.journal → is_clean before.journal
clean_before is_clean is_sound stands could before after [] same clean = subst (λ r. is_clean r.journal) same clean
clean_before is_clean is_sound stands could before after (g ∷ gs) (middle, is, on) clean =
    is.behind.trusted (clean_before is_clean is_sound stands could middle after gs on clean)

pub leaves_accepted : {J : Type 0} (is_clean is_sound : J → Type 0) (stands : J → Holdings → Type 0)
    (could : J → Option Holdings → Type 0) (before middle after : Whole J) (g : Given) (all : List Given)
    → IsGiven (λ r. r.held) (λ old edit end new. IsEdited is_clean is_sound stands could old edit new) before g middle
    → IsRevised before.held middle.held
    → AreGiven (λ r. r.held) (λ old edit end new. IsEdited is_clean is_sound stands could old edit new) middle all
    after → is_clean after.journal → LeavesThisOrLater could middle.held all after
leaves_accepted is_clean is_sound stands could before middle after g all is revised on clean found may =
    by (leaves_first is_clean is_sound stands could middle after all on found may)
  where
    sound : is_sound middle.journal
    sound = is.behind.sound revised (clean_before is_clean is_sound stands could middle after all on clean)

    by : could middle.journal found ⊎ ((value : Holdings) × (found ≡ Some value) × IsMadeByFirst all middle.held value)
        → (found ≡ Some middle.held) ⊎ ((value : Holdings) × (found ≡ Some value) × IsMadeByFirst all middle.held value)
    by (inl left) = inl (is.behind.settled sound found left)
    by (inr later) = inr later
