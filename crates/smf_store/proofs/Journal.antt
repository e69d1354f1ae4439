-- The promises of the journal.
use Rattle.std.proofs.Common.{◌≡◌, ◌⊎◌, inl, inr, List, Option, Some, sym, subst, arith}
use Rattle.sqlite.specs.State.{State, HasCleanDisk, Survives}
use Rattle.smf_model.specs.declared.change.Change.{Change}
use Rattle.smf_model.specs.Contents.{Holdings}
use Rattle.smf_model.specs.Laws.{IsNumbered}
use Rattle.smf_model.specs.Look.{holdings_after_changes}
use Rattle.smf_store.specs.Holds.{Stands, IsSound, Keeps, Could}
use Rattle.smf_store.specs.Steps.{MayCommit, Wrote, Kept}
use Rattle.smf_store.specs.Unique.{leaves_one}
use Rattle.smf_store.proofs.Six.{holds_own}

pub write_keeps : (changes : List Change) (old new : State) → Wrote changes old new
    → (HasCleanDisk new → HasCleanDisk old) → (h : Holdings) → IsNumbered (holdings_after_changes h changes)
    → (IsSound old → Keeps old h) → IsSound new
    → Keeps new (holdings_after_changes h changes)
write_keeps changes old new w clean h numbered keeps sound =
    record {
      stands = record {
        holds = holds_own new.now (holdings_after_changes h changes)
            (w.made old.now.schema h
            (keeps (record { clean = clean sound.clean; is_open = w.was_open })).stands.holds);
        numbered = numbered;
      };
      settled = w.settled;
    }

pub fail_keeps : (old new : State) → Kept old new → (HasCleanDisk new → HasCleanDisk old) → (h : Holdings)
    → (IsSound old → Keeps old h) → IsSound new → Keeps new h
fail_keeps old new w clean h keeps sound =
    let k = keeps (record { clean = clean sound.clean; is_open = w.was_open sound.is_open }) in
    let same = w.same sound.is_open k.settled in
    record { stands = subst (λ d. Stands d h) (sym same.0) k.stands; settled = same.1 }

pub crash_leaves : (changes : List Change) (old new : State) → Survives old new (MayCommit changes old)
    → (h : Holdings) → IsNumbered (holdings_after_changes h changes) → (IsSound old → Keeps old h)
    → (found : Option Holdings) → Could new found
    → Could old found ⊎ (found ≡ Some (holdings_after_changes h changes))
crash_leaves changes old new s h numbered keeps found may =
    let clean : HasCleanDisk old = omega (arith, s.clean, may.0) in
    elim (s.crash may.0 may.1 may.2) [
      | inl before ↦ inl (clean, may.1, before, may.3)
      | inr made ↦ inr
          (leaves_one made.1 may.1 (holdings_after_changes h changes) found
          (record {
            holds = holds_own made.1 (holdings_after_changes h changes)
                (made.2 old.now.schema h (keeps (record { clean = clean; is_open = made.0 })).stands.holds);
            numbered = numbered;
          }) made.3 may.3)
    ]
