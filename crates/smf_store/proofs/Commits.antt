-- How the changes of a write add up.
use Rattle.std.proofs.Common.{◌≡◌, ◌<◌, List, [], ◌∷◌, length, IsTrue, refl, sym, ap, subst, ◌∙◌, false, arith}
use Rattle.sqlite.specs.Schema.{Schema}
use Rattle.sqlite.specs.Tree.{Trees}
use Rattle.sqlite.specs.State.{State, Shows}
use Rattle.smf_model.specs.declared.change.Change.{Change}
use Rattle.smf_model.specs.Contents.{Holdings}
use Rattle.smf_model.specs.Look.{holdings_after_change, holdings_after_changes}
use Rattle.smf_store.specs.Holds.{HoldsUnder}
use Rattle.smf_store.specs.Steps.{Makes, Reached, Wrote, MayCommit}

pub reached_none : (whole : List Change) (s : State) → IsTrue s.in_transaction → Reached whole whole s s
reached_none whole s on =
    record {
      inside = on;
      kept = record { was_open = λ o. o; committed = λ _. refl };
      live = λ less. absurd (omega (arith, less));
      made = λ schema h st. (h, st, refl);
    }

pub reached_more : (rest whole : List Change) (c : Change) (more : List Change) (a b d : State)
    → Reached rest whole a b → rest ≡ c ∷ more → Makes c b d → Reached more whole a d
unfolding holdings_after_changes
reached_more rest whole c more a b d r is m = record {
  inside = m.shows.mode;
  kept = record {
    was_open = λ _. r.kept.was_open m.shows.was_open;
    committed = λ _. m.shows.committed_is ∙ r.kept.committed m.shows.was_open;
  };
  live = λ _. m.shows.is_open;
  made = λ schema h st. let it = r.made schema h st in
      (holdings_after_change it.0 c, m.made schema it.0 it.1, sym (ap (holdings_after_changes it.0) is) ∙ it.2);
}

reached_made : (whole : List Change) (a b : State) → Reached [] whole a b → (schema : Schema) (h : Holdings)
    → HoldsUnder schema a.now h → HoldsUnder schema b.now (holdings_after_changes h whole)
unfolding holdings_after_changes
reached_made whole a b r schema h st = let it = r.made schema h st in subst (HoldsUnder schema b.now) it.2 it.1

module _ (changes : List Change) (some : 0 < length changes) (old begun last : State) (now : begun.now ≡ old.now) (live : begun.is_open ≡ old.is_open) where
  pub wrote : (end : State) → Reached [] changes begun last → Shows last end last.now last.now false
      → Wrote changes old end
  wrote end r s = record {
    was_open = subst IsTrue live (r.kept.was_open (r.live some));
    is_open = s.is_open;
    made = λ schema h st. subst (λ d. HoldsUnder schema d (holdings_after_changes h changes)) (sym s.now_is)
        (reached_made changes begun last r schema h (subst (λ d. HoldsUnder schema d h) (sym now) st));
    settled = s.committed_is ∙ sym s.now_is;
  }

  pub may_commit : (db : Trees) → Reached [] changes begun last → db ≡ last.now.trees → MayCommit changes old db
  may_commit db r is = (
    subst IsTrue live (r.kept.was_open (r.live some)),
    last.now,
    (λ schema h st. reached_made changes begun last r schema h (subst (λ d. HoldsUnder schema d h) (sym now) st)),
    is,
  )
