-- A command that made a revision changed something.
use Rattle.std.proofs.Common.{◌≡◌, ◌<◌, ℕ, List, [], ◌∷◌, length, ap, arith}
use Rattle.smf_model.specs.declared.change.Change.{Change}
use Rattle.smf_model.specs.Contents.{Holdings}
use Rattle.smf_model.specs.Journals.{IsRevised}
use Rattle.smf_model.specs.Look.{holdings_after_changes}

same_revision : (n m : ℕ) → m ≡ n → n < m → ⊥
same_revision n m e l = omega arith

-- a value that is as before made no revision
pub unrevised : (h k : Holdings) → k ≡ h → IsRevised h k → ⊥
unrevised h k e l = same_revision h.revision k.revision (ap (λ (x : Holdings). x.revision) e) l

-- a command that made a revision has changes
pub revised_some : (h k : Holdings) (cs : List Change) → k ≡ holdings_after_changes h cs → IsRevised h k → 0 < length cs
unfolding holdings_after_changes
revised_some h k [] e l = absurd (unrevised h k e l)
revised_some h k (c ∷ cs) e l = omega arith
