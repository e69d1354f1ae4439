-- The record of the newest changes, as it is kept.
use Rattle.std.specs.Prelude.{ℕ, ◌≤◌, List, [], ◌∷◌, length, max, Option, Some, None}
use Rattle.std.specs.List.{AllByRecursion}
use Rattle.smf_laws.specs.Consistent.{IsUpTo}
use Rattle.smf_model.specs.declared.change.Change.{Change}
use Rattle.smf_model.specs.declared.change.Change.TheVariants.{AddInstance, PutInstance}
use Rattle.smf_model.specs.declared.held.InstanceEntry.{InstanceEntry}
use Rattle.smf_model.specs.Contents.{Holdings}
use Rattle.smf_changes.specs.declared.change_record.Kept.{Kept}
use Rattle.smf_changes.specs.Changes.{most_recent}
use Rattle.smf_changes.specs.Owned.{AreTold}
use Rattle.smf_changes.specs.Recorded.{IsShown, newest, with_stale}

abbrev pub lists_of : Kept → Holdings → List (List ℕ)
lists_of k h = with_stale (newest h k.stale) k.recent.items

-- ---- the snapshots that rows name as `running`

-- no row names one above a number
abbrev pub AreUpTo : ℕ → List InstanceEntry → Type 0
AreUpTo top es = AllByRecursion (λ e. IsUpTo top e.instance.row.running) es

abbrev pub greater : ℕ → Option ℕ → ℕ
greater top None = top
greater top (Some n) = max top n

-- the greatest that entries name, or that changes put
abbrev pub greatest_of : ℕ → List InstanceEntry → ℕ
greatest_of top [] = top
greatest_of top (e ∷ es) = greatest_of (greater top e.instance.row.running) es

abbrev pub put_by : ℕ → Change → ℕ
put_by top (AddInstance e) = greater top e.instance.row.running
put_by top (PutInstance i) = greater top i.row.running
put_by top _ = top

abbrev pub put_by_all : ℕ → List Change → ℕ
put_by_all top [] = top
put_by_all top (c ∷ cs) = put_by_all (put_by top c) cs

pub record IsKept (k : Kept) (h : Holdings) : Type 0 where
  pub few : length k.recent.items ≤ most_recent
  pub shown : IsShown k.shown (newest h k.stale) h
  pub runs : AreUpTo k.greatest_running h.instances
  pub told : AreTold k.owners h.instances
