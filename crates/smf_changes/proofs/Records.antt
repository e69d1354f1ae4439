-- The record that a commit keeps gives the list of all that the commit touched, and the view.
use Rattle.std.proofs.Common.{◌≡◌, ℕ, zero, suc, ◌+◌, ◌-◌, ◌≤◌, ◌<◌, Bool, true, false, if◌then◌else◌, List, [], ◌∷◌, length, map, filter, take, Option, Some, None, option_map, IsTrue, refl, sym, ap, ◌∙◌, subst, arith}
use Rattle.std.specs.Prelude.{Result, Ok, Err, OnOk, OnErr}
use Rattle.std.proofs.lemmas.List.{length-take, length-take-le}
use Rattle.smf_fmri.specs.ByKey.{Rises, put_all}
use Rattle.smf_state.specs.declared.view.ChangedItem.{ChangedItem}
use Rattle.smf_state.specs.declared.view.View.{View}
use Rattle.smf_state.specs.Patched.{view_after_changes}
use Rattle.smf_model.specs.declared.change.Change.{Change}
use Rattle.smf_model.specs.Contents.{Holdings}
use Rattle.smf_model.specs.Laws.{IsNumbered}
use Rattle.smf_model.specs.Look.{by_instance, holdings_after_changes, instances}
use Rattle.smf_model.proofs.Entries.{rises_bare}
use Rattle.smf_changes.specs.declared.change_record.Kept.{Kept}
use Rattle.smf_changes.specs.declared.row_owners.Owners.{Owners}
use Rattle.smf_changes.specs.Candidates.{candidates, touched_among}
use Rattle.smf_changes.specs.Changes.{as_it_is, by_itself, has_changed, most_recent, together, touched_numbers}
use Rattle.smf_changes.specs.ChangeRecord.{AreUpTo, IsKept, lists_of, put_by_all}
use Rattle.smf_changes.specs.Owned.{AreTold}
use Rattle.smf_changes.specs.Recorded.{IsShown, differs, newest, next_lists, old_items, touched_by, with_stale}
use Rattle.smf_changes.proofs.Merges.{take_kept, untouched, view_from}
use Rattle.smf_changes.proofs.SnapshotBounds.{changes_keep}
use Rattle.smf_changes.proofs.Touches.{touched_found}

-- ---- lists together

few_taken : (count : ℕ) (nss : List (List ℕ)) → count ≤ length (take most_recent nss) → count ≤ most_recent
few_taken count nss low = let e = length-take most_recent nss in omega arith

pub newest_taken : (count : ℕ) (ns : List ℕ) (nss : List (List ℕ)) → 0 < count
    → count ≤ length (take most_recent (ns ∷ nss))
    → put_all by_itself ns (together (take (count - 1) nss)) ≡ together (take count (take most_recent (ns ∷ nss)))
newest_taken zero ns nss some low = absurd (omega arith)
newest_taken (suc j) ns nss some low =
    let less : suc j - 1 ≡ j = omega arith in
    ap (λ (m : ℕ). put_all by_itself ns (together (take m nss))) less
    ∙ sym (ap together (take_kept (suc j) most_recent (ns ∷ nss) (few_taken (suc j) (ns ∷ nss) low)))

pub enough : (count : ℕ) (ns : List ℕ) (nss : List (List ℕ)) → count ≤ length (take most_recent (ns ∷ nss))
    → count - 1 ≡ length (take (count - 1) nss)
enough count ns nss low =
    let e = length-take most_recent (ns ∷ nss) in
    let within : count - 1 ≤ length nss = omega arith in
    sym (length-take-le (count - 1) nss within)

-- ---- what is touched

touched_is : (h k : Holdings) (ns : List ℕ) → touched_by k (map (as_it_is h) ns) ≡ filter (has_changed h k) ns
touched_is h k [] = refl
touched_is h k (n ∷ ns) = by (has_changed h k n) (touched_is h k ns)
  where
    number : ChangedItem → ℕ
    number c = c.instance

    by : (b : Bool) → touched_by k (map (as_it_is h) ns) ≡ filter (has_changed h k) ns
        → map number (if b then as_it_is h n ∷ filter (differs k) (map (as_it_is h) ns)
        else filter (differs k) (map (as_it_is h) ns))
        ≡ (if b then n ∷ filter (has_changed h k) ns else filter (has_changed h k) ns)
    by true ih = ap (λ (l : List ℕ). n ∷ l) ih
    by false ih = ih

-- the old items of all candidates tell what changes touched
pub touched_then : (h : Holdings) (cs : List Change) → IsNumbered h
    → touched_by (holdings_after_changes h cs) (old_items h cs) ≡ touched_numbers h (holdings_after_changes h cs)
unfolding old_items touched_among
touched_then h cs numbered = touched_is h (holdings_after_changes h cs) (put_all by_itself (candidates h cs) [])
    ∙ sym (touched_found h cs numbered)

-- ---- the lists after a commit

next_made : (h : Holdings) (cs : List Change) (nss : List (List ℕ)) → (cs ≡ [] → ⊥)
    → take most_recent (touched_numbers h (holdings_after_changes h cs) ∷ nss) ≡ next_lists h cs nss
next_made h [] nss some = absurd (some refl)
next_made h (c ∷ cs) nss some = refl

-- the record of changes that were just made
abbrev pub with_olds : Kept → List ChangedItem → ℕ → Kept
with_olds k olds top = record k { stale = Some olds; greatest_running = top }

pub lists_then : (k : Kept) (h u : Holdings) (cs : List Change) (olds : List ChangedItem) (top : ℕ) → IsNumbered h
    → (cs ≡ [] → ⊥) → u ≡ holdings_after_changes h cs → olds ≡ old_items h cs → k.stale ≡ None
    → lists_of (with_olds k olds top) u ≡ next_lists h cs (lists_of k h)
lists_then k h u cs olds top numbered some made same settled =
    (λ j. take most_recent (touched_by (made j) (same j) ∷ k.recent.items))
    ∙ ap (λ (ns : List ℕ). take most_recent (ns ∷ k.recent.items)) (touched_then h cs numbered)
    ∙ next_made h cs k.recent.items some
    ∙ ap (λ (o : Option (List ChangedItem)). next_lists h cs (with_stale (newest h o) k.recent.items)) (sym settled)

shown_then : (shown : Option View) (h : Holdings) (cs : List Change) → IsNumbered h
    → Rises by_instance (instances (holdings_after_changes h cs)) → IsShown shown None h
    → IsShown shown (Some (touched_numbers h (holdings_after_changes h cs))) (holdings_after_changes h cs)
shown_then None h cs numbered rises s = tt
shown_then (Some v) h cs numbered rises s =
    let u : Holdings = holdings_after_changes h cs in
    ap (λ (w : View). view_after_changes w u.revision (map (as_it_is u) (touched_numbers h u))) s
    ∙ view_from h u (touched_numbers h u) (rises_bare h.instances numbered.ordered.instances) rises
    (λ n none. untouched h u n rises none)

runs_then : (most top : ℕ) (h u : Holdings) (cs : List Change) → top ≡ put_by_all most cs
    → u ≡ holdings_after_changes h cs → AreUpTo most h.instances → AreUpTo top u.instances
runs_then most top h u cs is made runs =
    let P : Holdings → Type 0 = λ w. AreUpTo (put_by_all most cs) w.instances in
    subst (λ (n : ℕ). AreUpTo n u.instances) (sym is) (subst P (sym made) (changes_keep most h cs runs))

pub kept_then : (k : Kept) (h u : Holdings) (cs : List Change) (olds : List ChangedItem) (top : ℕ)
    → top ≡ put_by_all k.greatest_running cs → AreTold k.owners (holdings_after_changes h cs).instances → IsNumbered h
    → IsNumbered (holdings_after_changes h cs) → u ≡ holdings_after_changes h cs → olds ≡ old_items h cs
    → k.stale ≡ None
    → IsKept k h → IsKept (with_olds k olds top) u
kept_then k h u cs olds top most told numbered after made same settled kept =
    let before : IsShown k.shown None h =
    subst (λ (o : Option (List ChangedItem)). IsShown k.shown (newest h o) h) settled kept.shown in
    let rises : Rises by_instance (instances (holdings_after_changes h cs)) =
    rises_bare (holdings_after_changes h cs).instances after.ordered.instances in
    let later : IsShown k.shown (Some (touched_numbers h (holdings_after_changes h cs)))
    (holdings_after_changes h cs) = shown_then k.shown h cs numbered rises before in
    let P : Holdings → Type 0 = λ w. IsShown k.shown (Some (touched_numbers h (holdings_after_changes h cs))) w in
    record {
      few = kept.few;
      shown = subst (λ (ns : List ℕ). IsShown k.shown (Some ns) u)
          (sym ((λ j. touched_by (made j) (same j)) ∙ touched_then h cs numbered)) (subst P (sym made) later);
      runs = runs_then k.greatest_running top h u cs most made kept.runs;
      told = subst (λ (w : Holdings). AreTold k.owners w.instances) (sym made) told;
    }

-- ---- no changes

-- a list that is told not to be empty has an item
pub not_empty : (cs : List Change) (b : Bool) → (cs ≡ [] → IsTrue b) → b ≡ false → cs ≡ [] → ⊥
not_empty cs b tells is none = clash b (tells none) is
  where
    clash : (t : Bool) → IsTrue t → t ≡ false → ⊥
    clash t e f = cc

pub nothing_made : {X E : Type 0} (h u : Holdings) (cs : List Change) → cs ≡ [] → (r : Result X E)
    → OnOk r (u ≡ holdings_after_changes h cs) → OnErr r (u ≡ h) → u ≡ h
unfolding holdings_after_changes
nothing_made h u cs none (Ok x) made left = made ∙ ap (holdings_after_changes h) none
nothing_made h u cs none (Err e) made left = left

pub nothing_recorded : {X E : Type 0} (k : Kept) (h u : Holdings) (cs : List Change) → cs ≡ [] → (r : Result X E)
    → u ≡ h → OnOk r (lists_of k u ≡ next_lists h cs (lists_of k h))
nothing_recorded k h u cs none (Err e) same = tt
nothing_recorded k h u cs none (Ok x) same = ap (lists_of k) same
    ∙ sym (ap (λ (l : List Change). next_lists h l (lists_of k h)) none)

-- ---- what is settled

pub kept_as : (k l : Kept) (h : Holdings) → l.recent.items ≡ k.recent.items → l.stale ≡ k.stale → l.shown ≡ k.shown
    → l.greatest_running ≡ k.greatest_running → l.owners ≡ k.owners → IsKept k h → IsKept l h
kept_as k l h lists stale shown most owners kept =
    let S : List (List ℕ) → Type 0 = λ nss. length nss ≤ most_recent in
    let P : Option View → Type 0 = λ v. IsShown v (newest h k.stale) h in
    record {
      few = subst S (sym lists) kept.few;
      shown = subst (λ (o : Option (List ChangedItem)). IsShown l.shown (newest h o) h) (sym stale)
          (subst P (sym shown) kept.shown);
      runs = subst (λ (n : ℕ). AreUpTo n h.instances) (sym most) kept.runs;
      told = subst (λ (o : Owners). AreTold o h.instances) (sym owners) kept.told;
    }

pub lists_as : (k l : Kept) (h : Holdings) → l.recent.items ≡ k.recent.items → l.stale ≡ k.stale
    → lists_of l h ≡ lists_of k h
lists_as k l h lists stale = λ j. with_stale (newest h (stale j)) (lists j)

settled_shown : (shown : Option View) (ns : List ℕ) (h : Holdings) → IsShown shown (Some ns) h
    → IsShown (option_map (λ v. view_after_changes v h.revision (map (as_it_is h) ns)) shown) None h
settled_shown None ns h s = tt
settled_shown (Some v) ns h s = s

pub one_more : (ns : List ℕ) (nss : List (List ℕ)) → length nss < most_recent
    → length nss + 1 ≡ length (take most_recent (ns ∷ nss))
one_more ns nss low = let e = length-take most_recent (ns ∷ nss) in omega arith

pub as_many : (ns : List ℕ) (nss : List (List ℕ)) → most_recent ≤ length nss
    → most_recent ≡ length (take most_recent (ns ∷ nss))
as_many ns nss high = let e = length-take most_recent (ns ∷ nss) in omega arith

no_more : (nss : List (List ℕ)) → length (take most_recent nss) ≤ most_recent
no_more nss = let e = length-take most_recent nss in omega arith

pub kept_settled : (k l : Kept) (h : Holdings) (olds : List ChangedItem) → k.stale ≡ Some olds → l.stale ≡ None
    → l.recent.items ≡ take most_recent (touched_by h olds ∷ k.recent.items)
    → l.shown ≡ option_map (λ v. view_after_changes v h.revision (map (as_it_is h) (touched_by h olds))) k.shown
    → l.greatest_running ≡ k.greatest_running → l.owners ≡ k.owners → IsKept k h → IsKept l h
kept_settled k l h olds was none lists shown most owners kept =
    let S : List (List ℕ) → Type 0 = λ nss. length nss ≤ most_recent in
    let before : IsShown k.shown (Some (touched_by h olds)) h =
    subst (λ (o : Option (List ChangedItem)). IsShown k.shown (newest h o) h) was kept.shown in
    let P : Option View → Type 0 = λ v. IsShown v None h in
    record {
      few = subst S (sym lists) (no_more (touched_by h olds ∷ k.recent.items));
      shown = subst (λ (o : Option (List ChangedItem)). IsShown l.shown (newest h o) h) (sym none)
          (subst P (sym shown) (settled_shown k.shown (touched_by h olds) h before));
      runs = subst (λ (n : ℕ). AreUpTo n h.instances) (sym most) kept.runs;
      told = subst (λ (o : Owners). AreTold o h.instances) (sym owners) kept.told;
    }

pub lists_settled : (k l : Kept) (h : Holdings) (olds : List ChangedItem) → k.stale ≡ Some olds → l.stale ≡ None
    → l.recent.items ≡ take most_recent (touched_by h olds ∷ k.recent.items) → lists_of l h ≡ lists_of k h
lists_settled k l h olds was none lists =
    ap (λ (o : Option (List ChangedItem)). with_stale (newest h o) l.recent.items) none ∙ lists
    ∙ ap (λ (o : Option (List ChangedItem)). with_stale (newest h o) k.recent.items) (sym was)
