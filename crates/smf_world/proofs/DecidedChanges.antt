-- Changes that the repository sent lead from the view of one value of the history to that of another.
use Rattle.std.proofs.Common.{◌≡◌, ◌⊎◌, ℕ, ◌+◌, ◌-◌, ◌≤◌, ◌==◌, ◌&&◌, ◌||◌, nat_lt, not, Bool, true, false, cond, if◌then◌else◌, List, [], ◌∷◌, ◌++◌, length, Option, Some, None, inl, inr, refl, sym, ap, ◌∙◌, subst, arith, eqb-true, ltb-false}
use Rattle.std.specs.Prelude.{min}
use Rattle.std.proofs.lemmas.Bool.Decides.{nat_tests}
use Rattle.smf_state.specs.declared.view.ChangedItem.{ChangedItem}
use Rattle.smf_state.specs.declared.view.View.{View}
use Rattle.smf_state.specs.Patched.{view_after_changes}
use Rattle.smf_model.specs.declared.command.Command.{Command}
use Rattle.smf_model.specs.History.{History, holdings_after_commands, value_at}
use Rattle.smf_model.specs.Contents.{Holdings}
use Rattle.smf_model.specs.Laws.{IsNumbered}
use Rattle.smf_model.specs.Shown.{view}
use Rattle.smf_model.proofs.LawEvents.{numbered_made}
use Rattle.smf_model.proofs.LawOutcomes.{one_revision}
use Rattle.smf_changes.specs.Changes.{changes_since, is_beyond, most_recent, recent}
use Rattle.smf_changes.proofs.Patches.{first_least, kept_lists, view_patched}
use Rattle.smf_engine.specs.Orders.{with_changes}
use Rattle.smf_wire.specs.declared.message.ViewChanges.{ViewChanges}
use Rattle.smf_world.specs.Happens.{with_patches}
use Rattle.smf_world.proofs.DecidedClauses.{AreChangesIn, IsViewIn, ViewSeen}
use Rattle.smf_world.proofs.DecidedHistory.{Grew, newest_value}
use Rattle.smf_world.proofs.LiveLists.{Each}

pub changes_later : (y z : History) → Grew y z → (c : ViewChanges) → AreChangesIn y c → AreChangesIn z c
changes_later y z g c a =
    record {
      before = a.before;
      before_is = g c.from a.before a.before_is;
      after = a.after;
      after_is = g c.to a.after a.after_is;
      numbered = a.numbered;
      leads = a.leads;
    }

-- ---- a view with the changes

one_value : (h k : Holdings) → Some h ≡ Some k → h ≡ k
one_value h k e = cc

patched_in : (y : History) (v : View) (c : ViewChanges) → IsViewIn y v → AreChangesIn y c → v.revision ≡ c.from
    → IsViewIn y (view_after_changes v c.to c.items)
unfolding view_after_changes
patched_in y v c is a e =
    let same : is.value ≡ a.before =
    one_value is.value a.before (sym is.value_is ∙ (ap (value_at y) e ∙ a.before_is)) in
    let from : v ≡ view a.before = is.shown ∙ ap view same in
    record {
      value = a.after;
      value_is = a.after_is;
      numbered = a.numbered;
      shown = ap (λ (u : View). view_after_changes u c.to c.items) from ∙ a.leads;
    }

changed_seen : (y : History) (o : Option View) (c : ViewChanges) → ViewSeen y o → AreChangesIn y c
    → ViewSeen y (with_changes o c)
changed_seen y None c s a = tt
changed_seen y (Some v) c s a = by (v.revision == c.from) refl (not (nat_lt c.to c.from))
  where
    by : (b : Bool) → (v.revision == c.from) ≡ b → (d : Bool)
        → ViewSeen y (if b && d then Some (view_after_changes v c.to c.items) else Some v)
    by true e true = patched_in y v c s a (eqb-true v.revision c.from e)
    by true e false = s
    by false e d = s

pub patches_seen : (y : History) (o : Option View) (cs : List ViewChanges) → ViewSeen y o → Each (AreChangesIn y) cs
    → ViewSeen y (with_patches o cs)
patches_seen y o [] s a = s
patches_seen y o (c ∷ cs) s a = patches_seen y (with_changes o c) cs (changed_seen y o c s a.0) a.1

-- ---- what the repository answers

abbrev at : Holdings → List Command → ℕ → Option Holdings
at h cs n = value_at (record { first = h; past = cs }) n

-- the commands up to a revision, and those since
record IsSplit (h : Holdings) (cs : List Command) (n : ℕ) : Type 0 where
  since : List Command
  until : List Command
  all : cs ≡ since ++ until
  revision : (holdings_after_commands h until).revision ≡ n
  found : at h cs n ≡ Some (holdings_after_commands h until)

below_next : (n m k : ℕ) → n ≤ k → (k ≡ n → ⊥) → k ≡ m + 1 → n ≤ m
below_next n m k low other e = omega arith

not_this : (k n : ℕ) → (k == n) ≡ false → k ≡ n → ⊥
not_this k n e f = grind (arith, nat_tests)

split : (h : Holdings) (cs : List Command) (n : ℕ) → h.revision ≤ n → n ≤ (holdings_after_commands h cs).revision
    → IsSplit h cs n
split h [] n low high =
    let e : h.revision ≡ n = omega arith in
    record {
      since = [];
      until = [];
      all = refl;
      revision = e;
      found = subst (λ (m : ℕ). at h [] m ≡ Some h) e (newest_value (record { first = h; past = [] }) h refl);
    }
split h (c ∷ cs) n low high = by ((holdings_after_commands h (c ∷ cs)).revision == n) refl (split h cs n low)
  where
    k : Holdings
    k = holdings_after_commands h (c ∷ cs)

    within : (k ≡ holdings_after_commands h cs) ⊎ (k.revision ≡ (holdings_after_commands h cs).revision + 1)
        → (k.revision ≡ n → ⊥) → n ≤ (holdings_after_commands h cs).revision
    within (inl e) other = subst (λ (x : Holdings). n ≤ x.revision) e high
    within (inr e) other = below_next n (holdings_after_commands h cs).revision k.revision high other e

    by : (b : Bool) → (k.revision == n) ≡ b → (n ≤ (holdings_after_commands h cs).revision → IsSplit h cs n)
        → IsSplit h (c ∷ cs) n
    by true e before =
        record {
          since = [];
          until = c ∷ cs;
          all = refl;
          revision = eqb-true k.revision n e;
          found = ap (λ (b : Bool). cond b (Some k) (at h cs n)) e;
        }
    by false e before =
        let s : IsSplit h cs n =
        before (within (one_revision (holdings_after_commands h cs) c) (not_this k.revision n e)) in
        record {
          since = c ∷ s.since;
          until = s.until;
          all = ap (λ (l : List Command). c ∷ l) s.all;
          revision = s.revision;
          found = ap (λ (b : Bool). cond b (Some k) (at h cs n)) e ∙ s.found;
        }

no_more : (a b : Bool) → (a || b) ≡ false → (a ≡ false) × (b ≡ false)
no_more true b e = absurd cc
no_more false b e = (refl, e)

not_before : (l n k from : ℕ) → n ≤ k → l ≡ min most_recent (k - n) → (nat_lt k from || nat_lt l (k - from)) ≡ false
    → (n ≤ from) × (from ≤ k)
not_before l n k from low e f =
    let up : from ≤ k = ltb-false k from (no_more (nat_lt k from) (nat_lt l (k - from)) f).0 in
    let far : k - from ≤ l = ltb-false l (k - from) (no_more (nat_lt k from) (nat_lt l (k - from)) f).1 in
    (omega arith, up)

-- changes are given since a revision of the history alone
within_record : (h : Holdings) (cs : List Command) (from : ℕ) (c : ℕ × List ChangedItem)
    → changes_since (recent h cs) (holdings_after_commands h cs) from ≡ Some c
    → (h.revision ≤ from) × (from ≤ (holdings_after_commands h cs).revision)
unfolding changes_since
within_record h cs from c e = by (is_beyond (recent h cs) (holdings_after_commands h cs) from) refl _ e
  where
    by : (b : Bool) → is_beyond (recent h cs) (holdings_after_commands h cs) from ≡ b → (x : ℕ × List ChangedItem)
        → (if b then None else Some x) ≡ Some c → (h.revision ≤ from) × (from ≤ (holdings_after_commands h cs).revision)
    by true f x g = absurd cc
    by false f x g =
        not_before (length (recent h cs)) h.revision (holdings_after_commands h cs).revision from (first_least h cs)
        (kept_lists h cs) f

-- the changes since a revision lead from the view of its value to that of the newest
pub since_in : (y : History) (h : Holdings) (from : ℕ) (c : ℕ × List ChangedItem) → IsNumbered y.first
    → h ≡ holdings_after_commands y.first y.past
    → changes_since (recent y.first y.past) h from ≡ Some c
    → AreChangesIn y (record { from = from; to = c.0; items = c.1 })
since_in y h from c numbered newest e =
    let x : changes_since (recent y.first y.past) (holdings_after_commands y.first y.past) from ≡ Some c =
    ap (λ (k : Holdings). changes_since (recent y.first y.past) k from) (sym newest) ∙ e in
    let range = within_record y.first y.past from c x in
    let s : IsSplit y.first y.past from = split y.first y.past from range.0 range.1 in
    let old : Holdings = holdings_after_commands y.first s.until in
    let P : List Command → ℕ → Type 0 =
    λ l n. changes_since (recent y.first l) (holdings_after_commands y.first l) n ≡ Some c in
    let z : changes_since (recent y.first (s.since ++ s.until))
    (holdings_after_commands y.first (s.since ++ s.until)) old.revision ≡ Some c
    = subst (P (s.since ++ s.until)) (sym s.revision) (subst (λ (l : List Command). P l from) s.all x) in
    let law = view_patched y.first s.until s.since c.0 c.1 numbered z in
    let new : Holdings = holdings_after_commands y.first y.past in
    let same : holdings_after_commands y.first (s.since ++ s.until) ≡ new =
    ap (holdings_after_commands y.first) (sym s.all) in
    record {
      before = old;
      before_is = s.found;
      after = new;
      after_is =
          ap (value_at y) (law.0 ∙ ap (λ (k : Holdings). k.revision) same) ∙ newest_value y new refl;
      numbered = numbered_made y.first y.past numbered;
      leads = law.1 ∙ ap view same;
    }
