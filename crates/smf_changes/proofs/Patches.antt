-- The newest lists of touched numbers name the items in which two values of a history differ.
use Rattle.std.proofs.Common.{◌≡◌, ◌⊎◌, inl, inr, ℕ, zero, suc, ◌+◌, ◌-◌, ◌≤◌, ◌<◌, ◌==◌, ◌||◌, nat_lt, not, Bool, true, false, if◌then◌else◌, List, [], ◌∷◌, ◌++◌, length, map, take, Some, None, refl, sym, ap, ◌∙◌, subst, arith, eqb-true, ltb-true, ltb-false}
use Rattle.std.specs.Prelude.{min}
use Rattle.std.proofs.lemmas.Bool.Decides.{Decides-eqb}
use Rattle.std.proofs.lemmas.List.{length-take}
use Rattle.smf_fmri.specs.ByKey.{Rises, lookup}
use Rattle.smf_state.specs.declared.view.ChangedItem.{ChangedItem}
use Rattle.smf_state.specs.Patched.{by_changed, view_after_changes}
use Rattle.smf_model.specs.declared.command.Command.{Command}
use Rattle.smf_model.specs.History.{History, history, is_revised, holdings_after_commands, history_if_revised, now, history_after}
use Rattle.smf_model.specs.Contents.{Holdings}
use Rattle.smf_model.specs.Laws.{IsNumbered}
use Rattle.smf_model.specs.Look.{by_instance, instances}
use Rattle.smf_model.specs.Next.{next}
use Rattle.smf_model.specs.Shown.{view}
use Rattle.smf_model.proofs.Entries.{rises_bare}
use Rattle.smf_model.proofs.LawEvents.{numbered_made}
use Rattle.smf_model.proofs.LawHistory.{now_made}
use Rattle.smf_model.proofs.LawOutcomes.{one_revision}
use Rattle.smf_changes.specs.Changes.{IsBeyond, IsPatched, as_it_is, by_itself, changes_since, is_beyond, item, most_recent, with_newest, recent, together, touched_numbers}
use Rattle.smf_changes.proofs.Merges.{changed_rise, misses_both, take_kept, together_rises, untouched, view_from}

-- ---- revisions

same_revision : (m n : ℕ) → m ≡ n → not (m == n) ≡ false
same_revision m n e = ap not ((Decides-eqb m n).1 e)

next_revision : (m n : ℕ) → m ≡ n + 1 → not (m == n) ≡ true
next_revision m n e = by (m == n) refl
  where
    by : (b : Bool) → (m == n) ≡ b → not b ≡ true
    by true f = absurd (let same : m ≡ n = eqb-true m n f in omega arith)
    by false f = refl

-- a command leaves the value and the lists, or makes a revision and one list more
pub data Goes (h : Holdings) (c : Command) (nss : List (List ℕ)) : Type 0 where
  stays : (next h c).0 ≡ h → with_newest (is_revised h (next h c).0) (touched_numbers h (next h c).0) nss ≡ nss
      → Goes h c nss
  revises : (next h c).0.revision ≡ h.revision + 1
      → with_newest (is_revised h (next h c).0) (touched_numbers h (next h c).0) nss
      ≡ take most_recent (touched_numbers h (next h c).0 ∷ nss) → Goes h c nss

goes : (h : Holdings) (c : Command) (nss : List (List ℕ)) → Goes h c nss
goes h c nss = elim (one_revision h c) [
  | inl e ↦ stays e
      (ap (λ (b : Bool). with_newest b (touched_numbers h (next h c).0) nss)
      (same_revision (next h c).0.revision h.revision (ap (λ (k : Holdings). k.revision) e)))
  | inr e ↦ revises e
      (ap (λ (b : Bool). with_newest b (touched_numbers h (next h c).0) nss)
      (next_revision (next h c).0.revision h.revision e))
]

later : (m n k : ℕ) → m ≤ n → k ≡ n + 1 → m ≤ k
later m n k low e = omega arith

no_less : (n : ℕ) (h : Holdings) (c : Command) → Goes h c [] → n ≤ h.revision → n ≤ (next h c).0.revision
no_less n h c (stays e f) low = subst (λ (k : Holdings). n ≤ k.revision) (sym e) low
no_less n h c (revises e f) low = later n h.revision (next h c).0.revision low e

pub revisions_rise : (h : Holdings) (cs ds : List Command)
    → (holdings_after_commands h cs).revision ≤ (holdings_after_commands h (ds ++ cs)).revision
revisions_rise h cs [] = omega arith
revisions_rise h cs (d ∷ ds) =
    no_less (holdings_after_commands h cs).revision (holdings_after_commands h (ds ++ cs)) d
    (goes (holdings_after_commands h (ds ++ cs)) d []) (revisions_rise h cs ds)

pub first_least : (h : Holdings) (cs : List Command) → h.revision ≤ (holdings_after_commands h cs).revision
first_least h [] = omega arith
first_least h (c ∷ cs) =
    no_less h.revision (holdings_after_commands h cs) c (goes (holdings_after_commands h cs) c []) (first_least h cs)

pub in_order : (h : Holdings) (cs : List Command) → IsNumbered h
    → Rises by_instance (instances (holdings_after_commands h cs))
in_order h cs numbered =
    rises_bare (holdings_after_commands h cs).instances (numbered_made h cs numbered).ordered.instances

-- ---- numbers that no list names

none_between : (m n k : ℕ) → m + zero ≡ k → k ≡ n + 1 → m ≤ n → ⊥
none_between m n k e f low = omega arith

one_less : (m n j k : ℕ) → m + suc j ≡ k → k ≡ n + 1 → m + j ≡ n
one_less m n j k e f = omega arith

less_few : (j : ℕ) → suc j ≤ most_recent → j ≤ most_recent
less_few j few = omega arith

-- the item of a number that none of the newest lists names is as it was before these
pub between : (h : Holdings) (cs ds : List Command) (j n : ℕ) → IsNumbered h
    → (holdings_after_commands h cs).revision + j ≡ (holdings_after_commands h (ds ++ cs)).revision → j ≤ most_recent
    → lookup by_itself (together (take j (recent h (ds ++ cs)))) n ≡ None
    → item (holdings_after_commands h cs) n ≡ item (holdings_after_commands h (ds ++ cs)) n
unfolding recent
between h cs [] j n numbered e few none = refl
between h cs (d ∷ ds) j n numbered e few none =
    by (goes (holdings_after_commands h (ds ++ cs)) d (recent h (ds ++ cs))) j e few none
    (λ i f low misses. between h cs ds i n numbered f low misses)
  where
    after : Holdings
    after = (next (holdings_after_commands h (ds ++ cs)) d).0

    by : Goes (holdings_after_commands h (ds ++ cs)) d (recent h (ds ++ cs)) → (j : ℕ)
        → (holdings_after_commands h cs).revision + j ≡ after.revision → j ≤ most_recent
        → lookup by_itself
        (together (take j
        (with_newest (is_revised (holdings_after_commands h (ds ++ cs)) after)
        (touched_numbers (holdings_after_commands h (ds ++ cs)) after) (recent h (ds ++ cs))))) n ≡ None
        → ((i : ℕ) → (holdings_after_commands h cs).revision + i ≡ (holdings_after_commands h (ds ++ cs)).revision
        → i ≤ most_recent → lookup by_itself (together (take i (recent h (ds ++ cs)))) n ≡ None
        → item (holdings_after_commands h cs) n ≡ item (holdings_after_commands h (ds ++ cs)) n)
        → item (holdings_after_commands h cs) n ≡ item after n
    by (stays f g) j e few none ih =
        ih j (e ∙ ap (λ (z : Holdings). z.revision) f) few
        (ap (λ (nss : List (List ℕ)). lookup by_itself (together (take j nss)) n) (sym g) ∙ none)
        ∙ ap (λ (z : Holdings). item z n) (sym f)
    by (revises f g) zero e few none ih =
        absurd (none_between (holdings_after_commands h cs).revision
        (holdings_after_commands h (ds ++ cs)).revision after.revision e f (revisions_rise h cs ds))
    by (revises f g) (suc j) e few none ih =
        let ts : List ℕ = touched_numbers (holdings_after_commands h (ds ++ cs)) after in
        let kept : take (suc j) (take most_recent (ts ∷ recent h (ds ++ cs))) ≡ ts ∷ take j (recent h (ds ++ cs)) =
        take_kept (suc j) most_recent (ts ∷ recent h (ds ++ cs)) few in
        let misses = misses_both ts (together (take j (recent h (ds ++ cs)))) n
        (ap (λ (nss : List (List ℕ)). lookup by_itself (together nss) n) (sym kept ∙ ap (take (suc j)) (sym g))
        ∙ none) in
        ih j (one_less (holdings_after_commands h cs).revision
        (holdings_after_commands h (ds ++ cs)).revision j after.revision e f) (less_few j few) misses.1
        ∙ untouched (holdings_after_commands h (ds ++ cs)) after n (in_order h (d ∷ (ds ++ cs)) numbered) misses.0

-- ---- how many lists are kept

none_since : (n : ℕ) → 0 ≡ min most_recent (n - n)
none_since n = let e : n - n ≡ 0 = omega arith in rw e refl

one_more : (ns : List ℕ) (nss : List (List ℕ)) (m n k : ℕ) → length nss ≡ min most_recent (n - m) → m ≤ n → k ≡ n + 1
    → min most_recent (length (ns ∷ nss)) ≡ min most_recent (k - m)
one_more ns nss m n k e low f = omega arith

pub kept_lists : (h : Holdings) (cs : List Command)
    → length (recent h cs) ≡ min most_recent ((holdings_after_commands h cs).revision - h.revision)
unfolding recent
kept_lists h [] = none_since h.revision
kept_lists h (c ∷ cs) = by (goes (holdings_after_commands h cs) c (recent h cs)) (kept_lists h cs)
  where
    by : Goes (holdings_after_commands h cs) c (recent h cs)
        → length (recent h cs) ≡ min most_recent ((holdings_after_commands h cs).revision - h.revision)
        → length (with_newest (is_revised (holdings_after_commands h cs) (next (holdings_after_commands h cs) c).0)
        (touched_numbers (holdings_after_commands h cs) (next (holdings_after_commands h cs) c).0) (recent h cs))
        ≡ min most_recent ((next (holdings_after_commands h cs) c).0.revision - h.revision)
    by (stays e f) ih = ap length f ∙ ih ∙ ap (λ (k : Holdings). min most_recent (k.revision - h.revision)) (sym e)
    by (revises e f) ih =
        ap length f ∙ length-take most_recent
        (touched_numbers (holdings_after_commands h cs) (next (holdings_after_commands h cs) c).0 ∷ recent h cs)
        ∙ one_more (touched_numbers (holdings_after_commands h cs) (next (holdings_after_commands h cs) c).0)
        (recent h cs) h.revision (holdings_after_commands h cs).revision
        (next (holdings_after_commands h cs) c).0.revision ih (first_least h cs) e

-- ---- the lists of a history

abbrev recent_of : History → List (List ℕ)
recent_of y = recent y.first y.past

-- the lists of a value, with those of the command that comes next
abbrev goes_on : Holdings → Command → List (List ℕ) → List (List ℕ)
goes_on h c nss = with_newest (is_revised h (next h c).0) (touched_numbers h (next h c).0) nss

told_by : (y : History) (c : Command) (b : Bool) → is_revised (now y) (next (now y) c).0 ≡ b
    → recent_of (history_if_revised y c b) ≡ with_newest b (touched_numbers (now y) (next (now y) c).0) (recent_of y)
unfolding recent
told_by y c true e = ap (λ (b : Bool). with_newest b (touched_numbers (now y) (next (now y) c).0) (recent_of y)) e
told_by y c false e = refl

recent_told : (y : History) (c : Command) → recent_of (history_after y c) ≡ goes_on (now y) c (recent_of y)
unfolding history_after
recent_told y c = told_by y c (is_revised (now y) (next (now y) c).0) refl

pub recent_accepted : (h : Holdings) (cs : List Command) → recent_of (history h cs) ≡ recent h cs
unfolding recent
recent_accepted h [] = refl
recent_accepted h (c ∷ cs) =
    let value : now (history h cs) ≡ holdings_after_commands h cs = now_made h cs in
    let lists : recent_of (history h cs) ≡ recent h cs = recent_accepted h cs in
    recent_told (history h cs) c ∙ (λ j. goes_on (value j) c (lists j))

-- ---- changes since a revision

from_pair : {X : Type 0} (x y : X) → Some x ≡ Some y → x ≡ y
from_pair x y e = cc

abbrev given : Holdings → List ℕ → ℕ × List ChangedItem
given h ns = (h.revision, map (as_it_is h) ns)

neither : (a b : Bool) → (a || b) ≡ false → (a ≡ false) × (b ≡ false)
neither true b e = absurd cc
neither false b e = (refl, e)

one_of : (a b : Bool) → (a || b) ≡ true → (a ≡ true) ⊎ (b ≡ true)
one_of true b e = inl refl
one_of false b e = inr e

far_enough : (l m n k : ℕ) → m ≤ k → l ≡ min most_recent (k - n) → nat_lt l (k - m) ≡ false
    → (m + (k - m) ≡ k) × (k - m ≤ most_recent)
far_enough l m n k low e f = let kept : k - m ≤ l = ltb-false l (k - m) f in (omega arith, omega arith)

pub view_patched : (h : Holdings) (cs ds : List Command) (to : ℕ) (items : List ChangedItem) → IsNumbered h
    → IsPatched (recent h (ds ++ cs)) (holdings_after_commands h cs) (holdings_after_commands h (ds ++ cs)) to items
unfolding changes_since
view_patched h cs ds to items numbered =
    by (is_beyond (recent h (ds ++ cs)) (holdings_after_commands h (ds ++ cs))
    (holdings_after_commands h cs).revision) refl
  where
    ns : ℕ → List ℕ
    ns j = together (take j (recent h (ds ++ cs)))

    by : (b : Bool)
        → is_beyond (recent h (ds ++ cs)) (holdings_after_commands h (ds ++ cs))
        (holdings_after_commands h cs).revision ≡ b
        → (if b then None
        else Some (given (holdings_after_commands h (ds ++ cs))
        (ns ((holdings_after_commands h (ds ++ cs)).revision - (holdings_after_commands h cs).revision))))
        ≡ Some (to, items)
        → (to ≡ (holdings_after_commands h (ds ++ cs)).revision)
        × (view_after_changes (view (holdings_after_commands h cs)) to items
        ≡ view (holdings_after_commands h (ds ++ cs)))
    by true f e = absurd cc
    by false f e =
        let j : ℕ = (holdings_after_commands h (ds ++ cs)).revision - (holdings_after_commands h cs).revision in
        let far = far_enough (length (recent h (ds ++ cs))) (holdings_after_commands h cs).revision h.revision
        (holdings_after_commands h (ds ++ cs)).revision (revisions_rise h cs ds) (kept_lists h (ds ++ cs))
        (neither _ _ f).1 in
        let same : (n : ℕ) → lookup by_itself (ns j) n ≡ None
        → item (holdings_after_commands h cs) n ≡ item (holdings_after_commands h (ds ++ cs)) n =
        λ n none. between h cs ds j n numbered far.0 far.1 none in
        let P : ℕ × List ChangedItem → Type 0 = λ p. (p.0 ≡ (holdings_after_commands h (ds ++ cs)).revision)
        × (view_after_changes (view (holdings_after_commands h cs)) p.0 p.1
        ≡ view (holdings_after_commands h (ds ++ cs))) in
        let pair : given (holdings_after_commands h (ds ++ cs)) (ns j) ≡ (to, items) = from_pair _ _ e in
        subst P pair (
          refl,
          view_from (holdings_after_commands h cs) (holdings_after_commands h (ds ++ cs)) (ns j)
              (in_order h cs numbered) (in_order h (ds ++ cs) numbered) same,
        )

-- ---- which revisions

beyond_kept : (l n k from : ℕ) → n ≤ k → l ≡ min most_recent (k - n)
    → (k < from) ⊎ (from + most_recent < k) ⊎ (from < n) → (nat_lt k from || nat_lt l (k - from)) ≡ true
beyond_kept l n k from low e beyond = by (nat_lt k from || nat_lt l (k - from)) refl
  where
    by : (b : Bool) → (nat_lt k from || nat_lt l (k - from)) ≡ b → b ≡ true
    by true f = refl
    by false f =
        let no_more : from ≤ k = ltb-false k from (neither (nat_lt k from) (nat_lt l (k - from)) f).0 in
        let within : k - from ≤ l = ltb-false l (k - from) (neither (nat_lt k from) (nat_lt l (k - from)) f).1 in
        elim beyond [
          | inl g ↦ absurd (omega arith)
          | inr (inl g) ↦ absurd (omega arith)
          | inr (inr g) ↦ absurd (omega arith)
        ]

kept_beyond : (l n k from : ℕ) → n ≤ k → l ≡ min most_recent (k - n) → (nat_lt k from || nat_lt l (k - from)) ≡ true
    → (k < from) ⊎ (from + most_recent < k) ⊎ (from < n)
kept_beyond l n k from low e f = elim (one_of (nat_lt k from) (nat_lt l (k - from)) f) [
  | inl g ↦ inl (ltb-true k from g)
  | inr g ↦ by (nat_lt from n) refl (ltb-true l (k - from) g)
]
  where
    by : (b : Bool) → nat_lt from n ≡ b → l < k - from → (k < from) ⊎ (from + most_recent < k) ⊎ (from < n)
    by true g less = inr (inr (ltb-true from n g))
    by false g less = let no_less : n ≤ from = ltb-false from n g in inr (inl (omega arith))

pub none_beyond : (h : Holdings) (cs : List Command) (from : ℕ) → IsBeyond h (holdings_after_commands h cs) from
    → changes_since (recent h cs) (holdings_after_commands h cs) from ≡ None
unfolding changes_since
none_beyond h cs from beyond =
    rw (beyond_kept (length (recent h cs)) h.revision (holdings_after_commands h cs).revision from (first_least h cs)
    (kept_lists h cs) beyond) refl

pub beyond_none : (h : Holdings) (cs : List Command) (from : ℕ)
    → changes_since (recent h cs) (holdings_after_commands h cs) from ≡ None
    → IsBeyond h (holdings_after_commands h cs) from
unfolding changes_since
beyond_none h cs from e =
    kept_beyond (length (recent h cs)) h.revision (holdings_after_commands h cs).revision from (first_least h cs)
    (kept_lists h cs) (by (is_beyond (recent h cs) (holdings_after_commands h cs) from) _ e)
  where
    by : (b : Bool) (some : ℕ × List ChangedItem) → (if b then None else Some some) ≡ None → b ≡ true
    by true some e = refl
    by false some e = absurd cc

pub changes_rise : (nss : List (List ℕ)) (h : Holdings) (from to : ℕ) (items : List ChangedItem)
    → changes_since nss h from ≡ Some (to, items) → Rises by_changed items
unfolding changes_since
changes_rise nss h from to items = by (is_beyond nss h from)
  where
    by : (b : Bool) → (if b then None else Some (given h (together (take (h.revision - from) nss))))
        ≡ Some (to, items) → Rises by_changed items
    by true e = absurd cc
    by false e =
        let P : ℕ × List ChangedItem → Type 0 = λ p. Rises by_changed p.1 in
        let pair : given h (together (take (h.revision - from) nss)) ≡ (to, items) = from_pair _ _ e in
        subst P pair (changed_rise h (together (take (h.revision - from) nss))
        (together_rises (take (h.revision - from) nss)))
