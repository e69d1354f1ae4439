-- Numbers are given once.
use Rattle.std.proofs.Common.{◌<◌, ◌≡◌, ℕ, ◌+◌, ◌≤◌, nat_lt, nat_le, Bool, true, false, if◌then◌else◌, List, [], ◌∷◌, ◌++◌, Option, Some, None, refl, sym, ap, ◌∙◌, subst, arith}
use Rattle.smf_fmri.specs.ByKey.{lookup, list_with_item as put_in, without}
use Rattle.smf_fmri.specs.Patterns.{read_short}
use Rattle.smf_model.specs.declared.change.Change.TheVariants.{SetRevision}
use Rattle.smf_model.specs.declared.change.Outcome.{Outcome as Asked}
use Rattle.smf_model.specs.declared.command.Command.{Command}
use Rattle.smf_model.specs.declared.command.Command.TheVariants as commands
use Rattle.smf_model.specs.declared.command.Edit.TheVariants as asked_for
use Rattle.smf_model.specs.declared.command.CommandReply.{CommandReply}
use Rattle.smf_model.specs.declared.command.CommandReply.TheVariants.{Made, Limit}
use Rattle.smf_model.specs.declared.held.Instance.{Instance}
use Rattle.smf_model.specs.declared.held.InstanceName.{InstanceName}
use Rattle.smf_model.specs.declared.held.Service.{Service}
use Rattle.smf_model.specs.declared.held.Snapshot.{Snapshot}
use Rattle.smf_model.specs.Dates.{IsDated}
use Rattle.smf_model.specs.Contents.{Holdings}
use Rattle.smf_model.specs.Look.{by_instance, by_snapshot, empty, holdings_after_changes, instance, instances, instance_by_name, others_of, put_new, put_over, service, snapshot}
use Rattle.smf_model.specs.Laws.{IsNumbered, IsOrdered, is_refusal}
use Rattle.smf_model.specs.GeneralGroup.{current}
use Rattle.smf_model.specs.Next.{greatest, greatest_instance, refusal_with, acceptance_with, changes_for_addition, new_instance, added_at, added_named, asked_add_instance, asked_edit, instance_after_boot, outcome_of_command, next, with_owners}
use Rattle.smf_model.proofs.LawDates.{first_dated, stays_dated}
use Rattle.smf_model.proofs.LawLists.{none_filter, none_put, none_put_new, none_put_over, none_without}
use Rattle.smf_model.proofs.LawOutcomes.{Outcome, nothing, goes, OfInstances, alike, joined, left, put, each, written, OfSnapshots, kept, taken, gone, no_changes, outcome}
use Rattle.smf_model.proofs.Written.{put_each}
use Rattle.smf_model.proofs.Order.{ordered_after}

no_instance : (i : Instance) → None ≡ Some i → ⊥
no_instance i p = cc

nothing_named : (e : InstanceName) → None ≡ Some e → ⊥
nothing_named e p = cc

pub first_numbers : IsNumbered empty
first_numbers = record {
  ordered = record { services = tt; instances = tt; names = tt; snapshots = tt; launches = tt };
  first = omega arith;
  none_at_zero = refl;
  instances = λ n h. refl;
  snapshots = λ n h. refl;
  dated = first_dated;
  indexed = record { right = λ name e p. absurd (nothing_named e p); whole = λ n i p. absurd (no_instance i p) };
}

none_each : (n : ℕ) (f : Instance → Instance) (is xs : List Instance) → lookup by_instance xs n ≡ None
    → lookup by_instance (put_each f is xs) n ≡ None
none_each n f [] xs e = e
none_each n f (i ∷ is) xs e = none_each n f is (put_over (f i) xs) (none_put_over n (f i) xs e)

-- ---- nothing from the numbers that come next on

abbrev NoneFrom : ℕ → List Instance → Type 0
NoneFrom next_one xs = (n : ℕ) → next_one ≤ n → lookup by_instance xs n ≡ None

abbrev NoSnapshotFrom : ℕ → List Snapshot → Type 0
NoSnapshotFrom next_one xs = (n : ℕ) → next_one ≤ n → lookup by_snapshot xs n ≡ None

below_as : (m k : ℕ) (xs ys : List Instance) → xs ≡ ys → m ≡ k → NoneFrom k ys → NoneFrom m xs
below_as m k xs ys e f none n h = ap (λ (zs : List Instance). lookup by_instance zs n) e
    ∙ none n (subst (λ (d : ℕ). d ≤ n) f h)

instances_below : (h : Holdings) (c : Command) (m : ℕ) (xs : List Instance) → OfInstances h c m xs
    → NoneFrom h.next_instance (instances h) → NoneFrom m xs
instances_below h c m xs (alike e f) b = below_as m h.next_instance xs (instances h) e f b
instances_below h c m xs (joined name e f) b =
    below_as m (h.next_instance + 1) xs (put_in by_instance (new_instance h name) (instances h)) e f
    (λ n k. none_put by_instance (new_instance h name) (instances h) n
    (λ same. (let same' : h.next_instance ≡ n = same in omega arith)) (b n (omega arith)))
instances_below h c m xs (left d e f) b =
    below_as m h.next_instance xs (without by_instance d (instances h)) e f
    (λ n k. none_without by_instance d (instances h) n (b n k))
instances_below h c m xs (put d i x there number follows e f) b =
    below_as m h.next_instance xs (put_over x (instances h)) e f (λ n k. none_put_over n x (instances h) (b n k))
instances_below h c m xs (each boot gs e f) b =
    below_as m h.next_instance xs (put_each (instance_after_boot gs) (instances h) (instances h)) e f
    (λ n k. none_each n (instance_after_boot gs) (instances h) (instances h) (b n k))
instances_below h c m xs (written ys before gs js held e) b =
    below_as m m xs (put_each (current gs) js ys) e refl
    (λ n k. none_each n (current gs) js ys (instances_below h c m ys before b n k))

snapshots_as : (m k : ℕ) (xs ys : List Snapshot) → xs ≡ ys → m ≡ k → NoSnapshotFrom k ys → NoSnapshotFrom m xs
snapshots_as m k xs ys e f none n h = ap (λ (zs : List Snapshot). lookup by_snapshot zs n) e
    ∙ none n (subst (λ (d : ℕ). d ≤ n) f h)

snapshots_below : (h : Holdings) (c : Command) (xs : List Snapshot) (m : ℕ) → OfSnapshots h c xs m
    → NoSnapshotFrom h.next_snapshot h.snapshots → NoSnapshotFrom m xs
snapshots_below h c xs m (kept e f) b = snapshots_as m h.next_snapshot xs h.snapshots e f b
snapshots_below h c xs m (taken s number e f) b =
    snapshots_as m (h.next_snapshot + 1) xs (put_new by_snapshot s h.snapshots) e f
    (λ n k. none_put_new by_snapshot s h.snapshots n
    (λ same. (let same' : h.next_snapshot ≡ n = sym number ∙ same in omega arith)) (b n (omega arith)))
snapshots_below h c xs m (gone d is e f) b =
    snapshots_as m h.next_snapshot xs (others_of d h.snapshots) e f (λ n k. none_filter _ _ h.snapshots (b n k))

-- ---- the numbers that come next

instances_rise_by : (h : Holdings) (c : Command) (m : ℕ) (xs : List Instance) → OfInstances h c m xs
    → h.next_instance ≤ m
instances_rise_by h c m xs (alike e f) = omega arith
instances_rise_by h c m xs (joined name e f) = omega arith
instances_rise_by h c m xs (left d e f) = omega arith
instances_rise_by h c m xs (put d i x there number follows e f) = omega arith
instances_rise_by h c m xs (each boot gs e f) = omega arith
instances_rise_by h c m xs (written ys before gs js held e) = instances_rise_by h c m ys before

snapshots_rise_by : (h : Holdings) (c : Command) (xs : List Snapshot) (m : ℕ) → OfSnapshots h c xs m
    → h.next_snapshot ≤ m
snapshots_rise_by h c xs m (kept e f) = omega arith
snapshots_rise_by h c xs m (taken s number e f) = omega arith
snapshots_rise_by h c xs m (gone d is e f) = omega arith

rise_by : (h : Holdings) (c : Command) (k : Holdings) (r : CommandReply) → Outcome h c k r
    → (h.next_instance ≤ k.next_instance) × (h.next_snapshot ≤ k.next_snapshot)
rise_by h c k r (nothing e a) =
    subst (λ (l : Holdings). (h.next_instance ≤ l.next_instance) × (h.next_snapshot ≤ l.next_snapshot)) (sym e)
    (omega arith, omega arith)
rise_by h c k r (goes g) = (
  instances_rise_by h c k.next_instance (instances k) g.instances,
  snapshots_rise_by h c k.snapshots k.next_snapshot g.snapshots,
)

pub instances_rise : (h : Holdings) (c : Command) → h.next_instance ≤ (next h c).0.next_instance
instances_rise h c = (rise_by h c (next h c).0 (next h c).1 (outcome h c)).0

pub snapshots_rise : (h : Holdings) (c : Command) → h.next_snapshot ≤ (next h c).0.next_snapshot
snapshots_rise h c = (rise_by h c (next h c).0 (next h c).1 (outcome h c)).1

-- ---- numbers that were given are not given again

instances_gone : (h : Holdings) (c : Command) (n m : ℕ) (xs : List Instance) → OfInstances h c m xs
    → n < h.next_instance → instance h n ≡ None → lookup by_instance xs n ≡ None
instances_gone h c n m xs (alike e f) k is = rw e is
instances_gone h c n m xs (joined name e f) k is =
    rw e (none_put by_instance (new_instance h name) (instances h) n
    (λ same. (let same' : h.next_instance ≡ n = same in omega arith)) is)
instances_gone h c n m xs (left d e f) k is = rw e (none_without by_instance d (instances h) n is)
instances_gone h c n m xs (put d i x there number follows e f) k is = rw e (none_put_over n x (instances h) is)
instances_gone h c n m xs (each boot gs e f) k is =
    rw e (none_each n (instance_after_boot gs) (instances h) (instances h) is)
instances_gone h c n m xs (written ys before gs js held e) k is =
    rw e (none_each n (current gs) js ys (instances_gone h c n m ys before k is))

snapshots_gone : (h : Holdings) (c : Command) (n : ℕ) (xs : List Snapshot) (m : ℕ) → OfSnapshots h c xs m
    → n < h.next_snapshot → snapshot h n ≡ None → lookup by_snapshot xs n ≡ None
snapshots_gone h c n xs m (kept e f) k is = rw e is
snapshots_gone h c n xs m (taken s number e f) k is =
    rw e (none_put_new by_snapshot s h.snapshots n
    (λ same. (let same' : h.next_snapshot ≡ n = sym number ∙ same in omega arith)) is)
snapshots_gone h c n xs m (gone d deletes e f) k is = rw e (none_filter _ _ h.snapshots is)

instance_gone_by : (h : Holdings) (c : Command) (k : Holdings) (r : CommandReply) (n : ℕ) → Outcome h c k r
    → n < h.next_instance → instance h n ≡ None → instance k n ≡ None
instance_gone_by h c k r n (nothing e a) below is = rw e is
instance_gone_by h c k r n (goes g) below is = instances_gone h c n k.next_instance (instances k) g.instances below is

snapshot_gone_by : (h : Holdings) (c : Command) (k : Holdings) (r : CommandReply) (n : ℕ) → Outcome h c k r
    → n < h.next_snapshot → snapshot h n ≡ None → snapshot k n ≡ None
snapshot_gone_by h c k r n (nothing e a) below is = rw e is
snapshot_gone_by h c k r n (goes g) below is = snapshots_gone h c n k.snapshots k.next_snapshot g.snapshots below is

pub instance_gone : (h : Holdings) (c : Command) (n : ℕ) → n < h.next_instance → instance h n ≡ None
    → instance (next h c).0 n ≡ None
instance_gone h c n below is = instance_gone_by h c (next h c).0 (next h c).1 n (outcome h c) below is

pub snapshot_gone : (h : Holdings) (c : Command) (n : ℕ) → n < h.next_snapshot → snapshot h n ≡ None
    → snapshot (next h c).0 n ≡ None
snapshot_gone h c n below is = snapshot_gone_by h c (next h c).0 (next h c).1 n (outcome h c) below is

-- ---- all of it

numbered_by : (h : Holdings) (c : Command) (k : Holdings) (r : CommandReply) → Outcome h c k r → IsNumbered h
    → IsOrdered k → h.next_instance ≤ k.next_instance → instance k 0 ≡ None → IsDated k → IsNumbered k
numbered_by h c k r (nothing e a) b o rises zero dated = subst IsNumbered (sym e) b
numbered_by h c k r (goes g) b o rises zero dated =
    record {
      ordered = o;
      first = (let first : 1 ≤ h.next_instance = b.first in omega arith);
      none_at_zero = zero;
      instances = instances_below h c k.next_instance (instances k) g.instances b.instances;
      snapshots = snapshots_below h c k.snapshots k.next_snapshot g.snapshots b.snapshots;
      dated = dated;
      indexed = g.indexed b;
    }

ordered_next : (h : Holdings) (c : Command) → IsOrdered h → IsOrdered (next h c).0
unfolding next
ordered_next h c o = ordered_after h (outcome_of_command h c).changes o

pub stays_numbered : (h : Holdings) (c : Command) → IsNumbered h → IsNumbered (next h c).0
stays_numbered h c b =
    let first : 1 ≤ h.next_instance = b.first in
    numbered_by h c (next h c).0 (next h c).1 (outcome h c) b (ordered_next h c b.ordered) (instances_rise h c)
    (instance_gone h c 0 (omega arith) b.none_at_zero) (stays_dated h c b)

next_is : (h : Holdings) (c : Command) → (next h c).0 ≡ holdings_after_changes h (outcome_of_command h c).changes
unfolding next
next_is h c = refl

-- the same of the changes that are asked for
pub asked_numbered : (h : Holdings) (c : Command) → IsNumbered h
    → IsNumbered (holdings_after_changes h (outcome_of_command h c).changes)
asked_numbered h c b = subst IsNumbered (next_is h c) (stays_numbered h c b)

-- ---- the number that is given

abbrev GivesNumber : Holdings → ℕ → Asked → Type 0
GivesNumber h n a = a.reply ≡ Made n → (n ≡ h.next_instance)
    × ((holdings_after_changes h a.changes).next_instance ≡ n + 1)

made : (m n : ℕ) → Made m ≡ Made n → m ≡ n
made m n e = cc

add_at : (h : Holdings) (name : List ℕ) (n : ℕ) (o : Option Instance) → GivesNumber h n (added_at h name o)
unfolding holdings_after_changes
add_at h name n (Some i) e = absurd cc
add_at h name n None e = by (nat_le h.next_instance greatest_instance) e
  where
    within : (b : Bool)
        → GivesNumber h n
        (if b then (record {
          changes = changes_for_addition h name ++ SetRevision (h.revision + 1) ∷ [];
          reply = Made h.next_instance;
        }) else refusal_with Limit)
    within true e = let same : n ≡ h.next_instance = sym (made h.next_instance n e) in
        (same, ap (λ (m : ℕ). m + 1) (sym same))
    within false e = absurd cc

    by : (b : Bool)
        → GivesNumber h n
        (if b then acceptance_with h (changes_for_addition h name) (Made h.next_instance) else refusal_with Limit)
    by true e = within (nat_lt h.revision greatest) e
    by false e = absurd cc

add_named : (h : Holdings) (n : ℕ) (o : Option (List ℕ)) → GivesNumber h n (added_named h o)
add_named h n None e = absurd cc
add_named h n (Some name) e = add_at h name n (instance_by_name h name) e

add_to : (h : Holdings) (name : List ℕ) (n : ℕ) (o : Option Service) → GivesNumber h n (asked_add_instance h name o)
add_to h name n None e = absurd cc
add_to h name n (Some s) e = add_named h n (read_short (s.name ++ 58 ∷ name)) e

pub number_made : (h : Holdings) (s name : List ℕ) (n : ℕ)
    → (next h (commands.Edit (asked_for.AddInstance s name))).1 ≡ Made n
    → (n ≡ h.next_instance) × ((next h (commands.Edit (asked_for.AddInstance s name))).0.next_instance ≡ n + 1)
unfolding next outcome_of_command asked_edit with_owners
number_made h s name n e = add_to h name n (service h s) e

pub asked_refused : (h : Holdings) (c : Command) (r : Asked) → r ≡ outcome_of_command h c → is_refusal r.reply ≡ true
    → r.changes ≡ []
asked_refused h c r e = let P : Asked → Type 0 = λ a. is_refusal a.reply ≡ true → a.changes ≡ [] in
    subst P (sym e) (no_changes h c)

pub asked_numbers : (h : Holdings) (c : Command) (r : Asked) → r ≡ outcome_of_command h c → IsNumbered h
    → IsNumbered (holdings_after_changes h r.changes)
asked_numbers h c r e b = let P : Asked → Type 0 = λ a. IsNumbered (holdings_after_changes h a.changes) in
    subst P (sym e) (asked_numbered h c b)
