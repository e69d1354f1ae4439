-- The commit that the trail shows last of an instance is its row, with the state that it leads to.
use Rattle.std.proofs.Common.{◌≡◌, ◌+◌, ◌==◌, not, ℕ, Bool, true, false, cond, if◌then◌else◌, List, [], ◌∷◌, map, filter, Option, Some, None, refl, sym, ap, ◌∙◌, subst, arith}
use Rattle.std.specs.Prelude.{find}
use Rattle.std.specs.Ordering.{is_eq, nat_cmp}
use Rattle.std.proofs.lemmas.Bool.Decides.{nat_tests}
use Rattle.smf_state.specs.declared.row.Row.{Row}
use Rattle.smf_model.specs.declared.command.Command.{Command}
use Rattle.smf_model.specs.declared.command.Command.TheVariants as commands
use Rattle.smf_model.specs.declared.command.CommandReply.TheVariants as answers
use Rattle.smf_model.specs.declared.held.Instance.{Instance}
use Rattle.smf_model.specs.Contents.{Holdings}
use Rattle.smf_model.specs.Laws.{AreApart, Follows, IsNumbered, RowFollows}
use Rattle.smf_model.specs.Laws.RowFollows.{boots, moves, stays, steps}
use Rattle.smf_model.specs.Look.{has_number, instance, instances}
use Rattle.smf_model.specs.Next.{outcome_of_command, instance_after_boot, next}
use Rattle.smf_model.proofs.LawLists.{is_number}
use Rattle.smf_model.proofs.LawNumbers.{stays_numbered}
use Rattle.smf_model.proofs.LawOutcomes.{apart, next_revision}
use Rattle.smf_model.proofs.LawRows.{follows_next}
use Rattle.smf_world.specs.declared.event.Event.{Event}
use Rattle.smf_world.specs.declared.event.Event.TheVariants as events
use Rattle.smf_world.specs.declared.item.Item.{Item}
use Rattle.smf_world.specs.declared.item.Item.TheVariants.{Boot, Committed, Held, Spawned, Emptied}
use Rattle.smf_world.specs.Happens.{happens}
use Rattle.smf_world.specs.Items.{row_item}
use Rattle.smf_world.specs.Safe.{boot_alone, commits, is_committed, is_other_number, last_committed, made_items}
use Rattle.smf_world.specs.World.{World, initial_world}
use Rattle.smf_world.proofs.CommitLists.{all_booted, has_other, number_is, same}
use Rattle.smf_world.proofs.ItemsMade.{AreMade, boot_leaves, lasting, made_something}
use Rattle.smf_world.proofs.Facts.{Fact, IsKept, Of, of_boot, of_event}
use Rattle.smf_world.proofs.TrailItems.{noted, noted_both, noted_more}

-- ---- rows put on a trail

-- the last of these rows that passes a test, of an instance, or what was there before
abbrev newest_of : (Instance → Bool) → ℕ → List Instance → Option Item → Option Item
newest_of test n [] o = o
newest_of test n (i ∷ is) o = newest_of test n is (cond (test i) (if i.number == n then Some (row_item i) else o) o)

rows_noted : (test : Instance → Bool) (n : ℕ) (is : List Instance) (t : List Item)
    → last_committed n (noted (map row_item (filter test is)) t) ≡ newest_of test n is (last_committed n t)
rows_noted test n [] t = refl
rows_noted test n (i ∷ is) t = by (test i) (λ u. rows_noted test n is u)
  where
    by : (b : Bool)
        → ((u : List Item) → last_committed n (noted (map row_item (filter test is)) u)
        ≡ newest_of test n is (last_committed n u))
        → last_committed n (noted (map row_item (cond b (i ∷ filter test is) (filter test is))) t)
        ≡ newest_of test n is
        (cond b (if i.number == n then Some (row_item i) else last_committed n t) (last_committed n t))
    by true ih = ap (last_committed n) (noted_more (row_item i) (map row_item (filter test is)) t) ∙ ih (row_item i ∷ t)
    by false ih = ih t

none_newest : (test : Instance → Bool) (n : ℕ) (is : List Instance) (o : Option Item) → find (has_number n) is ≡ None
    → newest_of test n is o ≡ o
none_newest test n [] o e = refl
none_newest test n (i ∷ is) o e = by (is_eq (nat_cmp i.number n)) (test i) refl e (λ p. none_newest test n is p)
  where
    miss : (b c : Bool) (x p : Option Item) → b ≡ false → cond c (if b then x else p) p ≡ p
    miss false true x p e = refl
    miss false false x p e = refl
    miss true c x p e = absurd cc

    by : (b c : Bool) → is_eq (nat_cmp i.number n) ≡ b → cond b (Some i) (find (has_number n) is) ≡ None
        → ((p : Option Item) → find (has_number n) is ≡ None → newest_of test n is p ≡ p)
        → newest_of test n is (cond c (if i.number == n then Some (row_item i) else o) o) ≡ o
    by true c f g ih = absurd cc
    by false c f g ih = ih _ g ∙ miss (i.number == n) c (Some (row_item i)) o (has_other i.number n f)

found_newest : (test : Instance → Bool) (n : ℕ) (is : List Instance) (j : Instance) (o : Option Item) → AreApart is
    → find (has_number n) is ≡ Some j → newest_of test n is o ≡ cond (test j) (Some (row_item j)) o
found_newest test n [] j o a e = absurd cc
found_newest test n (i ∷ is) j o a e = by (is_eq (nat_cmp i.number n)) refl e (λ p. found_newest test n is j p a.1)
  where
    hit : (b c : Bool) (x p : Option Item) → b ≡ true → cond c (if b then x else p) p ≡ cond c x p
    hit true c x p e = refl
    hit false c x p e = absurd cc

    miss : (b c : Bool) (x p : Option Item) → b ≡ false → cond c (if b then x else p) p ≡ p
    miss false true x p e = refl
    miss false false x p e = refl
    miss true c x p e = absurd cc

    by : (b : Bool) → is_eq (nat_cmp i.number n) ≡ b → cond b (Some i) (find (has_number n) is) ≡ Some j
        → ((p : Option Item) → find (has_number n) is ≡ Some j
        → newest_of test n is p ≡ cond (test j) (Some (row_item j)) p)
        → newest_of test n is (cond (test i) (if i.number == n then Some (row_item i) else o) o)
        ≡ cond (test j) (Some (row_item j)) o
    by true f g ih =
        let here : i.number ≡ n = number_is i.number n f in
        let one : i ≡ j = cc in
        let none : find (has_number n) is ≡ None = subst (λ (m : ℕ). find (has_number m) is ≡ None) here a.0 in
        let equal : (i.number == n) ≡ true = subst (λ (m : ℕ). (i.number == m) ≡ true) here (same i.number) in
        none_newest test n is _ none
        ∙ (hit (i.number == n) (test i) (Some (row_item i)) o equal
        ∙ ap (λ (x : Instance). cond (test x) (Some (row_item x)) o) one)
    by false f g ih =
        ih _ g ∙ ap (λ (p : Option Item). cond (test j) (Some (row_item j)) p)
        (miss (i.number == n) (test i) (Some (row_item i)) o (has_other i.number n f))

-- ---- the last of each

abbrev pub item_at : ℕ → Row → Item
item_at n r = Committed n r.number r.state r.next

-- the last commit of each instance that is there is its row
abbrev pub AreLast : Holdings → List Item → Type 0
AreLast h t = (n : ℕ) (i : Instance) → instance h n ≡ Some i → last_committed n t ≡ Some (item_at n i.row)

past_boot : (n : ℕ) (c : Command) (t : List Item) → last_committed n (noted (boot_alone c) t) ≡ last_committed n t
past_boot n (commands.Edit e) t = refl
past_boot n (commands.Propose p) t = refl
past_boot n (commands.Launch name) t = refl
past_boot n commands.Boot t = refl

behind : (n : ℕ) (c : Command) (h k : Holdings) (j : Instance) (t : List Item) → AreApart (instances k)
    → instance k n ≡ Some j
    → last_committed n (noted (made_items c h k) t) ≡ cond (is_committed h j) (Some (row_item j)) (last_committed n t)
behind n c h k j t a e =
    ap (last_committed n) (noted_both (boot_alone c) (map row_item (filter (is_committed h) (instances k))) t)
    ∙ (rows_noted (is_committed h) n (instances k) (noted (boot_alone c) t)
    ∙ (found_newest (is_committed h) n (instances k) j (last_committed n (noted (boot_alone c) t)) a e
    ∙ ap (λ (o : Option Item). cond (is_committed h j) (Some (row_item j)) o) (past_boot n c t)))

same_number : (m n : ℕ) → not (m == n) ≡ false → m ≡ n
same_number m n e = grind (arith, nat_tests)

too_far : (m n : ℕ) → m ≡ n → m ≡ n + 1 → ⊥
too_far m n e f = omega arith

-- under the same number a row keeps its state and its next state
stays_there : (c : Command) (n : ℕ) (before after : Row) → RowFollows c n before after → after.number ≡ before.number
    → item_at n before ≡ item_at n after
stays_there c n before after (stays s) e = sym (ap (item_at n) s.same)
stays_there c n before after (steps p d i g) e = absurd (too_far after.number before.number e g.counted)
stays_there c n before after (boots d b) e = absurd (too_far after.number before.number e b.number)
stays_there c n before after (moves d s b) e = absurd (too_far after.number before.number e b.number)

quiet : (h : Holdings) (c : Command) (n : ℕ) (j : Instance) (t : List Item) (o : Option Instance) → instance h n ≡ o
    → is_other_number o j ≡ false → Follows c n o j → AreLast h t
    → last_committed n t ≡ Some (item_at n j.row)
quiet h c n j t None e d f k = absurd cc
quiet h c n j t (Some i) e d f k =
    k n i e ∙ ap (λ (x : Item). Some x) (stays_there c n i.row j.row f (same_number j.row.number i.row.number d))

one_last : (h : Holdings) (c : Command) (n : ℕ) (j : Instance) (t : List Item) (b : Bool) → IsNumbered h
    → instance (next h c).0 n ≡ Some j → is_committed h j ≡ b → AreLast h t
    → cond b (Some (row_item j)) (last_committed n t) ≡ Some (item_at n j.row)
one_last h c n j t true numbered e d k = let at : j.number ≡ n = is_number n (instances (next h c).0) j e in
    ap (λ (m : ℕ). Some (item_at m j.row)) at
one_last h c n j t false numbered e d k =
    let at : j.number ≡ n = is_number n (instances (next h c).0) j e in
    let other : is_other_number (instance h n) j ≡ false =
    subst (λ (m : ℕ). is_other_number (instance h m) j ≡ false) at d in
    quiet h c n j t (instance h n) refl other (follows_next h c n j numbered e) k

made_last : (h : Holdings) (c : Command) (t : List Item) → IsNumbered h → AreLast h t
    → AreLast (next h c).0 (noted (made_items c h (next h c).0) t)
made_last h c t numbered k n j e =
    behind n c h (next h c).0 j t (apart (next h c).0 (stays_numbered h c numbered)) e
    ∙ one_last h c n j t (is_committed h j) numbered e refl k

-- ---- events

abbrev Last : Fact
Last y h t = IsNumbered h × AreLast h t

last_kept : IsKept Last
last_kept = record {
  numbered = λ y h t f. f.0;
  kept = λ y h c t m f. (stays_numbered h c f.0, made_last h c t f.0 f.1);
}

-- items that are no commits do not change the last commit
last_commits : (n : ℕ) (t : List Item) → last_committed n (commits t) ≡ last_committed n t
last_commits n [] = refl
last_commits n (Committed j m s next ∷ t) =
    ap (λ (o : Option Item). if j == n then Some (Committed j m s next) else o) (last_commits n t)
last_commits n (Boot ∷ t) = last_commits n t
last_commits n (Held name launch j m s ∷ t) = last_commits n t
last_commits n (Spawned c j run method revision command ∷ t) = last_commits n t
last_commits n (Emptied c ∷ t) = last_commits n t

abbrev pub LastIsRow : World → Type 0
LastIsRow w = AreLast w.now w.trail

pub last_event : (w : World) (e : Event) → IsNumbered w.now → LastIsRow w → LastIsRow (happens w e)
last_event w e numbered k =
    let f : Of Last w = (numbered, λ n i there. last_commits n w.trail ∙ k n i there) in
    let g : Of Last (happens w e) = of_event Last last_kept w e f in
    λ n i there. sym (last_commits n (happens w e).trail) ∙ g.1 n i there

-- ---- from a boot of what was found

kept_passes : (test keep : Instance → Bool) (is : List Instance) (j : Instance) → find test (filter keep is) ≡ Some j
    → keep j ≡ true
kept_passes test keep [] j e = absurd cc
kept_passes test keep (i ∷ is) j e = by (keep i) refl e (kept_passes test keep is j)
  where
    first : (c : Bool) → keep i ≡ true → cond c (Some i) (find test (filter keep is)) ≡ Some j
        → (find test (filter keep is) ≡ Some j → keep j ≡ true) → keep j ≡ true
    first true d f ih = let one : i ≡ j = cc in subst (λ (x : Instance). keep x ≡ true) one d
    first false d f ih = ih f

    by : (b : Bool) → keep i ≡ b → find test (cond b (i ∷ filter keep is) (filter keep is)) ≡ Some j
        → (find test (filter keep is) ≡ Some j → keep j ≡ true) → keep j ≡ true
    by true d f ih = first (test i) d f ih
    by false d f ih = ih f

all_committed : (h : Holdings) → IsNumbered h → AreMade (outcome_of_command h commands.Boot).changes
    → filter (is_committed h) (instances (next h commands.Boot).0) ≡ instances (next h commands.Boot).0
all_committed h numbered m =
    let a : AreApart (instances h) = apart h numbered in
    let leaves : instances (next h commands.Boot).0 ≡ map (instance_after_boot (lasting h)) (instances h) =
    boot_leaves h a m in
    subst (λ (is : List Instance). filter (is_committed h) is ≡ is) (sym leaves) (all_booted h (lasting h) a)

first_made : (h : Holdings) → IsNumbered h → AreMade (outcome_of_command h commands.Boot).changes
    → AreLast (next h commands.Boot).0 (noted (made_items commands.Boot h (next h commands.Boot).0) [])
first_made h numbered m n j e =
    let k : Holdings = (next h commands.Boot).0 in
    let at : j.number ≡ n = is_number n (instances k) j e in
    let passes : is_committed h j ≡ true =
    kept_passes (has_number n) (is_committed h) (instances k) j
    (ap (find (has_number n)) (all_committed h numbered m) ∙ e) in
    behind n commands.Boot h k j [] (apart k (stays_numbered h commands.Boot numbered)) e
    ∙ (ap (λ (b : Bool). cond b (Some (row_item j)) None) passes ∙ ap (λ (i : ℕ). Some (item_at i j.row)) at)

pub first_last : (h : Holdings) → IsNumbered h → (next h commands.Boot).1 ≡ answers.Done
    → LastIsRow (happens (initial_world h) events.Boot)
first_last h numbered done =
    let m : AreMade (outcome_of_command h commands.Boot).changes =
    made_something h commands.Boot (next_revision h commands.Boot (rw done refl)) in
    let f : Of Last (happens (initial_world h) events.Boot) =
    of_boot Last (initial_world h) numbered m (stays_numbered h commands.Boot numbered, first_made h numbered m) in
    λ n i there. sym (last_commits n (happens (initial_world h) events.Boot).trail) ∙ f.1 n i there
