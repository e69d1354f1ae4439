-- The last commit of an instance is its row, and each row follows the one before it.
use Rattle.std.proofs.Common.{◌≡◌, ◌⊎◌, ◌<◌, ◌≤◌, ℕ, ◌+◌, nat_lt, Bool, true, false, List, [], ◌∷◌, map, filter, Option, Some, None, option_map, refl, sym, ap, ◌∙◌, subst, inl, inr, arith}
use Rattle.std.proofs.lemmas.Bool.Decides.{nat_tests}
use Rattle.smf_state.specs.declared.row.Row.{Row}
use Rattle.smf_state.specs.declared.state.State.{State}
use Rattle.smf_state.specs.declared.state.State.TheVariants.{Uninitialized, Disabled}
use Rattle.smf_state.specs.States.{edge}
use Rattle.smf_model.specs.declared.command.Command.{Command}
use Rattle.smf_model.specs.declared.command.Command.TheVariants as commands
use Rattle.smf_model.specs.declared.command.CommandReply.TheVariants as answers
use Rattle.smf_model.specs.declared.held.Instance.{Instance}
use Rattle.smf_model.specs.Contents.{Holdings}
use Rattle.smf_model.specs.Laws.{Follows, IsNumbered, RowFollows as GoesOnBy, boots, moves, stays, steps}
use Rattle.smf_model.specs.Look.{instance, instances}
use Rattle.smf_model.specs.Next.{outcome_of_command, instance_after_boot, next}
use Rattle.smf_model.specs.GeneralGroup.{Groups}
use Rattle.smf_model.proofs.LawNumbers.{instance_gone, instances_rise, stays_numbered}
use Rattle.smf_model.proofs.LawOutcomes.{apart, next_revision}
use Rattle.smf_model.proofs.LawRows.{follows_next}
use Rattle.smf_world.specs.declared.event.Event.{Event}
use Rattle.smf_world.specs.declared.event.Event.TheVariants as events
use Rattle.smf_world.specs.declared.item.Item.{Item}
use Rattle.smf_world.specs.declared.item.Item.TheVariants as items
use Rattle.smf_world.specs.Happens.{happens}
use Rattle.smf_world.specs.Items.{row_item}
use Rattle.smf_world.specs.Runs.{run}
use Rattle.smf_world.specs.Safe.{AlongTheDiagram, Last, RowFollows, behind_boot, commits, is_committed, is_other_number, last_of, made_items}
use Rattle.smf_world.specs.World.{World, initial_world}
use Rattle.smf_world.proofs.CommitLists.{AreFound, at_next, at_same, found_all, no_such}
use Rattle.smf_world.proofs.ItemsMade.{AreMade, boot_leaves, lasting, made_something}
use Rattle.smf_world.proofs.Facts.{Fact, IsKept, Of, of_boot, of_run}
use Rattle.smf_world.proofs.TrailItems.{noted, noted_more}
use Rattle.smf_world.proofs.Pushed.{ArePushed, AreReady, AreTracked, IsReady, along_commits, last_held, pushed, tracked_at}

pub record IsTracked (h : Holdings) (t : List Item) : Type 0 where
  pub numbered : IsNumbered h
  pub rows : AreTracked t (instances h)
  pub fresh : (n : ℕ) → h.next_instance ≤ n → last_of n t ≡ None
  pub along : AlongTheDiagram t

clash : (b : Bool) → b ≡ true → b ≡ false → ⊥
clash b e f = cc

below : (m n : ℕ) → nat_lt m n ≡ true → m < n
below m n e = grind (arith, nat_tests)

above : (m n : ℕ) → nat_lt m n ≡ false → n ≤ m
above m n e = grind (arith, nat_tests)

-- ---- one row more, no boot

abbrev is_boot : Command → Bool
is_boot commands.Boot = true
is_boot _ = false

same_last : (i j : Instance) → j.row.number ≡ i.row.number → j.row.state ≡ i.row.state → last_held i ≡ last_held j
same_last i j e f = rw (e, f) refl

moved_from : (before after : State) → (before ≡ Uninitialized) ⊎ (before ≡ Disabled) → after ≡ Uninitialized
    → (after ≡ before) ⊎ (edge before after ≡ true)
moved_from before after (inl e) f = inl (f ∙ sym e)
moved_from before after (inr e) f = inr (rw (e, f) refl)

-- one whose number is new to its row
stepped : (o : Option Last) (p : Option Instance) (i j : Instance) → p ≡ Some i → j.row.number ≡ i.row.number + 1
    → RowFollows o j.row.number j.row.state → IsReady (is_other_number p) j o
stepped o p i j e number follows = (λ f. follows, λ f. absurd (clash (is_other_number p j) (at_next p i j e number) f))

ready_by : (c : Command) (n : ℕ) (o : Option Last) (p : Option Instance) (i j : Instance) → is_boot c ≡ false
    → p ≡ Some i → o ≡ Some (last_held i) → GoesOnBy c n i.row j.row → IsReady (is_other_number p) j o
ready_by c n o p i j no_boot e l (stays s) =
    let number = ap (λ (r : Row). r.number) s.same in
    let state = ap (λ (r : Row). r.state) s.same in (
      λ f. absurd (clash (is_other_number p j) f (at_same p i j e number)),
      λ f. l
          ∙ ap (λ (x : Last). Some x) (same_last i j number state),
    )
ready_by c n o p i j no_boot e l (steps q is at g) =
    stepped o p i j e g.counted
    (subst (λ (x : Option Last). RowFollows x j.row.number j.row.state) (sym l) (g.counted, g.along))
ready_by c n o p i j no_boot e l (boots is b) = absurd (clash (is_boot c) (ap is_boot is) no_boot)
ready_by c n o p i j no_boot e l (moves is from b) =
    stepped o p i j e b.number
    (subst (λ (x : Option Last). RowFollows x j.row.number j.row.state) (sym l)
    (b.number, moved_from i.row.state j.row.state from b.state))

-- one that was not there has a number that was never given
never : (h : Holdings) (c : Command) (t : List Item) (j : Instance) → IsTracked h t → instance h j.number ≡ None
    → instance (next h c).0 j.number ≡ Some j → last_of j.number t ≡ None
never h c t j k none there = by (nat_lt j.number h.next_instance) refl
  where
    by : (b : Bool) → nat_lt j.number h.next_instance ≡ b → last_of j.number t ≡ None
    by true e = absurd (no_such (sym (instance_gone h c j.number (below j.number h.next_instance e) none) ∙ there))
    by false e = k.fresh j.number (above j.number h.next_instance e)

ready_one : (h : Holdings) (c : Command) (t : List Item) (j : Instance) → is_boot c ≡ false → IsTracked h t
    → instance (next h c).0 j.number ≡ Some j → IsReady (is_committed h) j (last_of j.number t)
ready_one h c t j no_boot k there = by (instance h j.number) refl (follows_next h c j.number j k.numbered there)
  where
    by : (p : Option Instance) → instance h j.number ≡ p → Follows c j.number p j
        → IsReady (is_other_number p) j (last_of j.number t)
    by None e row = (
      λ f. subst (λ (o : Option Last). RowFollows o j.row.number j.row.state) (sym (never h c t j k e there))
          (ap (λ (r : Row). r.state) row),
      λ f. absurd cc,
    )
    by (Some i) e row =
        ready_by c j.number (last_of j.number t) (Some i) i j no_boot refl
        (tracked_at t j.number (instances h) i k.rows e) row

ready_all : (h : Holdings) (c : Command) (t : List Item) (js : List Instance) → is_boot c ≡ false → IsTracked h t
    → AreFound (instances (next h c).0) js → AreReady (is_committed h) t js
ready_all h c t [] no_boot k a = tt
ready_all h c t (j ∷ js) no_boot k a = (ready_one h c t j no_boot k a.0, ready_all h c t js no_boot k a.1)

-- ---- a command that makes a revision

tracks : (h k : Holdings) (t u : List Item) → IsNumbered k → h.next_instance ≤ k.next_instance
    → ((n : ℕ) → h.next_instance ≤ n → last_of n t ≡ None) → ArePushed (instances k) t u → IsTracked k u
tracks h k t u numbered rises fresh p =
    record {
      numbered = numbered;
      rows = p.rows;
      fresh = λ n le. p.others n (numbered.instances n le) ∙ fresh n (omega arith);
      along = p.along;
    }

abbrev after : Holdings → Command → List Item → List Item
after h c t = noted (made_items c h (next h c).0) t

quiet_tracked : (h : Holdings) (c : Command) (t : List Item) → is_boot c ≡ false → IsTracked h t
    → IsTracked (next h c).0 (noted (map row_item (filter (is_committed h) (instances (next h c).0))) t)
quiet_tracked h c t no_boot k =
    let numbered = stays_numbered h c k.numbered in
    let ready = ready_all h c t (instances (next h c).0) no_boot k
    (found_all (instances (next h c).0) (apart (next h c).0 numbered)) in
    tracks h (next h c).0 t _ numbered (instances_rise h c) k.fresh
    (pushed (is_committed h) (instances (next h c).0) t (apart (next h c).0 numbered) ready k.along)

-- ---- a boot

-- never committed, or committed last as it is
abbrev AreBefore : List Item → List Instance → Type 0
AreBefore t [] = Unit {0}
AreBefore t (i ∷ is) = ((last_of i.number t ≡ None) ⊎ (last_of i.number t ≡ Some (last_held i))) × AreBefore t is

boots_from : (o : Option Last) (i : Instance) → (o ≡ None) ⊎ (o ≡ Some (last_held i))
    → RowFollows (option_map behind_boot o) (i.row.number + 1) Uninitialized
boots_from o i (inl e) =
    subst (λ (x : Option Last). RowFollows (option_map behind_boot x) (i.row.number + 1) Uninitialized) (sym e) refl
boots_from o i (inr e) =
    subst (λ (x : Option Last). RowFollows (option_map behind_boot x) (i.row.number + 1) Uninitialized) (sym e)
    (refl, refl)

boots_ready : (h : Holdings) (gs : Groups) (t : List Item) (is : List Instance) → AreFound (instances h) is
    → AreBefore t is → AreReady (is_committed h) (items.Boot ∷ t) (map (instance_after_boot gs) is)
boots_ready h gs t [] a b = tt
boots_ready h gs t (i ∷ is) a b = (
  stepped _ (instance h i.number) i (instance_after_boot gs i) a.0 refl (boots_from (last_of i.number t) i b.0),
  boots_ready h gs t is a.1 b.1,
)

boot_tracked : (h : Holdings) (t : List Item) → IsNumbered h → AreMade (outcome_of_command h commands.Boot).changes
    → AreBefore t (instances h) → ((n : ℕ) → h.next_instance ≤ n → last_of n t ≡ None) → AlongTheDiagram t
    → IsTracked (next h commands.Boot).0 (after h commands.Boot t)
boot_tracked h t numbered e before fresh along =
    let k : Holdings = (next h commands.Boot).0 in
    let is_k : IsNumbered k = stays_numbered h commands.Boot numbered in
    let xs : List Item = map row_item (filter (is_committed h) (instances k)) in
    let ready : AreReady (is_committed h) (items.Boot ∷ t) (instances k) =
    subst (AreReady (is_committed h) (items.Boot ∷ t)) (sym (boot_leaves h (apart h numbered) e))
    (boots_ready h (lasting h) t (instances h) (found_all (instances h) (apart h numbered)) before) in
    subst (IsTracked k) (sym (noted_more items.Boot xs t))
    (tracks h k (items.Boot ∷ t) (noted xs (items.Boot ∷ t)) is_k (instances_rise h commands.Boot)
    (λ n le. ap (λ (o : Option Last). option_map behind_boot o) (fresh n le))
    (pushed (is_committed h) (instances k) (items.Boot ∷ t) (apart k is_k) ready along))

are_before : (t : List Item) (is : List Instance) → AreTracked t is → AreBefore t is
are_before t [] a = tt
are_before t (i ∷ is) a = (inr a.0, are_before t is a.1)

-- ---- each command

made_tracked : (h : Holdings) (c : Command) (t : List Item) → AreMade (outcome_of_command h c).changes → IsTracked h t
    → IsTracked (next h c).0 (after h c t)
made_tracked h (commands.Edit e) t is k = quiet_tracked h (commands.Edit e) t refl k
made_tracked h (commands.Propose p) t is k = quiet_tracked h (commands.Propose p) t refl k
made_tracked h (commands.Launch name) t is k = quiet_tracked h (commands.Launch name) t refl k
made_tracked h commands.Boot t is k = boot_tracked h t k.numbered is (are_before t (instances h) k.rows) k.fresh k.along

abbrev pub Tracked : Fact
Tracked y h t = IsTracked h t

pub tracked_kept : IsKept Tracked
tracked_kept = record { numbered = λ y h t k. k.numbered; kept = λ y h c t m k. made_tracked h c t m k }

-- ---- from a boot of what was found

none_before : (is : List Instance) → AreBefore [] is
none_before [] = tt
none_before (i ∷ is) = (inl refl, none_before is)

-- an accepted boot makes changes
accepted_boot : (h : Holdings) → (next h commands.Boot).1 ≡ answers.Done
    → AreMade (outcome_of_command h commands.Boot).changes
accepted_boot h done = made_something h commands.Boot (next_revision h commands.Boot (rw done refl))

pub first_tracked : (h : Holdings) → IsNumbered h → (next h commands.Boot).1 ≡ answers.Done
    → Of Tracked (happens (initial_world h) events.Boot)
first_tracked h n done =
    let m : AreMade (outcome_of_command h commands.Boot).changes = accepted_boot h done in
    of_boot Tracked (initial_world h) n m (boot_tracked h [] n m (none_before (instances h)) (λ k le. refl) tt)

pub run_along : (h : Holdings) (es : List Event) → IsNumbered h → (next h commands.Boot).1 ≡ answers.Done
    → AlongTheDiagram (run es (happens (initial_world h) events.Boot)).trail
run_along h es n done =
    let w : World = run es (happens (initial_world h) events.Boot) in
    let k : IsTracked w.now (commits w.trail) =
    of_run Tracked tracked_kept es (happens (initial_world h) events.Boot) (first_tracked h n done) in
    along_commits w.trail k.along
