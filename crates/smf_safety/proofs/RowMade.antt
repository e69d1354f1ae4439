-- Each command that is accepted makes what `Moves` says.
use Rattle.std.proofs.Common.{◌≡◌, inl, inr, ℕ, ◌+◌, nat_lt, Bool, true, false, if◌then◌else◌, cond, List, [], ◌∷◌, ◌++◌, map, Option, Some, None, option_map, refl, sym, ap, ◌∙◌, subst, arith}
use Rattle.std.specs.Ordering.{is_eq, nat_cmp}
use Rattle.smf_fmri.specs.ByKey.{lookup, list_with_item as put_in, without}
use Rattle.smf_fmri.proofs.Lookups.{equal_from_test, lookup_put, lookup_without}
use Rattle.smf_state.specs.declared.row.Row.{Row}
use Rattle.smf_state.specs.Rows.{fresh}
use Rattle.smf_model.specs.declared.change.Change.{Change}
use Rattle.smf_model.specs.declared.change.Change.TheVariants.{PutInstance, PutLaunch}
use Rattle.smf_model.specs.declared.command.Command.{Command}
use Rattle.smf_model.specs.declared.command.Command.TheVariants as commands
use Rattle.smf_model.specs.declared.command.Edit.TheVariants as asked_for
use Rattle.smf_model.specs.declared.command.CommandReply.TheVariants as replies
use Rattle.smf_model.specs.declared.held.Instance.{Instance}
use Rattle.smf_model.specs.Contents.{Holdings}
use Rattle.smf_model.specs.Laws.{IsNumbered}
use Rattle.smf_model.specs.Look.{bare, by_instance, groups_of, in_place, holdings_after_changes, instance, instances, launch_of, put_over}
use Rattle.smf_model.specs.GeneralGroup.{Groups, current, setting, owner_by}
use Rattle.smf_model.specs.Next.{booted_row, greatest, new_instance, next_launch, asked_launch, change_of_relaunch, persistent, kept_of_services, kept_of_instances, instance_after_boot, changes_for_boot, may_not_boot, asked_boot, outcome_of_command, next}
use Rattle.smf_model.proofs.LawLists.{at_put, is_number, no_such, some_same}
use Rattle.smf_model.proofs.LawNumbers.{instances_rise, snapshots_rise}
use Rattle.smf_model.proofs.LawOutcomes.{Elsewhere, booted_at, each_put, elsewhere, installed_append, instances_keep, current_row, relaunches, services_keep, stays_on}
use Rattle.smf_model.proofs.Written.{IsShown, Written, at_written, is_read, is_shown, put_each, stays_so}
use Rattle.smf_world.proofs.RowMoves.{IsAtRest, ListLeft, ListPut, Moves, RowMoves, RowPut, TakesOrKeeps, absent, alike, as_put, boots, each, goes, granted, handed, joined, joins, leaves, left, put, quiet, written}
use Rattle.smf_world.proofs.RowCommands.{Gives, Leaves, accepts, edit_leaves, edits, either, refuses}
use Rattle.smf_world.proofs.ItemsMade.{AreMade}
use Rattle.smf_world.proofs.RowGrants.{gives_answer, in_its_place}
use Rattle.smf_world.proofs.RowLaunches.{launches_rise, revised}

-- ---- the list of instances

gives_launch : (h : Holdings) (c : Command) (name : List ℕ) → Gives h c (asked_launch h name)
unfolding asked_launch
gives_launch h c name =
    either h c (nat_lt (launch_of h name) greatest) _ _
    (edits h c (PutLaunch (next_launch h name) ∷ []) (replies.Made (launch_of h name + 1)) tt)
    (refuses h c replies.Limit)

abbrev front : Holdings → List Change
front h = map change_of_relaunch h.launches ++ (kept_of_services h.services ++ kept_of_instances h.instances)

front_elsewhere : (h : Holdings) → Elsewhere (front h)
front_elsewhere h = relaunches h.launches _ (services_keep h.services _ (instances_keep h.instances))

puts_each : (f : Instance → Instance) (h : Holdings) (cs : List Change) (is : List Instance) → Elsewhere cs
    → instances (holdings_after_changes h (cs ++ map (λ (i : Instance). PutInstance (f i)) is))
    ≡ put_each f is (instances h)
puts_each f h cs is out =
    ap (λ (k : Holdings). bare k.instances) (installed_append h cs (map (λ (i : Instance). PutInstance (f i)) is))
    ∙ ((each_put f (holdings_after_changes h cs) is).instances ∙ ap (put_each f is) (elsewhere h cs out).instances)

gives_boot : (h : Holdings) → Gives h commands.Boot (asked_boot h)
unfolding asked_boot
gives_boot h =
    let gs : Groups = persistent (groups_of h) in
    either h commands.Boot (may_not_boot h) _ _ (refuses h commands.Boot replies.Limit)
    (accepts h commands.Boot (changes_for_boot h) replies.Done
    (each refl gs (puts_each (instance_after_boot gs) h (front h) (instances h) (front_elsewhere h))))

command_leaves : (h : Holdings) (c : Command) → Leaves h c (outcome_of_command h c)
unfolding outcome_of_command
command_leaves h (commands.Edit e) = edit_leaves h e
command_leaves h (commands.Propose p) = as_put (gives_answer h p)
command_leaves h (commands.Launch name) = as_put (gives_launch h (commands.Launch name) name)
command_leaves h commands.Boot = as_put (gives_boot h)

list_left : (h : Holdings) (c : Command) → ListLeft h (next h c).0.next_snapshot c (instances (next h c).0)
unfolding next
list_left h c = command_leaves h c

-- ---- each instance

same_row : (h : Holdings) (m : ℕ) (c : Command) (n : ℕ) (i : Instance) → RowPut h m c n i.row i.row
same_row h m c n i = quiet (record { stays = record { same = refl; owner = inr refl }; running = inl refl })

unmoved : (h : Holdings) (m : ℕ) (c : Command) (n : ℕ) (o : Option Instance) → RowMoves h m c n o o
unmoved h m c n None = absent refl refl
unmoved h m c n (Some i) = goes i i refl refl (same_row h m c n i)

abbrev At : Holdings → ℕ → Command → ℕ → List Instance → Type 0
At h m c n xs = RowMoves h m c n (instance h n) (lookup by_instance xs n)

at_list : (h : Holdings) (m : ℕ) (c : Command) (n : ℕ) (xs ys : List Instance) → xs ≡ ys → At h m c n ys → At h m c n xs
at_list h m c n xs ys e a = subst (At h m c n) (sym e) a

found_as : (h : Holdings) (m : ℕ) (c : Command) (n : ℕ) (p q : Option Instance) → q ≡ p
    → RowMoves h m c n (instance h n) p → RowMoves h m c n (instance h n) q
found_as h m c n p q e a = subst (RowMoves h m c n (instance h n)) (sym e) a

key_is : (a b : ℕ) → is_eq (nat_cmp a b) ≡ true → a ≡ b
key_is a b e = by_instance.exact a b (equal_from_test (nat_cmp a b) e)

at_joined : (h : Holdings) (m : ℕ) (c : Command) (n : ℕ) (name : List ℕ) → IsNumbered h
    → At h m c n (put_in by_instance (new_instance h name) (instances h))
at_joined h m c n name b =
    found_as h m c n _ _ (lookup_put by_instance (new_instance h name) (instances h) n)
    (by (is_eq (nat_cmp h.next_instance n)) refl)
  where
    by : (d : Bool) → is_eq (nat_cmp h.next_instance n) ≡ d
        → RowMoves h m c n (instance h n) (if d then Some (new_instance h name) else instance h n)
    by true e =
        let here : h.next_instance ≡ n = key_is h.next_instance n e in
        joins (new_instance h name) (b.instances n (omega arith)) refl (sym here) refl
    by false e = unmoved h m c n (instance h n)

at_left : (h : Holdings) (m : ℕ) (c : Command) (n d : ℕ) (i : Instance) → instance h d ≡ Some i
    → (d ≡ n → c ≡ commands.Edit (asked_for.DeleteInstance n)) → IsAtRest i.row
    → At h m c n (without by_instance d (instances h))
at_left h m c n d i there is rest =
    found_as h m c n _ _ (lookup_without by_instance d (instances h) n) (by (is_eq (nat_cmp d n)) refl)
  where
    by : (x : Bool) → is_eq (nat_cmp d n) ≡ x → RowMoves h m c n (instance h n) (if x then None else instance h n)
    by true e =
        let here : d ≡ n = key_is d n e in
        leaves i (subst (λ (l : ℕ). instance h l ≡ Some i) here there) refl (is here) rest
    by false e = unmoved h m c n (instance h n)

at_over : (h : Holdings) (m : ℕ) (c : Command) (n l : ℕ) (i x : Instance) → instance h l ≡ Some i → x.number ≡ l
    → RowPut h m c l i.row x.row → At h m c n (put_over x (instances h))
at_over h m c n l i x there number p =
    found_as h m c n _ _ (at_put n x (instances h)) (by (is_eq (nat_cmp x.number n)) refl)
  where
    by : (d : Bool) → is_eq (nat_cmp x.number n) ≡ d
        → RowMoves h m c n (instance h n) (cond d (option_map (in_place x) (instance h n)) (instance h n))
    by false e = unmoved h m c n (instance h n)
    by true e =
        let here : l ≡ n = sym number ∙ key_is x.number n e in
        let at_n : instance h n ≡ Some i = subst (λ (k : ℕ). instance h k ≡ Some i) here there in
        let placed : in_place x i ≡ x = in_its_place x i (is_number l (instances h) i there ∙ sym number) in
        goes i x at_n (ap (option_map (in_place x)) at_n ∙ ap (λ (j : Instance). Some j) placed)
        (subst (λ (k : ℕ). RowPut h m c k i.row x.row) here p)

at_booted : (h : Holdings) (m : ℕ) (c : Command) (n : ℕ) (gs : Groups) → c ≡ commands.Boot → IsNumbered h
    → At h m c n (put_each (instance_after_boot gs) (instances h) (instances h))
at_booted h m c n gs is b = found_as h m c n _ _ (booted_at h gs n b) (by (instance h n) refl)
  where
    by : (o : Option Instance) → instance h n ≡ o
        → RowMoves h m c n (instance h n) (option_map (instance_after_boot gs) o)
    by None e = absent e refl
    by (Some i) e = boots i (instance_after_boot gs i) (owner_by (setting gs i)) e refl is refl

-- a number that was raised is not 0
raised : (m n : ℕ) → m ≡ n + 1 → m ≡ 0 → ⊥
raised m n e f = omega arith

owned_put : (h : Holdings) (m : ℕ) (c : Command) (n : ℕ) (before : Row) (gs : Groups) (j : Instance)
    → j.row.number ≡ 0 → RowPut h m c n before j.row → RowPut h m c n before (current gs j).row
owned_put h m c n before gs j zero (quiet q) =
    let shows : IsShown j (current gs j) = is_shown gs j in
    quiet (record {
      stays = stays_on before j.row (current gs j).row q.stays (current_row gs j).row;
      running = subst (λ (x : Option ℕ). TakesOrKeeps h m before (record j.row { running = x }))
          (ap (λ (r : Row). r.running) (sym shows.row)) q.running;
    })
owned_put h m c n before gs j zero (granted p is at g) =
    absurd (raised j.row.number g.read.number (ap (λ (r : Row). r.number) g.left) zero)
owned_put h m c n before gs j zero (handed is g) =
    absurd (raised j.row.number before.number (ap (λ (r : Row). r.number) g.left) zero)

at_owned : (h : Holdings) (m : ℕ) (c : Command) (n : ℕ) (gs : Groups) (o p q : Option Instance) → RowMoves h m c n o p
    → Written gs p q → RowMoves h m c n o q
at_owned h m c n gs o p q a (stays_so e) = subst (RowMoves h m c n o) (sym e) a
at_owned h m c n gs o p q a (is_read j there zero e) = by a
  where
    new : j.row ≡ fresh j.row.owner → (current gs j).row ≡ fresh (current gs j).row.owner
    new f = (is_shown gs j).row ∙ ap (λ (r : Row). record r { owner = (current gs j).row.owner }) f

    by : RowMoves h m c n o p → RowMoves h m c n o q
    by (absent f g) = absurd (no_such p j g there)
    by (goes i k f g r) =
        goes i (current gs j) f e
        (owned_put h m c n i.row gs j zero
        (subst (λ (x : Instance). RowPut h m c n i.row x.row) (some_same k j (sym g ∙ there)) r))
    by (joins k f g is began) =
        joins (current gs j) f e is
        (new (subst (λ (x : Instance). x.row ≡ fresh x.row.owner) (some_same k j (sym g ∙ there)) began))
    by (leaves i f g is rest) = absurd (no_such p j g there)
    by (boots i k owner f g is began) =
        let booted_now : j.row ≡ booted_row i.row owner =
        subst (λ (x : Instance). x.row ≡ booted_row i.row owner) (some_same k j (sym g ∙ there)) began in
        absurd (raised j.row.number i.row.number (ap (λ (r : Row). r.number) booted_now) zero)

moves_at : (h : Holdings) (m : ℕ) (c : Command) (n : ℕ) (xs : List Instance) → ListPut h m c xs → IsNumbered h
    → At h m c n xs
moves_at h m c n xs (alike e) b = at_list h m c n xs _ e (unmoved h m c n (instance h n))
moves_at h m c n xs (joined name e) b = at_list h m c n xs _ e (at_joined h m c n name b)
moves_at h m c n xs (left d i there is rest e) b =
    at_list h m c n xs _ e
    (at_left h m c n d i there (λ here. is ∙ ap (λ (k : ℕ). commands.Edit (asked_for.DeleteInstance k)) here) rest)
moves_at h m c n xs (put l i x there number p e) b = at_list h m c n xs _ e (at_over h m c n l i x there number p)
moves_at h m c n xs (each is gs e) b = at_list h m c n xs _ e (at_booted h m c n gs is b)

left_at : (h : Holdings) (m : ℕ) (c : Command) (n : ℕ) (xs : List Instance) → ListLeft h m c xs → IsNumbered h
    → At h m c n xs
left_at h m c n xs (as_put p) b = moves_at h m c n xs p b
left_at h m c n xs (written ys p gs js held e) b =
    at_list h m c n xs (put_each (current gs) js ys) e
    (at_owned h m c n gs (instance h n) (lookup by_instance ys n) (lookup by_instance (put_each (current gs) js ys) n)
    (moves_at h m c n ys p b) (at_written gs js ys n (held b)))

pub row_moves : (h : Holdings) (c : Command) (n : ℕ) → IsNumbered h
    → RowMoves h (next h c).0.next_snapshot c n (instance h n) (instance (next h c).0 n)
row_moves h c n b = left_at h (next h c).0.next_snapshot c n (instances (next h c).0) (list_left h c) b

-- ---- the whole

pub moves : (h : Holdings) (c : Command) → IsNumbered h → AreMade (outcome_of_command h c).changes
    → Moves h c (next h c).0
moves h c b m =
    record {
      rows = λ n. row_moves h c n b;
      revision = revised h c m;
      next_instance = instances_rise h c;
      next_snapshot = snapshots_rise h c;
      launches = launches_rise h c b;
    }
