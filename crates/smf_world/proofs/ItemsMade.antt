-- For an accepted command the trail shows the rows that are new after it, or have another number.
use Rattle.std.proofs.Common.{◌≡◌, ℕ, ◌+◌, nat_lt, nat_le, not, Bool, true, false, if◌then◌else◌, List, [], ◌∷◌, ◌++◌, map, filter, Option, Some, None, option_map, Result, Ok, Err, refl, sym, ap, ◌∙◌, arith}
use Rattle.std.specs.List.{cons_option, filter_map}
use Rattle.smf_fmri.specs.ByKey.{list_with_item}
use Rattle.smf_fmri.specs.Patterns.{read_short}
use Rattle.smf_state.proofs.Steps.{accepted_goes_on}
use Rattle.smf_state.specs.Rows.{GoesOn, result_of_proposal, greatest_number}
use Rattle.smf_state.specs.States.{runs}
use Rattle.smf_state.specs.declared.fault.StepFault.{StepFault}
use Rattle.smf_state.specs.declared.row.Row.{Row}
use Rattle.smf_state.specs.declared.step.Proposal.{Proposal}
use Rattle.smf_model.specs.declared.change.Change.{Change}
use Rattle.smf_model.specs.declared.change.Change.TheVariants.{AddService, DropService, PutGroups, PutInstance, AddSnapshot, NextSnapshot, PutLaunch, SetRevision}
use Rattle.smf_model.specs.declared.command.Command.{Command}
use Rattle.smf_model.specs.declared.command.Command.TheVariants as commands
use Rattle.smf_model.specs.declared.command.Edit.TheVariants as asked_for
use Rattle.smf_model.specs.declared.command.CommandReply.{CommandReply}
use Rattle.smf_model.specs.declared.command.CommandReply.TheVariants.{Made, Granted, Done, NoSuch, InUse, Exists, Limit, Stale}
use Rattle.smf_state.specs.declared.refusal.Why.{Why}
use Rattle.smf_state.specs.declared.refusal.Why.TheVariants as whys
use Rattle.smf_model.specs.declared.held.Instance.{Instance}
use Rattle.smf_model.specs.declared.held.Service.{Service}
use Rattle.smf_model.specs.Contents.{Holdings}
use Rattle.smf_model.specs.Laws.{AreApart, IsNumbered}
use Rattle.smf_model.specs.Look.{bare, by_instance, groups_of, holdings_after_changes, instance, instances, instance_by_name, put_over, service}
use Rattle.smf_model.specs.GeneralGroup.{Groups, current, setting}
use Rattle.smf_model.specs.Next.{Asked, greatest, greatest_instance, greatest_snapshot, refusal_with, acceptance_with, current_instance, new_entry, new_instance, changes_for_addition, added_at, added_named, asked_add_instance, with_snapshot, snapshot_of, target_by, may_be_moved, refreshed_row, moved_instance, outcome_of_move, refreshed_instance, outcome_of_refresh, asked_refresh, asked_edit, with_owners, is_again, stale, with_row, with_running, takes_running, outcome_of_grant, step_answer, fresh_answer, answer_at, answer, change_of_relaunch, persistent, kept_of_services, kept_of_instances, instance_after_boot, changes_for_boot, may_not_boot, asked_boot, outcome_of_command, next}
use Rattle.smf_model.proofs.Entries.{bare_instance, bare_put}
use Rattle.smf_model.proofs.LawOutcomes.{apart, installed_append, installed_closed, Elsewhere, elsewhere, each_put, Found, is_found, relaunches, services_keep, instances_keep}
use Rattle.smf_model.proofs.Written.{put_each}
use Rattle.smf_world.specs.Items.{boot_items, change_item, items_of, row_item}
use Rattle.smf_world.specs.Safe.{boot_alone, is_committed, made_items}
use Rattle.smf_world.specs.declared.item.Item.{Item}
use Rattle.smf_world.proofs.CommitLists.{AreFound, found_all, none_kept, all_same, still_same, one_moved, one_new, put_all, all_booted}
use Rattle.smf_world.proofs.PlainCommands.{is_plain, none_committed, says_nothing}
use Rattle.smf_world.proofs.RowItems.{next_over, not_shown, same_over}

-- the rows that changes show
abbrev pub shown_of : Holdings → List Change → List Item
shown_of h cs = filter_map (change_item h) cs

-- those that are new in a value, or have another number
abbrev pub new_rows : Holdings → Holdings → List Item
new_rows h k = map row_item (filter (is_committed h) (instances k))

abbrev Shows : Holdings → List Change → Holdings → Type 0
Shows h cs k = shown_of h cs ≡ new_rows h k

abbrev ShowsOf : Holdings → Asked → Type 0
ShowsOf h a = Shows h a.changes (holdings_after_changes h a.changes)

-- after these changes
abbrev after : Holdings → List Change → Holdings
after h cs = holdings_after_changes h cs

none_new : (h : Holdings) → AreApart (instances h) → [] ≡ new_rows h h
none_new h a = sym (ap (map row_item) (none_kept (is_committed h) (instances h) (all_same h a)))

refuses : (h : Holdings) (r : CommandReply) → AreApart (instances h) → ShowsOf h (refusal_with r)
unfolding holdings_after_changes
refuses h r a = none_new h a

accepts : (h : Holdings) (cs : List Change) (r : CommandReply) → AreApart (instances h) → Shows h cs (after h cs)
    → ShowsOf h (acceptance_with h cs r)
accepts h cs r a s = by (nat_lt h.revision greatest)
  where
    by : (b : Bool)
        → ShowsOf h (if b then (record { changes = cs ++ SetRevision (h.revision + 1) ∷ []; reply = r })
        else refusal_with Limit)
    by true =
        not_shown (change_item h) cs (SetRevision (h.revision + 1)) refl
        ∙ (s ∙ ap (λ (k : Holdings). new_rows h k) (sym (installed_closed h cs (h.revision + 1))))
    by false = refuses h Limit a

either : (h : Holdings) (b : Bool) (x y : Asked) → ShowsOf h x → ShowsOf h y → ShowsOf h (if b then x else y)
either h true x y p q = p
either h false x y p q = q

-- the changes that take a snapshot, before further changes
abbrev with_taken : Holdings → Instance → List Change → List Change
with_taken h i cs = AddSnapshot (snapshot_of h i) ∷ NextSnapshot (h.next_snapshot + 1) ∷ cs

snaps : (h : Holdings) (i : Instance) (cs : List Change) (r : CommandReply) → AreApart (instances h)
    → Shows h (with_taken h i cs) (after h (with_taken h i cs)) → ShowsOf h (with_snapshot h i cs r)
snaps h i cs r a s =
    either h (nat_le h.next_snapshot greatest_snapshot) _ _ (accepts h (with_taken h i cs) r a s) (refuses h Limit a)

by_found : (h : Holdings) (n : ℕ) (ask : Option Instance → Asked) → ShowsOf h (ask None)
    → ((before i : Instance) → Found h n before i → ShowsOf h (ask (Some i))) → ShowsOf h (ask (current_instance h n))
by_found h n ask none some = by (instance h n) refl
  where
    by : (o : Option Instance) → instance h n ≡ o → ShowsOf h (ask (option_map (current (groups_of h)) o))
    by None e = none
    by (Some i) e = some i (current (groups_of h) i) (is_found h n i e)

-- ---- one that is added

shows_added : (h : Holdings) (full : List ℕ) (k : Holdings) → IsNumbered h
    → instances k ≡ list_with_item by_instance (new_instance h full) (instances h)
    → Shows h (changes_for_addition h full) k
shows_added h full k numbered e =
    let none : instance h h.next_instance ≡ None = numbered.instances h.next_instance (omega arith) in
    sym (ap (λ (xs : List Instance). map row_item (filter (is_committed h) xs)) e
    ∙ ap (map row_item) (one_new h (new_instance h full) (apart h numbered) none))

add_at : (h : Holdings) (full : List ℕ) (o : Option Instance) → IsNumbered h → ShowsOf h (added_at h full o)
unfolding holdings_after_changes
add_at h full (Some i) numbered = refuses h Exists (apart h numbered)
add_at h full None numbered =
    either h (nat_le h.next_instance greatest_instance) _ _
    (accepts h (changes_for_addition h full) (Made h.next_instance) (apart h numbered)
    (shows_added h full (after h (changes_for_addition h full)) numbered (bare_put (new_entry h full) h.instances)))
    (refuses h Limit (apart h numbered))

add_named : (h : Holdings) (o : Option (List ℕ)) → IsNumbered h → ShowsOf h (added_named h o)
add_named h None numbered = refuses h Limit (apart h numbered)
add_named h (Some full) numbered = add_at h full (instance_by_name h full) numbered

add_instance : (h : Holdings) (name : List ℕ) (o : Option Service) → IsNumbered h
    → ShowsOf h (asked_add_instance h name o)
add_instance h name None numbered = refuses h NoSuch (apart h numbered)
add_instance h name (Some t) numbered = add_named h (read_short (t.name ++ 58 ∷ name)) numbered

-- ---- one that is put in its place

there_at : (h : Holdings) (n : ℕ) (before x : Instance) → instance h n ≡ Some before → x.number ≡ n
    → instance h x.number ≡ Some before
there_at h n before x there number = ap (instance h) number ∙ there

-- one with the next number is shown
shows_next : (h : Holdings) (n : ℕ) (before x : Instance) (k : Holdings) → AreApart (instances h)
    → instance h n ≡ Some before → x.number ≡ n → x.row.number ≡ before.row.number + 1
    → instances k ≡ put_over x (instances h)
    → Shows h (PutInstance x ∷ []) k
shows_next h n before x k a there number f e =
    ap (λ (o : Option Item). cons_option o [])
    (next_over (instance h x.number) before x (there_at h n before x there number) f)
    ∙ sym (ap (λ (xs : List Instance). map row_item (filter (is_committed h) xs)) e
    ∙ ap (map row_item) (one_moved h n before x a there number f))

-- one with the same number is not
shows_same : (h : Holdings) (n : ℕ) (before x : Instance) (k : Holdings) → AreApart (instances h)
    → instance h n ≡ Some before → x.number ≡ n → x.row.number ≡ before.row.number
    → instances k ≡ put_over x (instances h)
    → Shows h (PutInstance x ∷ []) k
shows_same h n before x k a there number f e =
    ap (λ (o : Option Item). cons_option o [])
    (same_over (instance h x.number) before x (there_at h n before x there number) f)
    ∙ sym (ap (λ (xs : List Instance). map row_item (filter (is_committed h) xs)) e
    ∙ ap (map row_item)
    (none_kept (is_committed h) (put_over x (instances h)) (still_same h n before x a there number f)))

-- ---- one that a proposal moves

grants : (h : Holdings) (p : Proposal) (before i : Instance) (row : Row) (b : Bool) → AreApart (instances h)
    → Found h p.instance before i → GoesOn i.row row → ShowsOf h (outcome_of_grant h i row b)
unfolding holdings_after_changes
grants h p before i row b a f g = by b
  where
    number : row.number ≡ before.row.number + 1
    number = g.counted ∙ ap (λ (r : Row). r.number + 1) f.reads.same

    by : (b : Bool) → ShowsOf h (outcome_of_grant h i row b)
    by true =
        let x : Instance = with_row i (with_running h row) in
        snaps h i (PutInstance x ∷ []) (Granted x.row) a
        (shows_next h p.instance before x (after h (with_taken h i (PutInstance x ∷ []))) a f.is_there f.is_number
        number (bare_instance x h.instances))
    by false =
        let x : Instance = with_row i row in
        accepts h (PutInstance x ∷ []) (Granted x.row) a
        (shows_next h p.instance before x (after h (PutInstance x ∷ [])) a f.is_there f.is_number number
        (bare_instance x h.instances))

answers_step : (h : Holdings) (p : Proposal) (before i : Instance) (r : Result Row StepFault) → AreApart (instances h)
    → Found h p.instance before i → result_of_proposal i.row p (h.revision + 1) ≡ r → ShowsOf h (step_answer h i r)
answers_step h p before i (Err fault) a f e = refuses h (Stale (whys.Step fault) (Some i.row)) a
answers_step h p before i (Ok row) a f e =
    either h (nat_le row.serial greatest) _ _
    (grants h p before i row (takes_running i.row row) a f (accepted_goes_on i.row row p (h.revision + 1) e))
    (refuses h Limit a)

answers_fresh : (h : Holdings) (p : Proposal) (before i : Instance) (o : Option Why) → AreApart (instances h)
    → Found h p.instance before i → ShowsOf h (fresh_answer h i p o)
answers_fresh h p before i (Some why) a f = refuses h (Stale why (Some i.row)) a
answers_fresh h p before i None a f = answers_step h p before i (result_of_proposal i.row p (h.revision + 1)) a f refl

answers_at : (h : Holdings) (p : Proposal) (before i : Instance) → AreApart (instances h)
    → Found h p.instance before i → ShowsOf h (answer_at h p (Some i))
answers_at h p before i a f =
    either h (is_again i.row p) _ _ (refuses h (Granted i.row) a) (answers_fresh h p before i (stale h i.row p) a f)

answers : (h : Holdings) (p : Proposal) → AreApart (instances h) → ShowsOf h (answer h p)
unfolding answer
answers h p a =
    by_found h p.instance (answer_at h p) (refuses h (Stale whys.NoSuch None) a)
    (λ before i f. answers_at h p before i a f)

-- ---- one that is refreshed, or moves to another restarter

moving : (h : Holdings) (n : ℕ) (before i : Instance) (owner : List ℕ) → AreApart (instances h) → Found h n before i
    → ShowsOf h (outcome_of_move h i owner)
unfolding holdings_after_changes
moving h n before i owner a f =
    let x : Instance = moved_instance h i owner in
    either h (not (may_be_moved i.row)) _ _ (refuses h InUse a)
    (either h (not (nat_lt i.row.number greatest_number)) _ _ (refuses h Limit a)
    (snaps h i (PutInstance x ∷ []) Done a
    (shows_next h n before x (after h (with_taken h i (PutInstance x ∷ []))) a f.is_there f.is_number
    (ap (λ (r : Row). r.number + 1) f.reads.same) (bare_instance x h.instances))))

same_number : (r : Row) (running revision : ℕ) (b : Bool) → (refreshed_row r running revision b).number ≡ r.number
same_number r running revision true = refl
same_number r running revision false = refl

refreshing : (h : Holdings) (n : ℕ) (before i : Instance) (o : Option (List ℕ)) → AreApart (instances h)
    → Found h n before i → ShowsOf h (outcome_of_refresh h i o)
unfolding holdings_after_changes
refreshing h n before i (Some owner) a f = moving h n before i owner a f
refreshing h n before i None a f =
    let x : Instance = refreshed_instance h i in
    snaps h i (PutInstance x ∷ []) Done a
    (shows_same h n before x (after h (with_taken h i (PutInstance x ∷ []))) a f.is_there f.is_number
    (same_number i.row h.next_snapshot (h.revision + 1) (runs i.row.state)
    ∙ ap (λ (r : Row). r.number) f.reads.same) (bare_instance x h.instances))

refresh : (h : Holdings) (n : ℕ) → AreApart (instances h) → ShowsOf h (asked_refresh h (current_instance h n))
refresh h n a =
    by_found h n (asked_refresh h) (refuses h NoSuch a)
    (λ before i f. refreshing h n before i (target_by (setting (groups_of h) i) i.row.owner) a f)

-- ---- boots

put_all_behind : (f : Instance → Instance) (h : Holdings) (cs : List Change) (is : List Instance) → Elsewhere cs
    → instances (holdings_after_changes h (cs ++ map (λ (i : Instance). PutInstance (f i)) is))
    ≡ put_each f is (instances h)
put_all_behind f h cs is out =
    ap (λ (k : Holdings). bare k.instances) (installed_append h cs (map (λ (i : Instance). PutInstance (f i)) is))
    ∙ ((each_put f (holdings_after_changes h cs) is).instances ∙ ap (put_each f is) (elsewhere h cs out).instances)

-- the groups that outlast a boot
abbrev pub lasting : Holdings → Groups
lasting h = persistent (groups_of h)

-- all instances as a boot leaves them
abbrev pub all_after_boot : Holdings → List Instance
all_after_boot h = map (instance_after_boot (lasting h)) (instances h)

abbrev front : Holdings → List Change
front h = map change_of_relaunch h.launches ++ (kept_of_services h.services ++ kept_of_instances h.instances)

front_elsewhere : (h : Holdings) → Elsewhere (front h)
front_elsewhere h = relaunches h.launches _ (services_keep h.services _ (instances_keep h.instances))

booting_leaves : (h : Holdings) → AreApart (instances h)
    → instances (holdings_after_changes h (changes_for_boot h)) ≡ all_after_boot h
booting_leaves h a = put_all_behind (instance_after_boot (lasting h)) h (front h) (instances h) (front_elsewhere h)
    ∙ put_all (lasting h) (instances h) a

silent_elsewhere : (h : Holdings) (cs ds : List Change) → Elsewhere cs → shown_of h (cs ++ ds) ≡ shown_of h ds
silent_elsewhere h [] ds out = refl
silent_elsewhere h (AddService s ∷ cs) ds out = silent_elsewhere h cs ds out
silent_elsewhere h (DropService s ∷ cs) ds out = silent_elsewhere h cs ds out
silent_elsewhere h (PutGroups o gs ∷ cs) ds out = silent_elsewhere h cs ds out
silent_elsewhere h (PutLaunch l ∷ cs) ds out = silent_elsewhere h cs ds out
silent_elsewhere h (c ∷ cs) ds out = absurd out

shows_each : (h : Holdings) (gs : Groups) (is : List Instance) → AreFound (instances h) is
    → shown_of h (map (λ (i : Instance). PutInstance (instance_after_boot gs i)) is)
    ≡ map row_item (map (instance_after_boot gs) is)
shows_each h gs [] a = refl
shows_each h gs (i ∷ is) a =
    ap (λ (o : Option Item). cons_option o
    (shown_of h (map (λ (j : Instance). PutInstance (instance_after_boot gs j)) is)))
    (next_over (instance h i.number) i (instance_after_boot gs i) a.0 refl)
    ∙ ap (λ (xs : List Item). row_item (instance_after_boot gs i) ∷ xs) (shows_each h gs is a.1)

shows_booting : (h : Holdings) → AreApart (instances h) → Shows h (changes_for_boot h) (after h (changes_for_boot h))
shows_booting h a =
    silent_elsewhere h (front h)
    (map (λ (i : Instance). PutInstance (instance_after_boot (lasting h) i)) (instances h)) (front_elsewhere h)
    ∙ (shows_each h (lasting h) (instances h) (found_all (instances h) a)
    ∙ sym (ap (λ (xs : List Instance). map row_item (filter (is_committed h) xs)) (booting_leaves h a)
    ∙ ap (map row_item) (all_booted h (lasting h) a)))

boots : (h : Holdings) → AreApart (instances h) → ShowsOf h (asked_boot h)
unfolding asked_boot
boots h a = either h (may_not_boot h) _ _ (refuses h Limit a)
    (accepts h (changes_for_boot h) Done a (shows_booting h a))

-- ---- the whole

plain : (h : Holdings) (c : Command) → is_plain c ≡ true → IsNumbered h → ShowsOf h (outcome_of_command h c)
unfolding next
plain h c p numbered = (says_nothing h c p (apart h numbered)).shown
    ∙ sym (ap (map row_item) (none_committed h c p (apart h numbered)))

-- the changes of a command show the rows that are new after them, or have another number
pub shown : (h : Holdings) (c : Command) → IsNumbered h
    → shown_of h (outcome_of_command h c).changes
    ≡ new_rows h (holdings_after_changes h (outcome_of_command h c).changes)
unfolding outcome_of_command asked_edit with_owners
shown h (commands.Edit (asked_for.AddInstance s name)) numbered = add_instance h name (service h s) numbered
shown h (commands.Edit (asked_for.Refresh n)) numbered = refresh h n (apart h numbered)
shown h (commands.Edit (asked_for.AddService name)) numbered =
    plain h (commands.Edit (asked_for.AddService name)) refl numbered
shown h (commands.Edit (asked_for.DeleteService name)) numbered =
    plain h (commands.Edit (asked_for.DeleteService name)) refl numbered
shown h (commands.Edit (asked_for.DeleteInstance n)) numbered =
    plain h (commands.Edit (asked_for.DeleteInstance n)) refl numbered
shown h (commands.Edit (asked_for.AddGroup owner name group_type p)) numbered =
    plain h (commands.Edit (asked_for.AddGroup owner name group_type p)) refl numbered
shown h (commands.Edit (asked_for.DeleteGroup owner name)) numbered =
    plain h (commands.Edit (asked_for.DeleteGroup owner name)) refl numbered
shown h (commands.Edit (asked_for.Property owner name change)) numbered =
    plain h (commands.Edit (asked_for.Property owner name change)) refl numbered
shown h (commands.Edit (asked_for.Enable n b temporary)) numbered =
    plain h (commands.Edit (asked_for.Enable n b temporary)) refl numbered
shown h (commands.Edit (asked_for.Restart n)) numbered = plain h (commands.Edit (asked_for.Restart n)) refl numbered
shown h (commands.Edit (asked_for.Clear n)) numbered = plain h (commands.Edit (asked_for.Clear n)) refl numbered
shown h (commands.Edit (asked_for.Mark n mark)) numbered = plain h (commands.Edit (asked_for.Mark n mark)) refl numbered
shown h (commands.Edit (asked_for.Revert n name)) numbered =
    plain h (commands.Edit (asked_for.Revert n name)) refl numbered
shown h (commands.Propose p) numbered = answers h p (apart h numbered)
shown h (commands.Launch name) numbered = plain h (commands.Launch name) refl numbered
shown h commands.Boot numbered = boots h (apart h numbered)

-- ---- a command that makes changes

abbrev pub AreMade : List Change → Type 0
AreMade [] = ⊥
AreMade (x ∷ xs) = Unit {0}

boots_once : (c : Command) (cs : List Change) → AreMade cs → boot_items c cs ≡ boot_alone c
boots_once (commands.Edit e) (x ∷ xs) m = refl
boots_once (commands.Propose p) (x ∷ xs) m = refl
boots_once (commands.Launch name) (x ∷ xs) m = refl
boots_once commands.Boot (x ∷ xs) m = refl
boots_once c [] m = absurd m

pub items_made : (h : Holdings) (c : Command) → IsNumbered h → AreMade (outcome_of_command h c).changes
    → items_of h c (outcome_of_command h c).changes ≡ made_items c h (next h c).0
unfolding items_of next
items_made h c numbered m =
    ap (λ (xs : List Item). xs ++ shown_of h (outcome_of_command h c).changes)
    (boots_once c (outcome_of_command h c).changes m)
    ∙ ap (λ (xs : List Item). boot_alone c ++ xs) (shown h c numbered)

pub no_items : (h : Holdings) (c : Command) → items_of h c [] ≡ []
unfolding items_of
no_items h (commands.Edit e) = refl
no_items h (commands.Propose p) = refl
no_items h (commands.Launch name) = refl
no_items h commands.Boot = refl

abbrev BootOf : Holdings → Asked → Type 0
BootOf h a = AreMade a.changes → instances (holdings_after_changes h a.changes) ≡ all_after_boot h

boot_of : (h : Holdings) → AreApart (instances h) → BootOf h (asked_boot h)
unfolding asked_boot
boot_of h a = by (may_not_boot h)
  where
    within : (b : Bool)
        → BootOf h (if b
        then (record { changes = changes_for_boot h ++ SetRevision (h.revision + 1) ∷ []; reply = Done })
        else refusal_with Limit)
    within true m = ap (λ (k : Holdings). bare k.instances) (installed_closed h (changes_for_boot h) (h.revision + 1))
        ∙ booting_leaves h a
    within false m = absurd m

    by : (b : Bool) → BootOf h (if b then refusal_with Limit else acceptance_with h (changes_for_boot h) Done)
    by true = λ m. absurd m
    by false = within (nat_lt h.revision greatest)

pub boot_leaves : (h : Holdings) → AreApart (instances h) → AreMade (outcome_of_command h commands.Boot).changes
    → instances (next h commands.Boot).0 ≡ all_after_boot h
unfolding next outcome_of_command
boot_leaves h a m = boot_of h a m

-- without changes the revision stays
unmade : (h : Holdings) (cs : List Change) → cs ≡ [] → (holdings_after_changes h cs).revision ≡ h.revision
unfolding holdings_after_changes
unmade h cs e = ap (λ (ds : List Change). (holdings_after_changes h ds).revision) e

pub made_something : (h : Holdings) (c : Command) → (next h c).0.revision ≡ h.revision + 1
    → AreMade (outcome_of_command h c).changes
unfolding next
made_something h c e = by (outcome_of_command h c).changes refl
  where
    more : (n : ℕ) → n ≡ n + 1 → ⊥
    more n e = omega arith

    by : (cs : List Change) → (outcome_of_command h c).changes ≡ cs → AreMade cs
    by [] f = absurd (more h.revision (sym (unmade h (outcome_of_command h c).changes f) ∙ e))
    by (x ∷ xs) f = tt
