-- A row whose number grows by no granted step begins anew.
use Rattle.std.proofs.Common.{◌≡◌, ◌⊎◌, inl, inr, ℕ, ◌+◌, not, nat_lt, true, List, [], ◌∷◌, Option, Some, None, option_map, refl, sym, ap, ◌∙◌, subst}
use Rattle.smf_state.specs.declared.row.Row.{Row}
use Rattle.smf_state.specs.Rows.{greatest_number}
use Rattle.smf_model.specs.declared.change.Change.TheVariants.{PutInstance}
use Rattle.smf_model.specs.declared.command.Command.{Command}
use Rattle.smf_model.specs.declared.command.Command.TheVariants as commands
use Rattle.smf_model.specs.declared.command.CommandReply.{CommandReply}
use Rattle.smf_model.specs.declared.command.CommandReply.TheVariants.{Done}
use Rattle.smf_model.specs.declared.held.Instance.{Instance}
use Rattle.smf_model.specs.Contents.{Holdings}
use Rattle.smf_model.specs.Laws.{Follows, IsNumbered, RowFollows, Stays, boots, is_refusal, moves, stays, steps}
use Rattle.smf_model.specs.Look.{groups_of, instance}
use Rattle.smf_model.specs.Next.{outcome_of_command, asked_edit, asked_refresh, current_instance, may_be_moved, moved_instance, next, outcome_of_refresh, refreshed_instance, target_by, with_owners}
use Rattle.smf_model.specs.GeneralGroup.{current, setting}
use Rattle.smf_model.proofs.LawOutcomes.{unchanged}
use Rattle.smf_model.proofs.LawRows.{follows_next}
use Rattle.smf_laws.specs.Anew.{BeginsClean, BeginsOrStays, IsAfterRefresh, IsBootAnswer, IsStep, refresh_command}
use Rattle.smf_laws.specs.Effects.{instance_as_read}
use Rattle.smf_laws.proofs.BootAnew.{boot_answer, booted_then}
use Rattle.smf_laws.proofs.Outcomes.{Held, held_of, one_of, reply_snapshot}
use Rattle.smf_laws.proofs.Refreshes.{Target, after_refresh, goes_there, stays_there, target}

some_same : (i j : Instance) → Some i ≡ Some j → i ≡ j
some_same i j e = cc

-- a refusal changes no row
unmoved : (h : Holdings) (c : Command) (n : ℕ) (i j : Instance) → is_refusal (next h c).1 ≡ true
    → instance h n ≡ Some i → instance (next h c).0 n ≡ Some j → j.row.number ≡ i.row.number
unmoved h c n i j e was is =
    ap (λ (x : Instance). x.row.number)
    (some_same j i (sym is ∙ ap (λ (k : Holdings). instance k n) (unchanged h c e) ∙ was))

-- ---- boots

at_boot : (h : Holdings) (n : ℕ) (i j : Instance) → IsNumbered h → instance h n ≡ Some i
    → instance (next h commands.Boot).0 n ≡ Some j → (j.row.number ≡ i.row.number) ⊎ BeginsClean i.row j.row
at_boot h n i j numbered was is = by (boot_answer h numbered)
  where
    by : IsBootAnswer h (next h commands.Boot).1 → (j.row.number ≡ i.row.number) ⊎ BeginsClean i.row j.row
    by (inl e) =
        let it = (booted_then h numbered e.0).anew n i was in
        inr (subst (λ (x : Instance). BeginsClean i.row x.row) (some_same it.0 j (sym it.1 ∙ is)) it.2.anew)
    by (inr e) = inl (unmoved h commands.Boot n i j (ap is_refusal e.0) was is)

-- ---- refreshes

abbrev pub DoneOrNot : CommandReply → Type 0
DoneOrNot r = (r ≡ Done) ⊎ (is_refusal r ≡ true)

pub done_or_not : (h : Holdings) (o : Option Instance) → DoneOrNot (asked_refresh h o).reply
done_or_not h None = inr refl
done_or_not h (Some i) = by (target_by (setting (groups_of h) i) i.row.owner)
  where
    by : (p : Option (List ℕ)) → DoneOrNot (outcome_of_refresh h i p).reply
    by None = reply_snapshot DoneOrNot h i (PutInstance (refreshed_instance h i) ∷ []) Done (λ e f. inl refl)
        (λ e. inr refl)
    by (Some owner) =
        one_of DoneOrNot (not (may_be_moved i.row)) _ _ (λ e. inr refl)
        (λ e. one_of DoneOrNot (not (nat_lt i.row.number greatest_number)) _ _ (λ f. inr refl)
        (λ f. reply_snapshot DoneOrNot h i (PutInstance (moved_instance h i owner) ∷ []) Done (λ g k. inl refl)
        (λ g. inr refl)))

refresh_done : (h : Holdings) (n : ℕ) → DoneOrNot (next h (refresh_command n)).1
unfolding next outcome_of_command asked_edit with_owners
refresh_done h n = done_or_not h (current_instance h n)

seen_there : (h : Holdings) (n : ℕ) (i : Instance) → instance h n ≡ Some i
    → instance_as_read h n ≡ Some (current (groups_of h) i)
seen_there h n i e = ap (option_map (current (groups_of h))) e

same_begins : (a b c : Row) → Stays a b → BeginsClean b c → BeginsClean a c
same_begins a b c s t = record {
  anew = record {
    number = t.anew.number ∙ ap (λ (r : Row). r.number + 1) s.same;
    state = t.anew.state;
    next = t.anew.next;
    live = t.anew.live;
    side = t.anew.side;
    last = t.anew.last ∙ ap (λ (r : Row). r.last) s.same;
    launch = t.anew.launch;
    serial = t.anew.serial;
  };
  asks = t.asks;
  failed = t.failed;
}

at_refresh : (h : Holdings) (n : ℕ) (i j : Instance) → IsNumbered h → instance h n ≡ Some i
    → instance (next h (refresh_command n)).0 n ≡ Some j → (j.row.number ≡ i.row.number) ⊎ BeginsClean i.row j.row
at_refresh h n i j numbered was is = by (refresh_done h n)
  where
    read : Instance
    read = current (groups_of h) i

    at : IsAfterRefresh (current (groups_of h) i) h (next h (refresh_command n)).0
        → Stays i.row (current (groups_of h) i).row → (current (groups_of h) i).number ≡ n
        → (j.row.number ≡ i.row.number) ⊎ BeginsClean i.row j.row
    at a s number =
        whether (target (setting (groups_of h) (current (groups_of h) i)) (current (groups_of h) i).row.owner)
      where
        one : a.after ≡ j
        one = some_same a.after j (sym a.is_there ∙ ap (instance (next h (refresh_command n)).0) number ∙ is)

        whether : {o : Option (List ℕ)}
            → Target (setting (groups_of h) (current (groups_of h) i)) (current (groups_of h) i).row.owner o
            → (j.row.number ≡ i.row.number) ⊎ BeginsClean i.row j.row
        whether (stays_there e f) =
            inl (sym (ap (λ (x : Instance). x.row.number) one)
            ∙ ap (λ (x : Instance). x.row.number) (a.stays (λ g. f g.readable g.other)).rest
            ∙ ap (λ (r : Row). r.number) s.same)
        whether (goes_there e f g) =
            inr (subst (λ (x : Instance). BeginsClean i.row x.row) one
            (same_begins i.row (current (groups_of h) i).row a.after.row s
            (a.moves (record { readable = f; other = g })).anew))

    by : DoneOrNot (next h (refresh_command n)).1 → (j.row.number ≡ i.row.number) ⊎ BeginsClean i.row j.row
    by (inl e) =
        let it : Held h n (current (groups_of h) i) = held_of h n (current (groups_of h) i) (seen_there h n i was) in
        at (after_refresh h n (current (groups_of h) i) numbered (seen_there h n i was) e)
        (subst (λ (x : Instance). Stays x.row (current (groups_of h) i).row)
        (some_same it.before i (sym it.is_there ∙ was)) it.row) it.number
    by (inr e) = inl (unmoved h (refresh_command n) n i j e was is)

-- ---- any command

pub begins_or_stays : (h : Holdings) (c : Command) (n : ℕ) (i j : Instance) → IsNumbered h → BeginsOrStays h c n i j
begins_or_stays h c n i j numbered was is apart =
    by (subst (λ (o : Option Instance). Follows c n o j) was (follows_next h c n j numbered is))
  where
    by : RowFollows c n i.row j.row → (j.row.number ≡ i.row.number) ⊎ BeginsClean i.row j.row
    by (stays s) = inl (ap (λ (r : Row). r.number) s.same)
    by (steps p e at g) = absurd (apart (subst IsStep (sym e) tt))
    by (boots e t) = at_boot h n i j numbered was (subst (λ (d : Command). instance (next h d).0 n ≡ Some j) e is)
    by (moves e from t) =
        at_refresh h n i j numbered was (subst (λ (d : Command). instance (next h d).0 n ≡ Some j) e is)
