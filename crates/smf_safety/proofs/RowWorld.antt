-- Commands, messages and items keep the clauses on all rows, proposals and answers. A boot of a found value makes them
-- hold.
use Rattle.std.proofs.Common.{◌≡◌, inl, inr, ℕ, ◌==◌, Bool, true, false, cond, List, [], ◌∷◌, ◌++◌, reverse, Option, Some, None, option_map, refl, sym, ap, ◌∙◌, subst, arith}
use Rattle.smf_fmri.specs.ByKey.{lookup}
use Rattle.smf_state.specs.declared.row.Row.{Row}
use Rattle.smf_state.specs.declared.state.State.TheVariants.{Uninitialized, Offline}
use Rattle.smf_model.specs.declared.command.Command.{Command}
use Rattle.smf_model.specs.declared.command.Command.TheVariants as commands
use Rattle.smf_model.specs.declared.held.Instance.{Instance}
use Rattle.smf_model.specs.History.{History, holdings_after_commands, value_at}
use Rattle.smf_model.specs.Contents.{Holdings}
use Rattle.smf_model.specs.Laws.{IsNumbered}
use Rattle.smf_model.specs.Look.{by_instance, instance, instances}
use Rattle.smf_model.specs.Next.{outcome_of_command, instance_after_boot as booted_instance, booted_row, next}
use Rattle.smf_model.specs.GeneralGroup.{setting, owner_by}
use Rattle.smf_model.proofs.LawLists.{some_same}
use Rattle.smf_model.proofs.LawNumbers.{instances_rise, stays_numbered}
use Rattle.smf_model.proofs.LawOutcomes.{apart, booted_at}
use Rattle.smf_wire.specs.declared.message.Message.{Message}
use Rattle.smf_world.specs.declared.item.Item.{Item}
use Rattle.smf_world.specs.declared.item.Item.TheVariants.{Boot, Committed, Emptied, Held, Spawned}
use Rattle.smf_world.specs.Items.{items_of}
use Rattle.smf_world.specs.Safe.{WasSpawned}
use Rattle.smf_world.proofs.CommitLists.{put_all}
use Rattle.smf_world.proofs.ItemsMade.{AreMade, boot_leaves, items_made, lasting}
use Rattle.smf_world.proofs.TrailItems.{AllCommit, made_commit, noted, noted_more}
use Rattle.smf_world.proofs.RowClauses.{AreSpent, WasRow, WereRows}
use Rattle.smf_safety.proofs.RowHistory.{announced_later, more, newest_more, value_cases, were_later}
use Rattle.smf_safety.proofs.RowLater.{IsProper, boot_is_later, fit_booted, fit_later, is_known, was_now}
use Rattle.smf_safety.proofs.RowMade.{moves}
use Rattle.smf_world.proofs.RowMoves.{Moves}
use Rattle.smf_safety.proofs.SaidClauses.{AllMayBeSaid, AreRows}
use Rattle.smf_safety.proofs.SaidLater.{IsAskable, are_proper, are_said_later, explained_later, explained_more, said_all, spent_later, within_all}

-- ---- a command that is accepted

pub rows_commanded : (y : History) (h : Holdings) (ms : List Message) (t : List Item) (c : Command)
    → AreMade (outcome_of_command h c).changes → IsAskable ms c → AreRows y h ms t
    → AreRows (more y c) (next h c).0 ms t
rows_commanded y h ms t c holdings_after_commands ask r =
    let m : Moves h c (next h c).0 = moves h c r.numbered holdings_after_commands in
    let numbered : IsNumbered (next h c).0 = stays_numbered h c r.numbered in
    let proper : IsProper h c = are_proper h ms c r.said ask in
    record {
      numbered = numbered;
      newest = newest_more y h c r.newest;
      fit = fit_later h c (next h c).0 m proper r.fit;
      were = were_later y h c r.newest numbered r.fit m r.were;
      announced = announced_later y h c r.newest r.fit proper m r.announced;
      explained = explained_later h c (next h c).0 ms r.fit r.said ask m r.explained;
      said = are_said_later h c (next h c).0 ms r.fit m r.said;
      spent = λ n run s. spent_later h c (next h c).0 n run r.fit m (r.spent n run s);
    }

-- ---- further messages

pub rows_said : (y : History) (h : Holdings) (ms : List Message) (t : List Item) (further : List Message)
    → AllMayBeSaid h ms further → AreRows y h ms t → AreRows y h (reverse further ++ ms) t
rows_said y h ms t further may r =
    record {
      numbered = r.numbered;
      newest = r.newest;
      fit = r.fit;
      were = r.were;
      announced = r.announced;
      explained = explained_more h ms (reverse further ++ ms) (λ m s. within_all further ms m s) r.explained;
      said = said_all h further ms may r.said;
      spent = r.spent;
    }

-- ---- further items

pub rows_noted : (y : History) (h : Holdings) (ms : List Message) (t u : List Item) → AreSpent h u → AreRows y h ms t
    → AreRows y h ms u
rows_noted y h ms t u spent r =
    record {
      numbered = r.numbered;
      newest = r.newest;
      fit = r.fit;
      were = r.were;
      announced = r.announced;
      explained = r.explained;
      said = r.said;
      spent = spent;
    }

-- items that begin no run
abbrev pub NoneBegun : List Item → Type 0
NoneBegun [] = Unit {0}
NoneBegun (Spawned c i run method revision command ∷ xs) = ⊥
NoneBegun (x ∷ xs) = NoneBegun xs

spawned_behind : (n run : ℕ) (x : Item) (xs t : List Item) → NoneBegun (x ∷ xs) → WasSpawned n run (x ∷ t)
    → WasSpawned n run t
spawned_behind n run (Committed j m s next) xs t b w = w
spawned_behind n run (Held name launch j m s) xs t b w = w
spawned_behind n run (Spawned c i r method revision command) xs t b w = absurd b
spawned_behind n run (Emptied c) xs t b w = w
spawned_behind n run Boot xs t b w = w

none_behind : (x : Item) (xs : List Item) → NoneBegun (x ∷ xs) → NoneBegun xs
none_behind (Committed j m s next) xs b = b
none_behind (Held name launch j m s) xs b = b
none_behind (Spawned c i r method revision command) xs b = absurd b
none_behind (Emptied c) xs b = b
none_behind Boot xs b = b

-- after them the begun runs are those from before
pub none_begun : (n run : ℕ) (xs t : List Item) → NoneBegun xs → WasSpawned n run (noted xs t) → WasSpawned n run t
none_begun n run [] t b w = w
none_begun n run (x ∷ xs) t b w =
    spawned_behind n run x xs t b
    (none_begun n run xs (x ∷ t) (none_behind x xs b) (subst (WasSpawned n run) (noted_more x xs t) w))

commits_begin_none : (xs : List Item) → AllCommit true xs → NoneBegun xs
commits_begin_none [] a = tt
commits_begin_none (Committed j m s next ∷ xs) a = commits_begin_none xs a.1
commits_begin_none (Held name launch j m s ∷ xs) a = absurd (let e = a.0 in cc)
commits_begin_none (Spawned c i r method revision command ∷ xs) a = absurd (let e = a.0 in cc)
commits_begin_none (Emptied c ∷ xs) a = absurd (let e = a.0 in cc)
commits_begin_none (Boot ∷ xs) a = commits_begin_none xs a.1

-- the items of a command begin no run
pub items_begin_none : (h : Holdings) (c : Command) → IsNumbered h → AreMade (outcome_of_command h c).changes
    → NoneBegun (items_of h c (outcome_of_command h c).changes)
items_begin_none h c numbered holdings_after_commands =
    subst NoneBegun (sym (items_made h c numbered holdings_after_commands))
    (commits_begin_none _ (made_commit c h (next h c).0))

pub rows_unbegun : (y : History) (h : Holdings) (ms : List Message) (t xs : List Item) → NoneBegun xs
    → AreRows y h ms t → AreRows y h ms (noted xs t)
rows_unbegun y h ms t xs none r =
    rows_noted y h ms t (noted xs t) (λ n run w. r.spent n run (none_begun n run xs t none w)) r

-- ---- a boot of what was found

-- each instance after a boot is one from before, booted
booted_found : (h : Holdings) (n : ℕ) (j : Instance) → IsNumbered h
    → AreMade (outcome_of_command h commands.Boot).changes → instance (next h commands.Boot).0 n ≡ Some j
    → (i : Instance) × (instance h n ≡ Some i) × (j.row ≡ booted_row i.row (owner_by (setting (lasting h) i)))
booted_found h n j numbered holdings_after_commands there =
    let all = boot_leaves h (apart h numbered) holdings_after_commands
    ∙ sym (put_all (lasting h) (instances h) (apart h numbered)) in
    by (instance h n) refl
    (sym (ap (λ (xs : List Instance). lookup by_instance xs n) all ∙ booted_at h (lasting h) n numbered) ∙ there)
  where
    by : (o : Option Instance) → instance h n ≡ o → option_map (booted_instance (lasting h)) o ≡ Some j
        → (i : Instance) × (instance h n ≡ Some i) × (j.row ≡ booted_row i.row (owner_by (setting (lasting h) i)))
    by None e f = absurd cc
    by (Some i) e f = (i, e, ap (λ (x : Instance). x.row) (some_same j (booted_instance (lasting h) i) (sym f)))

not_offline : (r : Row) → r.state ≡ Uninitialized → r.state ≡ Offline → ⊥
not_offline r e f = let both : Uninitialized ≡ Offline = sym e ∙ f in cc

pub rows_at_first : (h : Holdings) → IsNumbered h → AreMade (outcome_of_command h commands.Boot).changes
    → AreRows (record { first = h; past = commands.Boot ∷ [] }) (next h commands.Boot).0 [] []
rows_at_first h numbered holdings_after_commands =
    let k : Holdings = (next h commands.Boot).0 in
    let is_k : IsNumbered k = stays_numbered h commands.Boot numbered in
    record {
      numbered = is_k;
      newest = refl;
      fit = λ n j e. (let b = booted_found h n j numbered holdings_after_commands e in
          fit_booted k b.0.row j.row (owner_by (setting (lasting h) b.0)) b.2);
      were = were is_k;
      announced = λ n j e offline online. absurd
          (let b = booted_found h n j numbered holdings_after_commands e in
          not_offline j.row (ap (λ (r : Row). r.state) b.2) offline);
      explained = λ n j e. (
          let b = booted_found h n j numbered holdings_after_commands e in
          record {
            granted = λ l. absurd (let none = ap (λ (r : Row). r.launch) b.2 in omega arith);
            state = λ l. ap (λ (r : Row). r.state) b.2;
            next = λ l. ap (λ (r : Row). r.next) b.2;
          }
          );
      said = record { each = tt; once = λ p q a. absurd a };
      spent = λ n run w. absurd w;
    }
  where
    y : History
    y = record { first = h; past = [] }

    first_value : (m : ℕ) (v : Holdings) → value_at y m ≡ Some v → v ≡ h
    first_value m v e = by (h.revision == m) e
      where
        by : (b : Bool) → cond b (Some h) None ≡ Some v → v ≡ h
        by true f = some_same v h (sym f)
        by false f = absurd cc

    were : IsNumbered (next h commands.Boot).0
        → WereRows (record { first = h; past = commands.Boot ∷ [] }) (next h commands.Boot).0
    were is_k m v n i at there = elim (value_cases y h commands.Boot m v refl at) [
      | inl is ↦ was_now (next h commands.Boot).0 n i is_k (subst (λ (k : Holdings). instance k n ≡ Some i) is there)
      | inr old ↦ before (subst (λ (k : Holdings). instance k n ≡ Some i) (first_value m v old) there)
    ]
      where
        before : instance h n ≡ Some i → WasRow (next h commands.Boot).0 n i.row
        before was =
            record {
              known = (let low = is_known h n i numbered was in let up = instances_rise h commands.Boot in omega arith);
              before = λ j e.
                  let b = booted_found h n j numbered holdings_after_commands e in
                  let same : b.0 ≡ i = some_same b.0 i (sym b.1 ∙ was) in
                  boot_is_later i.row j.row (owner_by (setting (lasting h) b.0))
                  (b.2 ∙ ap (λ (x : Instance). booted_row x.row (owner_by (setting (lasting h) b.0))) same);
            }
