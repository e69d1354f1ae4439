-- Changes that a command asks for keep the rules of a value, and so does the instance that it finds.
use Rattle.std.proofs.Common.{◌≡◌, ℕ, ◌+◌, ◌<◌, ◌≤◌, ◌==◌, nat_lt, Bool, true, false, if◌then◌else◌, List, [], ◌∷◌, ◌++◌, Option, Some, None, option_map, IsSome, refl, sym, ap, ◌∙◌, subst, arith, eqb-true, ltb-true}
use Rattle.std.specs.Prelude.{unwrap_or}
use Rattle.smf_fmri.specs.ByKey.{lookup}
use Rattle.smf_fmri.proofs.SameLists.{found_key}
use Rattle.smf_state.specs.declared.row.Row.{Row}
use Rattle.smf_value.specs.Groups.{GroupRecord}
use Rattle.smf_model.specs.declared.change.Change.{Change}
use Rattle.smf_model.specs.declared.change.Change.TheVariants.{PutGroups, SetRevision}
use Rattle.smf_model.specs.declared.change.Outcome.{Outcome}
use Rattle.smf_model.specs.declared.command.CommandReply.{CommandReply}
use Rattle.smf_model.specs.declared.command.CommandReply.TheVariants.{Limit}
use Rattle.smf_model.specs.declared.held.Instance.{Instance}
use Rattle.smf_model.specs.declared.held.InstanceEntry.{InstanceEntry}
use Rattle.smf_model.specs.declared.held.Owner.{Owner}
use Rattle.smf_model.specs.declared.held.Owner.TheVariants as owners
use Rattle.smf_model.specs.declared.held.Service.{Service}
use Rattle.smf_model.specs.declared.general_group.Setting.{Setting}
use Rattle.smf_model.specs.Contents.{Holdings}
use Rattle.smf_model.specs.Look.{by_entry, by_instance, holdings_after_change, groups_of, holdings_after_changes, instance, instances, launch_of, service}
use Rattle.smf_model.specs.Next.{acceptance_with, current_instance, greatest, refusal_with}
use Rattle.smf_model.specs.GeneralGroup.{Groups, current, owned_by_setting, owner_by, setting}
use Rattle.smf_model.proofs.LawOutcomes.{installed_closed}
use Rattle.smf_laws.specs.Consistent.{AreOwned, IsBounded, IsConsistent, IsInstanceHeld, IsLaunched, IsOwn}
use Rattle.smf_laws.proofs.Held.{Follows, instance_groups_put, revision_set, service_groups_put}
use Rattle.smf_laws.proofs.Owned.{none_owned}

-- the value keeps its rules with what is asked
abbrev pub Keeps : Holdings → Outcome → Type 0
Keeps h a = IsConsistent (holdings_after_changes h a.changes)

pub either : (h : Holdings) (b : Bool) (x y : Outcome) → Keeps h x → Keeps h y → Keeps h (if b then x else y)
either h true x y p q = p
either h false x y p q = q

pub refuses : (h : Holdings) (r : CommandReply) → IsConsistent h → Keeps h (refusal_with r)
unfolding holdings_after_changes
refuses h r c = c

pub accepts : (h : Holdings) (cs : List Change) (r : CommandReply) → IsConsistent h
    → IsConsistent (holdings_after_changes h cs) → Keeps h (acceptance_with h cs r)
accepts h cs r c k = by (nat_lt h.revision greatest) refl
  where
    by : (b : Bool) → nat_lt h.revision greatest ≡ b
        → Keeps h (if b then (record { changes = cs ++ SetRevision (h.revision + 1) ∷ []; reply = r })
        else refusal_with Limit)
    by true e =
        let low : h.revision < greatest = ltb-true h.revision greatest e in
        subst IsConsistent (sym (installed_closed h cs (h.revision + 1)))
        (revision_set (holdings_after_changes h cs) (h.revision + 1) k (omega arith)).consistent
    by false e = refuses h Limit c

one_change : (h : Holdings) (x : Change) → holdings_after_changes h (x ∷ []) ≡ holdings_after_change h x
unfolding holdings_after_changes
one_change h x = refl

pub accepts_one : (h : Holdings) (x : Change) (r : CommandReply) → IsConsistent h
    → Follows h (holdings_after_change h x) → Keeps h (acceptance_with h (x ∷ []) r)
accepts_one h x r c f = accepts h (x ∷ []) r c (subst IsConsistent (sym (one_change h x)) f.consistent)

pub accepts_none : (h : Holdings) (r : CommandReply) → IsConsistent h → Keeps h (acceptance_with h [] r)
unfolding holdings_after_changes
accepts_none h r c = accepts h [] r c c

-- ---- an owner's groups

pub owned_of : (h : Holdings) (owner : Owner) → IsConsistent h → AreOwned (groups_of h owner)
unfolding groups_of
owned_of h (owners.Service name) c = by (service h name) refl
  where
    by : (o : Option Service) → service h name ≡ o → AreOwned (unwrap_or (option_map (λ s. s.groups) o) [])
    by None e = none_owned
    by (Some s) e = (c.services name s e).groups
owned_of h (owners.Instance n) c = by (lookup by_entry h.instances n) refl
  where
    by : (o : Option InstanceEntry) → lookup by_entry h.instances n ≡ o
        → AreOwned (unwrap_or (option_map (λ e. e.groups) o) [])
    by None e = none_owned
    by (Some d) e = c.groups n d e

pub groups_put : (h : Holdings) (owner : Owner) (gs : List GroupRecord) → IsConsistent h → AreOwned gs
    → Follows h (holdings_after_change h (PutGroups owner gs))
groups_put h (owners.Service name) gs c owned = service_groups_put h name gs c owned
groups_put h (owners.Instance n) gs c owned = instance_groups_put h n gs c owned

-- ---- the instance that is found

-- an instance with another row
pub with_row_held : (h : Holdings) (i : Instance) (row : Row) → IsInstanceHeld h i → IsBounded row → IsLaunched h row
    → IsOwn h i.number row.running → IsOwn h i.number row.begun → IsInstanceHeld h (record i { row = row })
with_row_held h i row held bounded launched running begun =
    record {
      named = held.named;
      of_service = held.of_service;
      bounded = bounded;
      launched = launched;
      snapshots = record {
        start = held.snapshots.start;
        previous = held.snapshots.previous;
        running = running;
        begun = begun;
      };
    }

-- an instance as it is read is there under its number
pub record IsFound (h : Holdings) (n : ℕ) (i : Instance) : Type 0 where
  pub held : IsInstanceHeld h i
  pub number : i.number ≡ n
  pub there : IsSome (instance h i.number)

none_launched : (n m : ℕ) → n ≡ 0 → n ≤ m
none_launched n m e = omega arith

pub current_held : (h : Holdings) (gs : Groups) (i : Instance) → IsInstanceHeld h i → IsInstanceHeld h (current gs i)
unfolding current
current_held h gs i held = by (i.row.number == 0) refl (setting gs i)
  where
    by : (b : Bool) → (i.row.number == 0) ≡ b → (s : Setting) → IsInstanceHeld h (owned_by_setting b s i)
    by true e s =
        let row : Row = record i.row { owner = owner_by s } in
        let none : i.row.launch ≡ 0 = held.launched.first (eqb-true i.row.number 0 e) in
        with_row_held h i row held
        (record {
          live = held.bounded.live;
          side = held.bounded.side;
          last = held.bounded.last;
          number = held.bounded.number;
          serial = held.bounded.serial;
        })
        (record { given = none_launched i.row.launch (launch_of h (owner_by s)) none; first = held.launched.first })
        held.snapshots.running held.snapshots.begun
    by false e s = held

current_number : (gs : Groups) (i : Instance) → (current gs i).number ≡ i.number
unfolding current
current_number gs i = by (i.row.number == 0) (setting gs i)
  where
    by : (b : Bool) (s : Setting) → (owned_by_setting b s i).number ≡ i.number
    by true s = refl
    by false s = refl

is_some : (o : Option Instance) (i : Instance) → o ≡ Some i → IsSome o
is_some None i e = absurd cc
is_some (Some j) i e = refl

is_found : (h : Holdings) (n : ℕ) (i : Instance) → IsConsistent h → instance h n ≡ Some i
    → IsFound h n (current (groups_of h) i)
is_found h n i c e =
    let number : (current (groups_of h) i).number ≡ n =
    current_number (groups_of h) i ∙ found_key by_instance n (instances h) i e in
    record {
      held = current_held h (groups_of h) i (c.instances n i e);
      number = number;
      there = is_some (instance h (current (groups_of h) i).number) i (ap (instance h) number ∙ e);
    }

pub by_found : (h : Holdings) (n : ℕ) (ask : Option Instance → Outcome) → IsConsistent h → Keeps h (ask None)
    → ((i : Instance) → IsFound h n i → Keeps h (ask (Some i))) → Keeps h (ask (current_instance h n))
by_found h n ask c none some = by (instance h n) refl
  where
    by : (o : Option Instance) → instance h n ≡ o → Keeps h (ask (option_map (current (groups_of h)) o))
    by None e = none
    by (Some i) e = some (current (groups_of h) i) (is_found h n i c e)
