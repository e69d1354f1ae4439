-- The value that an edit leaves once owners are written.
use Rattle.std.proofs.Common.{◌≡◌, inl, inr, ℕ, ◌==◌, ◌&&◌, not, nat_eq, Bool, true, false, cond, if◌then◌else◌, List, [], ◌∷◌, map, Option, Some, None, option_map, unwrap_or, refl, sym, ap, ◌∙◌, subst, eqb-true}
use Rattle.std.proofs.Math.Path.{fun_ext}
use Rattle.std.proofs.lemmas.Map.Entries.{option_filter}
use Rattle.std.specs.Cmp.Lexicographic.{pointwise}
use Rattle.std.specs.Ordering.{is_eq, nat_cmp}
use Rattle.smf_fmri.specs.ByKey.{Rises, amend, lookup}
use Rattle.smf_fmri.proofs.Lookups.{equal_from_test, lookup_amend}
use Rattle.smf_fmri.proofs.Patterns.{same_text}
use Rattle.smf_fmri.proofs.KeyOrder.{rises_filter}
use Rattle.smf_fmri.proofs.SameLists.{lookup_filter}
use Rattle.smf_value.specs.Groups.{GroupRecord}
use Rattle.smf_model.specs.declared.change.Change.TheVariants.{PutInstance}
use Rattle.smf_model.specs.declared.change.Outcome.{Outcome as Asked}
use Rattle.smf_model.specs.declared.command.CommandReply.{CommandReply}
use Rattle.smf_model.specs.declared.command.CommandReply.TheVariants.{Done}
use Rattle.smf_model.specs.declared.held.Instance.{Instance}
use Rattle.smf_model.specs.declared.held.InstanceEntry.{InstanceEntry}
use Rattle.smf_model.specs.declared.held.Owner.{Owner}
use Rattle.smf_model.specs.declared.held.Owner.TheVariants as owners
use Rattle.smf_model.specs.Contents.{Holdings}
use Rattle.smf_model.specs.Laws.{AreApart, IsNumbered}
use Rattle.smf_model.specs.Look.{bare, by_entry, by_instance, holdings_after_change, groups_of, in_place, holdings_after_changes, instance, instances, groups_if_there, put_over, with_instance}
use Rattle.smf_model.specs.Next.{and_owners, belongs_to, is_unwritten, owners_written, unwritten, with_owners}
use Rattle.smf_model.specs.GeneralGroup.{Groups, current, owned_by_setting, owner_by, setting}
use Rattle.smf_model.proofs.Entries.{bare_instance, rises_bare}
use Rattle.smf_model.proofs.LawLists.{apart_from_rises, at_put}
use Rattle.smf_model.proofs.LawOutcomes.{each_over, installed_append}
use Rattle.smf_model.proofs.Order.{ordered_after}
use Rattle.smf_model.proofs.Written.{is_shown, put_each}
use Rattle.smf_laws.specs.Effects.{IsAsRead}
use Rattle.smf_laws.proofs.Outcomes.{Gives}

-- ---- instances put in their places, one after another

abbrev pub put_entries : (Instance → Instance) → List Instance → List InstanceEntry → List InstanceEntry
put_entries f [] es = es
put_entries f (i ∷ is) es = put_entries f is (amend by_entry (f i).number (with_instance (f i)) es)

pub instances_put : (f : Instance → Instance) (is : List Instance) (h : Holdings)
    → holdings_after_changes h (map (λ (i : Instance). PutInstance (f i)) is)
    ≡ record h { instances = put_entries f is h.instances }
unfolding holdings_after_changes
instances_put f [] h = refl
instances_put f (i ∷ is) h = instances_put f is (holdings_after_change h (PutInstance (f i)))

-- they keep their groups
pub groups_stay : (f : Instance → Instance) (is : List Instance) (es : List InstanceEntry) (n : ℕ)
    → option_map (λ e. e.groups) (lookup by_entry (put_entries f is es) n)
    ≡ option_map (λ e. e.groups) (lookup by_entry es n)
groups_stay f [] es n = refl
groups_stay f (i ∷ is) es n =
    groups_stay f is (amend by_entry (f i).number (with_instance (f i)) es) n
    ∙ ap (option_map (λ e. e.groups)) (lookup_amend by_entry (f i).number (with_instance (f i)) es n (λ e. refl))
    ∙ by (is_eq (nat_cmp (f i).number n)) (lookup by_entry es n)
  where
    by : (b : Bool) (o : Option InstanceEntry)
        → option_map (λ (e : InstanceEntry). e.groups) (if b then option_map (with_instance (f i)) o else o)
        ≡ option_map (λ (e : InstanceEntry). e.groups) o
    by true None = refl
    by true (Some e) = refl
    by false o = refl

pub bare_each : (f : Instance → Instance) (is : List Instance) (es : List InstanceEntry)
    → bare (put_entries f is es) ≡ put_each f is (bare es)
bare_each f [] es = refl
bare_each f (i ∷ is) es = bare_each f is (amend by_entry (f i).number (with_instance (f i)) es)
    ∙ ap (put_each f is) (bare_instance (f i) es)

-- ---- what is found then

each_once : (f : Instance → Instance) (b : Bool) (i : Instance) (o p : Option Instance) → (b ≡ true → o ≡ None)
    → each_over f o (cond b (option_map (in_place (f i)) p) p) ≡ each_over f (cond b (Some i) o) p
each_once f true i o p none = rw (none refl) refl
each_once f false i o p none = refl

at_each : (f : Instance → Instance) (n : ℕ) (is xs : List Instance) → ((i : Instance) → (f i).number ≡ i.number)
    → AreApart is → lookup by_instance (put_each f is xs) n
    ≡ each_over f (lookup by_instance is n) (lookup by_instance xs n)
at_each f n [] xs same a = refl
at_each f n (i ∷ is) xs same a =
    let none : is_eq (nat_cmp i.number n) ≡ true → lookup by_instance is n ≡ None =
    λ e. subst (λ (m : ℕ). lookup by_instance is m ≡ None)
    (by_instance.exact i.number n (equal_from_test (nat_cmp i.number n) e)) a.0 in
    at_each f n is (put_over (f i) xs) same a.1
    ∙ (ap (λ (o : Option Instance). each_over f (lookup by_instance is n) o) (at_put n (f i) xs)
    ∙ (ap (λ (m : ℕ). each_over f (lookup by_instance is n)
    (cond (is_eq (nat_cmp m n)) (option_map (in_place (f i)) (lookup by_instance xs n))
    (lookup by_instance xs n))) (same i)
    ∙ each_once f (is_eq (nat_cmp i.number n)) i (lookup by_instance is n) (lookup by_instance xs n) none))

over_kept : (test : Instance → Bool) (f : Instance → Instance) (o : Option Instance)
    → ((i : Instance) → in_place (f i) i ≡ f i)
    → each_over f (option_filter test o) o ≡ option_map (λ (i : Instance). cond (test i) (f i) i) o
over_kept test f None placed = refl
over_kept test f (Some i) placed = by (test i)
  where
    by : (b : Bool) → each_over f (cond b (Some i) None) (Some i) ≡ Some (cond b (f i) i)
    by true = ap Some (placed i)
    by false = refl

placed : (gs : Groups) (i : Instance) → in_place (current gs i) i ≡ current gs i
unfolding current
placed gs i = by (i.row.number == 0)
  where
    by : (b : Bool) → in_place (owned_by_setting b (setting gs i) i) i ≡ owned_by_setting b (setting gs i) i
    by true = refl
    by false = refl

-- ---- the value then

abbrev pub is_to_write : Holdings → Owner → Instance → Bool
is_to_write k owner i = belongs_to owner i && is_unwritten (groups_of k) i

-- an instance once the owners of those of an owner are written
abbrev pub shown : Holdings → Owner → Instance → Instance
shown k owner i = cond (is_to_write k owner i) (current (groups_of k) i) i

abbrev pub written_then : Holdings → Owner → Holdings
written_then k owner = record k { instances = put_entries (current (groups_of k)) (unwritten k owner) k.instances }

pub owners_installed : (k : Holdings) (owner : Owner)
    → holdings_after_changes k (owners_written k owner) ≡ written_then k owner
owners_installed k owner = instances_put (current (groups_of k)) (unwritten k owner) k

pub owned_written : (k : Holdings) (owner other : Owner)
    → groups_if_there (written_then k owner) other ≡ groups_if_there k other
owned_written k owner (owners.Service name) = refl
owned_written k owner (owners.Instance n) = groups_stay (current (groups_of k)) (unwritten k owner) k.instances n

groups_at : (k : Holdings) (owner other : Owner) → groups_of (written_then k owner) other ≡ groups_of k other
unfolding groups_of
groups_at k owner other = ap (λ (o : Option (List GroupRecord)). unwrap_or o []) (owned_written k owner other)

pub groups_written : (k : Holdings) (owner : Owner) → groups_of (written_then k owner) ≡ groups_of k
groups_written k owner = fun_ext (λ other. groups_at k owner other)

pub written_at : (k : Holdings) (owner : Owner) (n : ℕ) → Rises by_instance (instances k)
    → instance (written_then k owner) n ≡ option_map (shown k owner) (instance k n)
written_at k owner n rises =
    let gs : Groups = groups_of k in
    let js : List Instance = unwritten k owner in
    ap (λ (is : List Instance). lookup by_instance is n) (bare_each (current gs) js k.instances)
    ∙ (at_each (current gs) n js (instances k) (λ i. (is_shown gs i).number)
    (apart_from_rises js (rises_filter by_instance (is_to_write k owner) (instances k) rises))
    ∙ (ap (λ (o : Option Instance). each_over (current gs) o (instance k n))
    (lookup_filter by_instance (is_to_write k owner) (instances k) n rises)
    ∙ over_kept (is_to_write k owner) (current gs) (instance k n) (placed gs)))

both : (a b : Bool) → (a && b) ≡ true → (a ≡ true) × (b ≡ true)
both true true e = (refl, refl)
both true false e = absurd cc
both false b e = absurd cc

-- an instance is what it was, or shows the owner that is read then
pub as_read : (k : Holdings) (owner : Owner) (n : ℕ) → Rises by_instance (instances k)
    → IsAsRead (written_then k owner) (instance k n) (instance (written_then k owner) n)
as_read k owner n rises = by (instance k n) (instance (written_then k owner) n) (written_at k owner n rises)
  where
    at : (i : Instance) (p : Option Instance) (b : Bool) → is_to_write k owner i ≡ b
        → p ≡ Some (cond b (current (groups_of k) i) i) → IsAsRead (written_then k owner) (Some i) p
    at i p true f e = inr (
      i,
      refl,
      eqb-true i.row.number 0
          (both (i.row.number == 0) _ (both (belongs_to owner i) (is_unwritten (groups_of k) i) f).1).0,
      e ∙ ap (λ (gs : Groups). Some (current gs i)) (sym (groups_written k owner)),
    )
    at i p false f e = inl e

    by : (o p : Option Instance) → p ≡ option_map (shown k owner) o → IsAsRead (written_then k owner) o p
    by None p e = inl e
    by (Some i) p e = at i p (is_to_write k owner i) refl e

-- ---- an instance whose owner is written

is_text : (a b : List ℕ) (t : Bool) → pointwise nat_eq a b ≡ t → not t ≡ false → a ≡ b
is_text a b true e f = (same_text a b).0 e
is_text a b false e f = absurd cc

-- an instance whose owner need not be written shows the owner that is read
pub shows_already : (gs : Groups) (i : Instance) → is_unwritten gs i ≡ false → current gs i ≡ i
unfolding current
shows_already gs i e = by (i.row.number == 0) e
  where
    by : (b : Bool) → (b && not (pointwise nat_eq i.row.owner (owner_by (setting gs i)))) ≡ false
        → owned_by_setting b (setting gs i) i ≡ i
    by true f =
        ap (λ (owner : List ℕ). let x : Instance = record i { row = record i.row { owner = owner } } in x)
        (sym (is_text i.row.owner (owner_by (setting gs i))
        (pointwise nat_eq i.row.owner (owner_by (setting gs i))) refl f))
    by false f = refl

pub shown_of : (k : Holdings) (owner : Owner) (i : Instance) → belongs_to owner i ≡ true
    → shown k owner i ≡ current (groups_of k) i
shown_of k owner i e = by (is_unwritten (groups_of k) i) refl (belongs_to owner i) e
  where
    by : (b : Bool) → is_unwritten (groups_of k) i ≡ b → (d : Bool) → d ≡ true
        → cond (d && b) (current (groups_of k) i) i ≡ current (groups_of k) i
    by true f true g = refl
    by false f true g = sym (shows_already (groups_of k) i f)
    by b f false g = absurd cc

-- ---- an edit that is done

pub rises_after : (h : Holdings) (a : Asked) → IsNumbered h
    → Rises by_instance (instances (holdings_after_changes h a.changes))
rises_after h a numbered =
    rises_bare (holdings_after_changes h a.changes).instances (ordered_after h a.changes numbered.ordered).instances

-- an edit that may name restarters writes owners after its changes
pub gives_owners : (h : Holdings) (P Q : Holdings → Type 0) (o : Option Owner) (a : Asked) → Gives h Done P a
    → ((k : Holdings) → o ≡ None → P k → Q k)
    → ((k : Holdings) (owner : Owner) → o ≡ Some owner → (IsNumbered h → Rises by_instance (instances k)) → P k
    → Q (written_then k owner))
    → Gives h Done Q (with_owners h o a)
unfolding with_owners
gives_owners h P Q None a p none some e = none (holdings_after_changes h a.changes) refl (p e)
gives_owners h P Q (Some owner) a p none some e =
    let k : Holdings = holdings_after_changes h a.changes in
    subst (λ (r : CommandReply). Q (holdings_after_changes h (and_owners h owner a.changes r))) (sym e)
    (subst Q (sym (installed_append h a.changes (owners_written k owner) ∙ owners_installed k owner))
    (some k owner refl (rises_after h a) (p e)))

-- its reply stays
pub same_reply : (h : Holdings) (o : Option Owner) (a : Asked) → (with_owners h o a).reply ≡ a.reply
unfolding with_owners
same_reply h None a = refl
same_reply h (Some owner) a = refl
