-- Rows that show the groups of a value may stand in its table.
use Rattle.std.proofs.Common.{◌≡◌, ◌<◌, ◌≤◌, inl, inr, ℕ, ◌+◌, pos, List, [], ◌∷◌, ◌++◌, ◌==◌, not, length, filter, Bool, true, false, cond, Some, None, option_map, Ok, refl, sym, ap, subst, ◌∙◌, arith, lt-ltb, ne_eqb}
use Rattle.std.specs.Prelude.{nat_eq}
use Rattle.std.specs.Cmp.Lexicographic.{pointwise}
use Rattle.std.specs.declared.cmp.Ordering.TheVariants.{Less, Equal}
use Rattle.sqlite.specs.declared.types.Value.TheVariants.{Text}
use Rattle.sqlite.specs.Order.{Row, column}
use Rattle.sqlite.specs.Tree.{rowid}
use Rattle.sqlite_rules.specs.Lists.{Has}
use Rattle.smf_fmri.specs.ByKey.{By, Rises, has_key, lookup, list_with_item, without}
use Rattle.smf_fmri.specs.Patterns.{service_of}
use Rattle.smf_fmri.specs.Name.{name_of_text, short}
use Rattle.smf_fmri.proofs.Lookups.{same_key}
use Rattle.smf_fmri.proofs.Patterns.{same_text}
use Rattle.smf_fmri.proofs.SameLists.{found_key}
use Rattle.smf_fmri.proofs.Services.{service_named}
use Rattle.smf_value.specs.Groups.{GroupRecord, by_group}
use Rattle.smf_model.specs.declared.change.Change.TheVariants.{PutGroups}
use Rattle.smf_model.specs.declared.held.Instance.{Instance}
use Rattle.smf_model.specs.declared.held.InstanceEntry.{InstanceEntry}
use Rattle.smf_model.specs.declared.held.Owner.{Owner}
use Rattle.smf_model.specs.declared.held.Owner.TheVariants as owners
use Rattle.smf_model.specs.declared.held.Service.{Service}
use Rattle.smf_model.specs.Contents.{Holdings}
use Rattle.smf_model.specs.Look.{by_entry, holdings_after_change, group_in, instance, groups_if_there, service}
use Rattle.smf_model.specs.Next.{most_groups}
use Rattle.smf_model.proofs.Entries.{lookup_bare}
use Rattle.smf_laws.specs.Consistent.{IsConsistent}
use Rattle.smf_store.specs.declared.counter_rows.StoreVersion.{StoreVersion}
use Rattle.smf_store.specs.declared.judgements.StoreRows.{StoreRows}
use Rattle.smf_store.specs.Cells.{IsOwnerUnder, PutsGroup}
use Rattle.smf_store.specs.Gathered.{AreRead, rows_of}
use Rattle.smf_store.specs.Judged.{add_all, add_group, owner_said, put_group}
use Rattle.smf_store.specs.RowValues.{◌>>=◌, number_in, text_in}
use Rattle.smf_store.specs.Shown.{HasGroup, of_service, of_instance, OwnedGroup, ShowsGroup}
use Rattle.smf_store.specs.Unique.{one_group}
use Rattle.smf_store.proofs.Again.{group_again, low_again, number_again, short_named}
use Rattle.smf_store.proofs.Found.{all_above, found_has, has_found}
use Rattle.smf_store.proofs.Groups.{puts_group}
use Rattle.smf_store.proofs.InTurn.{in_turn}
use Rattle.smf_store.proofs.Makes.{none_some, some_is}
use Rattle.smf_store.proofs.Members.{without_other}
use Rattle.smf_store.proofs.Sole.{AreSole}
use Rattle.smf_store.proofs.Spelt.{low_name}
use Rattle.smf_store.proofs.TakenRows.{instance_held, none_of, number_low, service_held, service_name, with_groups, with_instances}

-- ---- a list with no key twice is no longer than one that has all of its items

not_true : (b : Bool) → (b ≡ true → ⊥) → b ≡ false
not_true true h = absurd (h refl)
not_true false h = refl

shorter_filter : {X : Type 0} (p : X → Bool) (xs : List X) → length (filter p xs) ≤ length xs
shorter_filter p [] = omega arith
shorter_filter p (x ∷ xs) = by (p x) (shorter_filter p xs)
  where
    by : (b : Bool) → length (filter p xs) ≤ length xs
        → length (cond b (x ∷ filter p xs) (filter p xs)) ≤ length (x ∷ xs)
    by true h = omega (arith, h)
    by false h = omega (arith, h)

less_filter : {X : Type 0} (p : X → Bool) (xs : List X) (y : X) → Has xs y → p y ≡ false
    → length (filter p xs) + 1 ≤ length xs
less_filter p [] y h e = absurd h
less_filter p (x ∷ xs) y (inl same) e =
    let out : p x ≡ false = ap p (sym same) ∙ e in
    let less = shorter_filter p xs in
    subst (λ b. length (cond b (x ∷ filter p xs) (filter p xs)) + 1 ≤ length (x ∷ xs)) (sym out) (omega (arith, less))
less_filter p (x ∷ xs) y (inr more) e = by (p x) (less_filter p xs y more e)
  where
    by : (b : Bool) → length (filter p xs) + 1 ≤ length xs
        → length (cond b (x ∷ filter p xs) (filter p xs)) + 1 ≤ length (x ∷ xs)
    by true h = omega (arith, h)
    by false h = omega (arith, h)

module _ {X K : Type 0} (o : By X K) where
  abbrev Differ : List X → Type 0
  Differ [] = Unit {0}
  Differ (x ∷ xs) = ((y : X) → Has xs y → o.key x ≡ o.key y → ⊥) × Differ xs

  differ_rising : (xs : List X) → Rises o xs → Differ xs
  differ_rising [] r = tt
  differ_rising (x ∷ xs) r = (
    (λ y h same.
        let less : o.cmp (o.key x) (o.key y) ≡ Less = all_above o xs (o.key x) y r.0 r.1 h in
        let equal : o.cmp (o.key x) (o.key y) ≡ Equal = ap (o.cmp (o.key x)) (sym same) ∙ same_key o (o.key x) in
        let clash : Less ≡ Equal = sym less ∙ equal in cc),
    differ_rising xs r.1,
  )

  fewer : (xs ys : List X) → Differ xs → ((x : X) → Has xs x → lookup o ys (o.key x) ≡ Some x) → length xs ≤ length ys
  fewer [] ys d all = omega arith
  fewer (x ∷ xs) ys d all =
      let found = all x (inl refl) in
      let out : not (has_key o (o.key x) x) ≡ false = rw (same_key o (o.key x)) refl in
      let less = less_filter (λ y. not (has_key o (o.key x) y)) ys x (found_has o ys (o.key x) x found) out in
      let rest = fewer xs (without o (o.key x) ys) d.1
      (λ y h. without_other o (o.key x) ys (o.key y) (d.0 y h) ∙ all y (inr h)) in
      omega (arith, less, rest)

module _ (version : StoreVersion) (h : Holdings) (rows : StoreRows) (a : AreRead (rows_of version rows) h) (sole : AreSole rows) (c : IsConsistent h) where
  abbrev Read : List Row → Holdings → Type 0
  Read done k = AreRead (with_groups version h rows a sole c done) k

  abbrev owned_row : List ℕ → ℕ → GroupRecord → OwnedGroup
  owned_row service number g = record { service = service; number = number; group = g }

  -- the groups that an owner has so far, with one more that it has in the value, are no more than it has there
  room : (done : List Row) (k : Holdings) → ((q : Row) → Has done q → Has rows.groups.items q) → Read done k
      → (name : List ℕ) (number : ℕ) (g : GroupRecord) (gs hs : List GroupRecord) → Rises by_group gs
      → ((z : GroupRecord) → group_in gs z.name ≡ Some z → HasGroup k (owned_row name number z))
      → ((z : GroupRecord) → HasGroup h (owned_row name number z) → group_in hs z.name ≡ Some z)
      → HasGroup h (owned_row name number g) → group_in gs g.name ≡ None → length hs ≤ most_groups
      → length gs < most_groups
  room done k within p name number g gs hs rises its held has none few =
      let goes : (z : GroupRecord) → Has gs z → group_in hs z.name ≡ Some z = λ z there.
      let q = p.groups.there (owned_row name number z) (its z (has_found by_group gs z rises there)) in
      let y = a.groups.only q.0 (within q.0 q.1) in
      held z (subst (HasGroup h) (sym (one_group (owned_row name number z) y.0 q.0 q.2 y.2)) y.1) in
      let apart : (z : GroupRecord) → Has gs z → g.name ≡ z.name → ⊥ = λ z there same.
      none_some z (group_in gs g.name) none (ap (group_in gs) same ∙ has_found by_group gs z rises there) in
      let most = fewer by_group (g ∷ gs) hs (apart, differ_rising by_group gs rises)
      (λ z there. elim there [
        | inl same ↦ subst (λ w. group_in hs w.name ≡ Some w) (sym same) (held g has)
        | inr more ↦ goes z more
      ]) in
      omega (arith, most, few)

  put_one : (done : List Row) (r : Row) (k : Holdings) (x : OwnedGroup) (owner : Owner) (gs : List GroupRecord)
      → ShowsGroup x r → text_in (column r 1) ≡ Some x.service → number_in (column r 2) ≡ Some x.number
      → owner_said k x.service x.number ≡ Some owner → IsOwnerUnder k x.service x.number owner
      → groups_if_there k owner ≡ Some gs → group_in gs x.group.name ≡ None → length gs < most_groups → Read done k
      → (next : Holdings) × (add_group k r ≡ Some next) × Read (done ++ r ∷ []) next
  unfolding add_group put_group
  put_one done r k x owner gs shows text number said under there none few p =
      let next : Holdings = holdings_after_change k (PutGroups owner (list_with_item by_group x.group gs)) in
      let puts : PutsGroup owner x.group k next = record { groups = gs; there = there; none = none; made = refl } in (
        next,
        rw (group_again x r shows, text, number, said, there, none, lt-ltb (length gs) most_groups few) refl,
        puts_group k next x.service x.number owner x.group r under puts
            (record { formed = shows.formed; name_is = shows.name_is; body_is = shows.body_is }) shows.service_is
            shows.number_is (with_groups version h rows a sole c done) p,
      )

  -- no row before this one shows a group of its owner and its name
  unnamed : (done : List Row) (r : Row) (k : Holdings) → Has rows.groups.items r
      → ((q : Row) → Has done q → Has rows.groups.items q) → ((q : Row) → Has done q → rowid q ≡ rowid r → ⊥)
      → Read done k
      → (x : OwnedGroup) → ShowsGroup x r → (gs : List GroupRecord)
      → ((z : GroupRecord) → group_in gs z.name ≡ Some z → HasGroup k (owned_row x.service x.number z))
      → group_in gs x.group.name ≡ None
  unnamed done r k here within fresh p x shows gs its = none_of (group_in gs x.group.name) (λ z e.
      let key : z.name ≡ x.group.name = found_key by_group x.group.name gs z e in
      let q = p.groups.there (owned_row x.service x.number z) (its z (ap (group_in gs) key ∙ e)) in
      sole.groups q.0 r x.service x.group.name (pos x.number)
      (within q.0 q.1) here q.2.service_is shows.service_is q.2.number_is shows.number_is
      (q.2.name_is ∙ ap Text key) shows.name_is (fresh q.0 q.1))

  step_by : (done : List Row) (r : Row) (k : Holdings) → Has rows.groups.items r
      → ((q : Row) → Has done q → Has rows.groups.items q) → ((q : Row) → Has done q → rowid q ≡ rowid r → ⊥)
      → Read done k
      → (x : OwnedGroup) → HasGroup h x → ShowsGroup x r → (next : Holdings) × (add_group k r ≡ Some next)
      × Read (done ++ r ∷ []) next
  unfolding owner_said
  step_by done r k here within fresh p x (of_service nought s e m) shows =
      let named = service_name version h rows a sole c x.service (s, e) in
      let t = service_held version h rows a sole c k p.services x.service (s, e) in
      let owner : Owner = owners.Service x.service in
      let zero_of : (z : GroupRecord) → group_in t.0.groups z.name ≡ Some z
      → HasGroup k (owned_row x.service x.number z) = λ z f. of_service nought t.0 t.1 f in
      let held : (z : GroupRecord) → HasGroup h (owned_row x.service x.number z) → group_in s.groups z.name ≡ Some z =
      λ z g. own_group x.service x.number s z nought e g in
      let none = unnamed done r k here within fresh p x shows t.0.groups zero_of in
      let few = room done k within p x.service x.number x.group t.0.groups s.groups
      (p.arranged.service_groups x.service t.0 t.1) zero_of held (of_service nought s e m) none
      (c.services x.service s e).groups.few in
      let said : owner_said k x.service x.number ≡ Some owner =
      ap (λ n. owner_said k x.service n) nought
      ∙ ap (λ o. o >>= (λ name. Some (owners.Service name))) (short_named x.service named) in
      put_one done r k x owner t.0.groups shows
      (low_again (column r 1) x.service shows.service_is (low_name x.service named.reads))
      (number_again (column r 2) x.number shows.number_is (omega (arith, nought)))
      said (nought, refl) (ap (option_map (λ (z : Service). z.groups)) t.1) none few p
    where
      own_group : (name : List ℕ) (n : ℕ) (u : Service) (z : GroupRecord) → n ≡ 0 → service h name ≡ Some u
          → HasGroup h (owned_row name n z) → group_in u.groups z.name ≡ Some z
      own_group name n u z none f (of_service also v g w) =
          ap (λ (y : Service). group_in y.groups z.name) (some_is u v (sym f ∙ g)) ∙ w
      own_group name n u z none f (of_instance above v g d w) = absurd (omega (arith, above, none))
  step_by done r k here within fresh p x (of_instance above e f d m) shows =
      let i = e.instance in
      let at : instance h x.number ≡ Some i = lookup_bare h.instances x.number
      ∙ ap (option_map (λ (z : InstanceEntry). z.instance)) f in
      let t = instance_held version h rows a sole c k p.instances x.number i at in
      let owner : Owner = owners.Instance x.number in
      let named = service_named i.name (c.instances x.number i at).named.reads in
      let of : (z : GroupRecord) → group_in t.0.groups z.name ≡ Some z → HasGroup k (owned_row x.service x.number z) =
      λ z g. of_instance above t.0 t.1 (d ∙ ap (λ (y : Instance). short ++ service_of y.name) (sym t.2)) g in
      let held : (z : GroupRecord) → HasGroup h (owned_row x.service x.number z) → group_in e.groups z.name ≡ Some z =
      λ z g. its_group x.service x.number e z above f g in
      let none = unnamed done r k here within fresh p x shows t.0.groups of in
      let few = room done k within p x.service x.number x.group t.0.groups e.groups
      (p.arranged.instance_groups x.number t.0 t.1) of held (of_instance above e f d m) none
      (c.groups x.number e f).few in
      let found : instance k x.number ≡ Some i = lookup_bare k.instances x.number
      ∙ ap (option_map (λ (z : InstanceEntry). z.instance)) t.1 ∙ ap Some t.2 in
      let same : pointwise nat_eq (short ++ service_of i.name) x.service ≡ true =
      (same_text (short ++ service_of i.name) x.service).1 (sym d) in
      let other : (x.number == 0) ≡ false = ne_eqb x.number 0 (λ nought. omega (arith, above, nought)) in
      let said : owner_said k x.service x.number ≡ Some owner = rw (other, found, same) refl in
      put_one done r k x owner t.0.groups shows
      (low_again (column r 1) x.service shows.service_is
      (low_name x.service (subst (λ n. name_of_text n ≡ Ok n) (sym d) named.reads)))
      (number_again (column r 2) x.number shows.number_is (number_low version h rows a sole c x.number i at))
      said (refl, above, record { found = i; there = found; service_is = d })
      (ap (option_map (λ (z : InstanceEntry). z.groups)) t.1) none few p
    where
      its_group : (name : List ℕ) (n : ℕ) (u : InstanceEntry) (z : GroupRecord) → 0 < n
          → lookup by_entry h.instances n ≡ Some u → HasGroup h (owned_row name n z) → group_in u.groups z.name ≡ Some z
      its_group name n u z some g (of_service nought v w y) = absurd (omega (arith, some, nought))
      its_group name n u z some g (of_instance also v w b y) =
          ap (λ (q : InstanceEntry). group_in q.groups z.name) (some_is u v (sym g ∙ w)) ∙ y

  pub groups_taken : (k : Holdings) → AreRead (with_instances version h rows a sole c rows.instances.items) k
      → (next : Holdings) × (add_all add_group k rows.groups.items ≡ Some next)
      × AreRead (with_groups version h rows a sole c rows.groups.items) next
  groups_taken k p =
      in_turn add_group rows.groups.items Read
      (λ done r z here within fresh q. let x = a.groups.only r here in
      step_by done r z here within fresh q x.0 x.1 x.2) k sole.groups_apart p
