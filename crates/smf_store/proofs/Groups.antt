-- The groups and the launches that are read.
use Rattle.std.proofs.Common.{◌≡◌, ◌<◌, ℕ, pos, List, [], ◌∷◌, ◌++◌, ◌||◌, Bool, true, false, cond, find, Option, Some, None, option_map, refl, sym, ap, subst, ◌∙◌}
use Rattle.std.specs.List.{list_any}
use Rattle.sqlite.specs.declared.types.Value.TheVariants.{Int, Text}
use Rattle.sqlite.specs.Order.{Row, column}
use Rattle.smf_fmri.specs.ByKey.{lookup, list_with_item}
use Rattle.smf_fmri.specs.Patterns.{service_of}
use Rattle.smf_fmri.specs.Name.{short}
use Rattle.smf_fmri.proofs.SameLists.{found_key}
use Rattle.smf_value.specs.Groups.{GroupRecord, by_group}
use Rattle.smf_model.specs.declared.change.Change.TheVariants.{PutGroups}
use Rattle.smf_model.specs.declared.held.Instance.{Instance}
use Rattle.smf_model.specs.declared.held.InstanceEntry.{InstanceEntry}
use Rattle.smf_model.specs.declared.held.Owner.{Owner}
use Rattle.smf_model.specs.declared.held.Owner.TheVariants as owners
use Rattle.smf_model.specs.declared.held.Service.{Service}
use Rattle.smf_model.specs.Contents.{Holdings}
use Rattle.smf_model.specs.Look.{by_entry, holdings_after_change, group_in, service}
use Rattle.smf_model.proofs.Entries.{lookup_bare}
use Rattle.smf_store.specs.Cells.{IsOfService, IsOwnerUnder, PutsGroup, ShowsBody}
use Rattle.smf_store.specs.Gathered.{AreRead, AddsGroupOf}
use Rattle.smf_store.specs.Shown.{ShowsGroup}
use Rattle.smf_store.specs.Steps.{owned_by}
use Rattle.smf_store.proofs.Gathers.{reads_service_group, reads_instance_group}
use Rattle.smf_store.proofs.Makes.{some_is}

mapped : {X Y : Type 0} (f : X → Y) (o : Option X) (y : Y) → option_map f o ≡ Some y
    → (x : X) × (o ≡ Some x) × (f x ≡ y)
mapped f None y e = absurd (let clash : None ≡ Some y = e in cc)
mapped f (Some x) y e = (x, refl, some_is (f x) y e)

shows_group : (g : GroupRecord) (r : Row) (name : List ℕ) (n : ℕ) → ShowsBody g r → column r 1 ≡ Text name
    → column r 2 ≡ Int (pos n) → ShowsGroup (owned_by name n g) r
shows_group g r name n body service number =
    record {
      formed = body.formed;
      service_is = service;
      number_is = number;
      name_is = body.name_is;
      body_is = body.body_is;
    }

pub puts_service : (k h : Holdings) (name : List ℕ) (g : GroupRecord) (r : Row)
    → PutsGroup (owners.Service name) g k h → ShowsBody g r → column r 1 ≡ Text name → column r 2 ≡ Int (pos 0)
    → AddsGroupOf r k h
puts_service k h name g r p body service_is own rows a =
    let s = mapped (λ (z : Service). z.groups) (service k name) p.groups p.there in
    let made : h ≡ holdings_after_change k (PutGroups (owners.Service name) (list_with_item by_group g s.0.groups)) =
    p.made ∙ ap (λ gs. holdings_after_change k (PutGroups (owners.Service name) (list_with_item by_group g gs)))
    (sym s.2) in
    subst (AreRead (record rows { groups = rows.groups ++ r ∷ [] })) (sym made)
    (reads_service_group k name s.0 s.1 g (ap (λ gs. group_in gs g.name) s.2 ∙ p.none) r
    (shows_group g r name 0 body service_is own) rows a)

pub puts_instance : (k h : Holdings) (n : ℕ) (front : List ℕ) (g : GroupRecord) (r : Row) → 0 < n
    → PutsGroup (owners.Instance n) g k h → IsOfService k n front → ShowsBody g r → column r 1 ≡ Text front
    → column r 2 ≡ Int (pos n) → AddsGroupOf r k h
puts_instance k h n front g r above p of body service_is own rows a =
    let e = mapped (λ (z : InstanceEntry). z.groups) (lookup by_entry k.instances n) p.groups p.there in
    let same : e.0.instance ≡ of.found =
    some_is e.0.instance of.found
    (sym (lookup_bare k.instances n ∙ ap (option_map (λ (z : InstanceEntry). z.instance)) e.1) ∙ of.there) in
    let named : front ≡ short ++ service_of e.0.instance.name =
    of.service_is ∙ ap (λ (z : Instance). short ++ service_of z.name) (sym same) in
    let number : e.0.instance.number ≡ n = found_key by_entry n k.instances e.0 e.1 in
    let row = a.instances.there e.0.instance (e.0, ap (lookup by_entry k.instances) number ∙ e.1, refl) in
    let split = row.2.split in
    let joined : e.0.instance.name ≡ front ++ 58 ∷ row.2.name =
    split.joined ∙ ap (λ z. z ++ 58 ∷ row.2.name) (split.service ∙ sym named) in
    let made : h ≡ holdings_after_change k (PutGroups (owners.Instance n) (list_with_item by_group g e.0.groups)) =
    p.made ∙ ap (λ gs. holdings_after_change k (PutGroups (owners.Instance n) (list_with_item by_group g gs)))
    (sym e.2) in
    subst (AreRead (record rows { groups = rows.groups ++ r ∷ [] })) (sym made)
    (reads_instance_group k n above e.0 e.1 g (ap (λ gs. group_in gs g.name) e.2 ∙ p.none) front row.2.name named
    joined r (shows_group g r front n body service_is own) rows a)

pub puts_group : (k h : Holdings) (text : List ℕ) (number : ℕ) (owner : Owner) (g : GroupRecord) (r : Row)
    → IsOwnerUnder k text number owner → PutsGroup owner g k h → ShowsBody g r → column r 1 ≡ Text text
    → column r 2 ≡ Int (pos number) → AddsGroupOf r k h
puts_group k h text number (owners.Service name) g r owns p body service own =
    puts_service k h name g r p body (service ∙ ap Text (sym owns.1)) (own ∙ ap (λ z. Int (pos z)) owns.0)
puts_group k h text number (owners.Instance n) g r owns p body service own =
    puts_instance k h n text g r (subst (λ z. 0 < z) (sym owns.0) owns.1) p
    (subst (λ z. IsOfService k z text) (sym owns.0) owns.2) body service (own ∙ ap (λ z. Int (pos z)) (sym owns.0))

none_by : {X : Type 0} (b : Bool) (x : X) (any : Bool) (o : Option X) → (b || any) ≡ false → (any ≡ false → o ≡ None)
    → cond b (Some x) o ≡ None
none_by true x any o e later = absurd cc
none_by false x any o e later = later e

-- if no item passes, none is found
pub none_found : {X : Type 0} (p : X → Bool) (xs : List X) → list_any p xs ≡ false → find p xs ≡ None
none_found p [] e = refl
none_found p (x ∷ xs) e = none_by (p x) x (list_any p xs) (find p xs) e (none_found p xs)
