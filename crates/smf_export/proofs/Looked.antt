-- What holds of every item of a list, and of every name.
use Rattle.std.proofs.Common.{◌≡◌, ℕ, List, [], ◌∷◌, drop, Bool, true, false, Option, Some, None, refl, sym, subst, ◌∙◌, ap}
use Rattle.std.specs.Prelude.{◌↔◌, ◌&&◌, IfOk, IsTrue, Result, Ok, Err}
use Rattle.std.specs.List.{AllByRecursion as Every, list_all}
use Rattle.std.proofs.lemmas.Bool.Decides.{Decides-eqb}
use Rattle.smf_fmri.specs.ByKey.{lookup}
use Rattle.smf_fmri.proofs.SameLists.{found_every, found_key}
use Rattle.smf_model.specs.declared.held.Instance.{Instance}
use Rattle.smf_model.specs.declared.held.InstanceName.{InstanceName}
use Rattle.smf_model.specs.declared.held.Service.{Service}
use Rattle.smf_model.specs.Contents.{Holdings}
use Rattle.smf_model.specs.Look.{by_name, by_service, instance_at, instance_by_name}
use Rattle.smf_export.specs.Configured.{Compared, HoldSame, SameInstance, SameService, meant}
use Rattle.smf_export.specs.Turns.{KeepsInstances, are_kept, has_same_number}

-- ---- a loop over a list

-- all items are so exactly if those from a place on are
abbrev pub IsUpTo : {X : Type 0} → (X → Type 0) → List X → ℕ → Type 0
IsUpTo P xs i = Every P xs ↔ Every P (drop i xs)

-- ---- names that are in one of two lists, or in none

service_by : (c : Compared) (name : List ℕ) (a b : Option Service) → lookup by_service c.one.services name ≡ a
    → lookup by_service c.other.services name ≡ b → Every (λ s. SameService c s.name) c.one.services
    → Every (λ s. SameService c s.name) c.other.services → SameService c name
service_by c name (Some s) b e f one other =
    subst (SameService c) (found_key by_service name c.one.services s e)
    (found_every by_service (λ s. SameService c s.name) name c.one.services s one e)
service_by c name None (Some s) e f one other =
    subst (SameService c) (found_key by_service name c.other.services s f)
    (found_every by_service (λ s. SameService c s.name) name c.other.services s other f)
service_by c name None None e f one other = λ t. rw (e, f) tt

-- a service that neither has is the same in both
pub same_service : (c : Compared) → Every (λ s. SameService c s.name) c.one.services
    → Every (λ s. SameService c s.name) c.other.services → (name : List ℕ) → SameService c name
same_service c one other name =
    service_by c name (lookup by_service c.one.services name) (lookup by_service c.other.services name) refl refl
    one other

pub services_of : (c : Compared) → ((name : List ℕ) → SameService c name) → (ss : List Service)
    → Every (λ s. SameService c s.name) ss
services_of c all [] = tt
services_of c all (s ∷ ss) = (all s.name, services_of c all ss)

instance_by : (c : Compared) (name : List ℕ) (a b : Option InstanceName) → lookup by_name c.one.names name ≡ a
    → lookup by_name c.other.names name ≡ b → Every (λ e. SameInstance c e.name) c.one.names
    → Every (λ e. SameInstance c e.name) c.other.names → SameInstance c name
instance_by c name (Some s) b e f one other =
    subst (SameInstance c) (found_key by_name name c.one.names s e)
    (found_every by_name (λ e. SameInstance c e.name) name c.one.names s one e)
instance_by c name None (Some s) e f one other =
    subst (SameInstance c) (found_key by_name name c.other.names s f)
    (found_every by_name (λ e. SameInstance c e.name) name c.other.names s other f)
instance_by c name None None e f one other = λ t. rw (e, f) tt

pub same_instance : (c : Compared) → Every (λ e. SameInstance c e.name) c.one.names
    → Every (λ e. SameInstance c e.name) c.other.names → (name : List ℕ) → SameInstance c name
same_instance c one other name =
    instance_by c name (lookup by_name c.one.names name) (lookup by_name c.other.names name) refl refl one other

pub instances_of : (c : Compared) → ((name : List ℕ) → SameInstance c name) → (es : List InstanceName)
    → Every (λ e. SameInstance c e.name) es
instances_of c all [] = tt
instances_of c all (e ∷ es) = (all e.name, instances_of c all es)

-- ---- numbers of instances

passes : {X : Type 0} (p : X → Bool) (x : X) (xs : List X) (b : Bool) → p x ≡ b → (b && list_all p xs) ≡ true
    → (list_all p xs ≡ true → Every (λ y. p y ≡ true) xs) → Every (λ y. p y ≡ true) (x ∷ xs)
passes p x xs true e all behind = (e, behind all)
passes p x xs false e all behind = absurd cc

every_passes : {X : Type 0} (p : X → Bool) (xs : List X) → list_all p xs ≡ true → Every (λ y. p y ≡ true) xs
every_passes p [] all = tt
every_passes p (x ∷ xs) all = passes p x xs (p x) refl all (every_passes p xs)

same_at : (a b : Option Instance) (i j : Instance) → a ≡ Some i → b ≡ Some j → has_same_number a b ≡ true
    → i.number ≡ j.number
same_at a b i j e f h =
    let same : has_same_number (Some i) (Some j) ≡ true = rw (e, f) at h in (Decides-eqb i.number j.number).0 same

number_by : (before after : Holdings) (name : List ℕ) (i j : Instance) (a : Option InstanceName)
    → lookup by_name before.names name ≡ a
    → Every (λ e. has_same_number (instance_by_name before e.name) (instance_by_name after e.name) ≡ true) before.names
    → instance_by_name before name ≡ Some i → instance_by_name after name ≡ Some j → i.number ≡ j.number
number_by before after name i j (Some entry) e all f g =
    let P : List ℕ → Type 0 = λ n. has_same_number (instance_by_name before n) (instance_by_name after n) ≡ true in
    let there : P entry.name = found_every by_name (λ e. P e.name) name before.names entry all e in
    same_at _ _ i j f g (subst P (found_key by_name name before.names entry e) there)
number_by before after name i j None e all f g =
    let none : None ≡ Some i = sym (ap (instance_at before) e) ∙ f in absurd cc

pub keeps_instances : (before after : Holdings) → are_kept before after before.names ≡ true
    → KeepsInstances before after
keeps_instances before after kept name i j f g =
    number_by before after name i j (lookup by_name before.names name) refl
    (every_passes (λ e. has_same_number (instance_by_name before e.name) (instance_by_name after e.name)) before.names
    kept) f g

pub kept_by : (before after : Holdings) (names : List InstanceName) → names ≡ before.names
    → are_kept before after names ≡ true → KeepsInstances before after
kept_by before after names e kept = keeps_instances before after (sym (ap (are_kept before after) e) ∙ kept)

-- ---- the whole

pub whole : (c : Compared) → ((name : List ℕ) → SameService c name) → ((name : List ℕ) → SameInstance c name)
    → HoldSame c.extent (meant c) c.one c.other
whole c services instances = record { services = services; instances = instances }

pub both_services : {E : Type 0} (c : Compared) (one other : List Service) (b : Bool) (r : Result Bool E) → b ≡ true
    → one ≡ c.one.services → other ≡ c.other.services → IsTrue b ↔ Every (λ s. SameService c s.name) one
    → IfOk r (λ d. IsTrue d ↔ Every (λ s. SameService c s.name) other)
    → IfOk r (λ d. IsTrue d ↔ ((name : List ℕ) → SameService c name))
both_services c one other b (Ok d) t e f first second = (
  λ u. same_service c (subst (Every (λ s. SameService c s.name)) e (first.0 t))
      (subst (Every (λ s. SameService c s.name)) f (second.0 u)),
  λ all. second.1 (services_of c all other),
)
both_services c one other b (Err fault) t e f first second = tt

pub both_instances : {E : Type 0} (c : Compared) (one other : List InstanceName) (b : Bool) (r : Result Bool E)
    → b ≡ true → one ≡ c.one.names → other ≡ c.other.names → IsTrue b ↔ Every (λ e. SameInstance c e.name) one
    → IfOk r (λ d. IsTrue d ↔ Every (λ e. SameInstance c e.name) other)
    → IfOk r (λ d. IsTrue d ↔ ((name : List ℕ) → SameInstance c name))
both_instances c one other b (Ok d) t e f first second = (
  λ u. same_instance c (subst (Every (λ e. SameInstance c e.name)) e (first.0 t))
      (subst (Every (λ e. SameInstance c e.name)) f (second.0 u)),
  λ all. second.1 (instances_of c all other),
)
both_instances c one other b (Err fault) t e f first second = tt

pub not_services : (c : Compared) (b : Bool) → b ≡ false → IsTrue b ↔ ((name : List ℕ) → SameService c name)
    → IsTrue false ↔ HoldSame c.extent (meant c) c.one c.other
not_services c b e services = (λ t. absurd cc, λ h. sym e ∙ services.1 h.services)

pub both_parts : {E : Type 0} (c : Compared) (b : Bool) (r : Result Bool E) → b ≡ true
    → IsTrue b ↔ ((name : List ℕ) → SameService c name)
    → IfOk r (λ d. IsTrue d ↔ ((name : List ℕ) → SameInstance c name))
    → IfOk r (λ d. IsTrue d ↔ HoldSame c.extent (meant c) c.one c.other)
both_parts c b (Ok d) t services instances =
    (λ u. whole c (services.0 t) (instances.0 u), λ h. instances.1 h.instances)
both_parts c b (Err fault) t services instances = tt
