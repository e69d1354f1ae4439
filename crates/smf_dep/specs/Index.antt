-- Instances by their names and services, and the members that name them.
use Rattle.std.specs.Prelude.{◌≡◌, ℕ, ◌+◌, List, [], ◌∷◌, Bool, true, false, not, ◌&&◌, if◌then◌else◌, Option, Some, None, is_some, slice_get, Vec, String}
use Rattle.std.specs.HashMap.{HashMap}
use Rattle.std.specs.List.{list_any}
use Rattle.std.specs.Option.{option_map_or}
use Rattle.std.specs.Str.{bytes_eq}
use Rattle.smf_fmri.specs.ByKey.{lookup}
use Rattle.smf_fmri.specs.Patterns.{instance_of, service_of}
use Rattle.smf_links.specs.Blockage.{IsOut}
use Rattle.smf_dep.specs.declared.dependency.Dependency.{Dependency}
use Rattle.smf_dep.specs.declared.index.Citers.{Citers}
use Rattle.smf_dep.specs.declared.index.GraphIndex.{GraphIndex}
use Rattle.smf_dep.specs.declared.member.GraphMember.{GraphMember}
use Rattle.smf_dep.specs.Departures.{by_itself}
use Rattle.smf_dep.specs.Names.{AreIndexed, found_at}
use Rattle.smf_dep.specs.Updates.{is_naming}

-- ---- members that name instances

-- an entity is this name of an instance, or it stands for this service
abbrev pub is_for : List ℕ → Bool → List ℕ → Bool
is_for e true q = is_some (instance_of e) && bytes_eq q e
is_for e false q = not (is_some (instance_of e)) && bytes_eq q (service_of e)

-- one of several is so
abbrev pub any_for : {X : Type 0} → (X → Bool → List ℕ → Bool) → List X → Bool → List ℕ → Bool
any_for f xs is_instance q = list_any (λ x. f x is_instance q) xs

-- an entity of a group is so
abbrev pub group_names : Dependency → Bool → List ℕ → Bool
group_names d = any_for is_for d.entities

-- a group of a member has an entity for the instance of this name, or for this service
abbrev pub member_names : GraphMember → Bool → List ℕ → Bool
member_names m is_instance q = option_map_or (λ ds. any_for group_names ds is_instance q) m.dependencies false

-- ---- the places of members at what they name

-- the places that stand at the name of an instance, or at a service
abbrev pub citers_at : Citers → Bool → List ℕ → List ℕ
citers_at c true q = found_at c.instances q
citers_at c false q = found_at c.services q

-- a member whose place does not stand there does not name it
abbrev pub AreCiters : Citers → List GraphMember → Type 0
AreCiters c ms = (is_instance : Bool) (q : List ℕ) (a : ℕ) (m : GraphMember) → slice_get ms a ≡ Some m
    → IsOut a (citers_at c is_instance q) → member_names m is_instance q ≡ false

pub record IsIndex (i : GraphIndex) (ms : List GraphMember) : Type 0 where
  pub names : AreIndexed i.names ms
  pub citers : AreCiters i.citers ms

-- an index is right for these members, if there is one
abbrev pub IsKeptIndex : Option GraphIndex → List GraphMember → Type 0
IsKeptIndex None ms = Unit
IsKeptIndex (Some i) ms = IsIndex i ms

-- no place goes, and this one stands at the name
pub record NotesAt {Y S : Type 0} (name : List ℕ) (at : ℕ) (old new : HashMap (String Y) (Vec ℕ Y) S) : Type 0 where
  pub stays : (q : List ℕ) (a : ℕ) → IsOut a (found_at new q) → IsOut a (found_at old q)
  pub notes : (q : List ℕ) → IsOut at (found_at new q) → bytes_eq q name ≡ false

-- no place goes, and this one stands at each name for which the test holds
pub record Notes (test : Bool → List ℕ → Bool) (at : ℕ) (old new : Citers) : Type 0 where
  pub stays : (is_instance : Bool) (q : List ℕ) (a : ℕ) → IsOut a (citers_at new is_instance q)
      → IsOut a (citers_at old is_instance q)
  pub notes : (is_instance : Bool) (q : List ℕ) → IsOut at (citers_at new is_instance q) → test is_instance q ≡ false

-- ---- the members that name those that come

-- the places, counted from at, of the members that name one of these
abbrev pub naming_from : List GraphMember → ℕ → List GraphMember → List ℕ
naming_from arrivals at [] = []
naming_from arrivals at (x ∷ xs) =
    if is_naming arrivals x then at ∷ naming_from arrivals (at + 1) xs else naming_from arrivals (at + 1) xs

-- the member at a place names one of these
abbrev pub is_naming_at : List GraphMember → List GraphMember → ℕ → Bool
is_naming_at arrivals ms a = option_map_or (is_naming arrivals) (slice_get ms a) false

-- a place does not stand at the name of an instance, nor at its service
abbrev pub IsMissed : Citers → ℕ → GraphMember → Type 0
IsMissed c a m = IsOut a (citers_at c true m.name) × IsOut a (citers_at c false (service_of m.name))

-- nor at those of others
abbrev pub AreMissed : Citers → ℕ → List GraphMember → Type 0
AreMissed c a [] = Unit
AreMissed c a (m ∷ ms) = IsMissed c a m × AreMissed c a ms

-- the test holds of each of these places
abbrev pub AreSound : (ℕ → Bool) → List ℕ → Type 0
AreSound test places = (a n : ℕ) → lookup by_itself places a ≡ Some n → test a ≡ true

-- Some places were put in order, and the test holds of each. A place for which it holds is there, or it was left out.
pub record Finds (IsLeft : ℕ → Type 0) (test : ℕ → Bool) (old new : List ℕ) : Type 0 where
  pub sound : AreSound test old → AreSound test new
  pub stays : (a : ℕ) → lookup by_itself new a ≡ None → lookup by_itself old a ≡ None
  pub finds : (a : ℕ) → test a ≡ true → lookup by_itself new a ≡ None → IsLeft a
