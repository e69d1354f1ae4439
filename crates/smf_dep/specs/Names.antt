-- Instances by their names, and by the names of their services.
use Rattle.std.specs.Prelude.{◌≡◌, ℕ, ◌+◌, List, [], ◌∷◌, if◌then◌else◌, Vec, String}
use Rattle.std.specs.Option.{option_map_or}
use Rattle.std.specs.Str.{bytes_eq}
use Rattle.smf_fmri.specs.Patterns.{service_of}
use Rattle.std.specs.HashMap.{HashMap, get_by_text}
use Rattle.smf_dep.specs.declared.member.GraphMember.{GraphMember}
use Rattle.smf_dep.specs.declared.names.NameIndex.{NameIndex}

-- the places that a name has in a map
abbrev pub found_at : {Y S : Type 0} → HashMap (String Y) (Vec ℕ Y) S → List ℕ → List ℕ
found_at m q = option_map_or (λ v. v.items) (get_by_text m q) []

abbrev pub instance_name : GraphMember → List ℕ
instance_name m = m.name

abbrev pub service_name : GraphMember → List ℕ
service_name m = service_of m.name

-- the places, counted from at, of the instances that have the name
abbrev pub named_from : (GraphMember → List ℕ) → ℕ → List ℕ → List GraphMember → List ℕ
named_from name at q [] = []
named_from name at q (m ∷ ms) = if bytes_eq q (name m) then at ∷ named_from name (at + 1) q ms
    else named_from name (at + 1) q ms

-- a map has at each name the places of the instances with that name
abbrev pub AreAt : {Y S : Type 0} → (GraphMember → List ℕ) → HashMap (String Y) (Vec ℕ Y) S → List GraphMember
    → Type 0
AreAt name m ms = (q : List ℕ) → found_at m q ≡ named_from name 0 q ms

-- the same of both maps of an index
abbrev pub AreIndexed : NameIndex → List GraphMember → Type 0
AreIndexed i ms = AreAt instance_name i.instances ms × AreAt service_name i.services ms
