-- The hints of the instances of a view, as a text.
use Rattle.std.specs.Prelude.{ℕ, List, [], ◌++◌, ◌==◌, flat_map, if◌then◌else◌, length}
use Rattle.smf_dep.specs.declared.member.GraphMember.{GraphMember}
use Rattle.smf_reasons.specs.Exclusions.{clash_hints}
use Rattle.smf_reasons.specs.Hints.{group_hints, program_list}
use Rattle.smf_reasons.specs.Texts.{line_end}

-- a name and its lines, with an empty line after them; nothing without lines
abbrev pub hint_block : List ℕ → List ℕ → List ℕ
hint_block name lines = if length lines == 0 then [] else name ++ line_end ++ lines ++ line_end

-- those of an instance, in the order of its groups, and then those of the instances that it and they exclude
unfoldable pub member_hints : List (List ℕ) → List GraphMember → GraphMember → List ℕ
member_hints missing ms m = hint_block m.name (flat_map (group_hints missing) m.composed ++ clash_hints ms m)

-- the hints of all, if these programs are missing
abbrev pub hint_text : List (List ℕ) → List GraphMember → List ℕ
hint_text missing ms = flat_map (member_hints missing ms) ms

-- the programs of all methods
unfoldable pub member_programs : GraphMember → List (List ℕ)
member_programs m = flat_map program_list m.composed

abbrev pub programs_of : List GraphMember → List (List ℕ)
programs_of ms = flat_map member_programs ms
