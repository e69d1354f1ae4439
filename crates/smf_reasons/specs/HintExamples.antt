-- Which hints are told: one example for each kind, with one that has none.
use Rattle.std.specs.Prelude.{◌≡◌, ℕ, List, [], ◌∷◌, ◌++◌, Bool, true, false, codes, Some, None}
use Rattle.smf_state.specs.declared.state.State.TheVariants.{Offline}
use Rattle.smf_links.specs.declared.grouping.Grouping.TheVariants.{ExcludeAll}
use Rattle.smf_links.specs.declared.grouping.RestartOn.TheVariants.{Nothing}
use Rattle.smf_dep.specs.declared.dependency.Dependency.{Dependency}
use Rattle.smf_dep.specs.declared.member.GraphMember.{GraphMember}
use Rattle.smf_reasons.specs.Exclusions.{clash_hint}
use Rattle.smf_value.specs.declared.kind.Kind.TheVariants as kinds
use Rattle.smf_value.specs.declared.value.Value.TheVariants as values
use Rattle.smf_value.specs.Groups.{GroupRecord, PropertyRecord, group_with}
use Rattle.smf_reasons.specs.Texts.{line_end}
use Rattle.smf_reasons.specs.Hints.{program_hint, program_of, property_hints, signal_hint, type_hint_by}

abbrev pub a_text : List ℕ → List ℕ → PropertyRecord
a_text name text = record { name = name; kind = kinds.Astring; values = values.Astring text ∷ [] }

abbrev pub a_method : List ℕ → List ℕ → GroupRecord
a_method name exec = group_with name (codes "method") false (a_text (codes "exec") exec ∷ [])

abbrev pub mistyped : GroupRecord
mistyped = group_with (codes "start") (codes "metod") false []

abbrev pub TypesAreTold : Type 0
TypesAreTold = type_hint_by mistyped (Some (codes "method"))
    ≡ (codes "Hint: Group start has the type metod, which means nothing. Is it method?" ++ line_end)

-- a property of a group that smf reads, and not one of another group
abbrev pub PropertiesAreTold : Type 0
PropertiesAreTold =
    (property_hints (group_with (codes "start") (codes "method") false (a_text (codes "exce") (codes "web") ∷ []))
    ≡ (codes "Hint: Property start/exce is read by nothing." ++ line_end))
    × (property_hints (group_with (codes "tuning") (codes "site") false (a_text (codes "exce") (codes "web") ∷ [])) ≡ [])

-- a signal that there is not; SIG may stand in front of one, and it may be a number
abbrev pub SignalsAreTold : Type 0
SignalsAreTold =
    (signal_hint (a_method (codes "stop") (codes ":kill -QIT"))
    ≡ (codes "Hint: Signal QIT of method stop does not exist, so TERM is sent." ++ line_end))
    × (signal_hint (a_method (codes "stop") (codes ":kill -SIGQUIT")) ≡ [])
    × (signal_hint (a_method (codes "stop") (codes ":kill -64")) ≡ [])
    × (signal_hint (a_method (codes "refresh") (codes ":kill -QIT")) ≡ [])

-- a path ends at a blank, and may stand behind `exec`; a word with another byte is none
abbrev pub ProgramsAreFound : Type 0
ProgramsAreFound =
    (program_of (a_method (codes "start") (codes "/bin/web -d")) ≡ Some (codes "/bin/web"))
    × (program_of (a_method (codes "stop") (codes "exec /bin/web")) ≡ Some (codes "/bin/web"))
    × (program_of (a_method (codes "start") (codes "/bin/$WEB")) ≡ None)
    × (program_of (a_method (codes "start") (codes "web -d")) ≡ None)

-- a program that is missing, and one that is not
abbrev pub ProgramsAreTold : Type 0
ProgramsAreTold =
    (program_hint (codes "/bin/web" ∷ []) (a_method (codes "start") (codes "exec /bin/web"))
    ≡ (codes "Hint: Program /bin/web of method start is not there." ++ line_end))
    × (program_hint [] (a_method (codes "start") (codes "exec /bin/web")) ≡ [])

-- two instances that exclude each other, of which both are enabled, or one
abbrev pub an_instance : List ℕ → Bool → List ℕ → GraphMember
an_instance name enabled excluded =
    record {
      instance = 0;
      name = name;
      enabled = enabled;
      state = Offline;
      next = None;
      base = 0;
      err = 0;
      stop = 0;
      refresh = 0;
      start = 0;
      composed = [];
      dependencies = Some (record { grouping = ExcludeAll; restart_on = Nothing; entities = excluded ∷ [] } ∷ []);
    }

abbrev pub ExclusionsAreTold : Type 0
ExclusionsAreTold =
    (clash_hint (an_instance (codes "svc:/a:x") true (codes "svc:/b:x")) (an_instance (codes "svc:/b:x") true (codes "svc:/a:x"))
    ≡ (codes "Hint: It and svc:/b:x exclude each other, and both are enabled: each waits for the other." ++ line_end))
    × (clash_hint (an_instance (codes "svc:/a:x") true (codes "svc:/b:x")) (an_instance (codes "svc:/b:x") false (codes "svc:/a:x"))
    ≡ [])
